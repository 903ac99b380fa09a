-- 01's table of numbers holds, by computation.
use mathlib.Core.Path.{refl}
use Rattle.systick.specs.Leaves.{elapsed_cycles, ticks_to_cycles, max_ticks, elapsed_decide, announce_decide}
use Rattle.usage.specs.Leaves.{accumulated}
use Rattle.books.specs.Running.{stamp_of}
use Rattle.demands.specs.Numbers.{Numbers}

pub numbers : Numbers
unfolding elapsed_cycles ticks_to_cycles max_ticks elapsed_decide announce_decide accumulated stamp_of
numbers = record {
  case1 = refl;
  case2 = refl;
  case3 = (refl, refl);
  case4 = refl;
  case5 = refl;
  case6 = (refl, refl);
  case7 = (refl, refl, refl);
  case8 = (refl, refl);
  case9 = (refl, refl);
  case10 = refl;
  case11 = (refl, refl);
  case12 = (refl, refl);
}
