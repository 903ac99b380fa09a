-- A change made in place answers the number that it has by value.
use Rattle.std.specs.Prelude.{Result, Ok, Err}
use mathlib.Core.Path.{◌≡◌, refl}
use Rattle.error.specs.declared.Refusal.{Refusal}
use Rattle.error.specs.Said.{number_in}
use Rattle.usage.specs.declared.ThreadUsage.{ThreadUsage}
use Rattle.usage.specs.Says.{done}

pub number_done : (answer : Result ThreadUsage Refusal) → number_in (done answer) ≡ number_in answer
unfolding number_in done
number_done (Ok u) = refl
number_done (Err why) = refl
