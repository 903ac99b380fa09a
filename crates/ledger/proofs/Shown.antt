-- Runs that show what Holds is worth: a total that has one cycle too many, and six stretches of one chain that miss one in all.
-- That a total can miss one is shown of a whole trace (zero_total in demands/specs/Shown.antt); that 2^32 - 1 cycles measure 0 is
-- one of 01's numbers (case11 in demands/specs/Numbers.antt).
use Prim.Native.Nat.{ℕ}
use mathlib.Core.Path.{◌≡◌, refl}
use mathlib.Core.List.{[], ◌∷◌}
use native.Mathlib.Omega.{arith}
use Rattle.usage.specs.Leaves.{enabled, accumulated}
use Rattle.books.specs.declared.Operation.{Operation}
use Rattle.books.specs.declared.Operation.TheVariants as O
use Rattle.books.specs.Entries.{charged, onward, close_of, stop_of, switch_of, altered, reopen_of, alter_of, enter_of}
use Rattle.books.specs.Running.{is_running, stamp_of, unrecorded, past, busy, concerned}
use Rattle.ledger.specs.Operate.{stored_in, operate_of}
use Rattle.ledger.specs.Records.{thread_record}
use Rattle.ledger.specs.Sums.{true_cycles, sum_of, ChainShort}
use Rattle.ledger.specs.Threads.{closes_now, begins, open_after, tracked_after}
use Rattle.ledger.proofs.Run.{World, Event, begin, step, after}

abbrev at : ℕ → Operation → Event
at time operation = record { operation = operation; time = time }

-- start 0; switch to 1; enable it; switch to the same thread; disable and enable it; stop
abbrev six : World
six = after (at 0 (O.Start 0) ∷ at 3 (O.Switch 1) ∷ at 5 (O.Enable 1) ∷ at 7 (O.Switch 1) ∷ at 8 (O.Disable 1) ∷ at 9 (O.Enable 1) ∷ at 14 O.Stop ∷ []) (begin 2)

-- enable 0; start 0 at 9 cycles before 2^32; stop at 2^32
abbrev late : World
late = after (at 0 (O.Enable 0) ∷ at 4294967287 (O.Start 0) ∷ at 4294967296 O.Stop ∷ []) (begin 2)

record SumsShown : Type 0 where
  -- measured 10, true 9, and it ends on a multiple of 2^32
  one_too_many : ((thread_record late.ledger 0).total_cycles.0 ≡ 10) × (sum_of true_cycles 0 late.threads.closed ≡ 9) × (late.answered ≡ 10)
  -- six stretches from one start to its stop, and still one cycle missed in all
  long_chain : (six.answered ≡ 13) × (six.threads.last ≡ 14) × (six.ledger.books.total.0 ≡ 13)
  long_chain_short : ChainShort six.threads.last six.threads.times
  -- thread 1 was tracked from 5 to 8 and from 9 to 14, and has two windows
  tracked_only : ((thread_record six.ledger 1).total_cycles.0 ≡ 8) × (sum_of true_cycles 1 six.threads.closed ≡ 8) × ((thread_record six.ledger 1).num_windows ≡ 2)

shown : SumsShown
unfolding enabled accumulated stamp_of is_running charged onward close_of stop_of switch_of altered reopen_of alter_of enter_of unrecorded past busy concerned stored_in operate_of sum_of closes_now begins open_after tracked_after step after
shown = record {
  one_too_many = (refl, refl, refl);
  long_chain = (refl, refl, refl);
  long_chain_short = omega arith;
  tracked_only = (refl, refl, refl);
}
