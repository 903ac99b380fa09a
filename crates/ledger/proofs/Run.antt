-- Runs of a ledger from a fresh one: operations at true times, refused ones included.
use Rattle.std.specs.Prelude.{Result, Ok, Err}
use Prim.Native.Nat.{ℕ, ◌+◌}
use mathlib.Core.Bool.{cond}
use mathlib.Core.List.{List, [], ◌∷◌}
use Rattle.books.specs.declared.Operation.{Operation}
use Rattle.ledger.specs.declared.Ledger.{Ledger}
use Rattle.ledger.specs.Operate.{operate_of}
use Rattle.ledger.specs.Records.{fresh_ledger}
use Rattle.ledger.specs.Threads.{Threads, none_ran, begins, operated}
use Rattle.error.specs.declared.Refusal.{Refusal}

pub record Event : Type 0 where
  pub operation : Operation
  pub time : ℕ

-- The ledger, and beside it what an onlooker keeps.
pub record World : Type 0 where
  pub ledger : Ledger
  pub threads : Threads
  pub answered : ℕ

abbrev pub begin : ℕ → World
begin slots = record { ledger = fresh_ledger slots; threads = none_ran; answered = 0 }

-- the cycles answered since the last start, its own among them, summed
abbrev pub answered_after : Threads → Operation → ℕ → ℕ → ℕ
answered_after t op sum cycles = cond (begins t op) cycles (sum + cycles)

-- what an operation at a true time leaves, whose reading is that time; a refused one leaves all but the ledger as it was
abbrev pub after_answer : World → Event → Ledger → Result ℕ Refusal → World
after_answer w e l (Ok cycles) = record { ledger = l; threads = operated w.threads e.operation e.time; answered = answered_after w.threads e.operation w.answered cycles }
after_answer w e l (Err why) = record { ledger = l; threads = w.threads; answered = w.answered }

unfoldable pub step : Event → World → World
step e w = after_answer w e (operate_of w.ledger (record { 0 = e.time }) e.operation).ledger (operate_of w.ledger (record { 0 = e.time }) e.operation).answer

unfoldable pub after : List Event → World → World
after [] w = w
after (e ∷ es) w = after es (step e w)
