-- Believed: what every operation does to the books and to each record of a ledger, and exactly when it is refused.
use Rattle.std.specs.Prelude.{ℕ, ◌<◌, ◌≡◌, [], ◌∷◌, length, Result, Ok, Err}
use Rattle.error.specs.declared.Refusal.TheVariants.{BadThread, Already, Invalid, Overflow}
use Rattle.error.specs.Numbers.{ok, number_of}
use Rattle.error.specs.InOrder.{in_order}
use Rattle.units.specs.declared.Cycles.{Cycles}
use Rattle.books.specs.declared.Operation.{Operation}
use Rattle.books.specs.Running.{stamp_of, unrecorded, past, busy, concerned}
use Rattle.books.specs.Laws.{EntryIs, full}
use Rattle.ledger.specs.declared.Ledger.{Ledger}
use Rattle.ledger.specs.Operate.{operate_of}
use Rattle.ledger.specs.Records.{thread_record, concerned_record, answer_says}
use Rattle.error.specs.declared.Refusal.{Refusal}

-- the whole ledger: the record concerned is as its entry says, and every other stays
pub record Operated (l : Ledger) (reading : Cycles) (op : Operation) (cycles : ℕ) (next : Ledger) : Type 0 where
  pub entry : EntryIs l.books (concerned_record l op) (stamp_of reading.0) op (record { cycles = cycles; books = next.books; usage = thread_record next (concerned l.books op) })
  pub others : (i : ℕ) → (concerned l.books op ≡ i → ⊥) → thread_record next i ≡ thread_record l i
  pub slots : length next.threads ≡ length l.threads

-- a refused operation leaves the whole ledger as it was
abbrev pub AnswerIs : Ledger → Cycles → Operation → Ledger → Result ℕ Refusal → Type 0
AnswerIs l reading op next (Ok cycles) = Operated l reading op cycles next
AnswerIs l reading op next (Err why) = next ≡ l

abbrev pub EveryOperation : Type 0
EveryOperation = (l : Ledger) (reading : Cycles) (op : Operation) → 0 < length l.threads → AnswerIs l reading op (operate_of l reading op).ledger (operate_of l reading op).answer

-- an operation's number is that of the first row whose test holds, and 0 where none does
abbrev pub OperationNumbers : Type 0
OperationNumbers =
    (l : Ledger) (reading : Cycles) (op : Operation) →
    (answer_says (operate_of l reading op).answer).number ≡
    in_order ((unrecorded l.books (length l.threads), Invalid) ∷ (past op (length l.threads), BadThread) ∷ (busy l.books op, Already) ∷ (full l.books (concerned_record l op) (stamp_of reading.0) op, Overflow) ∷ []) number_of ok
