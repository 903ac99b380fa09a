-- Believed: what is lent as a record. A thread record, in Rattle and from C, is changed as by value; a reader holds a lent trace and its place.
use Rattle.std.specs.Prelude.{ℕ, List, ◌≡◌, Bool, ℤ, Result, Ok, Err, Option}
use seplogic.Ra.Ura.{Ura}
use base.Logic.{SProp}
use base.Fml.{Lft}
use prog.Memory.{Memory}
use prog.Routine.{Routine}
use types.Logic.{Logic}
use contract.Monad.{Fun, fact}
use Rattle.std.specs.Borrow.{Bor, MutBor}
use Rattle.error.specs.Numbers.{ok, number_of}
use Rattle.error.specs.Said.{number_in}
use Rattle.usage.specs.declared.ThreadUsage.{ThreadUsage}
use Rattle.usage.specs.Leaves.{enabled, disabled, accumulated}
use Rattle.usage.specs.Says.{InPlace, done, kept, outcome_of, enable_outcome, disable_outcome, accumulate_outcome}
use Rattle.usage.proofs.enabled.Reads as usage-enabled
use Rattle.usage.proofs.disabled.Reads as usage-disabled
use Rattle.usage.proofs.accumulated.Reads as usage-accumulated
use Rattle.usage.specs.contracts.ThreadUsage.enable as method-enable
use Rattle.usage.specs.contracts.ThreadUsage.disable as method-disable
use Rattle.usage.specs.contracts.ThreadUsage.accumulate as method-accumulate
use Rattle.usage.specs.contracts.ThreadUsage.is_tracked as method-is-tracked
use Rattle.tickclock.specs.contracts.lent.usage_enable as c_enable
use Rattle.tickclock.specs.contracts.lent.usage_disable as c_disable
use Rattle.tickclock.specs.contracts.lent.usage_accumulate as c_accumulate
use Rattle.tickclock.specs.contracts.lent.usage_is_tracked as c_is_tracked
use Rattle.trace.specs.declared.reader.TraceReader.{TraceReader}
use Rattle.trace.specs.Decode.{Decoded}
use Rattle.trace.specs.Handing.{records_left, bytes_left, item_at, place_after}
use Rattle.trace.specs.contracts.reader.TraceReader.new as reader-new
use Rattle.trace.specs.contracts.reader.TraceReader.moved as reader-moved
use Rattle.trace.specs.contracts.reader.TraceReader.next as reader-next
use Rattle.trace.specs.contracts.reader.TraceReader.records_left as reader-records-left
use Rattle.trace.specs.contracts.reader.TraceReader.bytes_left as reader-bytes-left
use Rattle.trace.specs.contracts.reader.first_item as reader-first-item
use Rattle.demands.specs.Contract.{Allowed}
use Rattle.error.specs.declared.Refusal.{Refusal}

-- code and record after what the by-value leaf answered: 0 and the new one, or the number and the old one
abbrev pub OutcomeIs : ThreadUsage → Result ThreadUsage Refusal → InPlace → Type 0
OutcomeIs before (Ok u) after = after ≡ record { code = ok; usage = u }
OutcomeIs before (Err why) after = after ≡ record { code = number_of why; usage = before }

pub record LentForms : Type 0 where
  -- in place: done and the new record, or the reason and the record as it was
  pub accepted : (before u : ThreadUsage) → (done (Ok u) ≡ Ok tt) × (kept before (Ok u) ≡ u)
  pub refused : (before : ThreadUsage) (why : Refusal) → (done (Err why) ≡ Err why) × (kept before (Err why) ≡ before)
  -- from C: the number of what is answered in place, and the record that is left
  pub from_c : (before : ThreadUsage) (answer : Result ThreadUsage Refusal) → outcome_of before answer ≡ record { code = number_in (done answer); usage = kept before answer }
  pub enable : (u : ThreadUsage) (answer : Result ThreadUsage Refusal) → Allowed usage-enabled.Post (u, tt) answer → OutcomeIs u answer (enable_outcome u)
  pub disable : (u : ThreadUsage) (answer : Result ThreadUsage Refusal) → Allowed usage-disabled.Post (u, tt) answer → OutcomeIs u answer (disable_outcome u)
  pub accumulate : (u : ThreadUsage) (cycles : ℕ) (answer : Result ThreadUsage Refusal) → Allowed usage-accumulated.Post (u, (cycles, tt)) answer → OutcomeIs u answer (accumulate_outcome u cycles)

-- done or the reason, and the record behind the reference at exit: the new one, or as it was
abbrev pub ChangedNow : ThreadUsage → Result ThreadUsage Refusal → Result (Unit {0}) Refusal → MutBor ThreadUsage → Type 0
ChangedNow before answer said after = (said ≡ done answer) × (after.now ≡ kept before answer)

-- the code, and the record behind the reference at exit
abbrev pub LentNow : InPlace → ℤ → MutBor ThreadUsage → Type 0
LentNow outcome code after = (code ≡ outcome.code) × (after.now ≡ outcome.usage)

-- What each contract ensures, as the checker has it: in every model of its logic it is this one fact.
module _ {M : Type 1} {𝓤 : Ura M} (𝓛 : Logic 𝓤) (mem : Memory → SProp 𝓤) (run : Routine → Fun 𝓤) (κ : Lft) where
  -- upstream's methods and C's functions, of a record lent for a change or for a look
  pub record LentEnsures (x y : MutBor ThreadUsage) (look : Bor ThreadUsage) (cycles : ℕ) (said : Result (Unit {0}) Refusal) (code : ℤ) (flag : Bool) : Type 2 where
    pub enable : (method-enable.clauses 𝓛 mem run (κ, tt) (x, tt)).ensures tt said (y, tt) ≡ fact 𝓤 (ChangedNow x.now (enabled x.now) said y)
    pub disable : (method-disable.clauses 𝓛 mem run (κ, tt) (x, tt)).ensures tt said (y, tt) ≡ fact 𝓤 (ChangedNow x.now (disabled x.now) said y)
    pub accumulate : (method-accumulate.clauses 𝓛 mem run (κ, tt) (x, (cycles, tt))).ensures tt said (y, (cycles, tt)) ≡ fact 𝓤 (ChangedNow x.now (accumulated x.now cycles) said y)
    pub is_tracked_lem : (method-is-tracked.clauses 𝓛 mem run (κ, tt) (look, tt)).ensures tt flag (look, tt) ≡ fact 𝓤 (flag ≡ look.now.track_usage)
    pub c_enable : (c_enable.clauses 𝓛 mem run (κ, tt) (x, tt)).ensures tt code (y, tt) ≡ fact 𝓤 (LentNow (enable_outcome x.now) code y)
    pub c_disable : (c_disable.clauses 𝓛 mem run (κ, tt) (x, tt)).ensures tt code (y, tt) ≡ fact 𝓤 (LentNow (disable_outcome x.now) code y)
    pub c_accumulate : (c_accumulate.clauses 𝓛 mem run (κ, tt) (x, (cycles, tt))).ensures tt code (y, (cycles, tt)) ≡ fact 𝓤 (LentNow (accumulate_outcome x.now cycles) code y)
    pub c_is_tracked : (c_is_tracked.clauses 𝓛 mem run (κ, tt) (look, tt)).ensures tt flag (look, tt) ≡ fact 𝓤 (flag ≡ look.now.track_usage)

  -- a reader is its bytes and its place, and answers from both
  pub record ReaderEnsures (trace : Bor (List ℕ)) (d r : TraceReader) (item : Option Decoded) (n : ℕ) : Type 2 where
    pub new : (reader-new.clauses 𝓛 mem run (κ, tt) (trace, tt)).ensures tt r (trace, tt) ≡ fact 𝓤 ((r.trace ≡ trace) × (r.at ≡ 0))
    pub moved : (reader-moved.clauses 𝓛 mem run (κ, tt) (d, tt)).ensures tt r (d, tt) ≡ fact 𝓤 ((r.trace ≡ d.trace) × (r.at ≡ place_after d.trace.now d.at))
    pub next : (reader-next.clauses 𝓛 mem run (κ, tt) (d, tt)).ensures tt item (d, tt) ≡ fact 𝓤 (item ≡ item_at d.trace.now d.at)
    pub records_left_lem : (reader-records-left.clauses 𝓛 mem run (κ, tt) (d, tt)).ensures tt n (d, tt) ≡ fact 𝓤 (n ≡ records_left d.trace.now d.at)
    pub bytes_left : (reader-bytes-left.clauses 𝓛 mem run (κ, tt) (d, tt)).ensures tt n (d, tt) ≡ fact 𝓤 (n ≡ bytes_left d.trace.now d.at)
    pub first_item_lem : (reader-first-item.clauses 𝓛 mem run (κ, tt) (trace, tt)).ensures tt item (trace, tt) ≡ fact 𝓤 (item ≡ item_at trace.now 0)

pub record ByHand : Type 2 where
  pub forms : LentForms
  pub lent : {M : Type 1} {𝓤 : Ura M} (𝓛 : Logic 𝓤) (mem : Memory → SProp 𝓤) (run : Routine → Fun 𝓤) (κ : Lft) (x y : MutBor ThreadUsage) (look : Bor ThreadUsage) (cycles : ℕ) (said : Result (Unit {0}) Refusal) (code : ℤ) (flag : Bool) → LentEnsures 𝓛 mem run κ x y look cycles said code flag
  pub reader : {M : Type 1} {𝓤 : Ura M} (𝓛 : Logic 𝓤) (mem : Memory → SProp 𝓤) (run : Routine → Fun 𝓤) (κ : Lft) (trace : Bor (List ℕ)) (d r : TraceReader) (item : Option Decoded) (n : ℕ) → ReaderEnsures 𝓛 mem run κ trace d r item n
