-- Believed: what is read off an answer. Its number, each part of its value, zeros where it is refused; and a decision as yes or no.
use Rattle.std.specs.Prelude.{◌≡◌, true, false, Result, Ok, Err}
use Rattle.std.specs.Result.{result_unwrap_or}
use Rattle.std.proofs.result.Result.unwrap_or.Reads as std-unwrap-or
use denote.RattleType.{RattleType}
use denote.Param.Laws.{Laws}
use mir.Syntax.{Dict}
use Rattle.error.specs.declared.Refusal.{Refusal}
use Rattle.error.specs.Numbers.{ok, number_of}
use Rattle.error.specs.Said.{Said, number_in}
use Rattle.error.proofs.Refusal.number.Reads as error-Refusal-number
use Rattle.error.proofs.number.Reads as error-number
use Rattle.systick.specs.Says.{elapsed_cycles_says, cycles_to_ticks_says, ticks_to_cycles_says, max_ticks_says, elapsed_decide_says, announce_decide_says}
use Rattle.usage.specs.declared.SysTrackDecision.TheVariants.{NoOp, Apply}
use Rattle.usage.specs.declared.StartDecision.TheVariants.{RecordStart, RecordOnly}
use Rattle.usage.specs.declared.StopDecision.TheVariants.{Accumulate, Skip}
use Rattle.usage.specs.Formulas.{new_idle}
use Rattle.usage.specs.Says.{changed_says}
use Rattle.usage.proofs.SysTrackDecision.is_apply.Reads as SysTrackDecision-is-apply
use Rattle.usage.proofs.StartDecision.is_record_start.Reads as StartDecision-is-record-start
use Rattle.usage.proofs.StopDecision.is_accumulate.Reads as StopDecision-is-accumulate
use Rattle.counter.specs.Cycle.{fresh_counter}
use Rattle.counter.specs.Says.{ran_says, sample_read_says, value_says}
use Rattle.clock.specs.Says.{set_up_says, sampled_says, announced_says}
use Rattle.books.specs.Says.{entered_says}
use Rattle.ledger.specs.Records.{answer_says}
use Rattle.ledger.specs.Says.{reported_says}
use Rattle.trace.specs.Decode.{decoded_says}
use Rattle.table.specs.Table.{refusal_of}
use Rattle.table.specs.Says.{outcome_says}
use Rattle.table.proofs.Reason.refusal.Reads as Reason-refusal
use Rattle.table.proofs.number.Reads as table-number
use Rattle.lines.specs.Says.{written_says}
use Rattle.demands.specs.Contract.{Every, Gives1}

module _ {Value Reason : Type 0} (says : Result Value Reason → Said Value) where
  -- a part of the value, and zero where it is refused
  abbrev pub ReadsPart : {Read : Type 0} → (Value → Read) → Read → Type 0
  ReadsPart part zero = ((v : Value) → part (says (Ok v)).value ≡ part v) × ((why : Reason) → part (says (Err why)).value ≡ zero)

module _ {Value : Type 0} (says : Result Value Refusal → Said Value) where
  -- 0, or the reason's number
  abbrev pub ReadsNumber : Type 0
  ReadsNumber = ((v : Value) → (says (Ok v)).number ≡ ok) × ((why : Refusal) → (says (Err why)).number ≡ number_of why)

pub record Readers : Type 2 where
  pub refusal : Gives1 error-Refusal-number.Post number_of
  -- one function gives the number of every answer with a `Refusal`, whatever its value is
  pub number : (T : RattleType) (laws : Laws T) (dict : Dict) (answer : Result T.Denot Refusal) → Every (error-number.Post T laws dict) (answer, tt) (λ n. n ≡ number_in answer)
  -- and one of std's its value, or the zeros that it is handed
  pub value :
      (T Why : RattleType) (laws : Laws T) (why_laws : Laws Why) (dict why_dict : Dict) (answer : Result T.Denot Why.Denot) (zeros : T.Denot) →
      Every (std-unwrap-or.Post T Why laws why_laws dict why_dict) (answer, (zeros, tt)) (λ v. v ≡ result_unwrap_or answer zeros)
  pub elapsed_cycles_lem : ReadsNumber elapsed_cycles_says × ReadsPart elapsed_cycles_says (λ cycles. cycles) 0
  pub cycles_to_ticks_lem : ReadsNumber cycles_to_ticks_says × ReadsPart cycles_to_ticks_says (λ ticks. ticks) (record { 0 = 0 })
  pub ticks_to_cycles_lem : ReadsNumber ticks_to_cycles_says × ReadsPart ticks_to_cycles_says (λ cycles. cycles) (record { 0 = 0 })
  pub max_ticks_lem : ReadsNumber max_ticks_says × ReadsPart max_ticks_says (λ ticks. ticks) (record { 0 = 0 })
  pub elapsed_decide_lem :
      ReadsNumber elapsed_decide_says ×
      ReadsPart elapsed_decide_says (λ v. v.wrap_detected) false ×
      ReadsPart elapsed_decide_says (λ v. v.new_overflow_cyc) 0 ×
      ReadsPart elapsed_decide_says (λ v. v.elapsed) 0
  pub announce_decide_lem :
      ReadsNumber announce_decide_says ×
      ReadsPart announce_decide_says (λ v. v.dticks) (record { 0 = 0 }) ×
      ReadsPart announce_decide_says (λ v. v.new_cycle_count) (record { 0 = 0 }) ×
      ReadsPart announce_decide_says (λ v. v.new_announced_cycles) (record { 0 = 0 })
  pub changed : ReadsNumber changed_says × ReadsPart changed_says (λ u. u) new_idle
  pub ran : ReadsNumber ran_says × ReadsPart ran_says (λ c. c) (fresh_counter 0)
  pub sample_read : ReadsNumber sample_read_says
  pub value_read : ReadsNumber value_says × ReadsPart value_says (λ v. v) 0
  pub set_up_lem : ReadsNumber set_up_says
  pub sampled :
      ReadsNumber sampled_says ×
      ReadsPart sampled_says (λ s. s.elapsed) 0 ×
      ReadsPart sampled_says (λ s. s.wrap) false ×
      ReadsPart sampled_says (λ s. s.reading) (record { 0 = 0 })
  pub announced : ReadsNumber announced_says × ReadsPart announced_says (λ a. a.dticks) (record { 0 = 0 })
  pub entered : ReadsNumber entered_says
  pub operated : ReadsNumber answer_says × ReadsPart answer_says (λ cycles. cycles) 0
  pub reported : ReadsNumber reported_says × ReadsPart reported_says (λ r. r.total) (record { 0 = 0 }) × ReadsPart reported_says (λ r. r.average) (record { 0 = 0 })
  pub decoded : ReadsNumber decoded_says
  pub written : ReadsNumber written_says × ReadsPart written_says (λ end. end) 0
  -- a step's: a row's reason is `refusal_of`, and its number that reason's
  pub reason : Gives1 Reason-refusal.Post refusal_of
  pub outcome_number : Gives1 table-number.Post (λ outcome. (outcome_says outcome).number)
  pub outcome : ((v : _) → (outcome_says (Ok v)).number ≡ ok) × ((why : _) → (outcome_says (Err why)).number ≡ number_of (refusal_of why)) × ReadsPart outcome_says (λ v. v.x) 0 × ReadsPart outcome_says (λ v. v.y) 0
  -- a decision as yes or no
  pub sys_track : Every SysTrackDecision-is-apply.Post (Apply, tt) (λ yes. yes ≡ true) × Every SysTrackDecision-is-apply.Post (NoOp, tt) (λ yes. yes ≡ false)
  pub start : Every StartDecision-is-record-start.Post (RecordStart, tt) (λ yes. yes ≡ true) × Every StartDecision-is-record-start.Post (RecordOnly, tt) (λ yes. yes ≡ false)
  pub stop : Every StopDecision-is-accumulate.Post (Accumulate, tt) (λ yes. yes ≡ true) × Every StopDecision-is-accumulate.Post (Skip, tt) (λ yes. yes ≡ false)
