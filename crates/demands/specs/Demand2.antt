-- Believed: demand 2, gathered. Upstream's clauses, 01's formulas and exact refusals, and the round trip.
use Rattle.books.specs.Laws.{EveryEntry}
use Rattle.ledger.specs.Laws.{EveryOperation, OperationNumbers}
use Rattle.ledger.specs.Sums.{StampsNear}
use Rattle.trace.specs.Decode.{Decoded}
use Rattle.machine.specs.declared.Machine.{Machine}
use Rattle.machine.specs.declared.Stepped.{Stepped}
use Rattle.machine.specs.Laws.{Exactly, EveryAnswer}
use Rattle.demands.specs.Leaves.{LeavesExact}
use Rattle.demands.specs.Entries.{EntriesExact}
use Rattle.demands.specs.Readers.{Readers}
use Rattle.demands.specs.Exports.{ExportsRead}
use Rattle.demands.specs.Lent.{ByHand}
use Rattle.demands.specs.Writers.{Writers}
use Rattle.demands.specs.Changes.{ChangesExact}
use Rattle.demands.specs.Terms.{TermsGiven}
use Rattle.demands.specs.UpstreamTimer.{TimerClauses, TimerLemmas}
use Rattle.demands.specs.UpstreamThread.{ThreadClauses, ThreadLemmas}
use Rattle.demands.specs.Numbers.{Numbers}

pub record Demand2 (step : Machine → Decoded → Stepped) : Type 2 where
  -- Every upstream clause follows from ours, or 01 names what replaces it.
  pub timer_clauses : TimerClauses
  pub timer_lemmas : TimerLemmas
  pub thread_clauses : ThreadClauses
  pub thread_lemmas : ThreadLemmas
  -- Every result field is 01's formula, and each refusal comes exactly when 01 says: of the leaves, and for a tick above 0 ticks made into cycles come back;
  pub leaves : LeavesExact
  -- (within 2^32 - 2 cycles, measured less true is -1, 0 or +1)
  pub stamps_near : StampsNear
  -- of counter, clock and ledger, and of a trace's records;
  pub entries : EntriesExact
  pub operations : EveryOperation
  pub operation_numbers : OperationNumbers
  pub entry_of_one_record : EveryEntry
  pub records : EveryAnswer step
  pub record_refusals : (m : Machine) (d : Decoded) → Exactly step m d
  -- as it is read off an answer, handed to C as plain numbers, done to a lent record, and put into a buffer;
  pub readers : Readers
  pub exports : ExportsRead
  pub by_hand : ByHand
  pub writers : Writers
  -- and of every other public function.
  pub changes : ChangesExact
  pub terms : TermsGiven
  pub numbers : Numbers
