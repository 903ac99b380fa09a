-- Demand 2, gathered.
use Rattle.books.proofs.Refusing as books
use Rattle.ledger.proofs.Adding.{stamps_near}
use Rattle.ledger.proofs.Operated.{every_operation}
use Rattle.ledger.proofs.Refusing as ledger
use Rattle.machine.proofs.Stepping.{every_answer, exactly}
use Rattle.machine.specs.Step.{step_of}
use Rattle.demands.specs.Demand2.{Demand2}
use Rattle.demands.proofs.Leaves.{leaves_exact}
use Rattle.demands.proofs.Entries.{entries_exact}
use Rattle.demands.proofs.Readers.{readers}
use Rattle.demands.proofs.Exports.{exports_read}
use Rattle.demands.proofs.Lent.{by_hand}
use Rattle.demands.proofs.Writers.{writers}
use Rattle.demands.proofs.Changes.{changes_exact}
use Rattle.demands.proofs.Terms.{terms_given}
use Rattle.demands.proofs.UpstreamTimer.{timer_clauses, timer_lemmas}
use Rattle.demands.proofs.UpstreamThread.{thread_clauses, thread_lemmas}
use Rattle.demands.proofs.Numbers.{numbers}

pub demand2 : Demand2 step_of
demand2 = record {
  timer_clauses = timer_clauses;
  timer_lemmas = timer_lemmas;
  thread_clauses = thread_clauses;
  thread_lemmas = thread_lemmas;
  leaves = leaves_exact;
  stamps_near = stamps_near;
  entries = entries_exact;
  operations = every_operation;
  operation_numbers = ledger.every_refusal;
  entry_of_one_record = books.every_entry;
  records = every_answer;
  record_refusals = exactly;
  readers = readers;
  exports = exports_read;
  by_hand = by_hand;
  writers = writers;
  changes = changes_exact;
  terms = terms_given;
  numbers = numbers;
}
