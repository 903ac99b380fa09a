-- Counter, clock and the ledger's report answer by their rows.
use Rattle.std.specs.Prelude.{Ok, Err}
use Rattle.error.proofs.Tests.{clash}
use Rattle.counter.specs.Entries.{started_of, ran_of, readings_of, value_of}
use Rattle.clock.specs.Announce.{announce_of}
use Rattle.clock.specs.Entries.{set_up, sample_of}
use Rattle.ledger.specs.Operate.{report_of}
use Rattle.demands.specs.Entries.{EntriesExact}
use Rattle.demands.proofs.Exactly.{by_rows}

pub entries_exact : EntriesExact
unfolding started_of ran_of readings_of value_of set_up sample_of announce_of report_of
entries_exact = record {
  started = λ period answer allowed. rw allowed.2 (by_rows Ok Err _ _ (λ why e. clash (cc)) (λ r s e. cc));
  run = λ c n answer allowed. rw allowed.2 (by_rows Ok Err _ _ (λ why e. clash (cc)) (λ r s e. cc));
  readings = λ a g answer allowed. rw allowed.2 (by_rows Ok Err _ _ (λ why e. clash (cc)) (λ r s e. cc));
  value = λ raw period answer allowed. rw allowed.2 (by_rows Ok Err _ _ (λ why e. clash (cc)) (λ r s e. cc));
  set_up_lem = λ period tick answer allowed. rw allowed.2 (by_rows Ok Err _ _ (λ why e. clash (cc)) (λ r s e. cc));
  sample = λ t g answer allowed. rw allowed.2 (by_rows Ok Err _ _ (λ why e. clash (cc)) (λ r s e. cc));
  announce = λ t answer allowed. rw allowed.2 (by_rows Ok Err _ _ (λ why e. clash (cc)) (λ r s e. cc));
  report = λ l i answer allowed. rw allowed.2 (by_rows Ok Err _ _ (λ why e. clash (cc)) (λ r s e. cc));
  report_from = λ books threads i answer allowed. rw allowed.2 (by_rows Ok Err _ _ (λ why e. clash (cc)) (λ r s e. cc));
}
