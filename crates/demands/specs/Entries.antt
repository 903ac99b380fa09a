-- Believed: the entries of counter and clock, and a ledger's report. Each refuses with the reason of the first of its tests that holds, and answers 01's value where none does.
use Rattle.std.specs.Prelude.{ℕ, ◌+◌, List, not, cond, [], ◌∷◌, length, leb, eqb, Result, Ok, Err}
use Rattle.std.specs.Borrow.{Bor}
use Rattle.error.specs.declared.Refusal.{Refusal}
use Rattle.error.specs.declared.Refusal.TheVariants.{BadThread, Again, Invalid, Overflow}
use Rattle.systick.specs.Decisions.{announce_tests}
use Rattle.counter.specs.declared.Counter.{Counter}
use Rattle.counter.specs.Cycle.{fresh_counter, run_n}
use Rattle.counter.specs.Readings.{good_period, in_range, cycles_above, readings_from, cycles_of}
use Rattle.counter.proofs.started.Reads as counter-started
use Rattle.counter.proofs.run.Reads as counter-run
use Rattle.counter.proofs.readings.Reads as counter-readings
use Rattle.counter.proofs.value_of.Reads as counter-value-of
use Rattle.clock.specs.declared.Timer.{Timer}
use Rattle.counter.specs.declared.Gaps.{Gaps}
use Rattle.clock.specs.Timer.{setup, bad_setup, well_formed}
use Rattle.clock.specs.Sample.{sample_value, crowded}
use Rattle.clock.specs.Announce.{announcement}
use Rattle.clock.proofs.set_up.Reads as clock-set-up
use Rattle.clock.proofs.sample.Reads as clock-sample
use Rattle.clock.proofs.announce.Reads as clock-announce
use Rattle.books.specs.Running.{no_thread, unrecorded}
use Rattle.books.specs.declared.Books.{Books}
use Rattle.usage.specs.declared.ThreadUsage.{ThreadUsage}
use Rattle.ledger.specs.declared.Ledger.{Ledger}
use Rattle.ledger.specs.declared.ThreadReport.{ThreadReport}
use Rattle.ledger.specs.Operate.{ledger_of}
use Rattle.ledger.specs.Records.{thread_record, report_value}
use Rattle.ledger.proofs.report.Reads as ledger-report
use Rattle.ledger.proofs.report_from.Reads as ledger-report-from
use Rattle.demands.specs.Contract.{Every}
use Rattle.demands.specs.Exact.{ByRows}

-- a running thread without a record, then a thread past the table
abbrev pub ReportsExactly : Ledger → ℕ → Result ThreadReport Refusal → Type 0
ReportsExactly l i r = ByRows Ok Err r ((unrecorded l.books (length l.threads), Invalid) ∷ (no_thread (length l.threads) i, BadThread) ∷ []) (report_value (thread_record l i))

pub record EntriesExact : Type 0 where
  pub started : (period : ℕ) → Every counter-started.Post (period, tt) (λ r. ByRows Ok Err r ((not (good_period period), Invalid) ∷ []) (fresh_counter period))
  pub run : (c : Counter) (n : ℕ) → Every counter-run.Post (c, (n, tt)) (λ r. ByRows Ok Err r ((not (in_range c), Invalid) ∷ (cycles_above c n, Overflow) ∷ []) (run_n n c))
  pub readings : (a : Counter) (g : Gaps) → Every counter-readings.Post (a, (g, tt)) (λ answer. ByRows Ok Err answer ((not (in_range a), Invalid) ∷ (cycles_above a (g.p + g.q + g.r), Overflow) ∷ []) (readings_from a g.p g.q g.r))
  -- a raw 0 is read as L; raw at or above L, or a bad L: -22
  pub value : (raw period : ℕ) → Every counter-value-of.Post (raw, (period, tt)) (λ r. ByRows Ok Err r ((not (good_period period), Invalid) ∷ (leb period raw, Invalid) ∷ []) (cond (eqb raw 0) period raw))
  pub set_up_lem : (period tick : ℕ) → Every clock-set-up.Post (period, (tick, tt)) (λ r. ByRows Ok Err r ((bad_setup period tick, Invalid) ∷ []) (setup period tick))
  -- before any touch: a malformed state, -22; no room in the overflow, -11; T past 2^64 - 1, -139
  pub sample : (t : Timer) (g : Gaps) → Every clock-sample.Post (t, (g, tt)) (λ r. ByRows Ok Err r ((not (well_formed t), Invalid) ∷ (crowded t, Again) ∷ (cycles_above t.counter (cycles_of g), Overflow) ∷ []) (sample_value t g))
  pub announce : (t : Timer) → Every clock-announce.Post (t, tt) (λ r. ByRows Ok Err r ((not (well_formed t), Invalid) ∷ announce_tests t.clock.count t.clock.announced t.clock.overflow t.clock.tick) (announcement t))
  pub report : (l : Ledger) (i : ℕ) → Every ledger-report.Post (l, (i, tt)) (ReportsExactly l i)
  -- the same over books and thread records that are lent
  pub report_from : (books : Bor Books) (threads : Bor (List ThreadUsage)) (i : ℕ) → Every ledger-report-from.Post (books, (threads, (i, tt))) (ReportsExactly (ledger_of books.now threads.now) i)
