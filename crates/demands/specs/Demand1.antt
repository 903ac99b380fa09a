-- Believed: demand 1, of any machine handed in and any bytes or record. What is refused with which number, and what a refusal leaves.
use Rattle.std.specs.Prelude.{ℕ, ◌<◌, ◌≡◌, true, List, leb, Ok, Err}
use Rattle.error.specs.Numbers.{max32}
use Rattle.counter.specs.declared.Gaps.{Gaps}
use Rattle.clock.specs.Timer.{GoodSetup}
use Rattle.books.specs.Running.{no_thread}
use Rattle.ledger.specs.Records.{thread_record}
use Rattle.trace.specs.declared.Record.{Record}
use Rattle.trace.specs.declared.Record.TheVariants as K
use Rattle.trace.specs.Decode.{Decoded}
use Rattle.trace.specs.Bytes.{Decodes}
use Rattle.table.specs.declared.Reason.TheVariants as Why
use Rattle.table.specs.declared.Values.{Values}
use Rattle.machine.specs.declared.Machine.{Machine}
use Rattle.machine.specs.declared.Stepped.{Stepped}
use Rattle.machine.specs.Step.{slots_of, fresh_machine}
use Rattle.machine.specs.Laws.{Whole, Exactly, KeptByRefusal}
use Rattle.demands.specs.Trace.{Watched, Fair, does_of, watching, watch_all, at_setup, FairTrace}
use Rattle.demands.specs.Terms.{thread_slots}
use Rattle.demands.specs.RowNumbers.{RowNumbers}

module _ (step : Machine → Decoded → Stepped) (period : ℕ) where
  -- after any trace from setup the machine is set up, is not taken for malformed, and announces whenever it is asked to
  pub record FromSetup (w : Watched) : Type 0 where
    pub ready : w.machine.ready ≡ true
    pub whole : Whole w.machine
    pub announces : (answered : Values) × ((step w.machine (Ok K.Announce)).outcome ≡ Ok answered)

  -- in a fair run no sum is refused: where -139 comes after the touch, a count of windows is full
  abbrev pub NoSumRefused : Watched → Type 0
  NoSumRefused w =
      (r : Record) →
      Fair period w.ran w.at_c (does_of r 0) →
      (step w.machine (Ok r)).outcome ≡ Err Why.WontFit →
      (i : ℕ) × (g : Gaps) × (r ≡ K.Enable i g) × ((thread_record w.machine.ledger i).num_windows ≡ max32)

pub record Demand1 (step : Machine → Decoded → Stepped) : Type 0 where
  -- sixteen bytes are a record if and only if they are what it is encoded as, and all others meet the first row
  pub decodes : Decodes
  -- each row of 01's table if and only if its test holds and no earlier row's does, the malformed state first
  pub exactly : (m : Machine) (d : Decoded) → Exactly step m d
  -- before the touch nothing is changed, and after it the sample is kept and nothing else changed
  pub kept : (m : Machine) (d : Decoded) → KeptByRefusal step m d
  pub numbers : RowNumbers
  -- no record, accepted or refused, makes a state malformed that was not
  pub stays_whole : (m : Machine) (d : Decoded) → Whole m → Whole (step m d).machine
  -- there are sixteen threads: after any records from a fresh machine, a thread is past the table exactly from number 16 on
  pub sixteen : (ds : List Decoded) (i : ℕ) → no_thread (slots_of (watch_all step ds (watching (fresh_machine thread_slots))).machine) i ≡ leb thread_slots i
  pub from_setup :
      (slots period tick : ℕ) → 0 < slots → GoodSetup period tick → (ds : List Decoded) →
      let w = watch_all step ds (at_setup step slots period tick) in
      FromSetup step period w × (FairTrace step period ds (at_setup step slots period tick) → NoSumRefused step period w)
