-- The demands' run is the transcript's, a fair trace's last line is true, and a reader hands out the trace's records.
use Rattle.std.specs.Prelude.{Ok, Err}
use Prim.Native.Nat.{ℕ, zero, suc, ◌+◌, ◌-◌, ◌/◌}
use mathlib.Core.Path.{◌≡◌, refl, sym, ap, ◌∙◌}
use mathlib.Core.Bool.{Bool, true, false, cond}
use mathlib.Core.List.{List, [], ◌∷◌, ◌++◌}
use native.Mathlib.Omega.{arith}
use lib.ListN.{length}
use lib.Dec.{ltb}
use borrow.Author.Tests.{le-ltb, ltb-false, eq-eqb, ne_eqb}
use Rattle.clock.specs.declared.Timer.{Timer}
use Rattle.clock.proofs.Run as clock
use Rattle.trace.specs.declared.Record.TheVariants as K
use Rattle.trace.specs.Decode.{Decoded}
use Rattle.trace.specs.Decode.{decode_of}
use Rattle.trace.specs.Handing.{records_left, item_at, place_after}
use Rattle.machine.specs.declared.Machine.{Machine}
use Rattle.table.specs.Task.{task_of, asked_by}
use Rattle.table.specs.Table.{malformed, columns}
use Rattle.machine.specs.Step.{record_rows, accepted_by, step_of, fresh_machine}
use Rattle.transcript.specs.Replay.{records_from, machine_after}
use Rattle.demands.specs.Trace.{happened, watch, watch_all, at_setup}
use Rattle.demands.specs.Replayed.{NoSetup, NoneSetsUp, handed_from, SameRun, EndsTrue, HandsOut}
use Rattle.demands.proofs.Counting.{cycles_are}
use Rattle.demands.proofs.Watching.{seen_machine}
use Rattle.demands.proofs.Following.{all_true, begin_true}
use Rattle.demands.proofs.Demand3.{demand3}

pub same_run : SameRun
unfolding watch_all machine_after
same_run [] w = refl
same_run (d ∷ ds) w =
    same_run ds (watch step_of d w) ∙
    ap (λ (m : Machine). machine_after m ds) (seen_machine (happened d (step_of w.machine d).outcome) (step_of w.machine d).machine w)

-- before a setup nothing is accepted, and nothing changes
not_yet : (slots : ℕ) (d : Decoded) → NoSetup d → (step_of (fresh_machine slots) d).machine ≡ fresh_machine slots
unfolding step_of record_rows accepted_by task_of asked_by malformed columns
not_yet slots (Ok (K.Run p)) none = refl
not_yet slots (Ok (K.Sample g)) none = refl
not_yet slots (Ok K.Announce) none = refl
not_yet slots (Ok (K.Start i g)) none = refl
not_yet slots (Ok (K.Switch i g)) none = refl
not_yet slots (Ok (K.Stop g)) none = refl
not_yet slots (Ok (K.Enable i g)) none = refl
not_yet slots (Ok (K.Disable i g)) none = refl
not_yet slots (Ok (K.Report i)) none = refl
not_yet slots (Ok (K.Setup s)) none = absurd none
not_yet slots (Err why) none = refl

none_yet : (slots : ℕ) (before ds : List Decoded) → NoneSetsUp before → machine_after (fresh_machine slots) (before ++ ds) ≡ machine_after (fresh_machine slots) ds
unfolding machine_after
none_yet slots [] ds none = refl
none_yet slots (d ∷ before) ds none = ap (λ (m : Machine). machine_after m (before ++ ds)) (not_yet slots d none.0) ∙ none_yet slots before ds none.1

pub ends_true : EndsTrue
unfolding machine_after
ends_true slots period tick some good trace before ds none begins fair =
    let w = watch_all step_of ds (at_setup step_of slots period tick) in
    let held = all_true some good ds (at_setup step_of slots period tick) fair (begin_true slots period tick good) in
    let same = held.same in
    let left = sym (same_run ds (at_setup step_of slots period tick)) in
    let cycles = ap (λ (t : Timer). t.counter.cycles.0) same.timer ∙ cycles_are period w.ran w.at_c (clock.after same.events (clock.start period tick)) same.tracks in
    let last = ((demand3 slots period tick some good ds).1 fair).reads in
    rw (begins, none_yet slots before (Ok (K.Setup (record { period = period; tick = tick })) ∷ ds) none, left, same.ready, cycles, last) refl

-- nothing is handed out at the end, and elsewhere the record there and then the rest
handed_end : (n : ℕ) (s : List ℕ) (at : ℕ) → records_left s at ≡ 0 → handed_from n s at ≡ []
unfolding handed_from item_at
handed_end zero s at none = refl
handed_end (suc n) s at none = rw (eq-eqb (records_left s at) 0 none) refl

-- one record fewer is left after a record
one_fewer : (s : List ℕ) (at n : ℕ) → records_left s at ≡ suc n → records_left s (at + 16) ≡ n
unfolding records_left
one_fewer s at n left = by_test (ltb (length s) at) refl left
  where
    by_test : (past : Bool) → ltb (length s) at ≡ past → cond past 0 ((length s - at) / 16) ≡ suc n → cond (ltb (length s) (at + 16)) 0 ((length s - (at + 16)) / 16) ≡ n
    by_test true e q = absurd (omega arith)
    by_test false e q =
        let h = ltb-false (length s) at e in
        rw (le-ltb (length s) (at + 16) (omega arith)) (omega arith)

handed_all : (n more : ℕ) (s : List ℕ) (at : ℕ) → records_left s at ≡ n → handed_from (n + more) s at ≡ records_from n s at
unfolding handed_from item_at place_after records_from
handed_all zero more s at left = handed_end (zero + more) s at left
handed_all (suc n) more s at left =
    let count : suc n + more ≡ suc (n + more) = omega arith in
    let some = ne_eqb (records_left s at) 0 (λ none. omega arith) in
    ap (λ (k : ℕ). handed_from k s at) count ∙ rw some (ap (λ (rest : List Decoded). decode_of s at ∷ rest) (handed_all n more s (at + 16) (one_fewer s at n left)))

pub hands_out : HandsOut
unfolding records_left
hands_out trace more = handed_all (length trace / 16) more trace 0 (rw (le-ltb (length trace) 0 (omega arith)) (omega arith))
