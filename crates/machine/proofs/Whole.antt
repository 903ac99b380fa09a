-- No record, accepted or refused, makes a state malformed that was not.
use Rattle.std.specs.Prelude.{Result, Ok, Err}
use Prim.Native.Nat.{ℕ}
use mathlib.Core.Path.{◌≡◌, refl}
use mathlib.Core.Bool.{Bool, true, false, cond, not, ◌&&◌}
use lib.ListN.{length-set, length-replicate}
use lib.Dec.{eqb}
use Rattle.error.proofs.Ordered.{by_outcome}
use Rattle.usage.specs.declared.ThreadUsage.{ThreadUsage}
use Rattle.usage.specs.Formulas.{new_idle}
use Rattle.clock.specs.Timer.{setup, well_formed, GoodSetup}
use Rattle.clock.specs.declared.Timer.{Timer}
use Rattle.clock.specs.Announce.{announce_of}
use Rattle.ledger.specs.Operate.{stored_in}
use Rattle.books.specs.declared.Books.{Books}
use Rattle.books.specs.declared.Entry.{Entry}
use Rattle.books.specs.declared.Operation.{Operation}
use Rattle.books.specs.declared.Operation.TheVariants as P
use Rattle.books.specs.Running.{stopped, is_running, no_thread, unrecorded, past}
use Rattle.books.specs.Laws.{closes, stamp_after, running_after, EntryIs}
use Rattle.books.proofs.Entering.{entry_is}
use Rattle.trace.specs.declared.Setup.{Setup}
use Rattle.trace.specs.Decode.{Decoded}
use Rattle.table.specs.declared.Core.{Core}
use Rattle.table.specs.declared.Reason.{Reason}
use Rattle.table.specs.declared.Reason.TheVariants as Why
use Rattle.table.specs.declared.tasks.Task.{Task}
use Rattle.table.specs.declared.tasks.Task.TheVariants as T
use Rattle.table.specs.declared.tasks.Then.TheVariants as W
use Rattle.table.specs.Task.{task_of, asked_by}
use Rattle.table.specs.Table.{malformed, table}
use Rattle.machine.specs.declared.Machine.{Machine}
use Rattle.machine.specs.Step.{core_of, slots_of, step_of}
use Rattle.machine.specs.Making.{entered_by, reported_by, made_of}
use Rattle.machine.proofs.Tying.{operation_stored, step_made}
use Rattle.table.specs.declared.changes.Change.{Change}
use Rattle.table.specs.declared.changes.Change.TheVariants as X
use Rattle.table.specs.Change.{ran_change, sampled_change, announced_change, set_up_change, effect_change, task_change, record_change, change_of}
use Rattle.machine.proofs.Passed.{Passed, passed}
use Rattle.machine.proofs.Accepting.{formed_of, recorded_of, announcement_is, Accepts, let_through}
use Rattle.machine.specs.Laws.{Whole}
use Rattle.machine.proofs.WholeClock.{run_formed, sample_formed, announcement_formed, setup_formed}
use Rattle.clock.specs.declared.Announcement.{Announcement}
use Rattle.error.specs.declared.Refusal.{Refusal}
use Rattle.ledger.specs.declared.ThreadReport.{ThreadReport}

-- a well_formed_lem timer, and a record for the thread that runs
whole_of : (c : Core) (slots : ℕ) → well_formed c.timer ≡ true → unrecorded c.books slots ≡ false → malformed c slots ≡ false
unfolding malformed
whole_of c slots formed recorded = rw (formed, recorded) (neither c.ready)
  where
    neither : (ready : Bool) → ready && false ≡ false
    neither true = refl
    neither false = refl

-- a thread in the table has a record, whatever the stamp
in_table : (none lost : Bool) → lost ≡ false → not none && lost ≡ false
in_table true lost e = refl
in_table false lost e = e

-- enable and disable open a stretch only where one ran, and that thread has a record
reopened : (none lost flag same : Bool) (stamp now : ℕ) → eqb stamp 0 ≡ none → not none && lost ≡ false → not (eqb (cond (flag && (not none && same)) now stamp) 0) && lost ≡ false
reopened true lost true same stamp now t e = rw t refl
reopened true lost false same stamp now t e = rw t refl
reopened false lost flag same stamp now t e = in_table (eqb (cond (flag && same) now stamp) 0) lost e

-- an accepted entry leaves a record for the thread that runs
entry_recorded : (b : Books) (u : ThreadUsage) (now slots : ℕ) (op : Operation) (e : Entry) → unrecorded b slots ≡ false → past op slots ≡ false → EntryIs b u now op e → unrecorded e.books slots ≡ false
unfolding unrecorded past closes is_running stamp_after running_after
entry_recorded b u now slots (P.Start i) e r p is = rw (is.stamp, is.running) (in_table (eqb now 0) _ p)
entry_recorded b u now slots (P.Switch i) e r p is = rw (is.stamp, is.running) (in_table (eqb now 0) _ p)
entry_recorded b u now slots P.Stop e r p is = rw is.stamp refl
entry_recorded b u now slots (P.Enable i) e r p is = rw (is.stamp, is.running) (reopened (stopped b) (no_thread slots b.running) (not u.track_usage) (eqb b.running i) b.stamp now refl r)
entry_recorded b u now slots (P.Disable i) e r p is = rw (is.stamp, is.running) (reopened (stopped b) (no_thread slots b.running) u.track_usage (eqb b.running i) b.stamp now refl r)

module _ (m : Machine) (whole : Whole m) where
  abbrev c : Core
  c = core_of m

  abbrev slots : ℕ
  slots = slots_of m

  -- what a change leaves, made
  abbrev Leaves : Result Change Reason → Type 0
  Leaves x = Whole (made_of m x).machine

  turned_leaves : (why : Reason) → Leaves (Err why)
  unfolding made_of
  turned_leaves why = whole

  announced_leaves : well_formed m.timer ≡ true → unrecorded m.ledger.books slots ≡ false → (x : Result Announcement Refusal) → announce_of m.timer ≡ x → Leaves (announced_change x)
  unfolding announced_change made_of
  announced_leaves formed recorded (Ok a) q = whole_of _ slots (rw (announcement_is m.timer a q) (announcement_formed m.timer formed)) recorded
  announced_leaves formed recorded (Err why) q = whole

  -- the sample's timer, and the books as the entry leaves them or, refused, as they were
  entered_leaves : (timer : Timer) (k : ℕ) (x : Result Entry Refusal) → well_formed timer ≡ true → unrecorded m.ledger.books slots ≡ false → ((e : Entry) → x ≡ Ok e → unrecorded e.books slots ≡ false) → Whole (entered_by m timer (stored_in m.ledger k x)).machine
  unfolding stored_in
  entered_leaves timer k (Ok e) formed recorded entry = rw (length-set m.ledger.threads k e.usage) (whole_of _ slots formed (entry e refl))
  entered_leaves timer k (Err why) formed recorded entry = whole_of _ slots formed recorded

  reported_leaves : (x : Result ThreadReport Refusal) → Whole (reported_by m x).machine
  unfolding reported_by
  reported_leaves (Ok report) = whole
  reported_leaves (Err why) = whole

  -- a good setup makes a good timer, and nobody runs
  setup_leaves : (s : Setup) → GoodSetup s.period s.tick → Leaves (Ok (X.Fresh (setup s.period s.tick)))
  unfolding made_of unrecorded
  setup_leaves s good = rw (length-replicate slots new_idle) (whole_of _ slots (setup_formed s.period s.tick good) refl)

  -- what passes the table, but for a setup, found a machine that is set up: its timer is well formed and its running thread has a record
  effect_leaves : (task : Task) → Accepts c task → Passed c (asked_by m.ledger.books slots task) → Leaves (effect_change c task)
  unfolding Accepts effect_change ran_change sampled_change set_up_change asked_by made_of
  effect_leaves (T.Run n) e p =
      rw e (whole_of _ slots (run_formed m.timer (formed_of c slots p.known whole) n) (recorded_of c slots p.known whole))
  effect_leaves (T.Sample g W.Tell) e p =
      rw e (whole_of _ slots (sample_formed m.timer (formed_of c slots p.known whole) g) (recorded_of c slots p.known whole))
  effect_leaves (T.Sample g (W.Operate op)) e p =
      let recorded = recorded_of c slots p.known whole in
      rw (e, operation_stored m g op whole p)
      (entered_leaves _ _ _ (sample_formed m.timer (formed_of c slots p.known whole) g) recorded
      (λ e q. entry_recorded m.ledger.books _ _ slots op e recorded p.named (entry_is m.ledger.books _ _ op e q)))
  effect_leaves T.Announce e p =
      announced_leaves (formed_of c slots p.known whole) (recorded_of c slots p.known whole) (announce_of m.timer) refl
  effect_leaves (T.Report i) e p = reported_leaves _
  effect_leaves (T.Setup s) e p = rw e (setup_leaves s p.good)

  record_leaves : (d : Decoded) → Leaves (record_change c slots d)
  unfolding record_change task_change
  record_leaves (Ok r) = by_outcome Err _ Leaves (table c (asked_by m.ledger.books slots (task_of r))) turned_leaves (λ none. let p = passed c _ none in effect_leaves (task_of r) (let_through c slots whole (task_of r) p) p)
  record_leaves (Err why) = turned_leaves Why.BadRecord

pub stays_whole : (m : Machine) (d : Decoded) → Whole m → Whole (step_of m d).machine
unfolding change_of
stays_whole m d whole = rw (step_made {m = m} {d = d} (record { slots = slots_of m; broken = false; table = refl; form = whole; made = refl })) (record_leaves m whole d)
