-- The laws of 01's step: each refusal, exactly, what it leaves, and what an accepted record answers and leaves.
use Rattle.std.specs.Prelude.{Result, Ok, Err}
use Prim.Native.Nat.{ℕ}
use mathlib.Core.Path.{◌≡◌, refl, sym, ap, ◌∙◌}
use mathlib.Core.Bool.{Bool, true, false, false≢true}
use mathlib.Core.List.{List, [], ◌∷◌, ◌++◌}
use mathlib.Core.Logic.{inl, inr}
use Rattle.error.proofs.Tests.{clash}
use Rattle.error.specs.InOrder.{Row, in_order, NoneHolds, FirstIs}
use Rattle.error.proofs.Ordered.{accepts, refuses, refused_only, by_outcome, carried, in_turn}
use Rattle.counter.specs.declared.Gaps.{Gaps}
use Rattle.clock.specs.Timer.{GoodSetup}
use Rattle.clock.specs.Sample.{sample_value}
use Rattle.clock.specs.Announce.{announce_of}
use Rattle.books.specs.declared.Operation.{Operation}
use Rattle.ledger.specs.Operate.{operate_of}
use Rattle.trace.specs.declared.Record.{Record}
use Rattle.trace.specs.declared.Record.TheVariants as K
use Rattle.trace.specs.declared.Setup.{Setup}
use Rattle.trace.specs.Decode.{Decoded}
use Rattle.table.specs.declared.Reason.{Reason}
use Rattle.table.specs.declared.Reason.TheVariants as Why
use Rattle.table.specs.declared.Values.{Values}
use Rattle.table.specs.Says.{Outcome}
use Rattle.table.specs.declared.tasks.Asked.{Asked}
use Rattle.table.specs.declared.tasks.Task.{Task}
use Rattle.table.specs.declared.tasks.Task.TheVariants as T
use Rattle.table.specs.declared.tasks.Then.{Then}
use Rattle.table.specs.declared.tasks.Then.TheVariants as W
use Rattle.table.specs.Task.{task_of, asked_by}
use Rattle.table.specs.Table.{malformed, table, after_touch, columns}
use Rattle.machine.specs.declared.Machine.{Machine}
use Rattle.machine.specs.declared.Stepped.{Stepped}
use Rattle.machine.specs.Step.{core_of, slots_of, announce_rows, last_rows, task_rows, record_rows, rows_of, with_timer, Done, done_by, accepted_by, stepped_to, turned_away, step_of}
use Rattle.machine.proofs.Passed.{Passed, passed, none_holds, before_sum}
use Rattle.machine.specs.Making.{operation_tells, entered_by}
use Rattle.machine.specs.Laws.{Operates, Exactly, KeptByRefusal, EveryAnswer}
use Rattle.machine.proofs.Accepting.{Runs, Samples, Accepts, let_through}
use Rattle.machine.proofs.Tying.{operation_made}
use Rattle.clock.specs.declared.Announcement.{Announcement}
use Rattle.error.specs.declared.Refusal.{Refusal}

-- a step by any rows: its outcome is that of its tests
module _ (m : Machine) (rows : List (Row Reason)) (done : Done) where
  abbrev pub by_rows : Stepped
  by_rows = in_order rows (turned_away m done) (stepped_to done)

  outcome_is : by_rows.outcome ≡ in_order rows Err (Ok done.values)
  outcome_is = carried (λ (s : Stepped). s.outcome) (turned_away m done) (stepped_to done) rows

  none_held : (answered : Values) → by_rows.outcome ≡ Ok answered → NoneHolds rows
  none_held answered e = by_outcome Err _ (λ (o : Outcome). o ≡ Ok answered → NoneHolds rows) rows (λ why q. clash (cc)) (λ none q. none) (sym outcome_is ∙ e)

  first_held : (why : Reason) → by_rows.outcome ≡ Err why → FirstIs rows why
  first_held why e = refused_only Err _ (λ w q. clash (cc)) (λ r s q. cc) rows why (sym outcome_is ∙ e)

  done_step : (answered : Values) → by_rows.outcome ≡ Ok answered → by_rows ≡ stepped_to done
  done_step answered e = accepts (turned_away m done) (stepped_to done) rows (none_held answered e)

  refused_step : (why : Reason) → by_rows.outcome ≡ Err why → by_rows ≡ turned_away m done why
  refused_step why e = refuses (turned_away m done) (stepped_to done) rows why (first_held why e)

  done_is : (answered : Values) → by_rows.outcome ≡ Ok answered → (answered ≡ done.values) × (by_rows.machine ≡ done.machine)
  done_is answered e =
      let is = done_step answered e in
      let outcome : Ok answered ≡ Ok done.values = sym e ∙ ap (λ (s : Stepped). s.outcome) is in
      (cc, ap (λ (s : Stepped). s.machine) is)

-- nothing is touched but where a sum or window does not fit
pub touched_why : (why : Reason) → after_touch why ≡ true → why ≡ Why.WontFit
unfolding columns
touched_why Why.Malformed e = absurd (false≢true e)
touched_why Why.BadRecord e = absurd (false≢true e)
touched_why Why.NotSetUp e = absurd (false≢true e)
touched_why Why.SecondSetup e = absurd (false≢true e)
touched_why Why.NoThread e = absurd (false≢true e)
touched_why Why.Running e = absurd (false≢true e)
touched_why Why.AnnounceFirst e = absurd (false≢true e)
touched_why Why.CyclesAbove e = absurd (false≢true e)
touched_why (Why.NotAnnounced leafs) e = absurd (false≢true e)
touched_why Why.WontFit e = refl

untouched_why : (why : Reason) → (why ≡ Why.WontFit → ⊥) → after_touch why ≡ false
untouched_why why other = by_test (after_touch why) refl
  where
    by_test : (t : Bool) → after_touch why ≡ t → t ≡ false
    by_test true e = absurd (other (touched_why why e))
    by_test false e = refl

module _ (m : Machine) (d : Decoded) where
  pub exactly : Exactly step_of m d
  unfolding step_of
  exactly = record {
    refused = λ why. (first_held m (rows_of m d) (accepted_by m d) why, (λ first. outcome_is m (rows_of m d) (accepted_by m d) ∙ refuses Err _ (rows_of m d) why first));
    accepted = (
      (λ e. none_held m (rows_of m d) (accepted_by m d) e.0 e.1),
      (λ none. (_, outcome_is m (rows_of m d) (accepted_by m d) ∙ accepts Err _ (rows_of m d) none)),
    );
  }

  untouched : (why : Reason) → (step_of m d).outcome ≡ Err why → (why ≡ Why.WontFit → ⊥) → (step_of m d).machine ≡ m
  unfolding step_of
  untouched why e other = ap (λ (s : Stepped). s.machine) (refused_step m (rows_of m d) (accepted_by m d) why e) ∙ rw (untouched_why why other) refl

first_none : (rows more : List (Row Reason)) → NoneHolds (rows ++ more) → NoneHolds rows
first_none [] more none = tt
first_none (row ∷ rows) more none = (none.0, first_none rows more none.1)

module _ (m : Machine) where
  abbrev asks : Task → Asked
  asks = asked_by m.ledger.books (slots_of m)

  abbrev all_rows : Task → List (Row Reason)
  all_rows task = (malformed (core_of m) (slots_of m), Why.Malformed) ∷ task_rows m task

  -- a record's step is its task's
  unfoldable pub task_step : Task → Stepped
  task_step task = by_rows m (all_rows task) (done_by m task)

  pub of_task : (r : Record) → step_of m (Ok r) ≡ task_step (task_of r)
  unfolding step_of record_rows accepted_by task_step
  of_task r = refl

  pub task_done : (task : Task) (answered : Values) → (task_step task).outcome ≡ Ok answered → (answered ≡ (done_by m task).values) × ((task_step task).machine ≡ (done_by m task).machine)
  unfolding task_step
  task_done task = done_is m (all_rows task) (done_by m task)

  pub task_refused : (task : Task) (why : Reason) → (task_step task).outcome ≡ Err why → task_step task ≡ turned_away m (done_by m task) why
  unfolding task_step
  task_refused task = refused_step m (all_rows task) (done_by m task)

  -- nothing turned the task away before the touch
  pub record Touches (task : Task) : Type 0 where
    pub whole : malformed (core_of m) (slots_of m) ≡ false
    pub passed : Passed (core_of m) (asks task)

  -- what was accepted was touched, and so was a sum that did not fit
  pub touches_accepted : (task : Task) (values : Values) → (task_step task).outcome ≡ Ok values → Touches task
  unfolding task_step
  touches_accepted task values e =
      let none = none_held m (all_rows task) (done_by m task) values e in
      record { whole = none.0; passed = passed (core_of m) (asks task) (first_none (table (core_of m) (asks task)) (last_rows m task) none.1) }

  -- nor is the malformed state a sum that won't fit
  touched_sum : (task : Task) → FirstIs (all_rows task) Why.WontFit → Touches task × FirstIs (last_rows m task) Why.WontFit
  touched_sum task (inl here) = clash (let e = here.1 in cc)
  touched_sum task (inr later) =
      let rest = before_sum (core_of m) (asks task) (last_rows m task) later.1 in
      (record { whole = later.0; passed = rest.0 }, rest.1)

  pub touches_sum : (task : Task) → (task_step task).outcome ≡ Err Why.WontFit → Touches task × FirstIs (last_rows m task) Why.WontFit
  unfolding task_step
  touches_sum task e = touched_sum task (first_held m (all_rows task) (done_by m task) Why.WontFit e)

  -- what is touched meets the last rows
  had : (task : Task) → Touches task → task_step task ≡ in_order (last_rows m task) (turned_away m (done_by m task)) (stepped_to (done_by m task))
  unfolding task_step
  had task t =
      let refuse = turned_away m (done_by m task) in
      let rows = table (core_of m) (asks task) in
      rw t.whole (in_turn refuse rows (last_rows m task) (stepped_to (done_by m task)) ∙ accepts refuse _ rows (none_holds (core_of m) (asks task) [] t.passed tt))

  -- and is done where it has none
  pub done : (task : Task) → last_rows m task ≡ [] → Touches task → task_step task ≡ stepped_to (done_by m task)
  done task none t = had task t ∙ rw none refl

  -- an operation is what the ledger makes of it at the sample's reading
  pub operated : (g : Gaps) (op : Operation) → Touches (T.Sample g (W.Operate op)) → task_step (T.Sample g (W.Operate op)) ≡ entered_by m (sample_value m.timer g).timer (operate_of m.ledger (sample_value m.timer g).reading op)
  operated g op t = had (T.Sample g (W.Operate op)) t ∙ sym (operation_made m g op t.whole t.passed)

  pub answered : (g : Gaps) (op : Operation) → Touches (T.Sample g (W.Operate op)) → (task_step (T.Sample g (W.Operate op))).outcome ≡ operation_tells (operate_of m.ledger (sample_value m.timer g).reading op).answer
  answered g op t = ap (λ (s : Stepped). s.outcome) (operated g op t)

  -- what the entries below accept
  pub runs_accepted : (p : ℕ) → Touches (T.Run p) → Runs (core_of m) p
  unfolding Accepts
  runs_accepted p t = let_through (core_of m) (slots_of m) t.whole (T.Run p) t.passed

  pub sample_accepted : (g : Gaps) (then : Then) → Touches (T.Sample g then) → Samples (core_of m) g
  unfolding Accepts
  sample_accepted g then t = let_through (core_of m) (slots_of m) t.whole (T.Sample g then) t.passed

  pub no_setup : (s : Setup) → m.ready ≡ true → Touches (T.Setup s) → ⊥
  unfolding asked_by
  no_setup s r t = absurd (false≢true (sym (rw r at t.passed.first)))

  -- the tests of an operation are those of its sample, and more
  sample_touches : (g : Gaps) (op : Operation) → Touches (T.Sample g (W.Operate op)) → Touches (T.Sample g W.Tell)
  unfolding asked_by
  sample_touches g op t =
      let p = t.passed in
      record { whole = t.whole; passed = record { good = refl; known = p.known; first = p.first; named = refl; free = refl; room = p.room; fits = p.fits } }

  -- nothing but an operation has a sum
  pub sum_of : (task : Task) → FirstIs (last_rows m task) Why.WontFit → (g : Gaps) × (op : Operation) × (task ≡ T.Sample g (W.Operate op))
  unfolding last_rows announce_rows
  sum_of (T.Run p) first = absurd first
  sum_of (T.Sample g W.Tell) first = absurd first
  sum_of (T.Sample g (W.Operate op)) first = (g, op, refl)
  sum_of T.Announce first = absurd (no_sum (announce_of m.timer) first)
    where
      no_sum : (x : Result Announcement Refusal) → FirstIs (announce_rows x) Why.WontFit → ⊥
      no_sum (Ok a) first = first
      no_sum (Err why) (inl here) = clash (let e = here.1 in cc)
      no_sum (Err why) (inr later) = later.1
  sum_of (T.Report i) first = absurd first
  sum_of (T.Setup s) first = absurd first

  -- what a refused sum leaves: the sample, which is accepted by itself, and the ledger
  pub sum_kept : (g : Gaps) (op : Operation) → (task_step (T.Sample g (W.Operate op))).outcome ≡ Err Why.WontFit → ((task_step (T.Sample g (W.Operate op))).machine ≡ with_timer m (sample_value m.timer g).timer) × (task_step (T.Sample g W.Tell) ≡ stepped_to (done_by m (T.Sample g W.Tell)))
  unfolding columns done_by last_rows
  sum_kept g op e = (
    ap (λ (s : Stepped). s.machine) (task_refused (T.Sample g (W.Operate op)) Why.WontFit e),
    done (T.Sample g W.Tell) refl (sample_touches g op (touches_sum (T.Sample g (W.Operate op)) e).0),
  )

  kept_sample : (d : Decoded) (r : Record) (g : Gaps) → d ≡ Ok r → Operates r g → (step_of m d).outcome ≡ Err Why.WontFit → ((step_of m d).machine ≡ with_timer m (step_of m (Ok (K.Sample g))).machine.timer) × (step_of m (Ok (K.Sample g)) ≡ stepped_to (done_by m (T.Sample g W.Tell)))
  unfolding task_of done_by
  kept_sample d r g ed o e =
      let task = of_task r ∙ ap task_step o.1 in
      let kept = sum_kept g o.0 (rw (ed, task) at e) in
      let sample = of_task (K.Sample g) ∙ kept.1 in
      (rw (ed, task, sample) kept.0, sample)

  only_operations : (d : Decoded) → (step_of m d).outcome ≡ Err Why.WontFit → (r : Record) × (g : Gaps) × (d ≡ Ok r) × Operates r g
  unfolding record_rows
  only_operations (Ok r) e =
      let found = sum_of (task_of r) (touches_sum (task_of r) (rw (of_task r) at e)).1 in
      (r, found.0, refl, (found.1, found.2))
  only_operations (Err why) e = absurd (no_row (((exactly m (Err why)).refused Why.WontFit).0 e))
    where
      at_record : FirstIs (record_rows m (Err why)) Why.WontFit → ⊥
      at_record (inl here) = clash (let e = here.1 in cc)
      at_record (inr later) = later.1

      no_row : FirstIs (rows_of m (Err why)) Why.WontFit → ⊥
      no_row (inl here) = clash (let e = here.1 in cc)
      no_row (inr later) = at_record later.1

pub every_refusal : (m : Machine) (d : Decoded) → Exactly step_of m d × KeptByRefusal step_of m d
every_refusal m d = (exactly m d, record { untouched = untouched m d; sampled = kept_sample m d; only_operations = only_operations m d })

pub every_answer : EveryAnswer step_of
every_answer m r answered e = rw (of_task m r) (task_done m (task_of r) answered (rw (of_task m r) at e))

-- a good setup is taken by a machine that is not set up
pub setup_touches : (m : Machine) (s : Setup) → m.ready ≡ false → GoodSetup s.period s.tick → m.timer.counter.cycles.0 ≡ 0 → Touches m (T.Setup s)
unfolding malformed asked_by
setup_touches m s ready good cycles = record {
  whole = rw ready refl;
  passed = record { good = good; known = rw ready refl; first = rw ready refl; named = refl; free = refl; room = refl; fits = rw cycles refl };
}
