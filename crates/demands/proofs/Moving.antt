-- What one task does to the machine, told as the clock's and the ledger's own onlookers see it.
use Rattle.std.specs.Prelude.{Result, Ok, Err}
use Prim.Native.Nat.{ℕ, ◌+◌, ◌*◌, ◌≤◌, ◌<◌}
use mathlib.Core.Path.{◌≡◌, refl, sym, ap, ◌∙◌, subst}
use mathlib.Core.Bool.{Bool, true, false, cond}
use mathlib.Core.List.{List, [], ◌∷◌, ◌++◌}
use mathlib.Core.Logic.{inl, inr}
use native.Mathlib.Omega.{arith}
use native.Mathlib.Nat.{add-zero, zero-mul}
use lib.ListN.{length}
use Rattle.error.proofs.Tests.{clash}
use Rattle.error.specs.declared.Refusal.{Refusal}
use Rattle.units.specs.declared.Cycles.{Cycles}
use Rattle.counter.specs.Entries.{ran_of}
use Rattle.counter.specs.Cycle.{run_n}
use Rattle.counter.specs.declared.Gaps.{Gaps}
use Rattle.clock.specs.declared.Timer.{Timer}
use Rattle.clock.specs.declared.Announcement.{Announcement}
use Rattle.counter.specs.Readings.{cycles_of}
use Rattle.clock.specs.Sample.{sample_value}
use Rattle.clock.specs.Entries.{sample_of}
use Rattle.clock.specs.Announce.{announce_of}
use Rattle.clock.proofs.Run as clock
use Rattle.books.specs.declared.Operation.{Operation}
use Rattle.ledger.specs.declared.Ledger.{Ledger}
use Rattle.ledger.specs.Laws.{AnswerIs}
use Rattle.ledger.specs.Operate.{operate_of}
use Rattle.ledger.proofs.Holds.{Timely}
use Rattle.ledger.proofs.Run as ledger
use Rattle.ledger.proofs.Operated.{every_operation}
use Rattle.trace.specs.declared.Record.{Record}
use Rattle.trace.specs.declared.Record.TheVariants as K
use Rattle.machine.specs.declared.Machine.{Machine}
use Rattle.table.specs.declared.Values.{Values}
use Rattle.table.specs.declared.Reason.{Reason}
use Rattle.table.specs.declared.Reason.TheVariants as Why
use Rattle.table.specs.Says.{Outcome}
use Rattle.table.specs.declared.tasks.Task.{Task}
use Rattle.table.specs.declared.tasks.Task.TheVariants as T
use Rattle.table.specs.declared.tasks.Then.TheVariants as W
use Rattle.table.specs.Task.{task_of}
use Rattle.table.specs.Table.{malformed, after_touch}
use Rattle.machine.specs.declared.Stepped.{Stepped}
use Rattle.machine.specs.Making.{operation_tells}
use Rattle.machine.specs.Step.{core_of, announce_rows, last_rows, record_rows, done_by, step_of}
use Rattle.machine.proofs.Accepting.{announcement_is, Samples}
use Rattle.machine.proofs.Stepping as stepping
use Rattle.machine.proofs.Stepping.{task_step, Touches, every_refusal}
use Rattle.demands.specs.Trace.{Does, nothing, runs, tell, samples, operates, does_of, sample_only, happened, Watched, time_c, seen}
use Rattle.demands.proofs.Counting.{Tracks, tracks_run, tracks_announce, tracks_sample}

-- what a task lets happen: the onlooker reads it off the record, and it comes to the same
abbrev pub task_does : Task → ℕ → Does
task_does (T.Run p) x = runs p
task_does (T.Sample g W.Tell) x = samples g
task_does (T.Sample g (W.Operate op)) x = operates op g x
task_does T.Announce x = tell x
task_does (T.Report i) x = nothing
task_does (T.Setup s) x = nothing

does_is : (r : Record) (x : ℕ) → does_of r x ≡ task_does (task_of r) x
unfolding task_of
does_is (K.Run p) x = refl
does_is (K.Sample g) x = refl
does_is K.Announce x = refl
does_is (K.Start i g) x = refl
does_is (K.Switch i g) x = refl
does_is (K.Stop g) x = refl
does_is (K.Enable i g) x = refl
does_is (K.Disable i g) x = refl
does_is (K.Report i) x = refl
does_is (K.Setup s) x = refl

unfoldable pub happened_by : Task → Outcome → Does
happened_by task (Ok values) = task_does task values.x
happened_by task (Err why) = cond (after_touch why) (sample_only (task_does task 0)) nothing

same_happened : (r : Record) (o : Outcome) → happened (Ok r) o ≡ happened_by (task_of r) o
unfolding happened happened_by
same_happened r (Ok values) = does_is r values.x
same_happened r (Err why) = ap (λ (d : Does). cond (after_touch why) (sample_only d) nothing) (does_is r 0)

pub happened_is : (m : Machine) (r : Record) → happened (Ok r) (step_of m (Ok r)).outcome ≡ happened_by (task_of r) (task_step m (task_of r)).outcome
happened_is m r = ap (λ (s : Stepped). happened (Ok r) s.outcome) (stepping.of_task m r) ∙ same_happened r (task_step m (task_of r)).outcome

-- to the clock's own onlooker
unfoldable pub time_of : Task → List clock.Event
time_of (T.Run p) = clock.run p ∷ []
time_of (T.Sample g then) = clock.sample g ∷ []
time_of T.Announce = clock.announce ∷ []
time_of (T.Report i) = []
time_of (T.Setup s) = []

-- events after events
pub on_and_on : (es more : List clock.Event) (w : clock.World) → clock.after (es ++ more) w ≡ clock.after more (clock.after es w)
unfolding clock.after
on_and_on [] more w = refl
on_and_on (e ∷ es) more w = on_and_on es more (clock.step e w)

pub fair_on : (es more : List clock.Event) (w : clock.World) → clock.FairRun es w → clock.FairRun more (clock.after es w) → clock.FairRun (es ++ more) w
unfolding clock.after
fair_on [] more w f g = g
fair_on (e ∷ es) more w f g = (f.0, fair_on es more (clock.step e w) f.1 g)

pub entries_on : (es more : List ledger.Event) (w : ledger.World) → ledger.after (es ++ more) w ≡ ledger.after more (ledger.after es w)
unfolding ledger.after
entries_on [] more w = refl
entries_on (e ∷ es) more w = entries_on es more (ledger.step e w)

-- times that never fall, up to a later time, and one entry more
pub later : (from : ℕ) (es : List ledger.Event) (to more : ℕ) → Timely from es to → to ≤ more → Timely from es more
later from [] to more t h = omega arith
later from (e ∷ es) to more t h = (t.0, later e.time es to more t.1 h)

pub one_later : (from : ℕ) (es : List ledger.Event) (e : ledger.Event) (to : ℕ) → Timely from es e.time → e.time ≤ to → Timely from (es ++ e ∷ []) to
one_later from [] e to t h = (t, h)
one_later from (f ∷ es) e to t h = (t.0, one_later f.time es e to t.1 h)

-- how a task ends: accepted, a sum or window refused after the touch, or refused before it
pub data Ending (m : Machine) (task : Task) : Type 0 where
  taken : (values : Values) → (task_step m task).outcome ≡ Ok values → Touches m task → Ending m task
  summed : (g : Gaps) (op : Operation) → task ≡ T.Sample g (W.Operate op) → (task_step m (T.Sample g (W.Operate op))).outcome ≡ Err Why.WontFit → Touches m (T.Sample g (W.Operate op)) → Ending m task
  left : (why : Reason) → (task_step m task).outcome ≡ Err why → after_touch why ≡ false → (task_step m task).machine ≡ m → Ending m task

pub ending : (m : Machine) (task : Task) → Ending m task
ending m task = by_outcome (task_step m task).outcome refl
  where
    after_sum : (task_step m task).outcome ≡ Err Why.WontFit → Ending m task
    after_sum e =
        let p = stepping.touches_sum m task e in
        let found = stepping.sum_of m task p.1 in
        summed found.0 found.1 found.2 (rw found.2 at e) (rw found.2 at p.0)

    by_touch : (why : Reason) → (task_step m task).outcome ≡ Err why → (t : Bool) → after_touch why ≡ t → Ending m task
    by_touch why e true t = after_sum (e ∙ ap Err (stepping.touched_why why t))
    by_touch why e false t = left why e t (ap (λ (s : Stepped). s.machine) (stepping.task_refused m task why e) ∙ rw t refl)

    by_outcome : (o : Outcome) → (task_step m task).outcome ≡ o → Ending m task
    by_outcome (Ok values) e = taken values e (stepping.touches_accepted m task values e)
    by_outcome (Err why) e = by_touch why e (after_touch why) refl

-- what a touched task does: the counter and clock as the clock's onlooker's, the ledger by so many entries
pub record Moved (m : Machine) (x : clock.World) (task : Task) : Type 0 where
  pub ready : (task_step m task).machine.ready ≡ m.ready
  pub timer : (task_step m task).machine.timer ≡ (clock.after (time_of task) x).timer
  pub entries : List ledger.Event
  pub entered : (lw : ledger.World) → lw.ledger ≡ m.ledger → (task_step m task).machine.ledger ≡ (ledger.after entries lw).ledger

-- the entry of an operation, at its sample's reading
abbrev pub entry_at : Machine → Gaps → Operation → ledger.Event
entry_at m g op = record { operation = op; time = (sample_value m.timer g).reading.0 }

module _ (m : Machine) (x : clock.World) (together : m.timer ≡ x.timer) where
  -- nothing entered
  unfoldable pub idle : (task : Task) (timer : Timer) → (task_step m task).machine ≡ record { ready = m.ready; timer = timer; ledger = m.ledger } → timer ≡ (clock.after (time_of task) x).timer → Moved m x task
  unfolding ledger.after
  idle task timer e q = record {
    ready = ap (λ (n : Machine). n.ready) e;
    timer = ap (λ (n : Machine). n.timer) e ∙ q;
    entries = [];
    entered = λ lw same. ap (λ (n : Machine). n.ledger) e ∙ sym same;
  }

  -- the onlooker's sample is the machine's
  pub sample_time : (g : Gaps) → Samples (core_of m) g → (sample_value m.timer g).timer ≡ (clock.after (clock.sample g ∷ []) x).timer
  unfolding clock.after clock.step
  sample_time g accepted = sym (rw (sym together, accepted) refl)

  unfoldable pub operation : (g : Gaps) (op : Operation) → Touches m (T.Sample g (W.Operate op)) → Moved m x (T.Sample g (W.Operate op))
  unfolding ledger.after ledger.step time_of
  operation g op t =
      let is = stepping.operated m g op t in
      record {
        ready = ap (λ (s : Stepped). s.machine.ready) is;
        timer = ap (λ (s : Stepped). s.machine.timer) is ∙ sample_time g (stepping.sample_accepted m g (W.Operate op) t);
        entries = entry_at m g op ∷ [];
        entered = λ lw same. ap (λ (s : Stepped). s.machine.ledger) is ∙ sym (entry_ledger lw same (sample_value m.timer g).reading op);
      }
    where
      answered : (lw : ledger.World) (e : ledger.Event) (l : Ledger) (a : Result ℕ Refusal) → (ledger.after_answer lw e l a).ledger ≡ l
      answered lw e l (Ok cycles) = refl
      answered lw e l (Err why) = refl

      entry_ledger : (lw : ledger.World) → lw.ledger ≡ m.ledger → (reading : Cycles) (op : Operation) → (ledger.step (record { operation = op; time = reading.0 }) lw).ledger ≡ (operate_of m.ledger reading op).ledger
      entry_ledger lw same reading op = answered lw (record { operation = op; time = reading.0 }) (operate_of lw.ledger reading op).ledger (operate_of lw.ledger reading op).answer ∙ ap (λ (l : Ledger). (operate_of l reading op).ledger) same

  -- where nothing is left to refuse it, a task leaves what it does
  pub leaves : (task : Task) → last_rows m task ≡ [] → Touches m task → (task_step m task).machine ≡ (done_by m task).machine
  leaves task none t = ap (λ (s : Stepped). s.machine) (stepping.done m task none t)

  unfoldable pub moved : (task : Task) → m.ready ≡ true → ((a : Announcement) × (announce_of m.timer ≡ Ok a)) → Touches m task → Moved m x task
  unfolding last_rows announce_rows done_by clock.after clock.step time_of
  moved (T.Run p) ready a t = idle (T.Run p) _ (leaves (T.Run p) refl t) (sym (rw (sym together, stepping.runs_accepted m p t) refl))
  moved (T.Sample g W.Tell) ready a t = idle (T.Sample g W.Tell) _ (leaves (T.Sample g W.Tell) refl t) (sample_time g (stepping.sample_accepted m g W.Tell t))
  moved (T.Sample g (W.Operate op)) ready a t = operation g op t
  moved T.Announce ready a t = idle T.Announce _ (leaves T.Announce (rw a.1 refl) t) (ap (λ (x : Announcement). x.timer) (sym (announcement_is m.timer a.0 a.1)) ∙ sym (rw (sym together, a.1) refl))
  moved (T.Report i) ready a t = idle (T.Report i) m.timer (leaves (T.Report i) refl t) together
  moved (T.Setup s) ready a t = absurd (stepping.no_setup m s ready t)

  -- the cycles that a touched task runs, by 01's counter
  module _ (period : ℕ) (w : Watched) (k : Tracks period w.ran w.at_c x) (after : Machine) (n : ℕ) where
    unfoldable pub Follows : Task → Type 0
    Follows task = Tracks period (seen (task_does task n) after w).ran (seen (task_does task n) after w).at_c (clock.after (time_of task) x)

    sample_follows : (g : Gaps) → Samples (core_of m) g → Tracks period (w.ran + cycles_of g) (time_c w.ran g) (clock.step (clock.sample g) x)
    sample_follows g accepted = tracks_sample period w.ran w.at_c x k g (subst (λ (t : Timer). sample_of t g ≡ Ok (sample_value t g)) together accepted)

    pub follows : (task : Task) → m.ready ≡ true → Touches m task → Follows task
    unfolding Follows seen time_of clock.after
    follows (T.Run p) ready t = tracks_run period w.ran w.at_c x k p (subst (λ (t : Timer). ran_of t.counter p ≡ Ok (run_n p t.counter)) together (stepping.runs_accepted m p t))
    follows (T.Sample g W.Tell) ready t = sample_follows g (stepping.sample_accepted m g W.Tell t)
    follows (T.Sample g (W.Operate op)) ready t = sample_follows g (stepping.sample_accepted m g (W.Operate op) t)
    follows T.Announce ready t = tracks_announce period w.ran w.at_c x k
    follows (T.Report i) ready t = k
    follows (T.Setup s) ready t = absurd (stepping.no_setup m s ready t)

-- the cycles answered, and what they add to the machine total
unfoldable pub answered_of : Does → ℕ
answered_of nothing = 0
answered_of (runs n) = 0
answered_of (tell n) = 0
answered_of (samples g) = 0
answered_of (operates op g x) = x

pub told_accepted : (a : Result ℕ Refusal) (values : Values) → operation_tells a ≡ Ok values → a ≡ Ok values.x
unfolding operation_tells
told_accepted (Ok cycles) values e = cc
told_accepted (Err why) values e = clash (cc)

pub told_refused : (a : Result ℕ Refusal) (other : Reason) → operation_tells a ≡ Err other → (why : Refusal) × (a ≡ Err why)
unfolding operation_tells
told_refused (Ok cycles) other e = clash (cc)
told_refused (Err why) other e = (why, refl)

module _ (m : Machine) (ready : m.ready ≡ true) (some : 0 < length m.ledger.threads) (values : Values) where
  operation_adds : (g : Gaps) (op : Operation) → Touches m (T.Sample g (W.Operate op)) → (task_step m (T.Sample g (W.Operate op))).outcome ≡ Ok values → (task_step m (T.Sample g (W.Operate op))).machine.ledger.books.total.0 ≡ m.ledger.books.total.0 + values.x
  operation_adds g op t e =
      let reading = (sample_value m.timer g).reading in
      let answer = told_accepted (operate_of m.ledger reading op).answer values (sym (stepping.answered m g op t) ∙ e) in
      let done = subst (AnswerIs m.ledger reading op (operate_of m.ledger reading op).ledger) answer (every_operation m.ledger reading op some) in
      ap (λ (s : Stepped). s.machine.ledger.books.total.0) (stepping.operated m g op t) ∙ done.entry.machine

  -- a task that leaves the ledger alone
  same_total : (task : Task) → (done_by m task).machine.ledger ≡ m.ledger → (task_step m task).outcome ≡ Ok values → (task_step m task).machine.ledger.books.total.0 ≡ m.ledger.books.total.0 + 0
  same_total task stays e = ap (λ (n : Machine). n.ledger.books.total.0) (stepping.task_done m task values e).1 ∙ (ap (λ (l : Ledger). l.books.total.0) stays ∙ sym (add-zero _))

  pub adds : (task : Task) → Touches m task → (task_step m task).outcome ≡ Ok values → (task_step m task).machine.ledger.books.total.0 ≡ m.ledger.books.total.0 + answered_of (task_does task values.x)
  unfolding answered_of done_by
  adds (T.Run p) t e = same_total (T.Run p) refl e
  adds (T.Sample g W.Tell) t e = same_total (T.Sample g W.Tell) refl e
  adds (T.Sample g (W.Operate op)) t e = operation_adds g op t e
  adds T.Announce t e = same_total T.Announce refl e
  adds (T.Report i) t e = same_total (T.Report i) refl e
  adds (T.Setup s) t e = absurd (stepping.no_setup m s ready t)

-- the ticks answered, and what they add to announced
unfoldable pub told_of : Does → ℕ
told_of nothing = 0
told_of (runs n) = 0
told_of (tell n) = n
told_of (samples g) = 0
told_of (operates op g x) = 0

none_told : (a tick : ℕ) → a ≡ a + 0 * tick
none_told a tick = omega (arith, zero-mul tick)

module _ (m : Machine) (values : Values) where
  same_announced : (task : Task) → (done_by m task).machine.timer.clock.announced.0 ≡ m.timer.clock.announced.0 → (task_step m task).outcome ≡ Ok values → (task_step m task).machine.timer.clock.announced.0 ≡ m.timer.clock.announced.0 + 0 * m.timer.clock.tick
  same_announced task stays e = ap (λ (n : Machine). n.timer.clock.announced.0) (stepping.task_done m task values e).1 ∙ (stays ∙ none_told _ m.timer.clock.tick)

  pub announced_after : m.ready ≡ true → (task : Task) → Touches m task → (task_step m task).outcome ≡ Ok values → (task_step m task).machine.timer.clock.announced.0 ≡ m.timer.clock.announced.0 + told_of (task_does task values.x) * m.timer.clock.tick
  unfolding told_of done_by
  announced_after ready (T.Run p) t e = same_announced (T.Run p) refl e
  announced_after ready (T.Sample g W.Tell) t e = same_announced (T.Sample g W.Tell) refl e
  announced_after ready (T.Sample g (W.Operate op)) t e = same_announced (T.Sample g (W.Operate op)) refl e
  announced_after ready T.Announce t e =
      let law = stepping.task_done m T.Announce values e in
      ap (λ (n : Machine). n.timer.clock.announced.0) law.1 ∙ ap (λ (v : Values). m.timer.clock.announced.0 + v.x * m.timer.clock.tick) (sym law.0)
  announced_after ready (T.Report i) t e = same_announced (T.Report i) refl e
  announced_after ready (T.Setup s) t e = absurd (stepping.no_setup m s ready t)

-- a sum that was refused added nothing, and announced nothing
pub sum_adds : (m : Machine) (g : Gaps) (op : Operation) → (task_step m (T.Sample g (W.Operate op))).outcome ≡ Err Why.WontFit → (task_step m (T.Sample g (W.Operate op))).machine.ledger.books.total.0 ≡ m.ledger.books.total.0 + 0
sum_adds m g op e = ap (λ (n : Machine). n.ledger.books.total.0) (stepping.sum_kept m g op e).0 ∙ sym (add-zero _)

pub sum_announces : (m : Machine) (g : Gaps) (op : Operation) → (task_step m (T.Sample g (W.Operate op))).outcome ≡ Err Why.WontFit → (task_step m (T.Sample g (W.Operate op))).machine.timer.clock.announced.0 ≡ m.timer.clock.announced.0 + 0 * m.timer.clock.tick
sum_announces m g op e = ap (λ (n : Machine). n.timer.clock.announced.0) (stepping.sum_kept m g op e).0 ∙ none_told _ m.timer.clock.tick

-- bytes that are no record leave the machine as it was
pub refused_left : (m : Machine) (why : Refusal) → (step_of m (Err why)).machine ≡ m
unfolding record_rows
refused_left m why = by_whole (malformed (core_of m) (length m.ledger.threads)) refl
  where
    by_whole : (t : Bool) → malformed (core_of m) (length m.ledger.threads) ≡ t → (step_of m (Err why)).machine ≡ m
    by_whole true e = (every_refusal m (Err why)).1.untouched Why.Malformed (((every_refusal m (Err why)).0.refused Why.Malformed).1 (inl (e, refl))) (λ q. clash (cc))
    by_whole false e = (every_refusal m (Err why)).1.untouched Why.BadRecord (((every_refusal m (Err why)).0.refused Why.BadRecord).1 (inr (e, inl (refl, refl)))) (λ q. clash (cc))
