-- The one law that ties a change to 01's step: made to a machine that is not malformed, it is the step.
use Rattle.std.specs.Prelude.{Result, Ok, Err}
use Prim.Native.Nat.{ℕ}
use mathlib.Core.Path.{◌≡◌, refl, sym, ap, ◌∙◌}
use mathlib.Core.Bool.{Bool, true, false}
use mathlib.Core.List.{List, [], ◌∷◌, ◌++◌}
use Rattle.error.specs.InOrder.{Row, in_order}
use Rattle.error.proofs.Ordered.{carried, same_answer, in_turn}
use Rattle.counter.specs.declared.Gaps.{Gaps}
use Rattle.clock.specs.declared.Announcement.{Announcement}
use Rattle.clock.specs.Sample.{reading_of, sample_value}
use Rattle.clock.specs.Announce.{announce_of}
use Rattle.books.specs.declared.Operation.{Operation}
use Rattle.books.specs.Running.{stamp_of, concerned}
use Rattle.books.specs.Entries.{enter_of}
use Rattle.books.proofs.Refusing.{EntryBy, entry_by}
use Rattle.ledger.specs.Operate.{stored_in, operate_of, report_of}
use Rattle.ledger.specs.Records.{concerned_record}
use Rattle.trace.specs.Decode.{Decoded}
use Rattle.table.specs.declared.Core.{Core}
use Rattle.table.specs.declared.Reason.{Reason}
use Rattle.table.specs.declared.Reason.TheVariants as Why
use Rattle.table.specs.declared.tasks.Asked.{Asked}
use Rattle.table.specs.declared.tasks.Task.{Task}
use Rattle.table.specs.declared.tasks.Task.TheVariants as T
use Rattle.table.specs.declared.tasks.Then.TheVariants as W
use Rattle.table.specs.Task.{task_of, asked_by}
use Rattle.table.specs.Table.{malformed, table, columns}
use Rattle.table.specs.declared.changes.Change.{Change}
use Rattle.table.specs.Change.{ran_change, sampled_change, announced_change, set_up_change, effect_change, task_change, record_change, change_of}
use Rattle.table.specs.Says.{announcement_tells}
use Rattle.machine.specs.declared.Machine.{Machine}
use Rattle.machine.specs.Step.{core_of, slots_of, announce_rows, full_row, last_rows, record_rows, with_timer, answers, after_operation, done_by, accepted_by, stepped_to, turned_away, step_of}
use Rattle.machine.specs.Making.{turned, operation_tells, entered_by, reported_by, made_of}
use Rattle.machine.proofs.Passed.{Passed, passed}
use Rattle.machine.proofs.Accepting.{recorded_of, announcement_is, Accepts, let_through}
use Rattle.books.specs.declared.Entry.{Entry}
use Rattle.error.specs.declared.Refusal.{Refusal}
use Rattle.error.specs.Said.{number_in}

module _ (m : Machine) where
  abbrev c : Core
  c = core_of m

  abbrev asks : Task → Asked
  asks = asked_by m.ledger.books (slots_of m)

  abbrev rows : Task → List (Row Reason)
  rows task = table c (asks task)

  -- what the table lets through, the ledger stores or refuses for a sum or window
  pub operation_stored : (g : Gaps) (op : Operation) → malformed c (slots_of m) ≡ false → Passed c (asks (T.Sample g (W.Operate op))) → operate_of m.ledger (sample_value m.timer g).reading op ≡ stored_in m.ledger (concerned m.ledger.books op) (enter_of m.ledger.books (concerned_record m.ledger op) (stamp_of (reading_of m.timer g)) op)
  unfolding operate_of asked_by
  operation_stored g op whole p = rw (recorded_of c (slots_of m) p.known whole, p.named, p.free) refl

  -- an entry is stored, or refused by the last row
  stored_made : (g : Gaps) (row : Row Reason) (k : ℕ) (x : Result Entry Refusal) → row.1 ≡ Why.WontFit → EntryBy row.0 x → let l = stored_in m.ledger k x in entered_by m (sample_value m.timer g).timer l ≡ in_order (row ∷ []) (turned_away m (after_operation m g l)) (stepped_to (after_operation m g l))
  unfolding stored_in operation_tells number_in EntryBy columns
  stored_made g row k (Ok e) why fits = rw fits refl
  stored_made g row k (Err r) why above = rw (above.1, why) refl

  pub operation_made : (g : Gaps) (op : Operation) → malformed c (slots_of m) ≡ false → Passed c (asks (T.Sample g (W.Operate op))) → entered_by m (sample_value m.timer g).timer (operate_of m.ledger (sample_value m.timer g).reading op) ≡ in_order (last_rows m (T.Sample g (W.Operate op))) (turned_away m (done_by m (T.Sample g (W.Operate op)))) (stepped_to (done_by m (T.Sample g (W.Operate op))))
  unfolding last_rows done_by
  operation_made g op whole p = rw (operation_stored g op whole p) (stored_made g (full_row m op g) _ _ refl (entry_by _ _ _ op))

  announced_made : (x : Result Announcement Refusal) → announce_of m.timer ≡ x → made_of m (announced_change x) ≡ in_order (announce_rows x) (turned_away m (done_by m T.Announce)) (stepped_to (done_by m T.Announce))
  unfolding made_of announced_change announce_rows columns done_by
  announced_made (Ok a) q = ap (λ (a : Announcement). stepped_to (answers (announcement_tells a) (with_timer m a.timer))) (announcement_is m.timer a q)
  announced_made (Err why) q = refl

  module _ (whole : malformed c (slots_of m) ≡ false) where
    effect_made : (task : Task) → Accepts c task → Passed c (asks task) → made_of m (effect_change c task) ≡ in_order (last_rows m task) (turned_away m (done_by m task)) (stepped_to (done_by m task))
    unfolding Accepts made_of ran_change sampled_change set_up_change effect_change last_rows columns done_by report_of reported_by asked_by
    effect_made (T.Run n) e p = rw e refl
    effect_made (T.Sample g W.Tell) e p = rw e refl
    effect_made (T.Sample g (W.Operate op)) e p = rw e (operation_made g op whole p)
    effect_made T.Announce e p = announced_made (announce_of m.timer) refl
    effect_made (T.Report i) e p = rw (recorded_of c (slots_of m) p.known whole, p.named) refl
    effect_made (T.Setup s) e p = rw e refl

    task_made : (task : Task) → made_of m (task_change c (slots_of m) task) ≡ in_order (rows task ++ last_rows m task) (turned_away m (done_by m task)) (stepped_to (done_by m task))
    unfolding made_of task_change columns
    task_made task =
        carried (made_of m) Err (effect_change c task) (rows task) ∙
        (same_answer (turned m) (rows task) _ _ (λ none. let p = passed c (asks task) none in effect_made task (let_through c (slots_of m) whole task p) p) ∙
        sym (in_turn (turned_away m (done_by m task)) (rows task) (last_rows m task) (stepped_to (done_by m task))))

    record_made : (d : Decoded) → made_of m (record_change c (slots_of m) d) ≡ step_of m d
    unfolding record_change step_of record_rows accepted_by made_of columns
    record_made (Ok r) = task_made (task_of r) ∙ rw whole refl
    record_made (Err why) = rw whole refl

  made_is : (d : Decoded) (broken : Bool) → malformed c (slots_of m) ≡ broken → step_of m d ≡ made_of m (change_of broken c (slots_of m) d)
  unfolding change_of step_of made_of columns
  made_is d true e = rw e refl
  made_is d false e = sym (record_made e d)

-- a record's turn at a machine: what it changes, worked out from the machine without its thread records
pub record Turn (m : Machine) (d : Decoded) (change : Result Change Reason) : Type 0 where
  pub slots : ℕ
  pub broken : Bool
  pub table : slots_of m ≡ slots
  pub form : malformed (core_of m) slots ≡ broken
  pub made : change ≡ change_of broken (core_of m) slots d

-- a record's step is its change, made
pub step_made : {m : Machine} {d : Decoded} {change : Result Change Reason} → Turn m d change → step_of m d ≡ made_of m change
step_made {m = m} {d = d} turn = made_is m d turn.broken (ap (malformed (core_of m)) turn.table ∙ turn.form) ∙ ap (made_of m) (ap (λ (k : ℕ). change_of turn.broken (core_of m) k d) turn.table ∙ sym turn.made)

-- the same of what is worked out from the machine's own core and table
pub step_worked_out : (m : Machine) (d : Decoded) {core : Core} {change : Result Change Reason} {slots : ℕ} → slots_of m ≡ slots → core ≡ core_of m → change ≡ change_of (malformed core slots) core slots d → step_of m d ≡ made_of m change
step_worked_out m d n e made = step_made (record { slots = _; broken = _; table = n; form = refl; made = rw e at made })
