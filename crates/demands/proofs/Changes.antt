-- What the code works out of a record is the table's rows and then what is new.
use Rattle.std.specs.Prelude.{Result, Ok, Err}
use Prim.Native.Nat.{ℕ}
use mathlib.Core.Path.{◌≡◌, refl, sym, ap, ◌∙◌}
use mathlib.Core.Bool.{Bool, true, false}
use Rattle.error.specs.InOrder.{in_order}
use Rattle.error.proofs.Ordered.{same_answer, in_turn}
use Rattle.clock.specs.declared.Announcement.{Announcement}
use Rattle.clock.specs.Announce.{announce_of}
use Rattle.trace.specs.Decode.{Decoded}
use Rattle.table.specs.declared.Core.{Core}
use Rattle.table.specs.declared.changes.Change.TheVariants as X
use Rattle.table.specs.declared.tasks.Task.{Task}
use Rattle.table.specs.declared.tasks.Task.TheVariants as T
use Rattle.table.specs.declared.tasks.Then.TheVariants as W
use Rattle.table.specs.Task.{task_of, asked_by}
use Rattle.table.specs.Table.{malformed, table}
use Rattle.table.specs.Says.{announcement_tells}
use Rattle.table.specs.Change.{ran_change, sampled_change, announced_change, set_up_change, effect_change, task_change, record_change, change_of}
use Rattle.machine.specs.Step.{announce_rows}
use Rattle.machine.proofs.Passed.{passed}
use Rattle.machine.proofs.Accepting.{announcement_is, Accepts, let_through}
use Rattle.demands.specs.Changes.{leaf_rows, new_by, record_by, change_by, ChangesExact}
use Rattle.error.specs.declared.Refusal.{Refusal}

module _ (c : Core) (slots : ℕ) where
  announced_by : (x : Result Announcement Refusal) → announce_of c.timer ≡ x → announced_change x ≡ in_order (announce_rows x) Err (Ok (new_by c T.Announce))
  unfolding announced_change announce_rows new_by
  announced_by (Ok a) q = ap (λ (a : Announcement). Ok (X.Told a.timer (announcement_tells a))) (announcement_is c.timer a q)
  announced_by (Err why) q = refl

  effect_by : (task : Task) → Accepts c task → effect_change c task ≡ in_order (leaf_rows c task) Err (Ok (new_by c task))
  unfolding Accepts ran_change sampled_change set_up_change effect_change leaf_rows new_by
  effect_by (T.Run p) e = rw e refl
  effect_by (T.Sample g W.Tell) e = rw e refl
  effect_by (T.Sample g (W.Operate op)) e = rw e refl
  effect_by T.Announce e = announced_by (announce_of c.timer) refl
  effect_by (T.Report i) e = refl
  effect_by (T.Setup s) e = rw e refl

  record_by_lem : malformed c slots ≡ false → (d : Decoded) → record_change c slots d ≡ record_by c slots d
  unfolding task_change record_change record_by
  record_by_lem whole (Ok r) =
      let rows = table c (asked_by c.books slots (task_of r)) in
      same_answer Err rows _ _ (λ none. effect_by (task_of r) (let_through c slots whole (task_of r) (passed c (asked_by c.books slots (task_of r)) none))) ∙
      sym (in_turn Err rows (leaf_rows c (task_of r)) (Ok (new_by c (task_of r))))
  record_by_lem whole (Err why) = refl

  change_by_lem : (broken : Bool) (d : Decoded) → (broken ≡ false → malformed c slots ≡ false) → change_of broken c slots d ≡ change_by broken c slots d
  unfolding change_of
  change_by_lem true d sound = refl
  change_by_lem false d sound = record_by_lem (sound refl) d

pub changes_exact : ChangesExact
changes_exact = record {
  change_of_lem = λ c slots d r given. given.2 ∙ change_by_lem c slots (malformed c slots) d (λ e. e);
  change_at_lem = λ broken c slots trace at sound r given. given.2 ∙ change_by_lem c slots broken _ sound;
}
