-- Believed: what a record changes, worked out before anything is touched: the table's rows in order, and then only what is new of the state.
use Rattle.std.specs.Prelude.{ℕ, ◌≡◌, Bool, false, List, [], ◌∷◌, ◌++◌, Ok, Err, Result}
use Rattle.std.specs.Borrow.{Bor}
use Rattle.error.specs.InOrder.{Row, in_order}
use Rattle.counter.specs.Cycle.{run_n}
use Rattle.clock.specs.Timer.{setup}
use Rattle.clock.specs.Sample.{sample_value}
use Rattle.clock.specs.Announce.{announcement, announce_of}
use Rattle.trace.specs.Decode.{Decoded}
use Rattle.trace.specs.Decode.{decode_of}
use Rattle.table.specs.declared.Core.{Core}
use Rattle.table.specs.declared.Reason.{Reason}
use Rattle.table.specs.declared.Reason.TheVariants as Why
use Rattle.table.specs.declared.changes.Change.{Change}
use Rattle.table.specs.declared.changes.Change.TheVariants as X
use Rattle.table.specs.declared.tasks.Task.{Task}
use Rattle.table.specs.declared.tasks.Task.TheVariants as T
use Rattle.table.specs.declared.tasks.Then.TheVariants as W
use Rattle.table.specs.Task.{task_of, asked_by}
use Rattle.table.specs.Table.{malformed, table}
use Rattle.table.specs.Says.{sample_tells, announcement_tells}
use Rattle.table.proofs.changes.change_of.Reads as changes-change-of
use Rattle.table.proofs.changes.change_at.Reads as changes-change-at
use Rattle.machine.specs.Step.{announce_rows}
use Rattle.demands.specs.Contract.{Every, Gives3}

-- the leaf's refusal is worked out with the change; a sum that won't fit is the ledger's to find
unfoldable pub leaf_rows : Core → Task → List (Row Reason)
leaf_rows c (T.Run p) = []
leaf_rows c (T.Sample g then) = []
leaf_rows c T.Announce = announce_rows (announce_of c.timer)
leaf_rows c (T.Report i) = []
leaf_rows c (T.Setup s) = []

-- a sample is told, or an operation is to be entered at its reading
unfoldable pub new_by : Core → Task → Change
new_by c (T.Run p) = X.Ran (run_n p c.timer.counter)
new_by c (T.Sample g W.Tell) = X.Told (sample_value c.timer g).timer (sample_tells (sample_value c.timer g))
new_by c (T.Sample g (W.Operate op)) = X.Enter (sample_value c.timer g).timer op (sample_value c.timer g).reading
new_by c T.Announce = X.Told (announcement c.timer).timer (announcement_tells (announcement c.timer))
new_by c (T.Report i) = X.Report i
new_by c (T.Setup s) = X.Fresh (setup s.period s.tick)

unfoldable pub record_by : Core → ℕ → Decoded → Result Change Reason
record_by c slots (Ok r) = in_order (table c (asked_by c.books slots (task_of r)) ++ leaf_rows c (task_of r)) Err (Ok (new_by c (task_of r)))
record_by c slots (Err why) = Err Why.BadRecord

-- a malformed state before all
abbrev pub change_by : Bool → Core → ℕ → Decoded → Result Change Reason
change_by broken c slots d = in_order ((broken, Why.Malformed) ∷ []) Err (record_by c slots d)

pub record ChangesExact : Type 0 where
  pub change_of_lem : Gives3 changes-change-of.Post (λ c slots d. change_by (malformed c slots) c slots d)
  -- told whether the state is malformed: what is said holds unless a malformed one is told to be sound
  pub change_at_lem : (broken : Bool) (c : Core) (slots : ℕ) (trace : Bor (List ℕ)) (at : ℕ) → (broken ≡ false → malformed c slots ≡ false) → Every changes-change-at.Post (broken, (c, (slots, (trace, (at, tt))))) (λ change. change ≡ change_by broken c slots (decode_of trace.now at))
