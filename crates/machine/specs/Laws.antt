-- Believed: a machine's step, over any machine handed in and any record. Exactly when it is refused and what it then leaves, and what else it answers and leaves.
use Rattle.std.specs.Prelude.{◌≡◌, false, ◌↔◌, Ok, Err}
use Rattle.error.specs.InOrder.{NoneHolds, FirstIs}
use Rattle.counter.specs.declared.Gaps.{Gaps}
use Rattle.books.specs.declared.Operation.{Operation}
use Rattle.trace.specs.declared.Record.{Record}
use Rattle.trace.specs.declared.Record.TheVariants as K
use Rattle.trace.specs.Decode.{Decoded}
use Rattle.table.specs.declared.Reason.{Reason}
use Rattle.table.specs.declared.Reason.TheVariants as Why
use Rattle.table.specs.declared.Values.{Values}
use Rattle.table.specs.declared.tasks.Task.TheVariants as T
use Rattle.table.specs.declared.tasks.Then.TheVariants as W
use Rattle.table.specs.Task.{task_of}
use Rattle.table.specs.Table.{malformed}
use Rattle.machine.specs.declared.Machine.{Machine}
use Rattle.machine.specs.declared.Stepped.{Stepped}
use Rattle.machine.specs.Step.{core_of, slots_of, rows_of, with_timer, done_by, stepped_to}

-- a state that is not malformed
abbrev pub Whole : Machine → Type 0
Whole m = malformed (core_of m) (slots_of m) ≡ false

-- a record that samples and then changes the ledger
abbrev pub Operates : Record → Gaps → Type 0
Operates r g = (op : Operation) × (task_of r ≡ T.Sample g (W.Operate op))

module _ (step : Machine → Decoded → Stepped) where
  -- each row is answered if and only if its test holds and no earlier row's does; a record is accepted where none holds
  pub record Exactly (m : Machine) (d : Decoded) : Type 0 where
    pub refused : (why : Reason) → ((step m d).outcome ≡ Err why) ↔ FirstIs (rows_of m d) why
    pub accepted : ((answered : Values) × ((step m d).outcome ≡ Ok answered)) ↔ NoneHolds (rows_of m d)

  -- refused before the touch: the machine is as it was. A refused sum or window: the ledger is as it was,
  -- counter and clock as kind 1 with the same gaps leaves them, which is accepted.
  pub record KeptByRefusal (m : Machine) (d : Decoded) : Type 0 where
    pub untouched : (why : Reason) → (step m d).outcome ≡ Err why → (why ≡ Why.WontFit → ⊥) → (step m d).machine ≡ m
    pub sampled : (r : Record) (g : Gaps) → d ≡ Ok r → Operates r g → (step m d).outcome ≡ Err Why.WontFit → ((step m d).machine ≡ with_timer m (step m (Ok (K.Sample g))).machine.timer) × (step m (Ok (K.Sample g)) ≡ stepped_to (done_by m (T.Sample g W.Tell)))
    -- nothing else is refused so
    pub only_operations : (step m d).outcome ≡ Err Why.WontFit → (r : Record) × (g : Gaps) × (d ≡ Ok r) × Operates r g

  -- every accepted record answers and leaves what 01 says
  abbrev pub EveryAnswer : Type 0
  EveryAnswer = (m : Machine) (r : Record) (answered : Values) → (step m (Ok r)).outcome ≡ Ok answered → (answered ≡ (done_by m (task_of r)).values) × ((step m (Ok r)).machine ≡ (done_by m (task_of r)).machine)
