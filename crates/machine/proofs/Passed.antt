-- What passes 01's table, row by row under a name: the one proof that counts the rows.
use mathlib.Core.Path.{◌≡◌}
use mathlib.Core.Bool.{false, not, ◌&&◌}
use mathlib.Core.List.{List, [], ◌∷◌, ◌++◌}
use mathlib.Core.Logic.{inl, inr}
use Rattle.error.specs.InOrder.{Row, NoneHolds, FirstIs}
use Rattle.error.proofs.Tests.{clash}
use Rattle.counter.specs.Readings.{cycles_above}
use Rattle.clock.specs.Sample.{crowded}
use Rattle.table.specs.declared.Core.{Core}
use Rattle.table.specs.declared.Reason.{Reason}
use Rattle.table.specs.declared.Reason.TheVariants as Why
use Rattle.table.specs.declared.tasks.Asked.{Asked}
use Rattle.table.specs.Table.{table}

pub record Passed (c : Core) (asked : Asked) : Type 0 where
  pub good : asked.bad ≡ false
  pub known : not c.ready && not asked.setup ≡ false
  pub first : c.ready && asked.setup ≡ false
  pub named : asked.past ≡ false
  pub free : asked.busy ≡ false
  pub room : asked.samples && crowded c.timer ≡ false
  pub fits : cycles_above c.timer.counter asked.cycles ≡ false

-- rows that have another reason leave the first that holds to those after them
unfoldable Others : Reason → List (Row Reason) → Type 0
Others why [] = Unit {0}
Others why (row ∷ rows) = (row.1 ≡ why → ⊥) × Others why rows

none_before : (why : Reason) (rows more : List (Row Reason)) → Others why rows → FirstIs (rows ++ more) why → NoneHolds rows × FirstIs more why
unfolding Others
none_before why [] more others first = (tt, first)
none_before why (row ∷ rows) more others (inl here) = absurd (others.0 here.1)
none_before why (row ∷ rows) more others (inr later) = let rest = none_before why rows more others.1 later.1 in ((later.0, rest.0), rest.1)

module _ (c : Core) (asked : Asked) where
  pub passed : NoneHolds (table c asked) → Passed c asked
  passed none = record {
    good = none.0;
    known = none.1.0;
    first = none.1.1.0;
    named = none.1.1.1.0;
    free = none.1.1.1.1.0;
    room = none.1.1.1.1.1.0;
    fits = none.1.1.1.1.1.1.0;
  }

  pub none_holds : (more : List (Row Reason)) → Passed c asked → NoneHolds more → NoneHolds (table c asked ++ more)
  none_holds more p rest = (p.good, (p.known, (p.first, (p.named, (p.free, (p.room, (p.fits, rest)))))))

  -- no row of the table is a sum that won't fit
  pub before_sum : (more : List (Row Reason)) → FirstIs (table c asked ++ more) Why.WontFit → Passed c asked × FirstIs more Why.WontFit
  unfolding Others
  before_sum more first =
      let rest = none_before Why.WontFit (table c asked) more ((λ e. clash (cc)), ((λ e. clash (cc)), ((λ e. clash (cc)), ((λ e. clash (cc)), ((λ e. clash (cc)), ((λ e. clash (cc)), ((λ e. clash (cc)), tt))))))) first in
      (passed rest.0, rest.1)
