-- Where no time falls, no sum is refused.
use Prim.Native.Nat.{ℕ, ◌+◌, ◌≤◌, ◌<◌}
use mathlib.Core.Path.{◌≡◌, refl}
use mathlib.Core.Bool.{Bool, true, false, cond, not, ◌&&◌, ◌||◌}
use mathlib.Core.List.{List, [], ◌∷◌}
use native.Mathlib.Omega.{arith}
use lib.Dec.{ltb, eqb}
use borrow.Author.Tests.{eq-eqb, le-ltb}
use Rattle.error.proofs.Tests.{clash}
use Rattle.error.specs.Numbers.{max64}
use Rattle.usage.specs.declared.ThreadUsage.{ThreadUsage}
use Rattle.books.specs.declared.Books.{Books}
use Rattle.books.specs.declared.Operation.{Operation}
use Rattle.books.specs.declared.Operation.TheVariants as O
use Rattle.books.specs.Running.{stopped, is_running, open_cycles, stamp_of, concerned}
use Rattle.books.specs.Laws.{closes, too_many}
use Rattle.ledger.specs.Records.{concerned_record}
use Rattle.ledger.specs.Sums.{Stretch, sum_of, measured}
use Rattle.ledger.specs.Threads.{Open, none, since}
use Rattle.ledger.proofs.Run.{World, Event, begin, after}
use Rattle.ledger.proofs.Holds.{Marked, all_of, SumsFit}
use Rattle.ledger.proofs.Adding.{stamps_most, off_fits}
use Rattle.ledger.proofs.Timing.{Spent, in_time}
use Rattle.ledger.proofs.Agreeing.{every_run}

-- a thread's sum is part of the whole
part : (i : ℕ) (closed : List Stretch) → sum_of measured i closed ≤ all_of measured closed
unfolding sum_of all_of
part i [] = omega arith
part i (s ∷ rest) = by_owner _ (s.tracked && eqb s.thread i) (part i rest)
  where
    by_owner : {a b : ℕ} (n : ℕ) (mine : Bool) → a ≤ b → a + cond mine n 0 ≤ b + n
    by_owner n true h = omega arith
    by_owner n false h = omega arith

-- only an open stretch is closed
closes_open : (b : Books) (u : ThreadUsage) (op : Operation) → closes b u op ≡ true → stopped b ≡ false
unfolding closes is_running
closes_open b u op = by_test (stopped b) refl op
  where
    nothing : (flag : Bool) → flag && false ≡ true → ⊥
    nothing true e = clash (cc)
    nothing false e = clash (cc)

    by_test : (t : Bool) → stopped b ≡ t → (op : Operation) → closes b u op ≡ true → t ≡ false
    by_test false e op c = refl
    by_test true e (O.Start i) c = clash (cc)
    by_test true e (O.Switch i) c = let q = rw e at c in clash (cc)
    by_test true e O.Stop c = let q = rw e at c in clash (cc)
    by_test true e (O.Enable i) c = absurd (nothing (not u.track_usage) (rw e at c))
    by_test true e (O.Disable i) c = absurd (nothing u.track_usage (rw e at c))

neither : (a b : ℕ) (tracked : Bool) → a ≤ max64 → b ≤ max64 → ltb max64 a || (tracked && ltb max64 b) ≡ false
neither a b true h k = rw (le-ltb _ _ h, le-ltb _ _ k) refl
neither a b false h k = rw (le-ltb _ _ h) refl

module _ (slots : ℕ) (some : 0 < slots) (es : List Event) (time : ℕ) (fits : time ≤ max64) (op : Operation) where
  abbrev w : World
  w = after es (begin slots)

  abbrev b : Books
  b = w.ledger.books

  abbrev u : ThreadUsage
  u = concerned_record w.ledger op

  -- the open stretch, closed now, and all that was measured before it
  at_open : (o : Open) → Marked slots b o → stopped b ≡ false → Spent w.threads.closed time o → all_of measured w.threads.closed + open_cycles b (stamp_of time) ≤ max64
  at_open none mark t spent = let q = eq-eqb b.stamp 0 mark in clash (cc)
  at_open (since i from) mark t spent =
      let a = spent.0 in
      let h = spent.1 in
      let k = stamps_most from time h in
      let f = off_fits time fits in
      rw mark.0 (omega arith)

  by_closing : (c : Bool) → closes b u op ≡ c → Spent w.threads.closed time w.threads.stretch → c && too_many b u (open_cycles b (stamp_of time)) ≡ false
  unfolding too_many
  by_closing false e spent = refl
  by_closing true e spent =
      let agrees = (every_run slots some es).0 in
      let whole = at_open w.threads.stretch agrees.mark (closes_open b u op e) spent in
      let own = part (concerned b op) w.threads.closed in
      let m = agrees.machine in
      let t = agrees.totals (concerned b op) in
      neither (b.total.0 + open_cycles b (stamp_of time)) (u.total_cycles.0 + open_cycles b (stamp_of time)) u.track_usage (omega arith) (omega arith)

pub sums_fit : SumsFit
sums_fit slots some es time timely fits op = by_closing slots some es time fits op _ refl (in_time slots es time timely).spent
