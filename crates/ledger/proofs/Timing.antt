-- Where no time falls, no stretch ends before it began, and what was measured by a time is hardly more than that time.
use Rattle.std.specs.Prelude.{Result, Ok, Err}
use Prim.Native.Nat.{ℕ, ◌+◌, ◌≤◌}
use mathlib.Core.Bool.{Bool, true, false, cond}
use mathlib.Core.List.{List, [], ◌∷◌}
use native.Mathlib.Omega.{arith}
use Rattle.books.specs.declared.Operation.{Operation}
use Rattle.books.specs.declared.Operation.TheVariants as O
use Rattle.ledger.specs.declared.Ledger.{Ledger}
use Rattle.ledger.specs.Operate.{operate_of}
use Rattle.ledger.specs.Sums.{Stretch, measured}
use Rattle.ledger.specs.Threads.{Threads, Open, none, since, closes_now, begins, open_after, shut, operated}
use Rattle.ledger.proofs.Run.{World, Event, begin, after_answer, step, after}
use Rattle.ledger.proofs.Holds.{all_of, Timely}
use Rattle.ledger.proofs.Adding.{off, Ordered, ChainOrdered, stamps_most, later_off}
use Rattle.error.specs.declared.Refusal.{Refusal}

-- all that was measured, by now: no more than the time at which the open stretch began, or none runs and no more than now
abbrev pub Spent : List Stretch → ℕ → Open → Type 0
Spent closed now none = all_of measured closed ≤ now + off now
Spent closed now (since i from) = (all_of measured closed ≤ from + off from) × (from ≤ now)

pub record InTime (t : Threads) (now : ℕ) : Type 0 where
  pub spent : Spent t.closed now t.stretch
  pub ordered : Ordered t.closed
  pub chain : ChainOrdered t.last t.times
  pub reached : t.last ≤ now

-- and so it is at any later time
so_far : (closed : List Stretch) (now time : ℕ) (o : Open) → now ≤ time → Spent closed now o → all_of measured closed ≤ time + off time
so_far closed now time none h spent = let k = later_off now time h in omega arith
so_far closed now time (since i from) h spent = let a = spent.0 in let k = later_off from time (let b = spent.1 in omega arith) in omega arith

spent_still : (closed : List Stretch) (now time : ℕ) (o : Open) → now ≤ time → Spent closed now o → Spent closed time o
spent_still closed now time none h spent = so_far closed now time none h spent
spent_still closed now time (since i from) h spent = (spent.0, let b = spent.1 in omega arith)

still : {t : Threads} {now : ℕ} (time : ℕ) → now ≤ time → InTime t now → InTime t time
still {t} {now} time h k = record { spent = spent_still t.closed now time t.stretch h k.spent; ordered = k.ordered; chain = k.chain; reached = let r = k.reached in omega arith }

-- an operation at a time: the open stretch is closed, or not
module _ (t : Threads) (now time : ℕ) (h : now ≤ time) (k : InTime t now) where
  shut_by : (o : Open) → Spent t.closed now o → (all_of measured (shut t time o) ≤ time + off time) × Ordered (shut t time o)
  unfolding all_of
  shut_by none s = (so_far t.closed now time none h s, k.ordered)
  shut_by (since i from) s =
      let a = s.0 in
      let b = s.1 in
      let m = stamps_most from time (omega arith) in
      (omega arith, (omega arith, k.ordered))

  closed_by : (c : Bool) → let closed = cond c (shut t time t.stretch) t.closed in (all_of measured closed ≤ time + off time) × Ordered closed
  closed_by true = shut_by t.stretch k.spent
  closed_by false = (so_far t.closed now time t.stretch h k.spent, k.ordered)

  reopened : (i : ℕ) (c : Bool) → Spent (cond c (shut t time t.stretch) t.closed) time (cond c (since i time) t.stretch)
  reopened i true = ((closed_by true).0, omega arith)
  reopened i false = spent_still t.closed now time t.stretch h k.spent

  spent_after : (op : Operation) → Spent (cond (closes_now t op) (shut t time t.stretch) t.closed) time (open_after t time op)
  unfolding open_after
  spent_after (O.Start i) = ((closed_by (closes_now t (O.Start i))).0, omega arith)
  spent_after (O.Switch i) = ((closed_by (closes_now t (O.Switch i))).0, omega arith)
  spent_after O.Stop = (closed_by (closes_now t O.Stop)).0
  spent_after (O.Enable i) = reopened i (closes_now t (O.Enable i))
  spent_after (O.Disable i) = reopened i (closes_now t (O.Disable i))

  chain_after : (new c : Bool) → let last = cond new time (cond c time t.last) in ChainOrdered last (cond new [] (cond c (t.last ∷ t.times) t.times)) × (last ≤ time)
  chain_after true c = (tt, omega arith)
  chain_after false true = let r = k.reached in ((omega arith, k.chain), omega arith)
  chain_after false false = let r = k.reached in (k.chain, omega arith)

  pub operated_in_time : (op : Operation) → InTime (operated t op time) time
  operated_in_time op =
      let chained = chain_after (begins t op) (closes_now t op) in
      record { spent = spent_after op; ordered = (closed_by (closes_now t op)).1; chain = chained.0; reached = chained.1 }

answered : (w : World) (e : Event) (l : Ledger) (a : Result ℕ Refusal) (now : ℕ) → now ≤ e.time → InTime w.threads now → InTime (after_answer w e l a).threads e.time
answered w e l (Ok cycles) now h k = operated_in_time w.threads now e.time h k e.operation
answered w e l (Err why) now h k = still e.time h k

all_in_time : (es : List Event) (w : World) (now time : ℕ) → Timely now es time → InTime w.threads now → InTime (after es w).threads time
unfolding after step
all_in_time [] w now time timely k = still time timely k
all_in_time (e ∷ es) w now time timely k =
    all_in_time es (step e w) e.time time timely.1
    (answered w e (operate_of w.ledger (record { 0 = e.time }) e.operation).ledger (operate_of w.ledger (record { 0 = e.time }) e.operation).answer now timely.0 k)

pub in_time : (slots : ℕ) (es : List Event) (time : ℕ) → Timely 0 es time → InTime (after es (begin slots)).threads time
unfolding all_of
in_time slots es time timely = all_in_time es (begin slots) 0 time timely (record { spent = omega arith; ordered = tt; chain = tt; reached = omega arith })
