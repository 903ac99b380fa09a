-- Believed: what an onlooker keeps of the threads, who has the accepted operations and their true times. Who ran from when to when, and who was tracked.
use Rattle.std.specs.Prelude.{ℕ, Bool, true, false, cond, not, ◌&&◌, List, [], ◌∷◌, eqb}
use Rattle.books.specs.declared.Operation.{Operation}
use Rattle.books.specs.declared.Operation.TheVariants as O
use Rattle.ledger.specs.Sums.{Stretch}

-- no open stretch, or one of a thread since a true time
pub data Open : Type 0 where
  none : Open
  since : ℕ → ℕ → Open

pub record Threads : Type 0 where
  -- of the last accepted start, switch or stop, and of enable or disable that closes and opens
  pub stretch : Open
  -- of each thread, whether its last accepted enable or disable was an enable
  pub tracked : ℕ → Bool
  pub closed : List Stretch
  -- since the last start: the time of the last closing or opening, and those before it, the last first
  pub last : ℕ
  pub times : List ℕ

abbrev pub none_ran : Threads
none_ran = record { stretch = none; tracked = λ i. false; closed = []; last = 0; times = [] }

abbrev pub is_none : Open → Bool
is_none none = true
is_none (since i from) = false

abbrev pub is_of : Open → ℕ → Bool
is_of none i = false
is_of (since j from) i = eqb j i

-- whether an operation closes the open stretch; a start while one runs would, were it accepted
unfoldable pub closes_now : Threads → Operation → Bool
closes_now t (O.Start i) = not (is_none t.stretch)
closes_now t (O.Switch i) = not (is_none t.stretch)
closes_now t O.Stop = not (is_none t.stretch)
closes_now t (O.Enable i) = not (t.tracked i) && is_of t.stretch i
closes_now t (O.Disable i) = t.tracked i && is_of t.stretch i

-- a start, or a switch that acts as one
unfoldable pub begins : Threads → Operation → Bool
begins t (O.Start i) = true
begins t (O.Switch i) = is_none t.stretch
begins t O.Stop = false
begins t (O.Enable i) = false
begins t (O.Disable i) = false

unfoldable pub open_after : Threads → ℕ → Operation → Open
open_after t time (O.Start i) = since i time
open_after t time (O.Switch i) = since i time
open_after t time O.Stop = none
open_after t time (O.Enable i) = cond (closes_now t (O.Enable i)) (since i time) t.stretch
open_after t time (O.Disable i) = cond (closes_now t (O.Disable i)) (since i time) t.stretch

unfoldable pub tracked_after : Threads → Operation → ℕ → Bool
tracked_after t (O.Start i) j = t.tracked j
tracked_after t (O.Switch i) j = t.tracked j
tracked_after t O.Stop j = t.tracked j
tracked_after t (O.Enable i) j = cond (eqb i j) true (t.tracked j)
tracked_after t (O.Disable i) j = cond (eqb i j) false (t.tracked j)

-- the open stretch, closed at this time
abbrev pub shut : Threads → ℕ → Open → List Stretch
shut t time none = t.closed
shut t time (since i from) = record { thread = i; tracked = t.tracked i; from = from; to = time } ∷ t.closed

-- an accepted operation at a true time
abbrev pub operated : Threads → Operation → ℕ → Threads
operated t op time = record {
  stretch = open_after t time op;
  tracked = tracked_after t op;
  closed = cond (closes_now t op) (shut t time t.stretch) t.closed;
  last = cond (begins t op) time (cond (closes_now t op) time t.last);
  times = cond (begins t op) [] (cond (closes_now t op) (t.last ∷ t.times) t.times);
}
