-- What holds of every run of a ledger of any number of slots from a fresh one.
use Rattle.std.specs.Prelude.{Err}
use Prim.Native.Nat.{ℕ, ◌+◌, ◌≤◌, ◌<◌}
use mathlib.Core.Path.{◌≡◌}
use mathlib.Core.Bool.{false, ◌&&◌}
use mathlib.Core.List.{List, [], ◌∷◌}
use lib.ListN.{length}
use Rattle.error.specs.Numbers.{max64}
use Rattle.error.specs.declared.Refusal.TheVariants.{Invalid}
use Rattle.units.specs.declared.Cycles.{Cycles}
use Rattle.books.specs.declared.Books.{Books}
use Rattle.books.specs.declared.Operation.{Operation}
use Rattle.books.specs.Running.{stamp_of, open_cycles}
use Rattle.books.specs.Laws.{closes, too_many}
use Rattle.ledger.specs.declared.Ledger.{Ledger}
use Rattle.ledger.specs.Operate.{operate_of, report_of}
use Rattle.ledger.specs.Records.{thread_record, concerned_record}
use Rattle.ledger.specs.Sums.{Stretch, sum_of, measured, TotalNear, ChainNear}
use Rattle.ledger.specs.Threads.{Open, none, since}
use Rattle.ledger.proofs.Run.{World, Event, begin, after}

-- the books' mark is that of the open stretch
abbrev pub Marked : ℕ → Books → Open → Type 0
Marked slots b none = b.stamp ≡ 0
Marked slots b (since i from) = (b.stamp ≡ stamp_of from) × (b.running ≡ i) × (i < slots)

-- an open stretch began at the last closing or opening
unfoldable pub Follows : Open → ℕ → Type 0
Follows none last = Unit {0}
Follows (since i from) last = from ≡ last

-- the sum of some measure over all stretches, and over those of one start to its stop, by their times, the last first
unfoldable pub all_of : (ℕ → ℕ → ℕ) → List Stretch → ℕ
all_of measure [] = 0
all_of measure (s ∷ rest) = all_of measure rest + measure s.from s.to

unfoldable pub chain_of : (ℕ → ℕ → ℕ) → ℕ → List ℕ → ℕ
chain_of measure time [] = 0
chain_of measure time (t ∷ rest) = chain_of measure t rest + measure t time

-- with no premises: the ledger's fields are what the closed stretches come to, by their stamps
pub record Agrees (slots : ℕ) (w : World) : Type 0 where
  pub size : length w.ledger.threads ≡ slots
  pub mark : Marked slots w.ledger.books w.threads.stretch
  pub flags : (i : ℕ) → (thread_record w.ledger i).track_usage ≡ w.threads.tracked i
  pub totals : (i : ℕ) → (thread_record w.ledger i).total_cycles.0 ≡ sum_of measured i w.threads.closed
  pub machine : w.ledger.books.total.0 ≡ all_of measured w.threads.closed
  pub chain : w.answered ≡ chain_of measured w.threads.last w.threads.times
  pub follows : Follows w.threads.stretch w.threads.last

-- nothing is refused with -22, since a running thread has a record
pub record NeverInvalid (l : Ledger) : Type 0 where
  pub operations : (reading : Cycles) (op : Operation) → (operate_of l reading op).answer ≡ Err Invalid → ⊥
  pub reports : (i : ℕ) → report_of l i ≡ Err Invalid → ⊥

-- operations at times that never fall, from a time to a time
abbrev pub Timely : ℕ → List Event → ℕ → Type 0
Timely from [] to = from ≤ to
Timely from (e ∷ es) to = (from ≤ e.time) × Timely e.time es to

-- where no time falls
pub record Near (w : World) : Type 0 where
  pub threads : (i : ℕ) → TotalNear i (thread_record w.ledger i).total_cycles.0 w.threads.closed
  pub chain : ChainNear w.answered w.threads.last w.threads.times

abbrev pub EveryRun : Type 0
EveryRun =
    (slots : ℕ) → 0 < slots → (es : List Event) →
    let w = after es (begin slots) in
    Agrees slots w × NeverInvalid w.ledger × ((time : ℕ) → Timely 0 es time → Near w)

-- where no time falls, no sum is refused: what was measured by a time is hardly more than that time, which fits 64 bits
abbrev pub SumsFit : Type 0
SumsFit =
    (slots : ℕ) → 0 < slots → (es : List Event) (time : ℕ) → Timely 0 es time → time ≤ max64 → (op : Operation) →
    let l = (after es (begin slots)).ledger in
    closes l.books (concerned_record l op) op && too_many l.books (concerned_record l op) (open_cycles l.books (stamp_of time)) ≡ false
