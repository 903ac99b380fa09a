-- Inside: one operation's entry, step by step as the code makes it. `EveryEntry` (Laws.antt) says what it does.
use Rattle.std.specs.Prelude.{ℕ, ◌+◌, Bool, true, false, cond, [], ◌∷◌, ltb, Result, Ok, Err}
use Rattle.std.specs.Bool.{beq}
use Rattle.error.specs.declared.Refusal.TheVariants.{Overflow}
use Rattle.error.specs.Numbers.{max64}
use Rattle.error.specs.InOrder.{in_order}
use Rattle.usage.specs.declared.ThreadUsage.{ThreadUsage}
use Rattle.usage.specs.Leaves.{enabled, disabled, accumulated}
use Rattle.books.specs.declared.Books.{Books}
use Rattle.books.specs.declared.Entry.{Entry}
use Rattle.books.specs.declared.Operation.{Operation}
use Rattle.books.specs.declared.Operation.TheVariants as O
use Rattle.books.specs.Running.{open_cycles, is_running, stopped}
use Rattle.error.specs.declared.Refusal.{Refusal}

-- a stretch is opened
abbrev pub open_of : Books → ℕ → ℕ → Books
open_of b now i = record { stamp = now; running = i; total = b.total }

-- and closed: none runs, and its cycles are in the machine total
abbrev pub shut_of : Books → ℕ → Books
shut_of b cycles = record { stamp = 0; running = b.running; total = record { 0 = b.total.0 + cycles } }

abbrev pub entered : ℕ → Books → ThreadUsage → Result Entry Refusal
entered cycles b u = Ok (record { cycles = cycles; books = b; usage = u })

-- the thread's own total gets the cycles if it was tracked during the stretch
unfoldable pub charged : ThreadUsage → ℕ → Result ThreadUsage Refusal
charged u cycles = cond u.track_usage (accumulated u cycles) (Ok u)

-- what was accepted goes on; a refusal refuses the whole entry
unfoldable pub onward : {Value : Type 0} → Result Value Refusal → (Value → Result Entry Refusal) → Result Entry Refusal
onward (Ok v) go_on = go_on v
onward (Err why) go_on = Err why

-- A closed stretch adds its stamp difference to the machine total and, if tracked, to the thread's. A sum that won't fit: -139.
unfoldable pub close_of : Books → ThreadUsage → ℕ → Result Entry Refusal
close_of b u now =
    in_order ((ltb max64 (b.total.0 + open_cycles b now), Overflow) ∷ []) Err
    (onward (charged u (open_cycles b now)) (λ v. entered (open_cycles b now) (shut_of b (open_cycles b now)) v))

-- Stop closes and, with none running, returns 0 cycles.
unfoldable pub stop_of : Books → ThreadUsage → ℕ → Result Entry Refusal
stop_of b u now = cond (stopped b) (entered 0 b u) (close_of b u now)

-- Switch closes and opens with one stamp, also to the same thread, and acts as start when stopped.
unfoldable pub switch_of : Books → ThreadUsage → ℕ → ℕ → Result Entry Refusal
switch_of b u now i = onward (stop_of b u now) (λ e. entered e.cycles (open_of e.books now i) e.usage)

-- the record with its flag as wanted
unfoldable pub altered : ThreadUsage → Bool → Result ThreadUsage Refusal
altered u on = cond on (enabled u) (disabled u)

-- closes, alters, and opens with the same stamp
unfoldable pub reopen_of : Books → ThreadUsage → ℕ → ℕ → Bool → Result Entry Refusal
reopen_of b u now i on =
    onward (close_of b u now) (λ e. onward (altered e.usage on) (λ v. entered e.cycles (open_of e.books now i) v))

-- Enable or disable that alters the running thread's flag closes, alters, and opens. One that finds the flag as wanted does nothing.
unfoldable pub alter_of : Books → ThreadUsage → ℕ → ℕ → Bool → Result Entry Refusal
alter_of b u now i on =
    cond (beq u.track_usage on) (entered 0 b u)
    (cond (is_running b i) (reopen_of b u now i on)
    (onward (altered u on) (λ v. entered 0 b v)))

unfoldable pub enter_of : Books → ThreadUsage → ℕ → Operation → Result Entry Refusal
enter_of b u now (O.Start i) = entered 0 (open_of b now i) u
enter_of b u now (O.Switch i) = switch_of b u now i
enter_of b u now O.Stop = stop_of b u now
enter_of b u now (O.Enable i) = alter_of b u now i true
enter_of b u now (O.Disable i) = alter_of b u now i false
