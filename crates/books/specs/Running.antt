-- Believed: who runs and since which stamp, and what 01 tests of an operation.
use Rattle.std.specs.Prelude.{ℕ, ◌%◌, ◌^◌, Bool, not, ◌&&◌, cond, false, eqb, leb}
use Rattle.usage.specs.Formulas.{elapsed_stamps}
use Rattle.books.specs.declared.Books.{Books}
use Rattle.books.specs.declared.Operation.{Operation}
use Rattle.books.specs.declared.Operation.TheVariants as O

-- stamp 0 is the only mark of stopped
abbrev pub stopped : Books → Bool
stopped b = eqb b.stamp 0

-- thread i is the one that runs
unfoldable pub is_running : Books → ℕ → Bool
is_running b i = not (stopped b) && eqb b.running i

-- the open stretch's cycles were it closed now: its stamp difference
abbrev pub open_cycles : Books → ℕ → ℕ
open_cycles b now = elapsed_stamps now b.stamp

-- Stamp = low 32 bits of the reading; 0 becomes 1, since 0 means stopped.
unfoldable pub stamp_of : ℕ → ℕ
stamp_of reading = cond (eqb (reading % 2 ^ 32) 0) 1 (reading % 2 ^ 32)

-- none runs, and nothing has
abbrev pub nothing_booked : Books
nothing_booked = record { stamp = 0; running = 0; total = record { 0 = 0 } }

-- a table of so many slots has no record of a thread
abbrev pub no_thread : ℕ → ℕ → Bool
no_thread slots i = leb slots i

-- a running thread without a record
unfoldable pub unrecorded : Books → ℕ → Bool
unrecorded b slots = not (stopped b) && no_thread slots b.running

-- an operation that names a thread past the table
unfoldable pub past : Operation → ℕ → Bool
past (O.Start i) slots = no_thread slots i
past (O.Switch i) slots = no_thread slots i
past O.Stop slots = false
past (O.Enable i) slots = no_thread slots i
past (O.Disable i) slots = no_thread slots i

-- start while one runs
unfoldable pub busy : Books → Operation → Bool
busy b (O.Start i) = not (stopped b)
busy b (O.Switch i) = false
busy b O.Stop = false
busy b (O.Enable i) = false
busy b (O.Disable i) = false

-- the record that an operation concerns: that of the thread whose stretch may close, or whose flag may alter; where there is none, one that is stored back as it was
unfoldable pub concerned : Books → Operation → ℕ
concerned b (O.Start i) = i
concerned b (O.Switch i) = cond (stopped b) i b.running
concerned b O.Stop = cond (stopped b) 0 b.running
concerned b (O.Enable i) = i
concerned b (O.Disable i) = i
