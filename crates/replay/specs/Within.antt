-- Inside: what reading a trace into an array may answer, for the program's private functions.
use Rattle.std.specs.Prelude.{ℕ, ◌≤◌, List, length, Result, Ok, Err}
use Rattle.std.specs.declared.io.Error.{Error}

-- as many bytes were read as the array holds, or fewer; of a failed read nothing is said
abbrev pub ReadsWithin : List ℕ → Result ℕ Error → Type 0
ReadsWithin bytes (Ok n) = n ≤ length bytes
ReadsWithin bytes (Err why) = Unit {0}
