-- Believed: what an answer says. Its number, and its value, zeros where it is refused.
use Rattle.std.specs.Prelude.{ℤ, Result, Ok, Err}
use Rattle.std.specs.Result.{result_unwrap_or}
use Rattle.error.specs.declared.Refusal.{Refusal}
use Rattle.error.specs.Numbers.{ok, number_of}

pub record Said (Value : Type 0) : Type 0 where
  pub number : ℤ
  pub value : Value

abbrev pub accepted : {Value : Type 0} → Value → Said Value
accepted v = record { number = ok; value = v }

abbrev pub refused : {Value : Type 0} → Refusal → Value → Said Value
refused why zeros = record { number = number_of why; value = zeros }

-- the number of an answer, by cases
unfoldable pub number_in : {Value : Type 0} → Result Value Refusal → ℤ
number_in (Ok v) = ok
number_in (Err why) = number_of why

-- an answer: its number, and its value, with zeros in its place where it is refused
abbrev pub says : {Value : Type 0} → Value → Result Value Refusal → Said Value
says zeros answer = record { number = number_in answer; value = result_unwrap_or answer zeros }
