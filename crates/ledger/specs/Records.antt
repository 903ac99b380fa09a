-- Believed: the thread records of a ledger, what an operation's answer says, and what a report tells of a record.
use Rattle.std.specs.Prelude.{ℕ, get_or, replicate, Result}
use Rattle.error.specs.Said.{Said, says}
use Rattle.usage.specs.declared.ThreadUsage.{ThreadUsage}
use Rattle.usage.specs.Formulas.{new_idle, average_cycles}
use Rattle.books.specs.declared.Operation.{Operation}
use Rattle.books.specs.Running.{nothing_booked, concerned}
use Rattle.ledger.specs.declared.Ledger.{Ledger}
use Rattle.ledger.specs.declared.ThreadReport.{ThreadReport}
use Rattle.error.specs.declared.Refusal.{Refusal}

-- a ledger of so many threads in which nothing has run
abbrev pub fresh_ledger : ℕ → Ledger
fresh_ledger slots = record { books = nothing_booked; threads = replicate slots new_idle }

abbrev pub thread_record : Ledger → ℕ → ThreadUsage
thread_record l i = get_or l.threads i new_idle

-- the record that an operation concerns
abbrev pub concerned_record : Ledger → Operation → ThreadUsage
concerned_record l op = thread_record l (concerned l.books op)

-- Report: total, average.
abbrev pub report_value : ThreadUsage → ThreadReport
report_value u = record { total = u.total_cycles; average = average_cycles u.total_cycles u.num_windows }

-- the cycles closed
abbrev pub answer_says : Result ℕ Refusal → Said ℕ
answer_says answer = says 0 answer
