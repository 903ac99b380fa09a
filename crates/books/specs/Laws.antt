-- Believed: what every entry does to the books and to the one record, and exactly when it is refused.
use Rattle.std.specs.Prelude.{ℕ, ◌+◌, ◌≡◌, Bool, true, false, cond, not, ◌&&◌, ◌||◌, [], ◌∷◌, ltb, eqb, Result, Ok, Err}
use Rattle.error.specs.declared.Refusal.TheVariants.{Already, Overflow}
use Rattle.error.specs.Numbers.{max32, max64}
use Rattle.error.specs.InOrder.{NoneHolds, FirstIs}
use Rattle.units.specs.declared.Cycles.{Cycles}
use Rattle.usage.specs.declared.ThreadUsage.{ThreadUsage}
use Rattle.books.specs.declared.Books.{Books}
use Rattle.books.specs.declared.Entry.{Entry}
use Rattle.books.specs.declared.Operation.{Operation}
use Rattle.books.specs.declared.Operation.TheVariants as O
use Rattle.books.specs.Running.{stopped, is_running, busy, open_cycles, stamp_of}
use Rattle.books.specs.Enter.{entry_of}
use Rattle.error.specs.declared.Refusal.{Refusal}

-- whether it closes the open stretch
unfoldable pub closes : Books → ThreadUsage → Operation → Bool
closes b u (O.Start i) = false
closes b u (O.Switch i) = not (stopped b)
closes b u O.Stop = not (stopped b)
closes b u (O.Enable i) = not u.track_usage && is_running b i
closes b u (O.Disable i) = u.track_usage && is_running b i

-- the flag afterwards
unfoldable pub flag_after : Operation → Bool → Bool
flag_after (O.Start i) flag = flag
flag_after (O.Switch i) flag = flag
flag_after O.Stop flag = flag
flag_after (O.Enable i) flag = true
flag_after (O.Disable i) flag = false

-- windows rise only at enable, of an untracked thread
unfoldable pub rises : Operation → Bool → Bool
rises (O.Start i) flag = false
rises (O.Switch i) flag = false
rises O.Stop flag = false
rises (O.Enable i) flag = not flag
rises (O.Disable i) flag = false

-- the books' mark afterwards: the new stamp where a stretch was opened, 0 after stop
unfoldable pub stamp_after : Books → ThreadUsage → ℕ → Operation → ℕ
stamp_after b u now (O.Start i) = now
stamp_after b u now (O.Switch i) = now
stamp_after b u now O.Stop = 0
stamp_after b u now (O.Enable i) = cond (closes b u (O.Enable i)) now b.stamp
stamp_after b u now (O.Disable i) = cond (closes b u (O.Disable i)) now b.stamp

unfoldable pub running_after : Books → Operation → ℕ
running_after b (O.Start i) = i
running_after b (O.Switch i) = i
running_after b O.Stop = b.running
running_after b (O.Enable i) = b.running
running_after b (O.Disable i) = b.running

pub record EntryIs (b : Books) (u : ThreadUsage) (now : ℕ) (op : Operation) (e : Entry) : Type 0 where
  -- the cycles between the open stretch's stamp and its own, where it closes
  pub cycles : e.cycles ≡ cond (closes b u op) (open_cycles b now) 0
  pub machine : e.books.total.0 ≡ b.total.0 + e.cycles
  pub total : e.usage.total_cycles.0 ≡ u.total_cycles.0 + cond u.track_usage e.cycles 0
  pub flag : e.usage.track_usage ≡ flag_after op u.track_usage
  pub windows : e.usage.num_windows ≡ u.num_windows + cond (rises op u.track_usage) 1 0
  pub stamp : e.books.stamp ≡ stamp_after b u now op
  pub running : e.books.running ≡ running_after b op

-- Each refusal, exactly: a sum or a count of windows that would not fit comes after 01's tests.
unfoldable pub too_many : Books → ThreadUsage → ℕ → Bool
too_many b u cycles = ltb max64 (b.total.0 + cycles) || (u.track_usage && ltb max64 (u.total_cycles.0 + cycles))

unfoldable pub full : Books → ThreadUsage → ℕ → Operation → Bool
full b u now op = (closes b u op && too_many b u (open_cycles b now)) || (rises op u.track_usage && eqb u.num_windows max32)

-- accepted, an entry does so and none of its rows holds; refused, it has the reason of the first that does
abbrev pub EnteredIs : Books → ThreadUsage → ℕ → Operation → Result Entry Refusal → Type 0
EnteredIs b u now op (Ok e) = EntryIs b u now op e × NoneHolds ((busy b op, Already) ∷ (full b u now op, Overflow) ∷ [])
EnteredIs b u now op (Err why) = FirstIs ((busy b op, Already) ∷ (full b u now op, Overflow) ∷ []) why

abbrev pub EveryEntry : Type 0
EveryEntry = (b : Books) (u : ThreadUsage) (reading : Cycles) (op : Operation) → EnteredIs b u (stamp_of reading.0) op (entry_of b u reading op)
