-- Each refusal of an entry, exactly.
use Rattle.std.specs.Prelude.{Result, Ok, Err}
use Prim.Native.Nat.{ℕ, ◌+◌}
use mathlib.Core.Path.{◌≡◌, refl, sym, subst}
use mathlib.Core.Bool.{Bool, true, false, cond, not, ◌&&◌, ◌||◌, beq}
use mathlib.Core.List.{[], ◌∷◌}
use mathlib.Core.Logic.{inl, inr}
use lib.Dec.{ltb, eqb}
use Rattle.error.proofs.Tests.{or_none}
use Rattle.error.specs.declared.Refusal.TheVariants.{Already, Overflow}
use Rattle.error.specs.Numbers.{max32, max64}
use Rattle.error.specs.InOrder.{in_order}
use Rattle.usage.specs.declared.ThreadUsage.{ThreadUsage}
use Rattle.usage.specs.Leaves.{enabled, accumulated}
use Rattle.books.specs.declared.Books.{Books}
use Rattle.books.specs.declared.Entry.{Entry}
use Rattle.books.specs.declared.Operation.{Operation}
use Rattle.books.specs.declared.Operation.TheVariants as O
use Rattle.books.specs.Entries.{charged, onward, close_of, stop_of, switch_of, altered, reopen_of, alter_of, enter_of}
use Rattle.books.specs.Running.{stopped, is_running, busy, open_cycles, stamp_of}
use Rattle.books.specs.Enter.{entry_of}
use Rattle.books.specs.Laws.{EnteredIs, EveryEntry, closes, rises, too_many, full}
use Rattle.books.proofs.Entering.{close_is, entry_is}
use Rattle.error.specs.declared.Refusal.{Refusal}

-- refused exactly where the test holds, and then since something does not fit
unfoldable ChangeBy : Bool → Result ThreadUsage Refusal → Type 0
ChangeBy t (Ok u) = t ≡ false
ChangeBy t (Err why) = (why ≡ Overflow) × (t ≡ true)

unfoldable pub EntryBy : Bool → Result Entry Refusal → Type 0
EntryBy t (Ok e) = t ≡ false
EntryBy t (Err why) = (why ≡ Overflow) × (t ≡ true)

kept : (e : Entry) → EntryBy false (Ok e)
unfolding EntryBy
kept e = refl

refused : EntryBy true (Err Overflow)
unfolding EntryBy
refused = (refl, refl)

-- one test
changed_by : (t : Bool) (u : ThreadUsage) → ChangeBy t (in_order ((t, Overflow) ∷ []) Err (Ok u))
unfolding ChangeBy
changed_by true u = (refl, refl)
changed_by false u = refl

-- a test, and then another
change_then : (s t : Bool) (x : Result ThreadUsage Refusal) (go_on : ThreadUsage → Result Entry Refusal) → ChangeBy s x → ((u : ThreadUsage) → EntryBy t (go_on u)) → EntryBy (s || t) (onward x go_on)
unfolding onward ChangeBy EntryBy
change_then s t (Ok u) go_on h f = rw h (f u)
change_then s t (Err why) go_on h f = (h.0, rw h.1 refl)

onward_then : (s t : Bool) (x : Result Entry Refusal) (go_on : Entry → Result Entry Refusal) → EntryBy s x → ((e : Entry) → x ≡ Ok e → EntryBy t (go_on e)) → EntryBy (s || t) (onward x go_on)
unfolding onward EntryBy
onward_then s t (Ok e) go_on h f = rw h (f e refl)
onward_then s t (Err why) go_on h f = (h.0, rw h.1 refl)

either : (c s t : Bool) (a b : Result Entry Refusal) → EntryBy s a → EntryBy t b → EntryBy (cond c s t) (cond c a b)
either true s t a b p q = p
either false s t a b p q = q

charge_by : (u : ThreadUsage) (cycles : ℕ) → ChangeBy (u.track_usage && ltb max64 (u.total_cycles.0 + cycles)) (charged u cycles)
unfolding charged accumulated
charge_by u cycles = by_flag u.track_usage
  where
    by_flag : (on : Bool) → ChangeBy (on && ltb max64 (u.total_cycles.0 + cycles)) (cond on (accumulated u cycles) (Ok u))
    by_flag true = changed_by (ltb max64 (u.total_cycles.0 + cycles)) _
    by_flag false = changed_by false u

flag_by : (u : ThreadUsage) (on : Bool) → ChangeBy (on && (not u.track_usage && eqb u.num_windows max32)) (altered u on)
unfolding altered enabled
flag_by u true = changed_by (not u.track_usage && eqb u.num_windows max32) _
flag_by u false = changed_by false _

module _ (b : Books) (u : ThreadUsage) (now : ℕ) where
  abbrev over : Bool
  over = too_many b u (open_cycles b now)

  abbrev window : Bool
  window = not u.track_usage && eqb u.num_windows max32

  close_by : EntryBy over (close_of b u now)
  unfolding close_of too_many
  close_by =
      subst (λ (t : Bool). EntryBy t (close_of b u now)) (as_one (ltb max64 (b.total.0 + open_cycles b now)) _)
      (either (ltb max64 (b.total.0 + open_cycles b now)) true _ (Err Overflow) _ refused
      (change_then _ false _ _ (charge_by u (open_cycles b now)) (λ v. kept _)))
    where
      as_one : (x y : Bool) → cond x true (y || false) ≡ x || y
      as_one true y = refl
      as_one false true = refl
      as_one false false = refl

  stop_by : EntryBy (not (stopped b) && over) (stop_of b u now)
  unfolding stop_of
  stop_by = subst (λ (t : Bool). EntryBy t (stop_of b u now)) (as_one (stopped b)) (either (stopped b) false over _ _ (kept _) close_by)
    where
      as_one : (x : Bool) → cond x false over ≡ not x && over
      as_one true = refl
      as_one false = refl

  -- the close leaves flag and windows, so that the test of the windows is that of the record handed in
  reopen_by : (i : ℕ) (on : Bool) → EntryBy (over || ((on && window) || false)) (reopen_of b u now i on)
  unfolding reopen_of
  reopen_by i on =
      onward_then over _ (close_of b u now) _ close_by
      (λ e p.
      let c = (close_is b u now e p).charge in
      change_then _ false _ _ (subst (λ (t : Bool). ChangeBy t (altered e.usage on)) (same on e.usage c.flag c.windows) (flag_by e.usage on)) (λ v. kept _))
    where
      same : (on : Bool) (v : ThreadUsage) → v.track_usage ≡ u.track_usage → v.num_windows ≡ u.num_windows → on && (not v.track_usage && eqb v.num_windows max32) ≡ on && window
      same on v p q = cc

  alter_by : (i : ℕ) (on : Bool) → EntryBy (cond (beq u.track_usage on) false (cond (is_running b i) (over || ((on && window) || false)) ((on && window) || false))) (alter_of b u now i on)
  unfolding alter_of
  alter_by i on =
      either (beq u.track_usage on) false _ _ _ (kept _)
      (either (is_running b i) _ _ _ _ (reopen_by i on)
      (change_then _ false _ _ (flag_by u on) (λ v. kept _)))

  pub entry_by : (op : Operation) → EntryBy (full b u now op) (enter_of b u now op)
  unfolding enter_of switch_of full closes rises
  entry_by (O.Start i) = kept _
  entry_by (O.Switch i) = onward_then _ false _ _ stop_by (λ e p. kept _)
  entry_by O.Stop = subst (λ (t : Bool). EntryBy t (stop_of b u now)) (or_none (not (stopped b) && over)) stop_by
  entry_by (O.Enable i) = subst (λ (t : Bool). EntryBy t (alter_of b u now i true)) (as_one u.track_usage (is_running b i) over (eqb u.num_windows max32)) (alter_by i true)
    where
      as_one : (f r o w : Bool) → cond (beq f true) false (cond r (o || ((not f && w) || false)) ((not f && w) || false)) ≡ ((not f && r) && o) || (not f && w)
      as_one true r o w = refl
      as_one false true true w = refl
      as_one false true false true = refl
      as_one false true false false = refl
      as_one false false o true = refl
      as_one false false o false = refl
  entry_by (O.Disable i) = subst (λ (t : Bool). EntryBy t (alter_of b u now i false)) (as_one u.track_usage (is_running b i) over) (alter_by i false)
    where
      as_one : (f r o : Bool) → cond (beq f false) false (cond r (o || false) false) ≡ ((f && r) && o) || false
      as_one false r o = refl
      as_one true true true = refl
      as_one true true false = refl
      as_one true false o = refl

pub every_entry : EveryEntry
unfolding entry_of EntryBy
every_entry b u reading op = entered (busy b op) refl (enter_of b u (stamp_of reading.0) op) refl (entry_by b u (stamp_of reading.0) op)
  where
    entered : (t : Bool) → busy b op ≡ t → (x : Result Entry Refusal) → enter_of b u (stamp_of reading.0) op ≡ x → EntryBy (full b u (stamp_of reading.0) op) x → EnteredIs b u (stamp_of reading.0) op (cond t (Err Already) x)
    entered true e x q h = inl (e, refl)
    entered false e (Ok entry) q h = (entry_is b u (stamp_of reading.0) op entry q, (e, (h, tt)))
    entered false e (Err why) q h = inr (e, inl (h.1, sym h.0))
