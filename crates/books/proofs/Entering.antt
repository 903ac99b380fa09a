-- Every accepted entry is as its law says.
use Rattle.std.specs.Prelude.{Result, Ok, Err}
use Prim.Native.Nat.{ℕ, ◌+◌}
use mathlib.Core.Path.{◌≡◌, refl, sym, ap, ◌∙◌}
use mathlib.Core.Bool.{Bool, true, false, cond, not, ◌&&◌, beq}
use mathlib.Core.List.{[], ◌∷◌}
use native.Mathlib.Nat.{add-zero}
use lib.Dec.{ltb, eqb}
use borrow.Author.Tests.{eqb-true}
use Rattle.error.proofs.Tests.{clash, nothing_added}
use Rattle.error.specs.declared.Refusal.{Refusal}
use Rattle.error.specs.declared.Refusal.TheVariants.{Overflow}
use Rattle.error.specs.Numbers.{max64}
use Rattle.error.proofs.Ordered.{by_outcome}
use Rattle.usage.specs.declared.ThreadUsage.{ThreadUsage}
use Rattle.usage.specs.Record.{with_flag, with_total}
use Rattle.usage.specs.Leaves.{enabled, enabled_record, enable_tests, accumulated, sum_tests}
use Rattle.books.specs.declared.Books.{Books}
use Rattle.books.specs.declared.Entry.{Entry}
use Rattle.books.specs.declared.Operation.{Operation}
use Rattle.books.specs.declared.Operation.TheVariants as O
use Rattle.books.specs.Entries.{open_of, shut_of, entered, charged, onward, close_of, stop_of, switch_of, altered, reopen_of, alter_of, enter_of}
use Rattle.books.specs.Running.{stopped, is_running, open_cycles}
use Rattle.books.specs.Laws.{closes, flag_after, rises, stamp_after, running_after, EntryIs}

-- what holds of each accepted case, with how it came about, holds of the outcome
pub onward_by : {Value : Type 0} (P : Result Entry Refusal → Type 0) (x : Result Value Refusal) (go_on : Value → Result Entry Refusal) → ((why : Refusal) → P (Err why)) → ((v : Value) → x ≡ Ok v → P (go_on v)) → P (onward x go_on)
unfolding onward
onward_by P (Ok v) go_on refused f = f v refl
onward_by P (Err why) go_on refused f = refused why

-- a charge: the total of a tracked record alone
pub record ChargeIs (u : ThreadUsage) (d : ℕ) (v : ThreadUsage) : Type 0 where
  pub total : v.total_cycles.0 ≡ u.total_cycles.0 + cond u.track_usage d 0
  pub flag : v.track_usage ≡ u.track_usage
  pub windows : v.num_windows ≡ u.num_windows

charge_is : (u : ThreadUsage) (d : ℕ) (v : ThreadUsage) → charged u d ≡ Ok v → ChargeIs u d v
unfolding charged accumulated
charge_is u d v = by_flag u.track_usage refl
  where
    by_flag : (on : Bool) → u.track_usage ≡ on → cond on (accumulated u d) (Ok u) ≡ Ok v → ChargeIs u d v
    by_flag true on e =
        by_outcome Err (Ok (with_total (record { 0 = u.total_cycles.0 + d }) u)) (λ (o : Result ThreadUsage Refusal). o ≡ Ok v → ChargeIs u d v)
        (sum_tests u d)
        (λ why q. clash (cc))
        (λ none q. let is : with_total (record { 0 = u.total_cycles.0 + d }) u ≡ v = cc in rw (← is) (record { total = rw on refl; flag = refl; windows = refl }))
        e
    by_flag false on e = let is : u ≡ v = cc in rw (← is) (record { total = rw on (sym (add-zero _)); flag = refl; windows = refl })

-- an altered flag: the total stays, and a window opens where an untracked record is enabled
record AlterIs (u : ThreadUsage) (on : Bool) (v : ThreadUsage) : Type 0 where
  total : v.total_cycles.0 ≡ u.total_cycles.0
  flag : v.track_usage ≡ on
  windows : v.num_windows ≡ u.num_windows + cond (on && not u.track_usage) 1 0

alter_is : (u : ThreadUsage) (on : Bool) (v : ThreadUsage) → altered u on ≡ Ok v → AlterIs u on v
unfolding altered enabled
alter_is u true v e =
    by_outcome Err (Ok (enabled_record u)) (λ (o : Result ThreadUsage Refusal). o ≡ Ok v → AlterIs u true v)
    (enable_tests u)
    (λ why q. clash (cc))
    (λ none q. let is : enabled_record u ≡ v = cc in rw (← is) (by_flag u.track_usage refl))
    e
  where
    by_flag : (on : Bool) → u.track_usage ≡ on → AlterIs u true (enabled_record u)
    by_flag true on = rw on (record { total = refl; flag = refl; windows = sym (add-zero _) })
    by_flag false on = rw on (record { total = refl; flag = refl; windows = refl })
alter_is u false v e = let is : with_flag false u ≡ v = cc in rw (← is) (record { total = refl; flag = refl; windows = sym (add-zero _) })

-- a close: the stamps' difference, once to the machine and, if tracked, once to the thread
pub record CloseIs (b : Books) (u : ThreadUsage) (now : ℕ) (e : Entry) : Type 0 where
  pub cycles : e.cycles ≡ open_cycles b now
  pub books : e.books ≡ shut_of b e.cycles
  pub charge : ChargeIs u e.cycles e.usage

pub close_is : (b : Books) (u : ThreadUsage) (now : ℕ) (e : Entry) → close_of b u now ≡ Ok e → CloseIs b u now e
unfolding close_of
close_is b u now e =
    by_outcome Err _ (λ (o : Result Entry Refusal). o ≡ Ok e → CloseIs b u now e)
    ((ltb max64 (b.total.0 + open_cycles b now), Overflow) ∷ [])
    (λ why q. clash (cc))
    (λ none. onward_by (λ (o : Result Entry Refusal). o ≡ Ok e → CloseIs b u now e) (charged u (open_cycles b now)) _
    (λ why q. clash (cc))
    (λ v c q.
    let is : record { cycles = open_cycles b now; books = shut_of b (open_cycles b now); usage = v } ≡ e = cc in
    rw (← is) (record { cycles = refl; books = refl; charge = charge_is u _ v c })))

idle_is : (b : Books) (u : ThreadUsage) (now : ℕ) (op : Operation) → closes b u op ≡ false → flag_after op u.track_usage ≡ u.track_usage → rises op u.track_usage ≡ false → stamp_after b u now op ≡ b.stamp → running_after b op ≡ b.running → EntryIs b u now op (record { cycles = 0; books = b; usage = u })
idle_is b u now op c f w s r = record {
  cycles = rw c refl;
  machine = sym (add-zero _);
  total = nothing_added _ u.track_usage;
  flag = sym f;
  windows = rw w (sym (add-zero _));
  stamp = sym s;
  running = sym r;
}

stop_is : (b : Books) (u : ThreadUsage) (now : ℕ) (e : Entry) → stop_of b u now ≡ Ok e → EntryIs b u now O.Stop e
unfolding stop_of closes flag_after rises stamp_after running_after
stop_is b u now e = by_test (stopped b) refl
  where
    by_test : (none : Bool) → stopped b ≡ none → cond none (entered 0 b u) (close_of b u now) ≡ Ok e → EntryIs b u now O.Stop e
    by_test true t q =
        let is : record { cycles = 0; books = b; usage = u } ≡ e = cc in
        rw (← is) (idle_is b u now O.Stop (rw t refl) refl refl (sym (eqb-true _ _ t)) refl)
    by_test false t q =
        let c = close_is b u now e q in
        record {
          cycles = rw t c.cycles;
          machine = ap (λ (x : Books). x.total.0) c.books;
          total = c.charge.total;
          flag = c.charge.flag;
          windows = c.charge.windows ∙ sym (add-zero _);
          stamp = ap (λ (x : Books). x.stamp) c.books;
          running = ap (λ (x : Books). x.running) c.books;
        }

switch_is : (b : Books) (u : ThreadUsage) (now i : ℕ) (e : Entry) → switch_of b u now i ≡ Ok e → EntryIs b u now (O.Switch i) e
unfolding switch_of closes flag_after rises stamp_after running_after
switch_is b u now i e =
    onward_by (λ (o : Result Entry Refusal). o ≡ Ok e → EntryIs b u now (O.Switch i) e) (stop_of b u now) _
    (λ why q. clash (cc))
    (λ s p q.
    let k = stop_is b u now s p in
    let is : record { cycles = s.cycles; books = open_of s.books now i; usage = s.usage } ≡ e = cc in
    rw (← is) (record { cycles = k.cycles; machine = k.machine; total = k.total; flag = k.flag; windows = k.windows; stamp = refl; running = refl }))

same_flag : (a b : Bool) → beq a b ≡ true → a ≡ b
same_flag true true e = refl
same_flag true false e = clash (cc)
same_flag false true e = clash (cc)
same_flag false false e = refl

no_rise : (on : Bool) → on && not on ≡ false
no_rise true = refl
no_rise false = refl

runs_number : (b : Books) (i : ℕ) → is_running b i ≡ true → i ≡ b.running
unfolding is_running
runs_number b i = by_test (stopped b)
  where
    by_test : (none : Bool) → not none && eqb b.running i ≡ true → i ≡ b.running
    by_test true e = clash (cc)
    by_test false e = sym (eqb-true _ _ e)

-- enable and disable, as one: `op` is the operation toward the flag `on`
module _ (b : Books) (u : ThreadUsage) (now i : ℕ) (on : Bool) (op : Operation)
    (closing : closes b u op ≡ not (beq u.track_usage on) && is_running b i)
    (flagging : flag_after op u.track_usage ≡ on)
    (rising : rises op u.track_usage ≡ on && not u.track_usage)
    (stamping : stamp_after b u now op ≡ cond (closes b u op) now b.stamp)
    (staying : running_after b op ≡ b.running)
    (e : Entry) where
  as_wanted : beq u.track_usage on ≡ true → entered 0 b u ≡ Ok e → EntryIs b u now op e
  as_wanted t q =
      let is : record { cycles = 0; books = b; usage = u } ≡ e = cc in
      let flag = same_flag _ _ t in
      let none : closes b u op ≡ false = closing ∙ simp t in
      rw (← is)
      (idle_is b u now op none (flagging ∙ sym flag) (rising ∙ (rw flag (no_rise on))) (stamping ∙ simp none) staying)

  other : beq u.track_usage on ≡ false → is_running b i ≡ false → onward (altered u on) (λ v. entered 0 b v) ≡ Ok e → EntryIs b u now op e
  other t r =
      onward_by (λ (o : Result Entry Refusal). o ≡ Ok e → EntryIs b u now op e) (altered u on) (λ v. entered 0 b v)
      (λ why q. clash (cc))
      (λ v p q.
      let is : record { cycles = 0; books = b; usage = v } ≡ e = cc in
      let a = alter_is u on v p in
      let none : closes b u op ≡ false = closing ∙ simp (t, r) in
      rw (← is)
      (record {
        cycles = rw none refl;
        machine = sym (add-zero _);
        total = a.total ∙ nothing_added _ u.track_usage;
        flag = a.flag ∙ sym flagging;
        windows = rw rising a.windows;
        stamp = sym (stamping ∙ simp none);
        running = sym staying;
      }))

  reopened : beq u.track_usage on ≡ false → is_running b i ≡ true → reopen_of b u now i on ≡ Ok e → EntryIs b u now op e
  unfolding reopen_of
  reopened t r =
      onward_by (λ (o : Result Entry Refusal). o ≡ Ok e → EntryIs b u now op e) (close_of b u now)
      (λ s. onward (altered s.usage on) (λ v. entered s.cycles (open_of s.books now i) v))
      (λ why q. clash (cc))
      (λ s p.
      onward_by (λ (o : Result Entry Refusal). o ≡ Ok e → EntryIs b u now op e) (altered s.usage on) (λ v. entered s.cycles (open_of s.books now i) v)
      (λ why q. clash (cc))
      (λ v x q.
      let is : record { cycles = s.cycles; books = open_of s.books now i; usage = v } ≡ e = cc in
      let c = close_is b u now s p in
      let a = alter_is s.usage on v x in
      let some : closes b u op ≡ true = closing ∙ simp (t, r) in
      rw (← is)
      (record {
        cycles = rw some c.cycles;
        machine = ap (λ (y : Books). y.total.0) c.books;
        total = a.total ∙ c.charge.total;
        flag = a.flag ∙ sym flagging;
        windows = a.windows ∙ rw (c.charge.windows, c.charge.flag, rising) refl;
        stamp = sym (stamping ∙ simp some);
        running = runs_number b i r ∙ sym staying;
      })))

  alter_entry : alter_of b u now i on ≡ Ok e → EntryIs b u now op e
  unfolding alter_of
  alter_entry = by_tests (beq u.track_usage on) refl (is_running b i) refl
    where
      by_tests : (t : Bool) → beq u.track_usage on ≡ t → (r : Bool) → is_running b i ≡ r → cond t (entered 0 b u) (cond r (reopen_of b u now i on) (onward (altered u on) (λ v. entered 0 b v))) ≡ Ok e → EntryIs b u now op e
      by_tests true t r p q = as_wanted t q
      by_tests false t true r q = reopened t r q
      by_tests false t false r q = other t r q

beq_true : (a : Bool) → not a ≡ not (beq a true)
beq_true true = refl
beq_true false = refl

beq_false : (a : Bool) → a ≡ not (beq a false)
beq_false true = refl
beq_false false = refl

-- an accepted entry is as its law says, whatever the operation
pub entry_is : (b : Books) (u : ThreadUsage) (now : ℕ) (op : Operation) (e : Entry) → enter_of b u now op ≡ Ok e → EntryIs b u now op e
unfolding enter_of closes flag_after rises stamp_after running_after
entry_is b u now (O.Start i) e q =
    let is : record { cycles = 0; books = open_of b now i; usage = u } ≡ e = cc in
    rw (← is) (record { cycles = refl; machine = sym (add-zero _); total = nothing_added _ u.track_usage; flag = refl; windows = sym (add-zero _); stamp = refl; running = refl })
entry_is b u now (O.Switch i) e q = switch_is b u now i e q
entry_is b u now O.Stop e q = stop_is b u now e q
entry_is b u now (O.Enable i) e q = alter_entry b u now i true (O.Enable i) (ap (λ (x : Bool). x && is_running b i) (beq_true u.track_usage)) refl refl refl refl e q
entry_is b u now (O.Disable i) e q = alter_entry b u now i false (O.Disable i) (ap (λ (x : Bool). x && is_running b i) (beq_false u.track_usage)) refl refl refl refl e q
