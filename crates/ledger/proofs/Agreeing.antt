-- The ledger's fields agree with what an onlooker keeps: carried along every run.
use Rattle.std.specs.Prelude.{Ok}
use Prim.Native.Nat.{ℕ, zero, suc, ◌+◌, ◌%◌, ◌^◌, ◌<◌}
use mathlib.Core.Path.{◌≡◌, refl, sym, ap, ◌∙◌, subst}
use mathlib.Core.Bool.{Bool, true, false, cond, not, ◌&&◌}
use mathlib.Core.List.{List, [], ◌∷◌}
use native.Mathlib.Omega.{arith}
use native.Mathlib.Nat.{add-zero}
use lib.ListN.{length, get_or, set, length-set, replicate, length-replicate}
use lib.Seq.{get_or-set_same, get_or-set_other}
use lib.Dec.{eqb}
use borrow.Author.Tests.{eqb-true, eqb-false, eq-eqb, ne_eqb, lt-leb, leb-false}
use Rattle.error.proofs.Tests.{clash}
use Rattle.error.specs.declared.Refusal.{Refusal}
use Rattle.error.proofs.Ordered.{by_outcome}
use Rattle.usage.specs.declared.ThreadUsage.{ThreadUsage}
use Rattle.usage.specs.Formulas.{new_idle, elapsed_stamps}
use Rattle.books.specs.declared.Books.{Books}
use Rattle.books.specs.declared.Entry.{Entry}
use Rattle.books.specs.declared.Operation.{Operation}
use Rattle.books.specs.declared.Operation.TheVariants as O
use Rattle.books.specs.Entries.{enter_of}
use Rattle.books.specs.Running.{stopped, is_running, open_cycles, stamp_of, unrecorded, past, busy, concerned}
use Rattle.books.specs.Laws.{closes, flag_after, stamp_after, running_after, EntryIs}
use Rattle.books.proofs.Entering.{entry_is}
use Rattle.ledger.specs.declared.Ledgered.{Ledgered}
use Rattle.ledger.specs.Operate.{refused_with, operate_tests, operate_of}
use Rattle.ledger.specs.Records.{thread_record}
use Rattle.ledger.specs.Sums.{sum_of, measured}
use Rattle.ledger.specs.Threads.{Open, none, since, is_none, is_of, closes_now, begins, open_after, tracked_after, shut}
use Rattle.ledger.proofs.Run.{World, Event, begin, after_answer, step, after}
use Rattle.ledger.proofs.Holds.{Marked, Follows, all_of, chain_of, Agrees, EveryRun}
use Rattle.ledger.proofs.Operating.{within}
use Rattle.ledger.proofs.Adding.{stamp_sums, stamp_chain}
use Rattle.ledger.proofs.Timing.{in_time}
use Rattle.ledger.proofs.Operated.{stored_by}
use Rattle.ledger.proofs.Refusing.{never_invalid}

-- a record stored at k, and every other as it was, in a table of any length
pub stored : (ts : List ThreadUsage) (k j : ℕ) (v : ThreadUsage) → k < length ts → get_or (set ts k v) j new_idle ≡ cond (eqb k j) v (get_or ts j new_idle)
stored ts k j v h = by_test (eqb k j) refl
  where
    by_test : (same : Bool) → eqb k j ≡ same → get_or (set ts k v) j new_idle ≡ cond same v (get_or ts j new_idle)
    by_test true e = rw (← eqb-true k j e) (get_or-set_same ts k v new_idle h)
    by_test false e = get_or-set_other ts k j v new_idle (λ q. eqb-false k j e (sym q))

-- a stamp is never 0
stamped : (time : ℕ) → stamp_of time ≡ 0 → ⊥
unfolding stamp_of
stamped time = by_test (eqb (time % 2 ^ 32) 0) refl
  where
    by_test : (zero : Bool) → eqb (time % 2 ^ 32) 0 ≡ zero → cond zero 1 (time % 2 ^ 32) ≡ 0 → ⊥
    by_test true e q = omega arith
    by_test false e q = eqb-false _ _ e q

-- what the books say of the open stretch
marked_none : (slots : ℕ) (b : Books) (o : Open) → Marked slots b o → stopped b ≡ is_none o
marked_none slots b none m = eq-eqb _ _ m
marked_none slots b (since i from) m = ne_eqb _ _ (λ z. stamped from (sym m.0 ∙ z))

marked_of : (slots : ℕ) (b : Books) (o : Open) → Marked slots b o → (i : ℕ) → is_running b i ≡ is_of o i
unfolding is_running
marked_of slots b none m i = simp (eq-eqb _ _ m)
marked_of slots b (since j from) m i = simp (ne_eqb b.stamp 0 (λ z. stamped from (sym m.0 ∙ z)), m.1)

pub marked_recorded : (slots : ℕ) (b : Books) (o : Open) → Marked slots b o → unrecorded b slots ≡ false
unfolding unrecorded
marked_recorded slots b none m = simp (eq-eqb _ _ m)
marked_recorded slots b (since j from) m = simp (ne_eqb b.stamp 0 (λ z. stamped from (sym m.0 ∙ z)), m.1, lt-leb _ _ m.2)

-- what the open stretch measures when it is closed at a time, and to whom it is charged
added : Open → ℕ → ℕ
added none time = 0
added (since i from) time = measured from time

owner : Open → (ℕ → Bool) → ℕ → Bool
owner none tracked j = false
owner (since i from) tracked j = tracked i && eqb i j

-- a closed stretch is in both sums
all_after : (w : World) (time : ℕ) (o : Open) (c : Bool) → all_of measured (cond c (shut w.threads time o) w.threads.closed) ≡ all_of measured w.threads.closed + cond c (added o time) 0
unfolding all_of added
all_after w time none true = sym (add-zero _)
all_after w time (since i from) true = refl
all_after w time o false = sym (add-zero _)

sum_after : (w : World) (time j : ℕ) (o : Open) (c : Bool) → sum_of measured j (cond c (shut w.threads time o) w.threads.closed) ≡ sum_of measured j w.threads.closed + cond c (cond (owner o w.threads.tracked j) (added o time) 0) 0
unfolding sum_of added owner
sum_after w time j none true = sym (add-zero _)
sum_after w time j (since i from) true = refl
sum_after w time j o false = sym (add-zero _)

-- the clock's stamp against the open stretch's
cycles_are : (slots : ℕ) (b : Books) (o : Open) (time : ℕ) → Marked slots b o → is_none o ≡ false → open_cycles b (stamp_of time) ≡ added o time
unfolding added
cycles_are slots b none time m e = clash (cc)
cycles_are slots b (since i from) time m e = ap (elapsed_stamps (stamp_of time)) m.0

module _ (slots : ℕ) (w : World) (k : Agrees slots w) where
  abbrev b : Books
  b = w.ledger.books

  -- the ledger closes exactly where the onlooker says so
  closing : (op : Operation) → busy b op ≡ false → closes b (thread_record w.ledger (concerned b op)) op ≡ closes_now w.threads op
  unfolding closes closes_now concerned busy
  closing (O.Start i) free = sym free ∙ ap not (marked_none slots b w.threads.stretch k.mark)
  closing (O.Switch i) free = ap not (marked_none slots b w.threads.stretch k.mark)
  closing O.Stop free = ap not (marked_none slots b w.threads.stretch k.mark)
  closing (O.Enable i) free = simp (k.flags i, marked_of slots b w.threads.stretch k.mark i)
  closing (O.Disable i) free = simp (k.flags i, marked_of slots b w.threads.stretch k.mark i)

  -- and then the record concerned is that of the thread whose stretch is open
  and_true : (x y : Bool) → x && y ≡ true → y ≡ true
  and_true true y e = e
  and_true false y e = clash (cc)

  of_running : (o : Open) → Marked slots b o → not (is_none o) ≡ true → (i : ℕ) → is_of o (cond (eqb b.stamp 0) i b.running) ≡ true
  of_running none m e i = clash (cc)
  of_running (since j from) m e i = simp (ne_eqb b.stamp 0 (λ z. stamped from (sym m.0 ∙ z)), m.1) (eq-eqb j j refl)

  on_concerned : (op : Operation) → busy b op ≡ false → closes_now w.threads op ≡ true → is_of w.threads.stretch (concerned b op) ≡ true
  unfolding closes closes_now concerned
  on_concerned (O.Start i) free e = let q = closing (O.Start i) free in clash (cc)
  on_concerned (O.Switch i) free e = of_running w.threads.stretch k.mark e i
  on_concerned O.Stop free e = of_running w.threads.stretch k.mark e 0
  on_concerned (O.Enable i) free e = and_true (not (w.threads.tracked i)) _ e
  on_concerned (O.Disable i) free e = and_true (w.threads.tracked i) _ e

  not_none : (o : Open) (i : ℕ) → is_of o i ≡ true → is_none o ≡ false
  not_none none i e = clash (cc)
  not_none (since j from) i e = refl

  -- the charge of a stretch is that of its own thread, and of no other
  owned : (o : Open) (at j : ℕ) → is_of o at ≡ true → owner o w.threads.tracked j ≡ w.threads.tracked at && eqb at j
  unfolding owner
  owned none at j e = clash (cc)
  owned (since i from) at j e = rw (eqb-true i at e)

  -- the flag of the thread concerned, and of every other, as the onlooker keeps it
  module _ (j : ℕ) where
    flag_of : (op : Operation) → eqb (concerned b op) j ≡ true → flag_after op (w.threads.tracked (concerned b op)) ≡ tracked_after w.threads op j
    unfolding flag_after tracked_after concerned
    flag_of (O.Start i) m = ap w.threads.tracked (eqb-true _ _ m)
    flag_of (O.Switch i) m = ap w.threads.tracked (eqb-true _ _ m)
    flag_of O.Stop m = ap w.threads.tracked (eqb-true _ _ m)
    flag_of (O.Enable i) m = simp m
    flag_of (O.Disable i) m = simp m

    other_flag : (op : Operation) → eqb (concerned b op) j ≡ false → w.threads.tracked j ≡ tracked_after w.threads op j
    unfolding tracked_after concerned
    other_flag (O.Start i) m = refl
    other_flag (O.Switch i) m = refl
    other_flag O.Stop m = refl
    other_flag (O.Enable i) m = simp m
    other_flag (O.Disable i) m = simp m

  -- an accepted entry of an operation at a time
  module _ (op : Operation) (time : ℕ) (e : Entry) (law : EntryIs b (thread_record w.ledger (concerned b op)) (stamp_of time) op e) (free : busy b op ≡ false) where
    abbrev at : ℕ
    at = concerned b op

    -- the cycles answered are those of the stretch that the onlooker closes
    cycles_of : (c : Bool) → closes_now w.threads op ≡ c → e.cycles ≡ cond c (added w.threads.stretch time) 0
    cycles_of true q = law.cycles ∙ simp (closing op free ∙ q) (cycles_are slots b w.threads.stretch time k.mark (not_none w.threads.stretch at (on_concerned op free q)))
    cycles_of false q = law.cycles ∙ simp (closing op free ∙ q)

    machine_after : e.books.total.0 ≡ all_of measured (cond (closes_now w.threads op) (shut w.threads time w.threads.stretch) w.threads.closed)
    machine_after = law.machine ∙ (ap (λ (n : ℕ). n + e.cycles) k.machine ∙ (ap (λ (n : ℕ). all_of measured w.threads.closed + n) (cycles_of (closes_now w.threads op) refl) ∙ sym (all_after w time w.threads.stretch (closes_now w.threads op))))

    -- the total of the record concerned, and of every other
    credit : (j : ℕ) (c : Bool) → closes_now w.threads op ≡ c → (mine : Bool) → eqb at j ≡ mine → cond mine (cond (w.threads.tracked at) (cond c (added w.threads.stretch time) 0) 0) 0 ≡ cond c (cond (owner w.threads.stretch w.threads.tracked j) (added w.threads.stretch time) 0) 0
    credit j true q mine m = rw (owned w.threads.stretch at j (on_concerned op free q), m) (both_ways (w.threads.tracked at) mine (added w.threads.stretch time))
      where
        both_ways : (tracked mine : Bool) (n : ℕ) → cond mine (cond tracked n 0) 0 ≡ cond (tracked && mine) n 0
        both_ways true true n = refl
        both_ways true false n = refl
        both_ways false true n = refl
        both_ways false false n = refl
    credit j false q true m = by_flag (w.threads.tracked at)
      where
        by_flag : (tracked : Bool) → ◌≡◌ {A = ℕ} (cond tracked 0 0) 0
        by_flag true = refl
        by_flag false = refl
    credit j false q false m = refl

    -- where the record concerned is in the table
    module _ (inside : at < slots) where
      here : at < length w.ledger.threads
      here = let size = k.size in omega arith

      record_after : (j : ℕ) → get_or (set w.ledger.threads at e.usage) j new_idle ≡ cond (eqb at j) e.usage (thread_record w.ledger j)
      record_after j = stored w.ledger.threads at j e.usage here

      totals_after : (j : ℕ) → (get_or (set w.ledger.threads at e.usage) j new_idle).total_cycles.0 ≡ sum_of measured j (cond (closes_now w.threads op) (shut w.threads time w.threads.stretch) w.threads.closed)
      totals_after j = ap (λ (u : ThreadUsage). u.total_cycles.0) (record_after j) ∙ (by_record (eqb at j) refl ∙ sym (sum_after w time j w.threads.stretch (closes_now w.threads op)))
        where
          by_record : (mine : Bool) → eqb at j ≡ mine → (cond mine e.usage (thread_record w.ledger j)).total_cycles.0 ≡ sum_of measured j w.threads.closed + cond (closes_now w.threads op) (cond (owner w.threads.stretch w.threads.tracked j) (added w.threads.stretch time) 0) 0
          by_record true m =
              law.total ∙
              (ap (λ (n : ℕ). n + cond (thread_record w.ledger at).track_usage e.cycles 0) (k.totals at) ∙
              (rw (k.flags at, cycles_of (closes_now w.threads op) refl, eqb-true at j m)
              (ap (λ (n : ℕ). sum_of measured j w.threads.closed + n) (rw (eqb-true at j m) at (credit j (closes_now w.threads op) refl true m)))))
          by_record false m = k.totals j ∙ (sym (add-zero _) ∙ ap (λ (n : ℕ). sum_of measured j w.threads.closed + n) (credit j (closes_now w.threads op) refl false m))

      flags_after : (j : ℕ) → (get_or (set w.ledger.threads at e.usage) j new_idle).track_usage ≡ tracked_after w.threads op j
      flags_after j = ap (λ (u : ThreadUsage). u.track_usage) (record_after j) ∙ by_record (eqb at j) refl
        where
          told : flag_after op (thread_record w.ledger at).track_usage ≡ flag_after op (w.threads.tracked at)
          told = ap (flag_after op) (k.flags at)

          by_record : (mine : Bool) → eqb at j ≡ mine → (cond mine e.usage (thread_record w.ledger j)).track_usage ≡ tracked_after w.threads op j
          by_record true m = law.flag ∙ (told ∙ flag_of j op m)
          by_record false m = k.flags j ∙ other_flag j op m

    same_mark : (o : Open) → e.books.stamp ≡ b.stamp → e.books.running ≡ b.running → Marked slots b o → Marked slots e.books o
    same_mark none s r m = s ∙ m
    same_mark (since i from) s r m = (s ∙ m.0, r ∙ m.1, m.2)

    of_thread : (o : Open) (i : ℕ) → is_of o i ≡ true → Marked slots b o → (b.running ≡ i) × (i < slots)
    of_thread none i q m = clash (cc)
    of_thread (since j from) i q m = let same = eqb-true j i q in (m.1 ∙ same, subst (λ (n : ℕ). n < slots) same m.2)

    -- enable and disable: the mark moves on where a stretch is closed and opened, and stays elsewhere
    altered_mark : (i : ℕ) → e.books.stamp ≡ cond (closes_now w.threads op) (stamp_of time) b.stamp → e.books.running ≡ b.running → at ≡ i → (c : Bool) → closes_now w.threads op ≡ c → Marked slots e.books (cond c (since i time) w.threads.stretch)
    altered_mark i s r a true c =
        let own = of_thread w.threads.stretch i (rw (← a) (on_concerned op free c)) k.mark in
        (s ∙ simp c, r ∙ own.0, own.1)
    altered_mark i s r a false c = same_mark w.threads.stretch (s ∙ simp c) r k.mark

  module _ (time : ℕ) (e : Entry) where
    mark_after : (op : Operation) → EntryIs b (thread_record w.ledger (concerned b op)) (stamp_of time) op e → past op slots ≡ false → Marked slots e.books (open_after w.threads time op)
    unfolding open_after stamp_after running_after past concerned busy
    mark_after (O.Start i) law p = (law.stamp, law.running, leb-false _ _ p)
    mark_after (O.Switch i) law p = (law.stamp, law.running, leb-false _ _ p)
    mark_after O.Stop law p = law.stamp
    mark_after (O.Enable i) law p =
        altered_mark (O.Enable i) time e law refl i (law.stamp ∙ ap (λ (c : Bool). cond c (stamp_of time) b.stamp) (closing (O.Enable i) refl)) law.running refl (closes_now w.threads (O.Enable i)) refl
    mark_after (O.Disable i) law p =
        altered_mark (O.Disable i) time e law refl i (law.stamp ∙ ap (λ (c : Bool). cond c (stamp_of time) b.stamp) (closing (O.Disable i) refl)) law.running refl (closes_now w.threads (O.Disable i)) refl

  -- what begins a chain closes nothing
  begins_idle : (op : Operation) → busy b op ≡ false → begins w.threads op ≡ true → closes_now w.threads op ≡ false
  unfolding begins closes_now closes
  begins_idle (O.Start i) free e = sym (closing (O.Start i) free)
  begins_idle (O.Switch i) free e = ap not e
  begins_idle O.Stop free e = clash (cc)
  begins_idle (O.Enable i) free e = clash (cc)
  begins_idle (O.Disable i) free e = clash (cc)

  -- the chain since the last start
  chain_after : (op : Operation) (time : ℕ) (e : Entry) → EntryIs b (thread_record w.ledger (concerned b op)) (stamp_of time) op e → busy b op ≡ false → (new c : Bool) → begins w.threads op ≡ new → closes_now w.threads op ≡ c → cond new e.cycles (w.answered + e.cycles) ≡ chain_of measured (cond new time (cond c time w.threads.last)) (cond new [] (cond c (w.threads.last ∷ w.threads.times) w.threads.times))
  unfolding chain_of added Follows
  chain_after op time e law free true c n q = cycles_of op time e law free false (begins_idle op free n)
  chain_after op time e law free false true n q = rw (k.chain, cycles_of op time e law free true q) (ap (λ (n : ℕ). chain_of measured w.threads.last w.threads.times + n) (from_last w.threads.stretch (not_none w.threads.stretch _ (on_concerned op free q)) k.follows))
    where
      from_last : (o : Open) → is_none o ≡ false → Follows o w.threads.last → added o time ≡ measured w.threads.last time
      from_last none n f = clash (cc)
      from_last (since i from) n f = ap (λ (t : ℕ). measured t time) f
  chain_after op time e law free false false n q = rw (k.chain, cycles_of op time e law free false q) (add-zero _)

  -- an open stretch begins at the last closing or opening
  follows_after : (op : Operation) (time : ℕ) → Follows (open_after w.threads time op) (cond (begins w.threads op) time (cond (closes_now w.threads op) time w.threads.last))
  unfolding open_after begins Follows closes_now
  follows_after (O.Start i) time = refl
  follows_after (O.Switch i) time = by_test (is_none w.threads.stretch)
    where
      by_test : (empty : Bool) → time ≡ cond empty time (cond (not empty) time w.threads.last)
      by_test true = refl
      by_test false = refl
  follows_after O.Stop time = tt
  follows_after (O.Enable i) time = by_test (not (w.threads.tracked i) && is_of w.threads.stretch i)
    where
      by_test : (c : Bool) → Follows (cond c (since i time) w.threads.stretch) (cond c time w.threads.last)
      by_test true = refl
      by_test false = k.follows
  follows_after (O.Disable i) time = by_test (w.threads.tracked i && is_of w.threads.stretch i)
    where
      by_test : (c : Bool) → Follows (cond c (since i time) w.threads.stretch) (cond c time w.threads.last)
      by_test true = refl
      by_test false = k.follows

step_keeps : (slots : ℕ) → 0 < slots → (ev : Event) (w : World) → Agrees slots w → Agrees slots (step ev w)
unfolding step operate_of
step_keeps slots some ev w k =
    by_outcome (refused_with w.ledger) _ P (operate_tests w.ledger ev.operation) unchanged
    (λ tests.
    stored_by w.ledger (concerned w.ledger.books ev.operation) P
    (enter_of w.ledger.books (thread_record w.ledger (concerned w.ledger.books ev.operation)) (stamp_of ev.time) ev.operation)
    unchanged
    (λ e p. accepted e (entry_is _ _ _ _ e p) (rw k.size at tests.0) (rw k.size at tests.1.0) tests.1.1.0))
  where
    P : Ledgered → Type 0
    P o = Agrees slots (after_answer w ev o.ledger o.answer)

    unchanged : (why : Refusal) → P (refused_with w.ledger why)
    unchanged why = record { size = k.size; mark = k.mark; flags = k.flags; totals = k.totals; machine = k.machine; chain = k.chain; follows = k.follows }

    accepted : (e : Entry) → EntryIs w.ledger.books (thread_record w.ledger (concerned w.ledger.books ev.operation)) (stamp_of ev.time) ev.operation e → unrecorded w.ledger.books slots ≡ false → past ev.operation slots ≡ false → busy w.ledger.books ev.operation ≡ false → P (record { answer = Ok e.cycles; ledger = record { books = e.books; threads = set w.ledger.threads (concerned w.ledger.books ev.operation) e.usage } })
    accepted e law r p free =
        let inside = within w.ledger.books ev.operation slots some r p in
        record {
          size = length-set w.ledger.threads (concerned w.ledger.books ev.operation) e.usage ∙ k.size;
          mark = mark_after slots w k ev.time e ev.operation law p;
          flags = flags_after slots w k ev.operation ev.time e law free inside;
          totals = totals_after slots w k ev.operation ev.time e law free inside;
          machine = machine_after slots w k ev.operation ev.time e law free;
          chain = chain_after slots w k ev.operation ev.time e law free (begins w.threads ev.operation) (closes_now w.threads ev.operation) refl refl;
          follows = follows_after slots w k ev.operation ev.time;
        }

keeps : (slots : ℕ) → 0 < slots → (es : List Event) (w : World) → Agrees slots w → Agrees slots (after es w)
unfolding after
keeps slots some [] w k = k
keeps slots some (e ∷ es) w k = keeps slots some es (step e w) (step_keeps slots some e w k)

-- a fresh table: every record idle, read anywhere
idle_at : (slots i : ℕ) → get_or (replicate slots new_idle) i new_idle ≡ new_idle
idle_at zero i = refl
idle_at (suc n) zero = refl
idle_at (suc n) (suc i) = idle_at n i

at_begin : (slots : ℕ) → Agrees slots (begin slots)
unfolding sum_of all_of chain_of Follows
at_begin slots = record {
  size = length-replicate slots new_idle;
  mark = refl;
  flags = λ i. ap (λ (u : ThreadUsage). u.track_usage) (idle_at slots i);
  totals = λ i. ap (λ (u : ThreadUsage). u.total_cycles.0) (idle_at slots i);
  machine = refl;
  chain = refl;
  follows = tt;
}

pub every_run : EveryRun
every_run slots some es =
    let w = after es (begin slots) in
    let k = keeps slots some es (begin slots) (at_begin slots) in (
      k,
      never_invalid w.ledger (rw k.size (marked_recorded slots w.ledger.books w.threads.stretch k.mark)),
      λ time timely.
          let order = in_time slots es time timely in
          record {
            threads = λ i short. rw (k.totals i) (stamp_sums i w.threads.closed order.ordered short);
            chain = λ short. rw k.chain (stamp_chain w.threads.last w.threads.times order.chain short);
          },
    )
