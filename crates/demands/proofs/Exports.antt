-- Each export is read off its leaf's answer.
use Rattle.std.specs.Prelude.{ℕ, Result, Ok, Err}
use Rattle.std.specs.Result.{result_unwrap_or}
use mathlib.Core.Path.{◌≡◌, refl, sym, ap, ◌∙◌}
use Rattle.error.specs.declared.Refusal.{Refusal}
use Rattle.usage.specs.Formulas.{new_idle}
use Rattle.tickclock.specs.Plain.{flag_of}
use Rattle.demands.specs.Exports.{Exports, ExportsValue, ExportsRead, part_or_zero}

-- a contract that says by functions what leaf, reader and export give
exported :
    {Plain Args Answer Read Out Lives Lives' Lives'' Exit Exit' Exit'' : Type 0}
    (made : Plain → Args) (leaf : Args → Answer) (reader : Answer × Unit {0} → Read) (plain : Read → Out) →
    Exports made (λ (l : Lives) a r (x : Exit). r ≡ leaf a) (λ (l : Lives') a r (x : Exit'). r ≡ reader a) plain (λ (l : Lives'') g r (x : Exit''). r ≡ plain (reader (leaf (made g), tt)))
exported made leaf reader plain = record { gives = λ given answer read of-leaf of_reader r of-export. of-export.2 ∙ ap plain (sym (of_reader.2 ∙ ap (λ a. reader (a, tt)) of-leaf.2)) }

exported_value :
    {Plain Args Answer Out Lives Lives' Exit Exit' : Type 0}
    (made : Plain → Args) (leaf : Args → Answer) (plain : Answer → Out) →
    ExportsValue made (λ (l : Lives) a r (x : Exit). r ≡ leaf a) plain (λ (l : Lives') g r (x : Exit'). r ≡ plain (leaf (made g)))
exported_value made leaf plain = record { gives = λ given answer of-leaf r of-export. of-export.2 ∙ ap plain (sym of-leaf.2) }

-- the same of a part of the value, from what the contract says of the answer
read_or_zero : {Value : Type 0} (part : Value → ℕ) (zeros : Value) → part zeros ≡ 0 → (answer : Result Value Refusal) → part (result_unwrap_or answer zeros) ≡ part_or_zero part answer
read_or_zero part zeros none (Ok v) = refl
read_or_zero part zeros none (Err why) = none

exported_part :
    {Plain Args Value Lives Lives' Exit Exit' : Type 0}
    (made : Plain → Args) (leaf : Args → Result Value Refusal) (part : Value → ℕ) (zeros : Value) → part zeros ≡ 0 →
    ExportsValue made (λ (l : Lives) a r (x : Exit). r ≡ leaf a) (part_or_zero part) (λ (l : Lives') g r (x : Exit'). r ≡ part (result_unwrap_or (leaf (made g)) zeros))
exported_part made leaf part zeros none = record { gives = λ given answer of-leaf r of-export. of-export.2 ∙ (read_or_zero part zeros none (leaf (made given)) ∙ ap (part_or_zero part) (sym of-leaf.2)) }

pub exports_read : ExportsRead
unfolding flag_of
exports_read = record {
  elapsed_cycles_lem = (exported_value _ _ _, exported_part _ _ _ _ refl);
  cycles_to_ticks_lem = (exported_value _ _ _, exported_part _ _ _ _ refl);
  ticks_to_cycles_lem = (exported_value _ _ _, exported_part _ _ _ _ refl);
  max_ticks_lem = (exported_value _ _ _, exported_part _ _ _ _ refl);
  elapsed_decide_lem = (exported_value _ _ _, exported_part _ _ _ _ refl, exported_part _ _ _ _ refl, exported_part _ _ _ _ refl);
  announce_decide_lem = (exported_value _ _ _, exported_part _ _ _ _ refl, exported_part _ _ _ _ refl, exported_part _ _ _ _ refl);
  value = (exported_value _ _ _, exported_part _ _ _ _ refl);
  enable = (exported_value _ _ _, exported_part _ _ _ _ refl, exported_part _ _ _ _ refl, exported_part _ _ _ _ refl);
  disable = (exported_value _ _ _, exported_part _ _ _ new_idle refl, exported_part _ _ _ new_idle refl, exported_part _ _ _ new_idle refl);
  accumulate = (exported_value _ _ _, exported_part _ _ _ _ refl, exported_part _ _ _ _ refl, exported_part _ _ _ _ refl);
  sys_enable_decide_lem = exported _ _ _ _;
  sys_disable_decide_lem = exported _ _ _ _;
  start_decide_lem = exported _ _ _ _;
  stop_decide_lem = exported _ _ _ _;
  average_cycles_lem = exported_value _ _ _;
  stamps_apart = exported_value _ _ _;
  is_tracked_lem = exported_value _ _ _;
  new_idle_lem = (exported_value _ _ _, exported_value _ _ _, exported_value _ _ _);
  never_refused = (
    (λ total windows r given. given.2),
    (λ now usage0 r given. given.2),
    (λ flag total windows r given. given.2),
    (λ r given. given.2),
    (λ tracking r given. given.2),
    (λ tracking r given. given.2),
    (λ tracked r given. given.2),
    (λ usage0 r given. given.2),
  );
}
