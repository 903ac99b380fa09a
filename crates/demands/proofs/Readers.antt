-- What is read off an answer, case by case.
use mathlib.Core.Path.{refl}
use Rattle.error.specs.Said.{number_in}
use Rattle.usage.specs.Says.{sys_track_says, start_says, stop_says}
use Rattle.table.specs.Says.{outcome_says}
use Rattle.demands.specs.Readers.{Readers}

-- each definition says by cases what is to be shown, and so does each contract
pub readers : Readers
unfolding number_in sys_track_says start_says stop_says outcome_says
readers = record {
  refusal = λ why r given. given.2;
  number = λ T laws dict answer r given. given.2;
  value = λ T Why laws why_laws dict why_dict answer zeros r given. given.2;
  elapsed_cycles_lem = ((λ v. refl, λ why. refl), (λ v. refl, λ why. refl));
  cycles_to_ticks_lem = ((λ v. refl, λ why. refl), (λ v. refl, λ why. refl));
  ticks_to_cycles_lem = ((λ v. refl, λ why. refl), (λ v. refl, λ why. refl));
  max_ticks_lem = ((λ v. refl, λ why. refl), (λ v. refl, λ why. refl));
  elapsed_decide_lem = ((λ v. refl, λ why. refl), (λ v. refl, λ why. refl), (λ v. refl, λ why. refl), (λ v. refl, λ why. refl));
  announce_decide_lem = ((λ v. refl, λ why. refl), (λ v. refl, λ why. refl), (λ v. refl, λ why. refl), (λ v. refl, λ why. refl));
  changed = ((λ v. refl, λ why. refl), (λ v. refl, λ why. refl));
  ran = ((λ v. refl, λ why. refl), (λ v. refl, λ why. refl));
  sample_read = (λ v. refl, λ why. refl);
  value_read = ((λ v. refl, λ why. refl), (λ v. refl, λ why. refl));
  set_up_lem = (λ v. refl, λ why. refl);
  sampled = ((λ v. refl, λ why. refl), (λ v. refl, λ why. refl), (λ v. refl, λ why. refl), (λ v. refl, λ why. refl));
  announced = ((λ v. refl, λ why. refl), (λ v. refl, λ why. refl));
  entered = (λ v. refl, λ why. refl);
  operated = ((λ v. refl, λ why. refl), (λ v. refl, λ why. refl));
  reported = ((λ v. refl, λ why. refl), (λ v. refl, λ why. refl), (λ v. refl, λ why. refl));
  decoded = (λ v. refl, λ why. refl);
  written = ((λ v. refl, λ why. refl), (λ v. refl, λ why. refl));
  reason = λ why r given. given.2;
  outcome_number = λ outcome r given. given.2;
  outcome = (λ v. refl, λ why. refl, (λ v. refl, λ why. refl), (λ v. refl, λ why. refl));
  sys_track = (λ r given. given.2, λ r given. given.2);
  start = (λ r given. given.2, λ r given. given.2);
  stop = (λ r given. given.2, λ r given. given.2);
}
