-- Every other public function gives what its contract names.
use mathlib.Core.Path.{refl}
use Rattle.machine.proofs.Tying.{step_made}
use Rattle.demands.specs.Terms.{TermsGiven}

pub terms_given : TermsGiven
terms_given = record {
  good_period_lem = λ a r given. given.2;
  in_range_lem = λ a r given. given.2;
  cycles_above_lem = λ a b r given. given.2;
  cleared = λ a r given. given.2;
  whole = λ a r given. given.2;
  bad_setup_lem = λ a b r given. given.2;
  well_formed_lem = λ a r given. given.2;
  crowded = λ a r given. given.2;
  nothing_booked_lem = λ r given. given.2;
  no_thread_lem = λ a b r given. given.2;
  unrecorded = λ a b r given. given.2;
  past = λ a b r given. given.2;
  busy = λ a b r given. given.2;
  concerned = λ a b r given. given.2;
  enter = λ a b c d r given. given.2;
  operate = λ a b c r given. given.2;
  operate_on = λ books threads reading op lives answer exit given. given;
  report_from = λ books threads i r given. given.2;
  report_of = λ a r given. given.2;
  fresh_ledger_lem = λ r given. given.2;
  decode = λ a b r given. given.2;
  records_from_lem = λ a b r given. given.2;
  bytes_from_lem = λ a b r given. given.2;
  item_at_lem = λ a b r given. given.2;
  place_after = λ a b r given. given.2;
  malformed_state = λ a b r given. given.2;
  core = λ a r given. given.2;
  machine_of_lem = λ a b r given. given.2;
  make = λ core threads change lives answer exit given. given;
  step_is_made = λ m d. step_made (record { slots = _; broken = _; table = refl; form = refl; made = refl });
  report_values_lem = λ a r given. given.2;
  step = λ a b r given. given.2;
  fresh_machine_lem = λ r given. given.2;
}
