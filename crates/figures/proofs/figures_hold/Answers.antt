use Rattle.std.proofs.Common.{refl}
use Rattle.ledger.specs.Units.{kwh_of}
use Rattle.reconciling.specs.Sharing.{over_operators}
use Rattle.reconciling.specs.Volumes.{billed_kwh, volume_weight, discrepancy, managers_kwh, operator_weights, adjusted_kwh, volume_kwh}
use Rattle.figures.proofs.figures_hold.Goals as goal

pub returns : goal.returns
unfolding kwh_of billed_kwh volume_weight discrepancy managers_kwh operator_weights over_operators adjusted_kwh volume_kwh
returns c = record {
  short_energy = record { answer = refl; parts = refl };
  over_delivery = record { answer = refl; parts = refl };
  tie = record { answer = refl; parts = refl };
  no_weight = record { answer = refl; parts = refl };
  rate_at_speed = refl;
  metered_bill = refl;
  energy_charge = refl;
  delivery_charge = refl;
  half_below_zero = refl;
  modelled_bill = refl;
  volume_discrepancy = refl;
  volume_adjusted = record { manager_kwh = refl; first_kwh = refl; second_kwh = refl };
}
