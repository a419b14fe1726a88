use Rattle.std.proofs.Common.{ap, ◌∙◌, w64, to_z, of_z}
use Rattle.std.specs.Option.{ok_or}
use Rattle.std.proofs.lemmas.Int.{to_z-of_z}
use Rattle.reconciling.specs.declared.fault.ReconcileFault.TheVariants.{EnergyBeyondLimits}
use Rattle.reconciling.specs.Costs.{energy_adjustments}
use Rattle.reconciling.specs.Outcomes.{sums_in, volumes_in, energy_in_limit, energy_limit_fault}
use Rattle.reconciling.proofs.Checks.{ok_or_unless}
use Rattle.reconciling.proofs.Discrepancies.{over_all_outcome, energy_shared}
use Rattle.reconciling.proofs.costs.energy_adjustments.Goals as goal

pub returns : goal.returns
unfolding energy_limit_fault
returns c =
    let z = c.shortfall.result in
    let cells = c.args.cells.now in
    let shared = c.share_over_all.ensures
    ∙ ap (over_all_outcome (to_z w64 (of_z w64 z))) c.pence.ensures
    ∙ energy_shared cells c.args.cost.now (to_z w64 (of_z w64 z)) c.for_energy-billed.result c.for_energy-billed.ensures (to_z-of_z w64 z (record { sfits = c.shortfall.type_inv }) ∙ c.shortfall.ensures) in
    c.ok_or.ensures.value ∙ ap (λ o. ok_or o EnergyBeyondLimits) shared
    ∙ ok_or_unless (energy_in_limit cells c.args.cost.now) EnergyBeyondLimits (energy_adjustments (sums_in cells) (volumes_in cells) c.args.cost.now)
