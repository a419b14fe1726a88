-- The tables of adjustments that the rules define are fair.
use Rattle.std.proofs.Common.{ℕ, List, get_or, pos, ap, arith}
use Rattle.std.proofs.lemmas.List.FromFn.{get_or-map-range_with_len}
use Rattle.amounts.specs.Ranges.{accounts}
use Rattle.ledger.specs.Blocks.{cell_number, zero_volume}
use Rattle.ledger.specs.declared.block.Cell.{Cell}
use Rattle.ledger.specs.declared.block.VolumeAdjustment.{VolumeAdjustment}
use Rattle.reconciling.specs.Costs.{delivery_discrepancy, energy_discrepancy, delivery_weights, energy_weights, delivery_adjustment, energy_adjustment, delivery_adjustments, energy_adjustments}
use Rattle.reconciling.specs.Laws.{FairVolumes, FairCosts}
use Rattle.reconciling.specs.Outcomes.{sums_in, volumes_in, cost_adjustments}
use Rattle.reconciling.specs.Sheets.{row_at}
use Rattle.reconciling.specs.Volumes.{discrepancy, managers_kwh, operator_weights, volume_kwh, volume_adjustment, volume_adjustments}
use Rattle.reconciling.specs.declared.sheets.AreaRow.{AreaRow}
use Rattle.reconciling.proofs.Fair.{fair_operators, fair_delivery, fair_energy, operators_held, all_held}
use Rattle.reconciling.proofs.Tables.{table_at}

pub fair_volumes : (cells : List Cell) (sheet : List AreaRow) → FairVolumes cells sheet (volume_adjustments (sums_in cells) sheet)
unfolding volume_adjustments volume_adjustment
fair_volumes cells sheet area l =
    let s = sums_in cells in
    let row = row_at sheet area in
    operators_held (discrepancy s row area) (managers_kwh (discrepancy s row area) row) (operator_weights s area) (λ account. volume_kwh s row account area) (λ account. (get_or (volume_adjustments s sheet) (cell_number account area) zero_volume).kwh)
    (λ account m. ap (λ (v : VolumeAdjustment). v.kwh) (table_at (volume_adjustment s sheet) zero_volume account area m l)) (fair_operators s row area)

pub fair_costs : (cells : List Cell) (costs : List ℕ) (energy : ℕ) → FairCosts cells costs energy (cost_adjustments cells costs energy)
unfolding delivery_adjustments energy_adjustments
fair_costs cells costs energy =
    let s = sums_in cells in
    let v = volumes_in cells in
    record {
      delivery = λ area l.
          all_held (delivery_discrepancy s v costs area) (delivery_weights s v area) (λ account. delivery_adjustment s v costs account area) (λ account. get_or (delivery_adjustments s v costs) (cell_number account area) (pos 0))
          (λ account m. table_at (delivery_adjustment s v costs) (pos 0) account area m l) (fair_delivery s v costs area);
      network =
          all_held (energy_discrepancy s v energy) (energy_weights s v) (energy_adjustment s v energy) (λ account. get_or (energy_adjustments s v energy) account (pos 0))
          (λ account m. get_or-map-range_with_len (energy_adjustment s v energy) 0 accounts account account (pos 0) m (omega arith)) (fair_energy s v energy);
    }
