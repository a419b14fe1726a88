-- Adjustments that are shared fairly, as cells and account records hold them: s are the sums, v the volume adjustments.
use Rattle.std.specs.Prelude.{ℕ, ◌<◌, List}
use Rattle.amounts.specs.Ranges.{areas}
use Rattle.ledger.specs.Blocks.{Block, cell_at, account_at}
use Rattle.ledger.specs.declared.block.Cell.{Cell}
use Rattle.ledger.specs.declared.block.Sums.{Sums}
use Rattle.ledger.specs.declared.block.VolumeAdjustment.{VolumeAdjustment}
use Rattle.reconciling.specs.Costs.{delivery_discrepancy, energy_discrepancy, delivery_weights, energy_weights}
use Rattle.reconciling.specs.Laws.{SharedOverAll, SharedOverOperators}
use Rattle.reconciling.specs.Sheets.{row_at}
use Rattle.reconciling.specs.Volumes.{discrepancy, managers_kwh, operator_weights}
use Rattle.reconciling.specs.declared.sheets.AreaRow.{AreaRow}

-- in every area what was supplied above the bills, less the infrastructure manager's share, is shared over the operators
abbrev pub FairVolumes : (ℕ → ℕ → Sums) → List AreaRow → List Cell → Type 0
FairVolumes s sheet cells =
    (area : ℕ) → area < areas →
    SharedOverOperators (discrepancy s (row_at sheet area) area) (managers_kwh (discrepancy s (row_at sheet area) area) (row_at sheet area)) (operator_weights s area) (λ account. (cell_at cells account area).volume.kwh)

-- in every area what the delivery cost is above the bills is shared over all accounts, and so is the network's energy cost
pub record FairCosts (s : ℕ → ℕ → Sums) (v : ℕ → ℕ → VolumeAdjustment) (costs : List ℕ) (energy : ℕ) (b : Block) : Type 0 where
  pub delivery : (area : ℕ) → area < areas → SharedOverAll (delivery_discrepancy s v costs area) (delivery_weights s v area) (λ account. (cell_at b.cells account area).cost)
  pub network : SharedOverAll (energy_discrepancy s v energy) (energy_weights s v) (λ account. (account_at b.accounts account).cost)
