-- Adjustments that are shared fairly: each account's is its part of a fair share, and account 0 has what is not shared besides.
use Rattle.std.specs.Prelude.{◌≡◌, ℕ, ◌+◌, ◌-◌, ◌<◌, List, ℤ, pos, ◌+ℤ◌, ◌-ℤ◌, slice_index_or}
use Rattle.std.specs.List.{range_with_len}
use Rattle.amounts.specs.Ranges.{accounts, areas}
use Rattle.ledger.specs.Blocks.{cell_number, zero_volume}
use Rattle.ledger.specs.declared.block.Cell.{Cell}
use Rattle.ledger.specs.declared.block.VolumeAdjustment.{VolumeAdjustment}
use Rattle.sharing.specs.Laws.{FairShare}
use Rattle.reconciling.specs.declared.costs.CostAdjustments.{CostAdjustments}
use Rattle.reconciling.specs.declared.sheets.AreaRow.{AreaRow}
use Rattle.reconciling.specs.Costs.{delivery_discrepancy, energy_discrepancy, delivery_weights, energy_weights}
use Rattle.reconciling.specs.Outcomes.{sums_in, volumes_in}
use Rattle.reconciling.specs.Sheets.{row_at}
use Rattle.reconciling.specs.Volumes.{discrepancy, managers_kwh, operator_weights}
use Rattle.reconciling.specs.Sharing.{that_count}

-- z is shared over accounts 0 to 63, and adjustment is each one's
pub record SharedOverAll (z : ℤ) (ws : List ℤ) (adjustment : ℕ → ℤ) : Type 0 where
  pub unshared : ℤ
  pub part : ℕ → ℤ
  pub fair : FairShare z (that_count ws) (range_with_len 0 accounts) unshared part
  pub first : adjustment 0 ≡ part 0 +ℤ unshared
  pub others : (i : ℕ) → i + 1 < accounts → adjustment (i + 1) ≡ part (i + 1)

-- d less what account 0 has before is shared over accounts 1 to 63, and adjustment is each one's
pub record SharedOverOperators (d before : ℤ) (ws : List ℤ) (adjustment : ℕ → ℤ) : Type 0 where
  pub unshared : ℤ
  pub part : ℕ → ℤ
  pub fair : FairShare (d -ℤ before) (that_count ws) (range_with_len 1 (accounts - 1)) unshared part
  pub first : adjustment 0 ≡ before +ℤ unshared
  pub others : (i : ℕ) → i + 1 < accounts → adjustment (i + 1) ≡ part i

-- ---- of tables with an entry for each cell, or each account
-- in every area the discrepancy less the infrastructure manager's share is shared over the operators
abbrev pub FairVolumes : List Cell → List AreaRow → List VolumeAdjustment → Type 0
FairVolumes cells sheet table =
    (area : ℕ) → area < areas →
    SharedOverOperators (discrepancy (sums_in cells) (row_at sheet area) area) (managers_kwh (discrepancy (sums_in cells) (row_at sheet area) area) (row_at sheet area)) (operator_weights (sums_in cells) area) (λ account. (slice_index_or table (cell_number account area) zero_volume).kwh)

-- in every area what the delivery cost is above the bills is shared over all accounts, and so is the network's energy cost
pub record FairCosts (cells : List Cell) (costs : List ℕ) (energy : ℕ) (c : CostAdjustments) : Type 0 where
  pub delivery : (area : ℕ) → area < areas → SharedOverAll (delivery_discrepancy (sums_in cells) (volumes_in cells) costs area) (delivery_weights (sums_in cells) (volumes_in cells) area) (λ account. slice_index_or c.delivery (cell_number account area) (pos 0))
  pub network : SharedOverAll (energy_discrepancy (sums_in cells) (volumes_in cells) energy) (energy_weights (sums_in cells) (volumes_in cells)) (λ account. slice_index_or c.energy account (pos 0))
