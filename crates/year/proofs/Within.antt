-- Adjustments depend on the sums and the volume adjustments only within the ranges of accounts and areas.
use Rattle.std.proofs.Common.{◌≡◌, ℕ, ◌<◌, List, pos, ◌-ℤ◌, ap, ap₂, arith}
use Rattle.amounts.specs.Ranges.{accounts, areas}
use Rattle.amounts.proofs.Sums.{int_sum_to_ext}
use Rattle.ledger.specs.declared.block.Sums.{Sums}
use Rattle.ledger.specs.declared.block.VolumeAdjustment.{VolumeAdjustment}
use Rattle.reconciling.specs.Costs.{billed_delivery, billed_energy, network_energy, delivery_weight, energy_weight, recovered, delivery_discrepancy, energy_discrepancy, delivery_weights, energy_weights, delivery_adjustment, energy_adjustment}
use Rattle.reconciling.specs.Sharing.{that_count, over_all}
use Rattle.reconciling.specs.Sheets.{row_at}
use Rattle.reconciling.specs.Volumes.{billed_kwh, volume_weight, discrepancy, operator_weights, adjusted_kwh, volume_kwh, priced_adjustment, volume_adjustment}
use Rattle.reconciling.specs.declared.sheets.AreaRow.{AreaRow}
use Rattle.year.proofs.Counted.{counting_ext}

-- ---- volumes: the sums of one area
module _ (s t : ℕ → ℕ → Sums) (area : ℕ) (same : (account : ℕ) → account < accounts → s account area ≡ t account area) where
  discrepancy_within : (row : AreaRow) → discrepancy s row area ≡ discrepancy t row area
  unfolding discrepancy
  discrepancy_within row = ap (λ z. pos row.supplied -ℤ z) (int_sum_to_ext (λ account. billed_kwh (s account area)) (λ account. billed_kwh (t account area)) accounts (λ a l. ap billed_kwh (same a l)))

  operator_weights_within : operator_weights s area ≡ operator_weights t area
  unfolding operator_weights
  operator_weights_within = counting_ext (λ account. volume_weight (s account area)) (λ account. volume_weight (t account area)) 1 63 (λ a _ u. ap volume_weight (same a (omega arith)))

  pub volume_within : (sheet : List AreaRow) (account : ℕ) → volume_adjustment s sheet account area ≡ volume_adjustment t sheet account area
  unfolding volume_adjustment volume_kwh
  volume_within sheet account =
      ap (λ kwh. priced_adjustment kwh (row_at sheet area))
      (ap₂ (λ d ws. adjusted_kwh d (row_at sheet area) ws account) (discrepancy_within (row_at sheet area)) operator_weights_within)

-- ---- delivery costs: the figures of one area
module _ (s t : ℕ → ℕ → Sums) (v w : ℕ → ℕ → VolumeAdjustment) (area : ℕ) (sums : (account : ℕ) → account < accounts → s account area ≡ t account area) (volumes : (account : ℕ) → account < accounts → v account area ≡ w account area) where
  delivery_discrepancy_within : (costs : List ℕ) → delivery_discrepancy s v costs area ≡ delivery_discrepancy t w costs area
  unfolding delivery_discrepancy
  delivery_discrepancy_within costs = ap (λ z. recovered costs area -ℤ z) (int_sum_to_ext (λ account. billed_delivery (s account area) (v account area)) (λ account. billed_delivery (t account area) (w account area)) accounts (λ a l. ap₂ billed_delivery (sums a l) (volumes a l)))

  delivery_weights_within : delivery_weights s v area ≡ delivery_weights t w area
  unfolding delivery_weights
  delivery_weights_within = counting_ext (λ account. delivery_weight (s account area) (v account area)) (λ account. delivery_weight (t account area) (w account area)) 0 accounts (λ a _ u. let l : a < accounts = omega arith in ap₂ delivery_weight (sums a l) (volumes a l))

  pub delivery_within : (costs : List ℕ) (account : ℕ) → delivery_adjustment s v costs account area ≡ delivery_adjustment t w costs account area
  unfolding delivery_adjustment
  delivery_within costs account = ap₂ (λ d ws. over_all d (that_count ws) account) (delivery_discrepancy_within costs) delivery_weights_within

-- ---- energy costs: the figures of all areas
module _ (s t : ℕ → ℕ → Sums) (v w : ℕ → ℕ → VolumeAdjustment) (sums : (account area : ℕ) → account < accounts → area < areas → s account area ≡ t account area) (volumes : (account area : ℕ) → account < accounts → area < areas → v account area ≡ w account area) where
  network_within : (account : ℕ) → account < accounts → network_energy s v account ≡ network_energy t w account
  unfolding network_energy
  network_within account k = int_sum_to_ext (λ area. billed_energy (s account area) (v account area)) (λ area. billed_energy (t account area) (w account area)) areas (λ r l. ap₂ billed_energy (sums account r k l) (volumes account r k l))

  energy_discrepancy_within : (cost : ℕ) → energy_discrepancy s v cost ≡ energy_discrepancy t w cost
  unfolding energy_discrepancy
  energy_discrepancy_within cost = ap (λ z. pos cost -ℤ z) (int_sum_to_ext (network_energy s v) (network_energy t w) accounts network_within)

  energy_weights_within : energy_weights s v ≡ energy_weights t w
  unfolding energy_weights energy_weight
  energy_weights_within = counting_ext (energy_weight s v) (energy_weight t w) 0 accounts (λ a _ u. network_within a (omega arith))

  pub energy_within : (cost account : ℕ) → energy_adjustment s v cost account ≡ energy_adjustment t w cost account
  unfolding energy_adjustment
  energy_within cost account = ap₂ (λ d ws. over_all d (that_count ws) account) (energy_discrepancy_within cost) energy_weights_within
