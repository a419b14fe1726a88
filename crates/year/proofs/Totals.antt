-- A block that holds the sums and the adjustments that the rules define is reconciled: the totals come to the sheets' figures, and all is shared fairly. Assumes nothing.
use Rattle.std.proofs.Common.{◌≡◌, ℕ, ◌<◌, List, ℤ, pos, ◌+ℤ◌, ap, ◌∙◌, ap₂}
use Rattle.amounts.specs.Ranges.{accounts, areas}
use Rattle.amounts.proofs.Sums.{int_sum_to_ext}
use Rattle.ledger.specs.Blocks.{Block, cell_at, account_at}
use Rattle.ledger.specs.Units.{kwh_of, pence_of}
use Rattle.ledger.specs.declared.block.Sums.{Sums}
use Rattle.ledger.specs.declared.block.VolumeAdjustment.{VolumeAdjustment}
use Rattle.reconciling.specs.Costs.{delivery_discrepancy, energy_discrepancy, delivery_weights, energy_weights, delivery_adjustment, energy_adjustment}
use Rattle.reconciling.specs.Sheets.{row_at, cost_at}
use Rattle.reconciling.specs.Volumes.{discrepancy, managers_kwh, operator_weights, volume_kwh, volume_adjustment}
use Rattle.reconciling.specs.declared.sheets.AreaRow.{AreaRow}
use Rattle.reconciling.proofs.Fair.{fair_delivery, fair_energy, fair_operators, all_held, operators_held}
use Rattle.reconciling.proofs.Totals.{volume_total, delivery_total, energy_total}
use Rattle.year.specs.Fairness.{FairVolumes, FairCosts}
use Rattle.year.specs.Settlements.{over_accounts, over_areas, Reconciled}

-- a total stays where its last term, or each of its last two, is another that equals it
with_last : (a x y z : ℤ) → x ≡ y → a +ℤ y ≡ z → a +ℤ x ≡ z
with_last a x y z e whole = ap (λ t. a +ℤ t) e ∙ whole

with_last_two : (a x y u w z : ℤ) → x ≡ y → u ≡ w → a +ℤ (y +ℤ w) ≡ z → a +ℤ (x +ℤ u) ≡ z
with_last_two a x y u w z e f whole = ap₂ (λ t r. a +ℤ (t +ℤ r)) e f ∙ whole

-- ---- volumes, in cells that hold the volume adjustments of the rules
module _ (s : ℕ → ℕ → Sums) (sheet : List AreaRow) (b : Block)
    (volumes : (account area : ℕ) → account < accounts → area < areas → (cell_at b.cells account area).volume ≡ volume_adjustment s sheet account area) where
  kwh_held : (account area : ℕ) → account < accounts → area < areas → (cell_at b.cells account area).volume.kwh ≡ volume_kwh s (row_at sheet area) account area
  unfolding volume_adjustment
  kwh_held account area l m = ap (λ (x : VolumeAdjustment). x.kwh) (volumes account area l m)

  pub kwh_comes_to : (area : ℕ) → area < areas → over_accounts (λ account. kwh_of (s account area).metered +ℤ kwh_of (s account area).modelled) +ℤ over_accounts (λ account. (cell_at b.cells account area).volume.kwh) ≡ pos (row_at sheet area).supplied
  kwh_comes_to area m =
      with_last (over_accounts (λ account. kwh_of (s account area).metered +ℤ kwh_of (s account area).modelled)) (over_accounts (λ account. (cell_at b.cells account area).volume.kwh)) (over_accounts (λ account. volume_kwh s (row_at sheet area) account area)) (pos (row_at sheet area).supplied)
      (int_sum_to_ext (λ account. (cell_at b.cells account area).volume.kwh) (λ account. volume_kwh s (row_at sheet area) account area) accounts (λ account l. kwh_held account area l m))
      (volume_total s (row_at sheet area) area)

  pub volumes_fair : FairVolumes s sheet b.cells
  volumes_fair area m =
      operators_held (discrepancy s (row_at sheet area) area) (managers_kwh (discrepancy s (row_at sheet area) area) (row_at sheet area)) (operator_weights s area) (λ account. volume_kwh s (row_at sheet area) account area) (λ account. (cell_at b.cells account area).volume.kwh)
      (λ account l. kwh_held account area l m)
      (fair_operators s (row_at sheet area) area)

-- ---- costs, in a block that holds any volume adjustments and the cost adjustments of the rules
module _ (s : ℕ → ℕ → Sums) (v : ℕ → ℕ → VolumeAdjustment) (costs : List ℕ) (energy : ℕ) (b : Block)
    (volumes : (account area : ℕ) → account < accounts → area < areas → (cell_at b.cells account area).volume ≡ v account area)
    (deliveries : (account area : ℕ) → account < accounts → area < areas → (cell_at b.cells account area).cost ≡ delivery_adjustment s v costs account area)
    (energies : (account : ℕ) → account < accounts → (account_at b.accounts account).cost ≡ energy_adjustment s v energy account) where
  pub delivery_comes_to : (area : ℕ) → area < areas → over_accounts (λ account. pence_of (s account area).delivery) +ℤ (over_accounts (λ account. (cell_at b.cells account area).volume.delivery) +ℤ over_accounts (λ account. (cell_at b.cells account area).cost)) ≡ pos (cost_at costs area)
  delivery_comes_to area m =
      with_last_two (over_accounts (λ account. pence_of (s account area).delivery)) (over_accounts (λ account. (cell_at b.cells account area).volume.delivery)) (over_accounts (λ account. (v account area).delivery)) (over_accounts (λ account. (cell_at b.cells account area).cost)) (over_accounts (λ account. delivery_adjustment s v costs account area)) (pos (cost_at costs area))
      (int_sum_to_ext (λ account. (cell_at b.cells account area).volume.delivery) (λ account. (v account area).delivery) accounts (λ account l. ap (λ (x : VolumeAdjustment). x.delivery) (volumes account area l m)))
      (int_sum_to_ext (λ account. (cell_at b.cells account area).cost) (λ account. delivery_adjustment s v costs account area) accounts (λ account l. deliveries account area l m))
      (delivery_total s v costs area)

  energies_held : (account : ℕ) → account < accounts → over_areas (λ area. (cell_at b.cells account area).volume.energy) ≡ over_areas (λ area. (v account area).energy)
  energies_held account l = int_sum_to_ext (λ area. (cell_at b.cells account area).volume.energy) (λ area. (v account area).energy) areas (λ area m. ap (λ (x : VolumeAdjustment). x.energy) (volumes account area l m))

  pub energy_comes_to : over_accounts (λ account. over_areas (λ area. pence_of (s account area).energy)) +ℤ (over_accounts (λ account. over_areas (λ area. (cell_at b.cells account area).volume.energy)) +ℤ over_accounts (λ account. (account_at b.accounts account).cost)) ≡ pos energy
  energy_comes_to =
      with_last_two (over_accounts (λ account. over_areas (λ area. pence_of (s account area).energy))) (over_accounts (λ account. over_areas (λ area. (cell_at b.cells account area).volume.energy))) (over_accounts (λ account. over_areas (λ area. (v account area).energy))) (over_accounts (λ account. (account_at b.accounts account).cost)) (over_accounts (energy_adjustment s v energy)) (pos energy)
      (int_sum_to_ext (λ account. over_areas (λ area. (cell_at b.cells account area).volume.energy)) (λ account. over_areas (λ area. (v account area).energy)) accounts energies_held)
      (int_sum_to_ext (λ account. (account_at b.accounts account).cost) (energy_adjustment s v energy) accounts energies)
      (energy_total s v energy)

  pub costs_fair : FairCosts s v costs energy b
  costs_fair = record {
    delivery = λ area m. all_held (delivery_discrepancy s v costs area) (delivery_weights s v area) (λ account. delivery_adjustment s v costs account area) (λ account. (cell_at b.cells account area).cost) (λ account l. deliveries account area l m) (fair_delivery s v costs area);
    network = all_held (energy_discrepancy s v energy) (energy_weights s v) (energy_adjustment s v energy) (λ account. (account_at b.accounts account).cost) energies (fair_energy s v energy);
  }

-- ---- all of it
pub reconciled : (s : ℕ → ℕ → Sums) (sheet : List AreaRow) (costs : List ℕ) (energy : ℕ) (b : Block) →
    ((account area : ℕ) → account < accounts → area < areas → (cell_at b.cells account area).sums ≡ s account area) →
    ((account area : ℕ) → account < accounts → area < areas → (cell_at b.cells account area).volume ≡ volume_adjustment s sheet account area) →
    ((account area : ℕ) → account < accounts → area < areas → (cell_at b.cells account area).cost ≡ delivery_adjustment s (volume_adjustment s sheet) costs account area) →
    ((account : ℕ) → account < accounts → (account_at b.accounts account).cost ≡ energy_adjustment s (volume_adjustment s sheet) energy account) →
    Reconciled s (volume_adjustment s sheet) sheet costs energy b
reconciled s sheet costs energy b sums volumes deliveries energies = record {
  sums = sums;
  volumes = volumes;
  deliveries = deliveries;
  energies = energies;
  kwh = kwh_comes_to s sheet b volumes;
  delivery = delivery_comes_to s (volume_adjustment s sheet) costs energy b volumes deliveries energies;
  network = energy_comes_to s (volume_adjustment s sheet) costs energy b volumes deliveries energies;
  fair_volumes = volumes_fair s sheet b volumes;
  fair_costs = costs_fair s (volume_adjustment s sheet) costs energy b volumes deliveries energies;
}
