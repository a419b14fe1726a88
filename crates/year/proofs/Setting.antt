-- A reconciliation sets the adjustments that the rules define, and leaves all other figures.
use Rattle.std.proofs.Common.{◌≡◌, ℕ, ◌/◌, ◌%◌, ◌<◌, List, get_or, ℤ, pos, ap, ◌∙◌, ap₂, arith}
use Rattle.std.proofs.lemmas.List.FromFn.{get_or-map-range_with_len}
use Rattle.amounts.specs.Ranges.{accounts, areas}
use Rattle.ledger.specs.Blocks.{cell_count, zero_cell, zero_volume}
use Rattle.ledger.specs.declared.block.Sums.{Sums}
use Rattle.ledger.specs.declared.block.VolumeAdjustment.{VolumeAdjustment}
use Rattle.reconciling.specs.Costs.{delivery_adjustment, energy_adjustment, delivery_adjustments, energy_adjustments}
use Rattle.reconciling.specs.Outcomes.{sums_in, volumes_in}
use Rattle.reconciling.specs.Volumes.{volume_adjustment, volume_adjustments}
use Rattle.reconciling.specs.declared.sheets.AreaRow.{AreaRow}
use Rattle.year.specs.Outcomes.{cell_with_volume, with_volumes, cell_with_cost, with_costs, account_with_cost, accounts_with_costs}
use Rattle.year.proofs.Blocks.{cell_by, cells_of, account_by, accounts_of, cells_index, cells_at}
use Rattle.year.proofs.Counted.{counting_ext, area_below}
use Rattle.year.proofs.Within.{volume_within, delivery_within, energy_within}

module _ (s : ℕ → ℕ → Sums) (v : ℕ → ℕ → VolumeAdjustment) (c : ℕ → ℕ → ℤ) where
  -- what the cells hold
  sums_held : (a r : ℕ) → a < accounts → r < areas → sums_in (cells_of s v c) a r ≡ s a r
  sums_held a r k l = ap (λ x. x.sums) (cells_at s v c a r k l)

  volumes_held : (a r : ℕ) → a < accounts → r < areas → volumes_in (cells_of s v c) a r ≡ v a r
  volumes_held a r k l = ap (λ x. x.volume) (cells_at s v c a r k l)

  -- ---- volumes
  volume_at : (sheet : List AreaRow) (i : ℕ) → i < cell_count → get_or (volume_adjustments (sums_in (cells_of s v c)) sheet) i zero_volume ≡ volume_adjustment s sheet (i / areas) (i % areas)
  unfolding volume_adjustments
  volume_at sheet i l =
      get_or-map-range_with_len (λ i. volume_adjustment (sums_in (cells_of s v c)) sheet (i / areas) (i % areas)) 0 cell_count i i zero_volume l (omega arith)
      ∙ volume_within (sums_in (cells_of s v c)) s (i % areas) (λ a k. sums_held a (i % areas) k (area_below i)) sheet (i / areas)

  pub volumes_set : (sheet : List AreaRow) → with_volumes (cells_of s v c) (volume_adjustments (sums_in (cells_of s v c)) sheet) ≡ cells_of s (volume_adjustment s sheet) c
  unfolding with_volumes cells_of
  volumes_set sheet =
      counting_ext (λ i. cell_with_volume (get_or (cells_of s v c) i zero_cell) (get_or (volume_adjustments (sums_in (cells_of s v c)) sheet) i zero_volume)) (cell_by s (volume_adjustment s sheet) c) 0 cell_count
      (λ i _ u. let l : i < cell_count = omega arith in ap₂ cell_with_volume (cells_index s v c i l) (volume_at sheet i l))

  -- ---- costs
  delivery_at : (costs : List ℕ) (i : ℕ) → i < cell_count → get_or (delivery_adjustments (sums_in (cells_of s v c)) (volumes_in (cells_of s v c)) costs) i (pos 0) ≡ delivery_adjustment s v costs (i / areas) (i % areas)
  unfolding delivery_adjustments
  delivery_at costs i l =
      get_or-map-range_with_len (λ i. delivery_adjustment (sums_in (cells_of s v c)) (volumes_in (cells_of s v c)) costs (i / areas) (i % areas)) 0 cell_count i i (pos 0) l (omega arith)
      ∙ delivery_within (sums_in (cells_of s v c)) s (volumes_in (cells_of s v c)) v (i % areas) (λ a k. sums_held a (i % areas) k (area_below i)) (λ a k. volumes_held a (i % areas) k (area_below i)) costs (i / areas)

  pub costs_set : (costs : List ℕ) → with_costs (cells_of s v c) (delivery_adjustments (sums_in (cells_of s v c)) (volumes_in (cells_of s v c)) costs) ≡ cells_of s v (delivery_adjustment s v costs)
  unfolding with_costs cells_of
  costs_set costs =
      counting_ext (λ i. cell_with_cost (get_or (cells_of s v c) i zero_cell) (get_or (delivery_adjustments (sums_in (cells_of s v c)) (volumes_in (cells_of s v c)) costs) i (pos 0))) (cell_by s v (delivery_adjustment s v costs)) 0 cell_count
      (λ i _ u. let l : i < cell_count = omega arith in ap₂ cell_with_cost (cells_index s v c i l) (delivery_at costs i l))

  energy_at : (cost a : ℕ) → a < accounts → get_or (energy_adjustments (sums_in (cells_of s v c)) (volumes_in (cells_of s v c)) cost) a (pos 0) ≡ energy_adjustment s v cost a
  unfolding energy_adjustments
  energy_at cost a l =
      get_or-map-range_with_len (energy_adjustment (sums_in (cells_of s v c)) (volumes_in (cells_of s v c)) cost) 0 accounts a a (pos 0) l (omega arith)
      ∙ energy_within (sums_in (cells_of s v c)) s (volumes_in (cells_of s v c)) v sums_held volumes_held cost a

  pub energies_set : (cost : ℕ) → accounts_with_costs (energy_adjustments (sums_in (cells_of s v c)) (volumes_in (cells_of s v c)) cost) ≡ accounts_of (energy_adjustment s v cost)
  unfolding accounts_with_costs accounts_of
  energies_set cost =
      counting_ext (λ a. account_with_cost (get_or (energy_adjustments (sums_in (cells_of s v c)) (volumes_in (cells_of s v c)) cost) a (pos 0))) (account_by (energy_adjustment s v cost)) 0 accounts
      (λ a _ u. ap account_with_cost (energy_at cost a (omega arith)))
