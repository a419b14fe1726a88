-- What costs are above the bills, and how that is shared, as the code works it out.
use Rattle.std.proofs.Common.{◌≡◌, ℕ, cond, List, map, get_or, ℤ, pos, ◌-ℤ◌, Some, None, Option, ap, ◌∙◌, ap₂, arith}
use Rattle.std.specs.List.{range_with_len}
use Rattle.std.proofs.lemmas.List.FromFn.{get_or-map-range_with_len}
use Rattle.amounts.specs.Ranges.{accounts}
use Rattle.amounts.specs.Sums.{int_sum_to}
use Rattle.amounts.proofs.Sums.{int_sum_to_ext}
use Rattle.ledger.specs.declared.block.Cell.{Cell}
use Rattle.sharing.specs.Limits.{figures_in_limit}
use Rattle.reconciling.specs.Costs.{billed_delivery, network_energy, delivery_weight, energy_weight, recovered, delivery_discrepancy, energy_discrepancy, delivery_weights, energy_weights, delivery_adjustment, energy_adjustment, energy_adjustments}
use Rattle.reconciling.specs.Outcomes.{sums_in, volumes_in, delivery_in_limit, energy_in_limit}
use Rattle.reconciling.specs.Sharing.{that_count, over_all}
use Rattle.reconciling.specs.Sheets.{cost_at}

sum_counted : (f : ℕ → ℤ) (xs : List ℤ) (n : ℕ) → xs ≡ map f (range_with_len 0 n) → int_sum_to (λ i. get_or xs i (pos 0)) n ≡ int_sum_to f n
sum_counted f xs n e = int_sum_to_ext (λ i. get_or xs i (pos 0)) f n (λ i l. ap (λ ys. get_or ys i (pos 0)) e ∙ get_or-map-range_with_len f 0 n i i (pos 0) l (omega arith))

-- what sharing z by the weights ws over all accounts answers
abbrev pub over_all_outcome : ℤ → List ℤ → Option (List ℤ)
over_all_outcome z ws = cond (figures_in_limit z ws) (Some (map (over_all z (that_count ws)) (range_with_len 0 accounts))) None

-- ---- delivery in an area
module _ (cells : List Cell) (costs : List ℕ) (area : ℕ) (z : ℤ) (billed : List ℤ) (is_billed : billed ≡ map (λ account. billed_delivery (sums_in cells account area) (volumes_in cells account area)) (range_with_len 0 accounts)) (is_above : z ≡ pos (cost_at costs area) -ℤ int_sum_to (λ i. get_or billed i (pos 0)) accounts) where
  delivery_above : z ≡ delivery_discrepancy (sums_in cells) (volumes_in cells) costs area
  unfolding delivery_discrepancy recovered
  delivery_above = is_above ∙ ap (λ t. pos (cost_at costs area) -ℤ t) (sum_counted (λ account. billed_delivery (sums_in cells account area) (volumes_in cells account area)) billed accounts is_billed)

  delivery_by : billed ≡ delivery_weights (sums_in cells) (volumes_in cells) area
  unfolding delivery_weights delivery_weight
  delivery_by = is_billed

  pub delivery_shared : over_all_outcome z billed ≡ cond (delivery_in_limit cells costs area) (Some (map (λ account. delivery_adjustment (sums_in cells) (volumes_in cells) costs account area) (range_with_len 0 accounts))) None
  unfolding delivery_in_limit delivery_adjustment
  delivery_shared = ap₂ over_all_outcome delivery_above delivery_by

-- ---- energy over the network
module _ (cells : List Cell) (cost : ℕ) (z : ℤ) (billed : List ℤ) (is_billed : billed ≡ map (network_energy (sums_in cells) (volumes_in cells)) (range_with_len 0 accounts)) (is_above : z ≡ pos cost -ℤ int_sum_to (λ i. get_or billed i (pos 0)) accounts) where
  energy_above : z ≡ energy_discrepancy (sums_in cells) (volumes_in cells) cost
  unfolding energy_discrepancy
  energy_above = is_above ∙ ap (λ t. pos cost -ℤ t) (sum_counted (network_energy (sums_in cells) (volumes_in cells)) billed accounts is_billed)

  energy_by : billed ≡ energy_weights (sums_in cells) (volumes_in cells)
  unfolding energy_weights energy_weight
  energy_by = is_billed

  pub energy_shared : over_all_outcome z billed ≡ cond (energy_in_limit cells cost) (Some (energy_adjustments (sums_in cells) (volumes_in cells) cost)) None
  unfolding energy_in_limit energy_adjustments energy_adjustment
  energy_shared = ap₂ over_all_outcome energy_above energy_by
