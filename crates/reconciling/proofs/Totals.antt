-- What is billed and adjusted comes to what the sheets say, by whatever weights amounts are shared. Assumes nothing.
use Rattle.std.proofs.Common.{◌≡◌, ℕ, suc, ◌+◌, ◌-◌, ◌<◌, List, length, ℤ, pos, ◌+ℤ◌, ◌-ℤ◌, sym, ap, ◌∙◌, add-one, arith}
use borrow.Author.Differences.{ints}
use Rattle.amounts.specs.Ranges.{accounts, areas}
use Rattle.amounts.specs.Sums.{int_sum_to}
use Rattle.amounts.proofs.Sums.{int_sum_to_ext, int_sum_to_add, int_sum_to_add_all, int_sum_to_front}
use Rattle.ledger.specs.Units.{kwh_of, pence_of}
use Rattle.ledger.specs.declared.block.Sums.{Sums}
use Rattle.ledger.specs.declared.block.VolumeAdjustment.{VolumeAdjustment}
use Rattle.reconciling.specs.declared.sheets.AreaRow.{AreaRow}
use Rattle.reconciling.specs.Costs.{billed_delivery, billed_energy, network_energy, recovered, delivery_discrepancy, energy_discrepancy, delivery_weights, energy_weights, delivery_adjustment, energy_adjustment}
use Rattle.reconciling.specs.Laws.{SharedOverAll, SharedOverOperators}
use Rattle.reconciling.specs.Sheets.{cost_at}
use Rattle.reconciling.specs.Volumes.{billed_kwh, discrepancy, managers_kwh, operator_weights, volume_kwh}
use Rattle.reconciling.proofs.Fair.{length_that_count, length_operator_weights, length_delivery_weights, length_energy_weights, fair_operators, fair_delivery, fair_energy}

-- ---- adjustments come to what is shared
-- over one account and n more: the parts of a fair share, and the first has what is not shared besides
all_come_to : (z u : ℤ) (p adjustment : ℕ → ℤ) (n : ℕ) → u +ℤ int_sum_to p (suc n) ≡ z → adjustment 0 ≡ p 0 +ℤ u → ((i : ℕ) → i < n → adjustment (i + 1) ≡ p (i + 1)) → int_sum_to adjustment (suc n) ≡ z
all_come_to z u p adjustment n whole first others =
    let rest = int_sum_to_ext (λ i. adjustment (suc i)) (λ i. p (suc i)) n (λ i l. sym (ap adjustment (add-one i)) ∙ others i l ∙ ap p (add-one i)) in
    omega (arith, ints, int_sum_to_front adjustment n, int_sum_to_front p n)

-- the same, with what the first has before in place of its part
operators_come_to : (d before u : ℤ) (p adjustment : ℕ → ℤ) (n : ℕ) → u +ℤ int_sum_to p n ≡ d -ℤ before → adjustment 0 ≡ before +ℤ u → ((i : ℕ) → i < n → adjustment (i + 1) ≡ p i) → int_sum_to adjustment (suc n) ≡ d
operators_come_to d before u p adjustment n whole first others =
    let rest = int_sum_to_ext (λ i. adjustment (suc i)) p n (λ i l. sym (ap adjustment (add-one i)) ∙ others i l) in
    omega (arith, ints, int_sum_to_front adjustment n)

pub all_total : (z : ℤ) (ws : List ℤ) (adjustment : ℕ → ℤ) → length ws ≡ accounts → SharedOverAll z ws adjustment → int_sum_to adjustment accounts ≡ z
all_total z ws adjustment long f =
    let whole : f.unshared +ℤ int_sum_to f.part accounts ≡ z = sym (ap (λ n. f.unshared +ℤ int_sum_to f.part n) (length_that_count ws accounts long)) ∙ f.fair.conserved in
    all_come_to z f.unshared f.part adjustment (accounts - 1) whole f.first (λ i l. f.others i (omega arith))

pub operators_total : (d before : ℤ) (ws : List ℤ) (adjustment : ℕ → ℤ) → length ws ≡ accounts - 1 → SharedOverOperators d before ws adjustment → int_sum_to adjustment accounts ≡ d
operators_total d before ws adjustment long f =
    let whole : f.unshared +ℤ int_sum_to f.part (accounts - 1) ≡ d -ℤ before = sym (ap (λ n. f.unshared +ℤ int_sum_to f.part n) (length_that_count ws (accounts - 1) long)) ∙ f.fair.conserved in
    operators_come_to d before f.unshared f.part adjustment (accounts - 1) whole f.first (λ i l. f.others i (omega arith))

-- ---- what is shared is the sheet's figure less what is billed
back : (z billed adjusted : ℤ) → adjusted ≡ z -ℤ billed → billed +ℤ adjusted ≡ z
back z billed adjusted e = omega (arith, ints)

back_in_two : (z charged before billed adjusted : ℤ) → billed ≡ charged +ℤ before → adjusted ≡ z -ℤ billed → charged +ℤ (before +ℤ adjusted) ≡ z
back_in_two z charged before billed adjusted e f = omega (arith, ints)

pub volume_total : (s : ℕ → ℕ → Sums) (row : AreaRow) (area : ℕ) → int_sum_to (λ account. kwh_of (s account area).metered +ℤ kwh_of (s account area).modelled) accounts +ℤ int_sum_to (λ account. volume_kwh s row account area) accounts ≡ pos row.supplied
unfolding discrepancy billed_kwh
volume_total s row area =
    back (pos row.supplied) (int_sum_to (λ account. kwh_of (s account area).metered +ℤ kwh_of (s account area).modelled) accounts) (int_sum_to (λ account. volume_kwh s row account area) accounts)
    (operators_total (discrepancy s row area) (managers_kwh (discrepancy s row area) row) (operator_weights s area) (λ account. volume_kwh s row account area) (length_operator_weights s area) (fair_operators s row area))

pub delivery_total : (s : ℕ → ℕ → Sums) (v : ℕ → ℕ → VolumeAdjustment) (costs : List ℕ) (area : ℕ) → int_sum_to (λ account. pence_of (s account area).delivery) accounts +ℤ (int_sum_to (λ account. (v account area).delivery) accounts +ℤ int_sum_to (λ account. delivery_adjustment s v costs account area) accounts) ≡ pos (cost_at costs area)
unfolding delivery_discrepancy billed_delivery recovered
delivery_total s v costs area =
    back_in_two (pos (cost_at costs area)) (int_sum_to (λ account. pence_of (s account area).delivery) accounts) (int_sum_to (λ account. (v account area).delivery) accounts) (int_sum_to (λ account. billed_delivery (s account area) (v account area)) accounts) (int_sum_to (λ account. delivery_adjustment s v costs account area) accounts)
    (int_sum_to_add (λ account. pence_of (s account area).delivery) (λ account. (v account area).delivery) accounts)
    (all_total (delivery_discrepancy s v costs area) (delivery_weights s v area) (λ account. delivery_adjustment s v costs account area) (length_delivery_weights s v area) (fair_delivery s v costs area))

pub energy_total : (s : ℕ → ℕ → Sums) (v : ℕ → ℕ → VolumeAdjustment) (energy : ℕ) → int_sum_to (λ account. int_sum_to (λ area. pence_of (s account area).energy) areas) accounts +ℤ (int_sum_to (λ account. int_sum_to (λ area. (v account area).energy) areas) accounts +ℤ int_sum_to (energy_adjustment s v energy) accounts) ≡ pos energy
unfolding energy_discrepancy network_energy billed_energy
energy_total s v energy =
    back_in_two (pos energy) (int_sum_to (λ account. int_sum_to (λ area. pence_of (s account area).energy) areas) accounts) (int_sum_to (λ account. int_sum_to (λ area. (v account area).energy) areas) accounts) (int_sum_to (network_energy s v) accounts) (int_sum_to (energy_adjustment s v energy) accounts)
    (int_sum_to_add_all (λ account area. pence_of (s account area).energy) (λ account area. (v account area).energy) areas accounts)
    (all_total (energy_discrepancy s v energy) (energy_weights s v) (energy_adjustment s v energy) (length_energy_weights s v) (fair_energy s v energy))
