-- The adjustments that the rules define are shared fairly, and so is whatever equals them. Assumes nothing.
use Rattle.std.proofs.Common.{◌≡◌, ℕ, ◌+◌, ◌-◌, ◌<◌, List, length, ℤ, ◌-ℤ◌, sym, refl, ap, ◌∙◌, add-one, arith}
use Rattle.std.specs.List.{range_with_len}
use Rattle.std.proofs.lemmas.List.FromFn.{length-range_with_len, length-map-range_with_len}
use Rattle.std.proofs.lemmas.List.{length-map}
use Rattle.amounts.specs.Ranges.{accounts}
use Rattle.ledger.specs.declared.block.Sums.{Sums}
use Rattle.ledger.specs.declared.block.VolumeAdjustment.{VolumeAdjustment}
use Rattle.sharing.specs.Shares.{counting_weight, part, unshared}
use Rattle.sharing.proofs.Fairness.{fair}
use Rattle.reconciling.specs.declared.sheets.AreaRow.{AreaRow}
use Rattle.reconciling.specs.Costs.{delivery_weight, energy_weight, delivery_discrepancy, energy_discrepancy, delivery_weights, energy_weights, delivery_adjustment, energy_adjustment}
use Rattle.reconciling.specs.Laws.{SharedOverAll, SharedOverOperators}
use Rattle.reconciling.specs.Sharing.{that_count, over_all, over_operators}
use Rattle.reconciling.specs.Volumes.{volume_weight, discrepancy, managers_kwh, operator_weights, adjusted_kwh, volume_kwh}

-- as many weights count as there are
pub length_that_count : (ws : List ℤ) (n : ℕ) → length ws ≡ n → length (that_count ws) ≡ n
length_that_count ws n long = length-map ws counting_weight ∙ long

pub length_operator_weights : (s : ℕ → ℕ → Sums) (area : ℕ) → length (operator_weights s area) ≡ accounts - 1
unfolding operator_weights
length_operator_weights s area = length-map-range_with_len (λ account. volume_weight (s account area)) 1 (accounts - 1)

pub length_delivery_weights : (s : ℕ → ℕ → Sums) (v : ℕ → ℕ → VolumeAdjustment) (area : ℕ) → length (delivery_weights s v area) ≡ accounts
unfolding delivery_weights
length_delivery_weights s v area = length-map-range_with_len (λ account. delivery_weight (s account area) (v account area)) 0 accounts

pub length_energy_weights : (s : ℕ → ℕ → Sums) (v : ℕ → ℕ → VolumeAdjustment) → length (energy_weights s v) ≡ accounts
unfolding energy_weights
length_energy_weights s v = length-map-range_with_len (energy_weight s v) 0 accounts

-- ---- over accounts 0 to 63
pub fair_all : (z : ℤ) (ws : List ℤ) → length ws ≡ accounts → SharedOverAll z ws (over_all z (that_count ws))
unfolding over_all
fair_all z ws long = record {
  unshared = unshared z (that_count ws);
  part = part z (that_count ws);
  fair = fair z (that_count ws) (range_with_len 0 accounts) refl (length-range_with_len 0 accounts ∙ sym (length_that_count ws accounts long));
  first = refl;
  others = λ i _. ap (over_all z (that_count ws)) (add-one i) ∙ sym (ap (part z (that_count ws)) (add-one i));
}

pub fair_delivery : (s : ℕ → ℕ → Sums) (v : ℕ → ℕ → VolumeAdjustment) (costs : List ℕ) (area : ℕ) → SharedOverAll (delivery_discrepancy s v costs area) (delivery_weights s v area) (λ account. delivery_adjustment s v costs account area)
unfolding delivery_adjustment
fair_delivery s v costs area = fair_all (delivery_discrepancy s v costs area) (delivery_weights s v area) (length_delivery_weights s v area)

pub fair_energy : (s : ℕ → ℕ → Sums) (v : ℕ → ℕ → VolumeAdjustment) (energy : ℕ) → SharedOverAll (energy_discrepancy s v energy) (energy_weights s v) (energy_adjustment s v energy)
unfolding energy_adjustment
fair_energy s v energy = fair_all (energy_discrepancy s v energy) (energy_weights s v) (length_energy_weights s v)

-- ---- over accounts 1 to 63
pub fair_beside : (d before : ℤ) (ws : List ℤ) → length ws ≡ accounts - 1 → SharedOverOperators d before ws (over_operators before (d -ℤ before) (that_count ws))
unfolding over_operators
fair_beside d before ws long = record {
  unshared = unshared (d -ℤ before) (that_count ws);
  part = part (d -ℤ before) (that_count ws);
  fair = fair (d -ℤ before) (that_count ws) (range_with_len 1 (accounts - 1)) refl (length-range_with_len 1 (accounts - 1) ∙ sym (length_that_count ws (accounts - 1) long));
  first = refl;
  others = λ i _. ap (over_operators before (d -ℤ before) (that_count ws)) (add-one i);
}

pub fair_operators : (s : ℕ → ℕ → Sums) (row : AreaRow) (area : ℕ) → SharedOverOperators (discrepancy s row area) (managers_kwh (discrepancy s row area) row) (operator_weights s area) (λ account. volume_kwh s row account area)
unfolding volume_kwh adjusted_kwh
fair_operators s row area = fair_beside (discrepancy s row area) (managers_kwh (discrepancy s row area) row) (operator_weights s area) (length_operator_weights s area)

-- ---- what is fair of adjustments is fair of what holds them
pub all_held : (z : ℤ) (ws : List ℤ) (adjustment held : ℕ → ℤ) → ((account : ℕ) → account < accounts → held account ≡ adjustment account) → SharedOverAll z ws adjustment → SharedOverAll z ws held
all_held z ws adjustment held same f = record {
  unshared = f.unshared;
  part = f.part;
  fair = f.fair;
  first = same 0 (omega arith) ∙ f.first;
  others = λ i l. same (i + 1) l ∙ f.others i l;
}

pub operators_held : (d before : ℤ) (ws : List ℤ) (adjustment held : ℕ → ℤ) → ((account : ℕ) → account < accounts → held account ≡ adjustment account) → SharedOverOperators d before ws adjustment → SharedOverOperators d before ws held
operators_held d before ws adjustment held same f = record {
  unshared = f.unshared;
  part = f.part;
  fair = f.fair;
  first = same 0 (omega arith) ∙ f.first;
  others = λ i l. same (i + 1) l ∙ f.others i l;
}
