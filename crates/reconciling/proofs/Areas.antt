-- The volume adjustments of one area: within limits, where the discrepancy is.
use Rattle.std.proofs.Common.{◌≡◌, ℕ, zero, suc, ◌+◌, ◌-◌, ◌<◌, ◌≤◌, true, false, cond, eqb, List, map, length, ℤ, pos, negsuc, ◌+ℤ◌, ◌-ℤ◌, nat_abs, sym, refl, ap, ◌∙◌, arith}
use lib.Signed.{le_z}
use Rattle.std.specs.List.{range_with_len}
use Rattle.std.proofs.lemmas.List.FromFn.{length-map-range_with_len}
use Rattle.std.proofs.lemmas.List.{length-map}
use Rattle.std.proofs.lemmas.Int.{ints}
use Rattle.std.proofs.lemmas.Bool.{and_from, le-leb}
use Rattle.amounts.specs.Ranges.{accounts}
use Rattle.ledger.specs.Blocks.{cell_number, cell_at}
use Rattle.ledger.specs.Limits.{SoundCells, max_kwh}
use Rattle.ledger.specs.declared.block.Cell.{Cell}
use Rattle.sharing.specs.Limits.{figures_in_limit, weights_in_limit, max_amount, max_weight, max_lines}
use Rattle.sharing.specs.Shares.{part, unshared, total_weight}
use Rattle.sharing.proofs.Fairness.{fair}
use Rattle.reconciling.specs.declared.sheets.AreaRow.{AreaRow}
use Rattle.reconciling.specs.Outcomes.{sums_in}
use Rattle.reconciling.specs.Sharing.{that_count, over_operators}
use Rattle.reconciling.specs.Sheets.{row_in_range}
use Rattle.reconciling.specs.Volumes.{volume_weight, discrepancy, managers_kwh, operator_weights, adjusted_kwh, volume_kwh}
use Rattle.reconciling.proofs.Managers.{managers_le, rest_le}
use Rattle.reconciling.proofs.Ranged.{sums_of_cell, modelled_kwh_le}

weight_in_limit : (w : ℤ) → nat_abs w ≤ max_weight → le_z w (pos max_weight) ≡ true
weight_in_limit (pos n) l = le-leb n max_weight l
weight_in_limit (negsuc n) l = refl

weights_are_in_limit : (f : ℕ → ℤ) (a n : ℕ) → ((k : ℕ) → nat_abs (f k) ≤ max_weight) → weights_in_limit (map f (range_with_len a n)) ≡ true
weights_are_in_limit f a zero h = refl
weights_are_in_limit f a (suc n) h = and_from (le_z (f a) (pos max_weight)) _ (weight_in_limit (f a) (h a)) (weights_are_in_limit f (a + 1) n h)

-- ---- the weights of an area's operators
module _ (cells : List Cell) (area : ℕ) where
  pub as_many_weights : length (operator_weights (sums_in cells) area) ≡ accounts - 1
  unfolding operator_weights
  as_many_weights = length-map-range_with_len (λ account. volume_weight (sums_in cells account area)) 1 (accounts - 1)

  as_many_that_count : length (that_count (operator_weights (sums_in cells) area)) ≡ accounts - 1
  as_many_that_count = length-map (operator_weights (sums_in cells) area) _ ∙ as_many_weights

  weight_le : SoundCells cells → (account : ℕ) → nat_abs (volume_weight (sums_in cells account area)) ≤ max_weight
  unfolding volume_weight
  weight_le sound account = modelled_kwh_le (sums_in cells account area) (sums_of_cell (cell_at cells account area) (sound.within (cell_number account area)))

  weights_fit : SoundCells cells → weights_in_limit (operator_weights (sums_in cells) area) ≡ true
  unfolding operator_weights
  weights_fit sound = weights_are_in_limit (λ account. volume_weight (sums_in cells account area)) 1 (accounts - 1) (weight_le sound)

-- ---- d is shared, less the infrastructure manager's part
module _ (d : ℤ) (row : AreaRow) (ws : List ℕ) where
  abbrev rest : ℤ
  rest = d -ℤ managers_kwh d row

  first_is : over_operators (managers_kwh d row) rest ws 0 ≡ managers_kwh d row +ℤ unshared rest ws
  unfolding over_operators
  first_is = refl

  other_is : (i : ℕ) → over_operators (managers_kwh d row) rest ws (suc i) ≡ part rest ws i
  unfolding over_operators
  other_is i = refl

  first_le : row_in_range row ≡ true → nat_abs (managers_kwh d row +ℤ unshared rest ws) ≤ nat_abs d
  first_le ranged =
      let m = managers_le d row ranged in
      elim (eqb (total_weight ws) 0) as (λ b. nat_abs (managers_kwh d row +ℤ cond b rest (pos 0)) ≤ nat_abs d) [ true ↦ omega (arith, ints) | false ↦ omega (arith, ints) ]

-- ---- the adjustments of an area
module _ (cells : List Cell) (row : AreaRow) (area : ℕ) (ranged : row_in_range row ≡ true) where
  abbrev apart : ℤ
  apart = discrepancy (sums_in cells) row area

  abbrev counts : List ℕ
  counts = that_count (operator_weights (sums_in cells) area)

  pub figures_fit : SoundCells cells → nat_abs apart ≤ max_kwh → figures_in_limit (rest apart row counts) (operator_weights (sums_in cells) area) ≡ true
  figures_fit sound small =
      and_from _ _ (and_from _ _ (le-leb (nat_abs (rest apart row counts)) max_amount (omega (arith, rest_le apart row ranged))) (le-leb (length (operator_weights (sums_in cells) area)) max_lines (omega (arith, as_many_weights cells area))))
      (weights_fit cells area sound)

  pub volume_kwh_le : nat_abs apart ≤ max_kwh → (account : ℕ) → account < accounts → nat_abs (volume_kwh (sums_in cells) row account area) ≤ max_kwh
  unfolding volume_kwh adjusted_kwh
  volume_kwh_le small zero l = omega (arith, ap nat_abs (first_is apart row counts), first_le apart row counts ranged)
  volume_kwh_le small (suc i) l =
      let shared = fair (rest apart row counts) counts (range_with_len 1 (accounts - 1)) refl (sym (as_many_that_count cells area)) in
      omega (arith, ap nat_abs (other_is apart row counts i), shared.bounded i (omega (arith, as_many_that_count cells area)), rest_le apart row ranged)
