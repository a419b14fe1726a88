-- The infrastructure manager's share of a discrepancy, and what is left for the operators.
use Rattle.std.proofs.Common.{◌≡◌, ℕ, suc, ◌≤◌, true, ℤ, pos, negsuc, ◌-ℤ◌, ◌*ℤ◌, nat_abs, arith, lit<}
use Rattle.std.proofs.lemmas.Nat.{mul-le}
use Rattle.std.proofs.lemmas.Int.{ints}
use Rattle.amounts.specs.Quotients.{Cut}
use Rattle.amounts.proofs.Quotients.{cut_law}
use Rattle.reconciling.specs.declared.sheets.AreaRow.{AreaRow}
use Rattle.reconciling.specs.Sheets.{whole, row_in_range}
use Rattle.reconciling.specs.Volumes.{managers_kwh}
use Rattle.reconciling.proofs.Ranged.{row_ranged}

-- what is cut from at most the whole of d is no more than d, and neither is the rest
cut_within : (d r : ℤ) (s : ℕ) → s ≤ whole → Cut (d *ℤ pos s) whole r → (nat_abs r ≤ nat_abs d) × (nat_abs (d -ℤ r) ≤ nat_abs d)
cut_within (pos n) r s l h = let p = mul-le n s n whole (omega arith) l in (omega (arith, ints, h.near, h.not_past), omega (arith, ints, h.near, h.not_past))
cut_within (negsuc n) r s l h = let p = mul-le (suc n) s (suc n) whole (omega arith) l in (omega (arith, ints, h.near, h.not_past), omega (arith, ints, h.near, h.not_past))

module _ (d : ℤ) (row : AreaRow) (ranged : row_in_range row ≡ true) where
  cut_of : Cut (d *ℤ pos row.share) whole (managers_kwh d row)
  unfolding managers_kwh
  cut_of = cut_law (d *ℤ pos row.share) whole (lit< tt)

  pub managers_le : nat_abs (managers_kwh d row) ≤ nat_abs d
  managers_le = (cut_within d (managers_kwh d row) row.share (row_ranged row ranged).share cut_of).0

  pub rest_le : nat_abs (d -ℤ managers_kwh d row) ≤ nat_abs d
  rest_le = (cut_within d (managers_kwh d row) row.share (row_ranged row ranged).share cut_of).1
