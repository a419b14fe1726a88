-- What the checks of a sheet's row and of a cell have shown.
use Rattle.std.proofs.Common.{◌≡◌, ℕ, ◌+◌, ◌*◌, ◌/◌, ◌%◌, ◌<◌, ◌≤◌, true, leb, ℤ, nat_abs, arith, lit<}
use Rattle.std.proofs.lemmas.Bool.{and_parts, leb-true}
use Rattle.amounts.specs.Quotients.{quotient_rounded}
use Rattle.amounts.specs.Sums.{one}
use Rattle.amounts.specs.Ranges.{max_price, within, price_in_range}
use Rattle.amounts.proofs.Quotients.{nat_abs_with_sign}
use Rattle.books.proofs.Bounds.{rounded_le}
use Rattle.ledger.specs.declared.block.Cell.{Cell}
use Rattle.ledger.specs.declared.block.Sums.{Sums}
use Rattle.ledger.specs.Limits.{max_wh, max_kwh, sums_within, cell_within}
use Rattle.ledger.specs.Units.{wh_per_kwh, kwh_of}
use Rattle.reconciling.specs.declared.sheets.AreaRow.{AreaRow}
use Rattle.reconciling.specs.Sheets.{max_supplied, whole, row_in_range}

pub record RowRanged (r : AreaRow) : Type 0 where
  pub supplied : r.supplied ≤ max_supplied
  pub share : r.share ≤ whole
  pub energy : r.energy ≤ max_price
  pub delivery : r.delivery ≤ max_price

pub row_ranged : (r : AreaRow) → row_in_range r ≡ true → RowRanged r
unfolding row_in_range
row_ranged r e =
    let p = and_parts (leb r.supplied max_supplied) _ e in
    let q = and_parts (leb r.share whole) _ p.1 in
    let s = and_parts (price_in_range r.energy) _ q.1 in
    record { supplied = leb-true _ _ p.0; share = leb-true _ _ q.0; energy = leb-true _ _ s.0; delivery = leb-true _ _ s.1 }

pub sums_of_cell : (c : Cell) → cell_within c ≡ true → sums_within c.sums ≡ true
unfolding cell_within
sums_of_cell c e = (and_parts (sums_within c.sums) _ e).0

pub metered_wh_le : (s : Sums) → sums_within s ≡ true → nat_abs s.metered ≤ max_wh
unfolding sums_within
metered_wh_le s e = leb-true _ _ (and_parts (within s.metered max_wh) _ e).0

pub modelled_wh_le : (s : Sums) → sums_within s ≡ true → nat_abs s.modelled ≤ max_wh
unfolding sums_within
modelled_wh_le s e = leb-true _ _ (and_parts (within s.modelled max_wh) _ (and_parts (within s.metered max_wh) _ e).1).0

-- ---- sums of Wh in kWh
rounded_size_le : (z : ℤ) (d m : ℕ) → 0 < d → nat_abs z ≤ m * d → nat_abs (quotient_rounded z d) ≤ m
rounded_size_le z d m some h = omega (arith, nat_abs_with_sign z (nat_abs z / d + one (leb d (2 * (nat_abs z % d)))), rounded_le (nat_abs z) d m some h)

kwh_le : (w : ℤ) → nat_abs w ≤ max_wh → nat_abs (kwh_of w) ≤ max_kwh
unfolding kwh_of
kwh_le w l = rounded_size_le w wh_per_kwh max_kwh (lit< tt) (omega arith)

pub metered_kwh_le : (s : Sums) → sums_within s ≡ true → nat_abs (kwh_of s.metered) ≤ max_kwh
metered_kwh_le s e = kwh_le s.metered (metered_wh_le s e)

pub modelled_kwh_le : (s : Sums) → sums_within s ≡ true → nat_abs (kwh_of s.modelled) ≤ max_kwh
modelled_kwh_le s e = kwh_le s.modelled (modelled_wh_le s e)
