-- The sheets that a year is reconciled with, and the ranges of their figures.
use Rattle.std.specs.Prelude.{ℕ, Bool, ◌&&◌, List, nat_le, slice_index, slice_index_or}
use Rattle.amounts.specs.Ranges.{price_in_range}
use Rattle.reconciling.specs.declared.sheets.AreaRow.{AreaRow}
use Rattle.reconciling.specs.Rows.{RangedRows}

-- the most kWh supplied to an area
abbrev pub max_supplied : ℕ
max_supplied = 3000000000

-- a whole, in ten-thousandths
abbrev pub whole : ℕ
whole = 10000

-- the highest cost, in pence
abbrev pub max_sheet_cost : ℕ
max_sheet_cost = 1000000000000

unfoldable pub row_in_range : AreaRow → Bool
row_in_range r = nat_le r.supplied max_supplied && (nat_le r.share whole && (price_in_range r.energy && price_in_range r.delivery))

unfoldable pub cost_in_range : ℕ → Bool
cost_in_range c = nat_le c max_sheet_cost

abbrev pub zero_row : AreaRow
zero_row = record { supplied = 0; share = 0; energy = 0; delivery = 0 }

-- an area's row of the area sheet, and its delivery cost
abbrev pub row_at : List AreaRow → ℕ → AreaRow
row_at sheet area = slice_index_or sheet area zero_row

abbrev pub cost_at : List ℕ → ℕ → ℕ
cost_at costs area = slice_index costs area

-- sheets with a row for each area, and every figure in its range
abbrev pub AreaSheet : List AreaRow → Type 0
AreaSheet sheet = RangedRows row_in_range sheet

abbrev pub DeliveryCosts : List ℕ → Type 0
DeliveryCosts costs = RangedRows cost_in_range costs
