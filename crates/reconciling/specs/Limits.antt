-- How far sums can go in a sound block.
use Rattle.std.specs.Prelude.{ℕ, ◌≤◌, List, ℤ, pos, slice_index_or, unsigned_abs}

-- the kWh billed to a cell: metered and modelled at their limits
abbrev pub max_billed_kwh : ℕ
max_billed_kwh = 6000000000

-- what a cell was billed, in pence: a charge and a volume adjustment at their limits
abbrev pub max_billed : ℕ
max_billed = 303000000000

-- the same, over all areas
abbrev pub max_network : ℕ
max_network = 6060000000000

-- no figure goes beyond the limit, up or down
abbrev pub EachWithin : ℕ → List ℤ → Type 0
EachWithin limit figures = (i : ℕ) → unsigned_abs (slice_index_or figures i (pos 0)) ≤ limit
