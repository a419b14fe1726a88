-- The ranges of what books answer.
use Rattle.std.specs.Prelude.{◌≤◌}
use Rattle.amounts.specs.Ranges.{max_price}
use Rattle.lines.specs.Limits.{max_infill}
use Rattle.books.specs.declared.answers.Prices.{Prices}
use Rattle.books.specs.declared.answers.SlotValues.{SlotValues}

-- both prices are at most the highest
abbrev pub PricesInRange : Prices → Type 0
PricesInRange p = (p.energy ≤ max_price) × (p.delivery ≤ max_price)

-- both values for a slot are at most the highest
abbrev pub ValuesInRange : SlotValues → Type 0
ValuesInRange v = (v.consumption ≤ max_infill) × (v.regeneration ≤ max_infill)
