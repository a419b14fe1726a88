-- The figures that books work out, and their ranges.
use Rattle.std.specs.Prelude.{ℕ, ◌*◌, Bool, ◌&&◌, pos, nat_le, unsigned_abs}
use Rattle.amounts.specs.Ranges.{max_divisor, price_in_range}
use Rattle.amounts.specs.Quotients.{quotient_rounded}

-- n ÷ d rounded
abbrev pub rounded_quotient : ℕ → ℕ → ℕ
rounded_quotient n d = unsigned_abs (quotient_rounded (pos n) d)

-- the largest number that a book divides
abbrev pub max_dividend : ℕ
max_dividend = 1000000000000000

-- ---- the blended book
-- the highest expected delivery cost, in pence
abbrev pub max_expected_cost : ℕ
max_expected_cost = 1000000000000

-- the delivery price, in thousandths of a penny per kWh, that recovers the expected cost in pence over the expected kWh
abbrev pub blended_delivery : ℕ → ℕ → ℕ
blended_delivery cost kwh = rounded_quotient (1000 * cost) kwh

abbrev pub blended_in_range : ℕ → ℕ → ℕ → Bool
blended_in_range energy cost kwh = (price_in_range energy && nat_le cost max_expected_cost) && ((nat_le 1 kwh && nat_le kwh max_divisor) && price_in_range (blended_delivery cost kwh))

-- ---- the rate book
-- the highest speed, in hundredths of a mile per slot
abbrev pub max_speed : ℕ
max_speed = 1000

-- what a slot consumes at the highest rate and speed
abbrev pub max_rate_consumption : ℕ
max_rate_consumption = 1000000

-- what a slot consumes at a rate, in Wh per mile, and a speed
abbrev pub rate_consumption : ℕ → ℕ → ℕ
rate_consumption rate speed = rounded_quotient (rate * speed) 100

-- what of it is regenerated, the discount being in ten-thousandths
abbrev pub rate_regeneration : ℕ → ℕ → ℕ
rate_regeneration consumption discount = rounded_quotient (consumption * discount) 10000
