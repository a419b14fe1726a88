-- The ranges that every layer shares.
use Rattle.std.specs.Prelude.{ℕ, Bool, ◌&&◌, ℤ, nat_le, nat_lt, unsigned_abs}

-- how many accounts there are, numbered from 0, which is the infrastructure manager's
abbrev pub accounts : ℕ
accounts = 64

-- how many areas there are, numbered from 0
abbrev pub areas : ℕ
areas = 20

abbrev pub first_band : ℕ
first_band = 1

abbrev pub last_band : ℕ
last_band = 7

-- the highest price, in thousandths of a penny per kWh
abbrev pub max_price : ℕ
max_price = 100000

-- the largest divisor, which is also the highest expected kWh
abbrev pub max_divisor : ℕ
max_divisor = 1000000000000

abbrev pub account_exists : ℕ → Bool
account_exists n = nat_lt n accounts

abbrev pub area_exists : ℕ → Bool
area_exists n = nat_lt n areas

abbrev pub band_exists : ℕ → Bool
band_exists n = nat_le first_band n && nat_le n last_band

abbrev pub price_in_range : ℕ → Bool
price_in_range n = nat_le n max_price

-- z is at most the limit, up or down
abbrev pub within : ℤ → ℕ → Bool
within z limit = nat_le (unsigned_abs z) limit
