-- The ranges of the fields of a line.
use Rattle.std.specs.Prelude.{ℕ, Bool, ◌&&◌, nat_le}
use Rattle.amounts.specs.Ranges.{account_exists, area_exists, band_exists, price_in_range}
use Rattle.lines.specs.declared.kinds.MeteredKind.{MeteredKind}
use Rattle.lines.specs.declared.kinds.MeteredKind.TheVariants.{MultipleUnitJourney, HauledJourney, NonJourney}

-- how many categories 16 bits can tell, numbered from 0
abbrev pub categories : ℕ
categories = 65536

-- power factor, discount and loss are in ten-thousandths
abbrev pub min_power_factor : ℕ
min_power_factor = 1

abbrev pub max_power_factor : ℕ
max_power_factor = 15000

abbrev pub max_rate : ℕ
max_rate = 100000

abbrev pub max_discount : ℕ
max_discount = 10000

abbrev pub max_loss : ℕ
max_loss = 5000

-- the highest value that stands in for a missing reading
abbrev pub max_infill : ℕ
max_infill = 2000000

abbrev pub category_in_range : ℕ → ℕ → ℕ → Bool
category_in_range power_factor rate discount = (nat_le min_power_factor power_factor && nat_le power_factor max_power_factor) && (nat_le rate max_rate && nat_le discount max_discount)

abbrev pub loss_in_range : ℕ → ℕ → Bool
loss_in_range area loss = area_exists area && nat_le loss max_loss

-- a non-journey regenerates nothing
abbrev pub max_regeneration : MeteredKind → ℕ
max_regeneration MultipleUnitJourney = max_infill
max_regeneration HauledJourney = max_infill
max_regeneration NonJourney = 0

abbrev pub values_in_range : MeteredKind → ℕ → ℕ → Bool
values_in_range kind consumption regeneration = nat_le consumption max_infill && nat_le regeneration (max_regeneration kind)

abbrev pub infill_in_range : MeteredKind → ℕ → ℕ → ℕ → ℕ → Bool
infill_in_range kind area band consumption regeneration = (area_exists area && band_exists band) && values_in_range kind consumption regeneration

abbrev pub tariff_in_range : ℕ → ℕ → ℕ → ℕ → ℕ → Bool
tariff_in_range account area band energy delivery = (account_exists account && (area_exists area && band_exists band)) && (price_in_range energy && price_in_range delivery)
