-- What each tariff book means.
use Rattle.std.specs.Prelude.{◌≡◌, ℕ, false, ◌&&◌, List, IfSome, Some, None, Option}
use Rattle.amounts.specs.Ranges.{account_exists, area_exists, band_exists}
use Rattle.lines.specs.Keys.{tariff_fields, tariff_widths}
use Rattle.lines.specs.Tables.{fields_of_tariff}
use Rattle.lines.specs.declared.tariff.TariffLine.{TariffLine}
use Rattle.books.specs.declared.answers.Prices.{Prices}
use Rattle.books.specs.Answers.{PricesInRange}
use Rattle.books.specs.FromTables.{from_table, AnswersFromLines}

-- ---- the table book: the prices of the line of this account, area and band
abbrev pub prices_of : TariffLine → Prices
prices_of l = record { energy = l.energy; delivery = l.delivery }

abbrev pub tariff_of : List TariffLine → ℕ → ℕ → ℕ → Option Prices
tariff_of lines account area band = from_table fields_of_tariff prices_of lines (tariff_fields account area band)

pub record TariffTable (lines : List TariffLine) : Type 0 where
  pub lines_answer : AnswersFromLines fields_of_tariff tariff_widths prices_of lines
  -- an account, an area or a band that does not exist has no prices
  pub out_of_range : (account area band : ℕ) → (account_exists account && (area_exists area && band_exists band)) ≡ false → tariff_of lines account area band ≡ None
  pub in_range : (account area band : ℕ) → IfSome (tariff_of lines account area band) PricesInRange

-- ---- the blended book: always its one pair, for accounts, areas and bands that do not exist too; its delivery price is blended_delivery
abbrev pub blended_prices : ℕ → ℕ → ℕ → ℕ → ℕ → Option Prices
blended_prices energy delivery account area band = Some (record { energy = energy; delivery = delivery })
