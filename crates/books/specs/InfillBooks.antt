-- What each infill book means.
use Rattle.std.specs.Prelude.{◌≡◌, ℕ, ◌≤◌, Bool, true, false, cond, ◌&&◌, List, IfSome, Some, None, Option, ◌≢◌}
use Rattle.std.specs.Option.{option_map, option_flatten}
use Rattle.std.specs.List.{Contains}
use Rattle.amounts.specs.Ranges.{area_exists, band_exists}
use Rattle.lines.specs.Keys.{infill_fields, infill_widths, category_widths}
use Rattle.lines.specs.Tables.{fields_of_infill, fields_of_category, category_line, RisingTable}
use Rattle.lines.specs.declared.kinds.MeteredKind.{MeteredKind}
use Rattle.lines.specs.declared.kinds.MeteredKind.TheVariants.{MultipleUnitJourney, HauledJourney, NonJourney}
use Rattle.lines.specs.declared.kinds.UnitKind.{UnitKind}
use Rattle.lines.specs.declared.kinds.UnitKind.TheVariants.{MultipleUnit, Hauled}
use Rattle.lines.specs.declared.infill.InfillLine.{InfillLine}
use Rattle.lines.specs.declared.category.CategoryLine.{CategoryLine}
use Rattle.books.specs.declared.answers.SlotValues.{SlotValues}
use Rattle.books.specs.Figures.{max_speed, rate_consumption, rate_regeneration}
use Rattle.books.specs.Answers.{ValuesInRange}
use Rattle.books.specs.FromTables.{from_table, AnswersFromLines}

-- ---- the table book: the values of the line of this kind, category, area and band
abbrev pub values_of : InfillLine → SlotValues
values_of l = record { consumption = l.consumption; regeneration = l.regeneration }

abbrev pub infill_of : List InfillLine → MeteredKind → ℕ → ℕ → ℕ → Option SlotValues
infill_of lines kind category area band = from_table fields_of_infill values_of lines (infill_fields kind category area band)

pub record InfillTable (lines : List InfillLine) : Type 0 where
  pub lines_answer : AnswersFromLines fields_of_infill infill_widths values_of lines
  -- an area or a band that does not exist has no values
  pub out_of_range : (kind : MeteredKind) (category area band : ℕ) → (area_exists area && band_exists band) ≡ false → infill_of lines kind category area band ≡ None
  pub in_range : (kind : MeteredKind) (category area band : ℕ) → IfSome (infill_of lines kind category area band) ValuesInRange

-- ---- the rate book: from the category's rate, at one speed, for journeys whose kind fits the category's unit
abbrev pub journey_fits : MeteredKind → UnitKind → Bool
journey_fits MultipleUnitJourney MultipleUnit = true
journey_fits MultipleUnitJourney Hauled = false
journey_fits HauledJourney MultipleUnit = false
journey_fits HauledJourney Hauled = true
journey_fits NonJourney unit = false

abbrev pub rate_values : ℕ → ℕ → ℕ → SlotValues
rate_values rate discount speed = record { consumption = rate_consumption rate speed; regeneration = rate_regeneration (rate_consumption rate speed) discount }

abbrev pub rate_answer : ℕ → MeteredKind → CategoryLine → Option SlotValues
rate_answer speed kind l = cond (journey_fits kind l.unit) (Some (rate_values l.rate l.discount speed)) None

-- the same in every area and band, those that do not exist too
abbrev pub rate_of : List CategoryLine → ℕ → MeteredKind → ℕ → ℕ → ℕ → Option SlotValues
rate_of lines speed kind category area band = option_flatten (option_map (rate_answer speed kind) (category_line lines category))

pub record RateTable (lines : List CategoryLine) (speed : ℕ) : Type 0 where
  -- a category is answered from its line, if keys rise
  pub each_line : RisingTable fields_of_category category_widths lines → (l : CategoryLine) → Contains lines l → (kind : MeteredKind) (area band : ℕ) → rate_of lines speed kind l.category area band ≡ rate_answer speed kind l
  -- a category without a line has no values
  pub unknown : (category : ℕ) → ((l : CategoryLine) → Contains lines l → l.category ≢ category) → (kind : MeteredKind) (area band : ℕ) → rate_of lines speed kind category area band ≡ None
  -- nor has a non-journey
  pub non_journey : (category area band : ℕ) → rate_of lines speed NonJourney category area band ≡ None
  pub in_range : speed ≤ max_speed → (kind : MeteredKind) (category area band : ℕ) → IfSome (rate_of lines speed kind category area band) ValuesInRange
