-- Tables: lists of lines of one kind, and the line that a table has for given key fields.
use Rattle.std.specs.Prelude.{ℕ, List, Option}
use Rattle.lines.specs.declared.kinds.Electricity.{Electricity}
use Rattle.lines.specs.declared.kinds.MeteredKind.{MeteredKind}
use Rattle.lines.specs.declared.category.CategoryLine.{CategoryLine}
use Rattle.lines.specs.declared.loss.LossLine.{LossLine}
use Rattle.lines.specs.declared.infill.InfillLine.{InfillLine}
use Rattle.lines.specs.declared.tariff.TariffLine.{TariffLine}
use Rattle.lines.specs.Keys.{key_of, before, same, category_fields, loss_fields, infill_fields, tariff_fields}
use Rattle.lines.specs.Lookups.{Rising, scan}
use Rattle.lines.specs.Laws.{LineOf}

module _ {L : Type 0} (fields : L → List ℕ) where
  -- the line with these key fields
  abbrev pub line_with : List ℕ → List L → Option L
  line_with fs xs = scan (λ x. before (fields x) fs) (λ x. same (fields x) fs) xs

  -- the keys of the lines rise
  abbrev pub RisingTable : List ℕ → List L → Type 0
  RisingTable widths xs = Rising (λ l. key_of widths (fields l)) xs

  -- r is the line that the table xs has for these key fields: in a table whose keys rise, the one with these fields, or none if no line has them
  abbrev pub LineOfFields : List ℕ → List ℕ → List L → Option L → Type 0
  LineOfFields widths fs xs r = LineOf fields fs (RisingTable widths xs) xs r

-- ---- the four kinds of line
abbrev pub fields_of_category : CategoryLine → List ℕ
fields_of_category l = category_fields l.category

abbrev pub fields_of_loss : LossLine → List ℕ
fields_of_loss l = loss_fields l.area l.electricity

abbrev pub fields_of_infill : InfillLine → List ℕ
fields_of_infill l = infill_fields l.kind l.category l.area l.band

abbrev pub fields_of_tariff : TariffLine → List ℕ
fields_of_tariff l = tariff_fields l.account l.area l.band

abbrev pub category_line : List CategoryLine → ℕ → Option CategoryLine
category_line lines category = line_with fields_of_category (category_fields category) lines

abbrev pub loss_line : List LossLine → ℕ → Electricity → Option LossLine
loss_line lines area electricity = line_with fields_of_loss (loss_fields area electricity) lines

abbrev pub infill_line : List InfillLine → MeteredKind → ℕ → ℕ → ℕ → Option InfillLine
infill_line lines kind category area band = line_with fields_of_infill (infill_fields kind category area band) lines

abbrev pub tariff_line : List TariffLine → ℕ → ℕ → ℕ → Option TariffLine
tariff_line lines account area band = line_with fields_of_tariff (tariff_fields account area band) lines
