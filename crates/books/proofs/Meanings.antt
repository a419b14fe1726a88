-- What books answer is what their tables have. Assumes nothing.
use Rattle.std.proofs.Common.{◌≡◌, ℕ, false, ◌&&◌, List, Some, None, Option, refl, ap, arith}
use Rattle.std.specs.Option.{option_map, option_flatten}
use Rattle.std.specs.List.{Contains}
use Rattle.std.proofs.lemmas.Bool.Decides.{nat_tests}
use Rattle.amounts.specs.Ranges.{account_exists, area_exists, band_exists}
use Rattle.lines.specs.Keys.{Fit, tariff_fields, infill_fields, category_fields, tariff_widths, infill_widths, category_widths}
use Rattle.lines.specs.Tables.{line_with, category_line, fields_of_tariff, fields_of_infill, fields_of_category}
use Rattle.lines.specs.declared.kinds.MeteredKind.{MeteredKind}
use Rattle.lines.specs.declared.kinds.MeteredKind.TheVariants.{NonJourney}
use Rattle.lines.specs.declared.tariff.TariffLine.{TariffLine}
use Rattle.lines.specs.declared.infill.InfillLine.{InfillLine}
use Rattle.lines.specs.declared.category.CategoryLine.{CategoryLine}
use Rattle.lines.proofs.Ranges.{tariff_ranges, infill_ranges, tariff_fit, infill_fit, category_fit}
use Rattle.lines.proofs.ByFields.{line_of_fields, line_with_one_of, line_with_none}
use Rattle.books.specs.FromTables.{from_table, AnswersFromLines}
use Rattle.books.specs.TariffBooks.{TariffTable, prices_of}
use Rattle.books.specs.InfillBooks.{InfillTable, RateTable, values_of, rate_answer}
use Rattle.books.proofs.Bounds.{tariff_bounded, infill_bounded, rate_bounded}

-- ---- any table
module _ {L V : Type 0} (fields : L → List ℕ) (ws : List ℕ) (value : L → V) (fit : (l : L) → Fit ws (fields l)) (lines : List L) where
  pub from_lines : (fs : List ℕ) (v : V) → from_table fields value lines fs ≡ Some v → (l : L) × Contains lines l × (fields l ≡ fs) × (value l ≡ v)
  from_lines fs v = elim (line_with fields fs lines) as (λ o. ((l : L) → o ≡ Some l → Contains lines l × (fields l ≡ fs)) → option_map value o ≡ Some v → (l : L) × Contains lines l × (fields l ≡ fs) × (value l ≡ v)) [
    | None ↦ λ _ e. (let y : ◌≡◌ {A = ℕ} 0 1 = cc in absurd (omega arith))
    | Some l ↦ λ one e. (l, (one l refl).0, (one l refl).1, cc)
  ] (line_with_one_of fields fs lines)

  pub answers_from_lines : AnswersFromLines fields ws value lines
  answers_from_lines = record {
    each_line = λ up l h. ap (option_map value) ((line_of_fields ws fields fit (fields l) (fit l) lines).found up l h refl);
    only_lines = from_lines;
  }

  pub no_line : (fs : List ℕ) → ((l : L) → fields l ≡ fs → ⊥) → from_table fields value lines fs ≡ None
  no_line fs lacks = ap (option_map value) (line_with_none fields fs lines (λ l _ e. lacks l e))

-- ---- the table tariff book
not_a_tariff : (account area band : ℕ) → (account_exists account && (area_exists area && band_exists band)) ≡ false → (l : TariffLine) → fields_of_tariff l ≡ tariff_fields account area band → ⊥
not_a_tariff account area band out l e =
    let h = tariff_ranges l in
    let a : l.account ≡ account = cc in
    let r : l.area ≡ area = cc in
    let b : l.band ≡ band = cc in
    grind (arith, nat_tests)

pub tariff_table : (lines : List TariffLine) → TariffTable lines
tariff_table lines = record {
  lines_answer = answers_from_lines fields_of_tariff tariff_widths prices_of tariff_fit lines;
  out_of_range = λ account area band out. no_line fields_of_tariff tariff_widths prices_of tariff_fit lines (tariff_fields account area band) (not_a_tariff account area band out);
  in_range = tariff_bounded lines;
}

-- ---- the table infill book
not_an_infill : (kind : MeteredKind) (category area band : ℕ) → (area_exists area && band_exists band) ≡ false → (l : InfillLine) → fields_of_infill l ≡ infill_fields kind category area band → ⊥
not_an_infill kind category area band out l e =
    let h = infill_ranges l in
    let r : l.area ≡ area = cc in
    let b : l.band ≡ band = cc in
    grind (arith, nat_tests)

pub infill_table : (lines : List InfillLine) → InfillTable lines
infill_table lines = record {
  lines_answer = answers_from_lines fields_of_infill infill_widths values_of infill_fit lines;
  out_of_range = λ kind category area band out. no_line fields_of_infill infill_widths values_of infill_fit lines (infill_fields kind category area band) (not_an_infill kind category area band out);
  in_range = infill_bounded lines;
}

-- ---- the rate book
no_non_journey : (speed : ℕ) (o : Option CategoryLine) → option_flatten (option_map (rate_answer speed NonJourney) o) ≡ None
no_non_journey speed None = refl
no_non_journey speed (Some l) = refl

pub rate_table : (lines : List CategoryLine) (speed : ℕ) → RateTable lines speed
rate_table lines speed = record {
  each_line = λ up l h kind area band. ap (λ o. option_flatten (option_map (rate_answer speed kind) o)) ((line_of_fields category_widths fields_of_category category_fit (fields_of_category l) (category_fit l) lines).found up l h refl);
  unknown = λ category no kind area band. ap (λ o. option_flatten (option_map (rate_answer speed kind) o)) (line_with_none fields_of_category (category_fields category) lines (λ l h e. no l h (cc)));
  non_journey = λ category area band. no_non_journey speed (category_line lines category);
  in_range = rate_bounded lines speed;
}
