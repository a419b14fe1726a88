-- No answer of a book is out of range. Assumes nothing.
use Rattle.std.proofs.Common.{◌≡◌, ℕ, suc, ◌*◌, ◌/◌, ◌%◌, ◌<◌, ◌≤◌, true, false, cond, List, IfSome, Some, None, sym, ap, inl, inr, mul-le-mul_right, mod-lt, arith}
use native.Mathlib.Nat.{div-add-mod}
use Rattle.std.specs.Option.{option_map, option_flatten}
use Rattle.std.proofs.lemmas.Nat.{mul-le}
use Rattle.std.proofs.lemmas.Bool.{cases_order, lt-leb}
use Rattle.amounts.specs.Sums.{one}
use Rattle.lines.specs.Limits.{max_rate, max_discount}
use Rattle.lines.specs.Keys.{tariff_fields, infill_fields}
use Rattle.lines.specs.Tables.{line_with, category_line, fields_of_tariff, fields_of_infill}
use Rattle.lines.specs.declared.kinds.MeteredKind.{MeteredKind}
use Rattle.lines.specs.declared.tariff.TariffLine.{TariffLine}
use Rattle.lines.specs.declared.infill.InfillLine.{InfillLine}
use Rattle.lines.specs.declared.category.CategoryLine.{CategoryLine}
use Rattle.lines.proofs.Ranges.{tariff_ranges, infill_ranges, category_ranges}
use Rattle.books.specs.Answers.{PricesInRange, ValuesInRange}
use Rattle.books.specs.Figures.{rounded_quotient, max_speed, max_rate_consumption, rate_consumption, rate_regeneration}
use Rattle.books.specs.FromTables.{from_table}
use Rattle.books.specs.TariffBooks.{tariff_of, prices_of}
use Rattle.books.specs.InfillBooks.{infill_of, values_of, rate_answer, rate_values, rate_of, journey_fits}

-- what holds of the value of each line holds of a table's answer
pub from_table_found : {L V : Type 0} (fields : L → List ℕ) (value : L → V) (P : V → Type 0) → ((l : L) → P (value l)) → (lines : List L) (fs : List ℕ) → IfSome (from_table fields value lines fs) P
from_table_found fields value P each lines fs = elim (line_with fields fs lines) as (λ o. IfSome (option_map value o) P) [ None ↦ tt | Some l ↦ each l ]

pub tariff_bounded : (lines : List TariffLine) (account area band : ℕ) → IfSome (tariff_of lines account area band) PricesInRange
tariff_bounded lines account area band = from_table_found fields_of_tariff prices_of PricesInRange (λ l. ((tariff_ranges l).4, (tariff_ranges l).5)) lines (tariff_fields account area band)

pub infill_bounded : (lines : List InfillLine) (kind : MeteredKind) (category area band : ℕ) → IfSome (infill_of lines kind category area band) ValuesInRange
infill_bounded lines kind category area band = from_table_found fields_of_infill values_of ValuesInRange (λ l. ((infill_ranges l).3, (infill_ranges l).4)) lines (infill_fields kind category area band)

-- a quotient of at most m is at most m when it is rounded
pub rounded_le : (n d m : ℕ) → 0 < d → n ≤ m * d → rounded_quotient n d ≤ m
rounded_le n d m some h =
    let sum = div-add-mod n d in
    let low = mod-lt n some in
    elim (cases_order (n / d) m) [
      | inl e ↦ (
          let whole : m * d ≡ n / d * d = ap (λ x. x * d) (sym e) in
          let none : n % d ≡ 0 = omega (arith, sum, whole) in
          omega (arith, e, ap one (lt-leb d (2 * (n % d)) (omega arith))))
      | inr o ↦ elim o [
        | inl l ↦ grind arith
        | inr l ↦ absurd (omega (arith, mul-le-mul_right {m = suc m} {n = n / d} d l, sum))
      ]
    ]

-- ---- the rate book: no rate at any speed consumes more than 1,000,000 in a slot, or regenerates more
pub rate_consumption_le : (rate speed : ℕ) → rate ≤ max_rate → speed ≤ max_speed → rate_consumption rate speed ≤ max_rate_consumption
rate_consumption_le rate speed r s = rounded_le (rate * speed) 100 max_rate_consumption (omega arith) (omega (arith, mul-le rate speed max_rate max_speed r s))

pub rate_regeneration_le : (consumption discount : ℕ) → consumption ≤ max_rate_consumption → discount ≤ max_discount → rate_regeneration consumption discount ≤ max_rate_consumption
rate_regeneration_le c d h k = rounded_le (c * d) 10000 max_rate_consumption (omega arith) (omega (arith, mul-le c d max_rate_consumption max_discount h k))

rate_in_range : (speed : ℕ) → speed ≤ max_speed → (kind : MeteredKind) (l : CategoryLine) → IfSome (rate_answer speed kind l) ValuesInRange
rate_in_range speed s kind l =
    let h = category_ranges l in
    let c = rate_consumption_le l.rate speed h.2 s in
    let r = rate_regeneration_le (rate_consumption l.rate speed) l.discount c h.3 in
    elim (journey_fits kind l.unit) as (λ b. IfSome (cond b (Some (rate_values l.rate l.discount speed)) None) ValuesInRange) [ true ↦ (omega arith, omega arith) | false ↦ tt ]

pub rate_bounded : (lines : List CategoryLine) (speed : ℕ) → speed ≤ max_speed → (kind : MeteredKind) (category area band : ℕ) → IfSome (rate_of lines speed kind category area band) ValuesInRange
rate_bounded lines speed s kind category area band = elim (category_line lines category) as (λ o. IfSome (option_flatten (option_map (rate_answer speed kind) o)) ValuesInRange) [ None ↦ tt | Some l ↦ rate_in_range speed s kind l ]
