-- The fields of a line are in range, and its key fields fit their widths. Assumes nothing.
use Rattle.std.proofs.Common.{◌<◌, ◌≤◌, arith}
use Rattle.std.proofs.lemmas.Bool.Decides.{nat_tests}
use Rattle.amounts.specs.Ranges.{accounts, areas, first_band, last_band, max_price}
use Rattle.lines.specs.declared.kinds.Electricity.{Electricity}
use Rattle.lines.specs.declared.kinds.Electricity.TheVariants.{Ac, Dc}
use Rattle.lines.specs.declared.kinds.MeteredKind.{MeteredKind}
use Rattle.lines.specs.declared.kinds.MeteredKind.TheVariants.{MultipleUnitJourney, HauledJourney, NonJourney}
use Rattle.lines.specs.declared.category.CategoryLine.{CategoryLine}
use Rattle.lines.specs.declared.loss.LossLine.{LossLine}
use Rattle.lines.specs.declared.infill.InfillLine.{InfillLine}
use Rattle.lines.specs.declared.tariff.TariffLine.{TariffLine}
use Rattle.lines.specs.Kinds.{electricity_number, kind_number}
use Rattle.lines.specs.Limits.{min_power_factor, max_power_factor, max_rate, max_discount, max_loss, max_infill, max_regeneration}
use Rattle.lines.specs.Keys.{Fit, category_widths, loss_widths, infill_widths, tariff_widths}
use Rattle.lines.specs.Tables.{fields_of_category, fields_of_loss, fields_of_infill, fields_of_tariff}

pub category_ranges : (l : CategoryLine) → (min_power_factor ≤ l.power_factor) × (l.power_factor ≤ max_power_factor) × (l.rate ≤ max_rate) × (l.discount ≤ max_discount)
category_ranges l = let h = l.in_range in (grind (arith, nat_tests), grind (arith, nat_tests), grind (arith, nat_tests), grind (arith, nat_tests))

pub loss_ranges : (l : LossLine) → (l.area < areas) × (l.loss ≤ max_loss)
loss_ranges l = let h = l.in_range in (grind (arith, nat_tests), grind (arith, nat_tests))

max_regeneration_le : (k : MeteredKind) → max_regeneration k ≤ max_infill
max_regeneration_le MultipleUnitJourney = omega arith
max_regeneration_le HauledJourney = omega arith
max_regeneration_le NonJourney = omega arith

pub infill_ranges : (l : InfillLine) → (l.area < areas) × (first_band ≤ l.band) × (l.band ≤ last_band) × (l.consumption ≤ max_infill) × (l.regeneration ≤ max_infill)
infill_ranges l =
    let h = l.in_range in
    let m = max_regeneration_le l.kind in
    (grind (arith, nat_tests), grind (arith, nat_tests), grind (arith, nat_tests), grind (arith, nat_tests), grind (arith, nat_tests))

pub tariff_ranges : (l : TariffLine) → (l.account < accounts) × (l.area < areas) × (first_band ≤ l.band) × (l.band ≤ last_band) × (l.energy ≤ max_price) × (l.delivery ≤ max_price)
tariff_ranges l = let h = l.in_range in (grind (arith, nat_tests), grind (arith, nat_tests), grind (arith, nat_tests), grind (arith, nat_tests), grind (arith, nat_tests), grind (arith, nat_tests))

pub electricity_fits : (e : Electricity) → electricity_number e < 256
electricity_fits Ac = omega arith
electricity_fits Dc = omega arith

pub kind_fits : (k : MeteredKind) → kind_number k < 256
kind_fits MultipleUnitJourney = omega arith
kind_fits HauledJourney = omega arith
kind_fits NonJourney = omega arith

pub category_fit : (l : CategoryLine) → Fit category_widths (fields_of_category l)
category_fit l = (l.category_fits, tt)

pub loss_fit : (l : LossLine) → Fit loss_widths (fields_of_loss l)
loss_fit l = (omega (arith, loss_ranges l), (electricity_fits l.electricity, tt))

pub infill_fit : (l : InfillLine) → Fit infill_widths (fields_of_infill l)
infill_fit l = let h = infill_ranges l in (kind_fits l.kind, (l.category_fits, (omega arith, (omega arith, tt))))

pub tariff_fit : (l : TariffLine) → Fit tariff_widths (fields_of_tariff l)
tariff_fit l = let h = tariff_ranges l in (omega arith, (omega arith, (omega arith, tt)))
