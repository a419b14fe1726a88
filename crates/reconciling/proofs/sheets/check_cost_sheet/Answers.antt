use Rattle.std.proofs.Common.{◌≡◌, ℕ, List, length, None, Ok, Err, sym, ap, ◌∙◌, ap₂}
use Rattle.std.specs.Prelude.{◌==◌}
use Rattle.std.proofs.lemmas.Result.{err_from_is_err_and}
use Rattle.amounts.specs.Ranges.{areas}
use Rattle.reconciling.specs.declared.fault.ReconcileFault.TheVariants as fault
use Rattle.reconciling.specs.declared.sheets.CheckedCosts.{CheckedCosts}
use Rattle.reconciling.specs.Outcomes.{or_then, fault_unless, lowest_area, unless_fault, rows_fault, cost_sheet_fault}
use Rattle.reconciling.specs.Sheets.{cost_in_range, cost_at}
use Rattle.reconciling.proofs.Checks.{fault_if, no_fault_if, ok_or_ok, ok_or_err, or_then_twice, value_if}
use Rattle.reconciling.proofs.sheets.check_cost_sheet.Goals as goal

abbrev checked : List ℕ → ℕ → CheckedCosts
checked delivery energy = record { delivery = delivery; energy = energy }

-- ---- the outcome, by the two checks
module _ (costs : List ℕ) (energy : ℕ) where
  in_turn : cost_sheet_fault costs energy ≡ or_then (rows_fault cost_in_range 0 costs) (fault_unless (cost_in_range energy) fault.EnergyFigure)
  unfolding cost_sheet_fault
  in_turn = or_then_twice (fault_unless (length costs == areas) fault.SheetLength) (lowest_area (λ area. cost_in_range (cost_at costs area)) (λ area. fault.AreaFigure area)) (fault_unless (cost_in_range energy) fault.EnergyFigure)

  after_rows : rows_fault cost_in_range 0 costs ≡ None → cost_sheet_fault costs energy ≡ fault_unless (cost_in_range energy) fault.EnergyFigure
  after_rows none = in_turn ∙ ap (λ o. or_then o (fault_unless (cost_in_range energy) fault.EnergyFigure)) none

pub returns-in_err-delivery-clause-answer : goal.returns-in_err-delivery-clause-answer
returns-in_err-delivery-clause-answer c =
    let costs = c.args.sheet.now.delivery.now in
    let energy = c.args.sheet.now.energy in
    let p = err_from_is_err_and c.from_residual.result c.from_residual.ensures.1 in
    let bad = fault_if (rows_fault cost_in_range 0 costs) costs c.in_err-delivery.field-0.0 (c.in_err-delivery.ensures.answer 0) in
    p.1 ∙ ap Err p.2 ∙ sym (ap (λ o. unless_fault o (checked costs energy)) (in_turn costs energy ∙ ap (λ o. or_then o (fault_unless (cost_in_range energy) fault.EnergyFigure)) bad))

pub returns-in_err-energy-clause-answer : goal.returns-in_err-energy-clause-answer
returns-in_err-energy-clause-answer c =
    let costs = c.args.sheet.now.delivery.now in
    let energy = c.args.sheet.now.energy in
    let p = err_from_is_err_and c.from_residual-in_err-energy.result c.from_residual-in_err-energy.ensures.1 in
    let good = no_fault_if (rows_fault cost_in_range 0 costs) costs c.in_ok-delivery.delivery (c.in_ok-delivery.ensures.answer 0) in
    let bad = ok_or_err c.check-2.result (cost_in_range energy) energy fault.EnergyFigure c.in_err-energy.field-0.0 c.check-2.ensures (sym c.ok_or.ensures.value ∙ c.in_err-energy.was) in
    p.1 ∙ ap Err (p.2 ∙ bad.1) ∙ sym (ap (λ o. unless_fault o (checked costs energy)) (after_rows costs energy good ∙ ap (λ b. fault_unless b fault.EnergyFigure) bad.0))

pub returns-clause-answer : goal.returns-clause-answer
returns-clause-answer c =
    let costs = c.args.sheet.now.delivery.now in
    let energy = c.args.sheet.now.energy in
    let good = no_fault_if (rows_fault cost_in_range 0 costs) costs c.in_ok-delivery.delivery (c.in_ok-delivery.ensures.answer 0) in
    let same = value_if (rows_fault cost_in_range 0 costs) costs c.in_ok-delivery.delivery (c.in_ok-delivery.ensures.answer 0) in
    let passed = ok_or_ok c.check-2.result (cost_in_range energy) energy c.in_ok-energy.energy fault.EnergyFigure c.check-2.ensures (sym c.ok_or.ensures.value ∙ c.in_ok-energy.was) in
    ap Ok (ap₂ checked same passed.1) ∙ sym (ap (λ o. unless_fault o (checked costs energy)) (after_rows costs energy good ∙ ap (λ b. fault_unless b fault.EnergyFigure) passed.0))
