use Rattle.std.proofs.Common.{sym, ap, ◌∙◌}
use Rattle.std.specs.Option.{option_map}
use Rattle.reconciling.specs.declared.fault.ReconcileFault.TheVariants as fault
use Rattle.reconciling.specs.Outcomes.{unless_fault}
use Rattle.reconciling.proofs.Checks.{rows_fault_is, rows_ranged}
use Rattle.reconciling.proofs.rows.CheckedRows.check.Goals as goal

pub returns-in-Some-clause-answer : goal.returns-in-Some-clause-answer
returns-in-Some-clause-answer g c d = sym (ap (λ o. unless_fault o c.args.rows.now) (rows_fault_is g.R.Ranged.in_range c.args.rows.now c.if-rows-ne-AREA_COUNT.false d ∙ ap (option_map (λ area. fault.AreaFigure area)) (sym c.in-Some.ensures)))

pub invariant_of-result : goal.invariant_of-result
invariant_of-result g c = rows_ranged g.R.Ranged.in_range c.args.rows.now c.if-rows-ne-AREA_COUNT.false (sym c.in-None.ensures)

pub returns-in-None-clause-answer : goal.returns-in-None-clause-answer
returns-in-None-clause-answer g c d = sym (ap (λ o. unless_fault o c.args.rows.now) (rows_fault_is g.R.Ranged.in_range c.args.rows.now c.if-rows-ne-AREA_COUNT.false d ∙ ap (option_map (λ area. fault.AreaFigure area)) (sym c.in-None.ensures)))

pub returns-in-None-clause-ranged : goal.returns-in-None-clause-ranged
returns-in-None-clause-ranged g c = rows_ranged g.R.Ranged.in_range c.args.rows.now c.if-rows-ne-AREA_COUNT.false (sym c.in-None.ensures)
