use Rattle.std.proofs.Common.{Ok, sym, ap, ◌∙◌, rules}
use Rattle.std.specs.Option.{option_map}
use Rattle.reconciling.specs.declared.fault.ReconcileFault.TheVariants as fault
use Rattle.reconciling.specs.Costs.{delivery_adjustment, delivery_adjustments}
use Rattle.reconciling.specs.Outcomes.{sums_in, volumes_in, unless_fault, delivery_in_limit, delivery_limit_fault}
use Rattle.reconciling.proofs.costs.delivery_adjustments.Goals as goal

pub returns-in-Some : goal.returns-in-Some
unfolding delivery_limit_fault
returns-in-Some c =
    let cells = c.args.cells.now in
    let costs = c.args.costs.now in
    let lowest = c.write_columns.ensures.answer (delivery_in_limit cells costs) (delivery_adjustment (sums_in cells) (volumes_in cells) costs) (record { each = λ area r said. search rules }) in
    ap (λ o. unless_fault (option_map (λ area. fault.AreaBeyondLimits area) o) (delivery_adjustments (sums_in cells) (volumes_in cells) costs)) (sym c.in-Some.is ∙ lowest)

pub returns : goal.returns
unfolding delivery_limit_fault delivery_adjustments
returns c =
    let cells = c.args.cells.now in
    let costs = c.args.costs.now in
    let lowest = c.write_columns.ensures.answer (delivery_in_limit cells costs) (delivery_adjustment (sums_in cells) (volumes_in cells) costs) (record { each = λ area r said. search rules }) in
    let table = c.write_columns.ensures.written (delivery_in_limit cells costs) (delivery_adjustment (sums_in cells) (volumes_in cells) costs) (record { each = λ area r said. search rules }) c.in_default.is in
    ap Ok table ∙ ap (λ o. unless_fault (option_map (λ area. fault.AreaBeyondLimits area) o) (delivery_adjustments (sums_in cells) (volumes_in cells) costs)) (sym c.in_default.is ∙ lowest)
