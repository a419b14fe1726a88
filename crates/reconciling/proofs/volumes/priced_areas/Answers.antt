use Rattle.std.proofs.Common.{Ok, sym, ap, ◌∙◌, rules}
use Rattle.std.specs.Option.{option_map}
use Rattle.reconciling.specs.declared.fault.ReconcileFault.TheVariants as fault
use Rattle.reconciling.specs.Outcomes.{sums_in, unless_fault, discrepancy_in_limit, volume_limit_fault}
use Rattle.reconciling.specs.Volumes.{volume_adjustment, volume_adjustments}
use Rattle.reconciling.proofs.volumes.priced_areas.Goals as goal

pub returns-in-Some : goal.returns-in-Some
unfolding volume_limit_fault
returns-in-Some c =
    let cells = c.args.cells.now in
    let sheet = c.args.sheet.now in
    let lowest = c.write_columns.ensures.answer (discrepancy_in_limit cells sheet) (volume_adjustment (sums_in cells) sheet) (record { each = λ area r said. search rules }) in
    ap (λ o. unless_fault (option_map (λ area. fault.AreaBeyondLimits area) o) (volume_adjustments (sums_in cells) sheet)) (sym c.in-Some.is ∙ lowest)

pub returns : goal.returns
unfolding volume_limit_fault volume_adjustments
returns c =
    let cells = c.args.cells.now in
    let sheet = c.args.sheet.now in
    let lowest = c.write_columns.ensures.answer (discrepancy_in_limit cells sheet) (volume_adjustment (sums_in cells) sheet) (record { each = λ area r said. search rules }) in
    let table = c.write_columns.ensures.written (discrepancy_in_limit cells sheet) (volume_adjustment (sums_in cells) sheet) (record { each = λ area r said. search rules }) c.in_default.is in
    ap Ok table ∙ ap (λ o. unless_fault (option_map (λ area. fault.AreaBeyondLimits area) o) (volume_adjustments (sums_in cells) sheet)) (sym c.in_default.is ∙ lowest)
