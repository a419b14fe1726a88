use Rattle.std.proofs.Common.{Err, sym, ap, ◌∙◌, subst, rules}
use Rattle.std.proofs.lemmas.Result.{err_from_is_err_and}
use Rattle.ledger.specs.Blocks.{block}
use Rattle.ledger.proofs.Soundness.{sound_facts}
use Rattle.year.specs.Promises.{ReconcilesCost}
use Rattle.year.proofs.Handed.{was_ok, was_err}
use Rattle.year.proofs.Reconciliations.{cost_sound, cost_settles, cost_refuses, costs_are_fair}
use Rattle.year.proofs.Settles.{year_settles}
use Rattle.year.proofs.Steps.{cost_extends}
use Rattle.year.proofs.states.VolumeSettledYear.reconcile_cost.Goals as goal

pub returns-in_err-table-clause-promise : goal.returns-in_err-table-clause-promise
returns-in_err-table-clause-promise c =
    let b = block c.args.cells.now c.args.accounts.now in
    let sheet = c.args.costs.now in
    let p = err_from_is_err_and c.from_residual.result c.from_residual.ensures.1 in
    let h = was_err c.args.self c.cost_adjustments.result c.map_err.result _ (λ e d made. search rules) c.in_err-table.field-0.0 c.map_err.ensures.cases c.in_err-table.was in
    subst (λ k. ReconcilesCost c.args.self b sheet.delivery.now sheet.energy k b) (sym (p.1 ∙ ap Err (p.2 ∙ h.0)))
    (cost_refuses c.args.self b sheet.delivery.now sheet.energy c.in_err-table.field-0.0.1 (h.1 ∙ c.cost_adjustments.ensures.answer))

pub set_costs-requires : goal.set_costs-requires
set_costs-requires c =
    let b = block c.args.cells.now c.args.accounts.now in
    let is = was_ok c.cost_adjustments.result c.map_err.result _ c.in_ok-table.table c.map_err.ensures.cases c.in_ok-table.was in
    (sound_facts b (cost_sound b c.args.costs.now.delivery.now c.args.costs.now.energy c.in_ok-table.table (is ∙ c.cost_adjustments.ensures.answer))).cells.count

pub set_accounts-requires : goal.set_accounts-requires
set_accounts-requires c =
    let b = block c.args.cells.now c.args.accounts.now in
    let is = was_ok c.cost_adjustments.result c.map_err.result _ c.in_ok-table.table c.map_err.ensures.cases c.in_ok-table.was in
    (sound_facts b (cost_sound b c.args.costs.now.delivery.now c.args.costs.now.energy c.in_ok-table.table (is ∙ c.cost_adjustments.ensures.answer))).count

pub returns : goal.returns
returns c =
    let is = was_ok c.cost_adjustments.result c.map_err.result _ c.in_ok-table.table c.map_err.ensures.cases c.in_ok-table.was in
    let p = cost_settles c.args.self (block c.args.cells.now c.args.accounts.now) c.args.costs.now.delivery.now c.args.costs.now.energy c.in_ok-table.table (is ∙ c.cost_adjustments.ensures.answer) c.set_costs.new.cells c.set_costs.ensures c.set_accounts.new.accounts c.set_accounts.ensures in
    record { promise = p; fair = costs_are_fair _ p; run = cost_extends _ p; year_settles = year_settles _ p }
