use Rattle.std.proofs.Common.{Err, sym, ap, ◌∙◌, subst, rules}
use Rattle.std.proofs.lemmas.Result.{err_from_is_err_and}
use Rattle.billing.specs.Tables.{sources_of}
use Rattle.ledger.specs.Blocks.{block}
use Rattle.year.proofs.Handed.{was_ok}
use Rattle.year.specs.Steps.{VolumeExtends}
use Rattle.closing.specs.Closings.{Closes}
use Rattle.closing.proofs.Ends.{mapped, volume_of, cost_of, volume_ends, cost_ends}
use Rattle.closing.proofs.close.Goals as goal

pub returns-in_err-year-2 : goal.returns-in_err-year-2
returns-in_err-year-2 g c =
    let m = sources_of g.T.TariffBook.prices g.I.InfillBook.values c.args.tables.now in
    let before = block c.args.cells.now c.args.accounts.now in
    let sheet = c.args.costs.now in
    let p = err_from_is_err_and c.from_residual-in_err-year-2.result c.from_residual-in_err-year-2.ensures.1 in
    let r = c.reconcile_volume.ensures in
    subst (λ k. Closes m c.args.batch.now c.args.sheet.now sheet.delivery.now sheet.energy before k (block c.reconcile_volume.new.cells c.open.new.accounts)) (sym (p.1 ∙ ap Err p.2))
    (volume_ends sheet.delivery.now sheet.energy before c.reconcile_volume.result c.map_err-2.result c.in_err-year-2.field-0.0 (mapped volume_of c.reconcile_volume.result c.map_err-2.result _ (λ e d made. search rules) c.map_err-2.ensures.cases) c.in_err-year-2.was c.post_all-year.ensures r.promise r.run)

pub returns : goal.returns
returns g c =
    let sheet = c.args.costs.now in
    let before = block c.args.cells.now c.args.accounts.now in
    let volume = c.reconcile_volume.ensures.run in
    let settled = sym (was_ok c.reconcile_volume.result c.map_err-2.result _ c.in_ok-year-2.year c.map_err-2.ensures.cases c.in_ok-year-2.was) in
    let r = c.reconcile_cost.ensures in
    cost_ends sheet.delivery.now sheet.energy before c.reconcile_cost.result c.map_err-3.result (mapped cost_of c.reconcile_cost.result c.map_err-3.result _ (λ e d made. search rules) c.map_err-3.ensures.cases) c.post_all-year.ensures
    (subst (λ k. VolumeExtends c.post_all-year.result (block c.post_all-year.new.cells c.open.new.accounts) c.args.sheet.now k (block c.reconcile_volume.new.cells c.open.new.accounts)) settled volume) r.promise r.run r.year_settles
