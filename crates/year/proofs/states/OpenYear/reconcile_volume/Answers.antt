use Rattle.std.proofs.Common.{Err, sym, ap, ◌∙◌, subst, rules}
use Rattle.std.proofs.lemmas.Result.{err_from_is_err_and}
use Rattle.ledger.specs.Blocks.{block}
use Rattle.ledger.proofs.Soundness.{sound_facts}
use Rattle.year.specs.Promises.{ReconcilesVolume}
use Rattle.year.proofs.Handed.{was_ok, was_err}
use Rattle.year.proofs.Reconciliations.{volume_sound, volume_settles, volume_refuses, volumes_are_fair}
use Rattle.year.proofs.Steps.{volume_extends}
use Rattle.year.proofs.states.OpenYear.reconcile_volume.Goals as goal

pub returns-in_err-table-clause-promise : goal.returns-in_err-table-clause-promise
returns-in_err-table-clause-promise c =
    let b = block c.args.cells.now c.args.accounts.now in
    let p = err_from_is_err_and c.from_residual.result c.from_residual.ensures.1 in
    let h = was_err c.args.self c.volume_adjustments.result c.map_err.result _ (λ e d made. search rules) c.in_err-table.field-0.0 c.map_err.ensures.cases c.in_err-table.was in
    subst (λ k. ReconcilesVolume c.args.self b c.args.sheet.now k b) (sym (p.1 ∙ ap Err (p.2 ∙ h.0)))
    (volume_refuses c.args.self b c.args.sheet.now c.in_err-table.field-0.0.1 (h.1 ∙ c.volume_adjustments.ensures.answer))

pub set_volumes-requires : goal.set_volumes-requires
set_volumes-requires c =
    let b = block c.args.cells.now c.args.accounts.now in
    let is = was_ok c.volume_adjustments.result c.map_err.result _ c.in_ok-table.table c.map_err.ensures.cases c.in_ok-table.was in
    (sound_facts b (volume_sound b c.args.sheet.now c.in_ok-table.table (is ∙ c.volume_adjustments.ensures.answer))).cells.count

pub returns : goal.returns
returns c =
    let is = was_ok c.volume_adjustments.result c.map_err.result _ c.in_ok-table.table c.map_err.ensures.cases c.in_ok-table.was in
    let p = volume_settles c.args.self (block c.args.cells.now c.args.accounts.now) c.args.sheet.now c.in_ok-table.table (is ∙ c.volume_adjustments.ensures.answer) c.set_volumes.new.cells c.set_volumes.ensures in
    record { promise = p; fair = volumes_are_fair _ p; run = volume_extends _ p }
