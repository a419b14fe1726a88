use Rattle.std.proofs.Common.{◌≡◌, List, IfOk, Some, None, Err, Option, sym, refl, ap, ◌∙◌, subst}
use Rattle.std.proofs.lemmas.Result.{err_from_is_err_and, IfOk-from_err}
use Rattle.ledger.specs.Blocks.{Block, block}
use Rattle.ledger.specs.Limits.{sound}
use Rattle.reconciling.specs.declared.fault.ReconcileFault.{ReconcileFault}
use Rattle.reconciling.specs.declared.fault.ReconcileFault.TheVariants as fault
use Rattle.reconciling.specs.declared.sheets.AreaRow.{AreaRow}
use Rattle.reconciling.specs.Laws.{FairVolumes}
use Rattle.reconciling.specs.Outcomes.{sums_in, or_then, fault_unless, unless_fault, area_sheet_fault, volume_limit_fault, volume_fault, volume_outcome}
use Rattle.reconciling.specs.Volumes.{volume_adjustments}
use Rattle.reconciling.proofs.FairTables.{fair_volumes}
use Rattle.reconciling.proofs.Checks.{fault_if, no_fault_if, made_unless, value_if}
use Rattle.reconciling.proofs.volumes.volume_adjustments.Goals as goal

-- ---- the outcome, by the checks in their order
module _ (b : Block) (sheet : List AreaRow) where
  by_checks : (whole rows : Option ReconcileFault) → fault_unless (sound b) fault.Block ≡ whole → area_sheet_fault sheet ≡ rows → volume_outcome b sheet ≡ unless_fault (or_then whole (or_then rows (volume_limit_fault b.cells sheet))) (volume_adjustments (sums_in b.cells) sheet)
  unfolding volume_outcome volume_fault
  by_checks whole rows p q = λ i. unless_fault (or_then (p i) (or_then (q i) (volume_limit_fault b.cells sheet))) (volume_adjustments (sums_in b.cells) sheet)

pub returns-in_err-cells : goal.returns-in_err-cells
returns-in_err-cells c =
    let b = block c.args.cells.now c.args.accounts.now in
    let sheet = c.args.sheet.now in
    let f = c.in_err-cells.field-0.0 in
    let p = err_from_is_err_and c.from_residual.result c.from_residual.ensures.1 in
    let bad = fault_if (fault_unless (sound b) fault.Block) b.cells f c.in_err-cells.ensures in
    record {
      answer = p.1 ∙ ap Err p.2 ∙ sym (by_checks b sheet (Some f) (area_sheet_fault sheet) bad refl);
      fair = IfOk-from_err c.from_residual.result (FairVolumes b.cells sheet) c.from_residual.ensures.0;
    }

pub returns-in_err-sheet : goal.returns-in_err-sheet
returns-in_err-sheet c =
    let b = block c.args.cells.now c.args.accounts.now in
    let sheet = c.args.sheet.now in
    let f = c.in_err-sheet.field-0.0 in
    let p = err_from_is_err_and c.from_residual-in_err-sheet.result c.from_residual-in_err-sheet.ensures.1 in
    let good = no_fault_if (fault_unless (sound b) fault.Block) b.cells c.in_ok-cells.cells c.in_ok-cells.ensures in
    let bad = fault_if (area_sheet_fault sheet) sheet f c.in_err-sheet.ensures.answer in
    record {
      answer = p.1 ∙ ap Err p.2 ∙ sym (by_checks b sheet None (Some f) good bad);
      fair = IfOk-from_err c.from_residual-in_err-sheet.result (FairVolumes b.cells sheet) c.from_residual-in_err-sheet.ensures.0;
    }

pub returns : goal.returns
returns c =
    let b = block c.args.cells.now c.args.accounts.now in
    let sheet = c.args.sheet.now in
    let good = no_fault_if (fault_unless (sound b) fault.Block) b.cells c.in_ok-cells.cells c.in_ok-cells.ensures in
    let cells = value_if (fault_unless (sound b) fault.Block) b.cells c.in_ok-cells.cells c.in_ok-cells.ensures in
    let right = no_fault_if (area_sheet_fault sheet) sheet c.in_ok-sheet.sheet c.in_ok-sheet.ensures.answer in
    let rows = value_if (area_sheet_fault sheet) sheet c.in_ok-sheet.sheet c.in_ok-sheet.ensures.answer in
    let made : c.priced_areas.result ≡ unless_fault (volume_limit_fault b.cells sheet) (volume_adjustments (sums_in b.cells) sheet) = c.priced_areas.ensures ∙ (λ i. unless_fault (volume_limit_fault (cells i) (rows i)) (volume_adjustments (sums_in (cells i)) (rows i))) in
    record {
      answer = made ∙ sym (by_checks b sheet None None good right);
      fair = subst (λ r. IfOk r (FairVolumes b.cells sheet)) (sym made) (made_unless (volume_limit_fault b.cells sheet) (volume_adjustments (sums_in b.cells) sheet) (FairVolumes b.cells sheet) (fair_volumes b.cells sheet));
    }
