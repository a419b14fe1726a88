use Rattle.std.proofs.Common.{◌≡◌, true, map, get_or, pos, nat_abs, Some, None, sym, ap, ◌∙◌, arith}
use Rattle.std.specs.List.{range_with_len}
use Rattle.std.proofs.lemmas.List.FromFn.{get_or-map-range_with_len}
use Rattle.std.proofs.lemmas.Bool.{cond-true, cond-false, leb-true}
use Rattle.amounts.specs.Ranges.{accounts, within}
use Rattle.ledger.specs.Limits.{max_kwh}
use Rattle.reconciling.specs.declared.sheets.AreaRow.{AreaRow}
use Rattle.reconciling.specs.Outcomes.{sums_in, discrepancy_in_limit}
use Rattle.reconciling.specs.Sheets.{zero_row, row_at}
use Rattle.reconciling.specs.Volumes.{discrepancy, volume_kwh, priced_adjustment, volume_adjustment}
use Rattle.reconciling.proofs.Areas.{volume_kwh_le}
use Rattle.reconciling.proofs.Checks.{some_if, none_if}
use Rattle.reconciling.proofs.Mapped.{map_counted}
use Rattle.reconciling.proofs.volumes.area_adjustments.Goals as goal
use Rattle.reconciling.proofs.volumes.area_adjustments.Goals.{In_ok-kwh}

-- the kWh of the area are found
found : (c : In_ok-kwh) → (within (discrepancy (sums_in c.args.cells.now) c.at-row.result c.args.area.index) max_kwh ≡ true) × (c.in_ok-kwh.kwh ≡ map (λ account. volume_kwh (sums_in c.args.cells.now) c.at-row.result account c.args.area.index) (range_with_len 0 accounts))
found c = some_if _ c.in_ok-kwh.kwh _ (sym c.in_ok-kwh.was ∙ c.area_kwh.ensures)

pub returns-in_err-kwh : goal.returns-in_err-kwh
unfolding discrepancy_in_limit
returns-in_err-kwh c =
    let bad = none_if (within (discrepancy (sums_in c.args.cells.now) c.at-row.result c.args.area.index) max_kwh) _ (sym c.in_err-kwh.was ∙ c.area_kwh.ensures) in
    c.from_residual.ensures ∙ sym (cond-false (discrepancy_in_limit c.args.cells.now c.args.sheet.now c.args.area.index) _ None (ap (λ (r : AreaRow). within (discrepancy (sums_in c.args.cells.now) r c.args.area.index) max_kwh) (sym (c.at-row.ensures zero_row)) ∙ bad))

pub price_adjustments-requires : goal.price_adjustments-requires
price_adjustments-requires c account l =
    let d = (goal.at.price_adjustments-requires c).In_ok-kwh in
    let is = ap (λ k. get_or k account (pos 0)) (found d).1 ∙ get_or-map-range_with_len (λ a. volume_kwh (sums_in c.args.cells.now) c.at-row.result a c.args.area.index) 0 accounts account account (pos 0) l (omega arith) in
    omega (arith, ap nat_abs is, volume_kwh_le c.args.cells.now c.at-row.result c.args.area.index c.known.ensures (leb-true _ _ (found d).0) account l)

pub returns : goal.returns
unfolding discrepancy_in_limit volume_adjustment
returns c =
    let d = (goal.at.returns c).In_ok-kwh in
    let cells = c.args.cells.now in
    let row = c.at-row.result in
    let at : row ≡ row_at c.args.sheet.now c.args.area.index = c.at-row.ensures zero_row in
    let good = ap (λ (r : AreaRow). within (discrepancy (sums_in cells) r c.args.area.index) max_kwh) (sym at) ∙ (found d).0 in
    let priced = c.price_adjustments.ensures ∙ ap (map (λ k. priced_adjustment k row)) (found d).1 ∙ map_counted (λ k. priced_adjustment k row) (λ account. volume_kwh (sums_in cells) row account c.args.area.index) accounts in
    ap Some (priced ∙ ap (λ (r : AreaRow). map (λ account. priced_adjustment (volume_kwh (sums_in cells) r account c.args.area.index) r) (range_with_len 0 accounts)) at)
    ∙ sym (cond-true (discrepancy_in_limit cells c.args.sheet.now c.args.area.index) _ None good)
