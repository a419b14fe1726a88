use Rattle.std.proofs.Common.{cond, map, ℤ, ◌-ℤ◌, nat_abs, Some, None, sym, ap, ◌∙◌, ap₂, arith, lit<, w64, to_z, of_z}
use Rattle.std.specs.List.{range_with_len}
use Rattle.std.proofs.lemmas.Int.{to_z-of_z}
use Rattle.std.proofs.lemmas.Bool.{cond-true, leb-true}
use Rattle.amounts.specs.Ranges.{accounts, within}
use Rattle.ledger.specs.Limits.{max_kwh}
use Rattle.sharing.specs.Limits.{figures_in_limit}
use Rattle.reconciling.specs.Outcomes.{sums_in}
use Rattle.reconciling.specs.Sharing.{that_count, over_operators}
use Rattle.reconciling.specs.Volumes.{discrepancy, managers_kwh, operator_weights, adjusted_kwh, volume_kwh}
use Rattle.reconciling.proofs.Additions.{fits_within}
use Rattle.reconciling.proofs.Areas.{figures_fit}
use Rattle.reconciling.proofs.Managers.{rest_le}
use Rattle.reconciling.proofs.volumes.area_kwh.Goals as goal

pub returns : goal.returns
unfolding volume_kwh adjusted_kwh
returns c =
    let cells = c.args.cells.now in
    let row = c.args.row.now in
    let d = discrepancy (sums_in cells) row c.args.area.index in
    let m = managers_kwh d row in
    let ws = operator_weights (sums_in cells) c.args.area.index in
    let is_d = to_z-of_z w64 c.discrepancy_of-discrepancy.result (record { sfits = c.discrepancy_of-discrepancy.type_inv }) ∙ c.discrepancy_of-discrepancy.ensures in
    let is_m = to_z-of_z w64 c.managers_kwh-managers.result (record { sfits = c.managers_kwh-managers.type_inv }) ∙ c.managers_kwh-managers.ensures.answer ∙ ap (λ x. managers_kwh x row) is_d in
    let good = ap (λ x. within x max_kwh) (sym is_d) ∙ sym c.if-not-within.ensures in
    let small = leb-true (nat_abs d) max_kwh good in
    let left = rest_le d row c.known-2.ensures in
    let is_rest = ap₂ (λ x y. to_z w64 (of_z w64 (x -ℤ y))) is_d is_m ∙ to_z-of_z w64 (d -ℤ m) (fits_within (d -ℤ m) max_kwh (omega (arith, left, small)) (lit< tt)) in
    c.share_over_operators.ensures
    ∙ ap₂ (λ (a b : ℤ). cond (figures_in_limit b ws) (Some (map (over_operators a b (that_count ws)) (range_with_len 0 accounts))) None) is_m is_rest
    ∙ cond-true (figures_in_limit (d -ℤ m) ws) _ None (figures_fit cells row c.args.area.index c.known-2.ensures c.known.ensures small)
    ∙ sym (cond-true (within d max_kwh) (Some (map (λ account. volume_kwh (sums_in cells) row account c.args.area.index) (range_with_len 0 accounts))) None good)
