use Rattle.std.proofs.Common.{pos, ◌-ℤ◌, get_or, ap, ◌∙◌, w64, to_z, of_z}
use Rattle.std.proofs.lemmas.Int.{to_z-of_z}
use Rattle.amounts.specs.Ranges.{accounts}
use Rattle.amounts.specs.Sums.{int_sum_to}
use Rattle.reconciling.proofs.Discrepancies.{over_all_outcome, delivery_shared}
use Rattle.reconciling.proofs.costs.area_delivery.Goals as goal

pub returns : goal.returns
returns c =
    let z = c.shortfall.result in
    let is = to_z-of_z w64 z (record { sfits = c.shortfall.type_inv }) ∙ c.shortfall.ensures ∙ ap (λ k. pos k -ℤ int_sum_to (λ i. get_or c.for_delivery-billed.result i (pos 0)) accounts) (c.at.ensures 0) in
    c.share_over_all.ensures
    ∙ ap (over_all_outcome (to_z w64 (of_z w64 z))) c.pence.ensures
    ∙ delivery_shared c.args.cells.now c.args.costs.now c.args.area.index (to_z w64 (of_z w64 z)) c.for_delivery-billed.result c.for_delivery-billed.ensures is
