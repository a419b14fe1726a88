use Rattle.std.proofs.Common.{◌≡◌, ◌≤◌, pos, ◌*ℤ◌, nat_abs, ap, ◌∙◌, arith, lit<, w64, to_z, of_z}
use Rattle.std.proofs.lemmas.Int.{to_z-of_z}
use Rattle.amounts.specs.Quotients.{quotient_cut}
use Rattle.billing.proofs.Products.{product_fits, machine_product, machine_fits}
use Rattle.ledger.specs.Limits.{max_kwh}
use Rattle.reconciling.specs.declared.sheets.AreaRow.{AreaRow}
use Rattle.reconciling.specs.Sheets.{whole}
use Rattle.reconciling.specs.Volumes.{managers_kwh}
use Rattle.reconciling.proofs.Managers.{managers_le}
use Rattle.reconciling.proofs.Ranged.{row_ranged}
use Rattle.reconciling.proofs.volumes.managers_kwh.Goals as goal
use Rattle.reconciling.proofs.volumes.managers_kwh.Goals.{After-from}

share_le : (c : After-from) → c.get.result.share ≤ whole
share_le c = (row_ranged c.get.result c.get.ensures.in_range).share

-- the share, as the machine has it
share_is : (c : After-from) → of_z w64 c.from.result ≡ c.get.result.share
share_is c = ap (of_z w64) c.from.ensures

pub overflow_mul-discrepancy : goal.overflow_mul-discrepancy
overflow_mul-discrepancy c =
    let d = (goal.at.overflow_mul-discrepancy c).After-from in
    let p = share_is d in
    rw p (machine_fits c.args.discrepancy c.get.result.share max_kwh whole c.ranges.discrepancy c.requires (share_le d) (lit< tt) (lit< tt))

pub returns : goal.returns
unfolding managers_kwh
returns c =
    let d = c.args.discrepancy in
    let from = (goal.at.returns c).After-from in
    let s = c.get.result.share in
    let small = share_le from in
    let product = ap (λ x. to_z w64 (of_z w64 (to_z w64 (of_z w64 d) *ℤ to_z w64 x))) (share_is from) ∙ ap (λ x. to_z w64 (of_z w64 x)) (machine_product d s c.ranges.discrepancy (omega (arith, small)))
    ∙ to_z-of_z w64 (d *ℤ pos s) (product_fits d s max_kwh whole c.requires small (lit< tt)) in
    let value = to_z-of_z w64 c.whole_kwh.result (record { sfits = c.whole_kwh.type_inv }) ∙ c.whole_kwh.ensures ∙ ap (λ x. quotient_cut x whole) product in
    record {
      answer = value ∙ ap (λ (r : AreaRow). managers_kwh d r) c.get.ensures.value;
      bound = omega (arith, ap nat_abs value, managers_le d c.get.result c.get.ensures.in_range, c.requires);
    }
