-- One more bill.
use Rattle.std.proofs.Common.{map, get_or, pos, ◌+ℤ◌, sym, ◌∙◌, ap₂, w64, SFits, rules}
use Rattle.std.proofs.lemmas.List.{get_or-map}
use Rattle.std.proofs.lemmas.Int.{to_z-of_z}
use Rattle.amounts.proofs.Sums.{int_sum_to_more}
use Rattle.sharing.specs.declared.line.AccountQuantity.{AccountQuantity}
use Rattle.sharing.specs.declared.quantity.Pence.{Pence}
use Rattle.close_year.specs.Bills.{pence_of}
use Rattle.close_year.proofs.reconcile.total_billed.Goals as goal

pub loop-bill-preserved : goal.loop-bill-preserved
loop-bill-preserved c =
    let bs = c.args.bills.now in
    let i = c.loop-bill.bill-index in
    let none : AccountQuantity Pence = record { account = 0; quantity = record { 0 = pos 0 } } in
    let one : SFits w64 (get_or bs i none).quantity.0 = search rules in
    let sum : SFits w64 c.in_ok-total.total = search rules in
    to_z-of_z w64 c.in_ok-total.total sum ∙ c.in_ok-total.ensures.1
    ∙ ap₂ ◌+ℤ◌ c.loop-bill.invariant (to_z-of_z w64 (get_or bs i none).quantity.0 one ∙ sym (get_or-map pence_of bs i none (pos 0) c.loop-bill-test.true))
    ∙ sym (int_sum_to_more (λ k. get_or (map pence_of bs) k (pos 0)) i)
