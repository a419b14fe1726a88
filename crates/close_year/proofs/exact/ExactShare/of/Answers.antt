-- Quotient and remainder of the product.
use Rattle.std.proofs.Common.{◌≡◌, ◌+◌, ◌*◌, ◌/◌, ◌%◌, nat_abs, ap, ◌∙◌, ap₂, mod-lt, div-add-mod', arith, w64}
use Rattle.std.proofs.lemmas.Int.{to_z-of_z}
use Rattle.close_year.proofs.exact.ExactShare.of.Goals as goal

pub returns : goal.returns
returns c =
    let p = c.in_ok-product.product in
    let t = c.args.total.value in
    let d = c.get-divisor.result in
    let is : d ≡ t = c.get-divisor.ensures in
    let same = to_z-of_z w64 c.args.amount c.ranges.amount in
    let product : p ≡ nat_abs c.args.amount * c.args.weight =
    c.in_ok-product.ensures.1 ∙ ap (λ a. a * c.args.weight) (c.unsigned_abs.ensures.value ∙ ap nat_abs same) in
    (ap₂ (λ x y. p / x * t + p % y) is is ∙ div-add-mod' p t ∙ product, omega (arith, ap (λ x. p % x) is, mod-lt p c.args.total.positive), is, same)
