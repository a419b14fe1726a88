use Rattle.std.proofs.Common.{◌≡◌, ℕ, ◌*◌, ◌<◌, ◌≤◌, ◌*ℤ◌, nat_abs, ap, ◌∙◌, ap₂, arith, w64}
use Rattle.std.proofs.lemmas.Nat.{mul-le}
use Rattle.std.proofs.lemmas.Int.{to_z-of_z}
use Rattle.amounts.specs.Quotients.{quotient_rounded}
use Rattle.billing.specs.Limits.{max_slot_value}
use Rattle.billing.specs.Filling.{hauled_value}
use Rattle.books.proofs.Bounds.{rounded_le}
use Rattle.billing.proofs.Products.{machine_natural}
use Rattle.billing.proofs.filling.hauled_value.Goals as goal

product_within : (v w : ℕ) → v ≤ 2000000 → w ≤ 10000 → v * w ≤ 20000000000
product_within v w a b = mul-le v w 2000000 10000 a b

value : (c : goal.After-unsigned_abs) → c.unsigned_abs.result ≡ hauled_value c.args.value c.args.weight c.args.locomotives
value c =
    let v = c.args.value in
    let w = c.args.weight in
    let small = product_within v w c.requires.value c.requires.load.weight in
    let factors = ap₂ ◌*ℤ◌ (machine_natural c.from-2.result v c.from-2.ensures (omega (arith, c.requires.value))) (machine_natural c.from-3.result w c.from-3.ensures (omega (arith, c.requires.load.weight))) in
    let product = machine_natural _ (v * w) factors (omega (arith, small)) in
    let divisor = c.in-Some.ensures.value ∙ ap₂ ◌*◌ c.get.ensures c.from.ensures in
    c.unsigned_abs.ensures.value
    ∙ ap nat_abs (to_z-of_z w64 c.rounded.result (record { sfits = c.rounded.type_inv }) ∙ c.rounded.ensures.value ∙ ap₂ (λ x d. quotient_rounded x d) product divisor)

pub returns-clause-value : goal.returns-clause-value
returns-clause-value c = value c

pub returns-clause-bound : goal.returns-clause-bound
returns-clause-bound c =
    let v = c.args.value in
    let w = c.args.weight in
    let l = c.args.locomotives in
    let some : 0 < 1000 * l = omega (arith, c.requires.load.some_locomotives) in
    let small = product_within v w c.requires.value c.requires.load.weight in
    omega (arith, value c, rounded_le (v * w) (1000 * l) max_slot_value some (omega (arith, small, c.requires.load.some_locomotives)))
