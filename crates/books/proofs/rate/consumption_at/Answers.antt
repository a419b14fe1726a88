use Rattle.std.proofs.Common.{◌≡◌, ◌≤◌, ◌∙◌, ap₂, arith, rules}
use Rattle.std.proofs.lemmas.Nat.{mul-le}
use Rattle.lines.specs.Limits.{max_rate}
use Rattle.books.specs.Figures.{max_speed, max_rate_consumption, rate_consumption}
use Rattle.books.proofs.Bounds.{rate_consumption_le}
use Rattle.books.proofs.rate.consumption_at.Goals as goal

pub rounded_quotient-requires : goal.rounded_quotient-requires
rounded_quotient-requires c = omega (arith, mul-le c.from.result c.from-2.result max_rate max_speed (omega arith) (omega arith))

pub overflow_cast-result : goal.overflow_cast-result
overflow_cast-result c =
    let low : rate_consumption c.from.result c.from-2.result ≤ max_rate_consumption = rate_consumption_le c.from.result c.from-2.result (omega arith) (omega arith) in
    let is = c.rounded_quotient.ensures in
    search rules

pub returns : goal.returns
returns c =
    let rate = c.args.line.now.rate in
    let speed = c.args.speed.value in
    let is : c.rounded_quotient.result ≡ rate_consumption rate speed = c.rounded_quotient.ensures ∙ ap₂ rate_consumption (c.from.ensures ∙ c.rate.ensures.value) (c.from-2.ensures ∙ c.get.ensures.value) in
    record { value = is; range = omega (arith, is, c.rate.ensures, c.get.ensures, rate_consumption_le rate speed (omega (arith, c.rate.ensures)) (omega (arith, c.get.ensures))) }
