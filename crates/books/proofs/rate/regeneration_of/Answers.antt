use Rattle.std.proofs.Common.{◌≡◌, ◌*◌, ◌≤◌, ◌∙◌, ap₂, arith, rules}
use Rattle.std.proofs.lemmas.Nat.{mul-le}
use Rattle.lines.proofs.Ranges.{category_ranges}
use Rattle.books.specs.Figures.{rounded_quotient, max_rate_consumption, rate_regeneration}
use Rattle.books.proofs.Bounds.{rounded_le, rate_regeneration_le}
use Rattle.books.proofs.rate.regeneration_of.Goals as goal

-- what any 16 bits leave, so that only the value says which of the line's fields is taken
pub rounded_quotient-requires : goal.rounded_quotient-requires
rounded_quotient-requires c = omega (arith, mul-le c.from.result c.from-2.result max_rate_consumption 65535 (omega arith) (omega arith))

pub overflow_cast-result : goal.overflow_cast-result
overflow_cast-result c =
    let product = mul-le c.from.result c.from-2.result max_rate_consumption 65535 (omega arith) (omega arith) in
    let low : rounded_quotient (c.from.result * c.from-2.result) 10000 ≤ 6553500 = rounded_le (c.from.result * c.from-2.result) 10000 6553500 (omega arith) (omega (arith, product)) in
    let is = c.rounded_quotient.ensures in
    search rules

pub returns-clause-value : goal.returns-clause-value
returns-clause-value c =
    let discount : c.from-2.result ≡ c.args.line.now.discount = omega arith in
    c.rounded_quotient.ensures ∙ ap₂ rate_regeneration c.from.ensures discount

pub returns-clause-range : goal.returns-clause-range
returns-clause-range c = omega (arith, returns-clause-value c, rate_regeneration_le c.args.consumption c.args.line.now.discount c.requires (category_ranges c.args.line.now).3)
