use Rattle.std.proofs.Common.{◌-◌, ap, ◌∙◌, arith}
use Rattle.sharing.proofs.Totals.{quotients_fit, left_over}
use Rattle.sharing.proofs.shared.Shared.leftover.Goals as goal

pub claimed-requires : goal.claimed-requires
claimed-requires c =
    let s = c.args.self.now in
    omega (arith, quotients_fit s.size s.weights.now c.args.claims.now c.requires (omega (arith, s.whole, s.total.positive)), s.small)

pub overflow_sub-result : goal.overflow_sub-result
overflow_sub-result c =
    let s = c.args.self.now in
    omega (arith, quotients_fit s.size s.weights.now c.args.claims.now c.requires (omega (arith, s.whole, s.total.positive)), c.claimed.ensures)

pub returns : goal.returns
returns c =
    let s = c.args.self.now in
    ap (λ x. s.size - x) c.claimed.ensures ∙ left_over s.size s.weights.now c.args.claims.now c.requires
