use Rattle.std.proofs.Common.{map, sym, ap, ◌∙◌, arith, w64}
use Rattle.std.proofs.lemmas.List.{length-map}
use Rattle.std.proofs.lemmas.Int.{to_z-of_z}
use Rattle.amounts.specs.Ranges.{within}
use Rattle.sharing.specs.Limits.{max_amount}
use Rattle.sharing.proofs.Lines.{limit_is, figures_on}
use Rattle.sharing.proofs.checks.figures_in_limit.Goals as goal

pub returns-then-lines-le-MAX_LINES : goal.returns-then-lines-le-MAX_LINES
returns-then-lines-le-MAX_LINES g c =
    let ls = c.args.lines.now in
    let f = g.L.Weighted.weight in
    let same = ap (λ z. within z max_amount) (sym (to_z-of_z w64 c.args.amount c.ranges.amount)) ∙ sym c.within.ensures in
    c.weights_in_limit.ensures ∙ limit_is f ls ∙ sym (figures_on c.args.amount (map f ls) (same ∙ c.if-lines-le-MAX_LINES.true.0) (omega (arith, length-map ls f, c.if-lines-le-MAX_LINES.true.1)))
