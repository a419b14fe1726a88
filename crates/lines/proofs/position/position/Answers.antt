use Rattle.std.proofs.Common.{leb, rules, tests, ◌∙◌}
use Rattle.std.proofs.lemmas.Iterator.{YieldsList-from_slice}
use Rattle.std.proofs.lemmas.Iterator.Search.{position_from_yields_List}
use Rattle.lines.proofs.Lookups.{point_or_len}
use Rattle.lines.proofs.position.position.Goals as goal

pub returns-clause-point : goal.returns-clause-point
returns-clause-point g c =
    let at = position_from_yields_List (λ x. leb c.args.wanted (g.L.Line.key x)) _ _ c.position.result c.position.ensures.ran (YieldsList-from_slice c.args.lines.now cc) (λ x b q k. search (rules, tests)) in
    c.unwrap_or.ensures ∙ point_or_len g.L.Line.key c.args.wanted c.args.lines.now c.position.result at
