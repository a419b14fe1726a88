use Rattle.std.proofs.Common.{ap, sym, ◌∙◌, subst}
use Rattle.lines.specs.Contents.{contents}
use Rattle.lines.specs.Lookups.{Rising, lookup}
use Rattle.lines.specs.Laws.{LineOf}
use Rattle.lines.proofs.Lookups.{line_of_key}
use Rattle.lines.proofs.list.OrderedList.find.Goals as goal

pub returns-clause-law : goal.returns-clause-law
returns-clause-law g c =
    let key = g.L.Line.key in
    let xs = contents c.args.self.now in
    subst (LineOf key c.args.wanted (Rising key xs) xs) (sym (c.line_with_key.ensures ∙ ap (lookup key c.args.wanted) c.used.ensures)) (line_of_key key c.args.wanted xs)
