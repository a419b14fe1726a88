use Rattle.std.proofs.Common.{◌≡◌, false, List, is_some, ap, ◌∙◌, rules}
use Rattle.std.specs.List.{insert}
use Rattle.lines.specs.Contents.{contents, memory}
use Rattle.lines.specs.Lookups.{lookup, insertion_point}
use Rattle.lines.proofs.Calls.{take_count, added_rising, added_finds}
use Rattle.lines.proofs.list.OrderedList.add.Goals as goal

pub returns-clause-finds : goal.returns-clause-finds
returns-clause-finds g c =
    let key = g.L.Line.key in
    let line = c.args.line in
    let xs = contents c.args.self.now in
    let absent : is_some (lookup key (key line) xs) ≡ false = search rules in
    let point : c.position-to.result ≡ insertion_point key (key line) xs = search rules in
    let is = c.insert.ensures.front
    ∙ ap (λ (ys : List g.row.L.Denot). insert ys c.position-to.result line) (take_count (memory c.args.self.now) c.args.self.now.count c.count-count.result c.count-count.ensures.count)
    ∙ ap (λ p. insert xs p line) point in
    added_finds key line xs absent _ is

pub returns-clause-rising : goal.returns-clause-rising
returns-clause-rising g c =
    let key = g.L.Line.key in
    let line = c.args.line in
    let xs = contents c.args.self.now in
    let absent : is_some (lookup key (key line) xs) ≡ false = search rules in
    let point : c.position-to.result ≡ insertion_point key (key line) xs = search rules in
    let is = c.insert.ensures.front
    ∙ ap (λ (ys : List g.row.L.Denot). insert ys c.position-to.result line) (take_count (memory c.args.self.now) c.args.self.now.count c.count-count.result c.count-count.ensures.count)
    ∙ ap (λ p. insert xs p line) point in
    added_rising key line xs absent _ is
