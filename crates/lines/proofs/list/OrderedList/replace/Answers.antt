use Rattle.std.proofs.Common.{◌≡◌, ◌<◌, true, is_some, set, refl, ap, ◌∙◌, arith, rules}
use lib.Seq.{take-set-lt}
use Rattle.std.proofs.lemmas.List.{length-set, drop-set-lt}
use Rattle.lines.specs.Contents.{contents, memory}
use Rattle.lines.specs.Lookups.{lookup, insertion_point}
use Rattle.lines.proofs.Calls.{found_at, replaces, replaced_rising, replaced_finds}
use Rattle.lines.proofs.list.OrderedList.replace.Goals as goal

pub bounds-self-at : goal.bounds-self-at
bounds-self-at g c =
    let key = g.L.Line.key in
    let line = c.args.line in
    let xs = contents c.args.self.now in
    let there : is_some (lookup key (key line) xs) ≡ true = search rules in
    let point : c.position-at.result ≡ insertion_point key (key line) xs = search rules in
    omega (arith, point, (found_at key (key line) (memory c.args.self.now) c.args.self.now.count there).1)

pub returns : goal.returns
returns g c =
    let key = g.L.Line.key in
    let line = c.args.line in
    let lines = memory c.args.self.now in
    let n = c.args.self.now.count in
    let xs = contents c.args.self.now in
    let there : is_some (lookup key (key line) xs) ≡ true = search rules in
    let point : c.position-at.result ≡ insertion_point key (key line) xs = search rules in
    let at : c.position-at.result < n = omega (arith, point, (found_at key (key line) lines n there).0) in
    let is = take-set-lt n lines c.position-at.result line at ∙ ap (λ p. set xs p line) point in
    record {
      answer = replaces key line xs there;
      after = is;
      finds = replaced_finds key line xs there _ is;
      rising = replaced_rising key line xs there _ is;
      unused = drop-set-lt n lines c.position-at.result line at;
      room = length-set lines c.position-at.result line;
      refused = λ no. cc;
      lent = refl;
    }
