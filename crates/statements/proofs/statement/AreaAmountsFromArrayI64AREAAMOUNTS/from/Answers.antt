-- Eight amounts are those of the area that they make.
use Rattle.std.proofs.Common.{get_or, pos, w64, SFits, rules}
use Rattle.std.proofs.lemmas.Int.{to_z-of_z}
use Rattle.statements.proofs.Bytes.{eight_amounts}
use Rattle.statements.proofs.statement.AreaAmountsFromArrayI64AREAAMOUNTS.from.Goals as goal

pub returns : goal.returns
returns c =
    let xs = c.args.amounts in
    let f0 : SFits w64 (get_or xs 0 (pos 0)) = search rules in
    let f1 : SFits w64 (get_or xs 1 (pos 0)) = search rules in
    let f2 : SFits w64 (get_or xs 2 (pos 0)) = search rules in
    let f3 : SFits w64 (get_or xs 3 (pos 0)) = search rules in
    let f4 : SFits w64 (get_or xs 4 (pos 0)) = search rules in
    let f5 : SFits w64 (get_or xs 5 (pos 0)) = search rules in
    let f6 : SFits w64 (get_or xs 6 (pos 0)) = search rules in
    let f7 : SFits w64 (get_or xs 7 (pos 0)) = search rules in
    simp to_z-of_z (eight_amounts xs (search rules))
