-- The parts follow one another, and a statement has 20 areas by its type.
use Rattle.std.proofs.Common.{◌≡◌, ◌-◌, ◌++◌, length, take, drop, ℤ, refl, ap, ◌∙◌, w64, SFits, rules}
use borrow.Rule.Slice.PartMut.{put_mid}
use Rattle.std.proofs.lemmas.Int.{to_z-of_z}
use Rattle.amounts.specs.Ranges.{areas}
use Rattle.statements.specs.Amounts.{amount_bytes}
use Rattle.statements.proofs.Parts.{parts_written}
use Rattle.statements.proofs.writing.write_parts.Goals as goal

pub returns-clause-after : goal.returns-clause-after
returns-clause-after c =
    let s = c.args.statement.now in
    let twenty : length s.areas ≡ areas = search rules in
    let fits : SFits w64 s.cost = search rules in
    let first = c.write_account.new.tail in
    let second = put_mid 1 (length first - 1) first c.write_areas.new.tail in
    let with_rest = λ (z : ℤ). amount_bytes z ++ drop 8 (take (length second - 1281) (drop 1281 second)) in
    parts_written s twenty c.args.tail.now first c.write_areas.new.tail second c.write_amount.new.tail
    c.write_account.ensures
    c.write_areas.ensures.after
    refl
    (c.write_amount.ensures ∙ ap with_rest (to_z-of_z w64 s.cost fits))
