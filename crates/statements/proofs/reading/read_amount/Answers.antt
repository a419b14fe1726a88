-- The eight bytes make the amount.
use Rattle.std.proofs.Common.{sym, ap, ◌∙◌, w64, to_z, rules}
use Rattle.std.proofs.lemmas.Int.{to_z-of_z}
use Rattle.std.proofs.lemmas.List.{take_all}
use Rattle.statements.specs.Amounts.{number_of, amount_at}
use Rattle.statements.proofs.Bytes.{number_of_8}
use Rattle.statements.proofs.reading.read_amount.Goals as goal

pub returns : goal.returns
unfolding amount_at
returns c =
    let bs = c.args.bytes.now in
    to_z-of_z w64 c.from_le_bytes.result (search rules)
    ∙ c.from_le_bytes.ensures
    ∙ ap (to_z w64) (number_of_8 bs c.told-bytes ∙ ap number_of (sym (take_all 8 bs (search rules))))
