-- The bytes of the amount, lowest first.
use Rattle.std.proofs.Common.{◌∙◌, w64, of_z}
use Rattle.std.proofs.lemmas.Int.{to_z-of_z}
use Rattle.statements.specs.Amounts.{amount_bytes}
use Rattle.statements.proofs.Bytes.{low_bytes_8}
use Rattle.statements.proofs.writing.bytes_of.Goals as goal

pub returns : goal.returns
unfolding amount_bytes
returns c =
    let same = to_z-of_z w64 c.args.amount c.ranges.amount in
    let bytes = simp same at c.to_le_bytes.ensures in
    bytes ∙ low_bytes_8 (of_z w64 c.args.amount)
