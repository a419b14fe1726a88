-- Each amount is read where it lies.
use Rattle.std.proofs.Common.{◌≡◌, [], get_or, ap, ◌∙◌, pos, rules}
use Rattle.statements.specs.Amounts.{amount_at}
use Rattle.statements.proofs.Chunks.{amount_of_chunk, area_of_amounts}
use Rattle.statements.proofs.reading.read_area.Goals as goal

pub returns : goal.returns
returns c =
    let bs = c.args.bytes.now in
    area_of_amounts bs c.from.result c.from_fn.result c.from.ensures (λ k less.
    let h = c.from_fn.ensures.items.at k (pos 0) less in
    let read : get_or c.from_fn.result k (pos 0) ≡ amount_at (get_or c.as_chunks.result.0.now k []) 0 = search rules in
    let chunk = ap (λ cs. amount_at (get_or cs k []) 0) c.as_chunks.ensures.front ∙ amount_of_chunk bs 64 k c.told-bytes less in
    read ∙ chunk)
