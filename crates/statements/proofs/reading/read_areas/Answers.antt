-- Each area is read where it lies.
use Rattle.std.proofs.Common.{◌≡◌, [], get_or, ap, ◌∙◌, rules}
use Rattle.statements.specs.Layout.{area_at}
use Rattle.statements.proofs.ReadBack.{areas_at_each}
use Rattle.statements.proofs.Chunks.{area_of_chunk}
use Rattle.statements.proofs.reading.read_areas.Goals as goal

pub returns : goal.returns
returns c =
    let bs = c.args.bytes.now in
    areas_at_each bs 0 c.from_fn.result 20 c.from_fn.ensures.items.long (λ k less.
    let h = c.from_fn.ensures.items.at k (area_at bs 0) less in
    let read : get_or c.from_fn.result k (area_at bs 0) ≡ area_at (get_or c.as_chunks.result.0.now k []) 0 = search rules in
    let chunk = ap (λ cs. area_at (get_or cs k []) 0) c.as_chunks.ensures.front ∙ area_of_chunk bs 1280 k c.told-bytes less in
    read ∙ chunk)
