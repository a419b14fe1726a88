use Rattle.std.proofs.Common.{◌≡◌, ◌+◌, map, length, take, set, sym, ap, ◌∙◌, length-take-le, take_at, arith}
use Rattle.std.specs.List.{range_with_len}
use Rattle.std.proofs.lemmas.List.{length-map}
use Rattle.sharing.specs.Shares.{counting_weight, weight_at}
use Rattle.sharing.proofs.Totals.{listed}
use Rattle.sharing.proofs.Written.{filled_more, filled_all}
use Rattle.sharing.proofs.weights.copy_weights.Goals as goal

pub loop-index-preserved : goal.loop-index-preserved
loop-index-preserved g c =
    let ws = map counting_weight (map g.L.Weighted.weight c.args.lines.now) in
    let i = c.loop-index.index in
    ap (λ v. take (i + 1) (set c.loop-index.weight-items i v)) c.weight_at.ensures ∙ filled_more (weight_at ws) c.loop-index.weight-items i (omega arith) c.loop-index.invariant

pub returns : goal.returns
returns g c =
    let ls = c.args.lines.now in
    let ws = map counting_weight (map g.L.Weighted.weight ls) in
    let items = c.loop-index.weight-items in
    let same : length ws ≡ length ls = length-map (map g.L.Weighted.weight ls) counting_weight ∙ length-map ls g.L.Weighted.weight in
    let long : length items ≡ length ls = c.loop-index.auto.weight-items ∙ length-take-le (length ls) c.args.weights.now c.requires in
    take_at items _ (length ls) long
    ∙ filled_all (weight_at ws) items (length ls) c.loop-index.index long (omega arith) c.loop-index.invariant
    ∙ sym (listed ws ∙ ap (λ n. map (weight_at ws) (range_with_len 0 n)) same)
