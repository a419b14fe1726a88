use Rattle.std.proofs.Common.{◌≡◌, length, get_or, pos, refl, ap, ◌∙◌, arith}
use Rattle.amounts.specs.Sums.{int_sum_to}
use Rattle.reconciling.specs.Limits.{max_network}
use Rattle.reconciling.proofs.Machine.{total_fits, total_more, total_within}
use Rattle.reconciling.proofs.signed.total.Goals as goal

pub overflow_add-total : goal.overflow_add-total
overflow_add-total c =
    let i = c.loop-figure.figure-index in
    let xs = c.args.figures.now in
    total_fits (λ k. get_or xs k (pos 0)) i max_network _ (get_or xs i (pos 0)) c.loop-figure.invariant.0 c.loop-figure.invariant.1 refl (c.requires.within i) (omega (arith, c.loop-figure-test.true, c.requires.count))

pub loop-figure-preserved : goal.loop-figure-preserved
loop-figure-preserved c =
    let i = c.loop-figure.figure-index in
    let xs = c.args.figures.now in (
      total_more (λ k. get_or xs k (pos 0)) i max_network _ (get_or xs i (pos 0)) c.loop-figure.invariant.0 c.loop-figure.invariant.1 refl (c.requires.within i) (omega (arith, c.loop-figure-test.true, c.requires.count)),
      omega (arith, total_within (λ k. get_or xs k (pos 0)) i max_network _ (get_or xs i (pos 0)) c.loop-figure.invariant.0 c.loop-figure.invariant.1 refl (c.requires.within i) (omega (arith, c.loop-figure-test.true, c.requires.count))),
    )

pub returns : goal.returns
returns c =
    let xs = c.args.figures.now in
    let end : c.loop-figure.figure-index ≡ length xs = omega (arith, c.loop-figure-test.false, c.loop-figure.auto.figure-index-end) in
    c.loop-figure.invariant.0 ∙ ap (int_sum_to (λ k. get_or xs k (pos 0))) end
