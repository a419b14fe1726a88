use Rattle.std.proofs.Common.{◌≡◌, ◌+◌, ◌-◌, ◌*◌, ◌≤◌, sum, sym, ap, ◌∙◌, subst, ap₂, arith, rules}
use Rattle.std.specs.Option.{option_map}
use Rattle.records.specs.Blocks.{described_block}
use Rattle.records.specs.Laws.{BlockRanged}
use Rattle.billing.specs.Filling.{Whole, filled}
use Rattle.billing.specs.Limits.{max_net}
use Rattle.billing.proofs.Sums.{filled_none, count_within, filled_block, filled_bound}
use Rattle.billing.proofs.filling.total_filled.Goals as goal

pub overflow_sub-missing : goal.overflow_sub-missing
overflow_sub-missing c =
    let same = ap (option_map described_block) c.in-Some.is in
    let within = count_within (described_block c.in-Some.block) c.args.slots c.args.fill c.requires.slots (subst (BlockRanged c.args.slots) same c.requires.ranged) (subst Whole same c.requires.whole) in
    omega (arith, c.from-in-Some.ensures, c.from-in-Some-2.ensures, c.count.ensures.below, within)

-- what is answered, and that it is within its bound
answered : (c : goal.After-total) → let x = c.total.result + (c.from-in-Some.result - c.from-in-Some-2.result) * c.args.fill in (x ≡ sum (filled (option_map described_block c.args.block) c.args.slots c.args.fill)) × (x ≤ max_net)
answered c =
    let same = ap (option_map described_block) c.in-Some.is in
    let b = described_block c.in-Some.block in
    let n = c.args.slots in
    let v = c.args.fill in
    let ranged = subst (BlockRanged n) same c.requires.ranged in
    let whole = subst Whole same c.requires.whole in
    let missing = ap₂ (λ m k. (m - k) * v) c.from-in-Some.ensures (c.from-in-Some-2.ensures ∙ c.count.ensures.below) in
    let value = ap₂ ◌+◌ c.total.ensures missing ∙ filled_block b n v c.requires.slots ranged whole in
    (value ∙ ap (λ o. sum (filled o n v)) (sym same), omega (arith, value, filled_bound b n v c.requires.slots ranged whole c.requires.fill, c.requires.slots))

pub overflow_add-result : goal.overflow_add-result
overflow_add-result c = let h = (answered c).1 in search rules

pub returns-in-None-clause-value : goal.returns-in-None-clause-value
returns-in-None-clause-value c =
    let same = ap (option_map described_block) c.in-None.is in
    ap (λ n. n * c.args.fill) c.from.ensures ∙ sym (filled_none c.args.slots c.args.fill) ∙ ap (λ o. sum (filled o c.args.slots c.args.fill)) (sym same)

pub returns-in-Some-clause-value : goal.returns-in-Some-clause-value
returns-in-Some-clause-value c = (answered c).0

pub returns-in-Some-clause-bound : goal.returns-in-Some-clause-bound
returns-in-Some-clause-bound c = (answered c).1
