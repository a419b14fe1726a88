use Rattle.std.proofs.Common.{◌≡◌, ◌*◌, ◌≤◌, get_or, pos, nat_abs}
use Rattle.amounts.specs.Sums.{int_sum_to}
use Rattle.reconciling.specs.Limits.{max_network}
use Rattle.reconciling.proofs.signed.total.Given as goal

abbrev pub invariant-loop-figure : goal.invariant-loop-figure
invariant-loop-figure l = (l.total ≡ int_sum_to (λ i. get_or l.figures i (pos 0)) l.figure-index) × (nat_abs l.total ≤ l.figure-index * max_network)
