use Rattle.std.proofs.Common.{◌≡◌, map, take}
use Rattle.std.specs.List.{range_with_len}
use Rattle.sharing.specs.Shares.{counting_weight, weight_at}
use Rattle.sharing.proofs.weights.copy_weights.Given as goal

abbrev pub invariant-loop-index : goal.invariant-loop-index
invariant-loop-index g l = take l.index l.weight-items ≡ map (weight_at (map counting_weight (map g.L.Weighted.weight l.lines))) (range_with_len 0 l.index)
