use Rattle.std.proofs.Common.{◌≡◌}
use Rattle.sharing.specs.Shares.{part, written}
use Rattle.sharing.proofs.spreading.spread.Given as goal

abbrev pub invariant-loop-claim : goal.invariant-loop-claim
invariant-loop-claim l = l.parts ≡ written (part l.amount l.weights) l.claim-index l.initial.parts
