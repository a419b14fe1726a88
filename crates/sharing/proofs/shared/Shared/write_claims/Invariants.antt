use Rattle.std.proofs.Common.{◌≡◌, take}
use Rattle.sharing.specs.Claims.{claims_of}
use Rattle.sharing.proofs.shared.Shared.write_claims.Given as goal

abbrev pub invariant-loop-index : goal.invariant-loop-index
invariant-loop-index l = take l.index l.claim-items ≡ claims_of l.self.size l.self.weights.now l.index
