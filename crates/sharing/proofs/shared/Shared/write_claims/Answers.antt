use Rattle.std.proofs.Common.{◌≡◌, ◌+◌, length, take, set, ap, ◌∙◌, length-take-le, take_at, arith}
use Rattle.sharing.specs.Claims.{claim_at}
use Rattle.sharing.proofs.Written.{filled_more, filled_all}
use Rattle.sharing.proofs.shared.Shared.write_claims.Goals as goal

pub loop-index-preserved : goal.loop-index-preserved
loop-index-preserved c =
    let s = c.args.self.now in
    let i = c.loop-index.index in
    ap (λ v. take (i + 1) (set c.loop-index.claim-items i v)) c.claim_at.ensures ∙ filled_more (claim_at s.size s.weights.now) c.loop-index.claim-items i (omega arith) c.loop-index.invariant

pub returns : goal.returns
returns c =
    let s = c.args.self.now in
    let items = c.loop-index.claim-items in
    let long : length items ≡ length s.weights.now = c.loop-index.auto.claim-items ∙ length-take-le (length s.weights.now) c.args.claims.now c.requires in
    take_at items _ (length s.weights.now) long ∙ filled_all (claim_at s.size s.weights.now) items (length s.weights.now) c.loop-index.index long (omega arith) c.loop-index.invariant
