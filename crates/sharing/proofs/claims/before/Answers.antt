use Rattle.std.proofs.Common.{cond, rules, arith}
use Rattle.std.proofs.lemmas.Iterator.{YieldsList-from_slice, YieldsList-from_map}
use Rattle.std.proofs.lemmas.Iterator.Consumers.{fits_by_from_yields_list}
use Rattle.std.proofs.lemmas.List.Sums.{count_by-le-length}
use Rattle.sharing.specs.declared.claims.Claim.{Claim}
use Rattle.sharing.specs.Claims.{comes_before}
use Rattle.sharing.proofs.claims.before.Goals as goal

pub sum-requires-clause-fits : goal.sum-requires-clause-fits
sum-requires-clause-fits c =
    let own = c.args.own.now in
    let claims = c.args.claims.now in
    fits_by_from_yields_list (λ (o : Claim). cond (comes_before o own) 1 0) claims c.map.result _
    (YieldsList-from_map _ (λ (o : Claim). cond (comes_before o own) 1 0) (YieldsList-from_slice claims cc) c.map.ensures.closure (λ x r q k. search rules))
    (omega (arith, count_by-le-length (λ o. comes_before o own) claims))
