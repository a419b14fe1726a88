use Rattle.std.proofs.Common.{◌≡◌, ◌<◌, length, replicate, set, pos, nat_abs, sym, ap, ◌∙◌, ap₂, arith, rules, w64, to_z, of_z, get_or, take, ℤ}
use Rattle.std.proofs.lemmas.Int.{to_z-of_z}
use Rattle.std.proofs.lemmas.List.{length-take}
use Rattle.amounts.specs.Quotients.{with_sign}
use Rattle.amounts.proofs.Signed.{read_back}
use Rattle.sharing.specs.declared.claims.Claim.{Claim}
use Rattle.sharing.specs.Shares.{size, part, written}
use Rattle.sharing.proofs.Fairness.{unshared_all, unshared_none}
use Rattle.sharing.proofs.Steps.{size_within, no_total_no_part}
use Rattle.sharing.proofs.Totals.{total_is, total_fits, some_total, no_total, inside, index_is, units_are}
use Rattle.sharing.proofs.Written.{written_more, zeros_written}
use Rattle.sharing.proofs.spreading.spread.Goals as goal

pub total_of-requires : goal.total_of-requires
total_of-requires c = total_fits c.args.weights.now c.requires.limits

-- where the total is no divisor, it is 0
pub returns-in_default-clause-answer : goal.returns-in_default-clause-answer
returns-in_default-clause-answer c =
    let ws = c.args.weights.now in
    let z = c.args.amount in
    to_z-of_z w64 z c.ranges.amount ∙ sym (unshared_all z ws (no_total ws c.total_of.result c.requires.limits c.total_of.ensures c.in_default.ensures.range))

pub returns-in_default-clause-after : goal.returns-in_default-clause-after
returns-in_default-clause-after c =
    let ws = c.args.weights.now in
    let zeros : c.fill.new.self ≡ replicate (length c.fill.new.self) (pos 0) = search rules in
    zeros_written (part c.args.amount ws) (length ws) c.args.parts.now c.fill.new.self _
    (λ k. no_total_no_part c.args.amount ws k (no_total ws c.total_of.result c.requires.limits c.total_of.ensures c.in_default.ensures.range))
    zeros (omega (arith, c.fill.ensures.len, length-take {A = ℤ})) (omega arith)

pub invariant_of-shared-clause-whole : goal.invariant_of-shared-clause-whole
invariant_of-shared-clause-whole c = c.in-Some.ensures.value ∙ c.total_of.ensures ∙ total_is c.args.weights.now

abbrev none : Claim
none = record { index = 0; weight = 0; quotient = 0; remainder = 0 }

pub leftover-leftover-requires : goal.leftover-leftover-requires
leftover-leftover-requires c = c.write_claims.ensures

pub part_of-requires : goal.part_of-requires
part_of-requires c =
    let a = c.unsigned_abs.result in
    let ws = c.args.weights.now in
    let i = c.loop-claim.claim-index in
    let is = c.write_claims.ensures in
    let amount = c.unsigned_abs.ensures.value ∙ ap nat_abs (to_z-of_z w64 c.args.amount c.ranges.amount) in
    let fit = units_are a ws c.write_claims.new.claims is i c.leftover-leftover.result none c.loop-claim-test.true c.leftover-leftover.ensures in
    omega (arith, fit, size_within a ws (some_total ws c.total_of.result c.in-Some.total.value c.total_of.ensures c.in-Some.ensures.value c.in-Some.total.positive) i (inside a ws c.write_claims.new.claims is i c.loop-claim-test.true), amount, c.requires.small)

-- the claim of an iteration is that of its line, and has a place
own_index : (c : goal.After-part_of) → (get_or (take (length c.args.weights.now) c.write_claims.new.claims) c.loop-claim.claim-index none).index ≡ c.loop-claim.claim-index
own_index c = index_is c.unsigned_abs.result c.args.weights.now c.write_claims.new.claims c.write_claims.ensures c.loop-claim.claim-index none c.loop-claim-test.true

own_place : (c : goal.After-part_of) → c.loop-claim.claim-index < length c.args.parts.now
own_place c = omega (arith, inside c.unsigned_abs.result c.args.weights.now c.write_claims.new.claims c.write_claims.ensures c.loop-claim.claim-index c.loop-claim-test.true, c.requires.room)

pub bounds-parts-claim : goal.bounds-parts-claim
bounds-parts-claim c = omega (arith, own_index c, own_place c, c.loop-claim.auto.parts)

pub offset_bounds-parts-claim : goal.offset_bounds-parts-claim
offset_bounds-parts-claim c = let e = own_index c in let l = own_place c in search rules

pub loop-claim-preserved : goal.loop-claim-preserved
loop-claim-preserved c =
    let a = c.unsigned_abs.result in
    let ws = c.args.weights.now in
    let z = to_z w64 (of_z w64 c.args.amount) in
    let i = c.loop-claim.claim-index in
    let fit = units_are a ws c.write_claims.new.claims c.write_claims.ensures i c.leftover-leftover.result none c.loop-claim-test.true c.leftover-leftover.ensures in
    let value : c.part_of.result ≡ part z ws i = c.part_of.ensures ∙ ap (with_sign z) (fit ∙ ap (λ y. size y ws i) c.unsigned_abs.ensures.value) in
    let wrote : to_z w64 (of_z w64 c.part_of.result) ≡ part z ws i = read_back c.part_of.result c.part_of.type_inv ∙ value in
    ap₂ (λ ps v. set ps (get_or (take (length ws) c.write_claims.new.claims) i none).index v) c.loop-claim.invariant wrote
    ∙ ap (λ k. set (written (part z ws) i c.args.parts.now) k (part z ws i)) (own_index c)
    ∙ written_more (part z ws) i c.args.parts.now (own_place c)

pub returns-clause-answer : goal.returns-clause-answer
returns-clause-answer c = sym (unshared_none c.args.amount c.args.weights.now (some_total c.args.weights.now c.total_of.result c.in-Some.total.value c.total_of.ensures c.in-Some.ensures.value c.in-Some.total.positive))
