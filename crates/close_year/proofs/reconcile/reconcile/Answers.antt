use Rattle.std.proofs.Common.{◌≡◌, map, length, get_or, pos, ◌+ℤ◌, ◌-ℤ◌, sym, ap, ◌∙◌, subst, arith, w64, SFits, to_z, of_z, rules}
use Rattle.std.proofs.lemmas.List.{length-map}
use Rattle.std.proofs.lemmas.Int.{to_z-of_z, ints}
use Rattle.std.proofs.lemmas.Bool.{true≢false}
use Rattle.sharing.specs.Shares.{counting_weight}
use Rattle.sharing.specs.Laws.{FairShare}
use Rattle.close_year.specs.Bills.{billed, adjusted, pence_of, account_of}
use Rattle.close_year.proofs.reconcile.reconcile.Goals as goal

pub returns : goal.returns
returns c =
    let bs = c.args.bills.now in
    let total : c.in_ok-billed.billed ≡ billed bs (length bs) = search rules in
    let less : c.in_ok-discrepancy.discrepancy ≡ to_z w64 (of_z w64 c.args.cost) -ℤ to_z w64 (of_z w64 c.in_ok-billed.billed) = search rules in
    let long = length-map (map pence_of bs) counting_weight ∙ length-map bs pence_of in
    let shared : c.in_ok-unshared.unshared +ℤ adjusted c.share.new.parts (length bs) ≡ to_z w64 (of_z w64 c.in_ok-discrepancy.discrepancy) =
    ap (λ n. c.in_ok-unshared.unshared +ℤ adjusted c.share.new.parts n) (sym long) ∙ c.in_ok-unshared.ensures.fair.conserved in
    let b : SFits w64 c.in_ok-billed.billed = search rules in
    let d : SFits w64 c.in_ok-discrepancy.discrepancy = search rules in
    let u : SFits w64 c.in_ok-unshared.unshared = search rules in
    record {
      meets = omega (arith, ints, shared, total, less);
      figures = (to_z-of_z w64 c.in_ok-billed.billed b ∙ total, omega (arith, ints, less));
      fair = subst (λ u. FairShare (to_z w64 (of_z w64 c.in_ok-discrepancy.discrepancy)) (map counting_weight (map pence_of bs)) (map account_of bs) u (λ i. get_or c.share.new.parts i (pos 0))) (sym (to_z-of_z w64 c.in_ok-unshared.unshared u)) c.in_ok-unshared.ensures.fair;
      refused = λ e. absurd (true≢false e);
    }
