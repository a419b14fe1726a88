use Rattle.std.proofs.Common.{◌≡◌, ◌≤◌, map, length, get_or, take, drop, pos, Ok, sym, refl, ap, ◌∙◌, subst, ap₂, arith, w64, to_z, of_z}
use Rattle.std.proofs.lemmas.List.{length-map}
use Rattle.std.proofs.lemmas.Int.{to_z-of_z}
use Rattle.std.proofs.lemmas.Bool.{true≢false}
use Rattle.amounts.proofs.Signed.{read_back}
use Rattle.sharing.specs.Limits.{figures_in_limit, max_weight}
use Rattle.sharing.specs.Shares.{counting_weight, part, unshared, written}
use Rattle.sharing.specs.Laws.{FairShare}
use Rattle.sharing.proofs.Fairness.{fair, fair_at}
use Rattle.sharing.proofs.Lines.{figures_parts, counting_in_limit}
use Rattle.sharing.proofs.Outcomes.{ends_at_limits, ends_at_accounts, ends_at_places, ends_shared}
use Rattle.sharing.proofs.Written.{written_at, written_beyond}
use Rattle.sharing.proofs.share.Goals as goal

pub returns-then-not-figures_in_limit : goal.returns-then-not-figures_in_limit
returns-then-not-figures_in_limit g c =
    let ls = c.args.lines.now in
    let f = g.L.Weighted.weight in
    let p = ends_at_limits c.args.amount (map f ls) (map g.L.AccountLine.account ls) c.args.parts.now
    (ap (λ y. figures_in_limit y (map f ls)) (sym (to_z-of_z w64 c.args.amount c.ranges.amount)) ∙ sym c.figures_in_limit.ensures ∙ c.if-not-figures_in_limit.true) in
    record { answer = p.0; after = p.1; fair = tt; refused = λ _. refl; beyond = refl }

pub returns-then-not-accounts_rise : goal.returns-then-not-accounts_rise
returns-then-not-accounts_rise g c =
    let ls = c.args.lines.now in
    let f = g.L.Weighted.weight in
    let p = ends_at_accounts c.args.amount (map f ls) (map g.L.AccountLine.account ls) c.args.parts.now
    (ap (λ y. figures_in_limit y (map f ls)) (sym (to_z-of_z w64 c.args.amount c.ranges.amount)) ∙ sym c.figures_in_limit.ensures ∙ c.if-not-figures_in_limit.false)
    (sym c.accounts_rise.ensures ∙ c.if-not-accounts_rise.true) in
    record { answer = p.0; after = p.1; fair = tt; refused = λ _. refl; beyond = refl }

pub returns-then-parts-count : goal.returns-then-parts-count
returns-then-parts-count g c =
    let ls = c.args.lines.now in
    let f = g.L.Weighted.weight in
    let p = ends_at_places c.args.amount (map f ls) (map g.L.AccountLine.account ls) c.args.parts.now
    (ap (λ y. figures_in_limit y (map f ls)) (sym (to_z-of_z w64 c.args.amount c.ranges.amount)) ∙ sym c.figures_in_limit.ensures ∙ c.if-not-figures_in_limit.false)
    (sym c.accounts_rise.ensures ∙ c.if-not-accounts_rise.false) (omega (arith, length-map ls f, c.if-parts-count.true)) in
    record { answer = p.0; after = p.1; fair = tt; refused = λ _. refl; beyond = refl }

pub spread-requires : goal.spread-requires
spread-requires g c =
    let ls = c.args.lines.now in
    let f = g.L.Weighted.weight in
    let ok = figures_parts (to_z w64 (of_z w64 c.args.amount)) (map f ls) (sym c.figures_in_limit.ensures ∙ c.if-not-figures_in_limit.false) in
    let same = c.copy_weights.ensures in
    let long : length (take (length ls) c.copy_weights.new.weights) ≡ length ls = ap length same ∙ length-map (map f ls) counting_weight ∙ length-map ls f in
    record {
      limits = (omega (arith, long, length-map ls f, ok.1), λ k. subst (λ xs. get_or xs k 0 ≤ max_weight) (sym same) (counting_in_limit (map f ls) ok.2 k));
      small = ok.0;
      room = omega (arith, long, c.if-parts-count.false);
    }

pub returns : goal.returns
returns g c =
    let ls = c.args.lines.now in
    let ps = c.args.parts.now in
    let f = g.L.Weighted.weight in
    let cs = map g.L.AccountLine.account ls in
    let z = c.args.amount in
    let ws = map counting_weight (map f ls) in
    let zed = to_z-of_z w64 z c.ranges.amount in
    let up = sym c.accounts_rise.ensures ∙ c.if-not-accounts_rise.false in
    let same = c.copy_weights.ensures in
    let p = ends_shared z (map f ls) cs ps
    (ap (λ y. figures_in_limit y (map f ls)) (sym zed) ∙ sym c.figures_in_limit.ensures ∙ c.if-not-figures_in_limit.false) up (omega (arith, length-map ls f, c.if-parts-count.false)) in
    let shared : c.spread.new.parts ≡ written (part z ws) (length ws) ps = c.spread.ensures.after ∙ ap₂ (λ y xs. written (part y xs) (length xs) ps) zed same in
    let kept : to_z w64 (of_z w64 c.spread.result) ≡ unshared z ws = read_back c.spread.result c.spread.type_inv ∙ c.spread.ensures.answer ∙ ap₂ unshared zed same in
    let long : length ws ≡ length ls = length-map (map f ls) counting_weight ∙ length-map ls f in
    record {
      answer = ap Ok kept ∙ p.0;
      after = shared ∙ ap (λ n. written (part z ws) n ps) (length-map (map f ls) counting_weight) ∙ p.1;
      fair =
          subst (λ u. FairShare z ws cs u (λ i. get_or c.spread.new.parts i (pos 0))) (sym kept)
          (fair_at z ws cs (unshared z ws) (part z ws) (λ i. get_or c.spread.new.parts i (pos 0))
          (λ i l. ap (λ qs. get_or qs i (pos 0)) shared ∙ written_at (part z ws) (length ws) ps i l)
          (fair z ws cs up (length-map ls g.L.AccountLine.account ∙ sym long)));
      refused = λ e. absurd (true≢false e);
      beyond = ap₂ (λ n qs. drop n qs) (sym long) shared ∙ written_beyond (part z ws) (length ws) ps ∙ ap (λ n. drop n ps) long;
    }
