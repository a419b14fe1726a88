use Rattle.std.proofs.Common.{◌≡◌, ℕ, List, map, length, get_or, replicate, ℤ, pos, Some, None, sym, ap, ◌∙◌, lit<, w64, to_z, of_z}
use lib.ListN.{length-replicate}
use Rattle.std.specs.List.{range_with_len}
use Rattle.std.proofs.lemmas.Int.{to_z-of_z}
use Rattle.std.proofs.lemmas.Bool.{cond-true, cond-false}
use Rattle.amounts.specs.Ranges.{accounts}
use Rattle.sharing.specs.Limits.{figures_in_limit, max_amount}
use Rattle.sharing.specs.Outcomes.{outcome, parts_after}
use Rattle.sharing.specs.declared.line.AccountQuantity.{AccountQuantity}
use Rattle.sharing.specs.declared.quantity.Pence.{Pence}
use Rattle.reconciling.proofs.Checks.{ok_some, ok_none}
use Rattle.reconciling.proofs.Machine.{read_fits, read_is}
use Rattle.reconciling.proofs.OverAll.{same_outcome, same_after, all_refused, all_accepted, first_within, rest_within, all_adjusted}
use Rattle.reconciling.proofs.cost_lines.share_over_all.Goals as goal
use Rattle.reconciling.proofs.cost_lines.share_over_all.Goals.{After-share}

-- the places before the call
abbrev places : List ℤ
places = replicate accounts (pos 0)

room : length places ≡ accounts
room = length-replicate accounts (pos 0)

-- ---- the figures as the call of share has them
called : (c : After-share) → c.share.result ≡ outcome c.args.amount c.args.weights.now (range_with_len 0 accounts) (length places)
called c =
    let z : ℤ = to_z w64 (of_z w64 c.args.amount) in
    let ws : List ℤ = map (λ (l : AccountQuantity Pence). l.quantity.0) c.cost_lines-lines.result in
    let cs : List ℕ = map (λ (l : AccountQuantity Pence). l.account) c.cost_lines-lines.result in
    let answer : c.share.result ≡ outcome z ws cs (length places) = c.share.ensures.answer in
    answer ∙ same_outcome c.args.amount z c.args.weights.now ws (range_with_len 0 accounts) cs (to_z-of_z w64 c.args.amount c.ranges.amount) c.cost_lines-lines.ensures.weights c.cost_lines-lines.ensures.accounts (length places)

afterwards : (c : After-share) → c.share.new.parts ≡ parts_after c.args.amount c.args.weights.now (range_with_len 0 accounts) places
afterwards c =
    let z : ℤ = to_z w64 (of_z w64 c.args.amount) in
    let ws : List ℤ = map (λ (l : AccountQuantity Pence). l.quantity.0) c.cost_lines-lines.result in
    let cs : List ℕ = map (λ (l : AccountQuantity Pence). l.account) c.cost_lines-lines.result in
    let after : c.share.new.parts ≡ parts_after z ws cs places = c.share.ensures.after in
    after ∙ same_after c.args.amount z c.args.weights.now ws (range_with_len 0 accounts) cs (to_z-of_z w64 c.args.amount c.ranges.amount) c.cost_lines-lines.ensures.weights c.cost_lines-lines.ensures.accounts places

pub returns-in_err-unshared : goal.returns-in_err-unshared
returns-in_err-unshared c =
    let z = c.args.amount in
    let ws = c.args.weights.now in
    let call = called (goal.at.returns-in_err-unshared c).After-share in
    let bad = ok_none c.share.result (sym c.ok.ensures.value ∙ c.in_err-unshared.was) in
    c.from_residual.ensures ∙ sym (cond-false (figures_in_limit z ws) _ None (all_refused z ws places c.told-weights room bad.0 (sym bad.1 ∙ call)))

pub overflow_add-adjustments : goal.overflow_add-adjustments
overflow_add-adjustments c =
    let z = c.args.amount in
    let ws = c.args.weights.now in
    let u = c.in_ok-unshared.unshared in
    let qs = c.share.new.parts in
    let call = sym (ok_some c.share.result u (sym c.ok.ensures.value ∙ c.in_ok-unshared.was)) ∙ called (goal.at.overflow_add-adjustments c).After-share in
    let after = afterwards (goal.at.overflow_add-adjustments c).After-share in
    read_fits (get_or qs 0 (pos 0)) u max_amount max_amount (first_within z ws places c.told-weights room u qs call after) (rest_within z ws places c.told-weights room u qs call after) (lit< tt)

pub returns : goal.returns
returns c =
    let z = c.args.amount in
    let ws = c.args.weights.now in
    let u = c.in_ok-unshared.unshared in
    let qs = c.share.new.parts in
    let call = sym (ok_some c.share.result u (sym c.ok.ensures.value ∙ c.in_ok-unshared.was)) ∙ called (goal.at.returns c).After-share in
    let after = afterwards (goal.at.returns c).After-share in
    let sum = read_is (get_or qs 0 (pos 0)) u max_amount max_amount (first_within z ws places c.told-weights room u qs call after) (rest_within z ws places c.told-weights room u qs call after) (lit< tt) in
    ap Some (all_adjusted z ws places c.told-weights room u qs call after _ sum)
    ∙ sym (cond-true (figures_in_limit z ws) _ None (all_accepted z ws places c.told-weights room u qs call after))
