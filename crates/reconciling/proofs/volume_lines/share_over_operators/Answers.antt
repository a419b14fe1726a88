use Rattle.std.proofs.Common.{◌≡◌, ℕ, ◌≤◌, true, List, ◌∷◌, map, length, replicate, ℤ, pos, ◌+ℤ◌, nat_abs, Some, None, sym, refl, ap, ◌∙◌, ap₂, arith, w64, to_z, of_z}
use Rattle.std.specs.List.{range_with_len}
use Rattle.std.proofs.lemmas.List.{append-nil}
use Rattle.std.proofs.lemmas.Int.{to_z-of_z, ints}
use Rattle.std.proofs.lemmas.Bool.{cond-true, cond-false}
use Rattle.amounts.specs.Ranges.{accounts}
use Rattle.ledger.specs.declared.block.Cell.{Cell}
use Rattle.sharing.specs.Limits.{figures_in_limit}
use Rattle.sharing.specs.Outcomes.{outcome, parts_after}
use Rattle.sharing.specs.Shares.{part, unshared}
use Rattle.sharing.proofs.Lines.{figures_parts}
use Rattle.reconciling.specs.Outcomes.{sums_in}
use Rattle.reconciling.specs.Sharing.{that_count, over_operators}
use Rattle.reconciling.specs.Volumes.{operator_weights}
use Rattle.reconciling.proofs.Areas.{as_many_weights}
use Rattle.reconciling.proofs.Checks.{ok_some, ok_none}
use Rattle.reconciling.proofs.Operators.{shared_if, refused_if, parts_if, unshared_le, operators_in_order}
use Rattle.reconciling.proofs.volume_lines.share_over_operators.Goals as goal
use Rattle.reconciling.proofs.volume_lines.share_over_operators.Goals.{After-share}

abbrev weights : List Cell → ℕ → List ℤ
weights cells area = operator_weights (sums_in cells) area

abbrev places : List ℤ
places = replicate 63 (pos 0)

abbrev operators : List ℕ
operators = range_with_len 1 63

-- the call of share, at the weights and the accounts of the operators
called : (c : After-share) → c.share.result ≡ outcome c.args.amount (weights c.args.cells.now c.args.area.index) operators (length places)
called c =
    let shared = c.volume_lines-lines.ensures in
    c.share.ensures.answer ∙ ap₂ (λ w k. outcome (to_z w64 (of_z w64 c.args.amount)) w k 63) shared.weights shared.accounts
    ∙ ap (λ z. outcome z (weights c.args.cells.now c.args.area.index) operators 63) (to_z-of_z w64 c.args.amount c.ranges.amount)

pub returns-in_err-unshared : goal.returns-in_err-unshared
returns-in_err-unshared c =
    let ws = weights c.args.cells.now c.args.area.index in
    let many = as_many_weights c.args.cells.now c.args.area.index in
    let bad = ok_none c.share.result (sym c.ok.ensures.value ∙ c.in_err-unshared.was) in
    c.from_residual.ensures ∙ sym (cond-false (figures_in_limit c.args.amount ws) _ None (refused_if c.args.amount ws operators places refl (omega (arith, many)) bad.0 (sym bad.1 ∙ called (goal.at.returns-in_err-unshared c).After-share)))

-- what the sharing accepted
accepted : (c : goal.In_ok-unshared) → c.share.result ≡ outcome c.args.amount (weights c.args.cells.now c.args.area.index) operators (length places) → (figures_in_limit c.args.amount (weights c.args.cells.now c.args.area.index) ≡ true) × (c.in_ok-unshared.unshared ≡ unshared c.args.amount (that_count (weights c.args.cells.now c.args.area.index)))
accepted c call =
    let ws = weights c.args.cells.now c.args.area.index in
    let many = as_many_weights c.args.cells.now c.args.area.index in
    let u = c.in_ok-unshared.unshared in
    shared_if c.args.amount ws operators places refl (omega (arith, many)) u (sym (ok_some c.share.result u (sym c.ok.ensures.value ∙ c.in_ok-unshared.was)) ∙ call)

unshared_small : (c : goal.In_ok-unshared) → c.share.result ≡ outcome c.args.amount (weights c.args.cells.now c.args.area.index) operators (length places) → nat_abs c.in_ok-unshared.unshared ≤ 3000000000
unshared_small c call =
    let ws = weights c.args.cells.now c.args.area.index in
    omega (arith, ap nat_abs (accepted c call).1, unshared_le c.args.amount (that_count ws), (figures_parts c.args.amount ws (accepted c call).0).0)

pub overflow_add-adjustments : goal.overflow_add-adjustments
overflow_add-adjustments c =
    let small = unshared_small c (called (goal.at.overflow_add-adjustments c).After-share) in
    let before = c.requires in omega (arith, ints)

pub returns : goal.returns
returns c =
    let z = c.args.amount in
    let ws = weights c.args.cells.now c.args.area.index in
    let many = as_many_weights c.args.cells.now c.args.area.index in
    let shared = c.volume_lines-lines.ensures in
    let call = called (goal.at.returns c).After-share in
    let good = accepted c call in
    let small = unshared_small c call in
    let before = c.requires in
    let sum : to_z w64 (of_z w64 (to_z w64 (of_z w64 c.args.before) +ℤ to_z w64 (of_z w64 c.in_ok-unshared.unshared))) ≡ c.args.before +ℤ c.in_ok-unshared.unshared = omega (arith, ints) in
    let after = c.share.ensures.after ∙ ap₂ (λ w k. parts_after (to_z w64 (of_z w64 z)) w k places) shared.weights shared.accounts
    ∙ ap (λ y. parts_after y ws operators places) (to_z-of_z w64 z c.ranges.amount)
    ∙ parts_if z ws operators places refl (omega (arith, many)) (omega (arith, many)) good.0
    ∙ ap (λ n. map (part z (that_count ws)) (range_with_len 0 n)) many in
    ap₂ (λ x xs. Some (x ∷ xs)) (sum ∙ ap (λ u. c.args.before +ℤ u) good.1) (append-nil c.share.new.parts ∙ after)
    ∙ ap Some (operators_in_order c.args.before z (that_count ws) 63)
    ∙ sym (cond-true (figures_in_limit z ws) (Some (map (over_operators c.args.before z (that_count ws)) (range_with_len 0 accounts))) None good.0)
