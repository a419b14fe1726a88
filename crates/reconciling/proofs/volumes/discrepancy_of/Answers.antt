use Rattle.std.proofs.Common.{◌≡◌, ℕ, ◌*◌, ◌≤◌, get_or, ℤ, pos, ◌-ℤ◌, nat_abs, ap, ◌∙◌, arith, rules, w64, to_z, of_z}
use Rattle.std.proofs.lemmas.Int.{to_z-of_z}
use Rattle.amounts.specs.Ranges.{accounts}
use Rattle.amounts.specs.Sums.{int_sum_to}
use Rattle.amounts.proofs.Sums.{int_sum_to_ext}
use Rattle.reconciling.specs.declared.sheets.AreaRow.{AreaRow}
use Rattle.reconciling.specs.Limits.{max_billed_kwh}
use Rattle.reconciling.specs.Outcomes.{sums_in}
use Rattle.reconciling.specs.Sheets.{max_supplied}
use Rattle.reconciling.specs.Volumes.{billed_kwh, discrepancy}
use Rattle.amounts.proofs.Made.{made_each, made_all}
use Rattle.reconciling.proofs.Machine.{sum_within, less_fits, less_is}
use Rattle.reconciling.proofs.Ranged.{row_ranged}
use Rattle.reconciling.proofs.volumes.discrepancy_of.Goals as goal
use Rattle.reconciling.proofs.volumes.discrepancy_of.Goals.{After-from_fn-kwh, After-get, After-total}

billed_le : (c : After-from_fn-kwh) → (i : ℕ) → nat_abs (get_or c.from_fn-kwh.result i (pos 0)) ≤ max_billed_kwh
billed_le c = made_all _ (λ y. nat_abs y ≤ max_billed_kwh) _ (λ i y q called. search rules) c.from_fn-kwh.result (pos 0) 64 c.from_fn-kwh.ensures.items (omega arith)

supplied_le : (c : After-get) → c.get.result.supplied ≤ max_supplied
supplied_le c = (row_ranged c.get.result c.get.ensures.in_range).supplied

-- the total, as the machine has it
total_is : (c : After-total) → to_z w64 (of_z w64 c.total.result) ≡ int_sum_to (λ i. get_or c.from_fn-kwh.result i (pos 0)) accounts
total_is c = to_z-of_z w64 c.total.result (record { sfits = c.total.type_inv }) ∙ c.total.ensures ∙ ap (int_sum_to (λ i. get_or c.from_fn-kwh.result i (pos 0))) c.from_fn-kwh.ensures.items.long

total_le : (c : After-total) → nat_abs (to_z w64 (of_z w64 c.total.result)) ≤ accounts * max_billed_kwh
total_le c =
    let d = (goal.at.After-total c).After-from_fn-kwh in
    omega (arith, ap nat_abs (total_is c), sum_within (λ i. get_or c.from_fn-kwh.result i (pos 0)) max_billed_kwh accounts (λ i _. billed_le d i))

pub total-requires : goal.total-requires
total-requires c =
    let d = (goal.at.total-requires c).After-from_fn-kwh in
    record { count = omega (arith, c.from_fn-kwh.ensures.items.long); within = λ i. omega (arith, billed_le d i) }

pub overflow_cast-result : goal.overflow_cast-result
overflow_cast-result c = record { sfits = omega (arith, supplied_le (goal.at.overflow_cast-result c).After-get) }

pub overflow_sub-result : goal.overflow_sub-result
overflow_sub-result c =
    let d = (goal.at.overflow_sub-result c).After-get in
    less_fits c.get.result.supplied _ _ (total_is c) (accounts * max_billed_kwh) (total_le c) (omega (arith, supplied_le d))

pub returns : goal.returns
unfolding discrepancy
returns c =
    let d = (goal.at.returns c).After-get in
    let f : ℕ → ℤ = λ account. billed_kwh (sums_in c.args.cells.now account c.args.area.index) in
    let each = made_each _ (λ i y. y ≡ f i) _ (λ i y q called. search rules) c.from_fn-kwh.result (pos 0) 64 c.from_fn-kwh.ensures.items in
    less_is c.get.result.supplied _ _ (total_is c ∙ int_sum_to_ext (λ i. get_or c.from_fn-kwh.result i (pos 0)) f accounts each) (accounts * max_billed_kwh) (total_le c) (omega (arith, supplied_le d))
    ∙ ap (λ (r : AreaRow). pos r.supplied -ℤ int_sum_to f accounts) c.get.ensures.value
