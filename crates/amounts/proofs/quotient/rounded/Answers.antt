use Rattle.std.proofs.Common.{◌≡◌, ℕ, ◌+◌, ◌*◌, ◌/◌, ◌%◌, ◌<◌, ◌≤◌, ℤ, ◌+ℤ◌, nat_abs, ◌≤ℤ◌, sym, ap, ◌∙◌, subst, ap₂, arith, w64, SFits, to_z, of_z}
use Rattle.std.specs.Int.{int_signum}
use Rattle.std.proofs.lemmas.Int.{to_z-of_z}
use Rattle.std.proofs.lemmas.Bool.{leb-true, leb-false}
use Rattle.amounts.specs.Quotients.{Rounded, with_sign, quotient_cut, quotient_rounded}
use Rattle.amounts.proofs.Signed.{read_back}
use Rattle.amounts.proofs.Quotients.{rounds_down, rounds_up, away, up_fits, not_zero, rounded_law, rounded_only, rounded_monotone}
use Rattle.amounts.proofs.quotient.rounded.Goals as goal

-- what an answer owes, where it is the quotient rounded
abbrev Owed : ℤ → ℕ → ℤ → Type 0
Owed z d r = record { rounded : Rounded z d r; only : (s : ℤ) → Rounded z d s → s ≡ r; value : r ≡ quotient_rounded z d; rising : (y : ℤ) → z ≤ℤ y → r ≤ℤ quotient_rounded y d }

owed : (z : ℤ) (d : ℕ) (r : ℤ) → 0 < d → r ≡ quotient_rounded z d → Owed z d r
owed z d r some value =
    let law = subst (Rounded z d) (sym value) (rounded_law z d some) in
    record { rounded = law; only = λ s p. rounded_only z s r d some p law; value = value; rising = λ y l. subst (λ x. x ≤ℤ quotient_rounded y d) (sym value) (rounded_monotone z y d some l) }

-- the sum of the quotient and the sign, as the machine has them
sum_is : (z q s : ℤ) (d : ℕ) → SFits w64 z → SFits w64 q → SFits w64 s → q ≡ quotient_cut (to_z w64 (of_z w64 z)) d → s ≡ int_signum (to_z w64 (of_z w64 z)) → 0 < nat_abs z → to_z w64 (of_z w64 q) +ℤ to_z w64 (of_z w64 s) ≡ with_sign z (nat_abs z / d + 1)
sum_is z q s d fz fq fs eq es l =
    ap₂ ◌+ℤ◌
    (to_z-of_z w64 q fq ∙ eq ∙ ap (λ x. quotient_cut x d) (to_z-of_z w64 z fz))
    (to_z-of_z w64 s fs ∙ es ∙ ap int_signum (to_z-of_z w64 z fz))
    ∙ away z (nat_abs z / d) l

pub returns-else-reaches_half : goal.returns-else-reaches_half
returns-else-reaches_half c =
    let z = c.args.amount in
    let d = c.args.divisor.value in
    let zed = to_z-of_z w64 z c.ranges.amount in
    let rest : c.unsigned_abs.result % c.get.result ≡ nat_abs z % d = ap₂ (λ x y. x % y) (c.unsigned_abs.ensures.value ∙ ap nat_abs zed) c.get.ensures in
    let low = leb-false _ _ (sym c.reaches_half.ensures ∙ c.if-reaches_half.false) in
    owed z d _ c.args.divisor.positive
    (read_back c.cut-quotient.result c.cut-quotient.type_inv ∙ c.cut-quotient.ensures.value ∙ ap (λ x. quotient_cut x d) zed
    ∙ sym (rounds_down z d (omega (arith, rest, low, c.get-2.ensures))))

-- where the sum is taken, twice the remainder reaches the divisor
reached : (c : goal.After-signum) → c.args.divisor.value ≤ 2 * (nat_abs c.args.amount % c.args.divisor.value)
reached c =
    let rest : c.unsigned_abs.result % c.get.result ≡ nat_abs c.args.amount % c.args.divisor.value =
    ap₂ (λ x y. x % y) (c.unsigned_abs.ensures.value ∙ ap nat_abs (to_z-of_z w64 c.args.amount c.ranges.amount)) c.get.ensures in
    let high = leb-true _ _ (sym c.reaches_half.ensures ∙ c.if-reaches_half.true) in
    omega (arith, rest, high, c.get-2.ensures)

summed : (c : goal.After-signum) → to_z w64 (of_z w64 c.cut-quotient.result) +ℤ to_z w64 (of_z w64 c.signum.result) ≡ with_sign c.args.amount (nat_abs c.args.amount / c.args.divisor.value + 1)
summed c =
    sum_is c.args.amount c.cut-quotient.result c.signum.result c.args.divisor.value c.ranges.amount
    (record { sfits = c.cut-quotient.type_inv }) (record { sfits = c.signum.type_inv }) c.cut-quotient.ensures.value c.signum.ensures.value
    (not_zero c.args.amount c.args.divisor.value c.args.divisor.positive (reached c))

fits : (c : goal.After-signum) → SFits w64 (with_sign c.args.amount (nat_abs c.args.amount / c.args.divisor.value + 1))
fits c = up_fits c.args.amount c.args.divisor.value c.args.divisor.positive (reached c) c.ranges.amount

pub overflow_add-result : goal.overflow_add-result
overflow_add-result c = subst (SFits w64) (sym (summed c)) (fits c)

pub returns-then-reaches_half : goal.returns-then-reaches_half
returns-then-reaches_half c =
    let z = c.args.amount in
    let d = c.args.divisor.value in
    owed z d _ c.args.divisor.positive
    (ap (λ x. to_z w64 (of_z w64 x)) (summed c) ∙ to_z-of_z w64 _ (fits c) ∙ sym (rounds_up z d (reached c)))
