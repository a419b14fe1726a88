-- The parts of a sharing are fair, and so is what the places hold.
use Rattle.std.proofs.Common.{◌≡◌, ℕ, ◌+◌, ◌<◌, ◌≤◌, true, cond, eqb, List, length, ℤ, pos, ◌+ℤ◌, ◌-ℤ◌, ◌*ℤ◌, nat_abs, sym, ap, ◌∙◌, ap₂, inl, inr, arith}
use lib.IntN.{+ℤ_idl, +ℤ_idr}
use borrow.Author.Differences.{ints}
use Rattle.std.proofs.lemmas.Bool.{cases_eq, cond-true, cond-false, eq-eqb, ne_eqb}
use Rattle.amounts.specs.Sums.{int_sum_to}
use Rattle.amounts.proofs.Quotients.{nat_abs_with_sign}
use Rattle.amounts.proofs.Sums.{sum_to_ext, sum_to_le, int_sum_to_ext, int_sum_to_zero}
use Rattle.sharing.specs.Limits.{rising}
use Rattle.sharing.specs.Shares.{weight_at, total_weight, quotient, size, part, unshared}
use Rattle.sharing.specs.Laws.{off, off_in_all, Split, extras, FairShare}
use Rattle.sharing.proofs.Signs.{parts_come_to, parts_near, parts_nearest}
use Rattle.sharing.proofs.Steps.{size_within, no_weight_no_part, no_total_no_part, no_total_no_weight}
use Rattle.sharing.proofs.Extras.{quotient_or_one_more, extras_are_leftover, extras_by_account}

zero_off : (p z : ℤ) (t w : ℕ) → t ≡ 0 → w ≡ 0 → nat_abs (p *ℤ pos t -ℤ z *ℤ pos w) ≡ 0
zero_off p z t w e f = ap₂ (λ x y. nat_abs (p *ℤ pos x -ℤ z *ℤ pos y)) e f ∙ omega (arith, ints)

module _ (z : ℤ) (ws : List ℕ) where
  pub unshared_all : total_weight ws ≡ 0 → unshared z ws ≡ z
  unshared_all none = cond-true (eqb (total_weight ws) 0) z (pos 0) (eq-eqb (total_weight ws) 0 none)

  pub unshared_none : 0 < total_weight ws → unshared z ws ≡ pos 0
  unshared_none some = cond-false (eqb (total_weight ws) 0) z (pos 0) (ne_eqb (total_weight ws) 0 (λ e. omega arith))

  conserved : unshared z ws +ℤ int_sum_to (part z ws) (length ws) ≡ z
  conserved = elim (cases_eq (total_weight ws) 0) [
    | inl none ↦ ap₂ ◌+ℤ◌ (unshared_all none) (int_sum_to_ext (part z ws) (λ _. pos 0) (length ws) (λ i _. no_total_no_part z ws i none) ∙ int_sum_to_zero (length ws)) ∙ +ℤ_idr z
    | inr d ↦ ap₂ ◌+ℤ◌ (unshared_none (omega arith)) (parts_come_to z ws (omega arith)) ∙ +ℤ_idl z
  ]

  bounded : (i : ℕ) → i < length ws → nat_abs (part z ws i) ≤ nat_abs z
  bounded i l = elim (cases_eq (total_weight ws) 0) [
    | inl none ↦ omega (arith, ap nat_abs (no_total_no_part z ws i none))
    | inr d ↦ omega (arith, nat_abs_with_sign z (size (nat_abs z) ws i), size_within (nat_abs z) ws (omega arith) i l)
  ]

  -- with no weight at all, nothing is off
  best : (q : ℕ → ℤ) → Split z ws q → off_in_all z ws (part z ws) ≤ off_in_all z ws q
  best q e = elim (cases_eq (total_weight ws) 0) [
    | inl none ↦ sum_to_le _ _ (length ws) (λ i _. omega (arith, zero_off (part z ws i) z (total_weight ws) (weight_at ws i) none (no_total_no_weight ws i none)))
    | inr d ↦ parts_nearest z ws (omega arith) q e
  ]

-- an extra unit was left over, so some line takes part
some_weight : (z : ℤ) (ws : List ℕ) (i : ℕ) → 0 < weight_at ws i → 0 < total_weight ws
some_weight z ws i l = elim (cases_eq (total_weight ws) 0) [ inl none ↦ absurd (omega (arith, no_total_no_weight ws i none)) | inr d ↦ omega arith ]

pub fair : (z : ℤ) (ws cs : List ℕ) → rising 0 cs ≡ true → length cs ≡ length ws → FairShare z ws cs (unshared z ws) (part z ws)
fair z ws cs up long = record {
  conserved = conserved z ws;
  comes_to = λ some. (unshared_none z ws some, parts_come_to z ws some);
  none_shared = λ none. (unshared_all z ws none, λ i _. no_total_no_part z ws i none);
  no_part = λ i _. no_weight_no_part z ws i;
  bounded = bounded z ws;
  within_one = λ some i _. parts_near z ws some i;
  best = best z ws;
  quotient_or_more = λ i _. quotient_or_one_more z ws i;
  extras_given = extras_are_leftover z ws;
  extras_by_remainder = λ i j _ l has takes none. extras_by_account z ws cs (some_weight z ws j takes) up long i j l has none;
}

-- ---- what holds of the parts holds of places that hold them
module _ (z : ℤ) (ws cs : List ℕ) (u : ℤ) (p q : ℕ → ℤ) (same : (i : ℕ) → i < length ws → q i ≡ p i) where
  sums_same : int_sum_to q (length ws) ≡ int_sum_to p (length ws)
  sums_same = int_sum_to_ext q p (length ws) same

  off_same : off_in_all z ws q ≡ off_in_all z ws p
  off_same = sum_to_ext _ _ (length ws) (λ i l. ap (off z ws i) (same i l))

  extras_same : extras z ws q ≡ extras z ws p
  extras_same = sum_to_ext _ _ (length ws) (λ i l. ap (λ m. cond (eqb (nat_abs m) (quotient (nat_abs z) ws i + 1)) 1 0) (same i l))

  pub fair_at : FairShare z ws cs u p → FairShare z ws cs u q
  fair_at f = record {
    conserved = ap (λ s. u +ℤ s) sums_same ∙ f.conserved;
    comes_to = λ some. ((f.comes_to some).0, sums_same ∙ (f.comes_to some).1);
    none_shared = λ none. ((f.none_shared none).0, λ i l. same i l ∙ (f.none_shared none).1 i l);
    no_part = λ i l e. same i l ∙ f.no_part i l e;
    bounded = λ i l. omega (arith, ap nat_abs (same i l), f.bounded i l);
    within_one = λ some i l. omega (arith, ap (off z ws i) (same i l), f.within_one some i l);
    best = λ r e. omega (arith, off_same, f.best r e);
    quotient_or_more = λ i l. elim (f.quotient_or_more i l) [ inl e ↦ inl (same i l ∙ e) | inr e ↦ inr (same i l ∙ e) ];
    extras_given = λ some. extras_same ∙ f.extras_given some;
    extras_by_remainder = λ i j l m has takes none. f.extras_by_remainder i j l m (sym (ap nat_abs (same i l)) ∙ has) takes (λ e. none (ap nat_abs (same j m) ∙ e));
  }
