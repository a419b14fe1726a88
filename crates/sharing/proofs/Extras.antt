-- Who gets a unit that is left over, by remainders and accounts.
use Rattle.std.proofs.Common.{◌≡◌, ℕ, zero, suc, ◌+◌, ◌<◌, ◌≤◌, Bool, true, false, ◌&&◌, eqb, leb, ◌⊎◌, List, [], ◌∷◌, length, get_or, ℤ, nat_abs, sym, ap, ◌∙◌, inl, inr, arith}
use Rattle.std.proofs.lemmas.Bool.{and_parts, leb-true, ltb-true, ltb-false, cases_order, cases_Bool}
use Rattle.std.proofs.lemmas.Bool.Decides.{nat_tests}
use Rattle.amounts.specs.Quotients.{with_sign}
use Rattle.amounts.specs.Ranges.{account_exists}
use Rattle.amounts.specs.Sums.{one}
use Rattle.amounts.proofs.Quotients.{nat_abs_with_sign}
use Rattle.amounts.proofs.Sums.{sum_to_ext}
use Rattle.sharing.specs.Limits.{rising}
use Rattle.sharing.specs.Shares.{total_weight, quotient, remainder, leftover, gets_extra, size, part}
use Rattle.sharing.specs.Laws.{Extra, extras}
use Rattle.sharing.proofs.Ranks.{place_rank, place_rank_falls, place_rank_earlier}
use Rattle.sharing.proofs.Fair.{gets_extra_is, extras_come_to}

-- ---- accounts that rise
rising_low : (low : ℕ) (cs : List ℕ) (j : ℕ) → rising low cs ≡ true → j < length cs → low ≤ get_or cs j 0
rising_low low [] j e l = absurd (omega arith)
rising_low low (c ∷ cs) zero e l = leb-true low c (and_parts (leb low c) (account_exists c) (and_parts (leb low c && account_exists c) (rising (c + 1) cs) e).0).0
rising_low low (c ∷ cs) (suc j) e l =
    let p = and_parts (leb low c && account_exists c) (rising (c + 1) cs) e in
    omega (arith, leb-true low c (and_parts (leb low c) (account_exists c) p.0).0, rising_low (c + 1) cs j p.1 (omega arith))

pub rising_less : (low : ℕ) (cs : List ℕ) (i j : ℕ) → rising low cs ≡ true → i < j → j < length cs → get_or cs i 0 < get_or cs j 0
rising_less low [] i j e l m = absurd (omega arith)
rising_less low (c ∷ cs) i zero e l m = absurd (omega arith)
rising_less low (c ∷ cs) zero (suc j) e l m = omega (arith, rising_low (c + 1) cs j (and_parts (leb low c && account_exists c) (rising (c + 1) cs) e).1 (omega arith))
rising_less low (c ∷ cs) (suc i) (suc j) e l m = rising_less (c + 1) cs i j (and_parts (leb low c && account_exists c) (rising (c + 1) cs) e).1 (omega arith) (omega arith)

-- ---- an extra unit, as it is seen in a part
one_more : (q : ℕ) (b : Bool) → eqb (q + one b) (q + 1) ≡ b
one_more q true = grind (arith, nat_tests)
one_more q false = grind (arith, nat_tests)

seen : (z : ℤ) (ws : List ℕ) (i : ℕ) → nat_abs (part z ws i) ≡ quotient (nat_abs z) ws i + one (gets_extra (nat_abs z) ws i)
seen z ws i = nat_abs_with_sign z (size (nat_abs z) ws i)

has_extra : (z : ℤ) (ws : List ℕ) (i : ℕ) → Extra z ws (part z ws) i → gets_extra (nat_abs z) ws i ≡ true
has_extra z ws i e = elim (cases_Bool (gets_extra (nat_abs z) ws i)) [ inl t ↦ t | inr f ↦ absurd (omega (arith, e, seen z ws i, ap one f)) ]

has_none : (z : ℤ) (ws : List ℕ) (i : ℕ) → (Extra z ws (part z ws) i → ⊥) → gets_extra (nat_abs z) ws i ≡ false
has_none z ws i h = elim (cases_Bool (gets_extra (nat_abs z) ws i)) [ inl t ↦ absurd (h (seen z ws i ∙ ap (λ b. quotient (nat_abs z) ws i + one b) t)) | inr f ↦ f ]

pub quotient_or_one_more : (z : ℤ) (ws : List ℕ) (i : ℕ) → (part z ws i ≡ with_sign z (quotient (nat_abs z) ws i)) ⊎ (part z ws i ≡ with_sign z (quotient (nat_abs z) ws i + 1))
quotient_or_one_more z ws i = elim (cases_Bool (gets_extra (nat_abs z) ws i)) [
  | inl t ↦ inr (ap (λ b. with_sign z (quotient (nat_abs z) ws i + one b)) t)
  | inr f ↦ inl (ap (with_sign z) (omega (arith, ap one f)))
]

pub extras_are_leftover : (z : ℤ) (ws : List ℕ) → 0 < total_weight ws → extras z ws (part z ws) ≡ leftover (nat_abs z) ws
extras_are_leftover z ws some =
    sum_to_ext _ _ (length ws) (λ i _. ap one (ap (λ m. eqb m (quotient (nat_abs z) ws i + 1)) (seen z ws i) ∙ one_more (quotient (nat_abs z) ws i) (gets_extra (nat_abs z) ws i)))
    ∙ extras_come_to (nat_abs z) ws some

-- ---- the larger remainder, or an equal one at an earlier line
earlier : (r : ℕ → ℕ) (n i j : ℕ) → place_rank r n i < place_rank r n j → (r j < r i) ⊎ ((r i ≡ r j) × (i < j))
earlier r n i j l = elim (cases_order (r i) (r j)) [
  | inl e ↦ inr (
    e,
    (elim (cases_order i j) [
      | inl same ↦ absurd (omega (arith, ap (place_rank r n) same))
      | inr o ↦ elim o [ inl a ↦ a | inr b ↦ absurd (omega (arith, place_rank_earlier r n j i (sym e) b)) ]
    ]),
  )
  | inr o ↦ elim o [ inl a ↦ absurd (omega (arith, place_rank_falls r n i j a)) | inr b ↦ inl b ]
]

pub extras_by_account : (z : ℤ) (ws cs : List ℕ) → 0 < total_weight ws → rising 0 cs ≡ true → length cs ≡ length ws → (i j : ℕ) → j < length ws → Extra z ws (part z ws) i → (Extra z ws (part z ws) j → ⊥) → (remainder (nat_abs z) ws j < remainder (nat_abs z) ws i) ⊎ ((remainder (nat_abs z) ws i ≡ remainder (nat_abs z) ws j) × (get_or cs i 0 < get_or cs j 0))
extras_by_account z ws cs some up long i j l has none =
    let a : ℕ = nat_abs z in
    let p = ltb-true _ _ (sym (gets_extra_is a ws some i) ∙ has_extra z ws i has) in
    let q = ltb-false _ _ (sym (gets_extra_is a ws some j) ∙ has_none z ws j none) in
    elim (earlier (remainder a ws) (length ws) i j (omega (arith, p, q))) [
      | inl larger ↦ inl larger
      | inr equal ↦ inr (equal.0, rising_less 0 cs i j up equal.1 (omega (arith, l, long)))
    ]
