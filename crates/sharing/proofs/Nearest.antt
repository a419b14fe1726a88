-- No other sharing of the quotient amount is nearer to the exact shares.
use Rattle.std.proofs.Common.{◌≡◌, ℕ, zero, suc, ◌+◌, ◌-◌, ◌*◌, ◌<◌, ◌≤◌, max, Bool, true, false, cond, ltb, ◌⊎◌, List, length, ap, ◌∙◌, inl, inr, mul-le-mul_right, arith}
use Rattle.std.proofs.lemmas.Bool.{cases_eq, cases_lt, cases_Bool, ltb-true, ltb-false, cond_both}
use Rattle.amounts.specs.Sums.{sum_to, one}
use Rattle.sharing.specs.Shares.{weight_at, total_weight, quotient, remainder, leftover, gets_extra, size}
use Rattle.amounts.proofs.Quotients.{dist}
use Rattle.amounts.proofs.Sums.{sum_to_ext, sum_to_add}
use Rattle.sharing.proofs.Ranks.{place_rank, place_rank_falls}
use Rattle.sharing.proofs.Fair.{split, remainder_lt, gets_extra_is, extras_come_to, quotients_within}

-- ---- one line: u units against m, with r cut off and e added
abbrev Toll : ℕ → ℕ → ℕ → ℕ → ℕ → ℕ → Type 0
Toll t θ u m r e = dist (e * t) r + t * u + 2 * (θ * m) + 2 * (θ * e) ≤ dist (u * t) (m * t + r) + t * e + 2 * (θ * u) + t * m

-- m is k below u or above it, and e is one or none: the products that this comes to
abbrev Apart : ℕ → ℕ → ℕ → ℕ → ℕ → Type 0
Apart t θ u m k = ((t * m ≡ t * u + t * k) × (θ * m ≡ θ * u + θ * k)) ⊎ ((t * u ≡ t * m + t * k + t) × (θ * u ≡ θ * m + θ * k + θ))

abbrev Added : ℕ → ℕ → ℕ → ℕ → Type 0
Added t θ r e = ((e * t ≡ t) × (θ * e ≡ θ) × (θ ≤ r)) ⊎ ((e * t ≡ 0) × (θ * e ≡ 0) × (r ≤ θ))

toll_by : (t θ u m k r e : ℕ) → θ ≤ t → θ * k ≤ t * k → r < t → Apart t θ u m k → Added t θ r e → Toll t θ u m r e
toll_by t θ u m k r e a l b p q = grind arith

added : (t θ r e : ℕ) → ((e ≡ 1) × (θ ≤ r)) ⊎ ((e ≡ 0) × (r ≤ θ)) → Added t θ r e
added t θ r e (inl f) = let g = ap (λ y. y * t) f.0 in let h = ap (λ y. θ * y) f.0 in inl (omega arith, omega arith, f.1)
added t θ r e (inr f) = let g = ap (λ y. y * t) f.0 in let h = ap (λ y. θ * y) f.0 in inr (omega arith, omega arith, f.1)

apart : (t θ u m : ℕ) → (k : ℕ) × Apart t θ u m k
apart t θ u m = elim (cases_lt m u) [
  | inl l ↦ (u - suc m, inr (let k : ℕ = u - suc m in let f : u ≡ m + k + 1 = omega arith in (ap (λ x. t * x) f ∙ omega arith, ap (λ x. θ * x) f ∙ omega arith)))
  | inr l ↦ (m - u, inl (let k : ℕ = m - u in let f : m ≡ u + k = omega arith in (ap (λ x. t * x) f ∙ omega arith, ap (λ x. θ * x) f ∙ omega arith)))
]

toll : (t θ u m r e : ℕ) → θ ≤ t → r < t → ((e ≡ 1) × (θ ≤ r)) ⊎ ((e ≡ 0) × (r ≤ θ)) → Toll t θ u m r e
toll t θ u m r e a b c = let k = apart t θ u m in toll_by t θ u m k.0 r e a (mul-le-mul_right k.0 a) b k.1 (added t θ r e c)

-- ---- all lines
module _ (t θ : ℕ) (u m r e : ℕ → ℕ) where
  tolls : (n : ℕ) → ((i : ℕ) → i < n → Toll t θ (u i) (m i) (r i) (e i)) → sum_to (λ i. dist (e i * t) (r i)) n + t * sum_to u n + 2 * (θ * sum_to m n) + 2 * (θ * sum_to e n) ≤ sum_to (λ i. dist (u i * t) (m i * t + r i)) n + t * sum_to e n + 2 * (θ * sum_to u n) + t * sum_to m n
  tolls zero h = omega arith
  tolls (suc n) h = tolls_step (h n (omega arith)) (tolls n (λ i l. h i (omega arith)))
    where
      tolls_step : Toll t θ (u n) (m n) (r n) (e n) → sum_to (λ i. dist (e i * t) (r i)) n + t * sum_to u n + 2 * (θ * sum_to m n) + 2 * (θ * sum_to e n) ≤ sum_to (λ i. dist (u i * t) (m i * t + r i)) n + t * sum_to e n + 2 * (θ * sum_to u n) + t * sum_to m n → sum_to (λ i. dist (e i * t) (r i)) (suc n) + t * sum_to u (suc n) + 2 * (θ * sum_to m (suc n)) + 2 * (θ * sum_to e (suc n)) ≤ sum_to (λ i. dist (u i * t) (m i * t + r i)) (suc n) + t * sum_to e (suc n) + 2 * (θ * sum_to u (suc n)) + t * sum_to m (suc n)
      tolls_step p q = omega arith

  pub nearest : (n : ℕ) → ((i : ℕ) → i < n → Toll t θ (u i) (m i) (r i) (e i)) → sum_to u n ≡ sum_to m n + sum_to e n → sum_to (λ i. dist (e i * t) (r i)) n ≤ sum_to (λ i. dist (u i * t) (m i * t + r i)) n
  nearest n h s =
      let g : t * sum_to u n ≡ t * (sum_to m n + sum_to e n) = ap (λ y. t * y) s in
      let f : θ * sum_to u n ≡ θ * (sum_to m n + sum_to e n) = ap (λ y. θ * y) s in
      omega (arith, tolls n h)

-- ---- the largest of what fails a test
abbrev peak : (ℕ → Bool) → (ℕ → ℕ) → ℕ → ℕ
peak p r zero = 0
peak p r (suc n) = max (peak p r n) (cond (p n) 0 (r n))

peak_over : (p : ℕ → Bool) (r : ℕ → ℕ) (n i : ℕ) → i < n → p i ≡ false → r i ≤ peak p r n
peak_over p r zero i l e = omega arith
peak_over p r (suc n) i l e = elim (cases_eq i n) [
  | inl f ↦ (let g : p n ≡ false = rw f at e in rw f (rw g (omega arith)))
  | inr d ↦ omega (arith, peak_over p r n i (omega arith) e)
]

peak_under : (p : ℕ → Bool) (r : ℕ → ℕ) (n x : ℕ) → ((i : ℕ) → i < n → p i ≡ false → r i ≤ x) → peak p r n ≤ x
peak_under p r zero x h = omega arith
peak_under p r (suc n) x h =
    let last : cond (p n) 0 (r n) ≤ x = cond_both (p n) 0 (r n) (λ y. y ≤ x) (λ _. omega arith) (λ e. h n (omega arith) e) in
    omega (arith, last, peak_under p r n x (λ i l e. h i (omega arith) e))

-- ---- what a sharing gives
shift_part : (t q r x e : ℕ) → t * q + r ≡ x → dist ((q + e) * t) x ≡ dist (e * t) r
shift_part t q r x e s = omega arith

shift_other : (t q r x u v : ℕ) → t * q + r ≡ x → dist (u * t) ((v + q) * t + r) ≡ dist (u * t) (v * t + x)
shift_other t q r x u v s = omega arith

module _ (a : ℕ) (ws : List ℕ) (some : 0 < total_weight ws) where
  test : ℕ → Bool
  test i = ltb (place_rank (remainder a ws) (length ws) i) (leftover a ws)

  θ : ℕ
  θ = peak test (remainder a ws) (length ws)

  -- what got a unit was cut by no less than what did not
  ranked : (i j : ℕ) → test i ≡ true → test j ≡ false → remainder a ws j ≤ remainder a ws i
  unfolding test
  ranked i j p q = elim (cases_lt (remainder a ws i) (remainder a ws j)) [
    | inl l ↦ absurd (omega (arith, place_rank_falls (remainder a ws) (length ws) i j l, ltb-true _ _ p, ltb-false _ _ q))
    | inr l ↦ l
  ]

  parted : (i : ℕ) → i < length ws → ((one (gets_extra a ws i) ≡ 1) × (θ ≤ remainder a ws i)) ⊎ ((one (gets_extra a ws i) ≡ 0) × (remainder a ws i ≤ θ))
  unfolding test θ
  parted i l = elim (cases_Bool (test i)) [
    | inl p ↦ inl (ap one (gets_extra_is a ws some i ∙ p), peak_under test (remainder a ws) (length ws) (remainder a ws i) (λ j _ q. ranked i j p q))
    | inr q ↦ inr (ap one (gets_extra_is a ws some i ∙ q), peak_over test (remainder a ws) (length ws) i l q)
  ]

  θ-within : θ ≤ total_weight ws
  unfolding θ
  θ-within = peak_under test (remainder a ws) (length ws) (total_weight ws) (λ i _ _. omega (arith, remainder_lt a ws some i))

  pub sizes_nearest : (u v : ℕ → ℕ) → sum_to u (length ws) ≡ a + sum_to v (length ws) → sum_to (λ i. dist (size a ws i * total_weight ws) (a * weight_at ws i)) (length ws) ≤ sum_to (λ i. dist (u i * total_weight ws) (v i * total_weight ws + a * weight_at ws i)) (length ws)
  sizes_nearest u v s =
      let sum = sum_to_add v (quotient a ws) (length ws) in
      let near = nearest (total_weight ws) θ u (λ i. v i + quotient a ws i) (remainder a ws) (λ i. one (gets_extra a ws i)) (length ws) (λ i l. toll (total_weight ws) θ (u i) (v i + quotient a ws i) (remainder a ws i) (one (gets_extra a ws i)) θ-within (remainder_lt a ws some i) (parted i l)) (omega (arith, s, sum, extras_come_to a ws some, quotients_within a ws some)) in
      let mine = sum_to_ext (λ i. dist (size a ws i * total_weight ws) (a * weight_at ws i)) (λ i. dist (one (gets_extra a ws i) * total_weight ws) (remainder a ws i)) (length ws) (λ i _. shift_part (total_weight ws) (quotient a ws i) (remainder a ws i) (a * weight_at ws i) (one (gets_extra a ws i)) (split a ws some i)) in
      let other = sum_to_ext (λ i. dist (u i * total_weight ws) ((v i + quotient a ws i) * total_weight ws + remainder a ws i)) (λ i. dist (u i * total_weight ws) (v i * total_weight ws + a * weight_at ws i)) (length ws) (λ i _. shift_other (total_weight ws) (quotient a ws i) (remainder a ws i) (a * weight_at ws i) (u i) (v i) (split a ws some i)) in
      omega (arith, near, mine, other)
