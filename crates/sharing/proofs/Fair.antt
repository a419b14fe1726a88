-- The sizes of the parts: what they come to, and how near they lie to the exact shares.
use Rattle.std.proofs.Common.{◌≡◌, ℕ, zero, suc, ◌+◌, ◌-◌, ◌*◌, ◌%◌, ◌<◌, ◌≤◌, ◌&&◌, ltb, leb, ◌⊎◌, List, length, ap, ◌∙◌, inl, inr, mod-lt, mul-zero, arith}
use native.Mathlib.Nat.{div-add-mod, le_of_mul-le-mul_left, zero-mod}
use Rattle.std.proofs.lemmas.Bool.{cases_eq, cases_lt}
use Rattle.std.proofs.lemmas.Bool.Decides.{nat_tests}
use Rattle.amounts.specs.Sums.{sum_to, one}
use Rattle.sharing.specs.Shares.{weight_at, total_weight, quotient, remainder, leftover, rank, gets_extra, size}
use Rattle.amounts.proofs.Sums.{sum_to_ext, sum_to_le, sum_to_add, sum_to_mul, sum_to_mono, term_le_sum_to, count_to_le}
use Rattle.sharing.proofs.Ranks.{upper, place_rank, place_rank_counts, place_rank_outside, rank_is, rank_outside}

-- ---- numbers
cut_is : (t a s r : ℕ) → a * t ≡ t * s + r → s ≤ a → t * (a - s) ≡ r
cut_is t a s r e l = let k : ℕ = a - s in let f : a ≡ s + k = omega arith in let g : a * t ≡ (s + k) * t = ap (λ x. x * t) f in omega arith

fits_one : (t r : ℕ) → r < t → r ≤ t * one (leb 1 r)
fits_one t zero l = omega arith
fits_one t (suc r) l =
    let e : one (leb 1 (suc r)) ≡ 1 = grind (arith, nat_tests) in
    let f : t * one (leb 1 (suc r)) ≡ t * 1 = ap (λ x. t * x) e in
    omega arith

cut_or : (n k r e : ℕ) → (r ≡ 0 → k ≤ n) → e ≡ one (ltb n k) → (e ≡ 0) ⊎ ((e ≡ 1) × (0 < r))
cut_or n k r e h f = elim (cases_lt n k) [ inl a ↦ inr (grind (arith, nat_tests), (let s = cases_eq r 0 in grind arith)) | inr b ↦ inl (grind (arith, nat_tests)) ]

near : (t q r x e : ℕ) → t * q + r ≡ x → r < t → (e ≡ 0) ⊎ ((e ≡ 1) × (0 < r)) → ((q + e) * t < x + t) × (x < (q + e) * t + t)
near t q r x e s l (inl f) = let g : e * t ≡ 0 * t = ap (λ y. y * t) f in omega arith
near t q r x e s l (inr f) = let g : e * t ≡ 1 * t = ap (λ y. y * t) f.0 in omega (arith, f.1)

-- a line that takes part goes by its rank, which is that of its place; one whose remainder is 0 gets nothing either way
extra_by_place : (w x p q k : ℕ) → (w ≡ 0 → x ≡ 0) → (0 < x → p ≡ q) → (x ≡ 0 → (k ≤ p) × (k ≤ q)) → (ltb 0 w && ltb p k) ≡ ltb q k
extra_by_place w x p q k a b c = let s = cases_eq w 0 in let t = cases_eq x 0 in grind (arith, nat_tests)

module _ (a : ℕ) (ws : List ℕ) (some : 0 < total_weight ws) where
  pub split : (i : ℕ) → total_weight ws * quotient a ws i + remainder a ws i ≡ a * weight_at ws i
  split i = div-add-mod (a * weight_at ws i) (total_weight ws)

  pub remainder_lt : (i : ℕ) → remainder a ws i < total_weight ws
  remainder_lt i = mod-lt (a * weight_at ws i) some

  abbrev n : ℕ
  n = length ws

  sums : a * total_weight ws ≡ total_weight ws * sum_to (quotient a ws) n + sum_to (remainder a ws) n
  sums =
      let once = sum_to_mul a (weight_at ws) n in
      let two = sum_to_ext (λ i. total_weight ws * quotient a ws i + remainder a ws i) (λ i. a * weight_at ws i) n (λ i _. split i) in
      let three = sum_to_add (λ i. total_weight ws * quotient a ws i) (remainder a ws) n in
      let four = sum_to_mul (total_weight ws) (quotient a ws) n in
      omega (arith, once, two, three, four)

  pub quotients_within : sum_to (quotient a ws) n ≤ a
  quotients_within = le_of_mul-le-mul_left {k = total_weight ws} (omega (arith, sums)) some

  pub quotients_upto : (i : ℕ) → i ≤ n → sum_to (quotient a ws) i ≤ a
  quotients_upto i l = omega (arith, sum_to_mono (quotient a ws) i n l, quotients_within)

  pub quotient_within : (i : ℕ) → i < n → quotient a ws i ≤ a
  quotient_within i l = omega (arith, term_le_sum_to (quotient a ws) n i l, quotients_within)

  leftover_is : total_weight ws * leftover a ws ≡ sum_to (remainder a ws) n
  leftover_is = cut_is (total_weight ws) a (sum_to (quotient a ws) n) (sum_to (remainder a ws) n) sums quotients_within

  leftover_upper : leftover a ws ≤ upper (remainder a ws) 1 n
  leftover_upper =
      let bound = sum_to_le (remainder a ws) (λ i. total_weight ws * one (leb 1 (remainder a ws i))) n (λ i _. fits_one (total_weight ws) (remainder a ws i) (remainder_lt i)) in
      let out = sum_to_mul (total_weight ws) (λ i. one (leb 1 (remainder a ws i))) n in
      le_of_mul-le-mul_left {k = total_weight ws} (omega (arith, bound, out, leftover_is)) some

  none_left_over : (i : ℕ) → remainder a ws i ≡ 0 → leftover a ws ≤ place_rank (remainder a ws) n i
  none_left_over i e = omega (arith, leftover_upper, place_rank_outside (remainder a ws) 1 n i (omega arith))

  weightless : (i : ℕ) → weight_at ws i ≡ 0 → remainder a ws i ≡ 0
  weightless i e = ap (λ x. a * x % total_weight ws) e ∙ ap (λ x. x % total_weight ws) (mul-zero a) ∙ zero-mod (total_weight ws)

  -- whether a line gets an extra unit goes by the rank of its remainder among all
  pub gets_extra_is : (i : ℕ) → gets_extra a ws i ≡ ltb (place_rank (remainder a ws) n i) (leftover a ws)
  gets_extra_is i =
      extra_by_place (weight_at ws i) (remainder a ws i) (rank a ws i) (place_rank (remainder a ws) n i) (leftover a ws) (weightless i)
      (rank_is (weight_at ws) (remainder a ws) weightless n i)
      (λ e. (omega (arith, leftover_upper, rank_outside (weight_at ws) (remainder a ws) weightless n i e), none_left_over i e))

  pub extras_come_to : sum_to (λ i. one (gets_extra a ws i)) n ≡ leftover a ws
  extras_come_to =
      sum_to_ext _ _ n (λ i _. ap one (gets_extra_is i)) ∙
      place_rank_counts (remainder a ws) n (leftover a ws) (omega (arith, leftover_upper, count_to_le (λ j. leb 1 (remainder a ws j)) n))

  pub sizes_come_to : sum_to (size a ws) n ≡ a
  sizes_come_to = omega (arith, sum_to_add (quotient a ws) (λ i. one (gets_extra a ws i)) n, extras_come_to, quotients_within)

  -- nothing leftover over goes where nothing was cut off
  extra_or_none : (i : ℕ) → (one (gets_extra a ws i) ≡ 0) ⊎ ((one (gets_extra a ws i) ≡ 1) × (0 < remainder a ws i))
  extra_or_none i = cut_or (place_rank (remainder a ws) n i) (leftover a ws) (remainder a ws i) (one (gets_extra a ws i)) (none_left_over i) (ap one (gets_extra_is i))

  pub sizes_near : (i : ℕ) → (size a ws i * total_weight ws < a * weight_at ws i + total_weight ws) × (a * weight_at ws i < size a ws i * total_weight ws + total_weight ws)
  sizes_near i = near (total_weight ws) (quotient a ws i) (remainder a ws i) (a * weight_at ws i) (one (gets_extra a ws i)) (split i) (remainder_lt i) (extra_or_none i)
