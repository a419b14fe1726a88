-- Ranks: how many places come before a place, by what they hold.
use Rattle.std.proofs.Common.{◌≡◌, ℕ, zero, suc, ◌+◌, ◌<◌, ◌≤◌, Bool, ◌&&◌, ◌||◌, eqb, ltb, leb, ap, inl, inr, arith}
use Rattle.std.proofs.lemmas.Bool.{cases_eq, cases_lt}
use Rattle.std.proofs.lemmas.Bool.Decides.{nat_tests}
use Rattle.amounts.specs.Sums.{sum_to, count_to, one}
use Rattle.amounts.proofs.Sums.{sum_to_more, sum_to_ext, sum_to_le, sum_to_lt, count_to_le}
use Rattle.sharing.specs.Shares.{ranks_before, rank_by}

-- the place j holds more than the place i, or as much and comes earlier
abbrev pub place_before : (ℕ → ℕ) → ℕ → ℕ → Bool
place_before r j i = ltb (r i) (r j) || (eqb (r j) (r i) && ltb j i)

-- how many of n places come before the place i
abbrev pub place_rank : (ℕ → ℕ) → ℕ → ℕ → ℕ
place_rank r n i = count_to (λ j. place_before r j i) n

step_low : (a b x y h k : ℕ) → b ≡ a + one (ltb x y) → (y ≤ x → a < h) → (x < y → h ≤ a) → k ≤ h → one (ltb b k) ≡ one (ltb a k)
step_low a b x y h k e p q l = let s = cases_lt x y in grind (arith, nat_tests)

step_high : (a b x y h m : ℕ) → b ≡ a + one (ltb x y) → (y ≤ x → a < h) → (x < y → h ≤ a) → h ≤ m → one (ltb b (suc m)) ≡ one (ltb a m)
step_high a b x y h m e p q l = let s = cases_lt x y in grind (arith, nat_tests)

module _ (r : ℕ → ℕ) where
  -- fewer come before the larger
  pub place_rank_falls : (n i j : ℕ) → r i < r j → place_rank r n j ≤ place_rank r n i
  place_rank_falls n i j h = sum_to_le _ _ n (λ k l. grind (arith, nat_tests))

  -- of equals the earlier has no more before it
  pub place_rank_earlier : (n i j : ℕ) → r i ≡ r j → i < j → place_rank r n i ≤ place_rank r n j
  place_rank_earlier n i j h l = sum_to_le _ _ n (λ k m. grind (arith, nat_tests))

  -- the places that hold t or more
  abbrev pub upper : ℕ → ℕ → ℕ
  upper t n = count_to (λ j. leb t (r j)) n

  pub place_rank_inside : (t n i : ℕ) → i < n → t ≤ r i → place_rank r n i < upper t n
  place_rank_inside t n i l h = sum_to_lt _ _ n i l (λ k m. grind (arith, nat_tests)) (grind (arith, nat_tests))

  pub place_rank_outside : (t n i : ℕ) → r i < t → upper t n ≤ place_rank r n i
  place_rank_outside t n i h = sum_to_le _ _ n (λ k m. grind (arith, nat_tests))

  -- one place more
  place_rank_last : (n : ℕ) → place_rank r (suc n) n ≡ upper (r n) n
  place_rank_last n =
      let here : one (place_before r n n) ≡ 0 = grind (arith, nat_tests) in
      let below : place_rank r n n ≡ upper (r n) n = sum_to_ext _ _ n (λ k l. grind (arith, nat_tests)) in
      omega arith

  place_rank_more : (n i : ℕ) → i < n → place_rank r (suc n) i ≡ place_rank r n i + one (ltb (r i) (r n))
  place_rank_more n i l =
      let here : one (place_before r n i) ≡ one (ltb (r i) (r n)) = grind (arith, nat_tests) in
      omega arith

  abbrev Ranked : ℕ → ℕ → Type 0
  Ranked n k = count_to (λ i. ltb (place_rank r n i) k) n ≡ k

  low : (n k : ℕ) → k ≤ upper (r n) n → Ranked n k → Ranked (suc n) k
  low n k b before =
      let same : sum_to (λ i. one (ltb (place_rank r (suc n) i) k)) n ≡ count_to (λ i. ltb (place_rank r n i) k) n =
      sum_to_ext _ _ n (λ i m. step_low (place_rank r n i) (place_rank r (suc n) i) (r i) (r n) (upper (r n) n) k (place_rank_more n i m) (place_rank_inside (r n) n i m) (place_rank_outside (r n) n i) b) in
      let last : one (ltb (place_rank r (suc n) n) k) ≡ 0 = let e = place_rank_last n in grind (arith, nat_tests) in
      omega (arith, same, last, before)

  high : (n m : ℕ) → upper (r n) n ≤ m → Ranked n m → Ranked (suc n) (suc m)
  high n m b before =
      let same : sum_to (λ i. one (ltb (place_rank r (suc n) i) (suc m))) n ≡ count_to (λ i. ltb (place_rank r n i) m) n =
      sum_to_ext _ _ n (λ i v. step_high (place_rank r n i) (place_rank r (suc n) i) (r i) (r n) (upper (r n) n) m (place_rank_more n i v) (place_rank_inside (r n) n i v) (place_rank_outside (r n) n i) b) in
      let last : one (ltb (place_rank r (suc n) n) (suc m)) ≡ 1 = let e = place_rank_last n in grind (arith, nat_tests) in
      omega (arith, same, last, before)

  -- exactly k places have fewer than k before them
  pub place_rank_counts : (n k : ℕ) → k ≤ n → count_to (λ i. ltb (place_rank r n i) k) n ≡ k
  place_rank_counts zero k l = omega arith
  place_rank_counts (suc n) zero l = low n 0 (omega arith) (place_rank_counts n 0 (omega arith))
  place_rank_counts (suc n) (suc m) l = elim (cases_lt m (upper (r n) n)) [
    | inl a ↦ low n (suc m) a (place_rank_counts n (suc m) (omega (arith, count_to_le (λ j. leb (r n) (r j)) n)))
    | inr b ↦ high n m b (place_rank_counts n m (omega arith))
  ]

-- ---- lines that take part: those of weight zero hold nothing
weighed : (w x y : ℕ) (b : Bool) → (w ≡ 0 → x ≡ 0) → 0 < y → (ltb 0 w && (ltb y x || (eqb x y && b))) ≡ (ltb y x || (eqb x y && b))
weighed w x y b h l = let s = cases_eq w 0 in grind (arith, nat_tests)

above : (w x y : ℕ) (b : Bool) → (w ≡ 0 → x ≡ 0) → y ≡ 0 → one (leb 1 x) ≤ one (ltb 0 w && (ltb y x || (eqb x y && b)))
above w x y b h l = let s = cases_eq w 0 in grind (arith, nat_tests)

module _ (w r : ℕ → ℕ) (empty : (k : ℕ) → w k ≡ 0 → r k ≡ 0) where
  -- before a place that holds something only those that take part come
  pub rank_is : (n i : ℕ) → 0 < r i → rank_by w r n i ≡ place_rank r n i
  rank_is n i l = sum_to_ext _ _ n (λ k m. ap one (weighed (w k) (r k) (r i) (ltb k i) (empty k) l))

  -- all that hold something come before one that does not
  pub rank_outside : (n i : ℕ) → r i ≡ 0 → upper r 1 n ≤ rank_by w r n i
  rank_outside n i e = sum_to_le _ _ n (λ k m. above (w k) (r k) (r i) (ltb k i) (empty k) e)

-- ---- a loop that counts them, and what it may read them from
pub rank_step : (w r : ℕ → ℕ) (place j n m : ℕ) (b : Bool) → n ≡ rank_by w r j place → b ≡ ranks_before w r j place → m ≡ n + one b → m ≡ rank_by w r (j + 1) place
rank_step w r place j n m b e f g = omega (arith, sum_to_more (λ k. one (ranks_before w r k place)) j, ap one f)

same_test : (w x y u v : ℕ) (b : Bool) → x ≡ y → u ≡ v → (ltb 0 w && (ltb x u || (eqb u x && b))) ≡ (ltb 0 w && (ltb y v || (eqb v y && b)))
same_test w x y u v b e f = cc

pub rank_ext : (w r s : ℕ → ℕ) (n i : ℕ) → i < n → ((k : ℕ) → k < n → r k ≡ s k) → rank_by w r n i ≡ rank_by w s n i
rank_ext w r s n i l h = sum_to_ext _ _ n (λ k m. ap one (same_test (w k) (r i) (s i) (r k) (s k) (ltb k i) (h i l) (h k m)))
