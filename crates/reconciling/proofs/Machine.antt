-- Sums as the machine has them, where no sum can overflow.
use Rattle.std.proofs.Common.{◌≡◌, ℕ, zero, suc, ◌+◌, ◌*◌, ◌^◌, ◌<◌, ◌≤◌, ℤ, pos, ◌+ℤ◌, ◌-ℤ◌, nat_abs, sym, ap, ◌∙◌, ap₂, arith, w64, SFits, to_z, of_z}
use borrow.Author.Differences.{ints}
use Rattle.std.proofs.lemmas.Int.{to_z-of_z}
use Rattle.amounts.specs.Sums.{int_sum_to}
use Rattle.amounts.proofs.Sums.{int_sum_to_more}
use Rattle.reconciling.proofs.Additions.{add_is, add_le}

-- what fits is as it was given
pub as_given : (x : ℤ) → SFits w64 x → to_z w64 (of_z w64 x) ≡ x
as_given x f = to_z-of_z w64 x f

pub back : (x : ℤ) (m : ℕ) → nat_abs x ≤ m → m < 2 ^ 63 → to_z w64 (of_z w64 x) ≡ x
back x m small few = omega (arith, ints)

-- a and b, of sizes up to m and n, are added
add_fits : (a b : ℤ) (m n : ℕ) → nat_abs a ≤ m → nat_abs b ≤ n → m + n < 2 ^ 63 → SFits w64 (a +ℤ to_z w64 (of_z w64 b))
add_fits a b m n small_a small_b few = omega (arith, ints)

-- ---- the same, where a went to bits too
module _ (a b : ℤ) (m n : ℕ) (small_a : nat_abs a ≤ m) (small_b : nat_abs b ≤ n) (few : m + n < 2 ^ 63) where
  same_a : to_z w64 (of_z w64 a) ≡ a
  same_a = back a m small_a (omega arith)

  pub read_fits : SFits w64 (to_z w64 (of_z w64 a) +ℤ to_z w64 (of_z w64 b))
  read_fits = add_fits (to_z w64 (of_z w64 a)) b m n (omega (arith, ap nat_abs same_a)) small_b few

  pub read_is : to_z w64 (of_z w64 (to_z w64 (of_z w64 a) +ℤ to_z w64 (of_z w64 b))) ≡ a +ℤ b
  read_is = add_is (to_z w64 (of_z w64 a)) b m n (omega (arith, ap nat_abs same_a)) small_b few ∙ ap (λ x. x +ℤ b) same_a

  pub read_within : nat_abs (to_z w64 (of_z w64 (to_z w64 (of_z w64 a) +ℤ to_z w64 (of_z w64 b)))) ≤ m + n
  read_within = omega (arith, ap nat_abs read_is, add_le a b m n small_a small_b few)

-- ---- a loop adds up f, of sizes up to k: s is the sum of the first i, and r the next
module _ (f : ℕ → ℤ) (i k : ℕ) (s r : ℤ) (so_far : s ≡ int_sum_to f i) (small_s : nat_abs s ≤ i * k) (next : r ≡ f i) (small_r : nat_abs r ≤ k) (few : i * k + k < 2 ^ 63) where
  pub total_fits : SFits w64 (s +ℤ to_z w64 (of_z w64 r))
  total_fits = add_fits s r (i * k) k small_s small_r few

  pub total_more : to_z w64 (of_z w64 (s +ℤ to_z w64 (of_z w64 r))) ≡ int_sum_to f (i + 1)
  total_more = add_is s r (i * k) k small_s small_r few ∙ ap₂ ◌+ℤ◌ so_far next ∙ sym (int_sum_to_more f i)

  pub total_within : nat_abs (to_z w64 (of_z w64 (s +ℤ to_z w64 (of_z w64 r)))) ≤ i * k + k
  total_within = omega (arith, ap nat_abs (add_is s r (i * k) k small_s small_r few), add_le s r (i * k) k small_s small_r few)

-- ---- t, which is s, of a size up to m, is subtracted from the natural n
module _ (n : ℕ) (t s : ℤ) (is : t ≡ s) (m : ℕ) (small : nat_abs t ≤ m) (few : n + m < 2 ^ 63) where
  pub less_fits : SFits w64 (to_z w64 n -ℤ t)
  less_fits = omega (arith, ints)

  pub less_is : to_z w64 (of_z w64 (to_z w64 n -ℤ t)) ≡ pos n -ℤ s
  less_is = omega (arith, ints)

-- ---- sums of figures none of which is beyond k
pub sum_within : (f : ℕ → ℤ) (k n : ℕ) → ((i : ℕ) → i < n → nat_abs (f i) ≤ k) → nat_abs (int_sum_to f n) ≤ n * k
sum_within f k zero h = omega arith
sum_within f k (suc n) h = let front = sum_within f k n (λ i l. h i (omega arith)) in let last = h n (omega arith) in omega (arith, ints)
