-- Sums of the machine, within known bounds.
use Rattle.std.proofs.Common.{◌≡◌, ℕ, ◌+◌, ◌^◌, ◌<◌, ◌≤◌, ℤ, ◌+ℤ◌, nat_abs, arith, w64, SFits, to_z, of_z}
use Rattle.std.proofs.lemmas.Int.{ints}

pub fits_within : (z : ℤ) (a : ℕ) → nat_abs z ≤ a → a < 2 ^ 63 → SFits w64 z
fits_within z a l f = omega (arith, ints)

-- ---- r is added to s
module _ (s r : ℤ) (a b : ℕ) (small_s : nat_abs s ≤ a) (small_r : nat_abs r ≤ b) (few : a + b < 2 ^ 63) where
  pub add_is : to_z w64 (of_z w64 (s +ℤ to_z w64 (of_z w64 r))) ≡ s +ℤ r
  add_is = omega (arith, ints)

  pub add_le : nat_abs (s +ℤ r) ≤ a + b
  add_le = omega (arith, ints)
