-- Whole numbers from the exact quotient n ÷ d: first what each rule asks of the answer, then the answer as a function.
use Rattle.std.specs.Prelude.{◌≡◌, ℕ, ◌+◌, ◌*◌, ◌/◌, ◌%◌, ◌<◌, ◌≤◌, ℤ, pos, negsuc, ◌-ℤ◌, ◌*ℤ◌, neg_ℤ, nat_le, unsigned_abs}
use Rattle.amounts.specs.Sums.{one}

-- how far the whole number r lies from n ÷ d, in d-ths
abbrev pub distance : ℤ → ℕ → ℤ → ℕ
distance n d r = unsigned_abs (r *ℤ pos d -ℤ n)

-- r is n ÷ d rounded: no whole number lies nearer, and of two that lie equally near it is the one away from zero
pub record Rounded (n : ℤ) (d : ℕ) (r : ℤ) : Type 0 where
  pub near : 2 * distance n d r ≤ d
  pub away_at_tie : 2 * distance n d r ≡ d → unsigned_abs n < unsigned_abs r * d

-- r is n ÷ d cut towards zero: less than one off, and not past n ÷ d
pub record Cut (n : ℤ) (d : ℕ) (r : ℤ) : Type 0 where
  pub near : distance n d r < d
  pub not_past : unsigned_abs r * d ≤ unsigned_abs n

-- the size m with the sign of z
abbrev pub with_sign : ℤ → ℕ → ℤ
with_sign (pos _) m = pos m
with_sign (negsuc _) m = neg_ℤ (pos m)

abbrev pub quotient_cut : ℤ → ℕ → ℤ
quotient_cut n d = with_sign n (unsigned_abs n / d)

-- one more where twice the remainder reaches the divisor
abbrev pub quotient_rounded : ℤ → ℕ → ℤ
quotient_rounded n d = with_sign n (unsigned_abs n / d + one (nat_le d (2 * (unsigned_abs n % d))))
