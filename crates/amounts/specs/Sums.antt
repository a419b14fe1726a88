-- Sums and counts over the indices below n.
use Rattle.std.specs.Prelude.{ℕ, zero, suc, ◌+◌, Bool, cond, ℤ, pos, ◌+ℤ◌}

-- f 0 + f 1 + … + f (n - 1)
abbrev pub sum_to : (ℕ → ℕ) → ℕ → ℕ
sum_to f zero = 0
sum_to f (suc n) = sum_to f n + f n

-- the same, of integers
abbrev pub int_sum_to : (ℕ → ℤ) → ℕ → ℤ
int_sum_to f zero = pos 0
int_sum_to f (suc n) = int_sum_to f n +ℤ f n

-- a test that passes counts one
abbrev pub one : Bool → ℕ
one b = cond b 1 0

-- how many indices below n pass the test p
abbrev pub count_to : (ℕ → Bool) → ℕ → ℕ
count_to p n = sum_to (λ i. one (p i)) n
