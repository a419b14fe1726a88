-- Sums and counts over the indices below n. Assumes nothing.
use Rattle.std.proofs.Common.{◌≡◌, ℕ, zero, suc, ◌+◌, ◌*◌, ◌<◌, ◌≤◌, Bool, ℤ, pos, map, sum, sym, ◌+ℤ◌, refl, ap, ◌∙◌, ap₂, inl, inr, add-one, arith}
use borrow.Author.Differences.{ints}
use Rattle.std.specs.List.{range_with_len}
use Rattle.std.proofs.lemmas.Bool.{cases_eq}
use Rattle.std.proofs.lemmas.List.FromFn.{sum_by-map-range_with_len_more}
use Rattle.amounts.specs.Sums.{sum_to, int_sum_to, count_to}

pub sum_to_more : (f : ℕ → ℕ) (n : ℕ) → sum_to f (n + 1) ≡ sum_to f n + f n
sum_to_more f n = ap (sum_to f) (add-one n)

pub sum_to_ext : (f g : ℕ → ℕ) (n : ℕ) → ((i : ℕ) → i < n → f i ≡ g i) → sum_to f n ≡ sum_to g n
sum_to_ext f g zero h = refl
sum_to_ext f g (suc n) h = omega (arith, sum_to_ext f g n (λ i l. h i (omega arith)), h n (omega arith))

pub sum_to_le : (f g : ℕ → ℕ) (n : ℕ) → ((i : ℕ) → i < n → f i ≤ g i) → sum_to f n ≤ sum_to g n
sum_to_le f g zero h = omega arith
sum_to_le f g (suc n) h = omega (arith, sum_to_le f g n (λ i l. h i (omega arith)), h n (omega arith))

-- one index has less
pub sum_to_lt : (f g : ℕ → ℕ) (n k : ℕ) → k < n → ((i : ℕ) → i < n → f i ≤ g i) → f k < g k → sum_to f n < sum_to g n
sum_to_lt f g zero k l h s = omega arith
sum_to_lt f g (suc n) k l h s = elim (cases_eq k n) [
  | inl e ↦ (let t : f n < g n = rw e at s in omega (arith, sum_to_le f g n (λ i l. h i (omega arith))))
  | inr d ↦ omega (arith, sum_to_lt f g n k (omega arith) (λ i l. h i (omega arith)) s, h n (omega arith))
]

pub sum_to_add : (f g : ℕ → ℕ) (n : ℕ) → sum_to (λ i. f i + g i) n ≡ sum_to f n + sum_to g n
sum_to_add f g zero = refl
sum_to_add f g (suc n) = omega (arith, sum_to_add f g n)

pub sum_to_mul : (c : ℕ) (f : ℕ → ℕ) (n : ℕ) → sum_to (λ i. c * f i) n ≡ c * sum_to f n
sum_to_mul c f zero = omega arith
sum_to_mul c f (suc n) = omega (arith, sum_to_mul c f n)

pub sum_to_mono : (f : ℕ → ℕ) (k n : ℕ) → k ≤ n → sum_to f k ≤ sum_to f n
sum_to_mono f k zero l = let e : k ≡ 0 = omega arith in rw e (omega arith)
sum_to_mono f k (suc n) l = elim (cases_eq k (suc n)) [ inl e ↦ rw e (omega arith) | inr d ↦ omega (arith, sum_to_mono f k n (omega arith)) ]

pub term_le_sum_to : (f : ℕ → ℕ) (n k : ℕ) → k < n → f k ≤ sum_to f n
term_le_sum_to f n k l = omega (arith, sum_to_mono f (suc k) n l)

pub count_to_le : (p : ℕ → Bool) (n : ℕ) → count_to p n ≤ n
count_to_le p zero = omega arith
count_to_le p (suc n) = let h = count_to_le p n in grind arith

pub int_sum_to_more : (f : ℕ → ℤ) (n : ℕ) → int_sum_to f (n + 1) ≡ int_sum_to f n +ℤ f n
int_sum_to_more f n = ap (int_sum_to f) (add-one n)

pub int_sum_to_ext : (f g : ℕ → ℤ) (n : ℕ) → ((i : ℕ) → i < n → f i ≡ g i) → int_sum_to f n ≡ int_sum_to g n
int_sum_to_ext f g zero h = refl
int_sum_to_ext f g (suc n) h = ap₂ ◌+ℤ◌ (int_sum_to_ext f g n (λ i l. h i (omega arith))) (h n (omega arith))

pub int_sum_to_zero : (n : ℕ) → int_sum_to (λ _. pos 0) n ≡ pos 0
int_sum_to_zero zero = refl
int_sum_to_zero (suc n) = ap (λ x. x +ℤ pos 0) (int_sum_to_zero n)

pub int_sum_to_add : (f g : ℕ → ℤ) (n : ℕ) → int_sum_to (λ i. f i +ℤ g i) n ≡ int_sum_to f n +ℤ int_sum_to g n
int_sum_to_add f g zero = refl
int_sum_to_add f g (suc n) = omega (arith, ints, int_sum_to_add f g n)

-- of sums
pub int_sum_to_add_all : (f g : ℕ → ℕ → ℤ) (m n : ℕ) → int_sum_to (λ i. int_sum_to (λ j. f i j +ℤ g i j) m) n ≡ int_sum_to (λ i. int_sum_to (f i) m) n +ℤ int_sum_to (λ i. int_sum_to (g i) m) n
int_sum_to_add_all f g m n =
    int_sum_to_ext (λ i. int_sum_to (λ j. f i j +ℤ g i j) m) (λ i. int_sum_to (f i) m +ℤ int_sum_to (g i) m) n (λ i _. int_sum_to_add (f i) (g i) m)
    ∙ int_sum_to_add (λ i. int_sum_to (f i) m) (λ i. int_sum_to (g i) m) n

-- the first term apart
pub int_sum_to_front : (f : ℕ → ℤ) (n : ℕ) → int_sum_to f (suc n) ≡ f 0 +ℤ int_sum_to (λ i. f (suc i)) n
int_sum_to_front f zero = omega (arith, ints)
int_sum_to_front f (suc n) = omega (arith, ints, int_sum_to_front f n)

-- a list made number by number adds up number by number
pub sum_of_range : (f : ℕ → ℕ) (n : ℕ) → sum (map f (range_with_len 0 n)) ≡ sum_to f n
sum_of_range f zero = refl
sum_of_range f (suc n) =
    ap (λ (k : ℕ). sum (map f (range_with_len 0 k))) (sym (add-one n))
    ∙ sum_by-map-range_with_len_more (λ x. x) f 0 n n (omega arith)
    ∙ ap (λ (s : ℕ). s + f n) (sum_of_range f n)
