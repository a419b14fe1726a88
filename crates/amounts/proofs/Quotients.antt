-- A quotient that is cut or rounded keeps to its rule, and no other number does. Assumes nothing.
use Rattle.std.proofs.Common.{◌≡◌, ℕ, zero, suc, ◌+◌, ◌-◌, ◌*◌, ◌/◌, ◌%◌, ◌<◌, ◌≤◌, ◌⊎◌, ℤ, pos, negsuc, ◌+ℤ◌, nat_abs, ◌≤ℤ◌, ◌<ℤ◌, sym, refl, ap, ◌∙◌, inl, inr, mul-le-mul_right, mod-lt, arith, w64, SFits}
use native.Mathlib.Nat.{mod-le, div-add-mod}
use lib.Signed.{quot_z}
use borrow.Author.Differences.{ints, up, down}
use Rattle.std.proofs.lemmas.Int.{by_lt_z}
use Rattle.std.specs.Int.{int_signum}
use Rattle.std.proofs.lemmas.Bool.{cases_lt, cases_order, le-leb, lt-leb}
use Rattle.amounts.specs.Sums.{one}
use Rattle.amounts.specs.Quotients.{distance, Rounded, Cut, with_sign, quotient_cut, quotient_rounded}

-- ---- sizes and signs
-- how far apart two numbers are
abbrev pub dist : ℕ → ℕ → ℕ
dist x y = (x - y) + (y - x)

pub nat_abs_with_sign : (z : ℤ) (m : ℕ) → nat_abs (with_sign z m) ≡ m
nat_abs_with_sign (pos a) m = refl
nat_abs_with_sign (negsuc a) zero = refl
nat_abs_with_sign (negsuc a) (suc m) = refl

distance_with_sign : (z : ℤ) (d m : ℕ) → distance z d (with_sign z m) ≡ dist (m * d) (nat_abs z)
distance_with_sign (pos a) d m = omega (arith, ints)
distance_with_sign (negsuc a) d zero = omega (arith, ints)
distance_with_sign (negsuc a) d (suc m) = omega (arith, ints)

-- a number has the sign of z, or lies on the other side of zero
side : (z r : ℤ) (d : ℕ) → (r ≡ with_sign z (nat_abs r)) ⊎ ((distance z d r ≡ nat_abs r * d + nat_abs z) × (0 < nat_abs r))
side (pos a) (pos s) d = inl refl
side (pos a) (negsuc s) d = inr (omega (arith, ints), omega arith)
side (negsuc a) (pos zero) d = inl refl
side (negsuc a) (pos (suc s)) d = inr (omega (arith, ints), omega arith)
side (negsuc a) (negsuc s) d = inl refl

-- ---- what is less than the divisor off, or half of it, has the sign of the amount
same_side : (z r : ℤ) (d : ℕ) → distance z d r < d → r ≡ with_sign z (nat_abs r)
same_side z r d l = elim (side z r d) [ inl e ↦ e | inr p ↦ absurd (omega (arith, p.0, mul-le-mul_right {m = 1} {n = nat_abs r} d p.1)) ]

size_of : (z r : ℤ) (d : ℕ) → distance z d r < d → distance z d r ≡ dist (nat_abs r * d) (nat_abs z)
size_of z r d l = ap (distance z d) (same_side z r d l) ∙ distance_with_sign z d (nat_abs r)

same : (z r s : ℤ) (d : ℕ) → distance z d r < d → distance z d s < d → nat_abs r ≡ nat_abs s → r ≡ s
same z r s d l k e = same_side z r d l ∙ ap (with_sign z) e ∙ sym (same_side z s d k)

-- ---- sizes that are cut
cut_size : (a d m n : ℕ) → m * d ≤ a → a < m * d + d → n * d ≤ a → a < n * d + d → m ≡ n
cut_size a d m n p q u v = elim (cases_order m n) [
  | inl e ↦ e
  | inr o ↦ elim o [
    | inl l ↦ absurd (omega (arith, mul-le-mul_right {m = suc m} {n = n} d l))
    | inr l ↦ absurd (omega (arith, mul-le-mul_right {m = suc n} {n = m} d l))
  ]
]

pub cut_only : (z r s : ℤ) (d : ℕ) → Cut z d r → Cut z d s → r ≡ s
cut_only z r s d p q =
    let m = size_of z r d p.near in
    let n = size_of z s d q.near in
    same z r s d p.near q.near
    (cut_size (nat_abs z) d (nat_abs r) (nat_abs s) p.not_past (omega (arith, m, p.near)) q.not_past (omega (arith, n, q.near)))

pub cut_law : (z : ℤ) (d : ℕ) → 0 < d → Cut z d (quotient_cut z d)
cut_law z d some =
    let m : ℕ = nat_abs z / d in
    let sum = div-add-mod (nat_abs z) d in
    let low = mod-lt (nat_abs z) some in
    record {
      near = omega (arith, distance_with_sign z d m, sum, low);
      not_past = omega (arith, ap (λ x. x * d) (nat_abs_with_sign z m), sum);
    }

-- ---- sizes that are rounded
rounded_size : (a d m n : ℕ) → 0 < d → 2 * dist (m * d) a ≤ d → (2 * dist (m * d) a ≡ d → a < m * d) → 2 * dist (n * d) a ≤ d → m < n → ⊥
rounded_size a d m n some p tie q l =
    let far : m * d + d ≤ n * d = omega (arith, mul-le-mul_right {m = suc m} {n = n} d l) in
    let half : 2 * dist (m * d) a ≡ d = omega arith in
    omega (arith, tie half)

pub rounded_only : (z r s : ℤ) (d : ℕ) → 0 < d → Rounded z d r → Rounded z d s → r ≡ s
rounded_only z r s d some p q =
    let pn : distance z d r < d = omega (arith, p.near) in
    let qn : distance z d s < d = omega (arith, q.near) in
    let m = size_of z r d pn in
    let n = size_of z s d qn in
    same z r s d pn qn (elim (cases_order (nat_abs r) (nat_abs s)) [
      | inl e ↦ e
      | inr o ↦ elim o [
        | inl l ↦ absurd (rounded_size (nat_abs z) d (nat_abs r) (nat_abs s) some (omega (arith, m, p.near)) (λ e. p.away_at_tie (omega (arith, m, e))) (omega (arith, n, q.near)) l)
        | inr l ↦ absurd (rounded_size (nat_abs z) d (nat_abs s) (nat_abs r) some (omega (arith, n, q.near)) (λ e. q.away_at_tie (omega (arith, n, e))) (omega (arith, m, p.near)) l)
      ]
    ])

pub rounds_down : (z : ℤ) (d : ℕ) → 2 * (nat_abs z % d) < d → quotient_rounded z d ≡ with_sign z (nat_abs z / d)
rounds_down z d l = ap (with_sign z) (omega (arith, ap one (lt-leb d (2 * (nat_abs z % d)) l)))

pub rounds_up : (z : ℤ) (d : ℕ) → d ≤ 2 * (nat_abs z % d) → quotient_rounded z d ≡ with_sign z (nat_abs z / d + 1)
rounds_up z d l = ap (with_sign z) (omega (arith, ap one (le-leb d (2 * (nat_abs z % d)) l)))

-- a size that lies near enough, and away from zero at a tie
by_size : (z : ℤ) (d m : ℕ) → 2 * dist (m * d) (nat_abs z) ≤ d → (2 * dist (m * d) (nat_abs z) ≡ d → nat_abs z < m * d) → (r : ℤ) → r ≡ with_sign z m → Rounded z d r
by_size z d m p t r e =
    let far = ap (distance z d) e ∙ distance_with_sign z d m in
    let size = ap nat_abs e ∙ nat_abs_with_sign z m in
    record {
      near = omega (arith, far, p);
      away_at_tie = λ h. omega (arith, t (omega (arith, far, h)), ap (λ x. x * d) size);
    }

pub rounded_law : (z : ℤ) (d : ℕ) → 0 < d → Rounded z d (quotient_rounded z d)
rounded_law z d some =
    let a : ℕ = nat_abs z in
    let sum = div-add-mod a d in
    let low = mod-lt a some in
    elim (cases_lt (2 * (a % d)) d) [
      | inl l ↦ by_size z d (a / d) (omega (arith, sum)) (λ e. absurd (omega (arith, sum, e))) (quotient_rounded z d) (rounds_down z d l)
      | inr l ↦ by_size z d (a / d + 1) (omega (arith, sum, low)) (λ _. omega (arith, sum, low)) (quotient_rounded z d) (rounds_up z d l)
    ]

-- ---- the machine's signed quotient
pub quot_z_cut : (z : ℤ) (d : ℕ) → quot_z z (pos d) ≡ quotient_cut z d
quot_z_cut (pos a) d = refl
quot_z_cut (negsuc a) d = refl

-- one more, away from zero
pub away : (z : ℤ) (m : ℕ) → 0 < nat_abs z → with_sign z m +ℤ int_signum z ≡ with_sign z (m + 1)
away (pos a) m l = omega (arith, ints)
away (negsuc a) m l = omega (arith, ints)

-- the divisor is 2 at least where anything is rounded up, so the size is at most half the amount's, and one more fits
half : (a d : ℕ) → 0 < d → d ≤ 2 * (a % d) → 2 * (a / d) ≤ a
half a d some l =
    let two : 2 ≤ d = omega (arith, mod-lt a some) in
    omega (arith, div-add-mod a d, mul-le-mul_right {m = 2} {n = d} (a / d) two)

pub up_fits : (z : ℤ) (d : ℕ) → 0 < d → d ≤ 2 * (nat_abs z % d) → SFits w64 z → SFits w64 (with_sign z (nat_abs z / d + 1))
up_fits (pos a) d some l f = record { sfits = omega (arith, half a d some l, f.sfits) }
up_fits (negsuc a) d some l f = omega (arith, ints, half (suc a) d some l)

pub not_zero : (z : ℤ) (d : ℕ) → 0 < d → d ≤ 2 * (nat_abs z % d) → 0 < nat_abs z
not_zero z d some l = omega (arith, mod-le (nat_abs z) d)

-- ---- a larger amount is never rounded to less
apart : (a b d : ℕ) → a < b → a * d + d ≤ b * d
apart a b d l = omega (arith, mul-le-mul_right {m = suc a} {n = b} d l)

pub rounded_rises : (z y r s : ℤ) (d : ℕ) → 0 < d → z <ℤ y → Rounded z d r → Rounded y d s → r ≤ℤ s
rounded_rises z y r s d some l p q = by_lt_z s r
    (λ lower. absurd (omega (arith, ints, apart (up s + down r) (up r + down s) d (omega (arith, ints)), p.near, q.near)))
    (λ e. e)

pub rounded_monotone : (z y : ℤ) (d : ℕ) → 0 < d → z ≤ℤ y → quotient_rounded z d ≤ℤ quotient_rounded y d
rounded_monotone z y d some l = by_lt_z z y
    (λ less. rounded_rises z y (quotient_rounded z d) (quotient_rounded y d) d some less (rounded_law z d some) (rounded_law y d some))
    (λ back. let same : z ≡ y = omega (arith, ints) in let e = ap (λ x. quotient_rounded x d) same in omega (arith, ints, e))
