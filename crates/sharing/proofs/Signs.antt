-- The parts with the amount's sign: what they come to, and how near they lie to the exact proportions.
use Rattle.std.proofs.Common.{◌≡◌, ℕ, zero, suc, ◌+◌, ◌*◌, ◌<◌, ◌≤◌, List, length, ℤ, pos, negsuc, ◌+ℤ◌, ◌-ℤ◌, ◌*ℤ◌, neg_ℤ, nat_abs, sym, refl, ap, ap₂, ◌∙◌, arith}
use lib.IntN.{neg_ℤ-+ℤ}
use borrow.Author.Differences.{up, down, ints, sum_is_lem}
use Rattle.amounts.specs.Quotients.{with_sign}
use Rattle.amounts.specs.Sums.{sum_to, int_sum_to}
use Rattle.sharing.specs.Shares.{weight_at, total_weight, size, part}
use Rattle.sharing.specs.Laws.{off, off_in_all, Split}
use Rattle.amounts.proofs.Sums.{sum_to_ext}
use Rattle.sharing.proofs.Fair.{sizes_come_to, sizes_near}
use Rattle.amounts.proofs.Quotients.{dist}
use Rattle.sharing.proofs.Nearest.{sizes_nearest}

-- an integer sum, by its two parts
int_sum_to_is : (p : ℕ → ℤ) (n : ℕ) → up (int_sum_to p n) + sum_to (λ i. down (p i)) n ≡ down (int_sum_to p n) + sum_to (λ i. up (p i)) n
int_sum_to_is p zero = refl
int_sum_to_is p (suc n) = omega (arith, int_sum_to_is p n, sum_is_lem (int_sum_to p n) (p n))

-- ---- how much of p goes with the sign of z, and how much against it
abbrev along : ℤ → ℤ → ℕ
along (pos a) p = up p
along (negsuc a) p = down p

abbrev against : ℤ → ℤ → ℕ
against (pos a) p = down p
against (negsuc a) p = up p

off_is : (t w : ℕ) (z p : ℤ) → nat_abs (p *ℤ pos t -ℤ z *ℤ pos w) ≡ dist (along z p * t) (against z p * t + nat_abs z * w)
off_is t w (pos a) (pos s) = omega (arith, ints)
off_is t w (pos a) (negsuc s) = omega (arith, ints)
off_is t w (negsuc a) (pos s) = omega (arith, ints)
off_is t w (negsuc a) (negsuc s) = omega (arith, ints)

along_sum : (z : ℤ) (p : ℕ → ℤ) (n : ℕ) → int_sum_to p n ≡ z → sum_to (λ i. along z (p i)) n ≡ nat_abs z + sum_to (λ i. against z (p i)) n
along_sum (pos a) p n e = omega (arith, int_sum_to_is p n, ap up e, ap down e)
along_sum (negsuc a) p n e = omega (arith, int_sum_to_is p n, ap up e, ap down e)

-- the size m with the sign of z goes all along it
along_all : (z : ℤ) (m : ℕ) → (along z (with_sign z m) ≡ m) × (against z (with_sign z m) ≡ 0)
along_all (pos a) m = (refl, refl)
along_all (negsuc a) zero = (refl, refl)
along_all (negsuc a) (suc m) = (refl, refl)

off_size : (t w : ℕ) (z : ℤ) (m : ℕ) → nat_abs (with_sign z m *ℤ pos t -ℤ z *ℤ pos w) ≡ dist (m * t) (nat_abs z * w)
off_size t w z m =
    let a = along_all z m in
    let none : 0 * t + nat_abs z * w ≡ nat_abs z * w = omega arith in
    off_is t w z (with_sign z m) ∙ ap₂ (λ x y. dist (x * t) (y * t + nat_abs z * w)) a.0 a.1 ∙ ap (dist (m * t)) none

int_sum_to_sign : (z : ℤ) (f : ℕ → ℕ) (n : ℕ) → int_sum_to (λ i. with_sign z (f i)) n ≡ with_sign z (sum_to f n)
int_sum_to_sign (pos a) f zero = refl
int_sum_to_sign (negsuc a) f zero = refl
int_sum_to_sign (pos a) f (suc n) = ap (λ x. x +ℤ pos (f n)) (int_sum_to_sign (pos a) f n)
int_sum_to_sign (negsuc a) f (suc n) = ap (λ x. x +ℤ neg_ℤ (pos (f n))) (int_sum_to_sign (negsuc a) f n) ∙ sym (neg_ℤ-+ℤ (pos (sum_to f n)) (pos (f n)))

own_sign : (z : ℤ) → with_sign z (nat_abs z) ≡ z
own_sign (pos a) = refl
own_sign (negsuc a) = refl

pub parts_come_to : (z : ℤ) (ws : List ℕ) → 0 < total_weight ws → Split z ws (part z ws)
parts_come_to z ws some = int_sum_to_sign z (size (nat_abs z) ws) (length ws) ∙ ap (with_sign z) (sizes_come_to (nat_abs z) ws some) ∙ own_sign z

pub parts_near : (z : ℤ) (ws : List ℕ) → 0 < total_weight ws → (i : ℕ) → off z ws i (part z ws i) < total_weight ws
parts_near z ws some i = omega (arith, off_size (total_weight ws) (weight_at ws i) z (size (nat_abs z) ws i), sizes_near (nat_abs z) ws some i)

pub parts_nearest : (z : ℤ) (ws : List ℕ) → 0 < total_weight ws → (p : ℕ → ℤ) → Split z ws p → off_in_all z ws (part z ws) ≤ off_in_all z ws p
parts_nearest z ws some p e =
    let n : ℕ = length ws in
    let mine = sum_to_ext (λ i. off z ws i (part z ws i)) (λ i. dist (size (nat_abs z) ws i * total_weight ws) (nat_abs z * weight_at ws i)) n (λ i _. off_size (total_weight ws) (weight_at ws i) z (size (nat_abs z) ws i)) in
    let other = sum_to_ext (λ i. off z ws i (p i)) (λ i. dist (along z (p i) * total_weight ws) (against z (p i) * total_weight ws + nat_abs z * weight_at ws i)) n (λ i _. off_is (total_weight ws) (weight_at ws i) z (p i)) in
    omega (arith, mine, other, sizes_nearest (nat_abs z) ws some (λ i. along z (p i)) (λ i. against z (p i)) (along_sum z p n e))
