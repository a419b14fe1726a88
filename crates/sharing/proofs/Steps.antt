-- Sizes within the amount, and lines that get nothing.
use Rattle.std.proofs.Common.{◌≡◌, ℕ, suc, ◌+◌, ◌*◌, ◌/◌, ◌<◌, ◌≤◌, ◌&&◌, ltb, List, length, ℤ, pos, negsuc, neg_ℤ, ap, ◌∙◌, inl, inr, mul-zero, arith}
use native.Mathlib.Nat.{zero-div}
use Rattle.std.proofs.lemmas.Bool.{cases_lt}
use Rattle.std.proofs.lemmas.List.{get_or_past}
use Rattle.amounts.specs.Sums.{one}
use Rattle.amounts.proofs.Sums.{term_le_sum_to}
use Rattle.sharing.specs.Shares.{weight_at, total_weight, leftover, rank, size, part}
use Rattle.sharing.proofs.Fair.{sizes_come_to}

pub size_within : (a : ℕ) (ws : List ℕ) → 0 < total_weight ws → (i : ℕ) → i < length ws → size a ws i ≤ a
size_within a ws some i l = omega (arith, term_le_sum_to (size a ws) (length ws) i l, sizes_come_to a ws some)

-- ---- lines that get nothing
pub no_total_no_weight : (ws : List ℕ) (i : ℕ) → total_weight ws ≡ 0 → weight_at ws i ≡ 0
no_total_no_weight ws i e = elim (cases_lt i (length ws)) [ inl l ↦ omega (arith, term_le_sum_to (weight_at ws) (length ws) i l) | inr l ↦ get_or_past ws i 0 l ]

no_size : (a : ℕ) (ws : List ℕ) (i : ℕ) → weight_at ws i ≡ 0 → size a ws i ≡ 0
no_size a ws i e =
    ap (λ w. a * w / total_weight ws + one (ltb 0 w && ltb (rank a ws i) (leftover a ws))) e
    ∙ ap (λ x. x / total_weight ws + 0) (mul-zero a) ∙ ap (λ x. x + 0) (zero-div (total_weight ws)) ∙ omega arith

pub no_weight_no_part : (z : ℤ) (ws : List ℕ) (i : ℕ) → weight_at ws i ≡ 0 → part z ws i ≡ pos 0
no_weight_no_part (pos a) ws i e = ap pos (no_size a ws i e)
no_weight_no_part (negsuc a) ws i e = ap (λ x. neg_ℤ (pos x)) (no_size (suc a) ws i e)

pub no_total_no_part : (z : ℤ) (ws : List ℕ) (i : ℕ) → total_weight ws ≡ 0 → part z ws i ≡ pos 0
no_total_no_part z ws i e = no_weight_no_part z ws i (no_total_no_weight ws i e)
