-- An amount shared over all accounts, where account 0 takes what is not shared besides its part.
use Rattle.std.proofs.Common.{◌≡◌, ℕ, zero, suc, ◌<◌, ◌≤◌, true, false, ◌≢◌, List, map, length, get_or, set, ℤ, pos, ◌+ℤ◌, nat_abs, Ok, Err, sym, refl, ap, ◌∙◌, ap₂, arith, length-set}
use Rattle.std.specs.List.{range_with_len}
use Rattle.std.proofs.lemmas.List.FromFn.{fill_by_all, length-range_with_len, length-map-range_with_len, get_or-map-range_with_len}
use Rattle.std.proofs.lemmas.List.{get_or-set_same, get_or-set_other}
use Rattle.amounts.specs.Ranges.{accounts}
use Rattle.sharing.specs.declared.fault.ShareFault.{ShareFault}
use Rattle.sharing.specs.Limits.{figures_in_limit, max_amount}
use Rattle.sharing.specs.Outcomes.{outcome, parts_after}
use Rattle.sharing.specs.Shares.{part, unshared}
use Rattle.sharing.proofs.Fairness.{fair}
use Rattle.sharing.proofs.Lines.{figures_parts}
use Rattle.reconciling.specs.Sharing.{that_count, over_all}
use Rattle.reconciling.proofs.Fair.{length_that_count}
use Rattle.reconciling.proofs.Operators.{shared_if, refused_if, parts_if, unshared_le}

-- ---- the parts of n accounts, and what is not shared added to the first
module _ (z : ℤ) (ws : List ℕ) (n : ℕ) where
  abbrev parts : List ℤ
  parts = map (part z ws) (range_with_len 0 n)

  part_at : (k : ℕ) → k < n → get_or parts k (pos 0) ≡ part z ws k
  part_at k l = get_or-map-range_with_len (part z ws) 0 n k k (pos 0) l (omega arith)

  adjusted_at : (y : ℤ) → y ≡ part z ws 0 +ℤ unshared z ws → (k : ℕ) → k < n → get_or (set parts 0 y) k (pos 0) ≡ over_all z ws k
  unfolding over_all
  adjusted_at y e zero l = get_or-set_same parts 0 y (pos 0) (omega (arith, length-map-range_with_len (part z ws) 0 n)) ∙ e
  adjusted_at y e (suc k) l = let ne : suc k ≢ 0 = λ f. omega arith in get_or-set_other parts 0 (suc k) y (pos 0) ne ∙ part_at (suc k) l

  adjusted : (y : ℤ) → y ≡ part z ws 0 +ℤ unshared z ws → set parts 0 y ≡ map (over_all z ws) (range_with_len 0 n)
  adjusted y e = fill_by_all (over_all z ws) (set parts 0 y) n (pos 0) (length-set parts 0 y ∙ length-map-range_with_len (part z ws) 0 n) (adjusted_at y e)

-- ---- figures that are equal are shared alike
module _ (z z' : ℤ) (ws ws' : List ℤ) (cs cs' : List ℕ) (same_z : z' ≡ z) (same_ws : ws' ≡ ws) (same_cs : cs' ≡ cs) where
  pub same_outcome : (n : ℕ) → outcome z' ws' cs' n ≡ outcome z ws cs n
  same_outcome n = ap (λ y. outcome y ws' cs' n) same_z ∙ ap₂ (λ y x. outcome z y x n) same_ws same_cs

  pub same_after : (ps : List ℤ) → parts_after z' ws' cs' ps ≡ parts_after z ws cs ps
  same_after ps = ap (λ y. parts_after y ws' cs' ps) same_z ∙ ap₂ (λ y x. parts_after z y x ps) same_ws same_cs

-- ---- a call that shares z by the weights ws over all accounts, with a place for each
module _ (z : ℤ) (ws ps : List ℤ) (long : length ws ≡ accounts) (room : length ps ≡ accounts) where
  pub all_refused : (f : ShareFault) → Err f ≡ outcome z ws (range_with_len 0 accounts) (length ps) → figures_in_limit z ws ≡ false
  all_refused = refused_if z ws (range_with_len 0 accounts) ps refl (omega arith)

  -- ---- accepted, with qs in the places after, and u not shared
  module _ (u : ℤ) (qs : List ℤ) (ok : Ok u ≡ outcome z ws (range_with_len 0 accounts) (length ps)) (after : qs ≡ parts_after z ws (range_with_len 0 accounts) ps) where
    shared : (figures_in_limit z ws ≡ true) × (u ≡ unshared z (that_count ws))
    shared = shared_if z ws (range_with_len 0 accounts) ps refl (omega arith) u ok

    pub all_accepted : figures_in_limit z ws ≡ true
    all_accepted = shared.0

    places : qs ≡ map (part z (that_count ws)) (range_with_len 0 accounts)
    places = after ∙ parts_if z ws (range_with_len 0 accounts) ps refl (omega arith) (omega arith) all_accepted ∙ ap (λ n. map (part z (that_count ws)) (range_with_len 0 n)) long

    first : get_or qs 0 (pos 0) ≡ part z (that_count ws) 0
    first = ap (λ xs. get_or xs 0 (pos 0)) places ∙ part_at z (that_count ws) accounts 0 (omega arith)

    pub first_within : nat_abs (get_or qs 0 (pos 0)) ≤ max_amount
    first_within =
        let count = length_that_count ws accounts long in
        let law = fair z (that_count ws) (range_with_len 0 accounts) refl (length-range_with_len 0 accounts ∙ sym count) in
        omega (arith, ap nat_abs first, law.bounded 0 (omega arith), (figures_parts z ws all_accepted).0)

    pub rest_within : nat_abs u ≤ max_amount
    rest_within = omega (arith, ap nat_abs shared.1, unshared_le z (that_count ws), (figures_parts z ws all_accepted).0)

    pub all_adjusted : (y : ℤ) → y ≡ get_or qs 0 (pos 0) +ℤ u → set qs 0 y ≡ map (over_all z (that_count ws)) (range_with_len 0 accounts)
    all_adjusted y e = ap (λ xs. set xs 0 y) places ∙ adjusted z (that_count ws) accounts y (e ∙ ap₂ ◌+ℤ◌ first shared.1)
