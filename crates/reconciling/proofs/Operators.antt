-- An amount shared over accounts 1 to n, where account 0 takes what is not shared.
use Rattle.std.proofs.Common.{◌≡◌, ℕ, suc, ◌+◌, ◌≤◌, true, false, cond, eqb, List, ◌∷◌, ◌++◌, map, length, ℤ, pos, ◌+ℤ◌, nat_abs, Ok, Err, Result, sym, refl, ap, ◌∙◌, ap₂, inl, inr, add-one, arith}
use Rattle.std.specs.List.{range_with_len}
use Rattle.std.proofs.lemmas.List.{append-nil, drop_all}
use Rattle.std.proofs.lemmas.Bool.{cases_Bool}
use Rattle.sharing.specs.declared.fault.ShareFault.{ShareFault}
use Rattle.sharing.specs.declared.fault.ShareFault.TheVariants.{BeyondLimits}
use Rattle.sharing.specs.Limits.{figures_in_limit, rising}
use Rattle.sharing.specs.Outcomes.{outcome, parts_after}
use Rattle.sharing.specs.Shares.{part, unshared, total_weight}
use Rattle.sharing.proofs.Outcomes.{ends_at_limits, ends_shared}
use Rattle.reconciling.specs.Sharing.{that_count, over_operators}
use Rattle.reconciling.proofs.Mapped.{map_counted_from}

same_ok : (u v : ℤ) (f : ShareFault) → ◌≡◌ {A = Result ℤ ShareFault} (Ok u) (Ok v) → u ≡ v
same_ok u v f e = cc

ok_not_err : (u : ℤ) (f : ShareFault) → ◌≡◌ {A = Result ℤ ShareFault} (Ok u) (Err f) → ⊥
ok_not_err u f e = let z : ◌≡◌ {A = ℕ} 0 1 = cc in omega arith

-- ---- a sharing refuses only figures beyond their limits, where accounts rise and there is room for each part
module _ (z : ℤ) (ws : List ℤ) (cs : List ℕ) (ps : List ℤ) (rise : rising 0 cs ≡ true) (room : length ws ≤ length ps) where
  pub shared_if : (u : ℤ) → Ok u ≡ outcome z ws cs (length ps) → (figures_in_limit z ws ≡ true) × (u ≡ unshared z (that_count ws))
  shared_if u h = elim (cases_Bool (figures_in_limit z ws)) [
    | inl e ↦ (e, same_ok u (unshared z (that_count ws)) BeyondLimits (h ∙ sym (ends_shared z ws cs ps e rise room).0))
    | inr e ↦ absurd (ok_not_err u BeyondLimits (h ∙ sym (ends_at_limits z ws cs ps e).0))
  ]

  pub refused_if : (f : ShareFault) → Err f ≡ outcome z ws cs (length ps) → figures_in_limit z ws ≡ false
  refused_if f h = elim (cases_Bool (figures_in_limit z ws)) [
    | inl e ↦ absurd (ok_not_err (unshared z (that_count ws)) f ((ends_shared z ws cs ps e rise room).0 ∙ sym h))
    | inr e ↦ e
  ]

  -- the places have the parts, and no more
  pub parts_if : length ps ≤ length ws → figures_in_limit z ws ≡ true → parts_after z ws cs ps ≡ map (part z (that_count ws)) (range_with_len 0 (length ws))
  parts_if full e =
      sym (ends_shared z ws cs ps e rise room).1
      ∙ ap (λ qs. map (part z (that_count ws)) (range_with_len 0 (length ws)) ++ qs) (drop_all (length ws) ps full)
      ∙ append-nil (map (part z (that_count ws)) (range_with_len 0 (length ws)))

-- ---- what is not shared is no more than the amount
pub unshared_le : (z : ℤ) (ws : List ℕ) → nat_abs (unshared z ws) ≤ nat_abs z
unshared_le z ws = elim (eqb (total_weight ws) 0) as (λ b. nat_abs (cond b z (pos 0)) ≤ nat_abs z) [ true ↦ omega arith | false ↦ omega arith ]

-- ---- account 0 first, then the parts
module _ (before z : ℤ) (ws : List ℕ) where
  over_operator : (k : ℕ) → over_operators before z ws (k + 1) ≡ part z ws k
  unfolding over_operators
  over_operator k = ap (over_operators before z ws) (add-one k)

  over_first : over_operators before z ws 0 ≡ before +ℤ unshared z ws
  unfolding over_operators
  over_first = refl

  pub operators_in_order : (n : ℕ) → (before +ℤ unshared z ws) ∷ map (part z ws) (range_with_len 0 n) ≡ map (over_operators before z ws) (range_with_len 0 (suc n))
  operators_in_order n =
      ap₂ (λ (x : ℤ) (xs : List ℤ). x ∷ xs) (sym over_first)
      (ap (λ (f : ℕ → ℤ). map f (range_with_len 0 n)) (λ i k. sym (over_operator k) i) ∙ map_counted_from (over_operators before z ws) 1 n)
