-- How a sharing ends, by its checks.
use Rattle.std.proofs.Common.{◌≡◌, ℕ, ◌<◌, ◌≤◌, true, false, List, map, length, ℤ, Ok, Err, Result, sym, ◌∙◌}
use Rattle.std.proofs.lemmas.Bool.{cond-true, cond-false, and_left, and_right, and_from, le-leb, lt-leb}
use Rattle.sharing.specs.declared.fault.ShareFault.{ShareFault}
use Rattle.sharing.specs.declared.fault.ShareFault.TheVariants.{BeyondLimits, Accounts, TooFewPlaces}
use Rattle.sharing.specs.Limits.{figures_in_limit, rising}
use Rattle.sharing.specs.Outcomes.{outcome, accepted, parts_after}
use Rattle.sharing.specs.Shares.{counting_weight, part, unshared, written}

module _ (z : ℤ) (ws : List ℤ) (cs : List ℕ) (ps : List ℤ) where
  abbrev Ends : Result ℤ ShareFault → List ℤ → Type 0
  Ends r qs = (r ≡ outcome z ws cs (length ps)) × (qs ≡ parts_after z ws cs ps)

  pub ends_at_limits : figures_in_limit z ws ≡ false → Ends (Err BeyondLimits) ps
  ends_at_limits e = (sym (cond-false _ _ _ e), sym (cond-false _ _ _ (and_left _ _ e)))

  pub ends_at_accounts : figures_in_limit z ws ≡ true → rising 0 cs ≡ false → Ends (Err Accounts) ps
  ends_at_accounts e f = (sym (cond-true _ _ _ e ∙ cond-false _ _ _ f), sym (cond-false _ _ _ (and_right _ _ (and_left _ _ f))))

  pub ends_at_places : figures_in_limit z ws ≡ true → rising 0 cs ≡ true → length ps < length ws → Ends (Err TooFewPlaces) ps
  ends_at_places e f l =
      let k = lt-leb (length ws) (length ps) l in (
        sym (cond-true _ _ _ e ∙ cond-true _ _ _ f ∙ cond-false _ _ _ k),
        sym (cond-false (accepted z ws cs (length ps)) (written (part z (map counting_weight ws)) (length ws) ps) ps (and_right (figures_in_limit z ws) _ (and_right (rising 0 cs) _ k))),
      )

  pub ends_shared : figures_in_limit z ws ≡ true → rising 0 cs ≡ true → length ws ≤ length ps → Ends (Ok (unshared z (map counting_weight ws))) (written (part z (map counting_weight ws)) (length ws) ps)
  ends_shared e f l =
      let k = le-leb (length ws) (length ps) l in
      (sym (cond-true _ _ _ e ∙ cond-true _ _ _ f ∙ cond-true _ _ _ k), sym (cond-true _ _ _ (and_from _ _ e (and_from _ _ f k))))
