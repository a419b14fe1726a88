-- How closing ends, by what the reconciliations answer.
use Rattle.std.proofs.Common.{◌≡◌, ℕ, List, Ok, Err, Result, MatchResult, sym, ap, subst, ◌∙◌}
use Rattle.std.specs.Result.{IsErrAnd}
use Rattle.billing.specs.Bills.{Sources}
use Rattle.ledger.specs.Blocks.{Block}
use Rattle.reconciling.specs.declared.fault.ReconcileFault.{ReconcileFault}
use Rattle.reconciling.specs.declared.sheets.AreaRow.{AreaRow}
use Rattle.year.proofs.Outcomes.{accepted_refused}
use Rattle.year.specs.Promises.{ReconcilesVolume, ReconcilesCost}
use Rattle.year.specs.Settlements.{YearSettles}
use Rattle.year.specs.Steps.{VolumeExtends, CostExtends}
use Rattle.year.specs.declared.states.OpenYear.{OpenYear}
use Rattle.year.specs.declared.states.SettledYear.{SettledYear}
use Rattle.year.specs.declared.states.VolumeSettledYear.{VolumeSettledYear}
use Rattle.closing.specs.Closings.{Closes}
use Rattle.closing.specs.Walks.{AllPosted}
use Rattle.closing.specs.declared.fault.CloseFault.{CloseFault}
use Rattle.closing.specs.declared.fault.CloseFault.TheVariants.{Volume, Cost}
use Rattle.closing.proofs.Grounds.{volume_ground, cost_ground}

-- a closure that makes one fault of another
pub mapped : {A E D : Type 0} (h : E → D) (r : Result A E) (s : Result A D) (P : E → D → Type 0) → ((e : E) (d : D) → P e d → d ≡ h e) → MatchResult r (λ x. s ≡ Ok x) (λ e. IsErrAnd s (P e)) → MatchResult r (λ x. s ≡ Ok x) (λ e. s ≡ Err (h e))
mapped h (Ok x) s P made is = is
mapped h (Err e) (Ok y) P made is = absurd is
mapped h (Err e) (Err d) P made is = ap Err (made e d is)

abbrev pub volume_of : OpenYear × ReconcileFault → CloseFault
volume_of s = Volume s.1

abbrev pub cost_of : VolumeSettledYear × ReconcileFault → CloseFault
cost_of s = Cost s.1

module _ {m : Sources} {xs : List ℕ} {sheet : List AreaRow} (costs : List ℕ) (energy : ℕ) (before : Block) {b after : Block} where
  pub volume_ends : {y : OpenYear} (r : Result VolumeSettledYear (OpenYear × ReconcileFault)) (s : Result VolumeSettledYear CloseFault) (f : CloseFault) → MatchResult r (λ x. s ≡ Ok x) (λ e. s ≡ Err (volume_of e)) → s ≡ Err f → AllPosted m xs y b → ReconcilesVolume y b sheet r after → VolumeExtends y b sheet r after → Closes m xs sheet costs energy before (Err f) after
  volume_ends (Ok z) s f is fails all p more = accepted_refused z f (sym is ∙ fails)
  volume_ends (Err e) s f is fails all p more =
      let same : f ≡ Volume e.1 = cc in
      subst (λ k. Closes m xs sheet costs energy before (Err k) after) (sym same)
      (record { posts = all.posts; year = e.0; whole = all.whole; run = more m all.posts all.run; ground = volume_ground p })

  pub cost_ends : {o : OpenYear} {first : Block} {y : VolumeSettledYear} (r : Result SettledYear (VolumeSettledYear × ReconcileFault)) (s : Result SettledYear CloseFault) → MatchResult r (λ x. s ≡ Ok x) (λ e. s ≡ Err (cost_of e)) → AllPosted m xs o first → VolumeExtends o first sheet (Ok y) b → ReconcilesCost y b costs energy r after → CostExtends y b costs energy r after → YearSettles y b costs energy r after → Closes m xs sheet costs energy before s after
  cost_ends (Ok z) s is all volume p more settles =
      let run = volume m all.posts all.run in
      subst (λ k. Closes m xs sheet costs energy before k after) (sym is)
      (record { posts = all.posts; whole = all.whole; run = more m all.posts sheet run; settlement = settles m all.posts sheet run })
  cost_ends (Err e) s is all volume p more settles =
      let run = volume m all.posts all.run in
      subst (λ k. Closes m xs sheet costs energy before k after) (sym is)
      (record { posts = all.posts; year = e.0; whole = all.whole; run = more m all.posts sheet run; ground = cost_ground p })
