-- A refused reconciliation has its ground in the block as it is left.
use Rattle.std.proofs.Common.{◌≡◌, ℕ, List, Some, None, Err, Option, sym, ap, subst}
use Rattle.ledger.specs.Blocks.{Block}
use Rattle.reconciling.specs.Outcomes.{sums_in, unless_fault, volume_fault, volume_outcome, cost_fault, cost_outcome, cost_adjustments}
use Rattle.reconciling.specs.Volumes.{volume_adjustments}
use Rattle.reconciling.specs.declared.fault.ReconcileFault.{ReconcileFault}
use Rattle.reconciling.specs.declared.sheets.AreaRow.{AreaRow}
use Rattle.year.specs.Promises.{ReconcilesVolume, ReconcilesCost, volume_answer, cost_answer}
use Rattle.year.specs.declared.states.OpenYear.{OpenYear}
use Rattle.year.specs.declared.states.VolumeSettledYear.{VolumeSettledYear}
use Rattle.year.proofs.Outcomes.{accepted_refused, volume_refused_keeps, cost_refused_keeps}

module _ {A : Type 0} (x : A) where
  volume_ground_of : (y z : OpenYear) (f : ReconcileFault) (o : Option ReconcileFault) → Err (z, f) ≡ volume_answer y (unless_fault o x) → o ≡ Some f
  volume_ground_of y z f None e = accepted_refused _ (z, f) (sym e)
  volume_ground_of y z f (Some g) e = let h : ◌≡◌ {A = OpenYear × ReconcileFault} (z, f) (y, g) = cc in sym (ap (λ (q : OpenYear × ReconcileFault). Some q.1) h)

  cost_ground_of : (y z : VolumeSettledYear) (f : ReconcileFault) (o : Option ReconcileFault) → Err (z, f) ≡ cost_answer y (unless_fault o x) → o ≡ Some f
  cost_ground_of y z f None e = accepted_refused _ (z, f) (sym e)
  cost_ground_of y z f (Some g) e = let h : ◌≡◌ {A = VolumeSettledYear × ReconcileFault} (z, f) (y, g) = cc in sym (ap (λ (q : VolumeSettledYear × ReconcileFault). Some q.1) h)

pub volume_ground : {y z : OpenYear} {b after : Block} {sheet : List AreaRow} {f : ReconcileFault} → ReconcilesVolume y b sheet (Err (z, f)) after → volume_fault after sheet ≡ Some f
unfolding volume_outcome
volume_ground {y} {z} {b} {after} {sheet} {f} p =
    subst (λ (d : Block). volume_fault d sheet ≡ Some f) (sym (volume_refused_keeps p))
    (volume_ground_of (volume_adjustments (sums_in b.cells) sheet) y z f (volume_fault b sheet) p.answer)

pub cost_ground : {y z : VolumeSettledYear} {b after : Block} {costs : List ℕ} {energy : ℕ} {f : ReconcileFault} → ReconcilesCost y b costs energy (Err (z, f)) after → cost_fault after costs energy ≡ Some f
unfolding cost_outcome
cost_ground {y} {z} {b} {after} {costs} {energy} {f} p =
    subst (λ (d : Block). cost_fault d costs energy ≡ Some f) (sym (cost_refused_keeps p))
    (cost_ground_of (cost_adjustments b.cells costs energy) y z f (cost_fault b costs energy) p.answer)
