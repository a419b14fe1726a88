-- What an answer tells of the outcome, and of the memory.
use Rattle.std.proofs.Common.{◌≡◌, ℕ, Bool, true, false, cond, List, Some, None, Ok, Err, Option, Result, sym, refl, arith}
use Rattle.billing.specs.Bills.{Sources, bill_at}
use Rattle.billing.specs.declared.bill.Bill.{Bill}
use Rattle.billing.specs.declared.fault.LedgerFault.TheVariants as ledger
use Rattle.billing.specs.declared.fault.PostFault.{PostFault}
use Rattle.billing.specs.declared.fault.PostFault.TheVariants as post
use Rattle.ledger.specs.Adding.{added}
use Rattle.ledger.specs.Blocks.{Block, block, cell_at, cleared}
use Rattle.ledger.specs.Limits.{sound, sums_within, counts_right}
use Rattle.ledger.specs.declared.block.Cell.{Cell}
use Rattle.ledger.specs.declared.block.VolumeAdjustment.{VolumeAdjustment}
use Rattle.reconciling.specs.Outcomes.{sums_in, unless_fault, volume_fault, volume_outcome, cost_fault, cost_adjustments, cost_outcome}
use Rattle.reconciling.specs.Volumes.{volume_adjustments}
use Rattle.reconciling.specs.declared.costs.CostAdjustments.{CostAdjustments}
use Rattle.reconciling.specs.declared.fault.ReconcileFault.{ReconcileFault}
use Rattle.reconciling.specs.declared.sheets.AreaRow.{AreaRow}
use Rattle.year.specs.declared.states.OpenYear.{OpenYear}
use Rattle.year.specs.declared.states.SettledYear.{SettledYear}
use Rattle.year.specs.declared.states.VolumeSettledYear.{VolumeSettledYear}
use Rattle.year.specs.Outcomes.{with_bill, within_cell, post_outcome, post_memory, with_volumes, volume_memory, with_costs, accounts_with_costs, cost_memory}
use Rattle.year.specs.Promises.{open_at, Opens, post_answer, Posts, volume_answer, ReconcilesVolume, cost_answer, ReconcilesCost}

-- an acceptance is no refusal
pub accepted_refused : {A E X : Type 0} (x : A) (f : E) → ◌≡◌ {A = Result A E} (Ok x) (Err f) → X
accepted_refused x f e = absurd (let z : ◌≡◌ {A = ℕ} 0 1 = cc in omega arith)

-- ---- opening
clears : {y : OpenYear} (right : Bool) (b after : Block) → Ok y ≡ cond right (Ok (open_at 0)) (Err ledger.Block) → after ≡ cond right cleared b → after ≡ cleared
clears true b after e f = f
clears {y} false b after e f = accepted_refused y ledger.Block e

pub opens_cleared : {y : OpenYear} {b after : Block} → Opens b (Ok y) after → after ≡ cleared
opens_cleared {y} {b} {after} h = clears (counts_right b) b after h.answer h.memory

-- ---- a post
in_cell : (cells : List Cell) (p : ℕ) (r : Result Bill PostFault) (x : Bill) → within_cell cells p r ≡ Ok x → r ≡ Ok x
in_cell cells p (Ok b) x e = within (sums_within (added (cell_at cells b.account b.area).sums b)) e
  where
    within : (fits : Bool) → cond fits (Ok b) (Err (post.Ledger (ledger.SumBeyondLimit p b.next))) ≡ Ok x → ◌≡◌ {A = Result Bill PostFault} (Ok b) (Ok x)
    within true e = e
    within false e = accepted_refused x (post.Ledger (ledger.SumBeyondLimit p b.next)) (sym e)
in_cell cells p (Err f) x e = accepted_refused x f (sym e)

-- an accepted post has a bill
post_bill : (m : Sources) (b : Block) (xs : List ℕ) (p : ℕ) (x : Bill) → post_outcome m b xs p ≡ Ok x → bill_at m xs p ≡ Ok x
unfolding post_outcome
post_bill m b xs p x e = by (sound b) e
  where
    by : (s : Bool) → cond s (within_cell b.cells p (bill_at m xs p)) (Err (post.Ledger ledger.Block)) ≡ Ok x → bill_at m xs p ≡ Ok x
    by true e = in_cell b.cells p (bill_at m xs p) x e
    by false e = accepted_refused x (post.Ledger ledger.Block) (sym e)

-- its bill, and the memory with it
pub record Billed (m : Sources) (b : Block) (xs : List ℕ) (p : ℕ) (after : Block) : Type 0 where
  pub bill : Bill
  pub is : bill_at m xs p ≡ Ok bill
  pub memory : after ≡ block (with_bill b.cells bill) b.accounts

pub post_accepted : {m : Sources} {y z : OpenYear} {b after : Block} {xs : List ℕ} {p next : ℕ} → Posts m y b xs p (Ok (z, next)) after → Billed m b xs p after
unfolding post_memory
post_accepted {m} {y} {z} {b} {after} {xs} {p} {next} h = by (post_outcome m b xs p) refl h.answer h.memory
  where
    by : (o : Result Bill PostFault) → post_outcome m b xs p ≡ o → Ok (z, next) ≡ post_answer y o → after ≡ post_memory b o → Billed m b xs p after
    by (Ok x) is e f = record { bill = x; is = post_bill m b xs p x is; memory = f }
    by (Err g) is e f = accepted_refused (z, next) (y, g) e

pub post_refused_keeps : {m : Sources} {y z : OpenYear} {b after : Block} {xs : List ℕ} {p : ℕ} {f : PostFault} → Posts m y b xs p (Err (z, f)) after → after ≡ b
unfolding post_memory
post_refused_keeps {m} {y} {z} {b} {after} {xs} {p} {f} h = by (post_outcome m b xs p) h.answer h.memory
  where
    by : (o : Result Bill PostFault) → Err (z, f) ≡ post_answer y o → after ≡ post_memory b o → after ≡ b
    by (Ok x) e k = accepted_refused _ (z, f) (sym e)
    by (Err g) e k = k

-- ---- a volume reconciliation
pub volume_accepted : {y : OpenYear} {z : VolumeSettledYear} {b after : Block} {sheet : List AreaRow} → ReconcilesVolume y b sheet (Ok z) after → after ≡ block (with_volumes b.cells (volume_adjustments (sums_in b.cells) sheet)) b.accounts
unfolding volume_outcome volume_memory
volume_accepted {y} {z} {b} {after} {sheet} h = by (volume_fault b sheet) h.answer h.memory
  where
    by : (o : Option ReconcileFault) → Ok z ≡ volume_answer y (unless_fault o (volume_adjustments (sums_in b.cells) sheet)) → after ≡ volume_memory b (unless_fault o (volume_adjustments (sums_in b.cells) sheet)) → after ≡ block (with_volumes b.cells (volume_adjustments (sums_in b.cells) sheet)) b.accounts
    by None e k = k
    by (Some f) e k = accepted_refused z (y, f) e

pub volume_refused_keeps : {y z : OpenYear} {b after : Block} {sheet : List AreaRow} {f : ReconcileFault} → ReconcilesVolume y b sheet (Err (z, f)) after → after ≡ b
unfolding volume_memory
volume_refused_keeps {y} {z} {b} {after} {sheet} {f} h = by (volume_outcome b sheet) h.answer h.memory
  where
    by : (o : Result (List VolumeAdjustment) ReconcileFault) → Err (z, f) ≡ volume_answer y o → after ≡ volume_memory b o → after ≡ b
    by (Ok x) e k = accepted_refused _ (z, f) (sym e)
    by (Err g) e k = k

-- ---- a cost reconciliation
pub cost_accepted : {y : VolumeSettledYear} {z : SettledYear} {b after : Block} {costs : List ℕ} {energy : ℕ} → ReconcilesCost y b costs energy (Ok z) after → after ≡ block (with_costs b.cells (cost_adjustments b.cells costs energy).delivery) (accounts_with_costs (cost_adjustments b.cells costs energy).energy)
unfolding cost_outcome cost_memory
cost_accepted {y} {z} {b} {after} {costs} {energy} h = by (cost_fault b costs energy) h.answer h.memory
  where
    by : (o : Option ReconcileFault) → Ok z ≡ cost_answer y (unless_fault o (cost_adjustments b.cells costs energy)) → after ≡ cost_memory b (unless_fault o (cost_adjustments b.cells costs energy)) → after ≡ block (with_costs b.cells (cost_adjustments b.cells costs energy).delivery) (accounts_with_costs (cost_adjustments b.cells costs energy).energy)
    by None e k = k
    by (Some f) e k = accepted_refused z (y, f) e

pub cost_refused_keeps : {y z : VolumeSettledYear} {b after : Block} {costs : List ℕ} {energy : ℕ} {f : ReconcileFault} → ReconcilesCost y b costs energy (Err (z, f)) after → after ≡ b
unfolding cost_memory
cost_refused_keeps {y} {z} {b} {after} {costs} {energy} {f} h = by (cost_outcome b costs energy) h.answer h.memory
  where
    by : (o : Result CostAdjustments ReconcileFault) → Err (z, f) ≡ cost_answer y o → after ≡ cost_memory b o → after ≡ b
    by (Ok x) e k = accepted_refused _ (z, f) (sym e)
    by (Err g) e k = k
