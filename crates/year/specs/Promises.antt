-- What each call promises: its answer, and all memory.
use Rattle.std.specs.Prelude.{◌≡◌, ℕ, ◌+◌, ◌-◌, ◌^◌, min, cond, List, Ok, Err, Result}
use Rattle.billing.specs.Bills.{Sources}
use Rattle.billing.specs.declared.bill.Bill.{Bill}
use Rattle.billing.specs.declared.fault.LedgerFault.{LedgerFault}
use Rattle.billing.specs.declared.fault.LedgerFault.TheVariants as ledger
use Rattle.billing.specs.declared.fault.PostFault.{PostFault}
use Rattle.ledger.specs.Blocks.{Block, cleared}
use Rattle.ledger.specs.Limits.{counts_right}
use Rattle.reconciling.specs.Outcomes.{volume_outcome, cost_outcome}
use Rattle.reconciling.specs.declared.fault.ReconcileFault.{ReconcileFault}
use Rattle.reconciling.specs.declared.sheets.AreaRow.{AreaRow}
use Rattle.year.specs.declared.states.OpenYear.{OpenYear}
use Rattle.year.specs.declared.states.SettledYear.{SettledYear}
use Rattle.year.specs.declared.states.VolumeSettledYear.{VolumeSettledYear}
use Rattle.year.specs.Outcomes.{post_outcome, post_memory, volume_memory, cost_memory}

-- ---- the states, by how many records were accepted
abbrev pub open_at : ℕ → OpenYear
open_at n = record { accepted = n }

abbrev pub volume_settled_at : ℕ → VolumeSettledYear
volume_settled_at n = record { accepted = n }

abbrev pub settled_at : ℕ → SettledYear
settled_at n = record { accepted = n }

-- one record more, as far as the number goes
abbrev pub one_more : ℕ → ℕ
one_more n = min (n + 1) (2 ^ 64 - 1)

-- ---- opening clears a block of the right counts, whatever it held
pub record Opens (b : Block) (r : Result OpenYear LedgerFault) (after : Block) : Type 0 where
  pub answer : r ≡ cond (counts_right b) (Ok (open_at 0)) (Err ledger.Block)
  pub memory : after ≡ cond (counts_right b) cleared b

-- ---- a post answers where the next record begins, or the fault, and hands the year back
abbrev pub post_answer : {A : Type 0} → OpenYear → Result Bill A → Result (OpenYear × ℕ) (OpenYear × A)
post_answer y (Ok b) = Ok (open_at (one_more y.accepted), b.next)
post_answer y (Err f) = Err (y, f)

pub record Posts (m : Sources) (y : OpenYear) (b : Block) (xs : List ℕ) (p : ℕ) (r : Result (OpenYear × ℕ) (OpenYear × PostFault)) (after : Block) : Type 0 where
  pub answer : r ≡ post_answer y (post_outcome m b xs p)
  pub memory : after ≡ post_memory b (post_outcome m b xs p)

-- ---- a reconciliation answers the next state, or hands the year back with the fault
abbrev pub volume_answer : {A : Type 0} → OpenYear → Result A ReconcileFault → Result VolumeSettledYear (OpenYear × ReconcileFault)
volume_answer y (Ok x) = Ok (volume_settled_at y.accepted)
volume_answer y (Err f) = Err (y, f)

pub record ReconcilesVolume (y : OpenYear) (b : Block) (sheet : List AreaRow) (r : Result VolumeSettledYear (OpenYear × ReconcileFault)) (after : Block) : Type 0 where
  pub answer : r ≡ volume_answer y (volume_outcome b sheet)
  pub memory : after ≡ volume_memory b (volume_outcome b sheet)

abbrev pub cost_answer : {A : Type 0} → VolumeSettledYear → Result A ReconcileFault → Result SettledYear (VolumeSettledYear × ReconcileFault)
cost_answer y (Ok x) = Ok (settled_at y.accepted)
cost_answer y (Err f) = Err (y, f)

pub record ReconcilesCost (y : VolumeSettledYear) (b : Block) (costs : List ℕ) (energy : ℕ) (r : Result SettledYear (VolumeSettledYear × ReconcileFault)) (after : Block) : Type 0 where
  pub answer : r ≡ cost_answer y (cost_outcome b costs energy)
  pub memory : after ≡ cost_memory b (cost_outcome b costs energy)
