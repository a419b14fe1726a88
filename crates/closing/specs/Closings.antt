-- A year that is closed over one batch.
use Rattle.std.specs.Prelude.{◌≡◌, ℕ, false, List, Some, Ok, Err, Result}
use Rattle.billing.specs.Bills.{Sources}
use Rattle.ledger.specs.Blocks.{Block}
use Rattle.ledger.specs.Limits.{counts_right}
use Rattle.reconciling.specs.Outcomes.{volume_fault, cost_fault}
use Rattle.reconciling.specs.declared.fault.ReconcileFault.{ReconcileFault}
use Rattle.reconciling.specs.declared.sheets.AreaRow.{AreaRow}
use Rattle.year.specs.Accepted.{Posted, accepted}
use Rattle.year.specs.Runs.{Run, Opened, VolumeSettled, Settled}
use Rattle.year.specs.Settlements.{Settlement}
use Rattle.year.specs.declared.states.OpenYear.{OpenYear}
use Rattle.year.specs.declared.states.SettledYear.{SettledYear}
use Rattle.year.specs.declared.states.VolumeSettledYear.{VolumeSettledYear}
use Rattle.closing.specs.declared.fault.CloseFault.{CloseFault}
use Rattle.closing.specs.declared.fault.CloseFault.TheVariants as fault
use Rattle.closing.specs.Walks.{WholeBatch}

-- every record of the batch was posted, and the year is settled by exactly those that were accepted
pub record Closed (m : Sources) (xs : List ℕ) (sheet : List AreaRow) (costs : List ℕ) (energy : ℕ) (year : SettledYear) (b : Block) : Type 0 where
  pub posts : List Posted
  pub whole : WholeBatch xs posts
  pub run : Run m (Settled year sheet costs energy) posts b
  pub settlement : Settlement m (accepted posts) sheet costs energy b

-- the records were posted, and the volumes not reconciled
pub record VolumeRefused (m : Sources) (xs : List ℕ) (sheet : List AreaRow) (f : ReconcileFault) (b : Block) : Type 0 where
  pub posts : List Posted
  pub year : OpenYear
  pub whole : WholeBatch xs posts
  pub run : Run m (Opened year) posts b
  pub ground : volume_fault b sheet ≡ Some f

-- the volumes were reconciled, and the costs not
pub record CostRefused (m : Sources) (xs : List ℕ) (sheet : List AreaRow) (costs : List ℕ) (energy : ℕ) (f : ReconcileFault) (b : Block) : Type 0 where
  pub posts : List Posted
  pub year : VolumeSettledYear
  pub whole : WholeBatch xs posts
  pub run : Run m (VolumeSettled year sheet) posts b
  pub ground : cost_fault b costs energy ≡ Some f

-- how closing ends, by its answer: before and after are the block
abbrev pub Closes : Sources → List ℕ → List AreaRow → List ℕ → ℕ → Block → Result SettledYear CloseFault → Block → Type 0
Closes m xs sheet costs energy before (Ok year) after = Closed m xs sheet costs energy year after
Closes m xs sheet costs energy before (Err fault.Counts) after = (after ≡ before) × (counts_right before ≡ false)
Closes m xs sheet costs energy before (Err (fault.Volume f)) after = VolumeRefused m xs sheet f after
Closes m xs sheet costs energy before (Err (fault.Cost f)) after = CostRefused m xs sheet costs energy f after
