-- What the year promises once its cost reconciliation is accepted.
use Rattle.std.specs.Prelude.{◌≡◌, ℕ, ◌<◌, List, ℤ, pos, ◌+ℤ◌, Result, OnOk}
use Rattle.amounts.specs.Ranges.{accounts, areas}
use Rattle.amounts.specs.Sums.{int_sum_to}
use Rattle.billing.specs.Bills.{Sources}
use Rattle.billing.specs.Laws.{Alike}
use Rattle.ledger.specs.Blocks.{Block, cell_at, account_at}
use Rattle.ledger.specs.Units.{kwh_of, pence_of}
use Rattle.ledger.specs.declared.block.Sums.{Sums}
use Rattle.ledger.specs.declared.block.VolumeAdjustment.{VolumeAdjustment}
use Rattle.reconciling.specs.Costs.{delivery_adjustment, energy_adjustment}
use Rattle.reconciling.specs.Sheets.{row_at, cost_at}
use Rattle.reconciling.specs.Volumes.{volume_adjustment}
use Rattle.reconciling.specs.declared.fault.ReconcileFault.{ReconcileFault}
use Rattle.reconciling.specs.declared.sheets.AreaRow.{AreaRow}
use Rattle.statements.specs.Layout.{statement_bytes}
use Rattle.year.specs.declared.states.SettledYear.{SettledYear}
use Rattle.year.specs.declared.states.VolumeSettledYear.{VolumeSettledYear}
use Rattle.year.specs.Accepted.{RecordBytes, Posted, accepted, SameRecords, sums_of}
use Rattle.year.specs.Fairness.{FairVolumes, FairCosts}
use Rattle.year.specs.Runs.{Run, VolumeSettled, Settled}
use Rattle.year.specs.Statements.{statement_of}

-- the figure of each account, added up
abbrev pub over_accounts : (ℕ → ℤ) → ℤ
over_accounts figure = int_sum_to figure accounts

abbrev pub over_areas : (ℕ → ℤ) → ℤ
over_areas figure = int_sum_to figure areas

-- s are the sums of the accepted records' bills, v the volume adjustments that the rules define for them and the sheet
pub record Reconciled (s : ℕ → ℕ → Sums) (v : ℕ → ℕ → VolumeAdjustment) (sheet : List AreaRow) (costs : List ℕ) (energy : ℕ) (b : Block) : Type 0 where
  -- every cell's sums are those of the accepted records
  pub sums : (account area : ℕ) → account < accounts → area < areas → (cell_at b.cells account area).sums ≡ s account area
  -- every adjustment is the one that the rules define for those sums and the accepted sheets
  pub volumes : (account area : ℕ) → account < accounts → area < areas → (cell_at b.cells account area).volume ≡ v account area
  pub deliveries : (account area : ℕ) → account < accounts → area < areas → (cell_at b.cells account area).cost ≡ delivery_adjustment s v costs account area
  pub energies : (account : ℕ) → account < accounts → (account_at b.accounts account).cost ≡ energy_adjustment s v energy account
  -- in every area billed kWh and volume adjustments come to the supplied kWh
  pub kwh : (area : ℕ) → area < areas → over_accounts (λ account. kwh_of (s account area).metered +ℤ kwh_of (s account area).modelled) +ℤ over_accounts (λ account. (cell_at b.cells account area).volume.kwh) ≡ pos (row_at sheet area).supplied
  -- in every area billed delivery pence and both delivery adjustments come to the delivery cost
  pub delivery : (area : ℕ) → area < areas → over_accounts (λ account. pence_of (s account area).delivery) +ℤ (over_accounts (λ account. (cell_at b.cells account area).volume.delivery) +ℤ over_accounts (λ account. (cell_at b.cells account area).cost)) ≡ pos (cost_at costs area)
  -- over the network billed energy pence and both energy adjustments come to the energy cost
  pub network : over_accounts (λ account. over_areas (λ area. pence_of (s account area).energy)) +ℤ (over_accounts (λ account. over_areas (λ area. (cell_at b.cells account area).volume.energy)) +ℤ over_accounts (λ account. (account_at b.accounts account).cost)) ≡ pos energy
  -- every amount is shared fairly
  pub fair_volumes : FairVolumes s sheet b.cells
  pub fair_costs : FairCosts s v costs energy b

-- equal in every figure, and in every byte of every account's statement
pub record SameEnd (other b : Block) : Type 0 where
  pub block : other ≡ b
  pub statements : (account : ℕ) → account < accounts → statement_bytes (statement_of other account) ≡ statement_bytes (statement_of b account)

-- every other year that accepted the same records equally often, in any order, by books that answer alike, equal tables and equal sheets, ends alike
abbrev pub EndsAlike : Sources → List RecordBytes → List AreaRow → List ℕ → ℕ → Block → Type 0
EndsAlike m records sheet costs energy b =
    (k : Sources) (posts : List Posted) (year : SettledYear) (other : Block) → Alike m k → SameRecords records (accepted posts) →
    Run k (Settled year sheet costs energy) posts other → SameEnd other b

pub record Settlement (m : Sources) (records : List RecordBytes) (sheet : List AreaRow) (costs : List ℕ) (energy : ℕ) (b : Block) : Type 0 where
  pub reconciled : Reconciled (sums_of m records) (volume_adjustment (sums_of m records) sheet) sheet costs energy b
  pub order : EndsAlike m records sheet costs energy b

-- THE YEAR'S PROMISE: whatever run led to the block, once the cost reconciliation is accepted the year is settled by the records that were accepted
abbrev pub YearSettles : VolumeSettledYear → Block → List ℕ → ℕ → Result SettledYear (VolumeSettledYear × ReconcileFault) → Block → Type 0
YearSettles y b costs energy r after =
    (m : Sources) (posts : List Posted) (sheet : List AreaRow) → Run m (VolumeSettled y sheet) posts b →
    OnOk r (Settlement m (accepted posts) sheet costs energy after)
