-- What the block of a settled year holds, cell by cell and account by account.
use Rattle.std.proofs.Common.{◌≡◌, ℕ, ◌<◌, List, ap, ◌∙◌}
use Rattle.amounts.specs.Ranges.{accounts, areas}
use Rattle.billing.specs.Bills.{Sources}
use Rattle.ledger.specs.Blocks.{Block, cell_at, account_at}
use Rattle.ledger.specs.declared.block.Sums.{Sums}
use Rattle.ledger.specs.declared.block.VolumeAdjustment.{VolumeAdjustment}
use Rattle.reconciling.specs.Costs.{delivery_adjustment, energy_adjustment}
use Rattle.reconciling.specs.Volumes.{volume_adjustment}
use Rattle.reconciling.specs.declared.sheets.AreaRow.{AreaRow}
use Rattle.year.specs.declared.states.SettledYear.{SettledYear}
use Rattle.year.specs.Accepted.{Posted, accepted, sums_of}
use Rattle.year.specs.Runs.{Settled, Run}
use Rattle.year.proofs.Blocks.{cell_of, account_by, cells_at, accounts_index}
use Rattle.year.proofs.Runs.{block_of, run_block}

module _ (s : ℕ → ℕ → Sums) (y : SettledYear) (sheet : List AreaRow) (costs : List ℕ) (energy : ℕ) where
  -- the volume adjustments that the rules define for the sums
  abbrev volumes : ℕ → ℕ → VolumeAdjustment
  volumes = volume_adjustment s sheet

  pub settled_cell : (account area : ℕ) → account < accounts → area < areas → cell_at (block_of s (Settled y sheet costs energy)).cells account area ≡ cell_of (s account area) (volumes account area) (delivery_adjustment s volumes costs account area)
  unfolding block_of
  settled_cell account area k l = cells_at s volumes (delivery_adjustment s volumes costs) account area k l

  pub settled_account : (account : ℕ) → account < accounts → account_at (block_of s (Settled y sheet costs energy)).accounts account ≡ account_by (energy_adjustment s volumes energy) account
  unfolding block_of
  settled_account account k = accounts_index (energy_adjustment s volumes energy) account k

module _ {m : Sources} {y : SettledYear} {sheet : List AreaRow} {costs : List ℕ} {energy : ℕ} {posts : List Posted} {b : Block} (run : Run m (Settled y sheet costs energy) posts b) where
  pub run_sums : (account area : ℕ) → account < accounts → area < areas → (cell_at b.cells account area).sums ≡ sums_of m (accepted posts) account area
  run_sums account area k l = ap (λ d. (cell_at d.cells account area).sums) (run_block m run) ∙ ap (λ c. c.sums) (settled_cell (sums_of m (accepted posts)) y sheet costs energy account area k l)

  pub run_volumes : (account area : ℕ) → account < accounts → area < areas → (cell_at b.cells account area).volume ≡ volume_adjustment (sums_of m (accepted posts)) sheet account area
  run_volumes account area k l = ap (λ d. (cell_at d.cells account area).volume) (run_block m run) ∙ ap (λ c. c.volume) (settled_cell (sums_of m (accepted posts)) y sheet costs energy account area k l)

  pub run_deliveries : (account area : ℕ) → account < accounts → area < areas → (cell_at b.cells account area).cost ≡ delivery_adjustment (sums_of m (accepted posts)) (volume_adjustment (sums_of m (accepted posts)) sheet) costs account area
  run_deliveries account area k l = ap (λ d. (cell_at d.cells account area).cost) (run_block m run) ∙ ap (λ c. c.cost) (settled_cell (sums_of m (accepted posts)) y sheet costs energy account area k l)

  pub run_energies : (account : ℕ) → account < accounts → (account_at b.accounts account).cost ≡ energy_adjustment (sums_of m (accepted posts)) (volume_adjustment (sums_of m (accepted posts)) sheet) energy account
  run_energies account k = ap (λ d. (account_at d.accounts account).cost) (run_block m run) ∙ ap (λ c. c.cost) (settled_account (sums_of m (accepted posts)) y sheet costs energy account k)
