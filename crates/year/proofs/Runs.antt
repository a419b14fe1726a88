-- What a run has made of its block: a function of the accepted records and the accepted sheets.
use Rattle.std.proofs.Common.{◌≡◌, ℕ, List, sym, ap, ◌∙◌, ap₂}
use Rattle.billing.specs.Bills.{Sources}
use Rattle.ledger.specs.Blocks.{Block, block}
use Rattle.ledger.specs.declared.block.Cell.{Cell}
use Rattle.ledger.specs.declared.block.Sums.{Sums}
use Rattle.reconciling.specs.Costs.{delivery_adjustment, energy_adjustment}
use Rattle.reconciling.specs.Outcomes.{sums_in, cost_adjustments}
use Rattle.reconciling.specs.Volumes.{volume_adjustment, volume_adjustments}
use Rattle.year.specs.Accepted.{RecordBytes, Posted, accepted, sums_of}
use Rattle.year.specs.Outcomes.{with_bill, with_volumes, with_costs, accounts_with_costs}
use Rattle.year.specs.Runs.{Stage, Opened, VolumeSettled, Settled, Run, opened, posted, post_refused, volume_reconciled, volume_refused, cost_reconciled, cost_refused}
use Rattle.year.proofs.Blocks.{cells_of, accounts_of, no_volume, no_delivery, no_energy, cleared_is}
use Rattle.year.proofs.Outcomes.{opens_cleared, post_accepted, post_refused_keeps, volume_accepted, volume_refused_keeps, cost_accepted, cost_refused_keeps}
use Rattle.year.proofs.Sums.{posted_cells, sums_of_none}
use Rattle.year.proofs.Setting.{volumes_set, costs_set, energies_set}

-- the block at a stage, by the sums of the accepted records
unfoldable pub block_of : (ℕ → ℕ → Sums) → Stage → Block
block_of s (Opened y) = block (cells_of s no_volume no_delivery) (accounts_of no_energy)
block_of s (VolumeSettled y sheet) = block (cells_of s (volume_adjustment s sheet) no_delivery) (accounts_of no_energy)
block_of s (Settled y sheet costs energy) = block (cells_of s (volume_adjustment s sheet) (delivery_adjustment s (volume_adjustment s sheet) costs)) (accounts_of (energy_adjustment s (volume_adjustment s sheet) energy))

abbrev pub block_at : Sources → Stage → List RecordBytes → Block
block_at m st rs = block_of (sums_of m rs) st

module _ (m : Sources) where
  pub run_block : {st : Stage} {ps : List Posted} {b : Block} → Run m st ps b → b ≡ block_at m st (accepted ps)
  unfolding accepted block_of
  run_block (opened h) = opens_cleared h ∙ cleared_is ∙ ap (λ s. block (cells_of s no_volume no_delivery) (accounts_of no_energy)) (λ i a r. sym (sums_of_none m a r) i)
  run_block (posted {ps = ps} {xs = xs} {p = p} run h) =
      let made = post_accepted h in
      made.memory
      ∙ ap (λ (d : Block). block (with_bill d.cells made.bill) d.accounts) (run_block run)
      ∙ ap (λ (cells : List Cell). block cells (accounts_of no_energy)) (posted_cells m (accepted ps) xs p made.bill made.is no_volume no_delivery)
  run_block (post_refused run h) = post_refused_keeps h ∙ run_block run
  run_block (volume_reconciled {ps = ps} {sheet = sheet} run h) =
      volume_accepted h
      ∙ ap (λ (d : Block). block (with_volumes d.cells (volume_adjustments (sums_in d.cells) sheet)) d.accounts) (run_block run)
      ∙ ap (λ (cells : List Cell). block cells (accounts_of no_energy)) (volumes_set (sums_of m (accepted ps)) no_volume no_delivery sheet)
  run_block (volume_refused run h) = volume_refused_keeps h ∙ run_block run
  run_block (cost_reconciled {ps = ps} {sheet = sheet} {costs = costs} {energy = energy} run h) =
      let s = sums_of m (accepted ps) in
      cost_accepted h
      ∙ ap (λ (d : Block). block (with_costs d.cells (cost_adjustments d.cells costs energy).delivery) (accounts_with_costs (cost_adjustments d.cells costs energy).energy)) (run_block run)
      ∙ ap₂ block (costs_set s (volume_adjustment s sheet) no_delivery costs) (energies_set s (volume_adjustment s sheet) no_delivery energy)
  run_block (cost_refused run h) = cost_refused_keeps h ∙ run_block run
