-- What each call makes of a block: its answer and the memory are both read off one outcome.
use Rattle.std.specs.Prelude.{ℕ, cond, List, map, ℤ, pos, Ok, Err, Result, slice_index_or, slice_set}
use Rattle.std.specs.List.{range_with_len}
use Rattle.amounts.specs.Ranges.{accounts}
use Rattle.billing.specs.Bills.{Sources, bill_at}
use Rattle.billing.specs.declared.bill.Bill.{Bill}
use Rattle.billing.specs.declared.fault.LedgerFault.TheVariants as ledger
use Rattle.billing.specs.declared.fault.PostFault.{PostFault}
use Rattle.billing.specs.declared.fault.PostFault.TheVariants as post
use Rattle.ledger.specs.Adding.{added}
use Rattle.ledger.specs.Blocks.{Block, block, cell_count, cell_number, cell_at, zero_cell, zero_volume}
use Rattle.ledger.specs.Limits.{sound, sums_within}
use Rattle.ledger.specs.declared.block.AccountRecord.{AccountRecord}
use Rattle.ledger.specs.declared.block.Cell.{Cell}
use Rattle.ledger.specs.declared.block.VolumeAdjustment.{VolumeAdjustment}
use Rattle.reconciling.specs.declared.costs.CostAdjustments.{CostAdjustments}
use Rattle.reconciling.specs.declared.fault.ReconcileFault.{ReconcileFault}

-- ---- a post
-- a bill adds to the sums of its cell, and leaves the adjustments
abbrev pub cell_with_bill : Cell → Bill → Cell
cell_with_bill c b = record { sums = added c.sums b; volume = c.volume; cost = c.cost }

unfoldable pub with_bill : List Cell → Bill → List Cell
with_bill cells b = slice_set cells (cell_number b.account b.area) (cell_with_bill (cell_at cells b.account b.area) b)

-- the bill of the record at p, unless a sum of its cell would go beyond its limit
abbrev pub within_cell : List Cell → ℕ → Result Bill PostFault → Result Bill PostFault
within_cell cells p (Ok b) = cond (sums_within (added (cell_at cells b.account b.area).sums b)) (Ok b) (Err (post.Ledger (ledger.SumBeyondLimit p b.next)))
within_cell cells p (Err f) = Err f

unfoldable pub post_outcome : Sources → Block → List ℕ → ℕ → Result Bill PostFault
post_outcome m b xs p = cond (sound b) (within_cell b.cells p (bill_at m xs p)) (Err (post.Ledger ledger.Block))

-- what a post answers and leaves of its outcome: where the next record begins, and the cells
abbrev pub next_of : Result Bill PostFault → Result ℕ PostFault
next_of (Ok b) = Ok b.next
next_of (Err f) = Err f

unfoldable pub cells_after : List Cell → Result Bill PostFault → List Cell
cells_after cells (Ok b) = with_bill cells b
cells_after cells (Err f) = cells

unfoldable pub post_memory : Block → Result Bill PostFault → Block
post_memory b (Ok x) = block (with_bill b.cells x) b.accounts
post_memory b (Err f) = b

-- ---- a volume reconciliation sets the volume adjustments
abbrev pub cell_with_volume : Cell → VolumeAdjustment → Cell
cell_with_volume c v = record { sums = c.sums; volume = v; cost = c.cost }

unfoldable pub with_volumes : List Cell → List VolumeAdjustment → List Cell
with_volumes cells table = map (λ i. cell_with_volume (slice_index_or cells i zero_cell) (slice_index_or table i zero_volume)) (range_with_len 0 cell_count)

unfoldable pub volume_memory : Block → Result (List VolumeAdjustment) ReconcileFault → Block
volume_memory b (Ok table) = block (with_volumes b.cells table) b.accounts
volume_memory b (Err f) = b

-- ---- a cost reconciliation sets the cost adjustments
abbrev pub cell_with_cost : Cell → ℤ → Cell
cell_with_cost c pence = record { sums = c.sums; volume = c.volume; cost = pence }

unfoldable pub with_costs : List Cell → List ℤ → List Cell
with_costs cells table = map (λ i. cell_with_cost (slice_index_or cells i zero_cell) (slice_index_or table i (pos 0))) (range_with_len 0 cell_count)

abbrev pub account_with_cost : ℤ → AccountRecord
account_with_cost pence = record { cost = pence }

unfoldable pub accounts_with_costs : List ℤ → List AccountRecord
accounts_with_costs table = map (λ a. account_with_cost (slice_index_or table a (pos 0))) (range_with_len 0 accounts)

unfoldable pub cost_memory : Block → Result CostAdjustments ReconcileFault → Block
cost_memory b (Ok c) = block (with_costs b.cells c.delivery) (accounts_with_costs c.energy)
cost_memory b (Err f) = b
