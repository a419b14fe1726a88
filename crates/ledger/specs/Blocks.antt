-- The block of a year: a cell for each account and area, and a record for each account.
use Rattle.std.specs.Prelude.{ℕ, ◌+◌, ◌*◌, List, replicate, pos, slice_index_or}
use Rattle.amounts.specs.Ranges.{accounts, areas}
use Rattle.ledger.specs.declared.block.AccountRecord.{AccountRecord}
use Rattle.ledger.specs.declared.block.Cell.{Cell}
use Rattle.ledger.specs.declared.block.Sums.{Sums}
use Rattle.ledger.specs.declared.block.VolumeAdjustment.{VolumeAdjustment}

pub record Block : Type 0 where
  pub cells : List Cell
  pub accounts : List AccountRecord

abbrev pub block : List Cell → List AccountRecord → Block
block cs rs = record { cells = cs; accounts = rs }

-- the cells of an account lie side by side, in the order of the areas
abbrev pub cell_number : ℕ → ℕ → ℕ
cell_number account area = account * areas + area

-- how many cells there are
abbrev pub cell_count : ℕ
cell_count = 1280

abbrev pub zero_sums : Sums
zero_sums = record { metered = pos 0; modelled = pos 0; energy = pos 0; delivery = pos 0 }

abbrev pub zero_volume : VolumeAdjustment
zero_volume = record { kwh = pos 0; energy = pos 0; delivery = pos 0 }

abbrev pub zero_cell : Cell
zero_cell = record { sums = zero_sums; volume = zero_volume; cost = pos 0 }

abbrev pub zero_account : AccountRecord
zero_account = record { cost = pos 0 }

-- every figure is 0
unfoldable pub cleared : Block
cleared = block (replicate cell_count zero_cell) (replicate accounts zero_account)

-- the cell of an account in an area, and the record of an account
abbrev pub cell_at : List Cell → ℕ → ℕ → Cell
cell_at cells account area = slice_index_or cells (cell_number account area) zero_cell

abbrev pub account_at : List AccountRecord → ℕ → AccountRecord
account_at records account = slice_index_or records account zero_account
