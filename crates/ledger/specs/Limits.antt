-- The limits of a block: a limit itself is allowed, up or down.
use Rattle.std.specs.Prelude.{◌≡◌, ℕ, Bool, true, ◌&&◌, List, length, ◌==◌, slice_index_or}
use Rattle.std.specs.List.{list_all}
use Rattle.amounts.specs.Ranges.{accounts, within}
use Rattle.ledger.specs.declared.block.AccountRecord.{AccountRecord}
use Rattle.ledger.specs.declared.block.Cell.{Cell}
use Rattle.ledger.specs.declared.block.Sums.{Sums}
use Rattle.ledger.specs.declared.block.VolumeAdjustment.{VolumeAdjustment}
use Rattle.ledger.specs.Blocks.{Block, cell_count, zero_cell, zero_account}

-- a sum of Wh
abbrev pub max_wh : ℕ
max_wh = 3000000000000

-- a sum of charges, in millionths of a penny
abbrev pub max_charge : ℕ
max_charge = 3000000000000000

-- a volume adjustment, in kWh
abbrev pub max_kwh : ℕ
max_kwh = 3000000000

-- a volume adjustment, in pence
abbrev pub max_volume_pence : ℕ
max_volume_pence = 300000000000

-- a cost adjustment, in pence
abbrev pub max_cost : ℕ
max_cost = 3000000000

unfoldable pub sums_within : Sums → Bool
sums_within s = within s.metered max_wh && (within s.modelled max_wh && (within s.energy max_charge && within s.delivery max_charge))

unfoldable pub volume_within : VolumeAdjustment → Bool
volume_within v = within v.kwh max_kwh && (within v.energy max_volume_pence && within v.delivery max_volume_pence)

unfoldable pub cell_within : Cell → Bool
cell_within c = sums_within c.sums && (volume_within c.volume && within c.cost max_cost)

abbrev pub cells_within : List Cell → Bool
cells_within cs = list_all cell_within cs

unfoldable pub account_within : AccountRecord → Bool
account_within a = within a.cost max_cost

abbrev pub accounts_within : List AccountRecord → Bool
accounts_within rs = list_all account_within rs

-- a cell for each account and area, and a record for each account
unfoldable pub counts_right : Block → Bool
counts_right b = length b.cells == cell_count && length b.accounts == accounts

-- the counts are right, and no figure is beyond its limit
unfoldable pub sound : Block → Bool
sound b = counts_right b && (cells_within b.cells && accounts_within b.accounts)

-- what is known of the cells of a sound block
pub record SoundCells (cells : List Cell) : Type 0 where
  pub count : length cells ≡ cell_count
  pub within : (i : ℕ) → cell_within (slice_index_or cells i zero_cell) ≡ true

-- and of the block
pub record Sound (b : Block) : Type 0 where
  pub cells : SoundCells b.cells
  pub count : length b.accounts ≡ accounts
  pub within : (i : ℕ) → account_within (slice_index_or b.accounts i zero_account) ≡ true
