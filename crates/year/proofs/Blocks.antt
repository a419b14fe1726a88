-- A block by functions of the account and the area: s the sums, v the volume adjustments, c the delivery and e the energy cost adjustments.
use Rattle.std.proofs.Common.{◌≡◌, ℕ, ◌/◌, ◌%◌, ◌<◌, List, map, length, get_or, ℤ, pos, refl, ap, ◌∙◌, ap₂, arith}
use Rattle.std.specs.List.{range_with_len}
use Rattle.std.proofs.lemmas.List.FromFn.{get_or-map-range_with_len, length-map-range_with_len}
use Rattle.amounts.specs.Ranges.{accounts, areas}
use Rattle.ledger.specs.Blocks.{block, cell_count, cell_number, cell_at, account_at, zero_sums, zero_volume, zero_cell, zero_account, cleared}
use Rattle.ledger.specs.declared.block.AccountRecord.{AccountRecord}
use Rattle.ledger.specs.declared.block.Cell.{Cell}
use Rattle.ledger.specs.declared.block.Sums.{Sums}
use Rattle.ledger.specs.declared.block.VolumeAdjustment.{VolumeAdjustment}
use Rattle.year.proofs.Counted.{counting_ext, replicated, account_below, area_below, account_of_number, area_of_number, number_below}

abbrev pub cell_of : Sums → VolumeAdjustment → ℤ → Cell
cell_of s v c = record { sums = s; volume = v; cost = c }

-- the cell with the index i
abbrev pub cell_by : (ℕ → ℕ → Sums) → (ℕ → ℕ → VolumeAdjustment) → (ℕ → ℕ → ℤ) → ℕ → Cell
cell_by s v c i = cell_of (s (i / areas) (i % areas)) (v (i / areas) (i % areas)) (c (i / areas) (i % areas))

unfoldable pub cells_of : (ℕ → ℕ → Sums) → (ℕ → ℕ → VolumeAdjustment) → (ℕ → ℕ → ℤ) → List Cell
cells_of s v c = map (cell_by s v c) (range_with_len 0 cell_count)

abbrev pub account_by : (ℕ → ℤ) → ℕ → AccountRecord
account_by e a = record { cost = e a }

unfoldable pub accounts_of : (ℕ → ℤ) → List AccountRecord
accounts_of e = map (account_by e) (range_with_len 0 accounts)

-- ---- what is where
pub same_cell : {s t : Sums} {v w : VolumeAdjustment} {c d : ℤ} → s ≡ t → v ≡ w → c ≡ d → cell_of s v c ≡ cell_of t w d
same_cell e f g = λ i. cell_of (e i) (f i) (g i)

module _ (s : ℕ → ℕ → Sums) (v : ℕ → ℕ → VolumeAdjustment) (c : ℕ → ℕ → ℤ) where
  pub length_cells : length (cells_of s v c) ≡ cell_count
  unfolding cells_of
  length_cells = length-map-range_with_len (cell_by s v c) 0 cell_count

  pub cells_index : (i : ℕ) → i < cell_count → get_or (cells_of s v c) i zero_cell ≡ cell_by s v c i
  unfolding cells_of
  cells_index i l = get_or-map-range_with_len (cell_by s v c) 0 cell_count i i zero_cell l (omega arith)

  pub cells_at : (a r : ℕ) → a < accounts → r < areas → cell_at (cells_of s v c) a r ≡ cell_of (s a r) (v a r) (c a r)
  cells_at a r k l =
      let p = account_of_number a r l in
      let q = area_of_number a r l in
      cells_index (cell_number a r) (number_below a r k l) ∙ same_cell (ap₂ s p q) (ap₂ v p q) (ap₂ c p q)

pub accounts_index : (e : ℕ → ℤ) (a : ℕ) → a < accounts → account_at (accounts_of e) a ≡ account_by e a
unfolding accounts_of
accounts_index e a l = get_or-map-range_with_len (account_by e) 0 accounts a a zero_account l (omega arith)

-- ---- functions that are equal within the ranges give equal blocks
pub cells_ext : (s t : ℕ → ℕ → Sums) (v w : ℕ → ℕ → VolumeAdjustment) (c d : ℕ → ℕ → ℤ) → ((a r : ℕ) → a < accounts → r < areas → s a r ≡ t a r) → ((a r : ℕ) → a < accounts → r < areas → v a r ≡ w a r) → ((a r : ℕ) → a < accounts → r < areas → c a r ≡ d a r) → cells_of s v c ≡ cells_of t w d
unfolding cells_of
cells_ext s t v w c d e f g =
    counting_ext (cell_by s v c) (cell_by t w d) 0 cell_count (λ i _ u.
    let k : i < cell_count = omega arith in
    same_cell (e (i / areas) (i % areas) (account_below i k) (area_below i)) (f (i / areas) (i % areas) (account_below i k) (area_below i)) (g (i / areas) (i % areas) (account_below i k) (area_below i)))

pub accounts_ext : (e f : ℕ → ℤ) → ((a : ℕ) → a < accounts → e a ≡ f a) → accounts_of e ≡ accounts_of f
unfolding accounts_of
accounts_ext e f h = counting_ext (account_by e) (account_by f) 0 accounts (λ a _ u. ap (λ z. record { cost = z }) (h a (omega arith)))

-- ---- a cleared block
abbrev pub no_sums : ℕ → ℕ → Sums
no_sums account area = zero_sums

abbrev pub no_volume : ℕ → ℕ → VolumeAdjustment
no_volume account area = zero_volume

abbrev pub no_delivery : ℕ → ℕ → ℤ
no_delivery account area = pos 0

abbrev pub no_energy : ℕ → ℤ
no_energy account = pos 0

pub cleared_is : cleared ≡ block (cells_of no_sums no_volume no_delivery) (accounts_of no_energy)
unfolding cleared cells_of accounts_of
cleared_is = ap₂ block (replicated (cell_by no_sums no_volume no_delivery) cell_count zero_cell (λ _. refl)) (replicated (account_by no_energy) accounts zero_account (λ _. refl))
