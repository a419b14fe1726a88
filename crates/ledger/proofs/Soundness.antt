-- What is known of a block whose checks have passed.
use Rattle.std.proofs.Common.{◌≡◌, ℕ, zero, suc, true, eqb, List, [], ◌∷◌, length, get_or, refl}
use Rattle.std.proofs.lemmas.Bool.{and_parts, eqb-true}
use Rattle.ledger.specs.declared.block.AccountRecord.{AccountRecord}
use Rattle.ledger.specs.declared.block.Cell.{Cell}
use Rattle.ledger.specs.Blocks.{Block, cell_count, zero_cell, zero_account}
use Rattle.ledger.specs.Limits.{sums_within, volume_within, cell_within, cells_within, account_within, accounts_within, counts_right, sound, Sound}

zero_within : cell_within zero_cell ≡ true
unfolding sums_within volume_within cell_within
zero_within = refl

cell_at_within : (cells : List Cell) (i : ℕ) → cells_within cells ≡ true → cell_within (get_or cells i zero_cell) ≡ true
cell_at_within [] i e = zero_within
cell_at_within (c ∷ cs) zero e = (and_parts _ _ e).0
cell_at_within (c ∷ cs) (suc i) e = cell_at_within cs i (and_parts _ _ e).1

zero_account_within : account_within zero_account ≡ true
unfolding account_within
zero_account_within = refl

account_at_within : (records : List AccountRecord) (i : ℕ) → accounts_within records ≡ true → account_within (get_or records i zero_account) ≡ true
account_at_within [] i e = zero_account_within
account_at_within (a ∷ rs) zero e = (and_parts _ _ e).0
account_at_within (a ∷ rs) (suc i) e = account_at_within rs i (and_parts _ _ e).1

pub sound_facts : (b : Block) → sound b ≡ true → Sound b
unfolding sound counts_right
sound_facts b e =
    let p = and_parts (counts_right b) _ e in
    let counts = and_parts (eqb (length b.cells) cell_count) _ p.0 in
    let figures = and_parts (cells_within b.cells) _ p.1 in
    record {
      cells = record { count = eqb-true _ _ counts.0; within = λ i. cell_at_within b.cells i figures.0 };
      count = eqb-true _ _ counts.1;
      within = λ i. account_at_within b.accounts i figures.1;
    }
