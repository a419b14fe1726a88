-- Lists made from a function of the index, and the index of a cell.
use Rattle.std.proofs.Common.{◌≡◌, ℕ, zero, suc, ◌+◌, ◌/◌, ◌%◌, ◌<◌, ◌≤◌, ◌∷◌, map, replicate, sym, refl, ◌∙◌, ap₂, arith}
use lib.ListN.{length-replicate, get_or-replicate}
use Rattle.std.specs.List.{range_with_len}
use Rattle.std.proofs.lemmas.List.FromFn.{fill_by_all}
use Rattle.amounts.specs.Ranges.{accounts, areas}
use Rattle.ledger.specs.Blocks.{cell_count, cell_number}

-- functions that are equal on the indices from a on give equal lists
pub counting_ext : {X : Type 0} (f g : ℕ → X) (a n : ℕ) → ((i : ℕ) → a ≤ i → i < a + n → f i ≡ g i) → map f (range_with_len a n) ≡ map g (range_with_len a n)
counting_ext f g a zero h = refl
counting_ext f g a (suc n) h = ap₂ (λ x xs. x ∷ xs) (h a (omega arith) (omega arith)) (counting_ext f g (a + 1) n (λ i l u. h i (omega arith) (omega arith)))

-- a list of one value
pub replicated : {X : Type 0} (f : ℕ → X) (n : ℕ) (x : X) → ((i : ℕ) → f i ≡ x) → replicate n x ≡ map f (range_with_len 0 n)
replicated f n x h = fill_by_all f (replicate n x) n x (length-replicate n x) (λ i l. let e : f i ≡ x = h i in get_or-replicate n i x x l ∙ sym e)

-- ---- the account and the area of a cell, by its index
pub account_below : (i : ℕ) → i < cell_count → i / areas < accounts
account_below i l = omega arith

pub area_below : (i : ℕ) → i % areas < areas
area_below i = omega arith

pub account_of_number : (account area : ℕ) → area < areas → cell_number account area / areas ≡ account
account_of_number account area l = omega arith

pub area_of_number : (account area : ℕ) → area < areas → cell_number account area % areas ≡ area
area_of_number account area l = omega arith

pub number_below : (account area : ℕ) → account < accounts → area < areas → cell_number account area < cell_count
number_below account area k l = omega arith

-- an index is the number of its account and area
pub number_of_parts : (i : ℕ) → cell_number (i / areas) (i % areas) ≡ i
number_of_parts i = omega arith
