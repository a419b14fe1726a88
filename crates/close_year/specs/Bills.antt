-- What was billed and what is adjusted, over the first n operators.
use Rattle.std.specs.Prelude.{ℕ, List, map, ℤ, pos, slice_index_or}
use Rattle.amounts.specs.Sums.{int_sum_to}
use Rattle.sharing.specs.declared.line.AccountQuantity.{AccountQuantity}
use Rattle.sharing.specs.declared.quantity.Pence.{Pence}

abbrev pub pence_of : AccountQuantity Pence → ℤ
pence_of b = b.quantity.0

abbrev pub account_of : AccountQuantity Pence → ℕ
account_of b = b.account

abbrev pub billed : List (AccountQuantity Pence) → ℕ → ℤ
billed bs n = int_sum_to (λ i. slice_index_or (map pence_of bs) i (pos 0)) n

abbrev pub adjusted : List ℤ → ℕ → ℤ
adjusted ps n = int_sum_to (λ i. slice_index_or ps i (pos 0)) n
