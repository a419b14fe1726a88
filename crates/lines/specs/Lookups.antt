-- Lines in the order of their keys.
use Rattle.std.specs.Prelude.{ℕ, ◌<◌, Bool, List, [], ◌∷◌, if◌then◌else◌, Some, None, Option, ◌==◌, nat_lt, slice_set}
use Rattle.std.specs.List.{insert, prefix_len, AllPairs}

-- the line that has what is wanted. The lines are read from the first, as far as the first that does not come before it
abbrev pub scan : {L : Type 0} → (L → Bool) → (L → Bool) → List L → Option L
scan comes_before has [] = None
scan comes_before has (x ∷ xs) = if comes_before x then scan comes_before has xs else (if has x then Some x else None)

module _ {L : Type 0} (key : L → ℕ) where
  -- each line's key is below those of the lines after it
  abbrev pub Rising : List L → Type 0
  Rising xs = AllPairs (λ x y. key x < key y) xs

  -- the line that has the key k
  abbrev pub lookup : ℕ → List L → Option L
  lookup k xs = scan (λ x. nat_lt (key x) k) (λ x. (key x) == k) xs

  -- how many lines come before the first whose key is not below k
  abbrev pub insertion_point : ℕ → List L → ℕ
  insertion_point k xs = prefix_len (λ x. nat_lt (key x) k) xs

  -- the lines with one more
  abbrev pub with_line : L → List L → List L
  with_line line xs = insert xs (insertion_point (key line) xs) line

  -- the lines with the one that has the line's key replaced
  abbrev pub with_replaced : L → List L → List L
  with_replaced line xs = slice_set xs (insertion_point (key line) xs) line
