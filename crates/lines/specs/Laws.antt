-- What lists of lines whose keys rise keep to.
use Rattle.std.specs.Prelude.{◌≡◌, ℕ, ◌<◌, List, length, Some, None, Option, ◌≢◌, slice_index_or}
use Rattle.std.specs.List.{Contains}

-- r is the line of xs that has k, where `of` tells what a line has; rising says that the keys of xs rise
pub record LineOf {L K : Type 0} (of : L → K) (k : K) (rising : Type 0) (xs : List L) (r : Option L) : Type 0 where
  -- a line that is found is one of the lines, and has k
  pub one_of : (l : L) → r ≡ Some l → Contains xs l × (of l ≡ k)
  -- where no line has k, none is found
  pub none : ((l : L) → Contains xs l → of l ≢ k) → r ≡ None
  -- where keys rise, the line that has k is found
  pub found : rising → (l : L) → Contains xs l → of l ≡ k → r ≡ Some l
  -- and where none is found, no line has k
  pub absent : rising → r ≡ None → (l : L) → Contains xs l → of l ≢ k

-- no two lines have one key, so there are as many keys as lines
abbrev pub OneLinePerKey : {L : Type 0} → (L → ℕ) → List L → Type 0
OneLinePerKey {L} key xs = (i j : ℕ) (d : L) → i < length xs → j < length xs → key (slice_index_or xs i d) ≡ key (slice_index_or xs j d) → i ≡ j
