-- The rows of a sheet that was checked.
use Rattle.std.specs.Prelude.{◌≡◌, ℕ, ◌<◌, Bool, true, List, length, slice_index_or}
use Rattle.amounts.specs.Ranges.{areas}

-- there is a row for each area, and each is in range
pub record RangedRows {R : Type 0} (in_range : R → Bool) (rows : List R) : Type 0 where
  pub count : length rows ≡ areas
  pub ranged : (area : ℕ) (d : R) → area < areas → in_range (slice_index_or rows area d) ≡ true
