-- The columns that a table is made of, one for each area.
use Rattle.std.specs.Prelude.{◌≡◌, ℕ, Bool, List, map, Some, None, Option, if◌then◌else◌}
use Rattle.std.specs.List.{range_with_len}
use Rattle.amounts.specs.Ranges.{accounts}
use Rattle.reconciling.specs.declared.places.Area.{Area}

-- whatever is answered at an area is its column, with the entry of each account, where the area passes
pub record ColumnsBy {T : Type 0} (answers : Area → Option (List T) → Type 0) (passes : ℕ → Bool) (entry : ℕ → ℕ → T) : Type 0 where
  pub each : (area : Area) (r : Option (List T)) → answers area r → r ≡ (if passes area.index then Some (map (λ account. entry account area.index) (range_with_len 0 accounts)) else None)
