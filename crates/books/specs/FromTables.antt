-- Books that answer from a table of lines.
use Rattle.std.specs.Prelude.{◌≡◌, ℕ, List, Some, Option}
use Rattle.std.specs.Option.{option_map}
use Rattle.std.specs.List.{Contains}
use Rattle.lines.specs.Tables.{line_with, RisingTable}

-- what the line with the key fields fs has. Keys rise in every list that was filled by its own calls; in one where they do not,
-- the answer is still some line's with these fields, if one comes up before a line that does not come before them
abbrev pub from_table : {L V : Type 0} → (L → List ℕ) → (L → V) → List L → List ℕ → Option V
from_table fields value lines fs = option_map value (line_with fields fs lines)

-- the table answers for the key fields of each line what the line has, if keys rise, and answers nothing else
pub record AnswersFromLines {L V : Type 0} (fields : L → List ℕ) (widths : List ℕ) (value : L → V) (lines : List L) : Type 0 where
  pub each_line : RisingTable fields widths lines → (l : L) → Contains lines l → from_table fields value lines (fields l) ≡ Some (value l)
  pub only_lines : (fs : List ℕ) (v : V) → from_table fields value lines fs ≡ Some v → (l : L) × Contains lines l × (fields l ≡ fs) × (value l ≡ v)
