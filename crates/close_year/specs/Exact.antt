-- The text that an exact proportion prints.
use Rattle.std.specs.Prelude.{ℕ, List, [], ◌++◌, ℤ, pos, codes, int_lt, if◌then◌else◌}
use Rattle.std.specs.Fmt.{decimal}
use Rattle.close_year.specs.declared.exact.ExactShare.{ExactShare}

-- a minus, where the amount is below zero
abbrev pub sign_text : ℤ → List ℕ
sign_text amount = if int_lt amount (pos 0) then codes "-" else []

abbrev pub exact_text : ExactShare → List ℕ
exact_text s = sign_text s.amount ++ (decimal s.quotient ++ (codes " " ++ (decimal s.remainder ++ (codes "/" ++ decimal s.total))))
