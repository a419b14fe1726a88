-- What a statement has by its type, which reading back rests on.
use Rattle.std.specs.Prelude.{◌≡◌, length, FitsSigned}
use Rattle.std.specs.Int.{w64}
use Rattle.std.specs.List.{AllByRecursion}
use Rattle.amounts.specs.Ranges.{areas}
use Rattle.statements.specs.declared.statement.AreaAmounts.{AreaAmounts}
use Rattle.statements.specs.declared.statement.Statement.{Statement}
use Rattle.statements.specs.Layout.{amounts_of}

-- every amount of the area is a signed number of 64 bits
unfoldable pub AreaFits : AreaAmounts → Type 0
AreaFits a = AllByRecursion (FitsSigned w64) (amounts_of a)

-- there are 20 areas, and every amount is a signed number of 64 bits
pub record StatementFits (s : Statement) : Type 0 where
  pub long : length s.areas ≡ areas
  pub in_areas : AllByRecursion AreaFits s.areas
  pub cost : FitsSigned w64 s.cost
