-- The numbers of the kinds of electricity and of metered record.
use Rattle.std.specs.Prelude.{◌≡◌, ℕ}
use Rattle.lines.specs.declared.kinds.Electricity.{Electricity}
use Rattle.lines.specs.declared.kinds.Electricity.TheVariants.{Ac, Dc}
use Rattle.lines.specs.declared.kinds.MeteredKind.{MeteredKind}
use Rattle.lines.specs.declared.kinds.MeteredKind.TheVariants.{MultipleUnitJourney, HauledJourney, NonJourney}

abbrev pub electricity_number : Electricity → ℕ
electricity_number Ac = 1
electricity_number Dc = 2

abbrev pub kind_number : MeteredKind → ℕ
kind_number MultipleUnitJourney = 1
kind_number HauledJourney = 2
kind_number NonJourney = 3

-- no two kinds have one number
abbrev pub DistinctElectricity : Type 0
DistinctElectricity = (e f : Electricity) → electricity_number e ≡ electricity_number f → e ≡ f

abbrev pub DistinctKinds : Type 0
DistinctKinds = (k j : MeteredKind) → kind_number k ≡ kind_number j → k ≡ j
