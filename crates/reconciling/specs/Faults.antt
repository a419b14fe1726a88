-- The refusal that the fault table has for each fault of a reconciliation.
use Rattle.std.specs.Prelude.{ℕ}
use Rattle.amounts.specs.Refusals.{refusal_at}
use Rattle.amounts.specs.Ranges.{areas}
use Rattle.amounts.specs.declared.refusal.Refusal.{Refusal}
use Rattle.reconciling.specs.declared.fault.ReconcileFault.{ReconcileFault}
use Rattle.reconciling.specs.declared.fault.ReconcileFault.TheVariants.{Block, SheetLength, AreaFigure, EnergyFigure, AreaBeyondLimits, EnergyBeyondLimits}

-- the place of a figure is its area, and one past the areas for the network's energy
abbrev pub energy_place : ℕ
energy_place = areas

abbrev pub refusal_of : ReconcileFault → Refusal
refusal_of Block = refusal_at 1 0
refusal_of SheetLength = refusal_at 17 0
refusal_of (AreaFigure area) = refusal_at 17 area
refusal_of EnergyFigure = refusal_at 17 energy_place
refusal_of (AreaBeyondLimits area) = refusal_at 18 area
refusal_of EnergyBeyondLimits = refusal_at 18 energy_place
