-- What a reconciliation of a block answers: the first fault of the table that applies, or the adjustments.
use Rattle.std.specs.Prelude.{ℕ, Bool, cond, not, List, length, Some, None, Ok, Err, Option, Result, ◌==◌, slice_index_or}
use Rattle.std.specs.Option.{option_map}
use Rattle.amounts.specs.Lowest.{lowest}
use Rattle.amounts.specs.Ranges.{areas, within}
use Rattle.ledger.specs.Blocks.{Block, cell_at}
use Rattle.ledger.specs.Limits.{sound, max_kwh}
use Rattle.ledger.specs.declared.block.Cell.{Cell}
use Rattle.ledger.specs.declared.block.Sums.{Sums}
use Rattle.ledger.specs.declared.block.VolumeAdjustment.{VolumeAdjustment}
use Rattle.sharing.specs.Limits.{figures_in_limit}
use Rattle.reconciling.specs.declared.costs.CostAdjustments.{CostAdjustments}
use Rattle.reconciling.specs.declared.fault.ReconcileFault.{ReconcileFault}
use Rattle.reconciling.specs.declared.fault.ReconcileFault.TheVariants as fault
use Rattle.reconciling.specs.declared.sheets.AreaRow.{AreaRow}
use Rattle.reconciling.specs.Costs.{delivery_discrepancy, energy_discrepancy, delivery_weights, energy_weights, delivery_adjustments, energy_adjustments}
use Rattle.reconciling.specs.Sheets.{row_in_range, cost_in_range, row_at, cost_at}
use Rattle.reconciling.specs.Volumes.{discrepancy, volume_adjustments}

-- the sums and the volume adjustments that cells hold
abbrev pub sums_in : List Cell → ℕ → ℕ → Sums
sums_in cells account area = (cell_at cells account area).sums

abbrev pub volumes_in : List Cell → ℕ → ℕ → VolumeAdjustment
volumes_in cells account area = (cell_at cells account area).volume

-- the first of two faults
abbrev pub or_then : Option ReconcileFault → Option ReconcileFault → Option ReconcileFault
or_then (Some f) next = Some f
or_then None next = next

abbrev pub fault_unless : Bool → ReconcileFault → Option ReconcileFault
fault_unless passes f = cond passes None (Some f)

-- the fault of the lowest area that fails the test
abbrev pub lowest_area : (ℕ → Bool) → (ℕ → ReconcileFault) → Option ReconcileFault
lowest_area passes f = option_map f (lowest (λ area. not (passes area)) areas)

abbrev pub unless_fault : {A : Type 0} → Option ReconcileFault → A → Result A ReconcileFault
unless_fault None x = Ok x
unless_fault (Some f) x = Err f

-- a wrong length first, then the lowest area whose row is out of range, where d stands for a row that is not there
abbrev pub rows_fault : {R : Type 0} → (R → Bool) → R → List R → Option ReconcileFault
rows_fault in_range d rows =
    or_then (fault_unless (length rows == areas) fault.SheetLength)
    (lowest_area (λ area. in_range (slice_index_or rows area d)) (λ area. fault.AreaFigure area))

-- ---- volume
-- a wrong length first, then the lowest area with a figure out of range
unfoldable pub area_sheet_fault : List AreaRow → Option ReconcileFault
area_sheet_fault sheet =
    or_then (fault_unless (length sheet == areas) fault.SheetLength)
    (lowest_area (λ area. row_in_range (row_at sheet area)) (λ area. fault.AreaFigure area))

-- the discrepancy itself is checked, before the infrastructure manager's share is taken off
unfoldable pub discrepancy_in_limit : List Cell → List AreaRow → ℕ → Bool
discrepancy_in_limit cells sheet area = within (discrepancy (sums_in cells) (row_at sheet area) area) max_kwh

unfoldable pub volume_limit_fault : List Cell → List AreaRow → Option ReconcileFault
volume_limit_fault cells sheet = lowest_area (discrepancy_in_limit cells sheet) (λ area. fault.AreaBeyondLimits area)

unfoldable pub volume_fault : Block → List AreaRow → Option ReconcileFault
volume_fault b sheet = or_then (fault_unless (sound b) fault.Block) (or_then (area_sheet_fault sheet) (volume_limit_fault b.cells sheet))

unfoldable pub volume_outcome : Block → List AreaRow → Result (List VolumeAdjustment) ReconcileFault
volume_outcome b sheet = unless_fault (volume_fault b sheet) (volume_adjustments (sums_in b.cells) sheet)

-- ---- cost
-- a wrong length first, then the lowest area with a cost out of range, then the network's energy cost
unfoldable pub cost_sheet_fault : List ℕ → ℕ → Option ReconcileFault
cost_sheet_fault costs energy =
    or_then (fault_unless (length costs == areas) fault.SheetLength)
    (or_then (lowest_area (λ area. cost_in_range (cost_at costs area)) (λ area. fault.AreaFigure area))
    (fault_unless (cost_in_range energy) fault.EnergyFigure))

unfoldable pub delivery_in_limit : List Cell → List ℕ → ℕ → Bool
delivery_in_limit cells costs area = figures_in_limit (delivery_discrepancy (sums_in cells) (volumes_in cells) costs area) (delivery_weights (sums_in cells) (volumes_in cells) area)

unfoldable pub delivery_limit_fault : List Cell → List ℕ → Option ReconcileFault
delivery_limit_fault cells costs = lowest_area (delivery_in_limit cells costs) (λ area. fault.AreaBeyondLimits area)

unfoldable pub energy_in_limit : List Cell → ℕ → Bool
energy_in_limit cells cost = figures_in_limit (energy_discrepancy (sums_in cells) (volumes_in cells) cost) (energy_weights (sums_in cells) (volumes_in cells))

unfoldable pub energy_limit_fault : List Cell → ℕ → Option ReconcileFault
energy_limit_fault cells cost = fault_unless (energy_in_limit cells cost) fault.EnergyBeyondLimits

unfoldable pub cost_fault : Block → List ℕ → ℕ → Option ReconcileFault
cost_fault b costs energy =
    or_then (fault_unless (sound b) fault.Block)
    (or_then (cost_sheet_fault costs energy)
    (or_then (delivery_limit_fault b.cells costs) (energy_limit_fault b.cells energy)))

abbrev pub cost_adjustments : List Cell → List ℕ → ℕ → CostAdjustments
cost_adjustments cells costs energy =
    record {
      delivery = delivery_adjustments (sums_in cells) (volumes_in cells) costs;
      energy = energy_adjustments (sums_in cells) (volumes_in cells) energy;
    }

unfoldable pub cost_outcome : Block → List ℕ → ℕ → Result CostAdjustments ReconcileFault
cost_outcome b costs energy = unless_fault (cost_fault b costs energy) (cost_adjustments b.cells costs energy)
