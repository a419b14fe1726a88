-- How a reconciliation of a block ends, and that what it sets is shared fairly.
use Rattle.std.proofs.Common.{◌≡◌, ℕ, ◌<◌, Bool, true, false, List, get_or, pos, IfOk, Ok, Err, Option, Result, sym, refl, ap, ◌∙◌, subst, ap₂, arith}
use Rattle.std.proofs.lemmas.List.FromFn.{get_or-map-range_with_len}
use Rattle.amounts.specs.Ranges.{accounts, areas}
use Rattle.ledger.specs.Blocks.{Block, block, cell_count, cell_number, cell_at, account_at, zero_cell, zero_volume, zero_account}
use Rattle.ledger.specs.Limits.{sound}
use Rattle.ledger.specs.declared.block.AccountRecord.{AccountRecord}
use Rattle.ledger.specs.declared.block.Cell.{Cell}
use Rattle.ledger.specs.declared.block.Sums.{Sums}
use Rattle.ledger.specs.declared.block.VolumeAdjustment.{VolumeAdjustment}
use Rattle.reconciling.specs.Costs.{delivery_adjustment, energy_adjustment, delivery_adjustments, energy_adjustments}
use Rattle.reconciling.specs.Outcomes.{sums_in, volumes_in, or_then, fault_unless, unless_fault, area_sheet_fault, volume_limit_fault, volume_fault, volume_outcome, cost_sheet_fault, delivery_limit_fault, energy_limit_fault, cost_fault, cost_outcome, cost_adjustments}
use Rattle.reconciling.specs.Sheets.{row_at}
use Rattle.reconciling.specs.Volumes.{volume_kwh, volume_adjustment, volume_adjustments}
use Rattle.reconciling.specs.declared.costs.CostAdjustments.{CostAdjustments}
use Rattle.reconciling.specs.declared.fault.ReconcileFault.{ReconcileFault}
use Rattle.reconciling.specs.declared.fault.ReconcileFault.TheVariants as fault
use Rattle.reconciling.specs.declared.sheets.AreaRow.{AreaRow}
use Rattle.reconciling.proofs.Tables.{table_at}
use Rattle.reconciling.proofs.Fair.{fair_operators, fair_delivery, fair_energy, all_held, operators_held}
use Rattle.year.specs.declared.states.OpenYear.{OpenYear}
use Rattle.year.specs.declared.states.SettledYear.{SettledYear}
use Rattle.year.specs.declared.states.VolumeSettledYear.{VolumeSettledYear}
use Rattle.year.specs.Fairness.{FairVolumes, FairCosts}
use Rattle.year.specs.Outcomes.{cell_with_volume, with_volumes, cell_with_cost, with_costs, account_with_cost, accounts_with_costs, volume_memory, cost_memory}
use Rattle.year.specs.Promises.{ReconcilesVolume, ReconcilesCost, volume_answer, cost_answer, volume_settled_at, settled_at}
use Rattle.year.proofs.Counted.{number_below}
use Rattle.year.proofs.Outcomes.{accepted_refused, volume_accepted, cost_accepted}

-- ---- an accepted reconciliation found the block sound
sound_if : {A : Type 0} (s : Bool) (next : Option ReconcileFault) (x y : A) → unless_fault (or_then (fault_unless s fault.Block) next) x ≡ Ok y → s ≡ true
sound_if true next x y e = refl
sound_if false next x y e = accepted_refused y fault.Block (sym e)

pub volume_sound : (b : Block) (sheet : List AreaRow) (t : List VolumeAdjustment) → Ok t ≡ volume_outcome b sheet → sound b ≡ true
unfolding volume_outcome volume_fault
volume_sound b sheet t e = sound_if (sound b) (or_then (area_sheet_fault sheet) (volume_limit_fault b.cells sheet)) (volume_adjustments (sums_in b.cells) sheet) t (sym e)

pub cost_sound : (b : Block) (costs : List ℕ) (energy : ℕ) (t : CostAdjustments) → Ok t ≡ cost_outcome b costs energy → sound b ≡ true
unfolding cost_outcome cost_fault
cost_sound b costs energy t e = sound_if (sound b) (or_then (cost_sheet_fault costs energy) (or_then (delivery_limit_fault b.cells costs) (energy_limit_fault b.cells energy))) (cost_adjustments b.cells costs energy) t (sym e)

-- ---- and ends by what it sets, or by the fault
module _ (y : OpenYear) (b : Block) (sheet : List AreaRow) where
  pub volume_settles : (t : List VolumeAdjustment) → Ok t ≡ volume_outcome b sheet → (cells : List Cell) → cells ≡ with_volumes b.cells t → ReconcilesVolume y b sheet (Ok (volume_settled_at y.accepted)) (block cells b.accounts)
  unfolding volume_memory
  volume_settles t is cells e = record { answer = ap (volume_answer y) is; memory = ap (λ l. block l b.accounts) e ∙ ap (volume_memory b) is }

  pub volume_refuses : (f : ReconcileFault) → Err f ≡ volume_outcome b sheet → ReconcilesVolume y b sheet (Err (y, f)) b
  unfolding volume_memory
  volume_refuses f is = record { answer = ap (volume_answer y) is; memory = ap (volume_memory b) is }

module _ (y : VolumeSettledYear) (b : Block) (costs : List ℕ) (energy : ℕ) where
  pub cost_settles : (t : CostAdjustments) → Ok t ≡ cost_outcome b costs energy → (cells : List Cell) → cells ≡ with_costs b.cells t.delivery → (rows : List AccountRecord) → rows ≡ accounts_with_costs t.energy → ReconcilesCost y b costs energy (Ok (settled_at y.accepted)) (block cells rows)
  unfolding cost_memory
  cost_settles t is cells e rows f = record { answer = ap (cost_answer y) is; memory = ap₂ block e f ∙ ap (cost_memory b) is }

  pub cost_refuses : (f : ReconcileFault) → Err f ≡ cost_outcome b costs energy → ReconcilesCost y b costs energy (Err (y, f)) b
  unfolding cost_memory
  cost_refuses f is = record { answer = ap (cost_answer y) is; memory = ap (cost_memory b) is }

-- ---- what a cell holds once a table is set
module _ (cells : List Cell) (a r : ℕ) (k : a < accounts) (l : r < areas) where
  volume_in : (s : ℕ → ℕ → Sums) (sheet : List AreaRow) → (cell_at (with_volumes cells (volume_adjustments s sheet)) a r).volume ≡ volume_adjustment s sheet a r
  unfolding with_volumes volume_adjustments
  volume_in s sheet =
      let u = number_below a r k l in
      ap (λ c. c.volume) (get_or-map-range_with_len (λ i. cell_with_volume (get_or cells i zero_cell) (get_or (volume_adjustments s sheet) i zero_volume)) 0 cell_count (cell_number a r) (cell_number a r) zero_cell u (omega arith))
      ∙ table_at (volume_adjustment s sheet) zero_volume a r k l

  cost_in : (s : ℕ → ℕ → Sums) (v : ℕ → ℕ → VolumeAdjustment) (costs : List ℕ) → (cell_at (with_costs cells (delivery_adjustments s v costs)) a r).cost ≡ delivery_adjustment s v costs a r
  unfolding with_costs delivery_adjustments
  cost_in s v costs =
      let u = number_below a r k l in
      ap (λ c. c.cost) (get_or-map-range_with_len (λ i. cell_with_cost (get_or cells i zero_cell) (get_or (delivery_adjustments s v costs) i (pos 0))) 0 cell_count (cell_number a r) (cell_number a r) zero_cell u (omega arith))
      ∙ table_at (delivery_adjustment s v costs) (pos 0) a r k l

energy_in : (s : ℕ → ℕ → Sums) (v : ℕ → ℕ → VolumeAdjustment) (energy a : ℕ) → a < accounts → (account_at (accounts_with_costs (energy_adjustments s v energy)) a).cost ≡ energy_adjustment s v energy a
unfolding accounts_with_costs energy_adjustments
energy_in s v energy a k =
    ap (λ c. c.cost) (get_or-map-range_with_len (λ i. account_with_cost (get_or (energy_adjustments s v energy) i (pos 0))) 0 accounts a a zero_account k (omega arith))
    ∙ get_or-map-range_with_len (energy_adjustment s v energy) 0 accounts a a (pos 0) k (omega arith)

-- ---- shared fairly, whatever the block held
kwh_of_adjustment : (s : ℕ → ℕ → Sums) (sheet : List AreaRow) (a r : ℕ) → (volume_adjustment s sheet a r).kwh ≡ volume_kwh s (row_at sheet r) a r
unfolding volume_adjustment
kwh_of_adjustment s sheet a r = refl

pub volumes_are_fair : {y : OpenYear} {b after : Block} {sheet : List AreaRow} (r : Result VolumeSettledYear (OpenYear × ReconcileFault)) → ReconcilesVolume y b sheet r after → IfOk r (λ _. FairVolumes (sums_in b.cells) sheet after.cells)
volumes_are_fair {b = b} {sheet = sheet} (Ok z) p =
    let s = sums_in b.cells in
    subst (λ (d : Block). FairVolumes s sheet d.cells) (sym (volume_accepted p))
    (λ area l. operators_held _ _ _ (λ a. volume_kwh s (row_at sheet area) a area) _
    (λ a k. ap (λ (v : VolumeAdjustment). v.kwh) (volume_in b.cells a area k l s sheet) ∙ kwh_of_adjustment s sheet a area)
    (fair_operators s (row_at sheet area) area))
volumes_are_fair (Err f) p = tt

pub costs_are_fair : {y : VolumeSettledYear} {b after : Block} {costs : List ℕ} {energy : ℕ} (r : Result SettledYear (VolumeSettledYear × ReconcileFault)) → ReconcilesCost y b costs energy r after → IfOk r (λ _. FairCosts (sums_in b.cells) (volumes_in b.cells) costs energy after)
costs_are_fair {b = b} {costs = costs} {energy = energy} (Ok z) p =
    let s = sums_in b.cells in
    let v = volumes_in b.cells in
    subst (FairCosts s v costs energy) (sym (cost_accepted p))
    (record {
      delivery = λ area l. all_held _ _ (λ a. delivery_adjustment s v costs a area) _ (λ a k. cost_in b.cells a area k l s v costs) (fair_delivery s v costs area);
      network = all_held _ _ (energy_adjustment s v energy) _ (λ a k. energy_in s v energy a k) (fair_energy s v energy);
    })
costs_are_fair (Err f) p = tt
