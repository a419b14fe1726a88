use Rattle.std.proofs.Common.{◌≡◌, ℕ, List, ℤ, Some, None, Ok, Err, Option, sym, refl, ap, ◌∙◌, subst, ap₂}
use Rattle.std.proofs.lemmas.Result.{err_from_is_err_and, IfOk-from_err}
use Rattle.ledger.specs.Blocks.{Block, block}
use Rattle.ledger.specs.Limits.{sound}
use Rattle.ledger.specs.declared.block.Cell.{Cell}
use Rattle.reconciling.specs.declared.costs.CostAdjustments.{CostAdjustments}
use Rattle.reconciling.specs.declared.sheets.CheckedCosts.{CheckedCosts}
use Rattle.reconciling.specs.declared.fault.ReconcileFault.{ReconcileFault}
use Rattle.reconciling.specs.declared.fault.ReconcileFault.TheVariants as fault
use Rattle.reconciling.specs.Costs.{delivery_adjustments, energy_adjustments}
use Rattle.reconciling.specs.Laws.{FairCosts}
use Rattle.reconciling.specs.Outcomes.{sums_in, volumes_in, or_then, fault_unless, unless_fault, cost_sheet_fault, delivery_limit_fault, energy_limit_fault, cost_fault, cost_adjustments, cost_outcome}
use Rattle.reconciling.proofs.Checks.{fault_if, no_fault_if, value_if}
use Rattle.reconciling.proofs.FairTables.{fair_costs}
use Rattle.reconciling.proofs.costs.cost_adjustments.Goals as goal

-- a sheet that was checked
abbrev checked : List ℕ → ℕ → CheckedCosts
checked delivery energy = record { delivery = delivery; energy = energy }

-- ---- the outcome, by the checks in their order
module _ (b : Block) (costs : List ℕ) (energy : ℕ) where
  by_checks : (whole sheet delivery network : Option ReconcileFault) → fault_unless (sound b) fault.Block ≡ whole → cost_sheet_fault costs energy ≡ sheet → delivery_limit_fault b.cells costs ≡ delivery → energy_limit_fault b.cells energy ≡ network
      → cost_outcome b costs energy ≡ unless_fault (or_then whole (or_then sheet (or_then delivery network))) (cost_adjustments b.cells costs energy)
  unfolding cost_outcome cost_fault
  by_checks whole sheet delivery network p q r t = λ i. unless_fault (or_then (p i) (or_then (q i) (or_then (r i) (t i)))) (cost_adjustments b.cells costs energy)

  whole_if : (cells : List Cell) → Ok cells ≡ unless_fault (fault_unless (sound b) fault.Block) b.cells → (fault_unless (sound b) fault.Block ≡ None) × (cells ≡ b.cells)
  whole_if cells e = (no_fault_if (fault_unless (sound b) fault.Block) b.cells cells e, value_if (fault_unless (sound b) fault.Block) b.cells cells e)

  checked_if : (k : CheckedCosts) → Ok k ≡ unless_fault (cost_sheet_fault costs energy) (checked costs energy) → (cost_sheet_fault costs energy ≡ None) × (k ≡ checked costs energy)
  checked_if k e = (no_fault_if (cost_sheet_fault costs energy) (checked costs energy) k e, value_if (cost_sheet_fault costs energy) (checked costs energy) k e)

-- ---- what the two parts answer, of cells that are those of the block
module _ (cells held : List Cell) (same : held ≡ cells) where
  delivery_of : (costs given : List ℕ) → given ≡ costs → unless_fault (delivery_limit_fault held given) (delivery_adjustments (sums_in held) (volumes_in held) given) ≡ unless_fault (delivery_limit_fault cells costs) (delivery_adjustments (sums_in cells) (volumes_in cells) costs)
  delivery_of costs given e = λ i. unless_fault (delivery_limit_fault (same i) (e i)) (delivery_adjustments (sums_in (same i)) (volumes_in (same i)) (e i))

  energy_of : (energy given : ℕ) → given ≡ energy → unless_fault (energy_limit_fault held given) (energy_adjustments (sums_in held) (volumes_in held) given) ≡ unless_fault (energy_limit_fault cells energy) (energy_adjustments (sums_in cells) (volumes_in cells) energy)
  energy_of energy given e = λ i. unless_fault (energy_limit_fault (same i) (e i)) (energy_adjustments (sums_in (same i)) (volumes_in (same i)) (e i))

pub returns-in_err-cells : goal.returns-in_err-cells
returns-in_err-cells c =
    let b = block c.args.cells.now c.args.accounts.now in
    let costs = c.args.sheet.now.delivery.now in
    let energy = c.args.sheet.now.energy in
    let f = c.in_err-cells.field-0.0 in
    let p = err_from_is_err_and c.from_residual.result c.from_residual.ensures.1 in
    let bad = fault_if (fault_unless (sound b) fault.Block) b.cells f c.in_err-cells.ensures in
    record {
      answer = p.1 ∙ ap Err p.2 ∙ sym (by_checks b costs energy (Some f) (cost_sheet_fault costs energy) (delivery_limit_fault b.cells costs) (energy_limit_fault b.cells energy) bad refl refl refl);
      fair = IfOk-from_err c.from_residual.result (FairCosts b.cells costs energy) c.from_residual.ensures.0;
    }

pub returns-in_err-costs : goal.returns-in_err-costs
returns-in_err-costs c =
    let b = block c.args.cells.now c.args.accounts.now in
    let costs = c.args.sheet.now.delivery.now in
    let energy = c.args.sheet.now.energy in
    let f = c.in_err-costs.field-0.0 in
    let p = err_from_is_err_and c.from_residual-in_err-costs.result c.from_residual-in_err-costs.ensures.1 in
    let whole = whole_if b costs energy c.in_ok-cells.cells c.in_ok-cells.ensures in
    let bad = fault_if (cost_sheet_fault costs energy) (checked costs energy) f c.in_err-costs.ensures.answer in
    record {
      answer = p.1 ∙ ap Err p.2 ∙ sym (by_checks b costs energy None (Some f) (delivery_limit_fault b.cells costs) (energy_limit_fault b.cells energy) whole.0 bad refl refl);
      fair = IfOk-from_err c.from_residual-in_err-costs.result (FairCosts b.cells costs energy) c.from_residual-in_err-costs.ensures.0;
    }

pub returns-in_err-delivery : goal.returns-in_err-delivery
returns-in_err-delivery c =
    let b = block c.args.cells.now c.args.accounts.now in
    let costs = c.args.sheet.now.delivery.now in
    let energy = c.args.sheet.now.energy in
    let f = c.in_err-delivery.field-0.0 in
    let p = err_from_is_err_and c.from_residual-in_err-delivery.result c.from_residual-in_err-delivery.ensures.1 in
    let whole = whole_if b costs energy c.in_ok-cells.cells c.in_ok-cells.ensures in
    let sheet = checked_if b costs energy c.in_ok-costs.costs c.in_ok-costs.ensures.answer in
    let same = delivery_of b.cells c.in_ok-cells.cells whole.1 costs c.in_ok-costs.costs.delivery (ap (λ (k : CheckedCosts). k.delivery) sheet.1) in
    let bad = fault_if (delivery_limit_fault b.cells costs) (delivery_adjustments (sums_in b.cells) (volumes_in b.cells) costs) f (c.in_err-delivery.ensures ∙ same) in
    record {
      answer = p.1 ∙ ap Err p.2 ∙ sym (by_checks b costs energy None None (Some f) (energy_limit_fault b.cells energy) whole.0 sheet.0 bad refl);
      fair = IfOk-from_err c.from_residual-in_err-delivery.result (FairCosts b.cells costs energy) c.from_residual-in_err-delivery.ensures.0;
    }

pub returns-in_err-energy : goal.returns-in_err-energy
returns-in_err-energy c =
    let b = block c.args.cells.now c.args.accounts.now in
    let costs = c.args.sheet.now.delivery.now in
    let energy = c.args.sheet.now.energy in
    let f = c.in_err-energy.field-0.0 in
    let p = err_from_is_err_and c.from_residual-in_err-energy.result c.from_residual-in_err-energy.ensures.1 in
    let whole = whole_if b costs energy c.in_ok-cells.cells c.in_ok-cells.ensures in
    let sheet = checked_if b costs energy c.in_ok-costs.costs c.in_ok-costs.ensures.answer in
    let same = delivery_of b.cells c.in_ok-cells.cells whole.1 costs c.in_ok-costs.costs.delivery (ap (λ (k : CheckedCosts). k.delivery) sheet.1) in
    let same_energy = energy_of b.cells c.in_ok-cells.cells whole.1 energy c.in_ok-costs.costs.energy (ap (λ (k : CheckedCosts). k.energy) sheet.1) in
    let delivery = no_fault_if (delivery_limit_fault b.cells costs) (delivery_adjustments (sums_in b.cells) (volumes_in b.cells) costs) c.in_ok-delivery.delivery (c.in_ok-delivery.ensures ∙ same) in
    let bad = fault_if (energy_limit_fault b.cells energy) (energy_adjustments (sums_in b.cells) (volumes_in b.cells) energy) f (c.in_err-energy.ensures ∙ same_energy) in
    record {
      answer = p.1 ∙ ap Err p.2 ∙ sym (by_checks b costs energy None None None (Some f) whole.0 sheet.0 delivery bad);
      fair = IfOk-from_err c.from_residual-in_err-energy.result (FairCosts b.cells costs energy) c.from_residual-in_err-energy.ensures.0;
    }

-- the adjustments that are handed back
abbrev both : List ℤ → List ℤ → CostAdjustments
both delivery energy = record { delivery = delivery; energy = energy }

pub returns : goal.returns
returns c =
    let b = block c.args.cells.now c.args.accounts.now in
    let costs = c.args.sheet.now.delivery.now in
    let energy = c.args.sheet.now.energy in
    let table = delivery_adjustments (sums_in b.cells) (volumes_in b.cells) costs in
    let parts = energy_adjustments (sums_in b.cells) (volumes_in b.cells) energy in
    let whole = whole_if b costs energy c.in_ok-cells.cells c.in_ok-cells.ensures in
    let sheet = checked_if b costs energy c.in_ok-costs.costs c.in_ok-costs.ensures.answer in
    let delivery_owed = c.in_ok-delivery.ensures ∙ delivery_of b.cells c.in_ok-cells.cells whole.1 costs c.in_ok-costs.costs.delivery (ap (λ (k : CheckedCosts). k.delivery) sheet.1) in
    let energy_owed = c.in_ok-energy.ensures ∙ energy_of b.cells c.in_ok-cells.cells whole.1 energy c.in_ok-costs.costs.energy (ap (λ (k : CheckedCosts). k.energy) sheet.1) in
    let delivery = no_fault_if (delivery_limit_fault b.cells costs) table c.in_ok-delivery.delivery delivery_owed in
    let network = no_fault_if (energy_limit_fault b.cells energy) parts c.in_ok-energy.energy energy_owed in
    let same : both c.in_ok-delivery.delivery c.in_ok-energy.energy ≡ cost_adjustments b.cells costs energy =
    ap₂ both (value_if (delivery_limit_fault b.cells costs) table c.in_ok-delivery.delivery delivery_owed) (value_if (energy_limit_fault b.cells energy) parts c.in_ok-energy.energy energy_owed) in
    record {
      answer = ap Ok same ∙ sym (by_checks b costs energy None None None None whole.0 sheet.0 delivery network);
      fair = subst (FairCosts b.cells costs energy) (sym same) (fair_costs b.cells costs energy);
    }
