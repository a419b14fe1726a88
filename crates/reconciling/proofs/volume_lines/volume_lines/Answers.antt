use Rattle.std.proofs.Common.{ℕ, ◌+◌, List, map, ap, ◌∙◌, rules}
use Rattle.ledger.specs.declared.block.Cell.{Cell}
use Rattle.sharing.specs.declared.line.AccountQuantity.{AccountQuantity}
use Rattle.sharing.specs.declared.quantity.Kwh.{Kwh}
use Rattle.reconciling.specs.Outcomes.{sums_in}
use Rattle.reconciling.specs.Volumes.{volume_weight, operator_weights}
use Rattle.reconciling.proofs.Mapped.{map_counted, map_counted_from}
use Rattle.amounts.proofs.Made.{made_by}
use Rattle.reconciling.proofs.volume_lines.volume_lines.Goals as goal

abbrev line : List Cell → ℕ → ℕ → AccountQuantity Kwh
line cells area k = record { account = k + 1; quantity = record { 0 = volume_weight (sums_in cells (k + 1) area) } }

pub returns : goal.returns
unfolding operator_weights
returns c =
    let cells = c.args.cells.now in
    let all = made_by _ (line cells c.args.area.index) _ (λ i y q called. search rules) c.from_fn.result (line cells c.args.area.index 0) 63 c.from_fn.ensures.items in
    record {
      weights = ap (map (λ (l : AccountQuantity Kwh). l.quantity.0)) all ∙ map_counted (λ (l : AccountQuantity Kwh). l.quantity.0) (line cells c.args.area.index) 63 ∙ map_counted_from (λ account. volume_weight (sums_in cells account c.args.area.index)) 1 63;
      accounts = ap (map (λ (l : AccountQuantity Kwh). l.account)) all ∙ map_counted (λ (l : AccountQuantity Kwh). l.account) (line cells c.args.area.index) 63;
    }
