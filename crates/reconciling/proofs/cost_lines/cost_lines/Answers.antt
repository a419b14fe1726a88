use Rattle.std.proofs.Common.{ℕ, List, map, get_or, ℤ, pos, ap, ◌∙◌, rules}
use Rattle.std.specs.List.{range_with_len}
use Rattle.std.proofs.lemmas.List.{map-id}
use Rattle.amounts.specs.Ranges.{accounts}
use Rattle.sharing.specs.declared.line.AccountQuantity.{AccountQuantity}
use Rattle.sharing.specs.declared.quantity.Pence.{Pence}
use Rattle.reconciling.proofs.Mapped.{map_counted, map_by_index}
use Rattle.amounts.proofs.Made.{made_by}
use Rattle.reconciling.proofs.cost_lines.cost_lines.Goals as goal

abbrev line : List ℤ → ℕ → AccountQuantity Pence
line weights account = record { account = account; quantity = record { 0 = get_or weights account (pos 0) } }

pub returns : goal.returns
returns c =
    let weights = c.args.weights.now in
    let all = made_by _ (line weights) _ (λ i y q called. search rules) c.from_fn.result (line weights 0) 64 c.from_fn.ensures.items in
    record {
      weights = ap (map (λ (l : AccountQuantity Pence). l.quantity.0)) all ∙ map_counted (λ (l : AccountQuantity Pence). l.quantity.0) (line weights) accounts ∙ map_by_index (λ w. w) weights (pos 0) accounts c.told-weights ∙ map-id weights;
      accounts = ap (map (λ (l : AccountQuantity Pence). l.account)) all ∙ map_counted (λ (l : AccountQuantity Pence). l.account) (line weights) accounts ∙ map-id (range_with_len 0 accounts);
    }
