-- Each amount of the area as its bytes.
use Rattle.std.proofs.Common.{◌≡◌, [], get_or, map, pos, ap, ◌∙◌, rules}
use Rattle.amounts.proofs.Made.{made_each}
use Rattle.statements.specs.Amounts.{amount_bytes}
use Rattle.statements.proofs.Joined.{map_each}
use Rattle.statements.proofs.writing.area_bytes_of.Goals as goal

pub returns-clause-bytes : goal.returns-clause-bytes
returns-clause-bytes c =
    let amounts = c.from-amounts.result in
    map_each amount_bytes amounts c.from_fn.result 8 (pos 0) [] (search rules) c.from_fn.ensures.items.long
    (made_each _ (λ i y. y ≡ amount_bytes (get_or amounts i (pos 0))) _ (λ i y q called. search rules) c.from_fn.result [] 8 c.from_fn.ensures.items)
    ∙ ap (map amount_bytes) c.from-amounts.ensures.0
