use Rattle.std.proofs.Common.{ap, ◌∙◌, w64, SFits, rules}
use Rattle.std.proofs.lemmas.Int.{to_z-of_z}
use Rattle.ledger.specs.Units.{kwh_of}
use Rattle.ledger.specs.declared.block.Cell.{Cell}
use Rattle.reconciling.specs.Volumes.{volume_weight}
use Rattle.reconciling.proofs.volume_lines.volume_line.Goals as goal

pub returns-clause-weight : goal.returns-clause-weight
unfolding volume_weight
returns-clause-weight c =
    let wh = c.get.result.sums.modelled in
    let fits : SFits w64 wh = search rules in
    to_z-of_z w64 c.kwh_of.result (record { sfits = c.kwh_of.type_inv }) ∙ c.kwh_of.ensures.answer ∙ ap kwh_of (to_z-of_z w64 wh fits) ∙ ap (λ (k : Cell). kwh_of k.sums.modelled) (c.get.ensures.value ∙ c.at.ensures)
