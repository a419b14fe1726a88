-- The bytes are cut into account, areas and closing amount.
use Rattle.std.proofs.Common.{◌∙◌}
use Rattle.std.proofs.lemmas.List.{take_rest}
use Rattle.statements.proofs.Chunks.{statement_of_parts}
use Rattle.statements.proofs.reading.read_parts.Goals as goal

pub returns-clause-parts : goal.returns-clause-parts
returns-clause-parts c =
    let bs = c.args.buffer.now in
    let place = c.args.place in
    let account = c.in_ok-account.ensures.cases in
    let in_areas = c.in_ok-areas.ensures.cases in
    statement_of_parts bs c.in_ok-get.field-0.now c.in_ok-account.rest.now c.in_ok-areas.areas.now c.in_ok-areas.rest.now c.in_ok-cost.cost.now place c.in_ok-account.account.now
    (c.in_ok-get.ensures.lookup.0.2 ∙ take_rest bs place)
    account.0
    in_areas.0
    in_areas.1
    c.in_ok-cost.ensures.cases.same
