use Rattle.std.proofs.Common.{◌≡◌, true, false, ap, ◌∙◌, rules}
use Rattle.std.proofs.lemmas.Iterator.{first_from_Range}
use Rattle.amounts.specs.Lowest.{lowest}
use Rattle.billing.specs.Filling.{needs_value}
use Rattle.amounts.proofs.Lowest.{found_lowest}
use Rattle.billing.proofs.checked.CheckedMetered.first_needing.Goals as goal

pub returns : goal.returns
returns c =
    let needs = needs_value c.args.self.now in
    found_lowest needs c.self.inside.metered.slots c.find.result
    (first_from_Range _ _ _ c.find.result (λ i. needs i ≡ true) (λ i. needs i ≡ false) c.find.ensures.ran (λ i f called. search rules) (λ i f called. search rules))
    ∙ ap (λ r. lowest needs r.slots) c.self.view_is
