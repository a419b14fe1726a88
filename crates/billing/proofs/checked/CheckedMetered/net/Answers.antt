use Rattle.std.proofs.Common.{◌≡◌, ℕ, ◌≤◌, pos, ◌-ℤ◌, sum, ap, ◌∙◌, ap₂, arith, w64, to_z, of_z}
use borrow.Author.Differences.{ints}
use Rattle.std.proofs.lemmas.Int.{to_z-of_z, to_z_pos}
use Rattle.records.specs.Records.{described_metered}
use Rattle.billing.specs.Filling.{filled, net}
use Rattle.billing.specs.Limits.{max_net}
use Rattle.billing.proofs.checked.CheckedMetered.net.Goals as goal

-- the difference of two totals, as the machine has it
difference : (a b : ℕ) → a ≤ max_net → b ≤ max_net → to_z w64 (of_z w64 (to_z w64 a -ℤ to_z w64 b)) ≡ pos a -ℤ pos b
difference a b l m = ap (λ x. to_z w64 (of_z w64 x)) (ap₂ ◌-ℤ◌ (to_z_pos w64 a (omega arith)) (to_z_pos w64 b (omega arith))) ∙ to_z-of_z w64 (pos a -ℤ pos b) (omega (arith, ints))

pub returns-clause-net : goal.returns-clause-net
unfolding net
returns-clause-net c =
    let r = described_metered c.self.inside.metered in
    let consumption = c.total_filled-consumption.ensures in
    let regeneration = c.total_filled-regeneration.ensures in
    let filled_by = c.fill_of-fill.ensures in
    let came_to = ap₂ (λ a b. pos a -ℤ pos b)
    (consumption.value ∙ ap (λ v. sum (filled r.consumption r.slots v)) filled_by.consumption)
    (regeneration.value ∙ ap (λ v. sum (filled r.regeneration r.slots v)) filled_by.regeneration) in
    difference c.total_filled-consumption.result c.total_filled-regeneration.result consumption.bound regeneration.bound ∙ came_to ∙ ap (λ x. net x c.args.values) c.self.view_is
