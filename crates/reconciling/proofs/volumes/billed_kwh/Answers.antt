use Rattle.std.proofs.Common.{◌+ℤ◌, nat_abs, ap, ◌∙◌, ap₂, arith, lit<, w64, SFits, to_z, of_z, rules}
use Rattle.std.proofs.lemmas.Int.{to_z-of_z}
use Rattle.ledger.specs.declared.block.Cell.{Cell}
use Rattle.ledger.specs.Limits.{max_kwh}
use Rattle.ledger.specs.Units.{kwh_of}
use Rattle.reconciling.specs.Volumes.{billed_kwh}
use Rattle.reconciling.proofs.Additions.{add_is, add_le}
use Rattle.reconciling.proofs.Ranged.{metered_kwh_le, modelled_kwh_le, sums_of_cell}
use Rattle.reconciling.proofs.volumes.billed_kwh.Goals as goal

pub returns : goal.returns
unfolding billed_kwh
returns c =
    let s = c.get.result.sums in
    let within = sums_of_cell c.get.result c.get.ensures.in_range in
    let f : SFits w64 s.metered = search rules in
    let g : SFits w64 s.modelled = search rules in
    let metered = c.kwh_of.ensures.answer ∙ ap kwh_of (to_z-of_z w64 s.metered f) in
    let modelled = c.kwh_of-2.ensures.answer ∙ ap kwh_of (to_z-of_z w64 s.modelled g) in
    let x = metered_kwh_le s within in
    let y = modelled_kwh_le s within in
    let value = ap₂ (λ a b. to_z w64 (of_z w64 (a +ℤ to_z w64 (of_z w64 b)))) (to_z-of_z w64 c.kwh_of.result (record { sfits = c.kwh_of.type_inv }) ∙ metered) modelled
    ∙ add_is (kwh_of s.metered) (kwh_of s.modelled) max_kwh max_kwh x y (lit< tt) in
    record { answer = value ∙ ap (λ (k : Cell). billed_kwh k.sums) c.get.ensures.value; bound = omega (arith, ap nat_abs value, add_le (kwh_of s.metered) (kwh_of s.modelled) max_kwh max_kwh x y (lit< tt)) }
