-- The bytes of the areas follow one another.
use Rattle.std.proofs.Common.{◌≡◌, ◌++◌, [], get_or, map, drop, ap, ◌∙◌, rules}
use Rattle.std.specs.List.{flat_map}
use Rattle.amounts.proofs.Made.{made_each}
use Rattle.statements.specs.Amounts.{amount_bytes}
use Rattle.statements.specs.Layout.{amounts_of, no_amounts}
use Rattle.statements.specs.Fits.{AreaFits}
use Rattle.statements.proofs.Joined.{map_each, joined_areas, all_each}
use Rattle.statements.proofs.writing.write_areas.Goals as goal

pub returns : goal.returns
returns c =
    let xs = c.args.areas.now in
    let ys = c.from_fn-bytes.result in
    let each = made_each _ (λ i y. (y ≡ map amount_bytes (amounts_of (get_or xs i no_amounts))) × AreaFits (get_or xs i no_amounts)) _ (λ i y q called. search rules) ys [] 20 c.from_fn-bytes.ensures.items in
    let made : ys ≡ map (λ a. map amount_bytes (amounts_of a)) xs = map_each (λ a. map amount_bytes (amounts_of a)) xs ys 20 no_amounts [] c.told-areas c.from_fn-bytes.ensures.items.long (λ k less. (each k less).0) in
    let flat = c.as_flattened-2.ensures.value ∙ ap (flat_map (λ x. x)) (c.as_flattened.ensures.value ∙ ap (flat_map (λ x. x)) made) ∙ joined_areas xs in
    record {
      after = ap (λ ys. ys ++ drop 1280 c.args.tail.now) (c.copy_from_slice.ensures.after ∙ flat);
      fits = all_each AreaFits xs 20 no_amounts c.told-areas (λ k less. (each k less).1);
    }
