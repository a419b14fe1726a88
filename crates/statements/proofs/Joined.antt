-- The bytes of an area's amounts, and of all areas, joined.
use Rattle.std.proofs.Common.{◌≡◌, ℕ, ◌<◌, List, [], ◌∷◌, ◌++◌, length, get_or, map, sym, refl, ap, ◌∙◌, arith}
use Rattle.std.specs.List.{flat_map, AllByRecursion}
use Rattle.std.proofs.lemmas.Grind.{flat_map-append}
use Rattle.std.proofs.lemmas.List.{ext_get_or, length-map, get_or-map}
use Rattle.std.proofs.lemmas.List.Elements.{All-from_get_or, recursion_from_All}
use Rattle.statements.specs.declared.statement.AreaAmounts.{AreaAmounts}
use Rattle.statements.specs.Amounts.{amount_bytes}
use Rattle.statements.specs.Layout.{amounts_of, area_bytes}

-- a list that has f of each element at its place
pub map_each : {X Y : Type 0} (f : X → Y) (xs : List X) (ys : List Y) (n : ℕ) (d : X) (e : Y) → length xs ≡ n → length ys ≡ n → ((i : ℕ) → i < n → get_or ys i e ≡ f (get_or xs i d)) → ys ≡ map f xs
map_each f xs ys n d e long_x long_y each =
    ext_get_or e ys (map f xs) (long_y ∙ sym (length-map xs f ∙ long_x)) (λ i less. each i (omega (arith, long_y)) ∙ sym (get_or-map f xs i d e (omega (arith, long_x, long_y))))

joined_area : (a : AreaAmounts) → flat_map (λ x. x) (map amount_bytes (amounts_of a)) ≡ area_bytes a
unfolding area_bytes
joined_area a = refl

pub joined_areas : (xs : List AreaAmounts) → flat_map (λ x. x) (flat_map (λ x. x) (map (λ a. map amount_bytes (amounts_of a)) xs)) ≡ flat_map area_bytes xs
joined_areas [] = refl
joined_areas (a ∷ xs) =
    let blocks = map amount_bytes (amounts_of a) in
    let rest = flat_map (λ (x : List (List ℕ)). x) (map (λ (b : AreaAmounts). map amount_bytes (amounts_of b)) xs) in
    flat_map-append (λ (x : List ℕ). x) blocks rest
    ∙ ap (λ ys. ys ++ flat_map (λ (x : List ℕ). x) rest) (joined_area a)
    ∙ ap (λ ys. area_bytes a ++ ys) (joined_areas xs)

pub all_each : {X : Type 0} (P : X → Type 0) (xs : List X) (n : ℕ) (d : X) → length xs ≡ n → ((i : ℕ) → i < n → P (get_or xs i d)) → AllByRecursion P xs
all_each P xs n d long each = recursion_from_All P xs (All-from_get_or P xs d (λ i less. each i (omega (arith, long))))
