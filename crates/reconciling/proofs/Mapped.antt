-- Lists made by a function of the index, and mapped. Assumes nothing.
use Rattle.std.proofs.Common.{◌≡◌, ℕ, ◌+◌, List, map, length, get_or, sym, ap, ◌∙◌, arith}
use Rattle.std.specs.List.{range_with_len}
use Rattle.std.proofs.lemmas.List.FromFn.{fill_by_all, length-map-range_with_len, get_or-map-range_with_len}
use Rattle.std.proofs.lemmas.List.{length-map, get_or-map}

-- each element of a list that is made
pub map_counted : {X Y : Type 0} (g : X → Y) (f : ℕ → X) (n : ℕ) → map g (map f (range_with_len 0 n)) ≡ map (λ k. g (f k)) (range_with_len 0 n)
map_counted {X = X} g f n =
    let xs : List X = map f (range_with_len 0 n) in
    fill_by_all (λ k. g (f k)) (map g xs) n (g (f 0)) (length-map xs g ∙ length-map-range_with_len f 0 n)
    (λ k l. get_or-map g xs k (f 0) (g (f 0)) (omega (arith, length-map-range_with_len f 0 n)) ∙ ap g (get_or-map-range_with_len f 0 n k k (f 0) l (omega arith)))

-- by each element of a list, in place of its index
pub map_by_index : {X Y : Type 0} (g : X → Y) (xs : List X) (d : X) (n : ℕ) → length xs ≡ n → map (λ k. g (get_or xs k d)) (range_with_len 0 n) ≡ map g xs
map_by_index g xs d n e =
    sym (fill_by_all (λ k. g (get_or xs k d)) (map g xs) n (g d) (length-map xs g ∙ e) (λ k l. get_or-map g xs k d (g d) (omega (arith, e))))

-- counted from another number on
pub map_counted_from : {Y : Type 0} (f : ℕ → Y) (a n : ℕ) → map (λ k. f (k + a)) (range_with_len 0 n) ≡ map f (range_with_len a n)
map_counted_from f a n =
    sym (fill_by_all (λ k. f (k + a)) (map f (range_with_len a n)) n (f 0) (length-map-range_with_len f a n) (λ k l. get_or-map-range_with_len f a n k (k + a) (f 0) l (omega arith)))
