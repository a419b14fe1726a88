-- A line put at a position, once the lines from there to the count are moved up by one. Assumes nothing.
use Rattle.std.proofs.Common.{◌≡◌, ℕ, ◌+◌, ◌-◌, ◌<◌, ◌≤◌, List, [], ◌∷◌, ◌++◌, length, get_or, take, drop, set, sym, ap, ◌∙◌, arith}
use Rattle.std.proofs.lemmas.List.{append_assoc, take_more, take-take, take_at, drop_at, drop-drop, set_at, length-take-le, length-drop, length-append}
use Rattle.std.proofs.lemmas.Slice.{between_is}
use Rattle.std.specs.List.{insert, copy_within}

module _ {L : Type 0} (xs : List L) (n to : ℕ) (line : L) (among : to ≤ n) (room : n < length xs) where
  written : set (copy_within xs to n (to + 1)) to line ≡ insert (take n xs) to line ++ drop (n + 1) xs
  written =
      let rest = take (n - to) (drop to xs) ++ drop (to + 1 + (n - to)) xs in
      let past : to + 1 + (n - to) ≡ n + 1 = omega arith in
      ap (λ ys. set ys to line) (append_assoc (take (to + 1) xs) (take (n - to) (drop to xs)) (drop (to + 1 + (n - to)) xs))
      ∙ ap (λ ys. set (ys ++ rest) to line) (take_more xs to line (omega arith))
      ∙ ap (λ ys. set ys to line) (append_assoc (take to xs) (get_or xs to line ∷ []) rest)
      ∙ set_at (take to xs) (get_or xs to line) rest line to (length-take-le to xs (omega arith))
      ∙ ap (λ ys. ys ++ (line ∷ rest)) (sym (take-take to n xs among))
      ∙ ap (λ ys. take to (take n xs) ++ (line ∷ (ys ++ drop (to + 1 + (n - to)) xs))) (between_is xs to n)
      ∙ ap (λ m. take to (take n xs) ++ (line ∷ (drop to (take n xs) ++ drop m xs))) past
      ∙ sym (append_assoc (take to (take n xs)) (line ∷ drop to (take n xs)) (drop (n + 1) xs))

  long : length (insert (take n xs) to line) ≡ n + 1
  long =
      let len = length-take-le n xs (omega arith) in
      let a = length-take-le to (take n xs) (omega arith) in
      let b = length-drop to (take n xs) in
      length-append (take to (take n xs)) (line ∷ drop to (take n xs)) ∙ omega arith

  -- ys is what the memory holds then
  module _ (ys : List L) (is : ys ≡ copy_within xs to n (to + 1)) where
    pub written_front : take (n + 1) (set ys to line) ≡ insert (take n xs) to line
    written_front = ap (λ zs. take (n + 1) (set zs to line)) is ∙ ap (take (n + 1)) written ∙ take_at (insert (take n xs) to line) (drop (n + 1) xs) (n + 1) long

    pub written_rest : drop (n + 1) (set ys to line) ≡ drop 1 (drop n xs)
    written_rest = ap (λ zs. drop (n + 1) (set zs to line)) is ∙ ap (drop (n + 1)) written ∙ drop_at (insert (take n xs) to line) (drop (n + 1) xs) (n + 1) long ∙ sym (drop-drop 1 n xs)
