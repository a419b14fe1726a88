-- What the calls of a list do, from what they read of its memory. Assumes nothing.
use Rattle.std.proofs.Common.{◌≡◌, ℕ, ◌<◌, Bool, true, false, cond, eqb, ltb, List, length, take, drop, is_some, Some, None, Ok, Option, sym, refl, ap, ◌∙◌, subst, arith}
use Rattle.std.proofs.lemmas.List.{take_min, length-take}
use Rattle.std.proofs.lemmas.Bool.{cond-true, cond-false, lt-ltb}
use Rattle.lines.specs.Lookups.{Rising, lookup, insertion_point, with_line, with_replaced}
use Rattle.lines.specs.Outcomes.{to_add, to_replace}
use Rattle.lines.proofs.Lookups.{rising_with, rising_replaced, lookup_with, lookup_replaced, found_inside}

-- the lines in use, by their count
pub take_count : {L : Type 0} (xs : List L) (n r : ℕ) → r ≡ length (take n xs) → take r xs ≡ take n xs
take_count xs n r e = ap (λ m. take m xs) (e ∙ length-take n xs) ∙ take_min n xs

-- and those past them
pub drop_count : {L : Type 0} (xs : List L) (n r : ℕ) → r ≡ length (take n xs) → r < length xs → drop r xs ≡ drop n xs
drop_count xs n r e h = let l = length-take n xs in ap (λ m. drop m xs) (let m : r ≡ n = omega arith in m)

-- ---- what is read of the lines us in use, by the key k of a line, is true of the contents xs and the line's own key
module _ {L : Type 0} (key : L → ℕ) (line : L) (xs us : List L) (k : ℕ) (own : k ≡ key line) (used : us ≡ xs) where
  pub found_in : (o : Option L) (t : Bool) → o ≡ lookup key k us → is_some o ≡ t → is_some (lookup key (key line) xs) ≡ t
  found_in o t e h = ap (λ j. is_some (lookup key j xs)) (sym own) ∙ ap (λ ys. is_some (lookup key k ys)) (sym used) ∙ ap is_some (sym e) ∙ h

  pub point_in : (p : ℕ) → p ≡ insertion_point key k us → p ≡ insertion_point key (key line) xs
  point_in p e = e ∙ ap (λ j. insertion_point key j us) own ∙ ap (insertion_point key (key line)) used

not_there : {A : Type 0} (o : Option A) → is_some o ≡ false → o ≡ None
not_there None e = refl
not_there (Some x) e = cc

module _ {L : Type 0} (key : L → ℕ) (line : L) (xs : List L) where
  -- ---- an accepted add, after which the lines are ys
  module _ (absent : is_some (lookup key (key line) xs) ≡ false) where
    pub accepts : (n : ℕ) → length xs < n → Ok tt ≡ to_add key n xs line
    accepts n room = sym (cond-false (is_some (lookup key (key line) xs)) _ _ absent ∙ cond-true (ltb (length xs) n) _ _ (lt-ltb (length xs) n room))

    module _ (ys : List L) (is : ys ≡ with_line key line xs) where
      pub added_rising : Rising key xs → Rising key ys
      added_rising up = subst (Rising key) (sym is) (rising_with key line xs (not_there (lookup key (key line) xs) absent) up)

      pub added_finds : (k : ℕ) → lookup key k ys ≡ cond (eqb (key line) k) (Some line) (lookup key k xs)
      added_finds k = ap (lookup key k) is ∙ lookup_with key k line xs

  -- ---- an accepted replacement
  module _ (there : is_some (lookup key (key line) xs) ≡ true) where
    pub replaces : Ok tt ≡ to_replace key xs line
    replaces = sym (cond-true (is_some (lookup key (key line) xs)) _ _ there)

    module _ (ys : List L) (is : ys ≡ with_replaced key line xs) where
      pub replaced_rising : Rising key xs → Rising key ys
      replaced_rising up = subst (Rising key) (sym is) (rising_replaced key line xs there up)

      pub replaced_finds : (k : ℕ) → lookup key k ys ≡ cond (eqb (key line) k) (Some line) (lookup key k xs)
      replaced_finds k = ap (lookup key k) is ∙ lookup_replaced key k line xs there

-- the position of a line that is found, among the first n of the memory
pub found_at : {L : Type 0} (key : L → ℕ) (k : ℕ) (lines : List L) (n : ℕ) → is_some (lookup key k (take n lines)) ≡ true → (insertion_point key k (take n lines) < n) × (insertion_point key k (take n lines) < length lines)
found_at key k lines n there = let l = length-take n lines in let h = found_inside key k (take n lines) there in (omega arith, omega arith)
