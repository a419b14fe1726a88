-- The line with given key fields is the one with their key, over any widths. Assumes nothing.
use Rattle.std.proofs.Common.{◌≡◌, ℕ, true, cond, eqb, ltb, List, [], ◌∷◌, Some, None, Option, sym, refl, ap, ◌∙◌, ap₂}
use Rattle.std.proofs.lemmas.Bool.{and_parts, eqb-true}
use Rattle.std.specs.List.{Contains}
use Rattle.lines.specs.Keys.{key_of, Fit, before, same}
use Rattle.lines.specs.Lookups.{Rising, lookup}
use Rattle.lines.specs.Laws.{LineOf}
use Rattle.lines.specs.Tables.{line_with, LineOfFields}
use Rattle.lines.proofs.Keys.{in_order, same_both, same_fields}
use Rattle.lines.proofs.Lookups.{scan_one_of, scan_none, line_of_key}

same_true : (fs gs : List ℕ) → same fs gs ≡ true → fs ≡ gs
same_true [] [] e = refl
same_true [] (g ∷ gs) e = cc
same_true (f ∷ fs) [] e = cc
same_true (f ∷ fs) (g ∷ gs) e =
    let parts = and_parts (eqb f g) (same fs gs) e in
    ap₂ (λ x xs. x ∷ xs) (eqb-true f g parts.0) (same_true fs gs parts.1)

-- ---- fields of any size
module _ {L : Type 0} (fields : L → List ℕ) (fs : List ℕ) where
  pub line_with_one_of : (xs : List L) (l : L) → line_with fields fs xs ≡ Some l → Contains xs l × (fields l ≡ fs)
  line_with_one_of xs l e = let h = scan_one_of (λ x. before (fields x) fs) (λ x. same (fields x) fs) xs l e in (h.0, same_true (fields l) fs h.1)

  -- fields that no line has
  pub line_with_none : (xs : List L) → ((l : L) → Contains xs l → fields l ≡ fs → ⊥) → line_with fields fs xs ≡ None
  line_with_none xs lacks = scan_none (λ x. before (fields x) fs) (λ x. same (fields x) fs) xs (λ l h t. lacks l h (same_true (fields l) fs t))

-- ---- fields that fit their widths
module _ {L : Type 0} (ws : List ℕ) (fields : L → List ℕ) (fit : (l : L) → Fit ws (fields l)) (fs : List ℕ) (fits : Fit ws fs) where
  abbrev key : L → ℕ
  key l = key_of ws (fields l)

  pub lookup_by_fields : (xs : List L) → lookup key (key_of ws fs) xs ≡ line_with fields fs xs
  lookup_by_fields [] = refl
  lookup_by_fields (x ∷ xs) =
      ap (λ o. cond (ltb (key x) (key_of ws fs)) o (cond (eqb (key x) (key_of ws fs)) (Some x) None)) (lookup_by_fields xs)
      ∙ ap (λ b. cond b (line_with fields fs xs) (cond (eqb (key x) (key_of ws fs)) (Some x) None)) (in_order ws (fields x) fs (fit x) fits)
      ∙ ap (λ b. cond (before (fields x) fs) (line_with fields fs xs) (cond b (Some x) None)) (same_both ws (fields x) fs (fit x) fits)

  same_line : (l : L) → key l ≡ key_of ws fs → fields l ≡ fs
  same_line l e = same_fields ws (fields l) fs (fit l) fits e

  pub law_by_fields : (xs : List L) (r : Option L) → LineOf key (key_of ws fs) (Rising key xs) xs r → LineOfFields fields ws fs xs r
  law_by_fields xs r law = record {
    one_of = λ l e. ((law.one_of l e).0, same_line l (law.one_of l e).1);
    none = λ no. law.none (λ l h e. no l h (same_line l e));
    found = λ up l h e. law.found up l h (ap (key_of ws) e);
    absent = λ up none l h e. law.absent up none l h (ap (key_of ws) e);
  }

  -- the law of a table, of the line that it has
  pub line_of_fields : (xs : List L) → LineOfFields fields ws fs xs (line_with fields fs xs)
  line_of_fields xs = rw (sym (lookup_by_fields xs)) (law_by_fields xs (lookup key (key_of ws fs) xs) (line_of_key key (key_of ws fs) xs))

  -- what a list answers for the key of the fields
  pub asked : (xs : List L) (k : ℕ) (r : Option L) → k ≡ key_of ws fs → r ≡ lookup key k xs → record { answer : r ≡ line_with fields fs xs; law : LineOfFields fields ws fs xs r }
  asked xs k r e is =
      let answer : r ≡ line_with fields fs xs = is ∙ ap (λ j. lookup key j xs) e ∙ lookup_by_fields xs in
      record { answer = answer; law = rw answer (line_of_fields xs) }
