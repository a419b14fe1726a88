-- Laws of lines in the order of their keys. Assumes nothing.
use Rattle.std.proofs.Common.{◌≡◌, ℕ, zero, suc, ◌+◌, ◌<◌, ◌≤◌, Bool, true, false, cond, eqb, ltb, leb, List, [], ◌∷◌, length, get_or, take, drop, set, is_some, Some, None, Option, sym, refl, ap, ◌∙◌, subst, inl, inr, le_of_suc-le-suc, arith}
use Rattle.std.proofs.lemmas.List.Elements.{All-nil, All-cons, All-append, All-take, All-drop, All-set, All-weaker, All-contains, Contains-append_left, Contains-append_right, Contains-push}
use Rattle.std.proofs.lemmas.List.Kept.{AllPairs-cons}
use Rattle.std.proofs.lemmas.List.{at_drop_more, at_drop_all}
use Rattle.std.proofs.lemmas.Bool.{eq-eqb, ltb-true, ltb-false, lt-ltb, le-ltb, eqb-true, cond-true, cond-false, cond_both, cases_order}
use Rattle.std.proofs.lemmas.Bool.Decides.{nat_tests}
use Rattle.std.proofs.lemmas.List.Sums.{prefix_len-le-length}
use Rattle.std.specs.Bool.{then_some}
use Rattle.std.specs.Option.{unwrap_or, option_and_then}
use Rattle.std.specs.List.{insert, find, position, position_or_len, Contains, All}
use Rattle.lines.specs.Lookups.{Rising, scan, lookup, insertion_point, with_line, with_replaced}
use Rattle.lines.specs.Laws.{LineOf, OneLinePerKey}

-- ---- what a scan finds is one of the lines, and has what is wanted
module _ {L : Type 0} (comes_before has : L → Bool) where
  first_one_of : (x : L) (xs : List L) (l : L) → cond (has x) (Some x) None ≡ Some l → Contains (x ∷ xs) l × (has l ≡ true)
  first_one_of x xs l = cond_both (has x) (Some x) None (λ o. o ≡ Some l → Contains (x ∷ xs) l × (has l ≡ true))
      (λ t e. let this : x ≡ l = cc in subst (λ y. Contains (x ∷ xs) y × (has y ≡ true)) this (Contains-append_left (x ∷ []) xs x (Contains-push [] x), t))
      (λ t e. let y : ◌≡◌ {A = ℕ} 0 1 = cc in absurd (omega arith))

  pub scan_one_of : (xs : List L) (l : L) → scan comes_before has xs ≡ Some l → Contains xs l × (has l ≡ true)
  scan_one_of [] l e = let y : ◌≡◌ {A = ℕ} 0 1 = cc in absurd (omega arith)
  scan_one_of (x ∷ xs) l e =
      elim (comes_before x) as (λ b. cond b (scan comes_before has xs) (cond (has x) (Some x) None) ≡ Some l → Contains (x ∷ xs) l × (has l ≡ true)) [
        | true ↦ λ e. (let h = scan_one_of xs l e in (Contains-append_right (x ∷ []) xs l h.0, h.1))
        | false ↦ λ e. first_one_of x xs l e
      ] e

  pub scan_none : (xs : List L) → ((l : L) → Contains xs l → has l ≡ true → ⊥) → scan comes_before has xs ≡ None
  scan_none xs lacks = elim (scan comes_before has xs) as (λ o. ((l : L) → o ≡ Some l → Contains xs l × (has l ≡ true)) → o ≡ None) [
    | None ↦ λ _. refl
    | Some l ↦ λ one. absurd (lacks l (one l refl).0 (one l refl).1)
  ] (scan_one_of xs)

module _ {L : Type 0} (key : L → ℕ) where
  -- ---- the insertion point
  -- is the place of the first line whose key is not below k
  pub point_is : (k : ℕ) (xs : List L) → position_or_len (λ x. leb k (key x)) xs ≡ insertion_point key k xs
  point_is k [] = refl
  point_is k (x ∷ xs) = let rest = point_is k xs in grind (arith, nat_tests)

  -- and, of a line and more, one more than that of the rest, or none
  at_point : (k : ℕ) (x : L) (xs : List L) (P : ℕ → Type 0) → (ltb (key x) k ≡ true → P (suc (insertion_point key k xs))) → (ltb (key x) k ≡ false → P 0) → P (insertion_point key k (x ∷ xs))
  at_point k x xs P below not_below =
      let p = insertion_point key k xs in
      let more : suc p ≡ 1 + p = omega arith in
      cond_both (ltb (key x) k) (1 + p) 0 P (λ t. subst P more (below t)) not_below

  -- the same of the lines from i on
  pub point_more : (k : ℕ) (xs : List L) (i : ℕ) (x : L) → i < length xs → x ≡ get_or xs i x → insertion_point key k (drop i xs) ≡ cond (ltb (key x) k) (suc (insertion_point key k (drop (i + 1) xs))) 0
  point_more k xs i x h e =
      let p = insertion_point key k (drop (i + 1) xs) in
      let more : 1 + p ≡ suc p = omega arith in
      at_drop_more (insertion_point key k) xs i x h ∙ ap (λ y. cond (ltb (key y) k) (1 + p) 0) (sym e) ∙ ap (λ m. cond (ltb (key x) k) m 0) more

  pub point_all : (k : ℕ) (xs : List L) (i : ℕ) → length xs ≤ i → insertion_point key k (drop i xs) ≡ 0
  point_all k xs i h = at_drop_all (insertion_point key k) xs i h

  -- what `position` answers, or the length
  pub point_or_len : (k : ℕ) (xs : List L) (o : Option ℕ) → o ≡ position (λ x. leb k (key x)) xs → unwrap_or o (length xs) ≡ insertion_point key k xs
  point_or_len k xs o e =
      let is = point_is k xs in
      let within = prefix_len-le-length (λ x. ltb (key x) k) xs in
      grind (arith, nat_tests)

  -- what is found is the first line whose key is not below k, if it has the key k
  pub found_first : (k : ℕ) (xs : List L) → option_and_then (λ x. then_some (eqb (key x) k) x) (find (λ x. leb k (key x)) xs) ≡ lookup key k xs
  found_first k [] = refl
  found_first k (x ∷ xs) = let rest = found_first k xs in grind (arith, nat_tests)

  -- what is found is the line at the insertion point, if it has the key
  pub lookup_at : (k : ℕ) (xs : List L) (x : L) → insertion_point key k xs < length xs → x ≡ get_or xs (insertion_point key k xs) x → lookup key k xs ≡ cond (eqb (key x) k) (Some x) None
  lookup_at k [] x h e = absurd (omega arith)
  lookup_at k (y ∷ ys) x h e =
      at_point k y ys (λ p. p < suc (length ys) → x ≡ get_or (y ∷ ys) p x → lookup key k (y ∷ ys) ≡ cond (eqb (key x) k) (Some x) None)
      (λ t h e. cond-true (ltb (key y) k) _ _ t ∙ lookup_at k ys x (le_of_suc-le-suc h) e)
      (λ t h e. cond-false (ltb (key y) k) _ _ t ∙ ap (λ z. cond (eqb (key z) k) (Some z) None) (sym e))
      h e

  pub lookup_past : (k : ℕ) (xs : List L) → length xs ≤ insertion_point key k xs → lookup key k xs ≡ None
  lookup_past k [] h = refl
  lookup_past k (y ∷ ys) h =
      let p = insertion_point key k ys in
      elim (ltb (key y) k) as (λ b. suc (length ys) ≤ cond b (1 + p) 0 → cond b (lookup key k ys) (cond (eqb (key y) k) (Some y) None) ≡ None) [
        | true ↦ λ h. lookup_past k ys (omega arith)
        | false ↦ λ h. absurd (omega arith)
      ] h

  nothing : (k : ℕ) (xs : List L) → lookup key k xs ≡ None → is_some (lookup key k xs) ≡ true → ⊥
  nothing k xs e h = let z : true ≡ false = sym h ∙ ap is_some e in let y : ◌≡◌ {A = ℕ} 0 1 = cc in omega arith

  pub found_inside : (k : ℕ) (xs : List L) → is_some (lookup key k xs) ≡ true → insertion_point key k xs < length xs
  found_inside k xs h = elim (cases_order (insertion_point key k xs) (length xs)) [
    | inl e ↦ absurd (nothing k xs (lookup_past k xs (omega arith)) h)
    | inr o ↦ elim o [ inl l ↦ l | inr l ↦ absurd (nothing k xs (lookup_past k xs (omega arith)) h) ]
  ]

  -- ---- what is found
  pub found_is_one_of : (k : ℕ) (xs : List L) (l : L) → lookup key k xs ≡ Some l → Contains xs l × (key l ≡ k)
  found_is_one_of k xs l e = let h = scan_one_of (λ x. ltb (key x) k) (λ x. eqb (key x) k) xs l e in (h.0, eqb-true (key l) k h.1)

  -- the first line's key is below those of the rest, and the rest rise
  rising_first : (x : L) (xs : List L) → Rising key (x ∷ xs) → All (λ y. key x < key y) xs
  rising_first x xs up k d h = up 0 (suc k) d (omega arith) (omega arith)

  rising_rest : (x : L) (xs : List L) → Rising key (x ∷ xs) → Rising key xs
  rising_rest x xs up i j d l h = up (suc i) (suc j) d (omega arith) (omega arith)

  rising_nil : Rising key []
  rising_nil i j d l h = absurd (omega arith)

  rising_cons : (x : L) (xs : List L) → All (λ y. key x < key y) xs → Rising key xs → Rising key (x ∷ xs)
  rising_cons = AllPairs-cons (λ x y. key x < key y)

  pub rising_found : (xs : List L) → Rising key xs → (l : L) → Contains xs l → (k : ℕ) → key l ≡ k → lookup key k xs ≡ Some l
  rising_found [] up l (i, h, at) k e = absurd (omega arith)
  rising_found (x ∷ xs) up l (zero, h, at) k e =
      let here : key x ≡ k = ap key at ∙ e in
      cond-false (ltb (key x) k) _ _ (le-ltb (key x) k (omega arith)) ∙ cond-true (eqb (key x) k) _ _ (eq-eqb (key x) k here) ∙ ap Some at
  rising_found (x ∷ xs) up l (suc i, h, at) k e =
      let rest : Contains xs l = (i, le_of_suc-le-suc h, at) in
      let less : key x < key l = All-contains (λ y. key x < key y) xs l (rising_first x xs up) rest in
      cond-true (ltb (key x) k) _ _ (lt-ltb (key x) k (omega arith)) ∙ rising_found xs (rising_rest x xs up) l rest k e

  pub line_of_key : (k : ℕ) (xs : List L) → LineOf key k (Rising key xs) xs (lookup key k xs)
  line_of_key k xs = record {
    one_of = found_is_one_of k xs;
    none = λ lacks. scan_none (λ x. ltb (key x) k) (λ x. eqb (key x) k) xs (λ l h t. lacks l h (eqb-true (key l) k t));
    found = λ up l h e. rising_found xs up l h k e;
    absent = λ up none l h e. let z = rising_found xs up l h k e in let y : ◌≡◌ {A = ℕ} 0 1 = cc in omega arith;
  }

  -- ---- at most one line has a key
  pub one_line_per_key : (xs : List L) → Rising key xs → OneLinePerKey key xs
  one_line_per_key xs up i j d h g e = elim (cases_order i j) [
    | inl same ↦ same
    | inr o ↦ elim o [
      | inl l ↦ absurd (omega (arith, up i j d l g))
      | inr l ↦ absurd (omega (arith, up j i d l h))
    ]
  ]

  -- ---- a line that is added
  all_inserted : (P : L → Type 0) (xs : List L) (i : ℕ) (x : L) → All P xs → P x → All P (insert xs i x)
  all_inserted P xs i x a p = All-append P (take i xs) (x ∷ drop i xs) (All-take P i xs a) (All-cons P x (drop i xs) p (All-drop P i xs a))

  pub rising_with : (line : L) (xs : List L) → lookup key (key line) xs ≡ None → Rising key xs → Rising key (with_line key line xs)
  rising_with line [] none up = rising_cons line [] (All-nil _) rising_nil
  rising_with line (x ∷ xs) none up =
      at_point (key line) x xs (λ p. Rising key (insert (x ∷ xs) p line))
      (λ t. rising_cons x (with_line key line xs)
      (all_inserted (λ y. key x < key y) xs _ line (rising_first x xs up) (ltb-true _ _ t))
      (rising_with line xs (sym (cond-true (ltb (key x) (key line)) (lookup key (key line) xs) _ t) ∙ none) (rising_rest x xs up)))
      (λ t.
      let other : cond (eqb (key x) (key line)) (Some x) None ≡ None = sym (cond-false (ltb (key x) (key line)) (lookup key (key line) xs) _ t) ∙ none in
      let apart : key x ≡ key line → ⊥ = λ e. (let z = cond-true (eqb (key x) (key line)) (Some x) None (eq-eqb _ _ e) in let y : ◌≡◌ {A = ℕ} 0 1 = cc in omega arith) in
      let less : key line < key x = omega (arith, ltb-false _ _ t, apart) in
      rising_cons line (x ∷ xs) (All-cons (λ y. key line < key y) x xs less (All-weaker (λ y. key x < key y) (λ y. key line < key y) (λ y l. omega arith) xs (rising_first x xs up))) up)

  pub lookup_with : (k : ℕ) (line : L) (xs : List L) → lookup key k (with_line key line xs) ≡ cond (eqb (key line) k) (Some line) (lookup key k xs)
  lookup_with k line [] = grind (arith, nat_tests)
  lookup_with k line (x ∷ xs) =
      at_point (key line) x xs (λ p. lookup key k (insert (x ∷ xs) p line) ≡ cond (eqb (key line) k) (Some line) (lookup key k (x ∷ xs)))
      (λ t. let less = ltb-true _ _ t in ap (λ o. cond (ltb (key x) k) o (cond (eqb (key x) k) (Some x) None)) (lookup_with k line xs) ∙ grind (arith, nat_tests))
      (λ t. let less = ltb-false _ _ t in grind (arith, nat_tests))

  -- ---- a line that is replaced
  first_has_key : (line x : L) (xs : List L) → ltb (key x) (key line) ≡ false → is_some (lookup key (key line) (x ∷ xs)) ≡ true → key x ≡ key line
  first_has_key line x xs t there =
      cond_both (eqb (key x) (key line)) (Some x) None (λ o. is_some o ≡ true → key x ≡ key line)
      (λ e _. eqb-true _ _ e)
      (λ e h. let y : ◌≡◌ {A = ℕ} 0 1 = cc in absurd (omega arith))
      (ap is_some (sym (cond-false (ltb (key x) (key line)) (lookup key (key line) xs) _ t)) ∙ there)

  pub rising_replaced : (line : L) (xs : List L) → is_some (lookup key (key line) xs) ≡ true → Rising key xs → Rising key (with_replaced key line xs)
  rising_replaced line [] there up = rising_nil
  rising_replaced line (x ∷ xs) there up =
      at_point (key line) x xs (λ p. Rising key (set (x ∷ xs) p line))
      (λ t. rising_cons x (with_replaced key line xs)
      (All-set (λ y. key x < key y) xs _ line (ltb-true _ _ t) (rising_first x xs up))
      (rising_replaced line xs (ap is_some (sym (cond-true (ltb (key x) (key line)) (lookup key (key line) xs) _ t)) ∙ there) (rising_rest x xs up)))
      (λ t. rising_cons line xs (subst (λ n. All (λ y. n < key y) xs) (first_has_key line x xs t there) (rising_first x xs up)) (rising_rest x xs up))

  pub lookup_replaced : (k : ℕ) (line : L) (xs : List L) → is_some (lookup key (key line) xs) ≡ true → lookup key k (with_replaced key line xs) ≡ cond (eqb (key line) k) (Some line) (lookup key k xs)
  lookup_replaced k line [] there = let y : ◌≡◌ {A = ℕ} 0 1 = cc in absurd (omega arith)
  lookup_replaced k line (x ∷ xs) there =
      at_point (key line) x xs (λ p. lookup key k (set (x ∷ xs) p line) ≡ cond (eqb (key line) k) (Some line) (lookup key k (x ∷ xs)))
      (λ t.
      let less = ltb-true _ _ t in
      let rest = ap is_some (sym (cond-true (ltb (key x) (key line)) (lookup key (key line) xs) _ t)) ∙ there in
      ap (λ o. cond (ltb (key x) k) o (cond (eqb (key x) k) (Some x) None)) (lookup_replaced k line xs rest) ∙ grind (arith, nat_tests))
      (λ t. let same = first_has_key line x xs t there in grind (arith, nat_tests))
