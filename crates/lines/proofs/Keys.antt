-- Keys follow their fields: over any widths. Assumes nothing.
use Rattle.std.proofs.Common.{◌≡◌, ℕ, suc, ◌+◌, ◌*◌, ◌/◌, ◌%◌, ◌^◌, ◌<◌, ◌≤◌, ◌&&◌, ◌||◌, eqb, ltb, List, [], ◌∷◌, sym, refl, ap, ◌∙◌, ap₂, inl, inr, mul-le-mul_right, arith}
use Rattle.std.proofs.lemmas.Nat.{mul-add-lt, div-mul-add, mod-mul-add}
use Rattle.std.proofs.lemmas.Bool.{cases_order, cases_eq, ne_eqb, and_left}
use Rattle.std.proofs.lemmas.Bool.Decides.{nat_tests}
use Rattle.lines.specs.declared.kinds.Electricity.TheVariants.{Ac, Dc}
use Rattle.lines.specs.declared.kinds.MeteredKind.TheVariants.{MultipleUnitJourney, HauledJourney, NonJourney}
use Rattle.lines.specs.Kinds.{DistinctElectricity, DistinctKinds}
use Rattle.lines.specs.Keys.{key_count, key_of, Fit, before, same, KeysFollowFields}

-- ---- one field before the rest: n rests, of which k is one
first_field : (n f g k j : ℕ) → k < n → j < n → f * n + k ≡ g * n + j → f ≡ g
first_field n f g k j p q e = sym (div-mul-add f n k p) ∙ ap (λ x. x / n) e ∙ div-mul-add g n j q

rest_field : (n f g k j : ℕ) → k < n → j < n → f * n + k ≡ g * n + j → k ≡ j
rest_field n f g k j p q e = sym (mod-mul-add f n k p) ∙ ap (λ x. x % n) e ∙ mod-mul-add g n j q

field_order : (n f g k j : ℕ) → k < n → j < n → ltb (f * n + k) (g * n + j) ≡ (ltb f g || (eqb f g && ltb k j))
field_order n f g k j p q = elim (cases_order f g) [
  | inl e ↦ (let same : f * n ≡ g * n = ap (λ x. x * n) e in grind (arith, nat_tests))
  | inr o ↦ elim o [
    | inl l ↦ (let far : f * n + n ≤ g * n = omega (arith, mul-le-mul_right {m = suc f} {n = g} n l) in grind (arith, nat_tests))
    | inr l ↦ (let far : g * n + n ≤ f * n = omega (arith, mul-le-mul_right {m = suc g} {n = f} n l) in grind (arith, nat_tests))
  ]
]

field_same : (n f g k j : ℕ) → k < n → j < n → eqb (f * n + k) (g * n + j) ≡ (eqb f g && eqb k j)
field_same n f g k j p q = elim (cases_eq f g) [
  | inl e ↦ (let same : f * n ≡ g * n = ap (λ x. x * n) e in grind (arith, nat_tests))
  | inr d ↦ ne_eqb (f * n + k) (g * n + j) (λ e. d (first_field n f g k j p q e)) ∙ sym (and_left (eqb f g) (eqb k j) (ne_eqb f g d))
]

-- ---- all fields
pub key_below : (ws fs : List ℕ) → Fit ws fs → key_of ws fs < key_count ws
key_below [] [] t = omega arith
key_below [] (f ∷ fs) t = absurd t
key_below (w ∷ ws) [] t = absurd t
key_below (w ∷ ws) (f ∷ fs) t = omega (arith, mul-add-lt f (key_count ws) (key_of ws fs) (2 ^ w) t.0 (key_below ws fs t.1))

pub same_fields : (ws fs gs : List ℕ) → Fit ws fs → Fit ws gs → key_of ws fs ≡ key_of ws gs → fs ≡ gs
same_fields [] [] [] s t e = refl
same_fields [] [] (g ∷ gs) s t e = absurd t
same_fields [] (f ∷ fs) gs s t e = absurd s
same_fields (w ∷ ws) [] gs s t e = absurd s
same_fields (w ∷ ws) (f ∷ fs) [] s t e = absurd t
same_fields (w ∷ ws) (f ∷ fs) (g ∷ gs) s t e =
    let k = key_below ws fs s.1 in
    let j = key_below ws gs t.1 in
    ap₂ (λ x xs. x ∷ xs)
    (first_field (key_count ws) f g (key_of ws fs) (key_of ws gs) k j e)
    (same_fields ws fs gs s.1 t.1 (rest_field (key_count ws) f g (key_of ws fs) (key_of ws gs) k j e))

pub in_order : (ws fs gs : List ℕ) → Fit ws fs → Fit ws gs → ltb (key_of ws fs) (key_of ws gs) ≡ before fs gs
in_order [] [] gs s t = refl
in_order [] (f ∷ fs) gs s t = absurd s
in_order (w ∷ ws) [] gs s t = absurd s
in_order (w ∷ ws) (f ∷ fs) [] s t = absurd t
in_order (w ∷ ws) (f ∷ fs) (g ∷ gs) s t =
    field_order (key_count ws) f g (key_of ws fs) (key_of ws gs) (key_below ws fs s.1) (key_below ws gs t.1)
    ∙ ap (λ b. ltb f g || (eqb f g && b)) (in_order ws fs gs s.1 t.1)

pub same_both : (ws fs gs : List ℕ) → Fit ws fs → Fit ws gs → eqb (key_of ws fs) (key_of ws gs) ≡ same fs gs
same_both [] [] [] s t = refl
same_both [] [] (g ∷ gs) s t = absurd t
same_both [] (f ∷ fs) gs s t = absurd s
same_both (w ∷ ws) [] gs s t = absurd s
same_both (w ∷ ws) (f ∷ fs) [] s t = absurd t
same_both (w ∷ ws) (f ∷ fs) (g ∷ gs) s t =
    field_same (key_count ws) f g (key_of ws fs) (key_of ws gs) (key_below ws fs s.1) (key_below ws gs t.1)
    ∙ ap (λ b. eqb f g && b) (same_both ws fs gs s.1 t.1)

pub keys_follow_fields : (ws : List ℕ) → KeysFollowFields ws
keys_follow_fields ws = record { same_fields = same_fields ws; same_key = λ fs gs e. ap (key_of ws) e; in_order = in_order ws }

-- ---- the numbers of enums tell them apart
pub electricity_distinct : DistinctElectricity
electricity_distinct Ac Ac e = refl
electricity_distinct Ac Dc e = absurd (omega arith)
electricity_distinct Dc Ac e = absurd (omega arith)
electricity_distinct Dc Dc e = refl

pub kinds_distinct : DistinctKinds
kinds_distinct MultipleUnitJourney MultipleUnitJourney e = refl
kinds_distinct MultipleUnitJourney HauledJourney e = absurd (omega arith)
kinds_distinct MultipleUnitJourney NonJourney e = absurd (omega arith)
kinds_distinct HauledJourney MultipleUnitJourney e = absurd (omega arith)
kinds_distinct HauledJourney HauledJourney e = refl
kinds_distinct HauledJourney NonJourney e = absurd (omega arith)
kinds_distinct NonJourney MultipleUnitJourney e = absurd (omega arith)
kinds_distinct NonJourney HauledJourney e = absurd (omega arith)
kinds_distinct NonJourney NonJourney e = refl
