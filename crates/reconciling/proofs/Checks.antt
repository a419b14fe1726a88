-- Checks made in turn, and a test of each area from the lowest on.
use Rattle.std.proofs.Common.{◌≡◌, ℕ, ◌+◌, ◌<◌, Bool, true, false, cond, not, List, length, get_or, IfOk, Some, None, Ok, Err, Option, Result, sym, refl, ap, ◌∙◌, subst, inl, inr, arith}
use Rattle.std.specs.List.{position, position_or_len}
use Rattle.std.specs.Option.{option_map, ok_or}
use Rattle.std.specs.Result.{result_ok}
use Rattle.std.proofs.lemmas.Bool.{not-false, eq-eqb, cases_lt, cond_below, cond_above}
use Rattle.std.proofs.lemmas.List.Sums.{fails_before_first, passes_at_first}
use Rattle.amounts.specs.Lowest.{lowest}
use Rattle.amounts.specs.Ranges.{areas}
use Rattle.amounts.proofs.Lowest.{lowest_more, lowest_hit, lowest_none, none_passes}
use Rattle.reconciling.specs.declared.fault.ReconcileFault.{ReconcileFault}
use Rattle.reconciling.specs.declared.fault.ReconcileFault.TheVariants as fault
use Rattle.reconciling.specs.Outcomes.{or_then, fault_unless, lowest_area, unless_fault, rows_fault}
use Rattle.reconciling.specs.Rows.{RangedRows}

-- ---- one check before the next
pub stopped : (b : Bool) (f : ReconcileFault) (next : Option ReconcileFault) → b ≡ false → or_then (fault_unless b f) next ≡ Some f
stopped b f next e = ap (λ (x : Bool). or_then (fault_unless x f) next) e

pub passed : (b : Bool) (f : ReconcileFault) (next : Option ReconcileFault) → b ≡ true → or_then (fault_unless b f) next ≡ next
passed b f next e = ap (λ (x : Bool). or_then (fault_unless x f) next) e

-- ---- a test of each area
module _ (passes : ℕ → Bool) where
  -- no area below i fails
  abbrev pub AllPass : ℕ → Type 0
  AllPass i = lowest (λ area. not (passes area)) i ≡ None

  pub all_pass_more : (i : ℕ) → AllPass i → passes i ≡ true → AllPass (i + 1)
  all_pass_more i none e = lowest_more (λ area. not (passes area)) i none (sym (ap not e))

  pub each_passes : (n i : ℕ) → AllPass n → i < n → passes i ≡ true
  each_passes n i none l = not-false (passes i) (lowest_none (λ area. not (passes area)) n i none l)

  module _ (f : ℕ → ReconcileFault) where
    pub area_fails : (i : ℕ) → AllPass i → passes i ≡ false → i < areas → lowest_area passes f ≡ Some (f i)
    area_fails i none e l = sym (ap (option_map f) (lowest_hit (λ area. not (passes area)) i areas none (sym (ap not e)) l))

    pub no_area_fails : AllPass areas → lowest_area passes f ≡ None
    no_area_fails none = ap (option_map f) none

-- ---- what an answer by tests tells of them
pub some_if : {A : Type 0} (b : Bool) (x y : A) → Some x ≡ cond b (Some y) None → (b ≡ true) × (x ≡ y)
some_if true x y e = (refl, cc)
some_if false x y e = (cc, cc)

pub none_if : {A : Type 0} (b : Bool) (y : A) → None ≡ cond b (Some y) None → b ≡ false
none_if true y e = cc
none_if false y e = refl

pub fault_if : {A : Type 0} (o : Option ReconcileFault) (x : A) (f : ReconcileFault) → Err f ≡ unless_fault o x → o ≡ Some f
fault_if None x f e = cc
fault_if (Some g) x f e = cc

pub no_fault_if : {A : Type 0} (o : Option ReconcileFault) (x y : A) → Ok y ≡ unless_fault o x → o ≡ None
no_fault_if None x y e = refl
no_fault_if (Some g) x y e = cc

pub value_if : {A : Type 0} (o : Option ReconcileFault) (x y : A) → Ok y ≡ unless_fault o x → y ≡ x
value_if None x y e = cc
value_if (Some f) x y e = cc

pub made_unless : {A : Type 0} (o : Option ReconcileFault) (x : A) (P : A → Type 0) → P x → IfOk (unless_fault o x) P
made_unless None x P h = h
made_unless (Some f) x P h = tt

-- what `ok_or` answers of such a value
pub ok_or_ok : {A E : Type 0} (o : Option A) (b : Bool) (y x : A) (f : E) → o ≡ cond b (Some y) None → ok_or o f ≡ Ok x → (b ≡ true) × (x ≡ y)
ok_or_ok {A} {E} o true y x f e h = let k : ◌≡◌ {A = Result A E} (Ok y) (Ok x) = subst (λ p. ok_or p f ≡ Ok x) e h in (refl, cc)
ok_or_ok {A} {E} o false y x f e h = let k : ◌≡◌ {A = Result A E} (Err f) (Ok x) = subst (λ p. ok_or p f ≡ Ok x) e h in (cc, cc)

pub ok_or_err : {A E : Type 0} (o : Option A) (b : Bool) (y : A) (f g : E) → o ≡ cond b (Some y) None → ok_or o f ≡ Err g → (b ≡ false) × (g ≡ f)
ok_or_err {A} {E} o true y f g e h = let k : ◌≡◌ {A = Result A E} (Ok y) (Err g) = subst (λ p. ok_or p f ≡ Err g) e h in (cc, cc)
ok_or_err {A} {E} o false y f g e h = let k : ◌≡◌ {A = Result A E} (Err f) (Err g) = subst (λ p. ok_or p f ≡ Err g) e h in (refl, cc)

pub ok_or_unless : {A : Type 0} (b : Bool) (f : ReconcileFault) (x : A) → ok_or (cond b (Some x) None) f ≡ unless_fault (fault_unless b f) x
ok_or_unless true f x = refl
ok_or_unless false f x = refl

-- the same, of a value that is found and of one that is not
module _ {A : Type 0} (b : Bool) (f : ReconcileFault) (x : A) where
  pub answered : (y : A) → Some y ≡ cond b (Some x) None → Ok y ≡ unless_fault (fault_unless b f) x
  answered y e = ap (λ o. ok_or o f) e ∙ ok_or_unless b f x

  pub refused : None ≡ cond b (Some x) None → Err f ≡ unless_fault (fault_unless b f) x
  refused e = ap (λ o. ok_or o f) e ∙ ok_or_unless b f x

-- ---- the rows of a sheet
-- the first place that passes is the lowest
position_is_lowest : {R : Type 0} (p : R → Bool) (rows : List R) (d : R) → position p rows ≡ lowest (λ i. p (get_or rows i d)) (length rows)
position_is_lowest p rows d =
    let i = position_or_len p rows in
    let test : ℕ → Bool = λ k. p (get_or rows k d) in
    elim (cases_lt i (length rows)) [
      | inl l ↦ sym (cond_below i (length rows) (Some i) None l) ∙ lowest_hit test i (length rows) (sym (none_passes test i (λ k m. fails_before_first p rows k d m))) (sym (passes_at_first p rows d l)) l
      | inr l ↦ sym (cond_above i (length rows) (Some i) None None l refl) ∙ none_passes test (length rows) (λ k m. fails_before_first p rows k d (omega arith))
    ]

module _ {R : Type 0} (in_range : R → Bool) (rows : List R) (count : length rows ≡ areas) where
  pub rows_fault_is : (d : R) → rows_fault in_range d rows ≡ option_map (λ area. fault.AreaFigure area) (position (λ r. not (in_range r)) rows)
  rows_fault_is d =
      passed _ fault.SheetLength _ (eq-eqb (length rows) areas count)
      ∙ ap (option_map (λ area. fault.AreaFigure area)) (ap (lowest (λ i. not (in_range (get_or rows i d)))) (sym count) ∙ sym (position_is_lowest (λ r. not (in_range r)) rows d))

  pub rows_ranged : position (λ r. not (in_range r)) rows ≡ None → RangedRows in_range rows
  rows_ranged none = record {
    count = count;
    ranged = λ area d l. each_passes (λ i. in_range (get_or rows i d)) areas area (ap (lowest (λ i. not (in_range (get_or rows i d)))) (sym count) ∙ sym (position_is_lowest (λ r. not (in_range r)) rows d) ∙ none) l;
  }

pub or_then_twice : (a b c : Option ReconcileFault) → or_then a (or_then b c) ≡ or_then (or_then a b) c
or_then_twice None b c = refl
or_then_twice (Some f) b c = refl

-- what `ok` answers of a result
pub ok_some : {A E : Type 0} (r : Result A E) (x : A) → result_ok r ≡ Some x → r ≡ Ok x
ok_some {A} (Ok y) x h = let k : ◌≡◌ {A = Option A} (Some y) (Some x) = h in cc
ok_some {A} (Err e) x h = let k : ◌≡◌ {A = Option A} None (Some x) = h in cc

pub ok_none : {A E : Type 0} (r : Result A E) → result_ok r ≡ None → (e : E) × (r ≡ Err e)
ok_none {A} (Ok y) h = let k : ◌≡◌ {A = Option A} (Some y) None = h in let z : ◌≡◌ {A = ℕ} 0 1 = cc in absurd (omega arith)
ok_none (Err e) h = (e, refl)
