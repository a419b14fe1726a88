-- A statement's bytes, wherever they lie, are read as the statement.
use Rattle.std.proofs.Common.{◌≡◌, ℕ, zero, suc, ◌+◌, ◌*◌, ◌<◌, List, [], ◌∷◌, ◌++◌, length, get_or, take, drop, ℤ, pos, sym, refl, ap, ◌∙◌, add-zero, mul-zero, mul-suc, arith, w64, SFits, to_z}
use Rattle.std.specs.List.{flat_map, AllByRecursion}
use Rattle.std.proofs.lemmas.List.FromFn.{fill_by_all}
use Rattle.std.proofs.lemmas.List.{append_assoc, drop_at, drop-drop, get_or-drop}
use Rattle.amounts.specs.Ranges.{areas}
use Rattle.statements.specs.declared.statement.AreaAmounts.{AreaAmounts}
use Rattle.statements.specs.declared.statement.Statement.{Statement}
use Rattle.statements.specs.Amounts.{number_of, amount_bytes, amount_at}
use Rattle.statements.specs.Layout.{amounts_of, area_bytes, area_at, areas_at, statement_bytes, statement_at}
use Rattle.statements.specs.Fits.{AreaFits, StatementFits}
use Rattle.statements.proofs.Bytes.{amount_first, length_amount_bytes, length_area_bytes}
use Rattle.statements.proofs.Parts.{length_areas}

-- what lies behind a part
behind : (bs part rest : List ℕ) (p n : ℕ) → length part ≡ n → drop p bs ≡ part ++ rest → drop (p + n) bs ≡ rest
behind bs part rest p n long here = sym (drop-drop n p bs) ∙ ap (drop n) here ∙ drop_at part rest n long

-- items one after another: `at` reads each where it lies
module _ {X : Type 0} (f : X → List ℕ) (n : ℕ) (long : (x : X) → length (f x) ≡ n) (at : List ℕ → ℕ → X) (Fit : X → Type 0) (bs : List ℕ) (first : (p : ℕ) (x : X) (rest : List ℕ) → Fit x → drop p bs ≡ f x ++ rest → at bs p ≡ x) where
  items_here : (xs : List X) (p : ℕ) (rest : List ℕ) → AllByRecursion Fit xs → drop p bs ≡ flat_map f xs ++ rest → (k : ℕ) (d : X) → k < length xs → at bs (p + n * k) ≡ get_or xs k d
  items_here [] p rest fits here k d below = absurd (omega arith)
  items_here (x ∷ xs) p rest fits here zero d below =
      ap (at bs) (omega (arith, mul-zero n)) ∙ first p x (flat_map f xs ++ rest) fits.0 (here ∙ append_assoc (f x) (flat_map f xs) rest)
  items_here (x ∷ xs) p rest fits here (suc k) d below =
      let next = behind bs (f x) (flat_map f xs ++ rest) p n (long x) (here ∙ append_assoc (f x) (flat_map f xs) rest) in
      ap (at bs) (omega (arith, mul-suc n k)) ∙ items_here xs (p + n) rest fits.1 next k d (omega arith)

amount_here : (bs : List ℕ) (p : ℕ) (z : ℤ) (rest : List ℕ) → SFits w64 z → drop p bs ≡ amount_bytes z ++ rest → amount_at bs p ≡ z
unfolding amount_at
amount_here bs p z rest fits here = ap (λ (ys : List ℕ). to_z w64 (number_of (take 8 ys))) here ∙ amount_first z rest fits

area_here : (bs : List ℕ) (p : ℕ) (a : AreaAmounts) (rest : List ℕ) → AreaFits a → drop p bs ≡ area_bytes a ++ rest → area_at bs p ≡ a
unfolding area_bytes area_at AreaFits
area_here bs p a rest fits here =
    let at = items_here amount_bytes 8 length_amount_bytes amount_at (SFits w64) bs (amount_here bs) (amounts_of a) p rest fits here in
    let metered : amount_at bs p ≡ a.metered = ap (amount_at bs) (sym (add-zero p)) ∙ at 0 (pos 0) (omega arith) in
    let modelled = at 1 (pos 0) (omega arith) in
    let energy = at 2 (pos 0) (omega arith) in
    let delivery = at 3 (pos 0) (omega arith) in
    let volume = at 4 (pos 0) (omega arith) in
    let volume_energy = at 5 (pos 0) (omega arith) in
    let volume_delivery = at 6 (pos 0) (omega arith) in
    let cost = at 7 (pos 0) (omega arith) in
    λ i. record { metered = metered i; modelled = modelled i; energy = energy i; delivery = delivery i; volume = volume i; volume_energy = volume_energy i; volume_delivery = volume_delivery i; cost = cost i }

-- a list that has each area where it lies is that of the areas
pub areas_at_each : (bs : List ℕ) (p : ℕ) (xs : List AreaAmounts) (n : ℕ) → length xs ≡ n → ((k : ℕ) → k < n → get_or xs k (area_at bs 0) ≡ area_at bs (p + 64 * k)) → xs ≡ areas_at n bs p
unfolding areas_at
areas_at_each bs p xs n long each = fill_by_all (λ k. area_at bs (p + 64 * k)) xs n (area_at bs 0) long each

areas_here : (bs : List ℕ) (p : ℕ) (xs : List AreaAmounts) (rest : List ℕ) (n : ℕ) → length xs ≡ n → AllByRecursion AreaFits xs → drop p bs ≡ flat_map area_bytes xs ++ rest → areas_at n bs p ≡ xs
areas_here bs p xs rest n long fits here =
    let at = items_here area_bytes 64 length_area_bytes area_at AreaFits bs (area_here bs) xs p rest fits here in
    sym (areas_at_each bs p xs n long (λ k below. sym (at k (area_at bs 0) (omega arith))))

pub statement_here : (bs : List ℕ) (p : ℕ) (s : Statement) (rest : List ℕ) → StatementFits s → drop p bs ≡ statement_bytes s ++ rest → statement_at bs p ≡ s
unfolding statement_bytes statement_at
statement_here bs p s rest fits here =
    let all = flat_map area_bytes s.areas in
    let account : get_or bs p 0 ≡ s.account = ap (λ k. get_or bs k 0) (sym (add-zero p)) ∙ sym (get_or-drop p bs 0 0) ∙ ap (λ ys. get_or ys 0 0) here in
    let areas_from : drop (p + 1) bs ≡ all ++ (amount_bytes s.cost ++ rest) = behind bs (s.account ∷ []) ((all ++ amount_bytes s.cost) ++ rest) p 1 refl here ∙ append_assoc all (amount_bytes s.cost) rest in
    let in_areas = areas_here bs (p + 1) s.areas (amount_bytes s.cost ++ rest) areas fits.long fits.in_areas areas_from in
    let cost_from : drop (p + 1281) bs ≡ amount_bytes s.cost ++ rest = ap (λ k. drop k bs) (omega arith) ∙ behind bs all (amount_bytes s.cost ++ rest) (p + 1) 1280 (length_areas s fits.long) areas_from in
    let cost = amount_here bs (p + 1281) s.cost rest fits.cost cost_from in
    λ i. record { account = account i; areas = in_areas i; cost = cost i }
