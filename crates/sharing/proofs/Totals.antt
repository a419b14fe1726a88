-- Sums and counts over lists, as sums over the lines' indices.
use Rattle.std.proofs.Common.{◌≡◌, ℕ, zero, suc, ◌+◌, ◌-◌, ◌≤◌, List, map, length, get_or, take, sym, refl, ap, ap₂, ◌∙◌, add-one, arith, false, ltb, leb, ◌&&◌, ◌<◌, ℤ, Option, Some, None, Bor}
use Rattle.std.specs.List.{range_with_len, sum, sum_by}
use Rattle.std.specs.Option.{MatchOption, IfSome}
use Rattle.std.proofs.lemmas.List.{length-map, get_or_past, get_or-map}
use Rattle.std.proofs.lemmas.Bool.Decides.{nat_tests}
use Rattle.std.proofs.lemmas.List.FromFn.{fill_by_all, length-map-range_with_len, get_or-map-range_with_len, sum_by-map-range_with_len_more}
use Rattle.std.proofs.lemmas.List.Sums.{sum_by-le}
use Rattle.std.proofs.lemmas.List.Elements.{All-from_get_or}
use Rattle.amounts.specs.Sums.{sum_to, one}
use Rattle.amounts.specs.Ranges.{max_divisor}
use Rattle.sharing.specs.Limits.{WithinLimits, max_weight}
use Rattle.sharing.specs.declared.claims.Claim.{Claim}
use Rattle.sharing.specs.Claims.{claim_at, claims_of, before, units}
use Rattle.sharing.specs.Shares.{counting_weight, weight_at, total_weight, quotient, remainder, leftover, rank_by, size}
use Rattle.sharing.proofs.Fair.{quotients_within}

-- ---- over the indices below n
pub sum_by_is : {X : Type 0} (g : X → ℕ) (f : ℕ → X) (n : ℕ) → sum_by g (map f (range_with_len 0 n)) ≡ sum_to (λ i. g (f i)) n
sum_by_is g f zero = refl
sum_by_is g f (suc n) = sym (ap (λ m. sum_by g (map f (range_with_len 0 m))) (add-one n)) ∙ omega (arith, sum_by-map-range_with_len_more g f 0 n n (omega arith), sum_by_is g f n)

-- a list is what it holds at each index
pub listed : (ws : List ℕ) → ws ≡ map (weight_at ws) (range_with_len 0 (length ws))
listed ws = fill_by_all (weight_at ws) ws (length ws) 0 refl (λ k l. refl)

-- what counts of a line's weight, and nothing where there is no line
pub counts_at : {L : Type 0} (f : L → ℤ) (ls : List L) (i r : ℕ) (o : Option (Bor L)) → MatchOption o (length ls ≤ i) (λ x. i < length ls) → IfSome o (λ x. x.now ≡ get_or ls i x.now) → MatchOption o (r ≡ 0) (λ x. r ≡ counting_weight (f x.now)) → r ≡ weight_at (map counting_weight (map f ls)) i
counts_at f ls i r None past is e =
    e ∙ sym (get_or_past (map counting_weight (map f ls)) i 0 (omega (arith, length-map (map f ls) counting_weight, length-map ls f, past)))
counts_at f ls i r (Some x) l is e =
    e ∙ ap (λ y. counting_weight (f y)) is
    ∙ sym (get_or-map counting_weight (map f ls) i (f x.now) 0 (omega (arith, length-map ls f, l)) ∙ ap counting_weight (get_or-map f ls i x.now (f x.now) l))

-- ---- weights
pub total_is : (ws : List ℕ) → sum ws ≡ total_weight ws
total_is ws = ap sum (listed ws) ∙ sum_by_is (λ x. x) (weight_at ws) (length ws)

pub total_fits : (ws : List ℕ) → WithinLimits ws → sum ws ≤ max_divisor
total_fits ws h = omega (arith, sum_by-le (λ x. x) max_weight ws (All-from_get_or (λ x. x ≤ max_weight) ws 0 (λ i _. h.1 i)), h.0)

-- a total that is a divisor, and one that is none
pub some_total : (ws : List ℕ) (t v : ℕ) → t ≡ sum ws → v ≡ t → 0 < v → 0 < total_weight ws
some_total ws t v e f l = omega (arith, total_is ws)

pub no_total : (ws : List ℕ) (t : ℕ) → WithinLimits ws → t ≡ sum ws → false ≡ (leb 1 t && leb t max_divisor) → total_weight ws ≡ 0
no_total ws t h e out = let fits = total_fits ws h in let total = total_is ws in let none : t ≡ 0 = grind (arith, nat_tests) in omega arith

-- ---- claims
module _ (a : ℕ) (ws : List ℕ) where
  quotients_are : (n : ℕ) → sum_by (λ (c : Claim). c.quotient) (claims_of a ws n) ≡ sum_to (quotient a ws) n
  quotients_are n = sum_by_is (λ (c : Claim). c.quotient) (claim_at a ws) n

  before_is : (n i : ℕ) → before (claims_of a ws n) (claim_at a ws i) ≡ rank_by (weight_at ws) (remainder a ws) n i
  before_is n i = sum_by_is _ (claim_at a ws) n

  -- of as many claims as lines
  module _ (cs : List Claim) (is : cs ≡ claims_of a ws (length ws)) where
    pub quotients_fit : 0 < total_weight ws → sum_by (λ (c : Claim). c.quotient) cs ≤ a
    quotients_fit some = omega (arith, ap (sum_by (λ (c : Claim). c.quotient)) is, quotients_are (length ws), quotients_within a ws some)

    pub left_over : a - sum_by (λ (c : Claim). c.quotient) cs ≡ leftover a ws
    left_over = ap (λ x. a - x) (ap (sum_by (λ (c : Claim). c.quotient)) is ∙ quotients_are (length ws))

  -- the claims of the lines, at the front of an array
  module _ (cs : List Claim) (is : take (length ws) cs ≡ claims_of a ws (length ws)) where
    pub inside : (i : ℕ) → i < length (take (length ws) cs) → i < length ws
    inside i l = omega (arith, ap length is, length-map-range_with_len (claim_at a ws) 0 (length ws))

    claim_is : (i : ℕ) (d : Claim) → i < length (take (length ws) cs) → get_or (take (length ws) cs) i d ≡ claim_at a ws i
    claim_is i d l = ap (λ xs. get_or xs i d) is ∙ get_or-map-range_with_len (claim_at a ws) 0 (length ws) i i d (inside i l) (omega arith)

    pub index_is : (i : ℕ) (d : Claim) → i < length (take (length ws) cs) → (get_or (take (length ws) cs) i d).index ≡ i
    index_is i d l = ap (λ (o : Claim). o.index) (claim_is i d l)

    pub units_are : (i u : ℕ) (d : Claim) → i < length (take (length ws) cs) → u ≡ leftover a ws → units (get_or (take (length ws) cs) i d) (take (length ws) cs) u ≡ size a ws i
    units_are i u d l e =
        ap (λ o. units o (take (length ws) cs) u) (claim_is i d l)
        ∙ ap₂ (λ x y. quotient a ws i + one (ltb 0 (weight_at ws i) && ltb x y)) (ap (λ xs. before xs (claim_at a ws i)) is ∙ before_is (length ws) i) e
