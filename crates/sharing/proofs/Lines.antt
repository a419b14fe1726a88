-- The checks of the lines: their limits and their accounts.
use Rattle.std.proofs.Common.{◌≡◌, ℕ, zero, suc, ◌+◌, ◌≤◌, true, false, cond, ◌&&◌, leb, Bool, List, [], ◌∷◌, map, length, get_or, ℤ, pos, negsuc, nat_abs, Option, Some, None, ControlFlow, Continue, Break, Bor, Iter, sym, subst, refl, ap, ◌∙◌, arith}
use Rattle.std.specs.List.{list_all, FoldsTo}
use Rattle.std.specs.Option.{MatchOption, is_some}
use Rattle.std.specs.Fn.{Mut, Called}
use Rattle.std.specs.Iterator.{Yields, AlwaysYields, TryFoldTurn, TryFoldsItems}
use Rattle.std.specs.ControlFlow.{continue_value}
use Rattle.std.proofs.lemmas.Fn.{fronts}
use Rattle.std.proofs.lemmas.Iterator.{YieldsList}
use lib.Signed.{le_z, lt_z}
use Rattle.std.proofs.lemmas.Int.{ints}
use Rattle.std.proofs.lemmas.Bool.{and_parts, and_left, and_from, leb-true, le-leb}
use Rattle.amounts.specs.Ranges.{account_exists, within}
use Rattle.sharing.specs.Shares.{counting_weight}
use Rattle.sharing.specs.Limits.{max_amount, max_weight, max_lines, weights_in_limit, figures_in_limit, rising}

-- ---- weights
pub limit_is : {L : Type 0} (f : L → ℤ) (ls : List L) → list_all (λ l. le_z (f l) (pos max_weight)) ls ≡ weights_in_limit (map f ls)
limit_is f [] = refl
limit_is f (l ∷ ls) = ap (λ b. le_z (f l) (pos max_weight) && b) (limit_is f ls)

pub over : (w : ℤ) → lt_z (pos max_weight) w ≡ true → le_z w (pos max_weight) ≡ false
over w h = grind (arith, ints)

pub under : (w : ℤ) → lt_z (pos max_weight) w ≡ false → le_z w (pos max_weight) ≡ true
under w h = grind (arith, ints)

counting_le : (z : ℤ) → le_z z (pos max_weight) ≡ true → counting_weight z ≤ max_weight
counting_le (pos n) e = leb-true n max_weight e
counting_le (negsuc n) e = omega arith

pub counting_in_limit : (zs : List ℤ) → weights_in_limit zs ≡ true → (k : ℕ) → get_or (map counting_weight zs) k 0 ≤ max_weight
counting_in_limit [] e k = omega arith
counting_in_limit (z ∷ zs) e zero = counting_le z (and_parts _ _ e).0
counting_in_limit (z ∷ zs) e (suc k) = counting_in_limit zs (and_parts (le_z z (pos max_weight)) (weights_in_limit zs) e).1 k

-- ---- accounts, tried one after another
goes_on : (b : Bool) (n m : ℕ) → cond b (Some n) None ≡ Some m → (b ≡ true) × (m ≡ n)
goes_on true n m e = (refl, cc)
goes_on false n m e = cc

breaks_off : (b : Bool) (n : ℕ) → cond b (Some n) None ≡ None → b ≡ false
breaks_off true n e = cc
breaks_off false n e = refl

-- an account that may follow, and then accounts that rise from the next
module _ {L F : Type 0} (E : Type 0) (account : L → ℕ) (g : Mut F (ℕ × (Bor L × Unit {0})) (Option ℕ)) (f : F) (calls : (low : ℕ) (x : Bor L) (r : Option ℕ) (q : F) → Called g f (low, (x, tt)) r q → (q ≡ f) × (r ≡ cond (leb low (account x.now) && account_exists (account x.now)) (Some (account x.now + 1)) None)) where
  abbrev Turn : Option ℕ → ControlFlow E ℕ → Type 0
  Turn r c = r ≡ continue_value c

  rising_from : (ls : List L) (xs : List (Bor L)) (s t u : Iter L) (low high : ℕ) (q : F) (o : Option (Bor L)) (r : Option ℕ) → AlwaysYields fronts (λ x. x.now) s ls → Yields fronts s xs t → fronts t o u → FoldsTo {P = F × ℕ} (TryFoldTurn g Turn) (f, low) xs (q, high) → MatchOption o (Turn r (Continue high)) (λ x. (v : Option ℕ) × (h : F) × (e : E) × Called g q (high, (x, tt)) v h × Turn v (Break e) × (r ≡ None)) → is_some r ≡ rising low (map account ls)
  rising_from [] [] s t u low high q None r all ys end turns e = ap is_some e
  rising_from [] [] s t u low high q (Some x) r all ys end turns e = absurd (all x u (subst (λ k. fronts k (Some x) u) (sym ys) end))
  rising_from [] (x ∷ xs) s t u low high q o r all ys end turns e = absurd (all x ys.0 ys.1)
  rising_from (l ∷ ls) [] s t u low high q None r all ys end turns e = absurd (all.0 u (subst (λ k. fronts k None u) (sym ys) end))
  rising_from (l ∷ ls) [] s t u low high q (Some x) r all ys end turns (v, h, b, call, out, none) =
      let same = (all.1 x u (subst (λ k. fronts k (Some x) u) (sym ys) end)).0 in
      let tried = calls low x v h (subst (λ (p : F × ℕ). Called g p.0 (p.1, (x, tt)) v h) (sym turns) call) in
      let off = breaks_off _ _ (sym tried.1 ∙ out) in
      ap is_some none ∙ sym (and_left _ _ (subst (λ y. (leb low (account y) && account_exists (account y)) ≡ false) same off))
  rising_from (l ∷ ls) (x ∷ xs) s t u low high q o r all ys end (j, (v, call, on), turns) e =
      let first = all.1 x ys.0 ys.1 in
      let tried = calls low x v j.0 call in
      let may = goes_on _ _ _ (sym tried.1 ∙ on) in
      rising_from ls xs ys.0 t u j.1 high q o r first.1 ys.2 end (subst (λ k. FoldsTo {P = F × ℕ} (TryFoldTurn g Turn) (k, j.1) xs (q, high)) tried.0 turns) e
      ∙ sym
      (subst (λ y. (leb low (account y) && account_exists (account y)) && rising (account l + 1) (map account ls) ≡ rising (account l + 1) (map account ls)) first.0 (ap (λ b. b && rising (account l + 1) (map account ls)) may.0)
      ∙ ap (λ n. rising n (map account ls)) (ap (λ y. account y + 1) (sym first.0) ∙ sym may.1))

  pub rising_tried : (ls : List L) (s u : Iter L) (low : ℕ) (r : Option ℕ) → YieldsList fronts (λ x. x.now) s ls → TryFoldsItems fronts g Turn (λ (_ : E) (v : Option ℕ). v ≡ None) s f low r u → is_some r ≡ rising low (map account ls)
  rising_tried ls s u low r all (xs, o, q, high, (t, ys, end), turns, e) = rising_from ls xs s t u low high q o r all.runs ys end turns e

-- ---- the amount, the number of lines and the weights
pub figures_on : (z : ℤ) (ws : List ℤ) → within z max_amount ≡ true → length ws ≤ max_lines → figures_in_limit z ws ≡ weights_in_limit ws
figures_on z ws a b = ap (λ t. t && weights_in_limit ws) (and_from _ _ a (le-leb (length ws) max_lines b))

pub figures_parts : (z : ℤ) (ws : List ℤ) → figures_in_limit z ws ≡ true → (nat_abs z ≤ max_amount) × (length ws ≤ max_lines) × (weights_in_limit ws ≡ true)
figures_parts z ws e =
    let two = and_parts (within z max_amount && leb (length ws) max_lines) (weights_in_limit ws) e in
    let one = and_parts (within z max_amount) (leb (length ws) max_lines) two.0 in
    (leb-true (nat_abs z) max_amount one.0, leb-true (length ws) max_lines one.1, two.1)
