-- The order of the accepted records does not matter, nor which books answered.
use Rattle.std.proofs.Common.{◌≡◌, ℕ, ◌+◌, ◌<◌, Bool, true, false, eqb, List, [], ◌∷◌, ℤ, ◌+ℤ◌, sym, refl, ap, ◌∙◌, ap₂, arith}
use Rattle.std.proofs.lemmas.Int.{ints}
use Rattle.std.proofs.lemmas.Bool.{and_parts, and_from, eqb-true, eq-eqb}
use Rattle.amounts.specs.Sums.{one}
use Rattle.billing.specs.Bills.{Sources}
use Rattle.billing.specs.Laws.{Alike}
use Rattle.billing.specs.declared.bill.Bill.{Bill}
use Rattle.ledger.specs.Adding.{metered_in, modelled_in}
use Rattle.ledger.specs.Blocks.{Block}
use Rattle.reconciling.specs.declared.sheets.AreaRow.{AreaRow}
use Rattle.year.specs.declared.states.SettledYear.{SettledYear}
use Rattle.statements.specs.Layout.{statement_bytes}
use Rattle.year.specs.Statements.{statement_of}
use Rattle.year.specs.Accepted.{RecordBytes, Posted, accepted, same_bytes, occurrences, SameRecords, sum_over, billed_to, sums_of}
use Rattle.year.specs.Runs.{Settled, Run}
use Rattle.year.specs.Settlements.{EndsAlike}
use Rattle.year.proofs.Bills.{billed_alike}
use Rattle.year.proofs.Runs.{block_of, run_block}

-- ---- equal bytes
same_itself : (x : RecordBytes) → same_bytes x x ≡ true
unfolding same_bytes
same_itself [] = refl
same_itself (x ∷ xs) = and_from (eqb x x) (same_bytes xs xs) (eq-eqb x x refl) (same_itself xs)

same_equal : (x y : RecordBytes) → same_bytes x y ≡ true → x ≡ y
unfolding same_bytes
same_equal [] [] e = refl
same_equal [] (y ∷ ys) e = absurd (let z : ◌≡◌ {A = ℕ} 0 1 = cc in omega arith)
same_equal (x ∷ xs) [] e = absurd (let z : ◌≡◌ {A = ℕ} 0 1 = cc in omega arith)
same_equal (x ∷ xs) (y ∷ ys) e = let b = and_parts (eqb x y) (same_bytes xs ys) e in ap₂ (λ z zs. z ∷ zs) (eqb-true x y b.0) (same_equal xs ys b.1)

-- ---- records with one x taken out
record Without (f : RecordBytes → ℤ) (x : RecordBytes) (qs : List RecordBytes) : Type 0 where
  others : List RecordBytes
  counts : (bytes : RecordBytes) → occurrences bytes qs ≡ one (same_bytes bytes x) + occurrences bytes others
  sum : sum_over f qs ≡ f x +ℤ sum_over f others

module _ (f : RecordBytes → ℤ) (x : RecordBytes) where
  -- the first one is x, or x is among the others
  first_or_later : (q : RecordBytes) (qs : List RecordBytes) (t : Bool) → same_bytes x q ≡ t → (t ≡ false → Without f x qs) → Without f x (q ∷ qs)
  unfolding occurrences sum_over
  first_or_later q qs true e later =
      let is = sym (same_equal x q e) in
      record { others = qs; counts = λ bytes. ap (λ y. one (same_bytes bytes y) + occurrences bytes qs) is; sum = ap (λ y. f y +ℤ sum_over f qs) is }
  first_or_later q qs false e later =
      let rest = later refl in
      record { others = q ∷ rest.others; counts = λ bytes. omega (arith, rest.counts bytes); sum = let s = rest.sum in omega (arith, ints) }

  taken_out : (qs : List RecordBytes) → 0 < occurrences x qs → Without f x qs
  unfolding occurrences
  taken_out [] h = absurd (omega arith)
  taken_out (q ∷ qs) h = first_or_later q qs (same_bytes x q) refl (λ e. taken_out qs (omega (arith, ap one e)))

-- ---- the same records have the same sum, in any order
pub same_sum : (f : RecordBytes → ℤ) (rs qs : List RecordBytes) → SameRecords rs qs → sum_over f rs ≡ sum_over f qs
unfolding occurrences sum_over
same_sum f [] [] same = refl
same_sum f [] (q ∷ qs) same = absurd (omega (arith, same q, ap one (same_itself q)))
same_sum f (x ∷ rs) qs same =
    let rest = taken_out f x qs (omega (arith, same x, ap one (same_itself x))) in
    ap (λ z. f x +ℤ z) (same_sum f rs rest.others (λ bytes. omega (arith, same bytes, rest.counts bytes))) ∙ sym rest.sum

-- ---- so the sums of two years that accepted the same records are equal, if their books answer alike
module _ (m k : Sources) (alike : Alike m k) (rs qs : List RecordBytes) (same : SameRecords rs qs) where
  same_figure : (a r : ℕ) (figure : Bill → ℤ) → sum_over (billed_to m a r figure) rs ≡ sum_over (billed_to k a r figure) qs
  same_figure a r figure = same_sum (billed_to m a r figure) rs qs same ∙ ap (λ f. sum_over f qs) (λ i bytes. billed_alike m k alike a r figure bytes i)

  pub same_sums : sums_of m rs ≡ sums_of k qs
  unfolding sums_of
  same_sums = λ i a r. record {
    metered = same_figure a r (λ b. metered_in b.volume) i;
    modelled = same_figure a r (λ b. modelled_in b.volume) i;
    energy = same_figure a r (λ b. b.energy) i;
    delivery = same_figure a r (λ b. b.delivery) i;
  }

-- ---- and so are their blocks, once both are settled by equal sheets
pub same_block : {m k : Sources} {y z : SettledYear} {sheet : List AreaRow} {costs : List ℕ} {energy : ℕ} {posts others : List Posted} {b other : Block} → Alike m k → SameRecords (accepted posts) (accepted others) → Run m (Settled y sheet costs energy) posts b → Run k (Settled z sheet costs energy) others other → other ≡ b
unfolding block_of
same_block {m} {k} {y} {z} {sheet} {costs} {energy} {posts} {others} alike same run there =
    run_block k there ∙ ap (λ s. block_of s (Settled y sheet costs energy)) (sym (same_sums m k alike (accepted posts) (accepted others) same)) ∙ sym (run_block m run)

pub ends_alike : {m : Sources} {y : SettledYear} {sheet : List AreaRow} {costs : List ℕ} {energy : ℕ} {posts : List Posted} {b : Block} → Run m (Settled y sheet costs energy) posts b → EndsAlike m (accepted posts) sheet costs energy b
ends_alike run = λ k others year other alike same there. let e = same_block alike same run there in record { block = e; statements = λ a l. ap (λ (d : Block). statement_bytes (statement_of d a)) e }
