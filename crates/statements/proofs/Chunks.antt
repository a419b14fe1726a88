-- Parts of a list of bytes, cut off from a place on or into chunks of one size, hold the amounts and areas that lie there.
use Rattle.std.proofs.Common.{◌≡◌, ℕ, zero, suc, ◌+◌, ◌-◌, ◌*◌, ◌/◌, ◌<◌, ◌≤◌, List, [], ◌∷◌, length, get_or, take, drop, map, ℤ, ap, sym, ◌∙◌, add-zero, mul-zero, mul-suc, arith, w64, pos, to_z}
use Rattle.std.specs.List.{range_with_len}
use Rattle.std.specs.Simd.{first_chunks}
use Rattle.std.proofs.lemmas.List.{drop-drop, drop-take, get_or-drop, take-take}
use Rattle.std.proofs.lemmas.List.FromFn.{length-map-range_with_len, get_or-map-range_with_len}
use Rattle.amounts.specs.Ranges.{areas}
use Rattle.statements.specs.declared.statement.AreaAmounts.{AreaAmounts}
use Rattle.statements.specs.Amounts.{number_of, amount_at}
use Rattle.statements.specs.Layout.{amounts_of, area_at, areas_at, statement_at}
use Rattle.statements.proofs.ReadBack.{areas_at_each}

-- chunk i of n elements each
pub chunk_at : {X : Type 0} (n k : ℕ) (xs : List X) (i : ℕ) (d : List X) → i < k → get_or (first_chunks n k xs) i d ≡ take n (drop (n * i) xs)
chunk_at n zero xs i d h = absurd (omega arith)
chunk_at n (suc k) xs zero d h = ap (λ m. take n (drop m xs)) (sym (mul-zero n))
chunk_at n (suc k) xs (suc i) d h = chunk_at n k (drop n xs) i d (omega arith) ∙ ap (take n) (drop-drop (n * i) n xs ∙ ap (λ m. drop m xs) (omega (arith, mul-suc n i)))

-- the n bytes of `part` are those of `bs` from p on
pub record IsPart (part bs : List ℕ) (p n : ℕ) : Type 0 where
  pub amount : (q : ℕ) → q + 8 ≤ n → amount_at part q ≡ amount_at bs (p + q)

pub behind_place : (bs : List ℕ) (p n : ℕ) → IsPart (drop p bs) bs p n
unfolding amount_at
behind_place bs p n = record { amount = λ q h. ap (λ ys. to_z w64 (number_of (take 8 ys))) (drop-drop q p bs) }

pub part_at : (bs : List ℕ) (p n : ℕ) → IsPart (take n (drop p bs)) bs p n
unfolding amount_at
part_at bs p n = record {
  amount = λ q h.
      let rest : ℕ = n - q in
      let whole : n ≡ q + rest = omega arith in
      let cut : drop q (take n (drop p bs)) ≡ take rest (drop q (drop p bs)) = ap (λ k. drop q (take k (drop p bs))) whole ∙ drop-take q rest (drop p bs) in
      ap (λ ys. to_z w64 (number_of (take 8 ys))) cut
      ∙ ap (λ ys. to_z w64 (number_of ys)) (take-take 8 rest (drop q (drop p bs)) (omega arith) ∙ ap (take 8) (drop-drop q p bs));
}

module _ (part bs : List ℕ) (p n : ℕ) (is : IsPart part bs p n) where
  pub area_in : (q : ℕ) → q + 64 ≤ n → area_at part q ≡ area_at bs (p + q)
  unfolding area_at
  area_in q h =
      let at : (k : ℕ) → q + k + 8 ≤ n → amount_at part (q + k) ≡ amount_at bs (p + q + k) = λ k less. is.amount (q + k) less ∙ ap (amount_at bs) (omega arith) in
      let metered = is.amount q (omega arith) in
      let modelled = at 8 (omega arith) in
      let energy = at 16 (omega arith) in
      let delivery = at 24 (omega arith) in
      let volume = at 32 (omega arith) in
      let volume_energy = at 40 (omega arith) in
      let volume_delivery = at 48 (omega arith) in
      let cost = at 56 (omega arith) in
      λ i. record { metered = metered i; modelled = modelled i; energy = energy i; delivery = delivery i; volume = volume i; volume_energy = volume_energy i; volume_delivery = volume_delivery i; cost = cost i }

  pub areas_in : (q k : ℕ) → q + 64 * k ≤ n → areas_at k part q ≡ areas_at k bs (p + q)
  unfolding areas_at
  areas_in q k h =
      let read = λ (area : ℕ). area_at part (q + 64 * area) in
      areas_at_each bs (p + q) (map read (range_with_len 0 k)) k (length-map-range_with_len read 0 k) (λ j less.
      get_or-map-range_with_len read 0 k j j (area_at bs 0) less (omega arith)
      ∙ area_in (q + 64 * j) (omega arith)
      ∙ ap (area_at bs) (omega arith))

-- the amount of chunk i of eight bytes, and the area of chunk i of 64
pub amount_of_chunk : (bs : List ℕ) (n i : ℕ) → length bs ≡ n → i < n / 8 → amount_at (get_or (first_chunks 8 (length bs / 8) bs) i []) 0 ≡ amount_at bs (8 * i)
amount_of_chunk bs n i long h =
    ap (λ k. amount_at (get_or (first_chunks 8 (k / 8) bs) i []) 0) long
    ∙ ap (λ ys. amount_at ys 0) (chunk_at 8 (n / 8) bs i [] h)
    ∙ (part_at bs (8 * i) 8).amount 0 (omega arith)
    ∙ ap (amount_at bs) (add-zero (8 * i))

pub area_of_chunk : (bs : List ℕ) (n i : ℕ) → length bs ≡ n → i < n / 64 → area_at (get_or (first_chunks 64 (length bs / 64) bs) i []) 0 ≡ area_at bs (0 + 64 * i)
area_of_chunk bs n i long h =
    ap (λ k. area_at (get_or (first_chunks 64 (k / 64) bs) i []) 0) long
    ∙ ap (λ ys. area_at ys 0) (chunk_at 64 (n / 64) bs i [] h)
    ∙ area_in (take 64 (drop (64 * i) bs)) bs (64 * i) 64 (part_at bs (64 * i) 64) 0 (omega arith)
    ∙ ap (area_at bs) (omega arith)

-- the area whose amounts lie one after another from the front on
pub area_of_amounts : (bs : List ℕ) (a : AreaAmounts) (xs : List ℤ) → amounts_of a ≡ xs → ((k : ℕ) → k < 8 → get_or xs k (pos 0) ≡ amount_at bs (8 * k)) → a ≡ area_at bs 0
unfolding area_at
area_of_amounts bs a xs is each =
    let metered : a.metered ≡ amount_at bs 0 = ap (λ ys. get_or ys 0 (pos 0)) is ∙ each 0 (omega arith) in
    let modelled : a.modelled ≡ amount_at bs 8 = ap (λ ys. get_or ys 1 (pos 0)) is ∙ each 1 (omega arith) in
    let energy : a.energy ≡ amount_at bs 16 = ap (λ ys. get_or ys 2 (pos 0)) is ∙ each 2 (omega arith) in
    let delivery : a.delivery ≡ amount_at bs 24 = ap (λ ys. get_or ys 3 (pos 0)) is ∙ each 3 (omega arith) in
    let volume : a.volume ≡ amount_at bs 32 = ap (λ ys. get_or ys 4 (pos 0)) is ∙ each 4 (omega arith) in
    let volume_energy : a.volume_energy ≡ amount_at bs 40 = ap (λ ys. get_or ys 5 (pos 0)) is ∙ each 5 (omega arith) in
    let volume_delivery : a.volume_delivery ≡ amount_at bs 48 = ap (λ ys. get_or ys 6 (pos 0)) is ∙ each 6 (omega arith) in
    let cost : a.cost ≡ amount_at bs 56 = ap (λ ys. get_or ys 7 (pos 0)) is ∙ each 7 (omega arith) in
    λ i. record { metered = metered i; modelled = modelled i; energy = energy i; delivery = delivery i; volume = volume i; volume_energy = volume_energy i; volume_delivery = volume_delivery i; cost = cost i }

-- the statement behind a place is that at the place
pub statement_behind : (bs : List ℕ) (p : ℕ) → statement_at (drop p bs) 0 ≡ statement_at bs p
unfolding statement_at
statement_behind bs p =
    let part = behind_place bs p 1289 in
    let account : get_or (drop p bs) 0 0 ≡ get_or bs p 0 = get_or-drop p bs 0 0 ∙ ap (λ k. get_or bs k 0) (add-zero p) in
    let in_areas = areas_in (drop p bs) bs p 1289 part 1 areas (omega arith) in
    let cost = part.amount 1281 (omega arith) in
    λ i. record { account = account i; areas = in_areas i; cost = cost i }

-- the statement of a list that is cut into its parts
pub statement_of_parts : (bs tail rest in_areas behind in_cost : List ℕ) (p account : ℕ) → tail ≡ drop p bs → tail ≡ account ∷ rest → in_areas ≡ take 1280 rest → behind ≡ drop 1280 rest → in_cost ≡ take 8 behind → record { account = account; areas = areas_at areas in_areas 0; cost = amount_at in_cost 0 } ≡ statement_at bs p
unfolding statement_at
statement_of_parts bs tail rest in_areas behind in_cost p account from is areas_are behind_is cost_is =
    let first : account ≡ get_or tail 0 0 = ap (λ ys. get_or ys 0 0) (sym is) in
    let further : rest ≡ drop 1 tail = ap (drop 1) (sym is) in
    let in_areas_at : areas_at areas in_areas 0 ≡ areas_at areas tail 1 = ap (λ ys. areas_at areas ys 0) (areas_are ∙ ap (take 1280) further) ∙ areas_in (take 1280 (drop 1 tail)) tail 1 1280 (part_at tail 1 1280) 0 areas (omega arith) in
    let cost_at : amount_at in_cost 0 ≡ amount_at tail 1281 = ap (λ ys. amount_at ys 0) (cost_is ∙ ap (take 8) (behind_is ∙ ap (drop 1280) further ∙ drop-drop 1280 1 tail)) ∙ (part_at tail 1281 8).amount 0 (omega arith) in
    let front : record { account = account; areas = areas_at areas in_areas 0; cost = amount_at in_cost 0 } ≡ statement_at tail 0 = λ i. record { account = first i; areas = in_areas_at i; cost = cost_at i } in
    front ∙ ap (λ ys. statement_at ys 0) from ∙ statement_behind bs p
