-- The bytes of an amount make the amount again.
use Rattle.std.proofs.Common.{◌≡◌, ℕ, zero, suc, ◌+◌, ◌*◌, ◌/◌, ◌%◌, ◌^◌, ◌<◌, List, [], ◌∷◌, ◌++◌, length, get_or, take, drop, ℤ, pos, sym, refl, ap, ◌∙◌, add-zero, arith, w64, SFits, to_z, of_z}
use native.Mathlib.Nat.{div-div-eq-div-mul, pow-succ'}
use mir.Facts.{Fits-of_z}
use Rattle.std.proofs.lemmas.List.{take_at, drop_all, drop-drop, get_or-drop}
use Rattle.std.proofs.lemmas.List.FromFn.{fill_by_all}
use Rattle.std.proofs.lemmas.Int.{to_z-of_z}
use Rattle.statements.specs.Amounts.{low_bytes, number_of, amount_bytes}
use Rattle.statements.specs.declared.statement.AreaAmounts.{AreaAmounts}
use Rattle.statements.specs.Layout.{amounts_of, area_bytes}
use Rattle.statements.proofs.Tails.{length_joined}

pub length_low_bytes : (k n : ℕ) → length (low_bytes k n) ≡ k
unfolding low_bytes
length_low_bytes zero n = refl
length_low_bytes (suc k) n = ap suc (length_low_bytes k (n / 256))

-- the bytes as the machine gives them
pub low_bytes_8 : (n : ℕ) → (n % 256) ∷ (n / 256 % 256) ∷ (n / 65536 % 256) ∷ (n / 16777216 % 256) ∷ (n / 4294967296 % 256) ∷ (n / 1099511627776 % 256) ∷ (n / 281474976710656 % 256) ∷ (n / 72057594037927936 % 256) ∷ [] ≡ low_bytes 8 n
unfolding low_bytes
low_bytes_8 n = simp div-div-eq-div-mul

pub number_low_bytes : (k n : ℕ) → n < 256 ^ k → number_of (low_bytes k n) ≡ n
unfolding low_bytes number_of
number_low_bytes zero n h = omega arith
number_low_bytes (suc k) n h = let less : n < 256 * 256 ^ k = rw pow-succ' at h in rw (number_low_bytes k (n / 256) (omega arith)) (omega arith)

number_none : number_of [] ≡ 0
unfolding number_of
number_none = refl

number_more : (bs : List ℕ) → number_of bs ≡ get_or bs 0 0 + 256 * number_of (drop 1 bs)
unfolding number_of
number_more [] = refl
number_more (b ∷ bs) = refl

number_from : (bs : List ℕ) (i : ℕ) → number_of (drop i bs) ≡ get_or bs i 0 + 256 * number_of (drop (i + 1) bs)
number_from bs i = number_more (drop i bs) ∙ rw (get_or-drop i bs 0 0, drop-drop 1 i bs, add-zero i)

-- the number as the machine makes it of eight bytes
pub number_of_8 : (bs : List ℕ) → length bs ≡ 8 → get_or bs 0 0 + get_or bs 1 0 * 256 + get_or bs 2 0 * 65536 + get_or bs 3 0 * 16777216 + get_or bs 4 0 * 4294967296 + get_or bs 5 0 * 1099511627776 + get_or bs 6 0 * 281474976710656 + get_or bs 7 0 * 72057594037927936 ≡ number_of bs
number_of_8 bs h =
    let none : number_of (drop 8 bs) ≡ 0 = ap number_of (drop_all 8 bs (omega arith)) ∙ number_none in
    omega (arith, number_from bs 0, number_from bs 1, number_from bs 2, number_from bs 3, number_from bs 4, number_from bs 5, number_from bs 6, number_from bs 7)

pub length_amount_bytes : (z : ℤ) → length (amount_bytes z) ≡ 8
unfolding amount_bytes
length_amount_bytes z = length_low_bytes 8 (of_z w64 z)

-- what begins with the bytes of an amount has that amount in front
pub amount_first : (z : ℤ) (rest : List ℕ) → SFits w64 z → to_z w64 (number_of (take 8 (amount_bytes z ++ rest))) ≡ z
unfolding amount_bytes
amount_first z rest fits =
    let below : of_z w64 z < 256 ^ 8 = (Fits-of_z fits).fits in
    ap (λ (bs : List ℕ). to_z w64 (number_of bs)) (take_at (low_bytes 8 (of_z w64 z)) rest 8 (length_low_bytes 8 (of_z w64 z)))
    ∙ ap (to_z w64) (number_low_bytes 8 (of_z w64 z) below)
    ∙ to_z-of_z w64 z fits

pub length_area_bytes : (a : AreaAmounts) → length (area_bytes a) ≡ 64
unfolding area_bytes
length_area_bytes a = length_joined amount_bytes 8 length_amount_bytes (amounts_of a)

-- a list of eight amounts, written out
pub eight_amounts : (xs : List ℤ) → length xs ≡ 8 → get_or xs 0 (pos 0) ∷ get_or xs 1 (pos 0) ∷ get_or xs 2 (pos 0) ∷ get_or xs 3 (pos 0) ∷ get_or xs 4 (pos 0) ∷ get_or xs 5 (pos 0) ∷ get_or xs 6 (pos 0) ∷ get_or xs 7 (pos 0) ∷ [] ≡ xs
eight_amounts xs long = sym (fill_by_all (λ i. get_or xs i (pos 0)) xs 8 (pos 0) long (λ k h. refl))
