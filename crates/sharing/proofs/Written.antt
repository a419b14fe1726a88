-- Places that are written one after another.
use Rattle.std.proofs.Common.{◌≡◌, ℕ, zero, suc, ◌+◌, ◌<◌, ◌≤◌, List, [], ◌∷◌, ◌++◌, map, length, replicate, get_or, take, drop, set, ℤ, pos, sym, refl, ap, ap₂, ◌∙◌, subst, append_assoc, arith, take_all}
use Rattle.std.specs.List.{range_with_len}
use Rattle.std.proofs.lemmas.List.{drop_more, drop_at, set_at, take_more_set, get_or_append_left, length-replicate, get_or-replicate}
use Rattle.std.proofs.lemmas.List.FromFn.{fill_by_all, length-map-range_with_len, map-range_with_len_more, get_or-map-range_with_len}
use Rattle.sharing.specs.Shares.{written}

pub written_more : (f : ℕ → ℤ) (i : ℕ) (ps : List ℤ) → i < length ps → set (written f i ps) i (f i) ≡ written f (i + 1) ps
written_more f i ps l =
    ap (λ after. set (map f (range_with_len 0 i) ++ after) i (f i)) (drop_more ps i (pos 0) l)
    ∙ set_at (map f (range_with_len 0 i)) (get_or ps i (pos 0)) (drop (i + 1) ps) (f i) i (length-map-range_with_len f 0 i)
    ∙ sym (append_assoc (map f (range_with_len 0 i)) (f i ∷ []) (drop (i + 1) ps))
    ∙ ap (λ front. front ++ drop (i + 1) ps) (sym (map-range_with_len_more f 0 i i (omega arith)))

map_counting_ext : (f g : ℕ → ℤ) (b n : ℕ) → ((k : ℕ) → b ≤ k → k < b + n → f k ≡ g k) → map f (range_with_len b n) ≡ map g (range_with_len b n)
map_counting_ext f g b zero h = refl
map_counting_ext f g b (suc n) h = ap (λ x. x ∷ map f (range_with_len (b + 1) n)) (h b (omega arith) (omega arith)) ∙ ap (λ xs. g b ∷ xs) (map_counting_ext f g (b + 1) n (λ k l m. h k (omega arith) (omega arith)))

pub written_ext : (f g : ℕ → ℤ) (n : ℕ) (ps : List ℤ) → ((k : ℕ) → k < n → f k ≡ g k) → written f n ps ≡ written g n ps
written_ext f g n ps h = ap (λ front. front ++ drop n ps) (map_counting_ext f g 0 n (λ k _ l. h k (omega arith)))

-- a front that is written as f says, place by place
pub filled_more : {X : Type 0} (f : ℕ → X) (xs : List X) (i : ℕ) → i < length xs → take i xs ≡ map f (range_with_len 0 i) → take (i + 1) (set xs i (f i)) ≡ map f (range_with_len 0 (i + 1))
filled_more f xs i l e = take_more_set xs i (f i) l ∙ ap (λ front. front ++ f i ∷ []) e ∙ sym (map-range_with_len_more f 0 i i (omega arith))

-- all of it
pub filled_all : {X : Type 0} (f : ℕ → X) (xs : List X) (n i : ℕ) → length xs ≡ n → i ≡ n → take i xs ≡ map f (range_with_len 0 i) → xs ≡ map f (range_with_len 0 n)
filled_all f xs n i long end e = sym (take_all n xs (omega arith)) ∙ subst (λ k. take k xs ≡ map f (range_with_len 0 k)) end e

-- where all that is written is zero
pub written_zeros : (f : ℕ → ℤ) (n : ℕ) (ps : List ℤ) → ((k : ℕ) → f k ≡ pos 0) → replicate n (pos 0) ++ drop n ps ≡ written f n ps
written_zeros f n ps h =
    ap (λ front. front ++ drop n ps)
    (fill_by_all f (replicate n (pos 0)) n (pos 0) (length-replicate n (pos 0)) (λ k l. get_or-replicate n k (pos 0) (pos 0) l ∙ sym (h k)))

-- and where it is written in as many places
pub zeros_written : (f : ℕ → ℤ) (n : ℕ) (ps zs : List ℤ) (m : ℕ) → ((k : ℕ) → f k ≡ pos 0) → zs ≡ replicate (length zs) (pos 0) → length zs ≡ n → m ≡ n → zs ++ drop m ps ≡ written f n ps
zeros_written f n ps zs m h e long same =
    ap₂ (λ front k. front ++ drop k ps) (e ∙ ap (λ k. replicate k (pos 0)) long) same ∙ written_zeros f n ps h

pub written_at : (f : ℕ → ℤ) (n : ℕ) (ps : List ℤ) (i : ℕ) → i < n → get_or (written f n ps) i (pos 0) ≡ f i
written_at f n ps i l =
    let long = length-map-range_with_len f 0 n in
    get_or_append_left (map f (range_with_len 0 n)) (drop n ps) (pos 0) i (omega arith) ∙ get_or-map-range_with_len f 0 n i i (pos 0) l (omega arith)

-- the places past those that are written stay
pub written_beyond : (f : ℕ → ℤ) (n : ℕ) (ps : List ℤ) → drop n (written f n ps) ≡ drop n ps
written_beyond f n ps = drop_at (map f (range_with_len 0 n)) (drop n ps) n (length-map-range_with_len f 0 n)
