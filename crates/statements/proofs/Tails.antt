-- Items written one after another into a tail, each as n bytes.
use Rattle.std.proofs.Common.{◌≡◌, ℕ, ◌+◌, ◌-◌, ◌*◌, ◌<◌, List, [], ◌∷◌, ◌++◌, length, get_or, take, drop, sym, ap, ◌∙◌, mul-zero, mul-suc, mul-add, arith}
use borrow.Rule.Slice.PartMut.{put_mid}
use Rattle.std.specs.List.{flat_map}
use Rattle.std.proofs.lemmas.List.{append_assoc, append-nil, length-append, length-drop, length-take-le, take_at, take_all, take_more, take_rest, drop_at, drop_all, drop-drop, flat_map_more}

-- what is left after a write of k bytes, `new`, to the tail from a place on
pub put_after : (a k : ℕ) (bs front back new last : List ℕ) → bs ≡ front ++ back → length front ≡ a → last ≡ new ++ drop k (take (length bs - a) (drop a bs)) → put_mid a (length bs - a) bs last ≡ (front ++ new) ++ drop k back
put_after a k bs front back new last is long last_is =
    let none : drop (length bs - a) (drop a bs) ≡ [] = drop_all (length bs - a) (drop a bs) (omega (arith, length-drop a bs)) in
    let kept : take a bs ≡ front = rw is (take_at front back a long) in
    let rest : take (length bs - a) (drop a bs) ≡ back = take_rest bs a ∙ rw is (drop_at front back a long) in
    let whole : last ≡ new ++ drop k back = last_is ∙ ap (λ (ys : List ℕ). new ++ drop k ys) rest in
    rw (kept, none, append-nil, whole) (sym (append_assoc front new (drop k back)))

module _ {X : Type 0} (f : X → List ℕ) (n : ℕ) (long : (x : X) → length (f x) ≡ n) where
  pub length_joined : (xs : List X) → length (flat_map f xs) ≡ n * length xs
  length_joined [] = sym (mul-zero n)
  length_joined (x ∷ xs) = length-append (f x) (flat_map f xs) ∙ omega (arith, long x, length_joined xs, mul-suc n (length xs))

  -- one more item, written to what is left of the tail
  pub written_more : (xs : List X) (entry tail last : List ℕ) (i : ℕ) (d : X) → i < length xs → tail ≡ flat_map f (take i xs) ++ drop (n * i) entry → last ≡ f (get_or xs i d) ++ drop n (take (length tail - n * i) (drop (n * i) tail)) → put_mid (n * i) (length tail - n * i) tail last ≡ flat_map f (take (i + 1) xs) ++ drop (n * (i + 1)) entry
  written_more xs entry tail last i d below so_far last_is =
      let x = get_or xs i d in
      let front = flat_map f (take i xs) in
      let front_long : length front ≡ n * i = length_joined (take i xs) ∙ ap (λ k. n * k) (length-take-le i xs (omega arith)) in
      let more : front ++ f x ≡ flat_map f (take (i + 1) xs) = flat_map_more f [] (take i xs) x ∙ ap (flat_map f) (sym (take_more xs i d below)) in
      let further : drop n (drop (n * i) entry) ≡ drop (n * (i + 1)) entry = drop-drop n (n * i) entry ∙ ap (λ k. drop k entry) (omega (arith, mul-add n i 1)) in
      put_after (n * i) n tail front (drop (n * i) entry) (f x) last so_far front_long last_is ∙ rw (more, further)

  pub written_all : (xs : List X) (entry tail : List ℕ) (i : ℕ) → i ≡ length xs → tail ≡ flat_map f (take i xs) ++ drop (n * i) entry → tail ≡ flat_map f xs ++ drop (n * length xs) entry
  written_all xs entry tail i end so_far = so_far ∙ ap (λ k. flat_map f (take k xs) ++ drop (n * k) entry) end ∙ ap (λ ys. flat_map f ys ++ drop (n * length xs) entry) (take_all (length xs) xs (omega arith))
