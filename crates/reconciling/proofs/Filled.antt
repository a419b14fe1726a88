-- A list of n places, filled from the front by a function of the index.
use Rattle.std.proofs.Common.{◌≡◌, ℕ, ◌+◌, ◌<◌, ◌≤◌, ◌≢◌, List, map, length, get_or, set, replicate, ◌∙◌, arith, length-set, get_or-set_other, get_or-set_same, below_none, below_more}
use lib.ListN.{length-replicate}
use Rattle.std.specs.List.{range_with_len}
use Rattle.std.proofs.lemmas.List.FromFn.{fill_by_all}

-- the first i of n places hold what f says
pub record Filled {X : Type 0} (n : ℕ) (f : ℕ → X) (d : X) (xs : List X) (i : ℕ) : Type 0 where
  pub count : length xs ≡ n
  pub below : (k : ℕ) → k < i → get_or xs k d ≡ f k

module _ {X : Type 0} (n : ℕ) (f : ℕ → X) (d : X) where
  pub filled_none : (y : X) → Filled n f d (replicate n y) 0
  filled_none y = record { count = length-replicate n y; below = below_none _ }

  pub filled_more : (xs : List X) (i : ℕ) (y : X) → Filled n f d xs i → i < n → y ≡ f i → Filled n f d (set xs i y) (i + 1)
  filled_more xs i y h l e =
      let room : i < length xs = omega (arith, h.count) in
      record {
        count = length-set xs i y ∙ h.count;
        below = below_more (λ (k : ℕ). get_or (set xs i y) k d ≡ f k) i (λ k m. let ne : k ≢ i = omega arith in get_or-set_other xs i k y d ne ∙ h.below k m) (get_or-set_same xs i y d room ∙ e);
      }

  pub filled_all : (xs : List X) (i : ℕ) → Filled n f d xs i → n ≤ i → xs ≡ map f (range_with_len 0 n)
  filled_all xs i h l = fill_by_all f xs n d h.count (λ k m. h.below k (omega arith))
