-- A table written into a list place by place.
use Rattle.std.proofs.Common.{◌≡◌, ℕ, ◌+◌, ◌<◌, ◌≤◌, ◌≢◌, List, map, length, get_or, set, arith, get_or-set_other, get_or-set_same, below_more}
use Rattle.std.specs.List.{range_with_len}
use Rattle.std.proofs.lemmas.List.FromFn.{fill_by_all}

-- the places below i hold what f says, and those from i on what was there
pub record WrittenTo {X : Type 0} (f : ℕ → X) (d : X) (before : List X) (i : ℕ) (now : List X) : Type 0 where
  pub written : (k : ℕ) → k < i → get_or now k d ≡ f k
  pub kept : (k : ℕ) → i ≤ k → get_or now k d ≡ get_or before k d

module _ {X : Type 0} (f : ℕ → X) (d : X) (before : List X) where
  pub written_none : WrittenTo f d before 0 before
  written_none = record { written = λ k l. absurd (omega arith); kept = λ k l. λ i. get_or before k d }

  pub written_more : (i : ℕ) (now : List X) (x : X) → i < length now → x ≡ f i → WrittenTo f d before i now → WrittenTo f d before (i + 1) (set now i x)
  written_more i now x l e w =
      record {
        written = below_more _ _ (λ k h. let ne : k ≢ i = omega arith in rw get_or-set_other (w.written k h)) (rw get_or-set_same e);
        kept = λ k h. let ne : k ≢ i = omega arith in rw get_or-set_other (w.kept k (omega arith));
      }

  pub written_all : (i n : ℕ) (now : List X) → length now ≡ n → n ≤ i → WrittenTo f d before i now → now ≡ map f (range_with_len 0 n)
  written_all i n now long l w = fill_by_all f now n d long (λ k h. w.written k (omega arith))
