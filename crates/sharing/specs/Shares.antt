-- Largest-remainder sharing, line by line, over the weights that count. A line is known by its index i.
use Rattle.std.specs.Prelude.{ℕ, ◌+◌, ◌-◌, ◌*◌, ◌/◌, ◌%◌, Bool, cond, ◌&&◌, ◌||◌, List, ◌++◌, map, length, drop, ℤ, pos, negsuc, ◌==◌, nat_lt, slice_index, unsigned_abs}
use Rattle.std.specs.List.{range_with_len}
use Rattle.amounts.specs.Quotients.{with_sign}
use Rattle.amounts.specs.Sums.{sum_to, count_to, one}

-- what of a weight counts: nothing of one below zero
abbrev pub counting_weight : ℤ → ℕ
counting_weight (pos n) = n
counting_weight (negsuc _) = 0

-- ---- the size a of an amount, shared among lines whose weights count ws
abbrev pub weight_at : List ℕ → ℕ → ℕ
weight_at ws i = slice_index ws i

abbrev pub total_weight : List ℕ → ℕ
total_weight ws = sum_to (weight_at ws) (length ws)

-- the exact share a × weight ÷ total, cut to a whole number, and what remains of it
abbrev pub quotient : ℕ → List ℕ → ℕ → ℕ
quotient a ws i = a * weight_at ws i / total_weight ws

abbrev pub remainder : ℕ → List ℕ → ℕ → ℕ
remainder a ws i = a * weight_at ws i % total_weight ws

-- the units left over when each line has its quotient
abbrev pub leftover : ℕ → List ℕ → ℕ
leftover a ws = a - sum_to (quotient a ws) (length ws)

-- line j takes part, and has the larger remainder, or an equal one and comes earlier
abbrev pub ranks_before : (ℕ → ℕ) → (ℕ → ℕ) → ℕ → ℕ → Bool
ranks_before w r j i = nat_lt 0 (w j) && (nat_lt (r i) (r j) || (r j == r i && nat_lt j i))

-- how many of n lines rank before line i, by their weights w and remainders r
abbrev pub rank_by : (ℕ → ℕ) → (ℕ → ℕ) → ℕ → ℕ → ℕ
rank_by w r n i = count_to (λ j. ranks_before w r j i) n

abbrev pub rank : ℕ → List ℕ → ℕ → ℕ
rank a ws i = rank_by (weight_at ws) (remainder a ws) (length ws) i

-- the line takes part, and fewer lines rank before it than units are left over
abbrev pub gets_extra : ℕ → List ℕ → ℕ → Bool
gets_extra a ws i = nat_lt 0 (weight_at ws i) && nat_lt (rank a ws i) (leftover a ws)

abbrev pub size : ℕ → List ℕ → ℕ → ℕ
size a ws i = quotient a ws i + one (gets_extra a ws i)

-- ---- with the amount's sign put back
abbrev pub part : ℤ → List ℕ → ℕ → ℤ
part z ws i = with_sign z (size (unsigned_abs z) ws i)

-- what is not shared: all, if no line takes part
abbrev pub unshared : ℤ → List ℕ → ℤ
unshared z ws = cond (total_weight ws == 0) z (pos 0)

-- the first n places hold what f says, and those past them what ps has there
abbrev pub written : (ℕ → ℤ) → ℕ → List ℤ → List ℤ
written f n ps = map f (range_with_len 0 n) ++ drop n ps
