-- An amount that is shared over accounts, where account 0 takes what is not shared.
use Rattle.std.specs.Prelude.{ℕ, zero, suc, List, map, ℤ, ◌+ℤ◌}
use Rattle.std.specs.List.{range_with_len}
use Rattle.sharing.specs.Shares.{counting_weight, part, unshared}

-- the weights of n accounts from the first on, each by its number
abbrev pub weights_from : ℕ → ℕ → (ℕ → ℤ) → List ℤ
weights_from first n weight = map weight (range_with_len first n)

-- what of them counts
abbrev pub that_count : List ℤ → List ℕ
that_count ws = map counting_weight ws

-- z shared over accounts 0 on, by the weights ws that count
unfoldable pub over_all : ℤ → List ℕ → ℕ → ℤ
over_all z ws zero = part z ws 0 +ℤ unshared z ws
over_all z ws (suc i) = part z ws (suc i)

-- z shared over accounts 1 on, by the weights ws that count, beside what account 0 has before
unfoldable pub over_operators : ℤ → ℤ → List ℕ → ℕ → ℤ
over_operators before z ws zero = before +ℤ unshared z ws
over_operators before z ws (suc i) = part z ws i
