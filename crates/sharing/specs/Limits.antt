-- The limits of a sharing, and accounts that rise.
use Rattle.std.specs.Prelude.{ℕ, ◌+◌, ◌≤◌, Bool, true, ◌&&◌, List, [], ◌∷◌, length, ℤ, pos, int_le, nat_le}
use Rattle.amounts.specs.Ranges.{account_exists, within}
use Rattle.sharing.specs.Shares.{weight_at}

abbrev pub max_amount : ℕ
max_amount = 3000000000

abbrev pub max_weight : ℕ
max_weight = 3000000000

abbrev pub max_lines : ℕ
max_lines = 64

-- no weight is above its limit
abbrev pub weights_in_limit : List ℤ → Bool
weights_in_limit [] = true
weights_in_limit (w ∷ ws) = int_le w (pos max_weight) && weights_in_limit ws

abbrev pub figures_in_limit : ℤ → List ℤ → Bool
figures_in_limit z ws = (within z max_amount && nat_le (length ws) max_lines) && weights_in_limit ws

-- each account is at least low, exists, and is below the next
abbrev pub rising : ℕ → List ℕ → Bool
rising low [] = true
rising low (c ∷ cs) = (nat_le low c && account_exists c) && rising (c + 1) cs

-- weights that count, of lines that are few enough
abbrev pub WithinLimits : List ℕ → Type 0
WithinLimits ws = (length ws ≤ max_lines) × ((k : ℕ) → weight_at ws k ≤ max_weight)
