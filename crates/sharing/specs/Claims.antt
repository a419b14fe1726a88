-- What each line claims of the size a, and which claims come first, where the weights of the lines count ws.
use Rattle.std.specs.Prelude.{ℕ, ◌+◌, Bool, ◌&&◌, ◌||◌, List, map, count_by, ◌==◌, nat_lt}
use Rattle.std.specs.List.{range_with_len}
use Rattle.amounts.specs.Sums.{one}
use Rattle.sharing.specs.declared.claims.Claim.{Claim}
use Rattle.sharing.specs.Shares.{weight_at, quotient, remainder}

-- the claim of line i. Past the lines it is one of weight zero
abbrev pub claim_at : ℕ → List ℕ → ℕ → Claim
claim_at a ws i = record { index = i; weight = weight_at ws i; quotient = quotient a ws i; remainder = remainder a ws i }

-- the claims of the first n lines
abbrev pub claims_of : ℕ → List ℕ → ℕ → List Claim
claims_of a ws n = map (claim_at a ws) (range_with_len 0 n)

-- it takes part, and has the larger remainder, or an equal one and comes earlier
abbrev pub comes_before : Claim → Claim → Bool
comes_before other own = nat_lt 0 other.weight && (nat_lt own.remainder other.remainder || (other.remainder == own.remainder && nat_lt other.index own.index))

-- how many claims come before it
abbrev pub before : List Claim → Claim → ℕ
before claims own = count_by (λ other. comes_before other own) claims

-- the claim takes part, and fewer come before it than u units are left over
abbrev pub has_extra : Claim → List Claim → ℕ → Bool
has_extra own claims u = nat_lt 0 own.weight && nat_lt (before claims own) u

-- the units that the claim gets
abbrev pub units : Claim → List Claim → ℕ → ℕ
units own claims u = own.quotient + one (has_extra own claims u)
