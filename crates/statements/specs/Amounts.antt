-- An amount in bytes: eight of them, lowest byte first, in two's complement.
use Rattle.std.specs.Prelude.{ℕ, zero, suc, ◌+◌, ◌*◌, ◌/◌, ◌%◌, List, [], ◌∷◌, take, drop, ℤ}
use Rattle.std.specs.Int.{w64, cast_unsigned, cast_signed}

-- the k lowest bytes of n, lowest first
unfoldable pub low_bytes : ℕ → ℕ → List ℕ
low_bytes zero n = []
low_bytes (suc k) n = n % 256 ∷ low_bytes k (n / 256)

-- the number that bytes make, lowest first
unfoldable pub number_of : List ℕ → ℕ
number_of [] = 0
number_of (b ∷ bs) = b + 256 * number_of bs

-- the bytes of an amount; one below zero is taken as 2^64 less its size
unfoldable pub amount_bytes : ℤ → List ℕ
amount_bytes z = low_bytes 8 (cast_unsigned w64 z)

-- the amount of the eight bytes at a place
unfoldable pub amount_at : List ℕ → ℕ → ℤ
amount_at bs place = cast_signed w64 (number_of (take 8 (drop place bs)))
