-- Signed numbers, as the machine reads them back.
use Rattle.std.proofs.Common.{◌≡◌, ◌<◌, ◌^◌, ℤ, w64, to_z, of_z}
use lib.Signed.{mag}
use mir.Val.{hbits}
use Rattle.std.proofs.lemmas.Int.{to_z-of_z}

-- a number that its type bounds, as what a call answers
pub read_back : (z : ℤ) → mag z < 2 ^ hbits w64 → to_z w64 (of_z w64 z) ≡ z
read_back z bounds = to_z-of_z w64 z (record { sfits = bounds })
