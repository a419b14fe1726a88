-- What a sharing of z by the weights ws at the accounts cs answers, and what the places hold afterwards.
use Rattle.std.specs.Prelude.{ℕ, Bool, cond, ◌&&◌, List, map, length, ℤ, Ok, Err, Result, nat_le}
use Rattle.sharing.specs.declared.fault.ShareFault.{ShareFault}
use Rattle.sharing.specs.declared.fault.ShareFault.TheVariants.{BeyondLimits, Accounts, TooFewPlaces}
use Rattle.sharing.specs.Limits.{figures_in_limit, rising}
use Rattle.sharing.specs.Shares.{counting_weight, part, unshared, written}

-- the checks in the order of the fault table
abbrev pub outcome : ℤ → List ℤ → List ℕ → ℕ → Result ℤ ShareFault
outcome z ws cs places =
    cond (figures_in_limit z ws)
    (cond (rising 0 cs)
    (cond (nat_le (length ws) places) (Ok (unshared z (map counting_weight ws))) (Err TooFewPlaces))
    (Err Accounts))
    (Err BeyondLimits)

abbrev pub accepted : ℤ → List ℤ → List ℕ → ℕ → Bool
accepted z ws cs places = figures_in_limit z ws && (rising 0 cs && nat_le (length ws) places)

abbrev pub parts_after : ℤ → List ℤ → List ℕ → List ℤ → List ℤ
parts_after z ws cs ps =
    cond (accepted z ws cs (length ps))
    (written (part z (map counting_weight ws)) (length ws) ps)
    ps
