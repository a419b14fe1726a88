-- The worked figures. Each row says what the rules give for its inputs.
use Rattle.std.specs.Prelude.{◌≡◌, ℕ, cond, List, [], ◌∷◌, length, replicate, ℤ, pos, negsuc, Ok, ◌==◌}
use Rattle.std.specs.List.{range_with_len}
use Rattle.billing.specs.Volumes.{metered_wh, modelled_wh, charge}
use Rattle.books.specs.InfillBooks.{rate_values}
use Rattle.ledger.specs.Blocks.{zero_sums}
use Rattle.ledger.specs.declared.block.Sums.{Sums}
use Rattle.reconciling.specs.Volumes.{discrepancy, volume_kwh}
use Rattle.reconciling.specs.declared.sheets.AreaRow.{AreaRow}
use Rattle.records.specs.declared.record.ModelledQuantity.TheVariants.{TrainMiles}
use Rattle.sharing.specs.Outcomes.{outcome, parts_after}

-- z by the weights ws, at accounts from 1 on, gives the parts ps, and u is not shared
pub record Shares (z : ℤ) (ws ps : List ℤ) (u : ℤ) : Type 0 where
  pub answer : outcome z ws (range_with_len 1 (length ws)) (length ws) ≡ Ok u
  pub parts : parts_after z ws (range_with_len 1 (length ws)) (replicate (length ws) (pos 99)) ≡ ps

-- a rate and a discount at a speed give a slot's consumption and regeneration
abbrev pub Rates : ℕ → ℕ → ℕ → ℕ → ℕ → Type 0
Rates rate discount speed consumption regeneration = rate_values rate discount speed ≡ record { consumption = consumption; regeneration = regeneration }

-- two accounts: one with 600 kWh metered and 200 modelled, one with 100 modelled
abbrev pub sums_of_two : ℕ → ℕ → Sums
sums_of_two account area =
    cond (account == 1) (record { metered = pos 600000; modelled = pos 200000; energy = pos 0; delivery = pos 0 })
    (cond (account == 2) (record { metered = pos 0; modelled = pos 100000; energy = pos 0; delivery = pos 0 }) zero_sums)

-- 1,000 kWh supplied, of which the infrastructure manager has 1,000 ten-thousandths of the discrepancy
abbrev pub supplied_row : AreaRow
supplied_row = record { supplied = 1000; share = 1000; energy = 0; delivery = 0 }

-- accounts 0, 1 and 2 are adjusted by these kWh
pub record AdjustedVolumes (manager first second : ℤ) : Type 0 where
  pub manager_kwh : volume_kwh sums_of_two supplied_row 0 0 ≡ manager
  pub first_kwh : volume_kwh sums_of_two supplied_row 1 0 ≡ first
  pub second_kwh : volume_kwh sums_of_two supplied_row 2 0 ≡ second

pub record WorkedFigures : Type 0 where
  -- 1,500 by 6,000 and 20,000 gives 346 and 1,154
  pub short_energy : Shares (pos 1500) (pos 6000 ∷ pos 20000 ∷ []) (pos 346 ∷ pos 1154 ∷ []) (pos 0)
  -- −2,050 by 2,200 and 1,600 gives −1,187 and −863
  pub over_delivery : Shares (negsuc 2049) (pos 2200 ∷ pos 1600 ∷ []) (negsuc 1186 ∷ negsuc 862 ∷ []) (pos 0)
  -- 2 by 1, 1, 1 gives 1, 1, 0
  pub tie : Shares (pos 2) (pos 1 ∷ pos 1 ∷ pos 1 ∷ []) (pos 1 ∷ pos 1 ∷ pos 0 ∷ []) (pos 0)
  -- 7 by −3 and 0 is not shared
  pub no_weight : Shares (pos 7) (negsuc 2 ∷ pos 0 ∷ []) (pos 0 ∷ pos 0 ∷ []) (pos 7)
  -- rate 20,000 at speed 250 and discount 1,500 gives 50,000 and 7,500
  pub rate_at_speed : Rates 20000 1500 250 50000 7500
  -- net 1,000 at power factor 9,500 and loss 400 bills 988, at 9,734 and 1,208 for 9,617,192 and 1,193,504
  pub metered_bill : metered_wh (pos 1000) 9500 400 ≡ pos 988
  pub energy_charge : charge (pos 988) 9734 ≡ pos 9617192
  pub delivery_charge : charge (pos 988) 1208 ≡ pos 1193504
  -- net −1 at power factor 5,000 and loss 0 bills −1
  pub half_below_zero : metered_wh (negsuc 0) 5000 0 ≡ negsuc 0
  -- 150 hundredths of a train mile at rate 12,345 and discount 1,000 bill 16,666
  pub modelled_bill : modelled_wh 12345 1000 (TrainMiles 150) ≡ pos 16666
  -- 1,000 kWh supplied, 600 metered, 200 and 100 modelled and the infrastructure manager's share 1,000 leave 100, and adjust by 10, 60 and 30
  pub volume_discrepancy : discrepancy sums_of_two supplied_row 0 ≡ pos 100
  pub volume_adjusted : AdjustedVolumes (pos 10) (pos 60) (pos 30)
