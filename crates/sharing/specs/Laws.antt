-- What makes a sharing fair, in the words of whoever shares. ws are the weights that count and cs the accounts of the lines.
use Rattle.std.specs.Prelude.{◌≡◌, ℕ, ◌+◌, ◌<◌, ◌≤◌, ◌⊎◌, List, length, ℤ, pos, ◌+ℤ◌, ◌-ℤ◌, ◌*ℤ◌, nat_eq, slice_index, unsigned_abs}
use Rattle.amounts.specs.Quotients.{with_sign}
use Rattle.amounts.specs.Sums.{sum_to, int_sum_to, count_to}
use Rattle.sharing.specs.Shares.{weight_at, total_weight, quotient, remainder, leftover}

-- how far the part p lies from line i's exact proportion of z, counted in units divided by the total weight
abbrev pub off : ℤ → List ℕ → ℕ → ℤ → ℕ
off z ws i p = unsigned_abs (p *ℤ pos (total_weight ws) -ℤ z *ℤ pos (weight_at ws i))

-- how far parts are off in all
abbrev pub off_in_all : ℤ → List ℕ → (ℕ → ℤ) → ℕ
off_in_all z ws p = sum_to (λ i. off z ws i (p i)) (length ws)

-- whole parts over the lines that come to z
abbrev pub Split : ℤ → List ℕ → (ℕ → ℤ) → Type 0
Split z ws p = int_sum_to p (length ws) ≡ z

-- line i has one unit more than its quotient
abbrev pub Extra : ℤ → List ℕ → (ℕ → ℤ) → ℕ → Type 0
Extra z ws p i = unsigned_abs (p i) ≡ quotient (unsigned_abs z) ws i + 1

-- how many lines have one
abbrev pub extras : ℤ → List ℕ → (ℕ → ℤ) → ℕ
extras z ws p = count_to (λ i. nat_eq (unsigned_abs (p i)) (quotient (unsigned_abs z) ws i + 1)) (length ws)

-- z is shared into the parts p, and u is not shared
pub record FairShare (z : ℤ) (ws cs : List ℕ) (u : ℤ) (p : ℕ → ℤ) : Type 0 where
  -- nothing is lost
  pub conserved : u +ℤ int_sum_to p (length ws) ≡ z
  -- all of it is shared, and the parts come to it, where any line takes part
  pub comes_to : 0 < total_weight ws → (u ≡ pos 0) × Split z ws p
  -- none of it is, where no line does
  pub none_shared : total_weight ws ≡ 0 → (u ≡ z) × ((i : ℕ) → i < length ws → p i ≡ pos 0)
  -- a line that takes no part gets nothing
  pub no_part : (i : ℕ) → i < length ws → weight_at ws i ≡ 0 → p i ≡ pos 0
  -- no part is larger than the amount
  pub bounded : (i : ℕ) → i < length ws → unsigned_abs (p i) ≤ unsigned_abs z
  -- every part lies less than one unit from its exact proportion
  pub within_one : 0 < total_weight ws → (i : ℕ) → i < length ws → off z ws i (p i) < total_weight ws
  -- no other split is off by less in all
  pub best : (q : ℕ → ℤ) → Split z ws q → off_in_all z ws p ≤ off_in_all z ws q
  -- each part is the quotient, or one unit more, with the amount's sign
  pub quotient_or_more : (i : ℕ) → i < length ws → (p i ≡ with_sign z (quotient (unsigned_abs z) ws i)) ⊎ (p i ≡ with_sign z (quotient (unsigned_abs z) ws i + 1))
  -- as many lines get an extra unit as units are left over
  pub extras_given : 0 < total_weight ws → extras z ws p ≡ leftover (unsigned_abs z) ws
  -- who got one has the larger remainder than who takes part and got none, or an equal one and the smaller account
  pub extras_by_remainder : (i j : ℕ) → i < length ws → j < length ws → Extra z ws p i → 0 < weight_at ws j → (Extra z ws p j → ⊥) → (remainder (unsigned_abs z) ws j < remainder (unsigned_abs z) ws i) ⊎ ((remainder (unsigned_abs z) ws i ≡ remainder (unsigned_abs z) ws j) × (slice_index cs i < slice_index cs j))
