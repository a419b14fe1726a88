-- The bytes of a statement, and the statement that bytes make.
use Rattle.std.specs.Prelude.{ℕ, ◌+◌, ◌*◌, List, [], ◌∷◌, ◌++◌, map, ℤ, pos, slice_index}
use Rattle.std.specs.List.{range_with_len, flat_map}
use Rattle.amounts.specs.Ranges.{areas}
use Rattle.statements.specs.declared.statement.AreaAmounts.{AreaAmounts}
use Rattle.statements.specs.declared.statement.Statement.{Statement}
use Rattle.statements.specs.Amounts.{amount_bytes, amount_at}

-- the eight amounts of an area, in the order of a statement
abbrev pub amounts_of : AreaAmounts → List ℤ
amounts_of a = a.metered ∷ a.modelled ∷ a.energy ∷ a.delivery ∷ a.volume ∷ a.volume_energy ∷ a.volume_delivery ∷ a.cost ∷ []

-- an area where nothing is, which stands past the end of a list
abbrev pub no_amounts : AreaAmounts
no_amounts = record { metered = pos 0; modelled = pos 0; energy = pos 0; delivery = pos 0; volume = pos 0; volume_energy = pos 0; volume_delivery = pos 0; cost = pos 0 }

-- the 64 bytes of an area
unfoldable pub area_bytes : AreaAmounts → List ℕ
area_bytes a = flat_map amount_bytes (amounts_of a)

-- account, areas in order, energy cost adjustment: 1,289 bytes
unfoldable pub statement_bytes : Statement → List ℕ
statement_bytes s = s.account ∷ (flat_map area_bytes s.areas ++ amount_bytes s.cost)

abbrev pub statement_size : ℕ
statement_size = 1289

-- the area at a place
unfoldable pub area_at : List ℕ → ℕ → AreaAmounts
area_at bs place = record {
  metered = amount_at bs place;
  modelled = amount_at bs (place + 8);
  energy = amount_at bs (place + 16);
  delivery = amount_at bs (place + 24);
  volume = amount_at bs (place + 32);
  volume_energy = amount_at bs (place + 40);
  volume_delivery = amount_at bs (place + 48);
  cost = amount_at bs (place + 56);
}

-- n areas from a place on
unfoldable pub areas_at : ℕ → List ℕ → ℕ → List AreaAmounts
areas_at n bs place = map (λ area. area_at bs (place + 64 * area)) (range_with_len 0 n)

-- the statement at a place
unfoldable pub statement_at : List ℕ → ℕ → Statement
statement_at bs place = record {
  account = slice_index bs place;
  areas = areas_at areas bs (place + 1);
  cost = amount_at bs (place + 1281);
}
