-- The key of a line: one number made of its key fields, the first field in the highest digits, each in its full width.
use Rattle.std.specs.Prelude.{◌≡◌, ℕ, ◌+◌, ◌*◌, ◌^◌, ◌<◌, Bool, true, false, ◌&&◌, ◌||◌, List, [], ◌∷◌, ◌==◌, nat_lt}
use Rattle.lines.specs.Kinds.{electricity_number, kind_number}
use Rattle.lines.specs.declared.kinds.Electricity.{Electricity}
use Rattle.lines.specs.declared.kinds.MeteredKind.{MeteredKind}

-- how many keys there are for fields of these widths, in bits
abbrev pub key_count : List ℕ → ℕ
key_count [] = 1
key_count (w ∷ ws) = 2 ^ w * key_count ws

-- the key of the fields fs in these widths
abbrev pub key_of : List ℕ → List ℕ → ℕ
key_of [] fs = 0
key_of (w ∷ ws) [] = 0
key_of (w ∷ ws) (f ∷ fs) = f * key_count ws + key_of ws fs

-- there is a field for each width, and each fits its own
abbrev pub Fit : List ℕ → List ℕ → Type 0
Fit [] [] = Unit {0}
Fit [] (f ∷ fs) = ⊥
Fit (w ∷ ws) [] = ⊥
Fit (w ∷ ws) (f ∷ fs) = (f < 2 ^ w) × Fit ws fs

-- the fields fs come before the fields gs: the first that differs is lower
abbrev pub before : List ℕ → List ℕ → Bool
before [] gs = false
before (f ∷ fs) [] = false
before (f ∷ fs) (g ∷ gs) = nat_lt f g || (f == g && before fs gs)

-- the fields are equal, one by one
abbrev pub same : List ℕ → List ℕ → Bool
same [] [] = true
same [] (g ∷ gs) = false
same (f ∷ fs) [] = false
same (f ∷ fs) (g ∷ gs) = f == g && same fs gs

-- keys are equal exactly where their fields are, and in order exactly where their fields are
pub record KeysFollowFields (ws : List ℕ) : Type 0 where
  pub same_fields : (fs gs : List ℕ) → Fit ws fs → Fit ws gs → key_of ws fs ≡ key_of ws gs → fs ≡ gs
  pub same_key : (fs gs : List ℕ) → fs ≡ gs → key_of ws fs ≡ key_of ws gs
  pub in_order : (fs gs : List ℕ) → Fit ws fs → Fit ws gs → nat_lt (key_of ws fs) (key_of ws gs) ≡ before fs gs

-- ---- the four kinds of line: a category has 16 bits, every other field 8
abbrev pub category_widths : List ℕ
category_widths = 16 ∷ []

abbrev pub loss_widths : List ℕ
loss_widths = 8 ∷ 8 ∷ []

abbrev pub infill_widths : List ℕ
infill_widths = 8 ∷ 16 ∷ 8 ∷ 8 ∷ []

abbrev pub tariff_widths : List ℕ
tariff_widths = 8 ∷ 8 ∷ 8 ∷ []

abbrev pub category_fields : ℕ → List ℕ
category_fields category = category ∷ []

abbrev pub loss_fields : ℕ → Electricity → List ℕ
loss_fields area electricity = area ∷ electricity_number electricity ∷ []

abbrev pub infill_fields : MeteredKind → ℕ → ℕ → ℕ → List ℕ
infill_fields kind category area band = kind_number kind ∷ category ∷ area ∷ band ∷ []

abbrev pub tariff_fields : ℕ → ℕ → ℕ → List ℕ
tariff_fields account area band = account ∷ area ∷ band ∷ []

abbrev pub category_key : ℕ → ℕ
category_key category = key_of category_widths (category_fields category)

abbrev pub loss_key : ℕ → Electricity → ℕ
loss_key area electricity = key_of loss_widths (loss_fields area electricity)

abbrev pub infill_key : MeteredKind → ℕ → ℕ → ℕ → ℕ
infill_key kind category area band = key_of infill_widths (infill_fields kind category area band)

abbrev pub tariff_key : ℕ → ℕ → ℕ → ℕ
tariff_key account area band = key_of tariff_widths (tariff_fields account area band)
