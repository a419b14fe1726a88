-- A table with an entry for each account and area, written a column at a time.
use Rattle.std.proofs.Common.{◌≡◌, ℕ, ◌+◌, ◌/◌, ◌%◌, ◌<◌, ◌≢◌, List, map, length, get_or, set, replicate, sym, refl, ap, ◌∙◌, ap₂, inl, inr, arith, lit<, get_or-set_other, get_or-set_same, below_more}
use lib.ListN.{length-replicate}
use Rattle.std.specs.List.{range_with_len}
use Rattle.std.proofs.lemmas.Nat.{div-add-mod', div_below, mod_below, div-mul-add, mod-mul-add}
use Rattle.std.proofs.lemmas.List.FromFn.{fill_by_all, get_or-map-range_with_len}
use Rattle.std.proofs.lemmas.List.{get_or_read}
use Rattle.std.proofs.lemmas.Bool.{cases_eq}
use Rattle.amounts.specs.Ranges.{accounts, areas}
use Rattle.ledger.specs.Blocks.{cell_number, cell_count}

-- the first i accounts of the area have their entries of the column, and no other area is changed
pub record Column {X : Type 0} (old column : List X) (area : ℕ) (new : List X) (i : ℕ) : Type 0 where
  pub written : (account : ℕ) (d : X) → account < i → get_or new (cell_number account area) d ≡ get_or column account d
  pub kept : (account other : ℕ) (d : X) → other < areas → (other ≡ area → ⊥) → get_or new (cell_number account other) d ≡ get_or old (cell_number account other) d

module _ {X : Type 0} (old column : List X) (area : ℕ) where
  pub column_none : Column old column area old 0
  column_none = record { written = λ account d l. absurd (omega arith); kept = λ account other d l ne. refl }

  pub column_more : (new : List X) (i : ℕ) (x : X) → Column old column area new i → length new ≡ cell_count → i < accounts → area < areas → i < length column → x ≡ get_or column i x → Column old column area (set new (cell_number i area) x) (i + 1)
  column_more new i x h count few here l e =
      let place : ℕ = cell_number i area in
      let room : place < length new = omega arith in
      record {
        written = λ account d m. below_more (λ (k : ℕ). get_or (set new place x) (cell_number k area) d ≡ get_or column k d) i
            (λ k b. let ne : cell_number k area ≢ place = omega arith in get_or-set_other new place (cell_number k area) x d ne ∙ h.written k d b)
            (get_or-set_same new place x d room ∙ get_or_read column i x l e d) account m;
        kept = λ account other d m ne.
            let apart : cell_number account other ≢ place = λ same. ne (omega arith) in
            get_or-set_other new place (cell_number account other) x d apart ∙ h.kept account other d m ne;
      }

-- ---- column by column, what f says of each account and area
pub record Columns {X : Type 0} (f : ℕ → ℕ → X) (d : X) (table : List X) (i : ℕ) : Type 0 where
  pub count : length table ≡ cell_count
  pub written : (account area : ℕ) → account < accounts → area < i → get_or table (cell_number account area) d ≡ f account area

module _ {X : Type 0} (f : ℕ → ℕ → X) (d : X) where
  pub columns_start : (table : List X) → length table ≡ cell_count → Columns f d table 0
  columns_start table count = record { count = count; written = λ account area l m. absurd (omega arith) }

  pub columns_none : (y : X) → Columns f d (replicate cell_count y) 0
  columns_none y = columns_start (replicate cell_count y) (length-replicate cell_count y)

  pub columns_more : (old new column : List X) (i : ℕ) → Columns f d old i → i < areas → length new ≡ cell_count
      → ((account : ℕ) (e : X) → account < accounts → get_or new (cell_number account i) e ≡ get_or column account e)
      → ((account other : ℕ) (e : X) → account < accounts → other < areas → (other ≡ i → ⊥) → get_or new (cell_number account other) e ≡ get_or old (cell_number account other) e)
      → ((account : ℕ) → account < accounts → get_or column account d ≡ f account i)
      → Columns f d new (i + 1)
  columns_more old new column i h l count written kept is =
      record {
        count = count;
        written = λ account area m b. elim (cases_eq area i) [
          | inl e ↦ ap (λ a. get_or new (cell_number account a) d) e ∙ written account d m ∙ is account m ∙ ap (f account) (sym e)
          | inr ne ↦ kept account area d m (omega arith) ne ∙ h.written account area m (omega arith)
        ];
      }

  pub columns_all : (table : List X) → Columns f d table areas → table ≡ map (λ k. f (k / areas) (k % areas)) (range_with_len 0 cell_count)
  columns_all table h =
      fill_by_all (λ k. f (k / areas) (k % areas)) table cell_count d h.count
      (λ k l. ap (λ p. get_or table p d) (sym (div-add-mod' k areas)) ∙ h.written (k / areas) (k % areas) (div_below k areas accounts (lit< tt) l) (mod_below k areas (lit< tt)))

-- ---- an entry of the whole table
pub table_at : {X : Type 0} (f : ℕ → ℕ → X) (d : X) (account area : ℕ) → account < accounts → area < areas → get_or (map (λ k. f (k / areas) (k % areas)) (range_with_len 0 cell_count)) (cell_number account area) d ≡ f account area
table_at f d account area l m =
    get_or-map-range_with_len (λ k. f (k / areas) (k % areas)) 0 cell_count (cell_number account area) (cell_number account area) d (omega arith) (omega arith)
    ∙ ap₂ f (div-mul-add account areas area m) (mod-mul-add account areas area m)
