-- The layer that a fault belongs to, by its number in the fault table, and a refusal as the table has it.
use Rattle.std.specs.Prelude.{ℕ, cond, Some, None, nat_lt}
use Rattle.amounts.specs.declared.refusal.Layer.{Layer}
use Rattle.amounts.specs.declared.refusal.Layer.TheVariants.{Record, Book, Ledger, List, Statement}
use Rattle.amounts.specs.declared.refusal.Refusal.{Refusal}

-- 1 is the ledger's, 2 to 10 the record's, 11 to 14 the book's, 15 to 18 the ledger's, 19 to 21 the list's, 22 to 24 the statement's
abbrev pub layer_of : ℕ → Layer
layer_of n = cond (nat_lt n 2) Ledger (cond (nat_lt n 11) Record (cond (nat_lt n 15) Book (cond (nat_lt n 19) Ledger (cond (nat_lt n 22) List Statement))))

-- a refusal that concerns no slot and after which there is no next record
abbrev pub refusal_at : ℕ → ℕ → Refusal
refusal_at n p = record { number = n; layer = layer_of n; place = p; slot = None; next = None }

-- the same, concerning the slot s
abbrev pub at_slot : Refusal → ℕ → Refusal
at_slot r s = record { number = r.number; layer = r.layer; place = r.place; slot = Some s; next = r.next }

-- the same, with the next record beginning at p
abbrev pub before_next : Refusal → ℕ → Refusal
before_next r p = record { number = r.number; layer = r.layer; place = r.place; slot = r.slot; next = Some p }
