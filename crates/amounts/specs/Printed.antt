-- The text that a refusal prints.
use Rattle.std.specs.Prelude.{ℕ, List, [], ◌++◌, Some, None, Option, codes}
use Rattle.std.specs.Fmt.{decimal}
use Rattle.amounts.specs.declared.refusal.Layer.{Layer}
use Rattle.amounts.specs.declared.refusal.Layer.TheVariants.{Record, Book, Ledger, List as List_layer, Statement}
use Rattle.amounts.specs.declared.refusal.Refusal.{Refusal}

abbrev pub layer_text : Layer → List ℕ
layer_text Record = codes "Record"
layer_text Book = codes "Book"
layer_text Ledger = codes "Ledger"
layer_text List_layer = codes "List"
layer_text Statement = codes "Statement"

-- the slot, where a refusal concerns one
abbrev pub slot_text : Option ℕ → List ℕ
slot_text None = []
slot_text (Some slot) = codes ", slot " ++ decimal slot

abbrev pub refusal_text : Refusal → List ℕ
refusal_text r = codes "refused by fault " ++ (decimal r.number ++ (codes " of the layer " ++ (layer_text r.layer ++ slot_text r.slot)))
