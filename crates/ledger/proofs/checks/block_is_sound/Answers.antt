use Rattle.std.proofs.Common.{◌≡◌, Bool, true, sym, ◌∙◌, rules}
use Rattle.ledger.specs.Blocks.{Block, block}
use Rattle.ledger.specs.Limits.{sound, Sound}
use Rattle.ledger.proofs.Soundness.{sound_facts}
use Rattle.ledger.proofs.checks.block_is_sound.Goals as goal

-- an answer that is right gives the facts
abbrev Owed : Block → Bool → Type 0
Owed b r = record { answer : r ≡ sound b; facts : r ≡ true → Sound b }

owed : (b : Block) (r : Bool) → r ≡ sound b → Owed b r
owed b r e = record { answer = e; facts = λ t. sound_facts b (sym e ∙ t) }

pub returns-then-cells_within : goal.returns-then-cells_within
unfolding sound
returns-then-cells_within c = owed (block c.args.cells.now c.args.accounts.now) _ (search rules)

pub returns-else-cells_within : goal.returns-else-cells_within
unfolding sound
returns-else-cells_within c = owed (block c.args.cells.now c.args.accounts.now) _ (search rules)
