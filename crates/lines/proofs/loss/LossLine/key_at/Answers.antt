use Rattle.std.proofs.Common.{rules}
use Rattle.lines.specs.Keys.{loss_widths}
use Rattle.lines.proofs.Keys.{keys_follow_fields, electricity_distinct}
use Rattle.lines.proofs.loss.LossLine.key_at.Goals as goal

pub returns : goal.returns
returns c = record { key = search rules; law = keys_follow_fields loss_widths; distinct = electricity_distinct }
