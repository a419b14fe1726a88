use Rattle.std.proofs.Common.{rules}
use Rattle.lines.specs.Keys.{infill_widths}
use Rattle.lines.proofs.Keys.{keys_follow_fields, kinds_distinct}
use Rattle.lines.proofs.infill.InfillLine.key_at.Goals as goal

pub returns : goal.returns
returns c = record { key = search rules; law = keys_follow_fields infill_widths; distinct = kinds_distinct }
