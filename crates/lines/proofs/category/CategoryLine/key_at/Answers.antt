use Rattle.std.proofs.Common.{rules}
use Rattle.lines.specs.Keys.{category-widths}
use Rattle.lines.proofs.Keys.{keys-follow-fields}
use Rattle.lines.proofs.category.CategoryLine.key_at.Goals as goal

pub returns : goal.returns
returns c = record { key = search rules; law = keys-follow-fields category-widths }
