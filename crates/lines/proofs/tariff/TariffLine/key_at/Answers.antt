use Rattle.std.proofs.Common.{rules}
use Rattle.lines.specs.Keys.{tariff_widths}
use Rattle.lines.proofs.Keys.{keys_follow_fields}
use Rattle.lines.proofs.tariff.TariffLine.key_at.Goals as goal

pub returns : goal.returns
returns c = record { key = search rules; law = keys_follow_fields tariff_widths }
