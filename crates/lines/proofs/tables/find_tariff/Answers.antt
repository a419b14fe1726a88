use Rattle.lines.specs.Contents.{contents}
use Rattle.lines.specs.Keys.{Fit, tariff_widths, tariff_fields}
use Rattle.lines.specs.Tables.{fields_of_tariff}
use Rattle.lines.proofs.Ranges.{tariff_fit}
use Rattle.lines.proofs.ByFields.{asked}
use Rattle.lines.proofs.tables.find_tariff.Goals as goal

pub returns : goal.returns
returns c =
    let fits : Fit tariff_widths (tariff_fields c.args.account c.args.area c.args.band) = (c.ranges.account.fits, (c.ranges.area.fits, (c.ranges.band.fits, tt))) in
    asked tariff_widths fields_of_tariff tariff_fit (tariff_fields c.args.account c.args.area c.args.band) fits (contents c.args.table.now) c.key_at.result c.find.result c.key_at.ensures.key c.find.ensures.answer
