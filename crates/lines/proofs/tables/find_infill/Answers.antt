use Rattle.lines.specs.Contents.{contents}
use Rattle.lines.specs.Keys.{Fit, infill_widths, infill_fields}
use Rattle.lines.specs.Tables.{fields_of_infill}
use Rattle.lines.proofs.Ranges.{infill_fit, kind_fits}
use Rattle.lines.proofs.ByFields.{asked}
use Rattle.lines.proofs.tables.find_infill.Goals as goal

pub returns : goal.returns
returns c =
    let fits : Fit infill_widths (infill_fields c.args.kind c.args.category c.args.area c.args.band) = (kind_fits c.args.kind, (c.ranges.category.fits, (c.ranges.area.fits, (c.ranges.band.fits, tt)))) in
    asked infill_widths fields_of_infill infill_fit (infill_fields c.args.kind c.args.category c.args.area c.args.band) fits (contents c.args.table.now) c.key_at.result c.find.result c.key_at.ensures.key c.find.ensures.answer
