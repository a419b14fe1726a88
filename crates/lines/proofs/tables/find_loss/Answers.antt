use Rattle.lines.specs.Contents.{contents}
use Rattle.lines.specs.Keys.{Fit, loss_widths, loss_fields}
use Rattle.lines.specs.Tables.{fields_of_loss}
use Rattle.lines.proofs.Ranges.{loss_fit, electricity_fits}
use Rattle.lines.proofs.ByFields.{asked}
use Rattle.lines.proofs.tables.find_loss.Goals as goal

pub returns : goal.returns
returns c =
    let fits : Fit loss_widths (loss_fields c.args.area c.args.electricity) = (c.ranges.area.fits, (electricity_fits c.args.electricity, tt)) in
    asked loss_widths fields_of_loss loss_fit (loss_fields c.args.area c.args.electricity) fits (contents c.args.table.now) c.key_at.result c.find.result c.key_at.ensures.key c.find.ensures.answer
