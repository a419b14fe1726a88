use Rattle.lines.specs.Contents.{contents}
use Rattle.lines.specs.Keys.{Fit, category_widths, category_fields}
use Rattle.lines.specs.Tables.{fields_of_category}
use Rattle.lines.proofs.Ranges.{category_fit}
use Rattle.lines.proofs.ByFields.{asked}
use Rattle.lines.proofs.tables.find_category.Goals as goal

pub returns : goal.returns
returns c =
    let fits : Fit category_widths (category_fields c.args.category) = (c.ranges.category.fits, tt) in
    asked category_widths fields_of_category category_fit (category_fields c.args.category) fits (contents c.args.table.now) c.key_at.result c.find.result c.key_at.ensures.key c.find.ensures.answer
