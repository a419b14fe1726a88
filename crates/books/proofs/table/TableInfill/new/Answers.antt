use Rattle.lines.specs.Contents.{contents}
use Rattle.books.proofs.Meanings.{infill_table}
use Rattle.books.proofs.table.TableInfill.new.Goals as goal

pub returns-clause-law : goal.returns-clause-law
returns-clause-law c = infill_table (contents c.args.table.now)
