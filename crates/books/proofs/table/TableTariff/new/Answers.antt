use Rattle.lines.specs.Contents.{contents}
use Rattle.books.proofs.Meanings.{tariff_table}
use Rattle.books.proofs.table.TableTariff.new.Goals as goal

pub returns-clause-law : goal.returns-clause-law
returns-clause-law c = tariff_table (contents c.args.table.now)
