use Rattle.lines.specs.Contents.{contents}
use Rattle.books.proofs.Meanings.{rate_table}
use Rattle.books.proofs.rate.RateInfill.new.Goals as goal

pub returns-clause-law : goal.returns-clause-law
returns-clause-law c = rate_table (contents c.args.categories.now) c.args.speed.value
