use Rattle.std.proofs.Common.{rules}
use Rattle.sharing.proofs.Totals.{counts_at}
use Rattle.sharing.proofs.weights.weight_at.Goals as goal

pub returns : goal.returns
returns g c = counts_at g.L.Weighted.weight c.args.lines.now c.args.index c.map_or.result c.get.result (search rules) c.get.ensures.lookup.1 (search rules)
