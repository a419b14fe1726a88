use Rattle.std.proofs.Common.{get_or, pos, arith}
use Rattle.ledger.specs.Blocks.{cell_count, zero_cell}
use Rattle.year.specs.Outcomes.{cell_with_cost, with_costs}
use Rattle.year.proofs.Tables.{written_all}
use Rattle.year.proofs.writing.set_costs.Goals as goal

pub returns : goal.returns
unfolding with_costs
returns c = written_all (λ k. cell_with_cost (get_or c.args.cells.now k zero_cell) (get_or c.args.table.now k (pos 0))) zero_cell c.args.cells.now c.loop-i.i cell_count c.loop-i.cells (omega arith) (omega arith) c.loop-i.invariant
