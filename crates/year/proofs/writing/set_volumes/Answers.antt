use Rattle.std.proofs.Common.{get_or, arith}
use Rattle.ledger.specs.Blocks.{cell_count, zero_cell, zero_volume}
use Rattle.year.specs.Outcomes.{cell_with_volume, with_volumes}
use Rattle.year.proofs.Tables.{written_all}
use Rattle.year.proofs.writing.set_volumes.Goals as goal

pub returns : goal.returns
unfolding with_volumes
returns c = written_all (λ k. cell_with_volume (get_or c.args.cells.now k zero_cell) (get_or c.args.table.now k zero_volume)) zero_cell c.args.cells.now c.loop-i.i cell_count c.loop-i.cells (omega arith) (omega arith) c.loop-i.invariant
