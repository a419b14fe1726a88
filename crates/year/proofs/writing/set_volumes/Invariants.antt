use Rattle.ledger.specs.Blocks.{zero_cell, zero_volume}
use Rattle.std.proofs.Common.{get_or}
use Rattle.year.specs.Outcomes.{cell_with_volume}
use Rattle.year.proofs.Tables.{WrittenTo}
use Rattle.year.proofs.writing.set_volumes.Given as goal

abbrev pub invariant-loop-i : goal.invariant-loop-i
invariant-loop-i l = WrittenTo (λ k. cell_with_volume (get_or l.fn.cells k zero_cell) (get_or l.table k zero_volume)) zero_cell l.fn.cells l.i l.cells
