use Rattle.std.proofs.Common.{get_or, pos}
use Rattle.ledger.specs.Blocks.{zero_cell}
use Rattle.year.specs.Outcomes.{cell_with_cost}
use Rattle.year.proofs.Tables.{WrittenTo}
use Rattle.year.proofs.writing.set_costs.Given as goal

abbrev pub invariant-loop-i : goal.invariant-loop-i
invariant-loop-i l = WrittenTo (λ k. cell_with_cost (get_or l.fn.cells k zero_cell) (get_or l.table k (pos 0))) zero_cell l.fn.cells l.i l.cells
