use Rattle.std.proofs.Common.{◌≡◌, ℕ, Bool, length}
use Rattle.ledger.specs.Blocks.{cell_count}
use Rattle.reconciling.specs.Columns.{ColumnsBy}
use Rattle.reconciling.proofs.Checks.{AllPass}
use Rattle.reconciling.proofs.Tables.{Columns}
use Rattle.reconciling.proofs.columns.write_columns.Given as goal

abbrev pub invariant-loop-index : goal.invariant-loop-index
invariant-loop-index g l = record {
  count : length l.table ≡ cell_count;
  written : (passes : ℕ → Bool) (entry : ℕ → ℕ → g.row.T.Denot) → ColumnsBy (goal.F-post g l.column_of) passes entry → AllPass passes l.index × Columns entry (entry 0 0) l.table l.index;
}
