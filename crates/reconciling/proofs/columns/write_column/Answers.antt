use Rattle.std.proofs.Common.{arith}
use Rattle.reconciling.proofs.Tables.{column_none, column_more}
use Rattle.reconciling.proofs.columns.write_column.Goals as goal

pub loop-account-init : goal.loop-account-init
loop-account-init g c = column_none c.args.table.now c.args.column.now c.args.area.index

pub loop-account-preserved : goal.loop-account-preserved
loop-account-preserved g c =
    rw c.cell_index.ensures
    (column_more c.args.table.now c.args.column.now c.args.area.index c.loop-account.table c.loop-account.account c.index-column-account.result c.loop-account.invariant
    (omega (arith, c.requires.table)) (omega (arith, c.requires.column)) c.args.area.exists c.loop-account-test.true c.index-column-account.is)

pub returns : goal.returns
returns g c =
    record {
      written = λ account d l. c.loop-account.invariant.written account d (omega (arith, c.requires.column));
      kept = λ account other d l m ne. c.loop-account.invariant.kept account other d m ne;
      count = omega (arith, c.requires.table);
    }
