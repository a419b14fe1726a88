use Rattle.reconciling.proofs.Tables.{Column}
use Rattle.reconciling.proofs.columns.write_column.Given as goal

abbrev pub invariant-loop-account : goal.invariant-loop-account
invariant-loop-account g l = Column l.initial.table l.column l.area.index l.table l.account
