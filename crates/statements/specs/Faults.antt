-- The refusal that the fault table has for each fault of writing and of reading a statement.
use Rattle.amounts.specs.Refusals.{refusal_at}
use Rattle.amounts.specs.declared.refusal.Refusal.{Refusal}
use Rattle.statements.specs.declared.fault.StatementFault.{StatementFault}
use Rattle.statements.specs.declared.fault.StatementFault.TheVariants as writing
use Rattle.statements.specs.declared.fault.ReadStatementFault.{ReadStatementFault}
use Rattle.statements.specs.declared.fault.ReadStatementFault.TheVariants as reading

abbrev pub refusal_of_writing : StatementFault → Refusal
refusal_of_writing writing.Block = refusal_at 1 0
refusal_of_writing writing.NoSuchAccount = refusal_at 22 0
refusal_of_writing writing.TooFewBytes = refusal_at 23 0

abbrev pub refusal_of_reading : ReadStatementFault → Refusal
refusal_of_reading reading.Incomplete = refusal_at 24 0
refusal_of_reading reading.NoSuchAccount = refusal_at 24 0
