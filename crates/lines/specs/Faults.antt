-- The refusal that the fault table has for each fault of a line or a list.
use Rattle.amounts.specs.Refusals.{refusal_at}
use Rattle.amounts.specs.declared.refusal.Refusal.{Refusal}
use Rattle.lines.specs.declared.fault.ListFault.{ListFault}
use Rattle.lines.specs.declared.fault.ListFault.TheVariants.{OutOfRange, Full, KeyPresent, KeyAbsent}

abbrev pub refusal_of : ListFault → Refusal
refusal_of OutOfRange = refusal_at 19 0
refusal_of Full = refusal_at 20 0
refusal_of KeyPresent = refusal_at 21 0
refusal_of KeyAbsent = refusal_at 21 0
