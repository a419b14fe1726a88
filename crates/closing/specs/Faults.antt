-- The refusal of a year that cannot be closed: a reconciliation's is handed on whole.
use Rattle.amounts.specs.Refusals.{refusal_at}
use Rattle.amounts.specs.declared.refusal.Refusal.{Refusal}
use Rattle.reconciling.specs.Faults.{refusal_of as reconcile_refusal_of}
use Rattle.closing.specs.declared.fault.CloseFault.{CloseFault}
use Rattle.closing.specs.declared.fault.CloseFault.TheVariants.{Counts, Volume, Cost}

abbrev pub refusal_of : CloseFault → Refusal
refusal_of Counts = refusal_at 1 0
refusal_of (Volume f) = reconcile_refusal_of f
refusal_of (Cost f) = reconcile_refusal_of f
