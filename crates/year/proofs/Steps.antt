-- Each call extends a run by what it promises.
use Rattle.std.proofs.Common.{ℕ, List, Ok, Err, Result}
use Rattle.billing.specs.Bills.{Sources}
use Rattle.billing.specs.declared.fault.LedgerFault.{LedgerFault}
use Rattle.billing.specs.declared.fault.PostFault.{PostFault}
use Rattle.ledger.specs.Blocks.{Block}
use Rattle.reconciling.specs.declared.fault.ReconcileFault.{ReconcileFault}
use Rattle.reconciling.specs.declared.sheets.AreaRow.{AreaRow}
use Rattle.year.specs.declared.states.OpenYear.{OpenYear}
use Rattle.year.specs.declared.states.SettledYear.{SettledYear}
use Rattle.year.specs.declared.states.VolumeSettledYear.{VolumeSettledYear}
use Rattle.year.specs.Promises.{Opens, Posts, ReconcilesVolume, ReconcilesCost}
use Rattle.year.specs.Runs.{opened, posted, post_refused, volume_reconciled, volume_refused, cost_reconciled, cost_refused}
use Rattle.year.specs.Steps.{OpenBegins, PostExtends, VolumeExtends, CostExtends}

pub open_begins : {b after : Block} (r : Result OpenYear LedgerFault) → Opens b r after → OpenBegins r after
open_begins (Ok y) p = λ m. opened p
open_begins (Err f) p = tt

pub post_extends : {m : Sources} {y : OpenYear} {b after : Block} {xs : List ℕ} {p : ℕ} (r : Result (OpenYear × ℕ) (OpenYear × PostFault)) → Posts m y b xs p r after → PostExtends m y b xs p r after
post_extends (Ok s) h = λ ps run. posted {z = s.0} {next = s.1} run h
post_extends (Err s) h = λ ps run. post_refused {z = s.0} {f = s.1} run h

pub volume_extends : {y : OpenYear} {b after : Block} {sheet : List AreaRow} (r : Result VolumeSettledYear (OpenYear × ReconcileFault)) → ReconcilesVolume y b sheet r after → VolumeExtends y b sheet r after
volume_extends (Ok z) h = λ m ps run. volume_reconciled run h
volume_extends (Err s) h = λ m ps run. volume_refused {z = s.0} {f = s.1} run h

pub cost_extends : {y : VolumeSettledYear} {b after : Block} {costs : List ℕ} {energy : ℕ} (r : Result SettledYear (VolumeSettledYear × ReconcileFault)) → ReconcilesCost y b costs energy r after → CostExtends y b costs energy r after
cost_extends (Ok z) h = λ m ps sheet run. cost_reconciled run h
cost_extends (Err s) h = λ m ps sheet run. cost_refused {z = s.0} {f = s.1} run h
