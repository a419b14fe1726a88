-- The runs: what a sequence of calls on one block has posted, where it stands, and what the block then holds.
use Rattle.std.specs.Prelude.{ℕ, List, [], ◌∷◌, Ok, Err, Result}
use Rattle.billing.specs.Bills.{Sources}
use Rattle.billing.specs.declared.fault.PostFault.{PostFault}
use Rattle.ledger.specs.Blocks.{Block}
use Rattle.reconciling.specs.declared.fault.ReconcileFault.{ReconcileFault}
use Rattle.reconciling.specs.declared.sheets.AreaRow.{AreaRow}
use Rattle.records.specs.Laws.{own_bytes}
use Rattle.year.specs.declared.states.OpenYear.{OpenYear}
use Rattle.year.specs.declared.states.SettledYear.{SettledYear}
use Rattle.year.specs.declared.states.VolumeSettledYear.{VolumeSettledYear}
use Rattle.year.specs.Accepted.{Posted}
use Rattle.year.specs.Promises.{Opens, Posts, ReconcilesVolume, ReconcilesCost}

-- where a run is: the state in hand, with the sheets that were accepted
pub data Stage : Type 0 where
  Opened : OpenYear → Stage
  VolumeSettled : VolumeSettledYear → List AreaRow → Stage
  Settled : SettledYear → List AreaRow → List ℕ → ℕ → Stage

-- the record at p of a batch, and the answer of its post
abbrev pub posted_at : List ℕ → ℕ → Result ℕ PostFault → Posted
posted_at xs p r = record { bytes = own_bytes xs p; answer = r }

-- Each step is one call, with exactly what that call promises, and the posts are listed with the last one first.
pub data Run (m : Sources) : Stage → List Posted → Block → Type 0 where
  opened : {y : OpenYear} {b after : Block} → Opens b (Ok y) after → Run m (Opened y) [] after
  posted : {y z : OpenYear} {ps : List Posted} {b after : Block} {xs : List ℕ} {p next : ℕ} → Run m (Opened y) ps b → Posts m y b xs p (Ok (z, next)) after → Run m (Opened z) (posted_at xs p (Ok next) ∷ ps) after
  post_refused : {y z : OpenYear} {ps : List Posted} {b after : Block} {xs : List ℕ} {p : ℕ} {f : PostFault} → Run m (Opened y) ps b → Posts m y b xs p (Err (z, f)) after → Run m (Opened z) (posted_at xs p (Err f) ∷ ps) after
  volume_reconciled : {y : OpenYear} {z : VolumeSettledYear} {ps : List Posted} {b after : Block} {sheet : List AreaRow} → Run m (Opened y) ps b → ReconcilesVolume y b sheet (Ok z) after → Run m (VolumeSettled z sheet) ps after
  volume_refused : {y z : OpenYear} {ps : List Posted} {b after : Block} {sheet : List AreaRow} {f : ReconcileFault} → Run m (Opened y) ps b → ReconcilesVolume y b sheet (Err (z, f)) after → Run m (Opened z) ps after
  cost_reconciled : {y : VolumeSettledYear} {z : SettledYear} {ps : List Posted} {b after : Block} {sheet : List AreaRow} {costs : List ℕ} {energy : ℕ} → Run m (VolumeSettled y sheet) ps b → ReconcilesCost y b costs energy (Ok z) after → Run m (Settled z sheet costs energy) ps after
  cost_refused : {y z : VolumeSettledYear} {ps : List Posted} {b after : Block} {sheet : List AreaRow} {costs : List ℕ} {energy : ℕ} {f : ReconcileFault} → Run m (VolumeSettled y sheet) ps b → ReconcilesCost y b costs energy (Err (z, f)) after → Run m (VolumeSettled z sheet) ps after
