-- The year's promise, from what a cost reconciliation promises.
use Rattle.std.proofs.Common.{ℕ, List, Ok, Err, Result}
use Rattle.ledger.specs.Blocks.{Block}
use Rattle.reconciling.specs.declared.fault.ReconcileFault.{ReconcileFault}
use Rattle.year.specs.declared.states.SettledYear.{SettledYear}
use Rattle.year.specs.declared.states.VolumeSettledYear.{VolumeSettledYear}
use Rattle.year.specs.Accepted.{accepted, sums_of}
use Rattle.year.specs.Promises.{ReconcilesCost}
use Rattle.year.specs.Runs.{cost_reconciled}
use Rattle.year.specs.Settlements.{YearSettles}
use Rattle.year.proofs.Order.{ends_alike}
use Rattle.year.proofs.Settled.{run_sums, run_volumes, run_deliveries, run_energies}
use Rattle.year.proofs.Totals.{reconciled}

pub year_settles : {y : VolumeSettledYear} {b after : Block} {costs : List ℕ} {energy : ℕ} (r : Result SettledYear (VolumeSettledYear × ReconcileFault)) → ReconcilesCost y b costs energy r after → YearSettles y b costs energy r after
year_settles {after = after} {costs = costs} {energy = energy} (Ok z) p = λ m posts sheet run.
    let settled = cost_reconciled run p in
    record {
      reconciled = reconciled (sums_of m (accepted posts)) sheet costs energy after (run_sums settled) (run_volumes settled) (run_deliveries settled) (run_energies settled);
      order = ends_alike settled;
    }
year_settles (Err s) p = λ m posts sheet run. tt
