use Rattle.std.proofs.Common.{◌≡◌}
use Rattle.close_year.specs.Bills.{billed}
use Rattle.close_year.proofs.reconcile.total_billed.Given as goal

abbrev pub invariant-loop-bill : goal.invariant-loop-bill
invariant-loop-bill l = l.total ≡ billed l.bills l.bill-index
