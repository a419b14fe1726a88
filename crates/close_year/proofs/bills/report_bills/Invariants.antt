-- The next record begins further on.
use Rattle.std.proofs.Common.{length, ◌-◌}
use Rattle.close_year.proofs.bills.report_bills.Given as goal

abbrev pub decreases-loop-place : goal.decreases-loop-place
decreases-loop-place g l = length l.batch - l.place
