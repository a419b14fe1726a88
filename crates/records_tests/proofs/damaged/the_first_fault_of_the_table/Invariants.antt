use Rattle.std.proofs.Common.{◌≡◌, length}
use Rattle.records_tests.proofs.damaged.the_first_fault_of_the_table.Given as goal

abbrev pub invariant-loop-change : goal.invariant-loop-change
invariant-loop-change g l = length l.«record» ≡ 32
