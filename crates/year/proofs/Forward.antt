-- A post goes forward, since billing does.
use Rattle.std.proofs.Common.{ℕ, List, length, Ok, Err, Result, sym, subst}
use Rattle.std.proofs.lemmas.Bool.{cond_both}
use Rattle.billing.specs.Bills.{Sources, bill_at}
use Rattle.billing.specs.Laws.{GoesForward}
use Rattle.billing.specs.declared.bill.Bill.{Bill}
use Rattle.billing.specs.declared.fault.LedgerFault.TheVariants as ledger
use Rattle.billing.specs.declared.fault.PostFault.{PostFault}
use Rattle.billing.specs.declared.fault.PostFault.TheVariants as post
use Rattle.billing.proofs.Forward.{bill_forward}
use Rattle.ledger.specs.Adding.{added}
use Rattle.ledger.specs.Blocks.{Block, cell_at}
use Rattle.ledger.specs.Limits.{sound, sums_within}
use Rattle.ledger.specs.declared.block.Cell.{Cell}
use Rattle.year.specs.declared.states.OpenYear.{OpenYear}
use Rattle.year.specs.Forward.{PostGoesForward}
use Rattle.year.specs.Outcomes.{within_cell, post_outcome}
use Rattle.year.specs.Promises.{post_answer, Posts}

-- a bill that would go beyond a limit of its cell is refused with the same next record
cell_forward : (z : ℕ) (cells : List Cell) (p : ℕ) (r : Result Bill PostFault) → GoesForward z p r → GoesForward z p (within_cell cells p r)
cell_forward z cells p (Ok b) h = cond_both (sums_within (added (cell_at cells b.account b.area).sums b)) (Ok b) (Err (post.Ledger (ledger.SumBeyondLimit p b.next))) (GoesForward z p) (λ _. h) (λ _. h)
cell_forward z cells p (Err f) h = h

outcome_forward : (m : Sources) (b : Block) (xs : List ℕ) (p : ℕ) → GoesForward (length xs) p (post_outcome m b xs p)
unfolding post_outcome
outcome_forward m b xs p = cond_both (sound b) (within_cell b.cells p (bill_at m xs p)) (Err (post.Ledger ledger.Block)) (GoesForward (length xs) p) (λ _. cell_forward (length xs) b.cells p (bill_at m xs p) (bill_forward m xs p)) (λ _. tt)

answer_forward : (z p : ℕ) (y : OpenYear) (r : Result Bill PostFault) → GoesForward z p r → PostGoesForward z p (post_answer y r)
answer_forward z p y (Ok b) h = h
answer_forward z p y (Err f) h = h

pub post_forward : {m : Sources} {y : OpenYear} {b after : Block} {xs : List ℕ} {p : ℕ} {r : Result (OpenYear × ℕ) (OpenYear × PostFault)} → Posts m y b xs p r after → PostGoesForward (length xs) p r
post_forward {m} {y} {b} {after} {xs} {p} h = subst (PostGoesForward (length xs) p) (sym h.answer) (answer_forward (length xs) p y (post_outcome m b xs p) (outcome_forward m b xs p))
