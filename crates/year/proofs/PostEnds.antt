-- How a post ends, by its steps: o is what billing the record at p answers.
use Rattle.std.proofs.Common.{◌≡◌, ℕ, Bool, true, false, cond, List, Ok, Err, Result, sym, refl, ap, ◌∙◌}
use Rattle.std.proofs.lemmas.Bool.{cond-true, cond-false}
use Rattle.billing.specs.Bills.{Sources, bill_at}
use Rattle.billing.specs.declared.bill.Bill.{Bill}
use Rattle.billing.specs.declared.fault.LedgerFault.{LedgerFault}
use Rattle.billing.specs.declared.fault.LedgerFault.TheVariants as ledger
use Rattle.billing.specs.declared.fault.PostFault.{PostFault}
use Rattle.billing.specs.declared.fault.PostFault.TheVariants as post
use Rattle.ledger.specs.Adding.{added}
use Rattle.ledger.specs.Blocks.{Block, block, cell_at}
use Rattle.ledger.specs.Limits.{sound, sums_within}
use Rattle.ledger.specs.declared.block.AccountRecord.{AccountRecord}
use Rattle.ledger.specs.declared.block.Cell.{Cell}
use Rattle.year.specs.declared.states.OpenYear.{OpenYear}
use Rattle.year.specs.Outcomes.{with_bill, within_cell, next_of, cells_after, post_outcome, post_memory}
use Rattle.year.specs.Promises.{post_answer, open_at, one_more}
use Rattle.year.proofs.Outcomes.{accepted_refused}

-- ---- what an answer by a test says of the test
pub refused_by : (t : Bool) (s e : LedgerFault) → ◌≡◌ {A = Result (Unit {0}) LedgerFault} (Err e) (cond t (Ok tt) (Err s)) → (t ≡ false) × (e ≡ s)
refused_by true s e h = accepted_refused tt e (sym h)
refused_by false s e h = (refl, cc)

pub accepted_by : (t : Bool) (s : LedgerFault) (u : Unit {0}) → ◌≡◌ {A = Result (Unit {0}) LedgerFault} (Ok u) (cond t (Ok tt) (Err s)) → t ≡ true
accepted_by true s u h = refl
accepted_by false s u h = accepted_refused u s h

-- ---- billing the record at p
module _ (m : Sources) (cells : List Cell) (rows : List AccountRecord) (xs : List ℕ) (p : ℕ) where
  abbrev b : Block
  b = block cells rows

  abbrev outcome : Result Bill PostFault
  outcome = post_outcome m b xs p

  abbrev pub Ends : Result ℕ PostFault → List Cell → Type 0
  Ends r after = (r ≡ next_of outcome) × (after ≡ cells_after cells outcome)

  ends_by : (x : Result Bill PostFault) → outcome ≡ x → Ends (next_of x) (cells_after cells x)
  ends_by x is = (ap next_of (sym is), ap (cells_after cells) (sym is))

  pub unsound_ends : sound b ≡ false → Ends (Err (post.Ledger ledger.Block)) cells
  unfolding post_outcome cells_after
  unsound_ends e = ends_by (Err (post.Ledger ledger.Block)) (cond-false (sound b) _ _ e)

  module _ (on : sound b ≡ true) where
    outcome_is : outcome ≡ within_cell cells p (bill_at m xs p)
    unfolding post_outcome
    outcome_is = cond-true (sound b) (within_cell cells p (bill_at m xs p)) (Err (post.Ledger ledger.Block)) on

    pub not_billed : (f : PostFault) → Err f ≡ bill_at m xs p → Ends (Err f) cells
    unfolding cells_after
    not_billed f e = ends_by (Err f) (outcome_is ∙ ap (within_cell cells p) (sym e))

    module _ (bill : Bill) (is : Ok bill ≡ bill_at m xs p) where
      abbrev fault : PostFault
      fault = post.Ledger (ledger.SumBeyondLimit p bill.next)

      abbrev pub fits : Bool
      fits = sums_within (added (cell_at cells bill.account bill.area).sums bill)

      by_test : (t : Bool) → fits ≡ t → outcome ≡ cond t (Ok bill) (Err fault)
      by_test t e = outcome_is ∙ ap (within_cell cells p) (sym is) ∙ ap (λ x. cond x (Ok bill) (Err fault)) e

      pub not_entered : fits ≡ false → Ends (Err fault) cells
      unfolding cells_after
      not_entered e = ends_by (Err fault) (by_test false e)

      pub entered : fits ≡ true → Ends (Ok bill.next) (with_bill cells bill)
      unfolding cells_after
      entered e = ends_by (Ok bill) (by_test true e)

-- ---- the post of a year, by what billing the record made of the block
module _ (y : OpenYear) where
  pub accepts : (o : Result Bill PostFault) (n : ℕ) → Ok n ≡ next_of o → Ok (open_at (one_more y.accepted), n) ≡ post_answer y o
  accepts (Ok x) n e = let h : n ≡ x.next = cc in ap (λ k. Ok (open_at (one_more y.accepted), k)) h
  accepts (Err f) n e = accepted_refused n f e

  pub refuses : (o : Result Bill PostFault) (f : PostFault) → Err f ≡ next_of o → Err (y, f) ≡ post_answer y o
  refuses (Ok x) f e = accepted_refused x.next f (sym e)
  refuses (Err g) f e = let h : f ≡ g = cc in ap (λ k. Err (y, k)) h

pub kept_as : (b : Block) (o : Result Bill PostFault) → block (cells_after b.cells o) b.accounts ≡ post_memory b o
unfolding post_memory cells_after
kept_as b (Ok x) = refl
kept_as b (Err f) = refl
