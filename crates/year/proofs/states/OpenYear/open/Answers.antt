use Rattle.std.proofs.Common.{length, replicate, Ok, sym, ap, ◌∙◌, ap₂}
use Rattle.amounts.specs.Ranges.{accounts}
use Rattle.ledger.specs.Blocks.{block, cleared, cell_count, zero_cell, zero_account}
use Rattle.ledger.specs.Limits.{counts_right}
use Rattle.std.proofs.lemmas.Bool.{cond-true, and_parts, eqb-true}
use Rattle.year.specs.Promises.{Opens, open_at}
use Rattle.year.proofs.Steps.{open_begins}
use Rattle.year.proofs.states.OpenYear.open.Goals as goal

pub returns : goal.returns
unfolding cleared counts_right
returns c =
    let b = block c.args.cells.now c.args.accounts.now in
    let right = sym c.if-not-counts_are_right.ensures in
    let cells = c.clear.ensures.cells ∙ ap (λ n. replicate n zero_cell) (eqb-true (length c.args.cells.now) cell_count (and_parts _ _ right).0) in
    let records = c.clear.ensures.accounts ∙ ap (λ n. replicate n zero_account) (eqb-true (length c.args.accounts.now) accounts (and_parts _ _ right).1) in
    let p : Opens b (Ok (open_at 0)) (block c.clear.new.cells c.clear.new.accounts) = record {
      answer = sym (cond-true (counts_right b) _ _ right);
      memory = ap₂ block cells records ∙ sym (cond-true (counts_right b) cleared b right);
    } in
    record { promise = p; run = open_begins _ p }
