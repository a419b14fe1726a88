use Rattle.std.proofs.Common.{Ok, Err, sym, ap, ◌∙◌, subst, rules}
use Rattle.std.proofs.lemmas.Result.{err_from_is_err_and}
use Rattle.billing.specs.Tables.{sources_of}
use Rattle.ledger.specs.Blocks.{block}
use Rattle.year.specs.Outcomes.{post_outcome}
use Rattle.year.specs.Promises.{Posts, open_at}
use Rattle.year.proofs.Forward.{post_forward}
use Rattle.year.proofs.Handed.{was_ok, was_err}
use Rattle.year.proofs.PostEnds.{accepts, refuses, kept_as}
use Rattle.year.proofs.Steps.{post_extends}
use Rattle.year.proofs.states.OpenYear.post.Goals as goal

pub returns-in_err-next : goal.returns-in_err-next
returns-in_err-next g c =
    let m = sources_of g.T.TariffBook.prices g.I.InfillBook.values c.args.tables.now in
    let b = block c.args.cells.now c.args.accounts.now in
    let o = post_outcome m b c.args.batch.now c.args.place in
    let after = block c.post_bill.new.cells c.args.accounts.now in
    let p = err_from_is_err_and c.from_residual.result c.from_residual.ensures.1 in
    let h = was_err c.args.self c.post_bill.result c.map_err.result _ (λ e d made. search rules) c.in_err-next.field-0.0 c.map_err.ensures.cases c.in_err-next.was in
    let refused : Posts m c.args.self b c.args.batch.now c.args.place (Err (c.args.self, c.in_err-next.field-0.0.1)) after =
    record {
      answer = refuses c.args.self o c.in_err-next.field-0.0.1 (h.1 ∙ c.post_bill.ensures.answer);
      memory = ap (λ l. block l b.accounts) c.post_bill.ensures.after ∙ kept_as b o;
    } in
    let promise : Posts m c.args.self b c.args.batch.now c.args.place c.from_residual.result after =
    subst (λ k. Posts m c.args.self b c.args.batch.now c.args.place k after) (sym (p.1 ∙ ap Err (p.2 ∙ h.0))) refused in
    record { promise = promise; run = post_extends _ promise; forward = post_forward promise }

pub returns : goal.returns
returns g c =
    let m = sources_of g.T.TariffBook.prices g.I.InfillBook.values c.args.tables.now in
    let b = block c.args.cells.now c.args.accounts.now in
    let o = post_outcome m b c.args.batch.now c.args.place in
    let is = was_ok c.post_bill.result c.map_err.result _ c.in_ok-next.next c.map_err.ensures.cases c.in_ok-next.was in
    let p : Posts m c.args.self b c.args.batch.now c.args.place (Ok (open_at c.saturating_add-accepted.result, c.in_ok-next.next)) (block c.post_bill.new.cells c.args.accounts.now) =
    record {
      answer = ap (λ k. Ok (open_at k, c.in_ok-next.next)) c.saturating_add-accepted.ensures ∙ accepts c.args.self o c.in_ok-next.next (is ∙ c.post_bill.ensures.answer);
      memory = ap (λ l. block l b.accounts) c.post_bill.ensures.after ∙ kept_as b o;
    } in
    record { promise = p; run = post_extends _ p; forward = post_forward p }
