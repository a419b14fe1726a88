use Rattle.std.proofs.Common.{cond, Err, sym, ap, ◌∙◌}
use Rattle.std.proofs.lemmas.Result.{err_from_is_err_and}
use Rattle.billing.specs.Tables.{sources_of}
use Rattle.billing.specs.declared.fault.LedgerFault.TheVariants as ledger
use Rattle.billing.specs.declared.fault.PostFault.TheVariants as post
use Rattle.ledger.specs.Blocks.{block}
use Rattle.ledger.proofs.Soundness.{sound_facts}
use Rattle.year.specs.Outcomes.{with_bill}
use Rattle.year.proofs.Bills.{bill_in_range}
use Rattle.year.proofs.PostEnds.{refused_by, accepted_by, fits, unsound_ends, not_billed, not_entered, entered}
use Rattle.year.proofs.posting.post_bill.Goals as goal

pub returns-then-not-block_is_sound : goal.returns-then-not-block_is_sound
returns-then-not-block_is_sound g c =
    let m = sources_of g.T.TariffBook.prices g.I.InfillBook.values c.args.tables.now in
    let e = unsound_ends m c.args.cells.now c.args.accounts.now c.args.batch.now c.args.place (sym c.block_is_sound.ensures.answer ∙ c.if-not-block_is_sound.true) in
    record { answer = ap Err c.from.ensures ∙ e.0; after = e.1 }

pub returns-in_err-bill : goal.returns-in_err-bill
returns-in_err-bill g c =
    let m = sources_of g.T.TariffBook.prices g.I.InfillBook.values c.args.tables.now in
    let on = sym c.block_is_sound.ensures.answer ∙ c.if-not-block_is_sound.false in
    let p = err_from_is_err_and c.from_residual.result c.from_residual.ensures.1 in
    let e = not_billed m c.args.cells.now c.args.accounts.now c.args.batch.now c.args.place on c.in_err-bill.field-0.0 c.in_err-bill.ensures.answer in
    record { answer = p.1 ∙ ap Err p.2 ∙ e.0; after = e.1 }

pub enter-requires : goal.enter-requires
enter-requires g c =
    let m = sources_of g.T.TariffBook.prices g.I.InfillBook.values c.args.tables.now in
    let on = sym c.block_is_sound.ensures.answer ∙ c.if-not-block_is_sound.false in
    let r = bill_in_range m c.args.batch.now c.args.place c.in_ok-bill.bill (sym c.in_ok-bill.ensures.answer) in
    record { count = (sound_facts (block c.args.cells.now c.args.accounts.now) on).cells.count; account = r.account; area = r.area }

pub returns-in_err-enter : goal.returns-in_err-enter
returns-in_err-enter g c =
    let m = sources_of g.T.TariffBook.prices g.I.InfillBook.values c.args.tables.now in
    let on = sym c.block_is_sound.ensures.answer ∙ c.if-not-block_is_sound.false in
    let cells = c.args.cells.now in
    let bill = c.in_ok-bill.bill in
    let p = err_from_is_err_and c.from_residual-in_err-enter.result c.from_residual-in_err-enter.ensures.1 in
    let t = fits m cells c.args.accounts.now c.args.batch.now c.args.place on bill c.in_ok-bill.ensures.answer in
    let h = refused_by t (ledger.SumBeyondLimit c.args.place bill.next) c.in_err-enter.field-0.0 c.in_err-enter.ensures.answer in
    let e = not_entered m cells c.args.accounts.now c.args.batch.now c.args.place on bill c.in_ok-bill.ensures.answer h.0 in
    record {
      answer = p.1 ∙ ap Err p.2 ∙ ap (λ f. Err (post.Ledger f)) h.1 ∙ e.0;
      after = c.enter.ensures.after ∙ ap (λ b. cond b (with_bill cells bill) cells) h.0 ∙ e.1;
    }

pub returns : goal.returns
returns g c =
    let m = sources_of g.T.TariffBook.prices g.I.InfillBook.values c.args.tables.now in
    let on = sym c.block_is_sound.ensures.answer ∙ c.if-not-block_is_sound.false in
    let cells = c.args.cells.now in
    let bill = c.in_ok-bill.bill in
    let t = fits m cells c.args.accounts.now c.args.batch.now c.args.place on bill c.in_ok-bill.ensures.answer in
    let h = accepted_by t (ledger.SumBeyondLimit c.args.place bill.next) c.in_ok-enter.field-0 c.in_ok-enter.ensures.answer in
    let e = entered m cells c.args.accounts.now c.args.batch.now c.args.place on bill c.in_ok-bill.ensures.answer h in
    record { answer = e.0; after = c.enter.ensures.after ∙ ap (λ b. cond b (with_bill cells bill) cells) h ∙ e.1 }
