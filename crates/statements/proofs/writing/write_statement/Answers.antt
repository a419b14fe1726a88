-- Where nothing is refused, the statement's bytes are at the place, and are read back.
use Rattle.std.proofs.Common.{◌≡◌, ℕ, ◌+◌, ◌≤◌, Bool, true, cond, ◌&&◌, List, length, take, drop, sym, ap, ◌∙◌, rules, leb-true}
use Rattle.amounts.specs.Ranges.{account_exists}
use Rattle.statements.specs.Layout.{statement_size}
use Rattle.statements.specs.Outcomes.{has_room, statement_written, statement_read}
use Rattle.statements.proofs.Written.{put_statement, before_stays, behind_stays, reads_back}
use Rattle.statements.proofs.writing.write_statement.Goals as goal

pub returns : goal.returns
returns c =
    let s = c.args.statement.now in
    let bs = c.args.buffer.now in
    let place = c.args.place in
    let exists : account_exists s.account ≡ true = sym c.if-not-account_exists.ensures in
    let has : has_room (length bs) place ≡ true = sym c.if-not-has_room.ensures in
    let room : place + statement_size ≤ length bs = leb-true (place + statement_size) (length bs) has in
    let fits = c.write_parts.ensures.fits in
    let written = put_statement s bs place room c.write_parts.new.tail c.write_parts.ensures.after in
    record {
      answer = search rules;
      after = written ∙ sym (ap (λ (b : Bool). cond b (statement_written s bs place) bs) (ap (λ (b : Bool). b && has_room (length bs) place) exists ∙ has));
      read_back = ap (λ (ys : List ℕ). statement_read ys place) written ∙ reads_back s bs place room fits exists;
      outside = (ap (take place) written ∙ before_stays s bs place room, ap (drop (place + statement_size)) written ∙ behind_stays s bs place room fits);
      refused = λ h. cc;
    }
