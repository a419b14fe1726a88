-- The buffer after a statement was written: what it is, that it is read back, and that the rest stays.
use Rattle.std.proofs.Common.{◌≡◌, ℕ, ◌+◌, ◌-◌, ◌≤◌, true, List, ◌++◌, length, take, drop, Ok, sym, ap, ◌∙◌, arith, le-leb}
use borrow.Rule.Slice.PartMut.{put_mid}
use Rattle.std.proofs.lemmas.List.{append_assoc, length-append, length-drop, length-take-le, take-append-drop, take_at, drop_at, drop-drop}
use Rattle.amounts.specs.Ranges.{account_exists}
use Rattle.statements.specs.declared.statement.Statement.{Statement}
use Rattle.statements.specs.Layout.{statement_bytes, statement_size}
use Rattle.statements.specs.Outcomes.{has_room, statement_written, statement_read}
use Rattle.statements.specs.Fits.{StatementFits}
use Rattle.statements.proofs.Parts.{length_statement_bytes}
use Rattle.statements.proofs.ReadBack.{statement_here}
use Rattle.statements.proofs.Tails.{put_after}

module _ (s : Statement) (bs : List ℕ) (place : ℕ) (room : place + statement_size ≤ length bs) where
  front_long : length (take place bs) ≡ place
  front_long = length-take-le place bs (omega arith)

  pub put_statement : (last : List ℕ) → last ≡ statement_bytes s ++ drop statement_size (take (length bs - place) (drop place bs)) → put_mid place (length bs - place) bs last ≡ statement_written s bs place
  put_statement last last_is =
      put_after place statement_size bs (take place bs) (drop place bs) (statement_bytes s) last (sym (take-append-drop place bs)) front_long last_is
      ∙ append_assoc (take place bs) (statement_bytes s) (drop statement_size (drop place bs))
      ∙ ap (λ (ys : List ℕ). take place bs ++ (statement_bytes s ++ ys)) (drop-drop statement_size place bs)

  here : drop place (statement_written s bs place) ≡ statement_bytes s ++ drop (place + statement_size) bs
  here = drop_at (take place bs) (statement_bytes s ++ drop (place + statement_size) bs) place front_long

  pub before_stays : take place (statement_written s bs place) ≡ take place bs
  before_stays = take_at (take place bs) (statement_bytes s ++ drop (place + statement_size) bs) place front_long

  module _ (fits : StatementFits s) where
    statement_long : length (statement_bytes s) ≡ statement_size
    statement_long = length_statement_bytes s fits.long

    pub behind_stays : drop (place + statement_size) (statement_written s bs place) ≡ drop (place + statement_size) bs
    behind_stays =
        sym (drop-drop statement_size place (statement_written s bs place))
        ∙ ap (drop statement_size) here
        ∙ drop_at (statement_bytes s) (drop (place + statement_size) bs) statement_size statement_long

    written_long : length (statement_written s bs place) ≡ length bs
    written_long =
        length-append (take place bs) (statement_bytes s ++ drop (place + statement_size) bs)
        ∙ omega (arith, front_long, length-append (statement_bytes s) (drop (place + statement_size) bs), statement_long, length-drop (place + statement_size) bs)

    pub reads_back : account_exists s.account ≡ true → statement_read (statement_written s bs place) place ≡ Ok s
    unfolding statement_read
    reads_back exists =
        let whole : has_room (length (statement_written s bs place)) place ≡ true = le-leb _ _ (omega (arith, written_long)) in
        let is = statement_here (statement_written s bs place) place s (drop (place + statement_size) bs) fits here in
        rw (whole, is, exists)
