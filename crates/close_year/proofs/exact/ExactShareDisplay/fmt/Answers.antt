use Rattle.std.proofs.Common.{◌≡◌, ◌++◌, List, ℕ, Bor, codes, refl, sym, ap, ◌∙◌}
use Rattle.std.specs.Fmt.{decimal}
use Rattle.std.proofs.lemmas.Bool.{cond-true, cond-false}
use Rattle.std.proofs.Output.{has_written_of_eq}
use Rattle.close_year.specs.Exact.{sign_text}
use Rattle.close_year.proofs.exact.ExactShareDisplay.fmt.Goals.{then-is_negative, else-is_negative}
use Rattle.close_year.proofs.exact.ExactShareDisplay.fmt.Goals as goal

pub returns-clause-writes : goal.returns-clause-writes
returns-clause-writes g c plain ok =
    let share = c.args.self.now in
    let sign : c.if-is_negative.sign.now ≡ sign_text share.amount =
    elim c.if-is_negative.branch [ then-is_negative w ↦ ap (λ (s : Bor (List ℕ)). s.now) w.sign-is ∙ sym (cond-true _ _ _ (sym c.is_negative.ensures ∙ w.if-is_negative.true)) | else-is_negative w ↦ ap (λ (s : Bor (List ℕ)). s.now) w.sign-is ∙ sym (cond-false _ _ _ (sym c.is_negative.ensures ∙ w.if-is_negative.false)) ] in
    has_written_of_eq _ _ _ _ _ (ap (λ s. s ++ (decimal share.quotient ++ (codes " " ++ (decimal share.remainder ++ (codes "/" ++ decimal share.total))))) sign) (c.write.ensures.writes plain ok)
