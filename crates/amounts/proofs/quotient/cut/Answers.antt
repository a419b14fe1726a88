use Rattle.std.proofs.Common.{◌≡◌, pos, sym, ap, ◌∙◌, subst, ap₂, arith, w64, to_z}
use lib.Signed.{quot_z}
use Rattle.std.proofs.lemmas.Int.{to_z-of_z, to_z_pos}
use Rattle.amounts.specs.Quotients.{Cut, quotient_cut}
use Rattle.amounts.proofs.Signed.{read_back}
use Rattle.amounts.proofs.Quotients.{quot_z_cut, cut_law, cut_only}
use Rattle.amounts.proofs.quotient.cut.Goals as goal

pub returns : goal.returns
returns c =
    let z = c.args.amount in
    let d = c.args.divisor.value in
    let right : to_z w64 c.get.result ≡ pos d = to_z_pos w64 c.get.result (omega arith) ∙ ap pos c.get.ensures in
    let machine : c.truncated.result ≡ quotient_cut z d = c.truncated.ensures ∙ ap₂ quot_z (to_z-of_z w64 z c.ranges.amount) right ∙ quot_z_cut z d in
    let value = read_back c.truncated.result c.truncated.type_inv ∙ machine in
    let law = subst (Cut z d) (sym value) (cut_law z d c.args.divisor.positive) in
    record { cut = law; only = λ s p. cut_only z s _ d p law; value = value }
