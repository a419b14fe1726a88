use Rattle.std.proofs.Common.{◌∙◌, rules}
use Rattle.std.proofs.lemmas.Iterator.{YieldsList-from_slice}
use Rattle.sharing.proofs.Lines.{rising_tried}
use Rattle.sharing.proofs.checks.accounts_rise.Goals as goal

pub returns : goal.returns
returns g c =
    c.is_some.ensures
    ∙ rising_tried _ g.L.AccountLine.account _ _ (λ low x r q h. search rules) c.args.lines.now c.iter.result _ 0 c.try_fold.result (YieldsList-from_slice c.args.lines.now cc) c.try_fold.ensures.ran
