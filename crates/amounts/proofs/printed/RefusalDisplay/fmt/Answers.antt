use Rattle.std.proofs.Common.{ap, codes, ◌++◌, ◌≡◌, append_assoc, refl}
use Rattle.std.specs.Fmt.{decimal}
use Rattle.std.proofs.Output.{has_written_append, has_written_of_eq}
use Rattle.amounts.specs.Printed.{slot_text}
use Rattle.amounts.proofs.printed.RefusalDisplay.fmt.Goals as goal

pub returns-in_ok-write-2-clause-writes : goal.returns-in_ok-write-2-clause-writes
returns-in_ok-write-2-clause-writes g c plain ok =
    let slot : slot_text c.args.self.now.slot ≡ codes ", slot " ++ decimal c.in-Some.slot = ap slot_text c.in-Some.is in
    let first = c.in_ok-write.ensures.writes plain refl in
    has_written_of_eq _ _ _ _ _ (rw slot (simp append_assoc)) (has_written_append _ _ _ _ _ _ first (c.in_ok-write-2.ensures.writes first.plain refl))
