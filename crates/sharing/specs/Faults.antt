-- The refusal that the fault table has for each fault of a sharing.
use Rattle.amounts.specs.Refusals.{refusal_at}
use Rattle.amounts.specs.declared.refusal.Refusal.{Refusal}
use Rattle.sharing.specs.declared.fault.ShareFault.{ShareFault}
use Rattle.sharing.specs.declared.fault.ShareFault.TheVariants.{BeyondLimits, Accounts, TooFewPlaces}

abbrev pub refusal_of : ShareFault → Refusal
refusal_of BeyondLimits = refusal_at 18 0
refusal_of Accounts = refusal_at 22 0
refusal_of TooFewPlaces = refusal_at 23 0
