-- The refusal that the fault table has for a figure of a book.
use Rattle.amounts.specs.Refusals.{refusal_at}
use Rattle.amounts.specs.declared.refusal.Refusal.{Refusal}
use Rattle.books.specs.declared.fault.FigureFault.{FigureFault}
use Rattle.books.specs.declared.fault.FigureFault.TheVariants.{OutOfRange}

abbrev pub refusal_of : FigureFault → Refusal
refusal_of OutOfRange = refusal_at 19 0
