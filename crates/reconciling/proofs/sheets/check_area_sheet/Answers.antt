use Rattle.reconciling.specs.Outcomes.{area_sheet_fault}
use Rattle.reconciling.specs.Sheets.{zero_row}
use Rattle.reconciling.proofs.sheets.check_area_sheet.Goals as goal

pub returns-clause-answer : goal.returns-clause-answer
unfolding area_sheet_fault
returns-clause-answer c = c.check.ensures.answer zero_row
