-- How each call extends a run, whatever it answers.
use Rattle.std.specs.Prelude.{ℕ, List, [], ◌∷◌, IfOk, Ok, Err, Result, MatchResult}
use Rattle.billing.specs.Bills.{Sources}
use Rattle.billing.specs.declared.fault.LedgerFault.{LedgerFault}
use Rattle.billing.specs.declared.fault.PostFault.{PostFault}
use Rattle.ledger.specs.Blocks.{Block}
use Rattle.reconciling.specs.declared.fault.ReconcileFault.{ReconcileFault}
use Rattle.reconciling.specs.declared.sheets.AreaRow.{AreaRow}
use Rattle.year.specs.declared.states.OpenYear.{OpenYear}
use Rattle.year.specs.declared.states.SettledYear.{SettledYear}
use Rattle.year.specs.declared.states.VolumeSettledYear.{VolumeSettledYear}
use Rattle.year.specs.Accepted.{Posted}
use Rattle.year.specs.Runs.{Run, Opened, VolumeSettled, Settled, posted_at}

-- an accepted opening begins a run, by any books and tables, with nothing posted
abbrev pub OpenBegins : Result OpenYear LedgerFault → Block → Type 0
OpenBegins r after = IfOk r (λ y. (m : Sources) → Run m (Opened y) [] after)

abbrev pub PostExtends : Sources → OpenYear → Block → List ℕ → ℕ → Result (OpenYear × ℕ) (OpenYear × PostFault) → Block → Type 0
PostExtends m y b xs p r after =
    (ps : List Posted) → Run m (Opened y) ps b →
    MatchResult r (λ s. Run m (Opened s.0) (posted_at xs p (Ok s.1) ∷ ps) after) (λ s. Run m (Opened s.0) (posted_at xs p (Err s.1) ∷ ps) after)

abbrev pub VolumeExtends : OpenYear → Block → List AreaRow → Result VolumeSettledYear (OpenYear × ReconcileFault) → Block → Type 0
VolumeExtends y b sheet r after =
    (m : Sources) (ps : List Posted) → Run m (Opened y) ps b →
    MatchResult r (λ z. Run m (VolumeSettled z sheet) ps after) (λ s. Run m (Opened s.0) ps after)

abbrev pub CostExtends : VolumeSettledYear → Block → List ℕ → ℕ → Result SettledYear (VolumeSettledYear × ReconcileFault) → Block → Type 0
CostExtends y b costs energy r after =
    (m : Sources) (ps : List Posted) (sheet : List AreaRow) → Run m (VolumeSettled y sheet) ps b →
    MatchResult r (λ z. Run m (Settled z sheet costs energy) ps after) (λ s. Run m (VolumeSettled s.0 sheet) ps after)
