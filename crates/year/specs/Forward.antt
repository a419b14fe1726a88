-- Posting goes forward in a batch.
use Rattle.std.specs.Prelude.{ℕ, ◌<◌, ◌≤◌, Ok, Err, Result}
use Rattle.billing.specs.Faults.{refusal_of}
use Rattle.billing.specs.declared.fault.PostFault.{PostFault}
use Rattle.records.specs.Laws.{Ahead}
use Rattle.year.specs.declared.states.OpenYear.{OpenYear}

-- after the record at p the next one begins further on in a batch of z bytes; where it was refused the next one does so, if there may be one
abbrev pub PostGoesForward : ℕ → ℕ → Result (OpenYear × ℕ) (OpenYear × PostFault) → Type 0
PostGoesForward z p (Ok s) = (p < s.1) × (s.1 ≤ z)
PostGoesForward z p (Err s) = Ahead z p (refusal_of s.1).next
