-- What writing and reading a statement answer, and what the buffer holds afterwards.
use Rattle.std.specs.Prelude.{◌≡◌, ℕ, ◌+◌, Bool, cond, ◌&&◌, List, ◌++◌, length, take, drop, Ok, Err, Result, nat_le}
use Rattle.amounts.specs.Ranges.{account_exists}
use Rattle.statements.specs.declared.fault.StatementFault.{StatementFault}
use Rattle.statements.specs.declared.fault.StatementFault.TheVariants as writing
use Rattle.statements.specs.declared.fault.ReadStatementFault.{ReadStatementFault}
use Rattle.statements.specs.declared.fault.ReadStatementFault.TheVariants as reading
use Rattle.statements.specs.declared.statement.Statement.{Statement}
use Rattle.statements.specs.Layout.{statement_bytes, statement_size, statement_at}

-- a statement fits between the place and the end of so many bytes
abbrev pub has_room : ℕ → ℕ → Bool
has_room len place = nat_le (place + statement_size) len

-- the checks of writing, in the order of the fault table
abbrev pub write_outcome : Statement → ℕ → ℕ → Result (Unit {0}) StatementFault
write_outcome s len place = cond (account_exists s.account) (cond (has_room len place) (Ok tt) (Err writing.TooFewBytes)) (Err writing.NoSuchAccount)

-- no check refuses
abbrev pub accepted : Statement → ℕ → ℕ → Bool
accepted s len place = account_exists s.account && has_room len place

-- the buffer with the bytes from the place on replaced by the statement's
abbrev pub statement_written : Statement → List ℕ → ℕ → List ℕ
statement_written s bs place = take place bs ++ (statement_bytes s ++ drop (place + statement_size) bs)

-- a refusal leaves the buffer as it was
abbrev pub buffer_after : Statement → List ℕ → ℕ → List ℕ
buffer_after s bs place = cond (accepted s (length bs) place) (statement_written s bs place) bs

-- two buffers agree before the place, and behind a statement there
abbrev pub SameOutside : ℕ → List ℕ → List ℕ → Type 0
SameOutside place before after = (take place after ≡ take place before) × (drop (place + statement_size) after ≡ drop (place + statement_size) before)

-- reading a statement at a place
unfoldable pub statement_read : List ℕ → ℕ → Result Statement ReadStatementFault
statement_read bs place = cond (has_room (length bs) place) (cond (account_exists (statement_at bs place).account) (Ok (statement_at bs place)) (Err reading.NoSuchAccount)) (Err reading.Incomplete)
