use Rattle.std.proofs.Common.{get_or, pos, ◌∙◌, rules}
use Rattle.amounts.specs.Ranges.{accounts}
use Rattle.amounts.proofs.Made.{made_by}
use Rattle.ledger.specs.Blocks.{zero_account}
use Rattle.year.specs.Outcomes.{account_with_cost, accounts_with_costs}
use Rattle.year.proofs.writing.set_accounts.Goals as goal

pub returns : goal.returns
unfolding accounts_with_costs
returns c =
    c.copy_from_slice.ensures.after
    ∙ made_by _ (λ k. account_with_cost (get_or c.args.table.now k (pos 0))) _ (λ i y q called. search rules) c.from_fn-records.result zero_account accounts c.from_fn-records.ensures.items
