use Rattle.std.proofs.Common.{◌≡◌, ◌<◌, not, length, get_or, sym, refl, ap, ◌∙◌, subst, arith}
use Rattle.std.proofs.lemmas.List.FromFn.{get_or-map-range_with_len}
use Rattle.amounts.specs.Lowest.{lowest}
use Rattle.amounts.specs.Ranges.{accounts, areas}
use Rattle.ledger.specs.Blocks.{cell_count}
use Rattle.amounts.proofs.Lowest.{lowest_hit}
use Rattle.reconciling.proofs.Checks.{AllPass, all_pass_more, some_if, none_if}
use Rattle.reconciling.proofs.Tables.{Columns, columns_start, columns_more, columns_all}
use Rattle.reconciling.proofs.columns.write_columns.Goals as goal

pub loop-index-init : goal.loop-index-init
unfolding lowest
loop-index-init g c =
    let count : length c.args.table.now ≡ cell_count = omega (arith, c.told-table) in
    record { count = count; written = λ passes entry by. (refl, columns_start entry (entry 0 0) c.args.table.now count) }

pub loop-index-preserved : goal.loop-index-preserved
loop-index-preserved g c = record {
  count = c.write_column.ensures.count;
  written = λ passes entry by.
      let i = c.loop-index.index in
      let here : i < areas = omega arith in
      let so_far = c.loop-index.invariant.written passes entry by in
      let found = some_if (passes i) c.in-Some.column _ (sym c.in-Some.is ∙ by.each _ c.column_of.result c.column_of.ensures) in (
        all_pass_more passes i so_far.0 found.0,
        columns_more entry (entry 0 0) c.loop-index.table c.write_column.new.table c.in-Some.column i
            so_far.1 here c.write_column.ensures.count c.write_column.ensures.written c.write_column.ensures.kept
            (λ account l. ap (λ k. get_or k account (entry 0 0)) found.1 ∙ get_or-map-range_with_len (λ a. entry a i) 0 accounts account account (entry 0 0) l (omega arith)),
      );
}

pub returns-in_default-clause-answer : goal.returns-in_default-clause-answer
returns-in_default-clause-answer g c passes entry by =
    let i = c.loop-index.index in
    let here : i < areas = omega arith in
    let missing = none_if (passes i) _ (sym c.in_default.is ∙ by.each _ c.column_of.result c.column_of.ensures) in
    lowest_hit (λ area. not (passes area)) i areas (c.loop-index.invariant.written passes entry by).0 (sym (ap not missing)) here

pub returns-clause-answer : goal.returns-clause-answer
returns-clause-answer g c passes entry by =
    let end : c.loop-index.index ≡ areas = omega arith in
    sym (subst (AllPass passes) end (c.loop-index.invariant.written passes entry by).0)

pub returns-clause-written : goal.returns-clause-written
returns-clause-written g c passes entry by none =
    let end : c.loop-index.index ≡ areas = omega arith in
    columns_all entry (entry 0 0) c.loop-index.table (subst (Columns entry (entry 0 0) c.loop-index.table) end (c.loop-index.invariant.written passes entry by).1)
