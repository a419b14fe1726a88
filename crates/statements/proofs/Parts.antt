-- Account, areas and closing amount, written one after another.
use Rattle.std.proofs.Common.{◌≡◌, ℕ, suc, ◌-◌, ◌*◌, List, [], ◌∷◌, ◌++◌, length, take, drop, refl, ap, ◌∙◌, arith}
use borrow.Rule.Slice.PartMut.{put_mid}
use Rattle.std.specs.List.{flat_map}
use Rattle.std.proofs.lemmas.List.{length-append, drop-drop}
use Rattle.amounts.specs.Ranges.{areas}
use Rattle.statements.specs.declared.statement.Statement.{Statement}
use Rattle.statements.specs.Amounts.{amount_bytes}
use Rattle.statements.specs.Layout.{area_bytes, statement_bytes, statement_size}
use Rattle.statements.proofs.Bytes.{length_amount_bytes, length_area_bytes}
use Rattle.statements.proofs.Tails.{put_after, length_joined}

module _ (s : Statement) (twenty : length s.areas ≡ areas) where
  pub length_areas : length (flat_map area_bytes s.areas) ≡ 1280
  length_areas = length_joined area_bytes 64 length_area_bytes s.areas ∙ ap (λ n. 64 * n) twenty

  pub length_statement_bytes : length (statement_bytes s) ≡ statement_size
  unfolding statement_bytes
  length_statement_bytes = ap suc (length-append (flat_map area_bytes s.areas) (amount_bytes s.cost) ∙ omega (arith, length_areas, length_amount_bytes s.cost))

  -- `first` is the tail with the account written, `second` with the areas too
  pub parts_written : (entry first areas_last second cost_last : List ℕ) → first ≡ s.account ∷ drop 1 entry → areas_last ≡ flat_map area_bytes s.areas ++ drop 1280 (take (length first - 1) (drop 1 first)) → second ≡ put_mid 1 (length first - 1) first areas_last → cost_last ≡ amount_bytes s.cost ++ drop 8 (take (length second - 1281) (drop 1281 second)) → put_mid 1281 (length second - 1281) second cost_last ≡ statement_bytes s ++ drop statement_size entry
  unfolding statement_bytes
  parts_written entry first areas_last second cost_last first_is areas_is second_is cost_is =
      let all = flat_map area_bytes s.areas in
      let with_areas : second ≡ (s.account ∷ all) ++ drop 1280 (drop 1 entry) = second_is ∙ put_after 1 1280 first (s.account ∷ []) (drop 1 entry) all areas_last first_is refl areas_is in
      let rest : drop 8 (drop 1280 (drop 1 entry)) ≡ drop statement_size entry = ap (drop 8) (drop-drop 1280 1 entry) ∙ drop-drop 8 1281 entry in
      put_after 1281 8 second (s.account ∷ all) (drop 1280 (drop 1 entry)) (amount_bytes s.cost) cost_last with_areas (ap suc length_areas) cost_is
      ∙ ap (λ (ys : List ℕ). (s.account ∷ (all ++ amount_bytes s.cost)) ++ ys) rest
