use Rattle.std.proofs.Common.{◌≡◌, leb, rules, tests, eqb, Bool, Some, None, Option, ◌∙◌, ap}
use Rattle.std.specs.Bool.{then_some}
use Rattle.std.specs.Option.{option_and_then, MatchOption}
use Rattle.std.proofs.lemmas.Iterator.{YieldsList-from_slice}
use Rattle.std.proofs.lemmas.Iterator.Search.{find_from_yields_List}
use Rattle.lines.proofs.Lookups.{found_first}
use Rattle.lines.proofs.position.line_with_key.Goals as goal

-- what `filter` answers, by what its test is at the value
kept : {X : Type 0} (p : X → Bool) (Q : X → Bool → Type 0) → ((x : X) (b : Bool) → Q x b → b ≡ p x) → (o r : Option X) → MatchOption o (r ≡ None) (λ x. (b : Bool) × Q x b × (r ≡ then_some b x)) → r ≡ option_and_then (λ x. then_some (p x) x) o
kept p Q is None r h = h
kept p Q is (Some x) r h = h.2 ∙ ap (λ b. then_some b x) (is x h.0 h.1)

pub returns : goal.returns
returns g c =
    let key = g.L.Line.key in
    let xs = c.args.lines.now in
    let first = c.copied.ensures ∙ find_from_yields_List (λ x. leb c.args.wanted (key x)) _ _ c.find.result c.find.ensures.ran (YieldsList-from_slice xs cc) (λ x b q k. search (rules, tests)) in
    kept (λ x. eqb (key x) c.args.wanted) _ (λ x b k. search (rules, tests)) c.copied.result c.filter.result c.filter.ensures
    ∙ ap (option_and_then (λ x. then_some (eqb (key x) c.args.wanted) x)) first
    ∙ found_first key c.args.wanted xs
