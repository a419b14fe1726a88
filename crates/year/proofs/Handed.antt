-- A fault that a closure hands on beside the year.
use Rattle.std.proofs.Common.{◌≡◌, Ok, Err, Result, MatchResult, sym, ap, ◌∙◌}
use Rattle.std.specs.Result.{IsErrAnd}
use Rattle.year.proofs.Outcomes.{accepted_refused}

pub was_ok : {A E D : Type 0} (r : Result A E) (s : Result A D) (P : E → D → Type 0) (z : A) → MatchResult r (λ x. s ≡ Ok x) (λ e. IsErrAnd s (P e)) → s ≡ Ok z → Ok z ≡ r
was_ok (Ok x) s P z is e = cc
was_ok (Err f) (Ok y) P z is e = absurd is
was_ok (Err f) (Err d) P z is e = accepted_refused z d (sym e)

pub was_err : {A E Y : Type 0} (y : Y) (r : Result A E) (s : Result A (Y × E)) (P : E → Y × E → Type 0) → ((e : E) (d : Y × E) → P e d → d ≡ (y, e)) → (p : Y × E) → MatchResult r (λ x. s ≡ Ok x) (λ e. IsErrAnd s (P e)) → s ≡ Err p → (p ≡ (y, p.1)) × (Err p.1 ≡ r)
was_err y (Ok x) s P made p is fails = accepted_refused x p (sym is ∙ fails)
was_err y (Err e) (Ok x) P made p is fails = absurd is
was_err y (Err e) (Err d) P made p is fails =
    let pair : d ≡ (y, e) = made e d is in
    let same : p ≡ (y, e) = cc in
    (same ∙ ap (λ q. (y, q.1)) (sym same), ap (λ q. Err q.1) same)
