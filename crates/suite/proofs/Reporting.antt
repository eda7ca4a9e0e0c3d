-- A line whose text is made, where there may be no memory for it.
use Rattle.std.proofs.Common.{◌≡◌, ℕ, List, Option, Result, Ok, Err, IfOk, OnErr, inl, inr, ap, subst, ◌∙◌}
use Rattle.suite.specs.declared.status.Status.{Status}
use Rattle.suite.specs.declared.outcome.Outcome.{Outcome}
use Rattle.suite.specs.Lines.{status_of, line_with, line_of, IsPut, IsPutOrWanting}

-- the text, where it is there, says what the outcome wants behind this front of its line
pub made_or_wanting : {T E : Type 0} → (bytes : T → List ℕ) (outcome : Outcome) (name front shown : List ℕ) (text : Result T E) (status result : Status) (before after : Option (List ℕ)) (old new : ℕ) → status ≡ status_of outcome → line_with front shown ≡ line_of outcome name → IfOk text (λ t. bytes t ≡ shown) → IfOk text (λ t. IsPut status (line_with front (bytes t)) result before after old new) → OnErr text (IsPut Status.OutOfMemory (line_of Outcome.OutOfMemory front) result before after old new) → IsPutOrWanting outcome name result before after old new
made_or_wanting bytes outcome name front shown (Ok t) status result before after old new so lines shows puts wants =
    inl (subst (λ (s : Status). IsPut s (line_of outcome name) result before after old new) so
    (subst (λ (line : List ℕ). IsPut status line result before after old new) (ap (λ (l : List ℕ). line_with front l) shows ∙ lines) puts))
made_or_wanting bytes outcome name front shown (Err e) status result before after old new so lines shows puts wants = inr wants
