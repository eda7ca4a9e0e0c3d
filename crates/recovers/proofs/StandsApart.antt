-- Where a part of a source stands apart, all marks capture of what is declared in a function what its own marks capture.
use Rattle.std.proofs.Common.{◌≡◌, ◌∙◌, ◌<◌, ◌⊎◌, inl, inr, ℕ, Bool, false, List, [], ◌∷◌, ◌++◌, Some, None, refl, sym, ap, ap₂, arith}
use Rattle.std.proofs.Math.Bool.{or-false}
use Rattle.std.proofs.lemmas.Bool.Decides.{nat_tests}
use Rattle.std.specs.Prelude.{◌==◌, ◌||◌, ◌&&◌, not, Option}
use Rattle.lua_tree.specs.Outline as outline
use Rattle.lua_tree.specs.Outline.{Binding, Mark, Place, Walk, all_params, beginning, body_part, both, come, declares, dots, hidden_local, in_function, innermost, leave, local_name, marked, mention, opened, statements_part, within}
use Rattle.lua_tree.specs.Scoping.{is_captured}
use Rattle.lua_tree.specs.Syntax.{FunctionBody, function_body}
use Rattle.scheme_stands.proofs.Origins.{mentions_more}
use Rattle.scheme_stands.specs.Places.{IsApart, KnownFrom, LowAt, Mentions, StandsApart}
use Rattle.scheme_stands.proofs.LowMentions.{low_captures}
use Rattle.reads_back.proofs.MarksCaptured.{captured_both}
use Rattle.recovers.proofs.InnerCaptured.{CapturesOwnAlone}

-- these mention no such declaration
abbrev IsOther : ℕ → Option Binding → List ℕ → Type 0
IsOther declaration means around = (b : Binding) → means ≡ Some b → b.declaration ≡ declaration → ⊥

others_capture : (declaration : ℕ) (marks : List Mark) → Mentions (IsOther declaration) marks → is_captured declaration marks ≡ false
others_capture declaration [] others = refl
others_capture declaration (mention line name (Some b) around ∷ marks) others =
    let apart : b.declaration ≡ declaration → ⊥ = others.0 b refl in
    let other : (b.declaration == declaration) ≡ false = grind (arith, nat_tests) in
    ap₂ (λ same rest. (same && not (b.home == innermost around)) || rest) other (others_capture declaration marks others.1)
others_capture declaration (mention line name None around ∷ marks) others = others_capture declaration marks others.1
others_capture declaration (local_name line reached ∷ marks) others = others_capture declaration marks others
others_capture declaration (hidden_local line reached ∷ marks) others = others_capture declaration marks others
others_capture declaration (dots line vararg ∷ marks) others = others_capture declaration marks others
others_capture declaration (leave line looped ∷ marks) others = others_capture declaration marks others
others_capture declaration (opened outer ∷ marks) others = others_capture declaration marks others

-- what is declared in a part that brings nothing into scope, only its own marks capture
captures_alone : {all : List Mark} {part : outline.Part} {place : Place} {rest : List Mark} → StandsApart all part place rest → (part place).next.scope ≡ place.scope → CapturesOwnAlone all part place
captures_alone {all} {part} {place} {rest} there same declaration low high =
    let marks = (part place).marks in
    let next = (part place).next in
    ap (is_captured declaration) there.is
    ∙ captured_both declaration there.before (marks ++ rest)
    ∙ ap₂ (λ one other. one || other) (low_captures there.before place.declarations declaration low there.low) (captured_both declaration marks rest)
    ∙ ap (λ some. is_captured declaration marks || some) (others_capture declaration rest (mentions_more (IsApart place.declarations next) (IsOther declaration) (λ means around from b is number. by there.scope b number (from b is)) rest there.apart))
    ∙ or-false (is_captured declaration marks)
  where
    by : LowAt place → (b : Binding) → b.declaration ≡ declaration → (b.declaration < place.declarations) ⊎ KnownFrom (part place).next b → ⊥
    by scope b number (inl before) = omega (arith, before, number, low)
    by scope b number (inr (inl seen)) = let before = scope seen.0 b (ap (λ (scope : outline.Scope). scope seen.0) (sym same) ∙ seen.1) in omega (arith, before, number, low)
    by scope b number (inr (inr later)) = omega (arith, later, number, high)

-- so in a function
pub function_alone : {all : List Mark} (method : Bool) (body : FunctionBody) {place : Place} {rest : List Mark} → StandsApart all (body_part method body) place rest → CapturesOwnAlone all (body_part method body) place
function_alone method (function_body params vararg block first last) there = captures_alone there refl
