-- What the steps of a function bring into scope: the scope stays as it is, or the names of the step come into it, which end where the step says.
use Rattle.std.proofs.Common.{◌≡◌, ◌<◌, ◌≤◌, ◌⊎◌, inl, inr, ℕ, zero, suc, ◌+◌, ◌-◌, Bool, true, false, List, [], ◌∷◌, ◌++◌, length, refl, sym, ap, ap₂, ◌∙◌, arith, if◌then◌else◌}
use Rattle.std.specs.Prelude.{Some, replicate, slice_get}
use Rattle.std.specs.Str.{bytes_eq}
use Rattle.lua_num.specs.Bytes.{Text}
use Rattle.lua_tree.specs.Outline as outline
use Rattle.lua_tree.specs.Outline.{Binding, Place, Scope, come, declares, innermost, with_name, with_names}
use Rattle.lua_tree.specs.Syntax.{Expressions, Statement, assignment, call_statement, function_statement, local_function, local_statement}
use Rattle.recover_expr.specs.Drafts.{Part, statement_part, values_part, condition_part, head_part}
use Rattle.recover_expr.specs.declared.steps.StepKind.{StepKind}
use Rattle.scheme_stands.proofs.Counting.{body_closed, expression_closed, expressions_closed, statement_closed}
use Rattle.same_flow.specs.Performed.{ends_of}
use Rattle.same_flow.specs.Told.{IsActPart, PartFits}
use Rattle.same_flow.proofs.Walks.{State, says}
use Rattle.reads_back.proofs.FlowThere.{IsFlowPart}
use Rattle.reads_back.proofs.LocalsBrought.{hidden_by, names_by}
use Rattle.reads_back.proofs.PlacedCaptures.{element_right}
use Rattle.reads_back.proofs.PlacedInside.{GoesInside}
use Rattle.reads_back.proofs.SomeNames.{some_names}

-- the same end so many times
pub repeated : (n end i : ℕ) → i < n → slice_get (replicate n end) i ≡ Some end
repeated zero end i less = absurd (omega (arith, less))
repeated (suc n) end zero less = refl
repeated (suc n) end (suc i) less = repeated n end i (omega (arith, less))

-- ---- names that come into scope

-- what a name means: as before, or one of these
abbrev pub Named : Scope → (count number home : ℕ) → Text → Binding → Type 0
Named scope count number home name b = (scope name ≡ Some b) ⊎ ((i : ℕ) × (i < count) × (b.declaration ≡ number + i) × (b.home ≡ home))

pub names_mean : (names : List Text) (number home : ℕ) (scope : Scope) (name : Text) (b : Binding) → with_names names number home scope name ≡ Some b → Named scope (length names) number home name b
names_mean [] number home scope name b is = inl is
names_mean (first ∷ names) number home scope name b is = rest (names_mean names (suc number) home (with_name first (record { declaration = number; home = home }) scope) name b is)
  where
    here : (same : Bool) → (if same then Some (record { declaration = number; home = home }) else scope name) ≡ Some b → Named scope (suc (length names)) number home name b
    here true is =
        let same : record { declaration = number; home = home } ≡ b = cc in
        let declaration = ap (λ (x : Binding). x.declaration) same in
        inr (0, omega arith, omega (arith, declaration), sym (ap (λ (x : Binding). x.home) same))
    here false is = inl is

    rest : Named (with_name first (record { declaration = number; home = home }) scope) (length names) (suc number) home name b → Named scope (suc (length names)) number home name b
    rest (inl is) = here (bytes_eq first name) is
    rest (inr later) = let less = later.1 in let declaration = later.2 in inr (suc later.0, omega (arith, less), omega (arith, declaration), later.3)

-- ---- what a step brings into scope

-- kinds that bring locals into scope
abbrev pub IsBringing : StepKind → Type 0
IsBringing (StepKind.Declaration end captured) = Unit {0}
IsBringing (StepKind.Head numeric foot end variables_end captured) = Unit {0}
IsBringing kind = ⊥

-- where their names end
abbrev pub names_end : StepKind → ℕ
names_end (StepKind.Declaration end captured) = end
names_end (StepKind.Head numeric foot end variables_end captured) = variables_end
names_end kind = 0

-- the scope stays as it is, or the names of the step come into it
pub record Stays (kind : StepKind) (part : Part) (state : State) : Type 0 where
  pub scope : (says kind part state).after.place.scope ≡ state.place.scope
  pub entries : (says kind part state).after.entries ≡ state.entries

pub record Comes (kind : StepKind) (part : Part) (state : State) : Type 0 where
  pub brings : IsBringing kind
  pub scope : (says kind part state).after.place.scope ≡ with_names (names_by kind part) state.place.declarations (innermost state.place.around) state.place.scope
  pub entries : (says kind part state).after.entries ≡ record { scope = state.place.scope; active = state.place.active; end = names_end kind } ∷ state.entries

abbrev Scoped : StepKind → Part → State → Type 0
Scoped kind part state = Stays kind part state ⊎ Comes kind part state

act_scoped : (s : Statement) (state : State) → IsActPart s → Scoped StepKind.Act (statement_part s) state
act_scoped (assignment targets es) state fits = inl (record { scope = (statement_closed 1 (assignment targets es) state.place refl).scope; entries = refl })
act_scoped (call_statement e) state fits = inl (record { scope = (statement_closed 1 (call_statement e) state.place refl).scope; entries = refl })
act_scoped (function_statement path method body) state fits = inl (record { scope = (statement_closed 1 (function_statement path method body) state.place refl).scope; entries = refl })
act_scoped s state fits = absurd fits

come_after : (hidden : ℕ) (names : List Text) (es : Expressions) (place : Place) →
    with_names names place.declarations (innermost (outline.expressions_part es (declares 1 hidden names place).next).next.around) (outline.expressions_part es (declares 1 hidden names place).next).next.scope
    ≡ with_names names place.declarations (innermost place.around) place.scope
come_after hidden names es place =
    let closed = expressions_closed es (declares 1 hidden names place).next in
    ap₂ (λ (around : List ℕ) (scope : Scope). with_names names place.declarations (innermost around) scope) closed.counted.around closed.scope

pub step_scoped : (kind : StepKind) (part : Part) (state : State) → PartFits kind part → Scoped kind part state
step_scoped StepKind.Act (statement_part s) state fits = act_scoped s state fits
step_scoped (StepKind.Declaration end captured) (statement_part (local_function text body)) state fits =
    let names : List Text = text ∷ [] in
    let begun = (come 0 names state.place.declarations (declares 1 0 names state.place).next).next in
    inr (record { brings = tt; scope = (body_closed false body begun).scope; entries = refl })
step_scoped (StepKind.Declaration end captured) (statement_part (local_statement names es)) state fits = inr (record { brings = tt; scope = come_after 0 names es state.place; entries = refl })
step_scoped (StepKind.Declaration end captured) (statement_part s) state fits = absurd fits
step_scoped StepKind.Return (values_part es) state fits = inl (record { scope = (expressions_closed es state.place).scope; entries = refl })
step_scoped (StepKind.Test when target negated) (condition_part e) state fits = inl (record { scope = (expression_closed e state.place).scope; entries = refl })
step_scoped (StepKind.Head true foot end variables_end captured) (head_part es names) state fits = inr (record { brings = tt; scope = come_after 3 names es state.place; entries = refl })
step_scoped (StepKind.Head false foot end variables_end captured) (head_part es names) state fits = inr (record { brings = tt; scope = come_after 3 names es state.place; entries = refl })
step_scoped (StepKind.Jump target) part state fits = inl (record { scope = refl; entries = refl })
step_scoped (StepKind.Close from step) part state fits = inl (record { scope = refl; entries = refl })
step_scoped (StepKind.Foot numeric target) part state fits = inl (record { scope = refl; entries = refl })
step_scoped kind part state fits = absurd fits

-- it brings a name
pub names_some : (kind : StepKind) (part : Part) → IsBringing kind → PartFits kind part → IsFlowPart part → 0 < length (names_by kind part)
names_some (StepKind.Declaration end captured) (statement_part (local_function text body)) brings fits flow = omega arith
names_some (StepKind.Declaration end captured) (statement_part (local_statement names es)) brings fits flow = some_names names flow.act.is.0
names_some (StepKind.Declaration end captured) (statement_part s) brings fits flow = absurd fits
names_some (StepKind.Head true foot end variables_end captured) (head_part es names) brings fits flow = some_names names flow.good
names_some (StepKind.Head false foot end variables_end captured) (head_part es names) brings fits flow = some_names names flow.good
names_some (StepKind.Declaration end captured) part brings fits flow = absurd fits
names_some (StepKind.Head true foot end variables_end captured) part brings fits flow = absurd fits
names_some (StepKind.Head false foot end variables_end captured) part brings fits flow = absurd fits
names_some kind part brings fits flow = absurd brings

pub names_inside : (last : ℕ) (kind : StepKind) → IsBringing kind → GoesInside last kind → names_end kind ≤ last
names_inside last (StepKind.Declaration end captured) brings inside = inside
names_inside last (StepKind.Head numeric foot end variables_end captured) brings inside = inside.2
names_inside last kind brings inside = absurd brings

behind_hidden : (end variables_end count i : ℕ) → i < count → slice_get (replicate 3 end ++ replicate count variables_end) (3 + i) ≡ Some variables_end
behind_hidden end variables_end count i less = element_right (replicate 3 end) (replicate count variables_end) i (3 + i) (omega arith) ∙ repeated count variables_end i less

-- and its names end where it says
pub ends_new : (kind : StepKind) (part : Part) (count i : ℕ) → IsBringing kind → PartFits kind part → count ≡ length (hidden_by kind part) + length (names_by kind part) → i < length (names_by kind part) →
    slice_get (ends_of kind count) (length (hidden_by kind part) + i) ≡ Some (names_end kind)
ends_new (StepKind.Declaration end captured) (statement_part (local_function text body)) count i brings fits is less = repeated count end (0 + i) (omega (arith, is, less))
ends_new (StepKind.Declaration end captured) (statement_part (local_statement names es)) count i brings fits is less = repeated count end (0 + i) (omega (arith, is, less))
ends_new (StepKind.Declaration end captured) (statement_part s) count i brings fits is less = absurd fits
ends_new (StepKind.Head true foot end variables_end captured) (head_part es names) count i brings fits is less = behind_hidden end variables_end (count - 3) i (omega (arith, is, less))
ends_new (StepKind.Head false foot end variables_end captured) (head_part es names) count i brings fits is less = behind_hidden end variables_end (count - 3) i (omega (arith, is, less))
ends_new (StepKind.Declaration end captured) part count i brings fits is less = absurd fits
ends_new (StepKind.Head true foot end variables_end captured) part count i brings fits is less = absurd fits
ends_new (StepKind.Head false foot end variables_end captured) part count i brings fits is less = absurd fits
ends_new kind part count i brings fits is less = absurd brings
