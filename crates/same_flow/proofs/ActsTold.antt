-- The steps of acts, declarations, returns and breaks tell of their locals.
use Rattle.std.proofs.Common.{◌≡◌, ◌≤◌, ℕ, suc, inl, inr, List, [], length, drop, refl, sym, ap, ap₂, ◌∙◌, arith, subst}
use Rattle.std.specs.Prelude.{Option, Some, None}
use Rattle.lua_tree.specs.Syntax.{Statement, Expressions}
use Rattle.recover_expr.specs.Drafts.{statement_part, values_part}
use Rattle.recover_expr.specs.declared.steps.StepKind.{StepKind}
use Rattle.scheme.specs.Making.{Maker, any_captured, captured_from, active_count}
use Rattle.scheme.specs.Scheme.{statement_made}
use Rattle.scheme.specs.declared.making.Active.{Active}
use Rattle.same_flow.specs.Laid.{HasStep, Exit, LeavesTo, ActLaid, DeclarationLaid}
use Rattle.same_flow.specs.Renaming.{StatementsRename}
use Rattle.same_flow.specs.SameFlow.{HasPlainParts}
use Rattle.same_flow.specs.Told.{IsActPart, IsDeclarationPart}
use Rattle.same_flow.proofs.Followed.{Run, Follows, nought, LastTo, last_weaker, followed}
use Rattle.same_flow.proofs.BlocksFollowed.{close_step}
use Rattle.same_flow.proofs.StepsTold.{before, Told, told_both, told_to, before_same, before_active, parted, step_told, jump_told, close_told}

pub act_told : {run : Run} (s : Statement) → IsActPart s → (m : Maker) (ends : List ℕ) (from to : ℕ) → Follows run nought nought m ends from → ActLaid run.code m s from to → LastTo to ends →
    Told run from to
act_told {run} s fits m ends from to F (H, t) l =
    let last = subst (λ x. LastTo x ends) t l in
    told_to t (step_told run m.active from StepKind.Act (statement_part s) H (before_active F last) (parted F last) fits tt tt)

pub return_told : {run : Run} (es : Expressions) (m : Maker) (ends : List ℕ) (from to : ℕ) → Follows run nought nought m ends from →
    HasStep run.code m.active from StepKind.Return (values_part es) × (to ≡ suc from) → LastTo to ends → Told run from to
return_told {run} es m ends from to F (H, t) l =
    let last = subst (λ x. LastTo x ends) t l in
    told_to t (step_told run m.active from StepKind.Return (values_part es) H (before_active F last) (parted F last) tt tt tt)

-- the locals of a declaration end at a place behind it
pub declaration_told : {run : Run} → StatementsRename → HasPlainParts run.code → (s : Statement) → IsDeclarationPart s → (m : Maker) (ends : List ℕ) (stop from to : ℕ) →
    Follows run nought nought m ends from → DeclarationLaid run.code m stop s from to → LastTo to ends → to ≤ stop → Told run from to
declaration_told {run} renames plain s fits m ends stop from to F (H, t) l h =
    let is = plain from (statement_part s) H.1 in
    let made = statement_made s 1 None in
    let now = before run from in
    let last = subst (λ x. LastTo x ends) t l in
    let equal = before_same F last in
    let renamed = renames.statements nought [] s 1 None is.0 is.1 in
    let active : (made m).active ≡ (made now).active = ap (λ (x : Maker). x.active) (renamed.same m ∙ ap made equal ∙ sym (renamed.same now)) in
    told_to t (step_told run m.active from (StepKind.Declaration stop (captured_from (active_count m) (made m))) (statement_part s) H (before_active F last) (parted F last) fits
    (ap₂ (λ (a b : List Active). any_captured (drop (length a) b)) (ap (λ (x : Maker). x.active) equal) active) (omega arith))

pub break_told : {run : Run} (exit : Option Exit) (m : Maker) (ends : List ℕ) (from to : ℕ) → Follows run nought nought m ends from → LeavesTo run.code exit m from to → LastTo to ends → Told run from to
break_told None m ends from to F H l = absurd H
break_told (Some exit) m ends from to F (inl (c, J, t)) l = told_to t (jump_told F (subst (λ x. LastTo x ends) t l) refl J)
break_told {run} (Some exit) m ends from to F (inr (c, C, J, t)) l =
    let last = subst (λ x. LastTo x ends) t l in
    let first = last_weaker (suc from) (suc (suc from)) ends (omega arith) last in
    told_to t (told_both run from (suc from) (suc (suc from)) (close_told F first refl C) (jump_told (followed (close_step m ends from exit.locals C first) F) last refl J))
