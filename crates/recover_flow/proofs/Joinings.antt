-- Parts that are gone, and conditions that are joined as expressions.
use Rattle.std.proofs.Common.{◌≡◌, List, Result, Ok, Err, sym, ap, ◌∙◌, subst}
use Rattle.std.specs.Global.{Vec}
use Rattle.std.specs.Prelude.{IfErr, IsErrAnd}
use Rattle.recover_expr.specs.Drafts.{Part}
use Rattle.recover_flow.proofs.ConditionViews.{view_joined}
use Rattle.recover_flow.specs.Conditions.{view_condition, conditions_of}
use Rattle.recover_flow.specs.Joining.{condition_expression, first_joined}
use Rattle.recover_flow.specs.Parts.{IsGoneOnlyWhere}
use Rattle.recover_flow.specs.declared.conditions.Condition.{Condition}
use Rattle.recover_flow.specs.declared.conditions.Condition.TheViews.{Joined}
use Rattle.recover_flow.specs.declared.conditions.Junction.{Junction}
use Rattle.recover_flow.specs.declared.parts.Unbuilt.{Unbuilt}

pub gone_where : {A B : Type 0} (unbuilt : Unbuilt) → (A → B) → IsGoneOnlyWhere A unbuilt → IsGoneOnlyWhere B unbuilt
gone_where Unbuilt.Gone follows gone = follows gone
gone_where Unbuilt.OutOfMemory follows gone = tt

-- what is gone with what a call hands on
pub gone_with : {A B T : Type 0} (result : Result T Unbuilt) (unbuilt : Unbuilt) → IsErrAnd result (λ other. other ≡ unbuilt) → (A → B) → IsGoneOnlyWhere A unbuilt → IfErr result (IsGoneOnlyWhere B)
gone_with (Ok made) unbuilt is follows gone = tt
gone_with {A} {B} {T} (Err other) unbuilt is follows gone =
    let P : Unbuilt → Type 0 = λ u. IsGoneOnlyWhere B u in
    subst P (sym is) (gone_where unbuilt follows gone)

-- the expression of joined conditions
pub joined_is : (condition : Condition) (junction : Junction) (parts : Vec Condition) (list : List Condition) (left : List Part) → condition ≡ Joined junction parts → list ≡ parts.items → first_joined junction (conditions_of list) left ≡ condition_expression (view_condition condition) left
joined_is condition junction parts list left is items =
    ap (λ (those : List Condition). first_joined junction (conditions_of those) left) items
    ∙ sym (ap (λ tree. condition_expression tree left) (ap view_condition is ∙ view_joined junction parts))
