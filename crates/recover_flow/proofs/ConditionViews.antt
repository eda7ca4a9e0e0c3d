-- The parts of a condition: a row in it is the list of it.
use Rattle.std.specs.Global.{Vec}
use Rattle.std.specs.Prelude.{◌≡◌, List, [], ◌∷◌, ◌++◌, Bool, true, not, refl}
use Rattle.std.proofs.Common.{ap, sym, ◌∙◌}
use Rattle.recover_flow.specs.Conditions.{ConditionTree, Conditions, and_condition, joined_condition, view_condition, view_row, conditions_of, and_last_condition, is_junction, parts_in, idle_junction, idle_of, literal_of}
use Rattle.recover_flow.specs.declared.conditions.Condition.{Condition, Row_of-Condition, end_of-Condition, more_of-Condition, items-the_row-Condition, items_hidden-the_row-Condition-0}
use Rattle.recover_flow.specs.declared.conditions.Condition.TheBlock.{hidden-the_row-Condition-0}
use Rattle.recover_flow.specs.declared.conditions.Condition.TheViews.{Joined}
use Rattle.recover_flow.specs.declared.conditions.Junction.{Junction}

conditions_row : (m : _) (row : Row_of-Condition m) → view_row row ≡ conditions_of (items-the_row-Condition m row)
conditions_row m end_of-Condition = refl
conditions_row m (more_of-Condition condition rest) = ap (and_condition (view_condition condition)) (conditions_row _ rest)

pub view_parts : (parts : Vec Condition) → view_row (hidden-the_row-Condition-0 parts) ≡ conditions_of parts.items
view_parts parts = conditions_row _ (hidden-the_row-Condition-0 parts) ∙ ap conditions_of (items_hidden-the_row-Condition-0 parts)

pub view_joined : (junction : Junction) (parts : Vec Condition) → view_condition (Joined junction parts) ≡ joined_condition junction (conditions_of parts.items)
view_joined junction parts = ap (joined_condition junction) (view_parts parts)

own_parts : (junction within : Junction) (parts : Conditions) → true ≡ is_junction within junction → parts ≡ parts_in junction (joined_condition within parts)
own_parts Junction.And Junction.And parts same = refl
own_parts Junction.Or Junction.Or parts same = refl
own_parts Junction.And Junction.Or parts same = cc same
own_parts Junction.Or Junction.And parts same = cc same

pub parts_given : (junction within : Junction) (condition : Condition) (parts : Vec Condition) → condition ≡ Joined within parts → true ≡ is_junction within junction → conditions_of parts.items ≡ parts_in junction (view_condition condition)
parts_given junction within condition parts is same =
    own_parts junction within _ same ∙ ap (parts_in junction) (sym (ap view_condition is ∙ view_joined within parts))

pub with_last : (conditions : List Condition) (last : Condition) → conditions_of (conditions ++ last ∷ []) ≡ and_last_condition (conditions_of conditions) (view_condition last)
with_last [] last = refl
with_last (condition ∷ conditions) last = ap (and_condition (view_condition condition)) (with_last conditions last)

idle_is : (sense : Bool) (inner : ConditionTree) (junction : Junction) (parts : Conditions) (last : ConditionTree) → junction ≡ idle_junction sense → parts ≡ parts_in junction inner → last ≡ literal_of (not sense) → joined_condition junction (and_last_condition parts last) ≡ idle_of inner sense
idle_is sense inner junction parts last j p l = rw p (rw l (rw j refl))

pub idle_made : (sense : Bool) (inner last : Condition) (junction : Junction) (before parts : Vec Condition) → junction ≡ idle_junction sense → conditions_of before.items ≡ parts_in junction (view_condition inner) → view_condition last ≡ literal_of (not sense) → parts.items ≡ before.items ++ last ∷ [] → view_condition (Joined junction parts) ≡ idle_of (view_condition inner) sense
idle_made sense inner last junction before parts j p l pushed =
    view_joined junction parts ∙ ap (λ (conditions : List Condition). joined_condition junction (conditions_of conditions)) pushed
    ∙ ap (joined_condition junction) (with_last before.items last) ∙ idle_is sense (view_condition inner) junction _ _ j p l
