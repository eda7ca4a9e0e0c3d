-- Which values are written of those of a declaration or an assignment to names: a nil more or less at the end.
use Rattle.std.proofs.Common.{◌≡◌, ℕ, suc, Bool, true, false, Option, Some, None, refl, sym, ap, ◌∙◌, ◌&&◌}
use Rattle.std.specs.Prelude.{option_map, is_some, not, nat_lt, ◌==◌, if◌then◌else◌}
use Rattle.lua_tree.specs.Outline.{Part, both, nothing}
use Rattle.core_expr.specs.Places.{Place}
use Rattle.core_expr.specs.Targets.{TargetValue, global_target, index_target, local_target, upvalue_target}
use Rattle.core_expr.specs.Values.{Value, nil_value, Values, no_values, and_value, OperandValue}
use Rattle.recover_expr.specs.Entries.{Listed, and_last_value}
use Rattle.recover_expr.specs.Lists.{before_last, is_nil, split_last, value_count}
use Rattle.reads_back.specs.Acted.{Assigned, declared_values, ends_with_nil, filled, some_missing, values_assigned, with_last_nil, with_nil, without_nil}
use Rattle.reads_back.proofs.Marks.{SamePart, both_same, exact_part, nothing_behind, part_back, part_of, part_of_operand, part_then, parts_of, same_part}
use Rattle.reads_back.proofs.Tests.{first_of_both, not_so, second_of_both}

nil_is : (v : Value) → is_nil v ≡ true → v ≡ nil_value
nil_is nil_value is = refl
nil_is v is = cc

-- a value in front
abbrev in_front : Value → Option (Values × Value) → Option (Values × Value)
in_front v last = option_map (λ p. (and_value v p.0, p.1)) last

-- there is a last value of one or more
some_last : (v : Value) (rest : Values) → is_some (split_last (and_value v rest)) ≡ true
some_last v no_values = refl
some_last v (and_value w rest) = by (split_last (and_value w rest)) (some_last w rest)
  where
    by : (last : Option (Values × Value)) → is_some last ≡ true → is_some (in_front v last) ≡ true
    by (Some p) some = refl
    by None some = not_so some

before_more : (v : Value) (last : Option (Values × Value)) → is_some last ≡ true → before_last (in_front v last) ≡ and_value v (before_last last)
before_more v (Some p) some = refl
before_more v None some = not_so some

-- a last nil is one behind the others
pub nil_last : (vs : Values) → ends_with_nil vs ≡ true → and_last_value (before_last (split_last vs)) nil_value ≡ vs
nil_last no_values ends = not_so ends
nil_last (and_value last no_values) ends = ap (λ last. and_value last no_values) (sym (nil_is last ends))
nil_last (and_value v (and_value last no_values)) ends = ap (λ last. and_value v (and_value last no_values)) (sym (nil_is last (first_of_both _ _ ends)))
nil_last (and_value v (and_value w (and_value x rest))) ends =
    ap (λ before. and_last_value before nil_value) (before_more v (split_last (and_value w (and_value x rest))) (some_last w (and_value x rest)))
    ∙ ap (and_value v) (nil_last (and_value w (and_value x rest)) ends)

-- ---- they mention the same names

module _ (at : Place) (of : ℕ → Part) where
  nil_behind : (vs : Values) → SamePart (parts_of at of (and_last_value vs nil_value)) (parts_of at of vs)
  nil_behind no_values = nothing_behind nothing
  nil_behind (and_value v rest) = both_same (same_part (part_of at of v)) (nil_behind rest)

  pub with_nil_parts : (missing_one : Bool) (vs : Values) → SamePart (parts_of at of (with_nil missing_one vs)) (parts_of at of vs)
  with_nil_parts true vs = nil_behind vs
  with_nil_parts false vs = same_part (parts_of at of vs)

  without_nil_parts : (left_out : Bool) (vs : Values) → (left_out ≡ true → ends_with_nil vs ≡ true) → SamePart (parts_of at of (without_nil left_out vs).values) (parts_of at of vs)
  without_nil_parts true vs ends = part_then (part_back (nil_behind (before_last (split_last vs)))) (exact_part (λ place. ap (λ vs. parts_of at of vs place) (nil_last vs (ends refl))))
  without_nil_parts false vs ends = same_part (parts_of at of vs)

  filled_parts : (missing_some : Bool) (count : ℕ) (missing_one : Bool) (vs : Values) → SamePart (parts_of at of (filled missing_some count missing_one vs).values) (parts_of at of vs)
  filled_parts true count missing_one vs = same_part (parts_of at of vs)
  filled_parts false count missing_one vs =
      let all = with_nil missing_one vs in
      part_then (without_nil_parts ((value_count all == count) && ends_with_nil all) all (λ both. second_of_both (value_count all == count) _ both)) (with_nil_parts missing_one vs)

  pub declared_parts : (count : ℕ) (is_open : Bool) (from vs : Values) (all : Bool) → declared_values count is_open from ≡ record { values = vs; all = all } → SamePart (parts_of at of vs) (parts_of at of from)
  declared_parts count is_open from vs all is =
      part_then (exact_part (λ place. ap (λ (list : Listed). parts_of at of list.values place) (sym is))) (filled_parts (not is_open && nat_lt (suc (value_count from)) count) count (not is_open && (suc (value_count from) == count)) from)

  -- ---- of an assignment, with the operand that goes to a part of a table

  abbrev pub last_part : Option OperandValue → Part
  last_part None = nothing
  last_part (Some o) = part_of_operand at of o

  abbrev pub assigned_part : Assigned → Part
  assigned_part to = both (parts_of at of to.values) (last_part to.last)

  nil_parts : (t : Option TargetValue) (vs : Values) → SamePart (assigned_part (with_last_nil t vs)) (parts_of at of vs)
  nil_parts None vs = part_then (nothing_behind (parts_of at of (and_last_value vs nil_value))) (nil_behind vs)
  nil_parts (Some (local_target r)) vs = nothing_behind (parts_of at of vs)
  nil_parts (Some (upvalue_target slot)) vs = part_then (nothing_behind (parts_of at of (and_last_value vs nil_value))) (nil_behind vs)
  nil_parts (Some (global_target number)) vs = part_then (nothing_behind (parts_of at of (and_last_value vs nil_value))) (nil_behind vs)
  nil_parts (Some (index_target on key)) vs = nothing_behind (parts_of at of vs)

  missing_parts : (fewer one : Bool) (t : Option TargetValue) (vs : Values) → SamePart (assigned_part (if fewer then some_missing one t vs else record { values = vs; all = true; last = None })) (parts_of at of vs)
  missing_parts true true t vs = nil_parts t vs
  missing_parts true false t vs = nothing_behind (parts_of at of vs)
  missing_parts false one t vs = nothing_behind (parts_of at of vs)

  pub assigned_parts : (count : ℕ) (t : Option TargetValue) (is_open : Bool) (from : Values) (to : Assigned) → values_assigned count t is_open from ≡ to → SamePart (assigned_part to) (parts_of at of from)
  assigned_parts count t is_open from to is =
      part_then (exact_part (λ place. ap (λ (to : Assigned). assigned_part to place) (sym is))) (missing_parts (not is_open && nat_lt (value_count from) count) (suc (value_count from) == count) t from)
