-- A function that goes alone to a target with a path is read as a function statement: the step is the statement that is written.
use Rattle.std.proofs.Common.{◌≡◌, ℕ, true, List, [], ◌∷◌, Option, Some, None, is_some, refl, sym, ap, ◌∙◌}
use Rattle.std.proofs.lemmas.Option.{same_Some}
use Rattle.std.specs.Prelude.{slice_get, slice_set, option_map, option_and_then, if◌then◌else◌}
use Rattle.lua_num.specs.Bytes.{Text}
use Rattle.lua_tree.specs.Syntax.{FunctionBody, Statement, function_statement}
use Rattle.core_expr.specs.Counting.{left_by_values, one_more}
use Rattle.core_expr.specs.Places.{Place}
use Rattle.core_expr.specs.Targets.{TargetValue, can_have_path, path_of}
use Rattle.core_expr.specs.Values.{Values, OperandValue, Inner}
use Rattle.core_expr.specs.Writing.{function_left, function_there}
use Rattle.recover_expr.specs.Assigning.{function_as, function_ended, function_step, last_name, named_as, names_before_last, with_number, without_self}
use Rattle.recover_expr.specs.Drafts.{Drafted, drafted, statement_part}
use Rattle.recover_expr.specs.Situation.{Function, Situation, body_at, place_in_step, take_body, with_left}
use Rattle.recover_expr.specs.declared.draft.DraftKind.{DraftKind}
use Rattle.reads_back.specs.Acted.{Acted, Assigned, assigned, assigned_levels, assigned_statement, function_in, left_by_act, left_by_last, left_by_targets, levels_by, levels_or, named_by, named_or, path_to, said_by}
use Rattle.reads_back.specs.ReadAs.{part_of}
use Rattle.reads_back.proofs.ActsRead.{act_draft, after_act}
use Rattle.reads_back.proofs.Paths.{function_alone, function_as_holds, path_to_leaves}
use Rattle.reads_back.proofs.Said.{can_say, named_parts, said_there}
use Rattle.reads_back.proofs.Tests.{not_so}

-- ---- a function that is all of the values

function_goes : (fs : List (Option Inner)) (number : ℕ) (vs : Values) (last : Option OperandValue) → function_in vs last ≡ Some number → left_by_last last (left_by_values vs fs) ≡ slice_set fs number None
function_goes fs number = function_alone (λ vs last. left_by_last last (left_by_values vs fs) ≡ slice_set fs number None) number refl refl

-- ---- which statement it is

-- what holds of function statements holds of what a path says
as_function : (P : Statement → Type 0) (path : List Text) (body : FunctionBody) → ((path : List Text) (method : Option Text) (body : FunctionBody) → P (function_statement path method body)) → P (function_as path body)
as_function P path body holds = function_as_holds P path body (holds path None body) (λ long takes. holds (names_before_last path) (last_name path) (without_self body))

-- ---- the names of an assignment, as they are read

module _ (f : Function) (s : Situation) where
  abbrev at : Place
  at = place_in_step f s

  pub one_named : (t : TargetValue) (made : Option ℕ) → ((number : ℕ) → made ≡ Some number → can_have_path at t ≡ true) → named_as f s (t ∷ []) made ≡ Some (option_and_then (λ number. with_number number (path_of at t)) made)
  one_named t None has = refl
  one_named t (Some number) has = ap (λ can. option_map (with_number number) (if can then Some (path_of at t) else None)) (has number refl)

  pub several_named : (t u : TargetValue) (ts : List TargetValue) (read made : Option ℕ) → named_as f s (t ∷ u ∷ ts) read ≡ Some (option_and_then (λ number. with_number number None) made)
  several_named t u ts read None = refl
  several_named t u ts read (Some number) = refl

-- ---- the step

function_part : (path : List Text) (body : FunctionBody) → statement_part (function_as path body) ≡ part_of (function_as path body)
function_part path body = as_function (λ s. statement_part s ≡ part_of s) path body (λ path method body. refl)

body_taken : (s : Situation) (number : ℕ) (found : Inner) → function_left s.left number ≡ Some found → take_body number s ≡ Some (found, with_left (slice_set s.left number None) s)
body_taken s number found is = by (slice_get s.left number) is
  where
    by : (there : Option (Option Inner)) → function_there there ≡ Some found → body_at number s there ≡ Some (found, with_left (slice_set s.left number None) s)
    by None is = cc
    by (Some None) is = cc
    by (Some (Some one)) is = ap (λ (found : Inner). Some (found, with_left (slice_set s.left number None) s)) (same_Some one found is)

module _ (f : Function) (next : ℕ) (ts : List TargetValue) (to : Assigned) (s : Situation) where
  abbrev act : Acted
  act = assigned ts to.values to.all to.last

  abbrev names : Option (List Text × ℕ)
  names = named_by (place_in_step f s) ts to.values to.last

  -- the step of a statement with these levels, where these functions are left
  abbrev step : (levels : ℕ) → Statement → List (Option Inner) → Option (Drafted × Situation)
  step levels statement left = Some (drafted DraftKind.Act next levels (part_of statement) s, with_left left s)

  abbrev otherwise : Statement
  otherwise = assigned_statement (place_in_step f s) s.taken s.left ts to.values to.all to.last

  abbrev levels : ℕ
  levels = assigned_levels (place_in_step f s) s.taken s.left ts to.values to.all to.last

  -- no names say it
  pub assignment_step_is : names ≡ None → step levels otherwise (left_by_act act s.left) ≡ Some (act_draft f next act s, after_act act s)
  assignment_step_is none = ap (λ named. step (levels_or s.left named levels) (named_or s.left named otherwise) (left_by_act act s.left)) (sym none)

  function_step_is : (path : List Text) (number : ℕ) (found : Inner) → names ≡ Some (path, number) → function_left s.left number ≡ Some found → left_by_act act s.left ≡ slice_set s.left number None → function_step next s (path, number) ≡ Some (act_draft f next act s, after_act act s)
  function_step_is path number found named there left =
      let mine = slice_set s.left number None in
      ap (option_map (function_ended path next)) (body_taken s number found there)
      ∙ ap (λ part. Some (drafted DraftKind.Act next (one_more (one_more found.levels)) part s, with_left mine s)) (function_part path found.body)
      ∙ ap (λ found. step (levels_by found levels) (said_by found path otherwise) mine) (sym there)
      ∙ ap (λ named. step (levels_or s.left named levels) (named_or s.left named otherwise) mine) (sym named)
      ∙ ap (step (levels_or s.left names levels) (named_or s.left names otherwise)) (sym left)

  -- a path and a number say it, where it can be said
  pub function_ends : (path : List Text) (number : ℕ) → names ≡ Some (path, number) → can_say (place_in_step f s) s.left act ≡ true → function_step next s (path, number) ≡ Some (act_draft f next act s, after_act act s)
  function_ends path number named can = by (function_left s.left number) refl there
    where
      is : (function_in to.values to.last ≡ Some number) × (path_to (place_in_step f s) ts ≡ Some path)
      is = named_parts (function_in to.values to.last) (path_to (place_in_step f s) ts) path number named

      keeps : left_by_targets ts s.left ≡ s.left
      keeps = path_to_leaves (place_in_step f s) ts path s.left is.1

      there : is_some (function_left s.left number) ≡ true
      there = said_there (place_in_step f s) s.left ts to.values to.all to.last path number named can

      left : left_by_act act s.left ≡ slice_set s.left number None
      left = ap (λ fs. left_by_last to.last (left_by_values to.values fs)) keeps ∙ function_goes s.left number to.values to.last is.0

      by : (found : Option Inner) → function_left s.left number ≡ found → is_some found ≡ true → function_step next s (path, number) ≡ Some (act_draft f next act s, after_act act s)
      by None found some = not_so some
      by (Some one) found some = function_step_is path number one named found left
