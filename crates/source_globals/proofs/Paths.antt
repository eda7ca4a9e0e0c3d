-- The path of a function statement as a target.
use Rattle.std.proofs.Common.{◌≡◌, true, false, List, [], ◌∷◌, refl, ℕ}
use Rattle.std.specs.Prelude.{Option, Some, None}
use Rattle.lua_num.specs.Bytes.{Text}
use Rattle.lua_tree.specs.Names.{are_some_names}
use Rattle.lua_tree.specs.Syntax.{field_expression}
use Rattle.scheme.specs.Expressions.{Coded, coded_name, coded_field}
use Rattle.scheme.specs.Statements.{with_fields, path_from, with_method}
use Rattle.scheme_stands.proofs.Growth.{calm}
use Rattle.scheme_stands.proofs.Parts.{Grows, grows_field, grows_name}
use Rattle.source_globals.specs.Named.{gets_it, sets_it}
use Rattle.source_globals.proofs.Owed.{Mention}
use Rattle.source_globals.proofs.Tally.{End}
use Rattle.source_globals.proofs.Values.{Speaks}
use Rattle.source_globals.proofs.Forms.{name_told, field_told}
use Rattle.source_globals.proofs.Targets.{TargetSpeaks, name_target_speaks, field_target_speaks}
use Rattle.source_globals.proofs.Mentions.{path_said}

module _ (z : End) where
  -- a field of what speaks, as a value and as a target
  value_of_field : {ms : List Mention} (line : ℕ) (on : Coded) (text : Text) → Speaks z ms on → Speaks z ms (coded_field line (field_expression line on.e text) on text)
  value_of_field line on text s = field_told z line (field_expression line on.e text) on text refl refl refl s

  target_of_field : {ms : List Mention} (line : ℕ) (on : Coded) (text : Text) → Speaks z ms on → TargetSpeaks z ms (coded_field line (field_expression line on.e text) on text)
  target_of_field line on text s = field_target_speaks z line (field_expression line on.e text) on text (grows_field line (field_expression line on.e text) on text refl s.grows) s

  fields_speak : {ms : List Mention} (line : ℕ) (on : Coded) (texts : List Text) → Speaks z ms on → Speaks z ms (with_fields line on texts)
  fields_speak line on [] s = s
  fields_speak line on (text ∷ texts) s = fields_speak line (coded_field line (field_expression line on.e text) on text) texts (value_of_field line on text s)

  fields_target : {ms : List Mention} (line : ℕ) (on : Coded) (text : Text) (texts : List Text) → Speaks z ms on → TargetSpeaks z ms (with_fields line on (text ∷ texts))
  fields_target line on text [] s = target_of_field line on text s
  fields_target line on text (other ∷ texts) s = fields_target line (coded_field line (field_expression line on.e text) on text) other texts (value_of_field line on text s)

  pub path_speaks : (line : ℕ) (path : List Text) (method : Option Text) → are_some_names path ≡ true → TargetSpeaks z (path_said path method) (with_method line (path_from line path) method)
  path_speaks line [] method h = cc
  path_speaks line (name ∷ []) None h = name_target_speaks z line name (grows_name line name)
  path_speaks line (name ∷ []) (Some text) h = target_of_field line (coded_name line name) text (name_told z line name)
  path_speaks line (name ∷ field ∷ fields) None h = fields_target line (coded_name line name) field fields (name_told z line name)
  path_speaks line (name ∷ field ∷ fields) (Some text) h =
      let on = with_fields line (coded_name line name) (field ∷ fields) in
      target_of_field line on text (fields_speak line (coded_name line name) (field ∷ fields) (name_told z line name))
