-- What is known of the source ahead at the beginning of a function: behind its parameters, the marks of its statements come next.
use Rattle.std.proofs.Common.{◌≡◌, ℕ, suc, Bool, List, ◌++◌, append_assoc, refl, ap, ◌∙◌}
use Rattle.lua_num.specs.Bytes.{Text}
use Rattle.lua_tree.specs.Outline.{Mark, Place, all_params, body_part, both, come, declares, in_function, outline, statements_part}
use Rattle.lua_tree.specs.Resolved.{resolved}
use Rattle.lua_tree.specs.Syntax.{function_body, Source, Statements}
use Rattle.scheme.specs.Functions.{empty_maker, without_sources}
use Rattle.scheme.specs.Making.{Ahead, Maker, declare}
use Rattle.scheme.specs.Scheme.{ahead_of}
use Rattle.scheme_stands.specs.Places.{ahead_at, ahead_by, inside_part}
use Rattle.scheme_stands.specs.Words.{Spot}
use Rattle.scheme_stands.proofs.Entering.{entered_by}
use Rattle.scheme_stands.proofs.Growth.{spot}
use Rattle.scheme_stands.proofs.Lines.{activate_spot, declared}
use Rattle.scheme_stands.proofs.Walks.{declared_moves, opened_ahead}
use Rattle.same_flow.specs.SameFlow.{begun_of}

-- ---- the main function

pub main_ahead : (source : Source) → ahead_of (resolved source) ≡ ahead_by (outline source) 0 1 (outline source)
main_ahead source = refl

-- ---- a function that stands in another, at this place

module _ (all : List Mark) (method : Bool) (params : List Text) (vararg : Bool) (block : Statements) (first last : ℕ) (place : Place) (rest : List Mark) (before : Ahead)
    (is : before ≡ without_sources (ahead_at all place ((body_part method (function_body params vararg block first last) place).marks ++ rest))) where
  abbrev inside : Place
  inside = in_function vararg place

  abbrev entered : Place
  entered = entered_by (all_params method params) first inside

  pub inside_ahead : before ≡ ahead_by all place.declarations (suc place.functions) ((inside_part method (function_body params vararg block first last) inside).marks ++ rest)
  inside_ahead = is ∙ opened_ahead all place.declarations place.functions ((inside_part method (function_body params vararg block first last) inside).marks ++ rest)

  pub inside_begins : (names : List Text) → (begun_of (all_params method params) names before).ahead ≡ ahead_at all entered ((statements_part block entered).marks ++ rest)
  inside_begins names =
      let texts = all_params method params in
      let empty = empty_maker before names in
      let behind : Maker = (declare texts empty).after in
      let walk = declares first 0 texts inside in
      let others = both (come 0 texts inside.declarations) (statements_part block) walk.next in
      ap (λ (p : Spot). p.ahead) (activate_spot (declare texts empty).value behind)
      ∙ declared_moves all first 0 texts (declare texts empty).value (spot empty) (spot behind) (declared texts empty) inside (others.marks ++ rest)
      (inside_ahead ∙ ap (ahead_at all inside) (append_assoc walk.marks others.marks rest))
