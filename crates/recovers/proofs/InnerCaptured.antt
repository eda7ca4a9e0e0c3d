-- In a function that stands in another, the reader's list has in the end just those locals captured that the source captures, where all marks of the source capture of its declarations what its own marks capture.
use Rattle.std.proofs.Common.{◌≡◌, ◌∙◌, ◌<◌, ◌≤◌, ℕ, zero, suc, Bool, true, false, List, ◌++◌, length, refl, sym, ap, subst}
use Rattle.std.specs.Prelude.{◌||◌, Option}
use Rattle.lua_num.specs.Bytes.{Text}
use Rattle.lua_tree.specs.Outline as outline
use Rattle.lua_tree.specs.Outline.{Mark, Place, Walk, all_params, body_part, hidden_local, in_function, innermost, local_name, reaching, statements_part}
use Rattle.lua_tree.specs.Scoping.{is_captured}
use Rattle.lua_tree.specs.Syntax.{FunctionBody, Statements, function_body}
use Rattle.lua_tree.specs.WellFormed.{formed_statements}
use Rattle.core_expr.specs.Values.{Inner}
use Rattle.recover_expr.specs.Placing.{Steps}
use Rattle.recover_expr.specs.Situation.{Function}
use Rattle.scheme.specs.Functions.{empty_maker, without_sources}
use Rattle.scheme.specs.Making.{Ahead, Maker, declare}
use Rattle.scheme_stands.proofs.Entering.{entered_by}
use Rattle.scheme_stands.proofs.Growth.{spot}
use Rattle.scheme_stands.proofs.Here.{here_as, here_at, here_entered, here_function}
use Rattle.scheme_stands.proofs.Lines.{declared}
use Rattle.scheme_stands.specs.Places.{Here, Mentions, ahead_at, inside_part}
use Rattle.scheme_stands.specs.Words.{Fn, Spot}
use Rattle.reads_back.proofs.ActiveCaptured.{AllHome, home_below, names_home}
use Rattle.reads_back.proofs.CapturedInEnd.{CapturedInside}
use Rattle.reads_back.proofs.FlowPlaced.{AreCapturedLike}
use Rattle.reads_back.proofs.FlowThere.{IsFlowFunction}
use Rattle.reads_back.proofs.KnownBeginnings.{inside_ahead, inside_begins}
use Rattle.reads_back.proofs.MainCaptured.{flow_captured_like}
use Rattle.reads_back.proofs.StepsApart.{IsOutside, block_outside}
use Rattle.reads_back.proofs.MarksCaptured.{captured_both}

-- what is declared in a part of the source is captured by all its marks where those of the part capture it
abbrev pub CapturesOwnAlone : (all : List Mark) → outline.Part → Place → Type 0
CapturesOwnAlone all part place = (declaration : ℕ) → place.declarations ≤ declaration → declaration < (part place).next.declarations → is_captured declaration all ≡ is_captured declaration (part place).marks

-- declarations capture nothing
names_capture : (declaration line active count : ℕ) → is_captured declaration (reaching (local_name line) active count) ≡ false
names_capture declaration line active zero = refl
names_capture declaration line active (suc count) = names_capture declaration line (suc active) count

-- a function that stands at a place
module _ (all : List Mark) (method : Bool) (params : List Text) (vararg : Bool) (block : Statements) (first last : ℕ) (place : Place) (rest : List Mark) (p : Spot) (here : Here all (body_part method (function_body params vararg block first last)) place rest p) where
  abbrev body : FunctionBody
  body = function_body params vararg block first last

  abbrev texts : List Text
  texts = all_params method params

  abbrev inside : Place
  inside = in_function vararg place

  abbrev entered : Place
  entered = entered_by texts first inside

  -- its own marks capture what those of its statements capture
  captured_by_block : (declaration : ℕ) → is_captured declaration (body_part method body place).marks ≡ is_captured declaration (statements_part block entered).marks
  captured_by_block declaration =
      let names = reaching (local_name first) 0 (length texts) in
      captured_both declaration names (statements_part block entered).marks
      ∙ ap (λ some. some || is_captured declaration (statements_part block entered).marks) (names_capture declaration first 0 (length texts))

  module _ (before : Ahead) (is : before ≡ without_sources p.ahead) where
    ahead_there : before ≡ without_sources (ahead_at all place ((body_part method body place).marks ++ rest))
    ahead_there = is ∙ ap without_sources here.ahead

    -- behind its parameters its statements stand
    entered_here : (names : List Text) → Here all (statements_part block) entered rest (spot (declare texts (empty_maker before names)).after)
    entered_here names =
        let empty = empty_maker before names in
        let behind : Maker = (declare texts empty).after in
        here_entered all method params vararg block first last inside rest (declare texts empty).value (spot empty) (spot behind) (declared texts empty)
        (here_at all (inside_part method body) inside rest (record { pc = 0; ahead = without_sources p.ahead; functions = 0 }) (spot empty) is (here_function all method params vararg block first last place rest p here))

    -- what is in scope there of the source before is of other functions
    parameters_home : AllHome place.declarations (innermost entered.around) entered.scope
    parameters_home =
        let scope = here.scope in
        names_home place.declarations (innermost inside.around) texts place.declarations place.scope (home_below place.declarations (innermost inside.around) place.scope scope.declared)

    -- another block that says the same
    module _ (other : Statements) (formed : formed_statements other ≡ true) (same : (place : Place) → statements_part other place ≡ statements_part block place) (alone : CapturesOwnAlone all (body_part method body) place) where
      inside_alone : CapturedInside all entered other place.declarations
      inside_alone declaration low high =
          alone declaration low (subst (λ (walk : Walk). declaration < walk.next.declarations) (same entered) high)
          ∙ captured_by_block declaration
          ∙ ap (λ (walk : Walk). is_captured declaration walk.marks) (sym (same entered))

      pub inner_captured : {f : Function} {g : Fn} {z : Maker} {lefts : ℕ → List (Option Inner)} {parts : ℕ → outline.Part} {code : Steps} {names : List Text} (of : IsFlowFunction f g z lefts parts code texts names before other)
          (takes : f.of.params ≡ length texts) → AreCapturedLike of takes
      inner_captured {names = names} of takes =
          let there = here_as all (statements_part block) (statements_part other) entered rest (spot (declare texts (empty_maker before names)).after) (sym (same entered)) (entered_here names) in
          let begins = inside_begins all method params vararg block first last place rest before ahead_there names ∙ ap (λ (walk : Walk). ahead_at all entered (walk.marks ++ rest)) (sym (same entered)) in
          flow_captured_like of takes formed all entered rest there.between there.scope begins place.declarations (suc place.functions) ((inside_part method body inside).marks ++ rest)
          (inside_ahead all method params vararg block first last place rest before ahead_there) parameters_home inside_alone there.apart
          (subst (λ (walk : Walk). Mentions (IsOutside entered.declarations walk.next.declarations) rest) (sym (same entered)) (block_outside all method params vararg block first last place rest here.apart))
