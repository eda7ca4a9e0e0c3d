-- In the main function of a source, whose statements stand on steps, the reader's list has in the end just those locals captured that the source captures.
use Rattle.std.proofs.Common.{◌≡◌, ℕ, true, List, [], ◌++◌, length, refl, sym, ap}
use Rattle.std.specs.Prelude.{Option}
use Rattle.lua_num.specs.Bytes.{Text}
use Rattle.lua_tree.specs.Outline as tree
use Rattle.lua_tree.specs.Outline.{Binding, Mark, Place, beginning, innermost, outline, statements_part}
use Rattle.lua_tree.specs.Resolved.{resolved}
use Rattle.lua_tree.specs.Scoping.{is_captured}
use Rattle.lua_tree.specs.Syntax.{Source, Statements}
use Rattle.lua_tree.specs.WellFormed.{formed_statements}
use Rattle.core_expr.specs.Values.{Inner}
use Rattle.recover_expr.specs.Placing.{Steps}
use Rattle.recover_expr.specs.Situation.{Function}
use Rattle.scheme.specs.Making.{Ahead, Maker}
use Rattle.scheme.specs.Scheme.{ahead_of}
use Rattle.scheme_stands.specs.Places.{Between, Here, ScopeAt, ahead_at, ahead_by, StandsApart, Mentions}
use Rattle.scheme_stands.specs.Words.{Fn}
use Rattle.scheme_stands.proofs.Growth.{spot}
use Rattle.scheme_stands.proofs.Here.{here_all, here_as}
use Rattle.scheme_stands.proofs.Makers.{begun}
use Rattle.same_flow.specs.SameFlow.{begun_of}
use Rattle.reads_back.proofs.ActiveCaptured.{AllHome, captures_active_params, home_below}
use Rattle.reads_back.proofs.CapturedFlow.{steps_capture_like, steps_capture_no_hidden}
use Rattle.reads_back.proofs.CapturedInEnd.{CapturedInside, captured_in_end}
use Rattle.reads_back.proofs.FlowPlaced.{AreCapturedLike}
use Rattle.reads_back.proofs.FlowThere.{IsFlowFunction}
use Rattle.reads_back.proofs.FunctionLocals.{number_at}
use Rattle.reads_back.proofs.KnownBeginnings.{main_ahead}
use Rattle.reads_back.proofs.NoLaterCaptured.{captures_no_later, counted_reached}
use Rattle.reads_back.proofs.StepsCatching.{comes_at}
use Rattle.reads_back.proofs.StepsOwn.{captures_own}
use Rattle.reads_back.proofs.StepsApart.{IsOutside}

-- Where all is known of the statements of a function at their place, its own locals alone are of the function, and what stands outside of them captures none of these.
pub flow_captured_like : {f : Function} {g : Fn} {z : Maker} {lefts : ℕ → List (Option Inner)} {parts : ℕ → tree.Part} {code : Steps} {params names : List Text} {ahead : Ahead} {block : Statements}
    (of : IsFlowFunction f g z lefts parts code params names ahead block) (takes : f.of.params ≡ length params) → formed_statements block ≡ true →
    (all : List Mark) (place : Place) (rest : List Mark) → Between all (statements_part block) place rest → ScopeAt place → (begun_of params names ahead).ahead ≡ ahead_at all place ((statements_part block place).marks ++ rest) →
    (declarations functions : ℕ) (marks : List Mark) → ahead ≡ ahead_by all declarations functions marks → AllHome declarations (innermost place.around) place.scope → CapturedInside all place block declarations →
    StandsApart all (statements_part block) place rest → Mentions (IsOutside place.declarations (statements_part block place).next.declarations) rest → AreCapturedLike of takes
flow_captured_like {code = code} {block = block} of takes formed all place rest between scope begun declarations functions marks ahead_is start inside apart outside =
    let counted = counted_reached all place block rest between.reached in
    let comes = comes_at of all place rest between scope formed begun declarations functions marks ahead_is counted start apart outside in
    captured_in_end of takes all place rest begun declarations functions marks ahead_is formed
    (steps_capture_like of place formed comes)
    (captures_active_params of formed all place rest begun declarations functions marks ahead_is counted scope.declared)
    (captures_no_later of place scope.declared)
    (captures_own of place formed scope.declared (number_at of formed all place rest begun) comes)
    (steps_capture_no_hidden of place formed comes)
    inside counted

-- The main function is such.
pub main_captured : (source : Source) {f : Function} {g : Fn} {z : Maker} {lefts : ℕ → List (Option Inner)} {parts : ℕ → tree.Part} {code : Steps} {names : List Text} {block : Statements}
    (of : IsFlowFunction f g z lefts parts code [] names (ahead_of (resolved source)) block) (takes : f.of.params ≡ length {A = Text} []) → formed_statements block ≡ true →
    ((place : Place) → statements_part block place ≡ statements_part source.body place) → AreCapturedLike of takes
main_captured source {block = block} of takes formed same =
    let all = outline source in
    let here : Here all (statements_part block) beginning [] (spot (begun source)) = here_as all (statements_part source.body) (statements_part block) beginning [] (spot (begun source)) (sym (same beginning)) (here_all source (spot (begun source)) refl) in
    let scope = here.scope in
    flow_captured_like of takes formed all beginning [] here.between scope here.ahead 0 1 all (main_ahead source) (home_below 0 (innermost beginning.around) beginning.scope scope.declared)
    (λ declaration low high. ap (λ (walk : tree.Walk). is_captured declaration walk.marks) (sym (same beginning))) here.apart tt
