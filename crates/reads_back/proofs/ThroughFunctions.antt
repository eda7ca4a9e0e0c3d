-- The parts of every statement of the main function, and of a function that stands in another, stand with their law.
use Rattle.std.proofs.Common.{◌≡◌, ◌≤◌, ◌∙◌, ℕ, Bool, List, [], ◌++◌, true, length, refl, sym, ap, subst, arith}
use Rattle.std.specs.Prelude.{None, Some}
use Rattle.lua_num.specs.Bytes.{Text}
use Rattle.lua_tree.specs.Outline.{Mark, Place, all_params, beginning, body_part, in_function, outline, statements_part}
use Rattle.lua_tree.specs.Scoping.{Scoped, upvalues_of}
use Rattle.lua_tree.specs.Syntax.{FunctionBody, function_body, Source, Statements}
use Rattle.lua_tree.specs.WellFormed.{WellFormed, formed_statements}
use Rattle.proto.specs.Chunk.{Chunk, own}
use Rattle.scheme.specs.Functions.{Finished, Heading, function_from, misfits_of, register_count, without_sources}
use Rattle.scheme.specs.Making.{Ahead, head_or}
use Rattle.scheme.specs.Scheme.{Fits, inner, scheme, statements_made}
use Rattle.scheme.specs.declared.making.Active.{Active}
use Rattle.scheme_stands.specs.Placed.{IsPlaced, NamedAt, RulesKept, names_of_seen}
use Rattle.scheme_stands.specs.Places.{ActiveAt, CapturesAre, Here}
use Rattle.scheme_stands.specs.Relation.{FunctionOf, MainAt, StatementsAt}
use Rattle.scheme_stands.specs.Words.{Names, Spot, asking, names_in, onto}
use Rattle.scheme_stands.proofs.Entering.{entered_by}
use Rattle.scheme_stands.proofs.Environment.{named_first}
use Rattle.scheme_stands.proofs.Every.{statements_at}
use Rattle.scheme_stands.proofs.Few.{kept}
use Rattle.scheme_stands.proofs.Growth.{back_empty, fn_of, later, spot}
use Rattle.scheme_stands.proofs.Here.{here_all}
use Rattle.scheme_stands.proofs.Lawful.{function_named}
use Rattle.scheme_stands.proofs.Locals.{active_first}
use Rattle.scheme_stands.proofs.Makers.{begun, block_final, block_of, body_begun, body_maker, main_maker, no_names}
use Rattle.scheme_stands.proofs.Sequences.{function_onwards}
use Rattle.scheme_stands.proofs.Small.{Setting}
use Rattle.scheme_stands.proofs.Statements.{grow_statements}
use Rattle.scheme_stands.proofs.Whole.{begins_there, begun_settled, limits_kept, statements_final, whole_stands}
use Rattle.scheme_stands.proofs.Words.{plain_first}
use Rattle.reads_back.proofs.ThroughStatements.{body_through}
use Rattle.reads_back.specs.Through.{BodyThrough}

-- ---- the main function

-- what the words of the chunk of a source stand with
abbrev pub NamesStand : Type 0
NamesStand = (source : Source) (name : Text) → WellFormed source → Scoped source → Fits source → MainAt (Some no_names) source (scheme source name)

pub main_through : (source : Source) → WellFormed source → Scoped source → Fits source → BodyThrough (asking no_names (fn_of (main_maker source))) (main_maker source) None source.body (begun source)
main_through source formed scoped fits =
    let z = main_maker source in
    let setting : Setting no_names (fn_of z) = record { lawless = refl; limits = (limits_kept 0 z (back_empty z.misfits (misfits_of 0 z) fits)).limits; few = omega arith } in
    body_through (outline source) (kept source scoped) no_names z setting source.body None (begun source) beginning [] formed.formed refl (later (omega arith) (block_final source fits)) refl
    (record { here = here_all source (spot (begun source)) refl; active_at = active_first; named = named_first (outline source); room = omega arith; plain = plain_first (fn_of z) (spot (begun source)) refl })

-- ---- a function that stands in another

abbrev heading_of : (params : List Text) (vararg : Bool) (first last : ℕ) → Heading
heading_of params vararg first last = record { source = None; first_line = first; last_line = last; params = length params; vararg = vararg }

module _ (params : List Text) (vararg : Bool) (block : Statements) (first last : ℕ) (method : Bool) (formed : formed_statements block ≡ true) where
  abbrev body : FunctionBody
  body = function_body params vararg block first last

  abbrev all_of : List Text
  all_of = all_params method params

  module _ (all : List Mark) (rules : RulesKept all) (place : Place) (rest : List Mark) (around : Names) (active : List Active) (p : Spot) (h : Here all (body_part method body) place rest p) (named : NamedAt all place active around)
      (c : CapturesAre all place active (upvalues_of place.functions all) (head_or [] p.ahead.sources)) (names : List Text) where
    abbrev inside : Names
    inside = record { around = names_in (onto active []) ++ around.around; upvalues = names_of_seen all place active (upvalues_of place.functions all) (head_or [] p.ahead.sources) c }

    abbrev made : Finished
    made = function_from (heading_of all_of vararg first last) last all_of (statements_made block None) names (without_sources p.ahead)

    through_inside : made.misfits ≡ [] → BodyThrough (asking inside (fn_of (body_maker body method names (without_sources p.ahead)))) (body_maker body method names (without_sources p.ahead)) None block (body_begun body method names (without_sources p.ahead))
    through_inside none =
        let m = body_begun body method names (without_sources p.ahead) in
        let z = body_maker body method names (without_sources p.ahead) in
        let t = whole_stands (heading_of all_of vararg first last) last all_of (statements_made block None) (λ f. StatementsAt f None block) (grow_statements block None) (λ z. statements_at z block None) refl names (without_sources p.ahead) none in
        let settled = begun_settled (heading_of all_of vararg first last) last all_of (statements_made block None) (λ f. StatementsAt f None block) (grow_statements block None) (λ z. statements_at z block None) refl names (without_sources p.ahead) in
        let final = statements_final (heading_of all_of vararg first last) last all_of (statements_made block None) (λ f. StatementsAt f None block) (grow_statements block None) (λ z. statements_at z block None) refl names (without_sources p.ahead) none in
        let named_now = function_named all rules method params vararg block first last place rest around active p made.ahead made.chunk h named c t in
        let onwards = function_onwards all method params vararg block first last place rest p made.ahead made.chunk (λ f. StatementsAt f None block) h t in
        let there = begins_there (heading_of all_of vararg first last) last all_of (statements_made block None) (λ f. StatementsAt f None block) (grow_statements block None) (λ z. statements_at z block None) refl names (without_sources p.ahead) none in
        let place = entered_by all_of first (in_function vararg place) in
        let setting : Setting inside (fn_of z) = record { lawless = refl; limits = t.limits; few = named_now.0 } in
        body_through all rules inside z setting block None m place rest formed settled (later (omega arith) final) refl
        (record {
          here = subst (Here all (statements_part block) place rest) there.0 onwards.here;
          active_at = subst (ActiveAt place) there.1 onwards.active_at;
          named = subst (λ active. NamedAt all place active inside) there.1 named_now.1;
          room = subst (λ active. length active ≤ register_count z) there.1 t.room;
          plain = plain_first (fn_of z) (spot m) (ap (λ (p : Spot). p.pc) (sym there.0) ∙ t.begins);
        })

pub function_through : (body : FunctionBody) (method : Bool) → formed_statements (block_of body) ≡ true → (n : Names) (before behind : Ahead) (chunk : Chunk) → FunctionOf body method (Some n) before behind chunk →
    BodyThrough (asking n (fn_of (body_maker body method (own chunk).upvalue_names before))) (body_maker body method (own chunk).upvalue_names before) None (block_of body) (body_begun body method (own chunk).upvalue_names before)
function_through (function_body params vararg block first last) method formed n before behind chunk at =
    let body = function_body params vararg block first last in
    let names = (own chunk).upvalue_names in
    let at_place : IsPlaced (body_part method body) n before = at.placed in
    let p : Spot = record { pc = 0; ahead = at_place.ahead; functions = 0 } in
    let fits : (inner body method names (without_sources at_place.ahead)).misfits ≡ [] = ap (λ before. (inner body method names before).misfits) (sym at_place.before_is) ∙ ap (λ (made : Finished). made.misfits) at.is in
    let through = through_inside params vararg block first last method formed at_place.all at_place.kept at_place.place at_place.rest at_place.around at_place.active p at_place.here at_place.named at_place.captures names fits in
    subst (λ before. BodyThrough (asking n (fn_of (body_maker body method names before))) (body_maker body method names before) None block (body_begun body method names before)) (sym at_place.before_is)
    (subst (λ n. BodyThrough (asking n (fn_of (body_maker body method names (without_sources at_place.ahead)))) (body_maker body method names (without_sources at_place.ahead)) None block (body_begun body method names (without_sources at_place.ahead))) (sym at_place.inside_is) through)
