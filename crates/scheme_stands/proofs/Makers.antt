-- Each statement of a function stands, with its law, from the words that are made before it to those that are made with it.
use Rattle.std.proofs.Common.{◌≡◌, ◌≤◌, ◌∙◌, ℕ, Bool, List, [], ◌++◌, true, false, ◌&&◌, length, refl, sym, ap, subst, arith}
use Rattle.std.specs.Prelude.{None, Some}
use Rattle.lua_num.specs.Bytes.{Text}
use Rattle.lua_tree.specs.Outline.{Mark, Place, all_params, beginning, body_part, in_function, outline, statement_part, statements_part}
use Rattle.lua_tree.specs.Resolved.{resolved}
use Rattle.lua_tree.specs.Scoping.{Scoped, upvalues_of}
use Rattle.lua_tree.specs.Syntax as syntax
use Rattle.lua_tree.specs.Syntax.{FunctionBody, function_body, Source, Statements, no_statements}
use Rattle.lua_tree.specs.WellFormed.{WellFormed, formed_statement, formed_statements, may_follow}
use Rattle.opcode.specs.declared.op.Op.{Op}
use Rattle.proto.specs.Chunk.{Chunk, own}
use Rattle.scheme.specs.Functions.{Finished, Heading, empty_maker, function_from, misfits_of, register_count, whole_function, with_params, without_sources}
use Rattle.scheme.specs.Making.{Ahead, Maker, end_locals, head_or}
use Rattle.scheme.specs.Scheme.{Fits, ahead_of, inner, statement_made, statements_made}
use Rattle.scheme.specs.Statements.{settle}
use Rattle.scheme.specs.declared.making.Active.{Active}
use Rattle.scheme.specs.declared.making.Piece.{Piece}
use Rattle.scheme_stands.specs.Placed.{IsPlaced, NamedAt, RulesKept, names_of_seen}
use Rattle.scheme_stands.specs.Places.{ActiveAt, CapturesAre, Here}
use Rattle.scheme_stands.specs.Relation.{FunctionOf, StatementAt, StatementsAt}
use Rattle.scheme_stands.specs.Words.{Fn, Names, Spot, asking, names_in, onto}
use Rattle.scheme_stands.proofs.Blocks.{Settled, before_end}
use Rattle.scheme_stands.proofs.Counting.{statement_counted}
use Rattle.scheme_stands.proofs.Entering.{entered_by}
use Rattle.scheme_stands.proofs.Environment.{named_first}
use Rattle.scheme_stands.proofs.Every.{statement_at, statements_at}
use Rattle.scheme_stands.proofs.Few.{kept}
use Rattle.scheme_stands.proofs.Growth.{Final, back_empty, before, before_free, before_put, final_self, fn_of, front_empty, later, spot}
use Rattle.scheme_stands.proofs.Here.{here_all}
use Rattle.scheme_stands.proofs.Lawful.{function_named, statement_lift}
use Rattle.scheme_stands.proofs.Lifts.{Stands}
use Rattle.scheme_stands.proofs.Locals.{active_first}
use Rattle.scheme_stands.proofs.Sequences.{function_onwards}
use Rattle.scheme_stands.proofs.Small.{Setting}
use Rattle.scheme_stands.proofs.Standing.{stands_onwards, stands_statement}
use Rattle.scheme_stands.proofs.Statements.{grow_statement, grow_statements}
use Rattle.scheme_stands.proofs.Walks.{and_left, and_right}
use Rattle.scheme_stands.proofs.Whole.{begins_there, begun_settled, limits_kept, statements_final, whole_stands}
use Rattle.scheme_stands.proofs.Words.{plain_first}

-- ---- the main function in the making

-- before its statements, behind them, and when all of it is made
abbrev pub begun : Source → Maker
begun source = empty_maker (ahead_of (resolved source)) []

abbrev pub behind_block : Source → Maker
behind_block source = statements_made source.body None (begun source)

abbrev pub main_maker : Source → Maker
main_maker source = whole_function source.last_line [] (statements_made source.body None) (begun source)

pub block_final : (source : Source) → Fits source → Final 0 (behind_block source) (main_maker source)
block_final source fits =
    let z = main_maker source in
    let made = behind_block source in
    let k = limits_kept 0 z (back_empty z.misfits (misfits_of 0 z) fits) in
    before_end 0 made (before_put source.last_line (Piece.Abc Op.Return 0 1 0) (end_locals 0 made) (final_self z (front_empty z.misfits (misfits_of 0 z) fits) k.near))

-- ---- its statements

-- each stands from the spot before it to that behind it
abbrev pub StandFrom : Fn → Statements → Maker → Type 0
StandFrom f no_statements m = Unit {0}
StandFrom f (syntax.statement line semi s rest) m =
    let n = statement_made s line None m in
    StatementAt f None s m.active n.active (spot m) (spot n) × StandFrom f rest (settle n)

abbrev pub no_names : Names
no_names = record { around = []; upvalues = [] }

module _ (all : List Mark) (rules : RulesKept all) (n : Names) (z : Maker) (setting : Setting n (fn_of z)) where
  stand_from : (block : Statements) (m : Maker) (place : Place) (rest : List Mark) → formed_statements block ≡ true → Settled m → Final (length m.labels) (statements_made block None m) z → false ≡ place.looped →
      Stands all n (fn_of z) (statements_part block) place rest m.active (spot m) → StandFrom (asking n (fn_of z)) block m
  stand_from no_statements m place rest formed settled final plain stands = tt
  stand_from (syntax.statement line semi s more) m place rest formed settled final plain stands =
      let first = and_left (formed_statement s) (may_follow s semi more && formed_statements more) formed in
      let others = and_right (may_follow s semi more) (formed_statements more) (and_right (formed_statement s) (may_follow s semi more && formed_statements more) formed) in
      let o = statement_made s line None m in
      let grown = grow_statement s line None m settled in
      let here = before_free (length o.active) o (before (grow_statements more None (settle o) refl) final) in
      let at = statement_at z s line None m settled here in
      let lifted = statement_lift all rules line s first n (fn_of z) setting None place _ m.active o.active (spot m) (spot o) plain (stands_statement all n (fn_of z) line semi s more place rest m.active (spot m) stands) at in (
        lifted.is,
        stand_from more (settle o) (statement_part line s place).next rest others refl (later grown.more final) (plain ∙ sym (statement_counted line s place).looped)
            (stands_onwards all n (fn_of z) None line semi s more place rest m.active o.active (spot m) (spot o) first stands at lifted.plain),
      )

-- ---- the main function

module _ (source : Source) (formed : WellFormed source) (scoped : Scoped source) (fits : Fits source) where
  main_setting : Setting no_names (fn_of (main_maker source))
  main_setting = let z = main_maker source in record { lawless = refl; limits = (limits_kept 0 z (back_empty z.misfits (misfits_of 0 z) fits)).limits; few = omega arith }

  pub statements_stand : StandFrom (asking no_names (fn_of (main_maker source))) source.body (begun source)
  statements_stand =
      stand_from (outline source) (kept source scoped) no_names (main_maker source) main_setting source.body (begun source) beginning [] formed.formed refl (later (omega arith) (block_final source fits)) refl
      (record { here = here_all source (spot (begun source)) refl; active_at = active_first; named = named_first (outline source); room = omega arith; plain = plain_first (fn_of (main_maker source)) (spot (begun source)) refl })

-- ---- a function that stands in another

abbrev heading_of : (params : List Text) (vararg : Bool) (first last : ℕ) → Heading
heading_of params vararg first last = record { source = None; first_line = first; last_line = last; params = length params; vararg = vararg }

-- before its statements, and when all of it is made
abbrev pub body_begun : FunctionBody → (method : Bool) → (names : List Text) → Ahead → Maker
body_begun (function_body params vararg block first last) method names before = with_params (all_params method params) (empty_maker before names)

abbrev pub body_maker : FunctionBody → (method : Bool) → (names : List Text) → Ahead → Maker
body_maker (function_body params vararg block first last) method names before = whole_function last (all_params method params) (statements_made block None) (empty_maker before names)

abbrev pub block_of : FunctionBody → Statements
block_of (function_body params vararg block first last) = block

module _ (params : List Text) (vararg : Bool) (block : Statements) (first last : ℕ) (method : Bool) (formed : formed_statements block ≡ true) where
  abbrev body : FunctionBody
  body = function_body params vararg block first last

  abbrev all_of : List Text
  all_of = all_params method params

  module _ (all : List Mark) (rules : RulesKept all) (place : Place) (rest : List Mark) (around : Names) (active : List Active) (p : Spot) (h : Here all (body_part method body) place rest p) (named : NamedAt all place active around)
      (c : CapturesAre all place active (upvalues_of place.functions all) (head_or [] p.ahead.sources)) (names : List Text) where
    abbrev inside : Names
    inside = record { around = names_in (onto active []) ++ around.around; upvalues = names_of_seen all place active (upvalues_of place.functions all) (head_or [] p.ahead.sources) c }

    abbrev made : Finished
    made = function_from (heading_of all_of vararg first last) last all_of (statements_made block None) names (without_sources p.ahead)

    stands_inside : made.misfits ≡ [] → StandFrom (asking inside (fn_of (body_maker body method names (without_sources p.ahead)))) block (body_begun body method names (without_sources p.ahead))
    stands_inside none =
        let m = body_begun body method names (without_sources p.ahead) in
        let z = body_maker body method names (without_sources p.ahead) in
        let t = whole_stands (heading_of all_of vararg first last) last all_of (statements_made block None) (λ f. StatementsAt f None block) (grow_statements block None) (λ z. statements_at z block None) refl names (without_sources p.ahead) none in
        let settled = begun_settled (heading_of all_of vararg first last) last all_of (statements_made block None) (λ f. StatementsAt f None block) (grow_statements block None) (λ z. statements_at z block None) refl names (without_sources p.ahead) in
        let final = statements_final (heading_of all_of vararg first last) last all_of (statements_made block None) (λ f. StatementsAt f None block) (grow_statements block None) (λ z. statements_at z block None) refl names (without_sources p.ahead) none in
        let named_now = function_named all rules method params vararg block first last place rest around active p made.ahead made.chunk h named c t in
        let onwards = function_onwards all method params vararg block first last place rest p made.ahead made.chunk (λ f. StatementsAt f None block) h t in
        let there = begins_there (heading_of all_of vararg first last) last all_of (statements_made block None) (λ f. StatementsAt f None block) (grow_statements block None) (λ z. statements_at z block None) refl names (without_sources p.ahead) none in
        let place = entered_by all_of first (in_function vararg place) in
        let setting : Setting inside (fn_of z) = record { lawless = refl; limits = t.limits; few = named_now.0 } in
        stand_from all rules inside z setting block m place rest formed settled (later (omega arith) final) refl
        (record {
          here = subst (Here all (statements_part block) place rest) there.0 onwards.here;
          active_at = subst (ActiveAt place) there.1 onwards.active_at;
          named = subst (λ active. NamedAt all place active inside) there.1 named_now.1;
          room = subst (λ active. length active ≤ register_count z) there.1 t.room;
          plain = plain_first (fn_of z) (spot m) (ap (λ (p : Spot). p.pc) (sym there.0) ∙ t.begins);
        })

-- where it stands as the relation says
pub body_stands : (body : FunctionBody) (method : Bool) → formed_statements (block_of body) ≡ true → (n : Names) (before behind : Ahead) (chunk : Chunk) → FunctionOf body method (Some n) before behind chunk →
    StandFrom (asking n (fn_of (body_maker body method (own chunk).upvalue_names before))) (block_of body) (body_begun body method (own chunk).upvalue_names before)
body_stands (function_body params vararg block first last) method formed n before behind chunk at =
    let body = function_body params vararg block first last in
    let names = (own chunk).upvalue_names in
    let at_place : IsPlaced (body_part method body) n before = at.placed in
    let p : Spot = record { pc = 0; ahead = at_place.ahead; functions = 0 } in
    let fits : (inner body method names (without_sources at_place.ahead)).misfits ≡ [] = ap (λ before. (inner body method names before).misfits) (sym at_place.before_is) ∙ ap (λ (made : Finished). made.misfits) at.is in
    let stands = stands_inside params vararg block first last method formed at_place.all at_place.kept at_place.place at_place.rest at_place.around at_place.active p at_place.here at_place.named at_place.captures names fits in
    subst (λ before. StandFrom (asking n (fn_of (body_maker body method names before))) block (body_begun body method names before)) (sym at_place.before_is)
    (subst (λ n. StandFrom (asking n (fn_of (body_maker body method names (without_sources at_place.ahead)))) block (body_begun body method names (without_sources at_place.ahead))) (sym at_place.inside_is) stands)
