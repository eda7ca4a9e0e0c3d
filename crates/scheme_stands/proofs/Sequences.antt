-- From one statement to the next: what is active and in scope behind it, and the place of those that follow.
use Rattle.std.proofs.Common.{◌≡◌, ℕ, Bool, true, false, List, [], ◌∷◌, ◌++◌, refl, sym, subst, arith, ap, ◌&&◌}
use Rattle.std.specs.Prelude.{None, Option}
use Rattle.lua_num.specs.Bytes.{Text}
use Rattle.lua_tree.specs.Outline.{Mark, Place, declares, body_part, statements_part, statement_part, all_params, in_function, beginning, outline, both, in_loop, expression_part}
use Rattle.lua_tree.specs.Syntax as syntax
use Rattle.lua_tree.specs.Syntax.{Statements, Statement, assignment, call_statement, do_block, while_loop, repeat_loop, if_statement, numeric_for, generic_for, function_statement, local_function, local_statement, return_statement, break_statement, FunctionBody, Source, function_body, Expression, no_statements}
use Rattle.lua_tree.specs.WellFormed.{formed_statement, formed_statements, may_follow}
use Rattle.scheme.specs.declared.making.Active.{Active}
use Rattle.lua_tree.specs.Resolved.{resolved}
use Rattle.proto.specs.Chunk.{Chunk}
use Rattle.scheme.specs.Making.{Ahead}
use Rattle.scheme.specs.Functions.{without_sources}
use Rattle.scheme.specs.Scheme.{ahead_of}
use Rattle.scheme_stands.proofs.Walks.{and_left, and_right}
use Rattle.scheme_stands.specs.Words.{Fn, Spot}
use Rattle.scheme_stands.specs.Functions.{FunctionAt, Step, Activated}
use Rattle.scheme_stands.specs.Statements.{LoopAt}
use Rattle.scheme_stands.specs.Relation.{StatementAt, FunctionOf, all_related, StatementsAt}
use Rattle.scheme_stands.specs.Places.{ActiveAt, ScopeAt, Here, Closed}
use Rattle.scheme_stands.proofs.Counting.{declares_closed, body_closed, statement_closed}
use Rattle.scheme_stands.proofs.Entering.{behind_name, local_enters, local_function_enters, entered_by, function_enters}
use Rattle.scheme_stands.proofs.Locals.{closed_active, closed_scope, names_scope, active_first}
use Rattle.scheme_stands.proofs.Here.{local_scope, here_first, here_second, tame_statement, tame_statements, here_function, here_entered, here_all, here_loop, tame_both, tame_expression}
use Rattle.scheme_stands.proofs.Scopes.{statement_moves, statements_move}

-- what is behind a statement: its active locals are those in scope there
pub record Behind (place : Place) (active : List Active) : Type 0 where
  pub active_at : ActiveAt place active
  pub scope : ScopeAt place

stays_behind : (line : ℕ) (s : Statement) (place : Place) (active after : List Active) → Closed (statement_part line s) place → after ≡ active → ActiveAt place active → ScopeAt place → Behind (statement_part line s place).next after
stays_behind line s place active after c e a k = record {
  active_at = subst (ActiveAt (statement_part line s place).next) (sym e) (closed_active (statement_part line s) place active c a);
  scope = closed_scope (statement_part line s) place c k;
}

-- the scope behind a `local function`
pub local_function_scope : (line : ℕ) (text : Text) (body : FunctionBody) (place : Place) → ScopeAt place → ScopeAt (statement_part line (local_function text body) place).next
local_function_scope line text body place s =
    let p1 = (declares line 0 (text ∷ []) place).next in
    closed_scope (body_part false body) (behind_name line text place) (body_closed false body (behind_name line text place))
    (names_scope 0 (text ∷ []) p1 place.declarations (omega arith) (closed_scope (declares line 0 (text ∷ [])) place (declares_closed line 0 (text ∷ []) place) s))

pub statement_behind : (all : List Mark) (f : Fn) (loop : Option LoopAt) (line : ℕ) (s : Statement) (place : Place) (rest : List Mark) (active after : List Active) (p q : Spot) → Here all (statement_part line s) place rest p → ActiveAt place active → StatementAt f loop s active after p q → Behind (statement_part line s place).next after
statement_behind all f loop line (local_statement names es) place rest active after p q h a t =
    let b = h.between in
    let e = local_enters all line names es f (all_related f es) active after p q place rest t b.reached h.ahead a in
    record { active_at = e.1; scope = local_scope line names es place h.scope }
statement_behind all f loop line (local_function text body) place rest active after p q h a t =
    let b = h.between in
    let e = local_function_enters all line text body f (FunctionOf body false) active after p q place rest t b.reached h.ahead a in
    record { active_at = e.2; scope = local_function_scope line text body place h.scope }
statement_behind all f loop line (assignment targets es) place rest active after p q h a t = stays_behind line (assignment targets es) place active after (statement_closed line (assignment targets es) place refl) t.stays a h.scope
statement_behind all f loop line (call_statement e) place rest active after p q h a t = stays_behind line (call_statement e) place active after (statement_closed line (call_statement e) place refl) t.stays a h.scope
statement_behind all f loop line (do_block block) place rest active after p q h a t = stays_behind line (do_block block) place active after (statement_closed line (do_block block) place refl) t.stays a h.scope
statement_behind all f loop line (while_loop e block) place rest active after p q h a t = stays_behind line (while_loop e block) place active after (statement_closed line (while_loop e block) place refl) t.stays a h.scope
statement_behind all f loop line (repeat_loop block e) place rest active after p q h a t = stays_behind line (repeat_loop block e) place active after (statement_closed line (repeat_loop block e) place refl) t.stays a h.scope
statement_behind all f loop line (if_statement arms last) place rest active after p q h a t = stays_behind line (if_statement arms last) place active after (statement_closed line (if_statement arms last) place refl) t.stays a h.scope
statement_behind all f loop line (numeric_for text first last step block) place rest active after p q h a t =
    stays_behind line (numeric_for text first last step block) place active after (statement_closed line (numeric_for text first last step block) place refl) t.stays a h.scope
statement_behind all f loop line (generic_for names es block) place rest active after p q h a t = stays_behind line (generic_for names es block) place active after (statement_closed line (generic_for names es block) place refl) t.stays a h.scope
statement_behind all f loop line (function_statement path method body) place rest active after p q h a t =
    stays_behind line (function_statement path method body) place active after (statement_closed line (function_statement path method body) place refl) t.stays a h.scope
statement_behind all f loop line (return_statement es) place rest active after p q h a t = stays_behind line (return_statement es) place active after (statement_closed line (return_statement es) place refl) t.stays a h.scope
statement_behind all f loop line break_statement place rest active after p q h a t = stays_behind line break_statement place active after (statement_closed line break_statement place refl) t.stays a h.scope

-- the first statement of a block
pub here_statement : (all : List Mark) (line : ℕ) (semi : Bool) (s : Statement) (ss : Statements) (place : Place) (rest : List Mark) (p : Spot) → Here all (statements_part (syntax.statement line semi s ss)) place rest p →
    Here all (statement_part line s) place ((statements_part ss (statement_part line s place).next).marks ++ rest) p
here_statement all line semi s ss place rest p h = here_first all (statement_part line s) (statements_part ss) place rest p (tame_statement line s) (tame_statements ss) h

-- and those behind it, with what is active there
pub record Onwards (all : List Mark) (ss : Statements) (place : Place) (rest : List Mark) (active : List Active) (p : Spot) : Type 0 where
  pub here : Here all (statements_part ss) place rest p
  pub active_at : ActiveAt place active

pub onwards : (all : List Mark) (f : Fn) (loop : Option LoopAt) (line : ℕ) (semi : Bool) (s : Statement) (ss : Statements) (place : Place) (rest : List Mark) (active between : List Active) (p m : Spot) → formed_statement s ≡ true →
    Onwards all (syntax.statement line semi s ss) place rest active p → StatementAt f loop s active between p m → Onwards all ss (statement_part line s place).next rest between m
onwards all f loop line semi s ss place rest active between p m k o t =
    let h = o.here in
    let b = statement_behind all f loop line s place _ active between p m (here_statement all line semi s ss place rest p h) o.active_at t in
    record {
      here = here_second all (statement_part line s) (statements_part ss) place rest p m (tame_statement line s) b.scope (statement_moves all f loop line s k active between p m t) h;
      active_at = b.active_at;
    }

-- ---- where functions begin

-- the statements of a function, behind its parameters
pub function_onwards : (all : List Mark) (method : Bool) (params : List Text) (vararg : Bool) (block : Statements) (first last : ℕ) (place : Place) (rest : List Mark) (p : Spot) (behind : Ahead) (chunk : Chunk) (body : Fn → Step) →
    Here all (body_part method (function_body params vararg block first last)) place rest p → (t : FunctionAt None (all_params method params) vararg body (without_sources p.ahead) behind chunk) →
    Onwards all block (entered_by (all_params method params) first (in_function vararg place)) rest t.active t.first
function_onwards all method params vararg block first last place rest p behind chunk body h t =
    let inside = here_function all method params vararg block first last place rest p h in
    let b = inside.between in
    let o = h.between in
    let e = function_enters all method params vararg block first last place rest (without_sources p.ahead) behind chunk body t b.reached o.around_it h.scope (ap without_sources h.ahead) in
    record {
      here = here_entered all method params vararg block first last (in_function vararg place) rest t.locals (record { pc = 0; ahead = without_sources p.ahead; functions = 0 }) t.first t.declared inside;
      active_at = e.1;
    }

-- the statements of the main chunk
pub main_onwards : (source : Source) (chunk : Chunk) (behind : Ahead) (body : Fn → Step) → (t : FunctionAt None [] true body (ahead_of (resolved source)) behind chunk) → Onwards (outline source) source.body beginning [] t.active t.first
main_onwards source chunk behind body t =
    let d = t.declared in
    let none : t.active ≡ [] = subst (λ ls. Activated ls [] t.active) d.0 t.activated in
    record { here = here_all source t.first d.1; active_at = subst (ActiveAt beginning) (sym none) active_first }

-- ---- behind a block's statements, where the test of a `repeat` stands

pub statements_behind : (all : List Mark) (f : Fn) (loop : Option LoopAt) (ss : Statements) (place : Place) (rest : List Mark) (active after : List Active) (p q : Spot) → formed_statements ss ≡ true → Onwards all ss place rest active p → StatementsAt f loop ss active after p q → Behind (statements_part ss place).next after
statements_behind all f loop no_statements place rest active after p q k o t = let h = o.here in record { active_at = subst (ActiveAt place) (sym t.stays) o.active_at; scope = h.scope }
statements_behind all f loop (syntax.statement line semi s ss) place rest active after p q k o t =
    let k1 = and_left (formed_statement s) (may_follow s semi ss && formed_statements ss) k in
    let k2 = and_right (may_follow s semi ss) (formed_statements ss) (and_right (formed_statement s) (may_follow s semi ss && formed_statements ss) k) in
    statements_behind all f loop ss (statement_part line s place).next rest t.between after t.mid q k2 (onwards all f loop line semi s ss place rest active t.between p t.mid k1 o t.first_at) t.rest_at

-- the body of a `repeat`, and its test
pub repeat_onwards : (all : List Mark) (line : ℕ) (block : Statements) (e : Expression) (place : Place) (rest : List Mark) (active : List Active) (p : Spot) → Here all (statement_part line (repeat_loop block e)) place rest p → ActiveAt place active →
    Onwards all block (in_loop place) ((expression_part e (statements_part block (in_loop place)).next).marks ++ rest) active p
repeat_onwards all line block e place rest active p h a =
    let i = here_loop all (both (statements_part block) (expression_part e)) place rest p (tame_both (statements_part block) (expression_part e) (tame_statements block) (tame_expression e)) h in
    record {
      here = here_first all (statements_part block) (expression_part e) (in_loop place) rest p (tame_statements block) (tame_expression e) i;
      active_at = record { counted = a.counted; low = a.low; order = a.order; stands = a.stands };
    }

pub until_here : (all : List Mark) (f : Fn) (loop : Option LoopAt) (line : ℕ) (block : Statements) (e : Expression) (place : Place) (rest : List Mark) (active inner : List Active) (p m : Spot) → formed_statements block ≡ true → Here all (statement_part line (repeat_loop block e)) place rest p → ActiveAt place active → StatementsAt f loop block active inner p m →
    Here all (expression_part e) (statements_part block (in_loop place)).next rest m × ActiveAt (statements_part block (in_loop place)).next inner
until_here all f loop line block e place rest active inner p m k h a t =
    let i = here_loop all (both (statements_part block) (expression_part e)) place rest p (tame_both (statements_part block) (expression_part e) (tame_statements block) (tame_expression e)) h in
    let b = statements_behind all f loop block (in_loop place) _ active inner p m k (repeat_onwards all line block e place rest active p h a) t in
    (here_second all (statements_part block) (expression_part e) (in_loop place) rest p m (tame_statements block) b.scope (statements_move all f loop block k active inner p m t) i, b.active_at)
