-- From a statement to those behind it with the law asked: what is named there, and that there are registers for what is active.
use Rattle.std.proofs.Common.{◌≡◌, ◌≤◌, ℕ, ◌+◌, Bool, true, false, ◌&&◌, List, [], ◌∷◌, ◌++◌, length, refl, sym, ap, ◌∙◌, subst, arith}
use Rattle.std.specs.Prelude.{Option}
use Rattle.lua_tree.specs.Outline as outline
use Rattle.lua_tree.specs.Outline.{Mark, Place, declares, innermost, statements_part, statement_part, body_part, expressions_part}
use Rattle.lua_tree.specs.Syntax as syntax
use Rattle.lua_tree.specs.Syntax.{Statements, no_statements, Statement, assignment, call_statement, do_block, while_loop, repeat_loop, if_statement, numeric_for, generic_for, function_statement, local_function, local_statement, return_statement, break_statement}
use Rattle.lua_tree.specs.WellFormed.{may_follow, formed_statements, formed_statement}
use Rattle.lua_num.specs.Bytes.{Text}
use Rattle.lua_tree.specs.Syntax.{Expressions}
use Rattle.scheme.specs.declared.making.Active.{Active}
use Rattle.scheme_stands.specs.Words.{Names, Fn, Spot, Plain}
use Rattle.scheme_stands.specs.Functions.{Activated}
use Rattle.scheme_stands.specs.Statements.{LoopAt, LocalPartAt}
use Rattle.scheme_stands.specs.Relation.{all_related, FunctionOf, StatementsAt, StatementAt}
use Rattle.scheme_stands.specs.Placed.{NamedAt}
use Rattle.scheme_stands.specs.Places.{ActiveAt, Here}
use Rattle.scheme_stands.proofs.Counting.{expressions_closed, body_closed, statement_closed, declares_none}
use Rattle.scheme_stands.proofs.Entering.{behind_name, local_enters, local_function_enters}
use Rattle.scheme_stands.proofs.Environment.{named_locals, named_still}
use Rattle.scheme_stands.proofs.Walks.{and_left, and_right}
use Rattle.scheme_stands.proofs.Rooms.{adjust_room}
use Rattle.scheme_stands.proofs.Sequences.{onwards, here_statement}
use Rattle.scheme_stands.proofs.Small.{activated_length, declared_length}
use Rattle.scheme_stands.proofs.Lifts.{Stands}

-- ---- registers for what is active

local_room : (f : Fn) (names : List Text) (es : Expressions) (active after : List Active) (p q : Spot) → length active ≤ f.size → LocalPartAt f names (all_related f es) active after p q → length after ≤ f.size
local_room f names es active after p q h t = by names refl
  where
    more : length after ≡ length active + length names
    more = activated_length t.locals active after t.activated ∙ ap (λ k. length active + k) (declared_length names p.ahead t.locals (t.mid).ahead t.declared)

    by : (texts : List Text) → names ≡ texts → length after ≤ f.size
    by [] e = let l = ap length e in omega (arith, more, l, h)
    by (text ∷ texts) e =
        let l = ap length e in
        let k = adjust_room f es (length names) active (length active) t.mid q (omega (arith, l)) t.values_at in
        omega (arith, more, k)

stays_room : (f : Fn) (active after : List Active) → length active ≤ f.size → after ≡ active → length after ≤ f.size
stays_room f active after h e = subst (λ l. length l ≤ f.size) (sym e) h

statement_room : (f : Fn) (loop : Option LoopAt) (s : Statement) (active after : List Active) (p q : Spot) → length active ≤ f.size → StatementAt f loop s active after p q → length after ≤ f.size
statement_room f loop (local_statement names es) active after p q h t = local_room f names es active after p q h t
statement_room f loop (local_function text body) active after p q h t =
    let more = activated_length t.locals active after t.activated in
    let one = declared_length (text ∷ []) p.ahead t.locals (t.mid).ahead t.declared in
    let room = t.room in
    omega (arith, more, one, room)
statement_room f loop (assignment ts es) active after p q h t = stays_room f active after h t.stays
statement_room f loop (call_statement e) active after p q h t = stays_room f active after h t.stays
statement_room f loop (do_block b) active after p q h t = stays_room f active after h t.stays
statement_room f loop (while_loop e b) active after p q h t = stays_room f active after h t.stays
statement_room f loop (repeat_loop b e) active after p q h t = stays_room f active after h t.stays
statement_room f loop (if_statement bs o) active after p q h t = stays_room f active after h t.stays
statement_room f loop (numeric_for x a b c d) active after p q h t = stays_room f active after h t.stays
statement_room f loop (generic_for x a b) active after p q h t = stays_room f active after h t.stays
statement_room f loop (function_statement x a b) active after p q h t = stays_room f active after h t.stays
statement_room f loop (return_statement es) active after p q h t = stays_room f active after h t.stays
statement_room f loop break_statement active after p q h t = stays_room f active after h t.stays

pub statements_room : (f : Fn) (loop : Option LoopAt) (ss : Statements) (active after : List Active) (p q : Spot) → length active ≤ f.size → StatementsAt f loop ss active after p q → length after ≤ f.size
statements_room f loop no_statements active after p q h t = stays_room f active after h t.stays
statements_room f loop (syntax.statement line semi s ss) active after p q h t = statements_room f loop ss t.between after t.mid q (statement_room f loop s active t.between p t.mid h t.first_at) t.rest_at

-- ---- what is named

module _ (all : List Mark) (n : Names) (f : Fn) where
  stays_named : (line : ℕ) (s : Statement) (place : Place) (active after : List Active) → declares_none s ≡ true → after ≡ active → NamedAt all place active n → NamedAt all (statement_part line s place).next after n
  stays_named line s place active after d e g =
      let c = statement_closed line s place d in
      subst (λ l. NamedAt all (statement_part line s place).next l n) (sym e) (named_still all place (statement_part line s place).next active n c.scope c.counted.around g)

  named_behind : (loop : Option LoopAt) (line : ℕ) (s : Statement) (place : Place) (rest : List Mark) (active after : List Active) (p q : Spot) → Here all (statement_part line s) place rest p → ActiveAt place active → NamedAt all place active n → StatementAt f loop s active after p q → NamedAt all (statement_part line s place).next after n
  named_behind loop line (local_statement names es) place rest active after p q h now g t =
      let b = h.between in
      let e = local_enters all line names es f (all_related f es) active after p q place rest t b.reached h.ahead now in
      let p1 = (declares line 0 names place).next in
      let later = (expressions_part es p1).next in
      let c = expressions_closed es p1 in
      named_locals all (innermost later.around) place.declarations n names active after later.scope (λ other b k. h.scope.declared other b (sym (ap (λ (f : outline.Scope). f other) c.scope) ∙ k)) (subst (λ ls. Activated ls active after) e.0 t.activated)
      (named_still all place later active n c.scope c.counted.around g)
  named_behind loop line (local_function text body) place rest active after p q h now g t =
      let b = h.between in
      let e = local_function_enters all line text body f (FunctionOf body false) active after p q place rest t b.reached h.ahead now in
      let c = body_closed false body (behind_name line text place) in
      named_still all (behind_name line text place) (statement_part line (local_function text body) place).next after n c.scope c.counted.around
      (named_locals all (innermost place.around) place.declarations n (text ∷ []) active after place.scope h.scope.declared (subst (λ ls. Activated ls active after) e.0 t.activated) g)
  named_behind loop line (assignment ts es) place rest active after p q h now g t = stays_named line (assignment ts es) place active after refl t.stays g
  named_behind loop line (call_statement e) place rest active after p q h now g t = stays_named line (call_statement e) place active after refl t.stays g
  named_behind loop line (do_block b) place rest active after p q h now g t = stays_named line (do_block b) place active after refl t.stays g
  named_behind loop line (while_loop e b) place rest active after p q h now g t = stays_named line (while_loop e b) place active after refl t.stays g
  named_behind loop line (repeat_loop b e) place rest active after p q h now g t = stays_named line (repeat_loop b e) place active after refl t.stays g
  named_behind loop line (if_statement bs o) place rest active after p q h now g t = stays_named line (if_statement bs o) place active after refl t.stays g
  named_behind loop line (numeric_for x a b c d) place rest active after p q h now g t = stays_named line (numeric_for x a b c d) place active after refl t.stays g
  named_behind loop line (generic_for x a b) place rest active after p q h now g t = stays_named line (generic_for x a b) place active after refl t.stays g
  named_behind loop line (function_statement x a b) place rest active after p q h now g t = stays_named line (function_statement x a b) place active after refl t.stays g
  named_behind loop line (return_statement es) place rest active after p q h now g t = stays_named line (return_statement es) place active after refl t.stays g
  named_behind loop line break_statement place rest active after p q h now g t = stays_named line break_statement place active after refl t.stays g

  -- the first statement of some, and those behind it
  pub stands_statement : (line : ℕ) (semi : Bool) (s : Statement) (ss : Statements) (place : Place) (rest : List Mark) (active : List Active) (p : Spot) → Stands all n f (statements_part (syntax.statement line semi s ss)) place rest active p →
      Stands all n f (statement_part line s) place ((statements_part ss (statement_part line s place).next).marks ++ rest) active p
  stands_statement line semi s ss place rest active p w = record { here = here_statement all line semi s ss place rest p w.here; active_at = w.active_at; named = w.named; room = w.room; plain = w.plain }

  pub stands_onwards : (loop : Option LoopAt) (line : ℕ) (semi : Bool) (s : Statement) (ss : Statements) (place : Place) (rest : List Mark) (active between : List Active) (p m : Spot) → formed_statement s ≡ true → Stands all n f (statements_part (syntax.statement line semi s ss)) place rest active p → StatementAt f loop s active between p m → Plain f m.pc → Stands all n f (statements_part ss) (statement_part line s place).next rest between m
  stands_onwards loop line semi s ss place rest active between p m k w t plain =
      let o = onwards all f loop line semi s ss place rest active between p m k (record { here = w.here; active_at = w.active_at }) t in
      record {
        here = o.here;
        active_at = o.active_at;
        named = named_behind loop line s place _ active between p m (here_statement all line semi s ss place rest p w.here) w.active_at w.named t;
        room = statement_room f loop s active between p m w.room t;
        plain = plain;
      }

  -- what is named behind some statements
  pub named_statements : (loop : Option LoopAt) (ss : Statements) (place : Place) (rest : List Mark) (active after : List Active) (p q : Spot) → formed_statements ss ≡ true → Here all (statements_part ss) place rest p → ActiveAt place active → NamedAt all place active n → StatementsAt f loop ss active after p q → NamedAt all (statements_part ss place).next after n
  named_statements loop no_statements place rest active after p q k h a g t = subst (λ l. NamedAt all place l n) (sym t.stays) g
  named_statements loop (syntax.statement line semi s ss) place rest active after p q k h a g t =
      let k1 = and_left (formed_statement s) (may_follow s semi ss && formed_statements ss) k in
      let k2 = and_right (may_follow s semi ss) (formed_statements ss) (and_right (formed_statement s) (may_follow s semi ss && formed_statements ss) k) in
      let o = onwards all f loop line semi s ss place rest active t.between p t.mid k1 (record { here = h; active_at = a }) t.first_at in
      named_statements loop ss (statement_part line s place).next rest t.between after t.mid q k2 o.here o.active_at (named_behind loop line s place _ active t.between p t.mid (here_statement all line semi s ss place rest p h) a g t.first_at) t.rest_at
