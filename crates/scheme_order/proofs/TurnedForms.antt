-- A turned source keeps the rules of form where the source is plain: no operand of a test is a comparison, `and` or `or`.
use Rattle.std.proofs.Common.{◌≡◌, ℕ, ◌≤◌, Bool, true, false, List, [], ◌∷◌, ◌++◌, refl, sym, ap, ap₂, ◌∙◌, subst, inl, inr, arith}
use Rattle.std.specs.Prelude.{◌&&◌, ◌||◌, ◌⊎◌, not, nat_le, is_some}
use Rattle.std.proofs.lemmas.Bool.{false≢true, and_parts, and_from, or_right, leb-true, le-leb}
use Rattle.lua_num.specs.Bytes.{Text}
use Rattle.lua_tree.specs.Names.{is_name}
use Rattle.lua_tree.specs.Outline.{all_params}
use Rattle.lua_tree.specs.Precedence.{level_of_op, is_right_associative, level_of, is_unary, left_binds, right_binds}
use Rattle.lua_tree.specs.Syntax as syntax
use Rattle.lua_tree.specs.Syntax.{Statements, no_statements, Statement, assignment, call_statement, do_block, while_loop, repeat_loop, if_statement, numeric_for, generic_for, function_statement, local_function, local_statement, return_statement, break_statement, Branches, no_branches, branch, Otherwise, no_otherwise, otherwise, ForStep, no_step, by_step, FunctionBody, function_body, Expressions, no_expressions, Expression, nil_literal, number_literal, name_expression, function_expression, index_expression, field_expression, call_expression, method_call, and_expression, or_expression, binary_expression, unary_expression, constructor, parenthesized, Arguments, argument_list, text_argument, table_argument, Fields, no_fields, positional, named, keyed, Source}
use Rattle.lua_tree.specs.declared.tree.BinaryOp.{BinaryOp}
use Rattle.lua_tree.specs.declared.tree.UnaryOp.{UnaryOp}
use Rattle.lua_tree.specs.WellFormed.{ends_block, statement_takes_arguments, statement_begins_with_paren, may_follow, formed_statements, formed_statement, formed_branches, formed_otherwise, formed_step, formed_body, formed_expressions, formed_expression, formed_arguments, formed_fields, WellFormed}
use Rattle.scheme.specs.Expressions.{literal, is_comparison}
use Rattle.scheme.specs.Shapes.{Plainness, both, as_condition, plain_comparison, plain_statements, plain_statement, plain_branches, plain_otherwise, plain_step, plain_body, plain_values, plainness, plain_arguments, plain_fields, Plain}
use Rattle.scheme_order.specs.Turned.{ends_in_test, with_declared, with_all_declared, is_own, is_constant_literal, is_greater, is_turned, turned_both, turned_block, turned_statement, turned_branches, turned_otherwise, turned_step, turned_body, turned_expression, turned_arguments, turned_values, turned_fields, turned}
use Rattle.scheme_order.proofs.TurnedDepth.{block_depth}
use Rattle.scheme_order.proofs.TurnedShapes.{call_same, prefix_same, left_same, right_same, plain_level, targets_same, has_same, branches_same, ends_same, line_same, statement_begin_same, ends_block_same, statement_takes_same}

-- where it is plain, a part that was well-formed is
record Stays (plain was now : Bool) : Type 0 where
  formed : plain ≡ true → was ≡ true → now ≡ true

-- two parts
infixl 20 ◌and◌
◌and◌ : {p q a b a' b' : Bool} → Stays p a a' → Stays q b b' → Stays (p && q) (a && b) (a' && b')
◌and◌ {p} {q} {a} {b} {a'} {b'} l r = record {
  formed = λ plain was. and_from a' b' (l.formed (and_parts p q plain).0 (and_parts a b was).0) (r.formed (and_parts p q plain).1 (and_parts a b was).1);
}

-- with a test before it, and behind it
also : {q a b a' b' : Bool} → (a ≡ true → a' ≡ true) → Stays q b b' → Stays q (a && b) (a' && b')
also {a} {b} {a'} {b'} keeps r = record { formed = λ plain was. and_from a' b' (keeps (and_parts a b was).0) (r.formed plain (and_parts a b was).1) }

behind : {p a a' : Bool} (b : Bool) → Stays p a a' → Stays p (a && b) (a' && b)
behind {a} {a'} b l = record { formed = λ plain was. and_from a' b (l.formed plain (and_parts a b was).0) (and_parts a b was).1 }

-- what is not turned
unchanged : {p a : Bool} → Stays p a a
unchanged = record { formed = λ plain was. was }

-- where more is plain
where_plain : {p q a b : Bool} → (q ≡ true → p ≡ true) → Stays p a b → Stays q a b
where_plain more s = record { formed = λ plain. s.formed (more plain) }

-- three tests, and four, hold in whichever groups they are joined
grouped : (p q r : Bool) → ((p && q) && r) ≡ true → (p && (q && r)) ≡ true
grouped p q r f =
    let first = and_parts p q (and_parts (p && q) r f).0 in
    and_from p (q && r) first.0 (and_from q r first.1 (and_parts (p && q) r f).1)

four_grouped : (p q r s : Bool) → (((p && q) && r) && s) ≡ true → (p && (q && (r && s))) ≡ true
four_grouped p q r s f = grouped p q (r && s) (grouped (p && q) r s f)

-- a test that says the same
same : {a a' : Bool} → a' ≡ a → a ≡ true → a' ≡ true
same e f = e ∙ f

-- ---- plain as what is tested, or as a value

-- what of the two is asked for
abbrev plain_at : (tested : Bool) → Plainness → Bool
plain_at true p = p.condition
plain_at false p = p.value

valued : (tested : Bool) {p a b : Bool} → Stays p a b → Stays (plain_at tested (both p)) a b
valued true s = s
valued false s = s

conditioned : (tested : Bool) (l r : Plainness) {a b : Bool} → Stays (plain_at tested l && plain_at tested r) a b → Stays (plain_at tested (as_condition (l.condition && r.condition))) a b
conditioned true l r s = s
conditioned false l r s = record { formed = λ plain. absurd (false≢true plain) }

of_comparison : (tested comparison plain : Bool) → plain_at tested (plain_comparison comparison plain) ≡ true → plain ≡ true
of_comparison true true plain f = f
of_comparison false true plain f = absurd (false≢true f)
of_comparison true false plain f = f
of_comparison false false plain f = f

-- ---- a comparison that is turned

-- an operand of it needs no parentheses
binds_left : (own : List Text) (e : Expression) → (plainness e).value ≡ true → left_binds 3 false (turned_expression false own e) ≡ true
binds_left own e plain = left_same 3 false false own e ∙ le-leb 3 (level_of e) (let high = leb-true 4 (level_of e) (plain_level e plain) in omega arith)

binds_right : (own : List Text) (e : Expression) → (plainness e).value ≡ true → right_binds 3 false (turned_expression false own e) ≡ true
binds_right own e plain = right_same 3 false false own e ∙ or_right (is_unary e) (nat_le 4 (level_of e)) (plain_level e plain)

-- its operands, which bind more tightly
operands_formed : (own : List Text) (left right : Expression) → (plainness left).value ≡ true → (plainness right).value ≡ true
    → formed_expression (turned_expression false own left) ≡ true → formed_expression (turned_expression false own right) ≡ true
    → (left_binds 3 false (turned_expression false own right) && (right_binds 3 false (turned_expression false own left)
    && (formed_expression (turned_expression false own right) && formed_expression (turned_expression false own left)))) ≡ true
operands_formed own left right p q l r =
    let left' = turned_expression false own left in
    let right' = turned_expression false own right in
    and_from (left_binds 3 false right') (right_binds 3 false left' && (formed_expression right' && formed_expression left')) (binds_left own right q)
    (and_from (right_binds 3 false left') (formed_expression right' && formed_expression left') (binds_right own left p) (and_from (formed_expression right') (formed_expression left') r l))

-- the whole
turned_formed_by : (line : ℕ) (op : BinaryOp) (own : List Text) (left right : Expression) → is_greater op ≡ true → (plainness left).value ≡ true → (plainness right).value ≡ true
    → formed_expression (turned_expression false own left) ≡ true → formed_expression (turned_expression false own right) ≡ true
    → formed_expression (turned_both true line op (turned_expression false own left) (turned_expression false own right)) ≡ true
turned_formed_by line BinaryOp.Gt own left right f p q l r = operands_formed own left right p q l r
turned_formed_by line BinaryOp.Ge own left right f p q l r = operands_formed own left right p q l r
turned_formed_by line op own left right f p q l r = absurd (false≢true f)

-- only `>` and `>=` are turned
turned_greater : (tested : Bool) (own : List Text) (op : BinaryOp) (left right : Expression) → (tested && is_turned own op left right) ≡ true → is_greater op ≡ true
turned_greater tested own op left right f =
    let operands = (is_own own left || is_own own right) && not (is_constant_literal (literal left) || is_constant_literal (literal right)) in
    (and_parts (is_greater op) operands (and_parts tested (is_turned own op left right) f).1).0

abbrev StaysExpression : (tested : Bool) → (own : List Text) → Expression → Type 0
StaysExpression tested own e = Stays (plain_at tested (plainness e)) (formed_expression e) (formed_expression (turned_expression tested own e))

-- an operation of two operands, turned or not
both_stay : (turn : Bool) (line : ℕ) (op : BinaryOp) (own : List Text) (left right : Expression) → (turn ≡ true → is_greater op ≡ true)
    → StaysExpression false own left → StaysExpression false own right
    → Stays ((plainness left).value && (plainness right).value) (formed_expression (binary_expression line op left right))
    (formed_expression (turned_both turn line op (turned_expression false own left) (turned_expression false own right)))
both_stay true line op own left right greater l r = record {
  formed = λ plain was.
      let p = and_parts (plainness left).value (plainness right).value plain in
      let binds = right_binds (level_of_op op) (is_right_associative op) right in
      let forms = formed_expression left && formed_expression right in
      let f = and_parts (formed_expression left) (formed_expression right) (and_parts binds forms (and_parts (left_binds (level_of_op op) (is_right_associative op) left) (binds && forms) was).1).1 in
      turned_formed_by line op own left right (greater refl) p.0 p.1 (l.formed p.0 f.0) (r.formed p.1 f.1);
}
both_stay false line op own left right greater l r =
    also (same (left_same (level_of_op op) (is_right_associative op) false own left)) (also (same (right_same (level_of_op op) (is_right_associative op) false own right)) (l and r))

-- ---- what may follow a statement

-- a semicolon stands between, or the first takes no arguments, or the next begins with none
apart : (semi test takes takes' begins begins' : Bool) → begins' ≡ begins → (takes' ≡ takes) ⊎ (test ≡ true)
    → (semi || not (takes && begins)) ≡ true → ((semi || test) || not (takes' && begins')) ≡ true
apart true test takes takes' begins begins' e alike f = refl
apart false true takes takes' begins begins' e alike f = refl
apart false false takes takes' begins begins' e (inl d) f = ap₂ (λ t b. not (t && b)) d e ∙ f
apart false false takes takes' begins begins' e (inr d) f = absurd (false≢true d)

follows : (own other : List Text) (s : Statement) (semi : Bool) (rest : Statements)
    → may_follow s semi rest ≡ true → may_follow (turned_statement own s) (semi || ends_in_test s) (turned_block other rest) ≡ true
follows own other s semi no_statements f = refl
follows own other s semi (syntax.statement line next_semi next rest) f =
    let takes = statement_takes_arguments s in
    let takes' = statement_takes_arguments (turned_statement own s) in
    let begins = statement_begins_with_paren next in
    let begins' = statement_begins_with_paren (turned_statement other next) in
    let parts = and_parts (not (ends_block s)) (semi || not (takes && begins)) f in
    and_from (not (ends_block (turned_statement own s))) ((semi || ends_in_test s) || not (takes' && begins')) (ap not (ends_block_same own s) ∙ parts.0)
    (apart semi (ends_in_test s) takes takes' begins begins' (statement_begin_same other next) (statement_takes_same own s) parts.1)

-- ---- each part

mutual
  block_stays : (own : List Text) (block : Statements) → Stays (plain_statements block) (formed_statements block) (formed_statements (turned_block own block))
  block_stays own no_statements = unchanged
  block_stays own (syntax.statement line semi s rest) = statement_stays own s and also (follows own (with_declared own s) s semi rest) (block_stays (with_declared own s) rest)

  statement_stays : (own : List Text) (s : Statement) → Stays (plain_statement s) (formed_statement s) (formed_statement (turned_statement own s))
  statement_stays own (assignment targets es) =
      also (same (has_same own targets)) (also (same (targets_same own targets)) (values_stay own targets and also (same (has_same own es)) (values_stay own es)))
  statement_stays own (call_statement e) = also (same (call_same false own e)) (stays false own e)
  statement_stays own (do_block block) = block_stays own block
  statement_stays own (while_loop e block) = stays true own e and block_stays own block
  statement_stays own (repeat_loop block e) = block_stays own block and stays true (with_all_declared own block) e
  statement_stays own (if_statement branches last) = also (same (branches_same own branches)) (branches_stay own branches and otherwise_stays own last)
  statement_stays own (numeric_for name first last by block) =
      also (λ f. f) (where_plain (four_grouped (plainness first).value (plainness last).value (plain_step by) (plain_statements block))
      (stays false own first and (stays false own last and (step_stays own by and block_stays (name ∷ own) block))))
  statement_stays own (generic_for names es block) = also (λ f. f) (also (same (has_same own es)) (values_stay own es and block_stays (names ++ own) block))
  statement_stays own (function_statement path method body) = also (λ f. f) (also (λ f. f) (body_stays (is_some method) body))
  statement_stays own (local_function name body) = also (λ f. f) (body_stays false body)
  statement_stays own (local_statement names es) = also (λ f. f) (values_stay own es)
  statement_stays own (return_statement es) = values_stay own es
  statement_stays own break_statement = unchanged

  branches_stay : (own : List Text) (branches : Branches) → Stays (plain_branches branches) (formed_branches branches) (formed_branches (turned_branches own branches))
  branches_stay own no_branches = unchanged
  branches_stay own (branch e block rest) =
      where_plain (grouped (plainness e).condition (plain_statements block) (plain_branches rest)) (stays true own e and (block_stays own block and branches_stay own rest))

  otherwise_stays : (own : List Text) (last : Otherwise) → Stays (plain_otherwise last) (formed_otherwise last) (formed_otherwise (turned_otherwise own last))
  otherwise_stays own no_otherwise = unchanged
  otherwise_stays own (otherwise block) = block_stays own block

  step_stays : (own : List Text) (by : ForStep) → Stays (plain_step by) (formed_step by) (formed_step (turned_step own by))
  step_stays own no_step = unchanged
  step_stays own (by_step e) = stays false own e

  body_stays : (method : Bool) (body : FunctionBody) → Stays (plain_body body) (formed_body body) (formed_body (turned_body method body))
  body_stays method (function_body params vararg block first last) = also (λ f. f) (block_stays (all_params method params) block)

  values_stay : (own : List Text) (es : Expressions) → Stays (plain_values es) (formed_expressions es) (formed_expressions (turned_values own es))
  values_stay own no_expressions = unchanged
  values_stay own (syntax.expression e rest) = stays false own e and values_stay own rest

  stays : (tested : Bool) (own : List Text) (e : Expression) → StaysExpression tested own e
  stays tested own (nil_literal line) = unchanged
  stays tested own (function_expression line body) = valued tested (body_stays false body)
  stays tested own (index_expression line on key) = valued tested (also (same (prefix_same false own on)) (stays false own on and stays false own key))
  stays tested own (field_expression line on name) = valued tested (also (same (prefix_same false own on)) (behind (is_name name) (stays false own on)))
  stays tested own (call_expression line on args on_line) =
      valued tested (also (same (prefix_same false own on)) (stays false own on and also (same (line_same own args line on_line)) (arguments_stay own args)))
  stays tested own (method_call line on name args on_line) =
      valued tested (also (same (prefix_same false own on)) (stays false own on and also (λ f. f) (also (same (line_same own args line on_line)) (arguments_stay own args))))
  stays tested own (and_expression line left right) =
      conditioned tested (plainness left) (plainness right) (also (same (left_same 2 false tested own left))
      (also (same (right_same 2 false tested own right)) (stays tested own left and stays tested own right)))
  stays tested own (or_expression line left right) =
      conditioned tested (plainness left) (plainness right) (also (same (left_same 1 false tested own left))
      (also (same (right_same 1 false tested own right)) (stays tested own left and stays tested own right)))
  stays tested own (binary_expression line op left right) =
      where_plain (of_comparison tested (is_comparison op) ((plainness left).value && (plainness right).value))
      (both_stay (tested && is_turned own op left right) line op own left right (turned_greater tested own op left right) (stays false own left) (stays false own right))
  stays tested own (unary_expression line UnaryOp.Not e) = also (same (left_same 7 false tested own e)) (stays tested own e)
  stays tested own (unary_expression line op e) = valued tested (also (same (left_same 7 false false own e)) (stays false own e))
  stays tested own (constructor line fields) = valued tested (fields_stay own fields)
  stays tested own (parenthesized line e) = stays tested own e
  stays tested own e = unchanged

  arguments_stay : (own : List Text) (args : Arguments) → Stays (plain_arguments args) (formed_arguments args) (formed_arguments (turned_arguments own args))
  arguments_stay own (argument_list es) = values_stay own es
  arguments_stay own (text_argument text) = unchanged
  arguments_stay own (table_argument fields) = fields_stay own fields

  fields_stay : (own : List Text) (fields : Fields) → Stays (plain_fields fields) (formed_fields fields) (formed_fields (turned_fields own fields))
  fields_stay own no_fields = unchanged
  fields_stay own (positional e separator rest) = also (same (ends_same separator own rest)) (stays false own e and fields_stay own rest)
  fields_stay own (named name e separator rest) = also (same (ends_same separator own rest)) (also (λ f. f) (stays false own e and fields_stay own rest))
  fields_stay own (keyed key e separator rest) =
      also (same (ends_same separator own rest))
      (where_plain (grouped (plainness key).value (plainness e).value (plain_fields rest)) (stays false own key and (stays false own e and fields_stay own rest)))

-- a plain source
pub turned_formed : (source : Source) → WellFormed source → Plain source → WellFormed (turned source)
turned_formed source well plain = record {
  formed = (block_stays [] source.body).formed plain well.formed;
  shallow = subst (λ n. n ≤ 200) (sym (block_depth [] source.body)) well.shallow;
}
