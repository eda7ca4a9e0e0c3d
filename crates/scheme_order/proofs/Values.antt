-- An expression agrees with the turned one, where the trees in it do.
use Rattle.std.proofs.Common.{◌≡◌, ℕ, Bool, true, false, List, [], refl, sym, ap, ◌∙◌, subst, subst₂, true≢false, ⊎_elim}
use Rattle.std.proofs.lemmas.Bool.{and_parts, or_cases}
use Rattle.std.specs.Prelude.{ℤ, ◌&&◌, ◌||◌}
use Rattle.lua_num.specs.Bytes.{Text}
use Rattle.lua_tree.specs.Scoping.{Use, local_use}
use Rattle.lua_tree.specs.Syntax as syntax
use Rattle.lua_tree.specs.Syntax.{FunctionBody, Expressions, no_expressions, Expression, nil_literal, true_literal, false_literal, vararg_expression, number_literal, text_literal, name_expression, function_expression, index_expression, field_expression, call_expression, method_call, and_expression, or_expression, binary_expression, unary_expression, constructor, parenthesized, Arguments, argument_list, text_argument, table_argument, Fields, no_fields, positional, named, keyed}
use Rattle.lua_tree.specs.WellFormed.{is_prefix, ends_item, on_its_line, is_target, formed_expression}
use Rattle.lua_tree.specs.Names.{is_name as is_name_text}
use Rattle.lua_tree.specs.Precedence.{left_binds, right_binds, level_of_op, is_right_associative}
use Rattle.lua_tree.specs.declared.tree.BinaryOp.{BinaryOp}
use Rattle.lua_tree.specs.declared.tree.Separator.{Separator}
use Rattle.lua_tree.specs.declared.tree.UnaryOp.{UnaryOp}
use Rattle.opcode.specs.declared.op.Op.{Op}
use Rattle.proto.specs.declared.parts.Constant.{Constant}
use Rattle.scheme.specs.Making.{Part, put}
use Rattle.scheme.specs.Expressions.{is_name, is_multiple, load, single}
use Rattle.scheme.specs.Scheme.{all_coded, coded, given, entries}
use Rattle.scheme.specs.declared.making.Piece.{Piece}
use Rattle.scheme_order.specs.Turned.{is_own, is_greater, is_turned, turned_op, turned_both, turned_body, turned_expression, turned_arguments, turned_values, turned_fields}
use Rattle.scheme_order.specs.Permuted.{OwnUse, TurnedUse, ComparedUse, ExpressionUses}
use Rattle.scheme_order.proofs.Makers.{Names, no_names, one_name, and_then, Agree, same_put, uses, uses_joined}
use Rattle.scheme_order.proofs.Trees.{SameLook, look_plain, look_same, name_one}
use Rattle.scheme_order.proofs.Expressions.{SameParts, Same, same_load, same_next_text, same_single, same_only, same_coded_name, same_index, same_field, same_paren, same_binary, same_unary, same_logic}
use Rattle.scheme_order.proofs.Turns.{takes_local, same_turned_left, same_turned_right}
use Rattle.scheme_order.proofs.Lists.{AllSame, all_none, all_more, SameGiven, same_given_list, same_given_one, same_call_at, same_method_at, same_call, same_vararg, SameEntries, entries_none, entries_positional, entries_named, entries_keyed, same_table_at, same_table}
use Rattle.scheme_order.proofs.Functions.{same_coded_function}
use Rattle.scheme_order.proofs.Claims.{none_by, one_by, both_by, BodyAgrees, ExpressionAgrees, ArgumentsAgree, AllAgree, FieldsAgree}

-- ---- an expression and its parts

-- the parts of an expression are its own
pub coded_e : (e : Expression) → (coded e).e ≡ e
coded_e (nil_literal line) = refl
coded_e e = refl

-- an expression and the turned one agree, with these names
abbrev SameOf : (tested : Bool) → (own : List Text) → Expression → Names → Names → Type 0
SameOf tested own e here there = Same here there (coded e) (coded (turned_expression tested own e))

-- what has no names and stays
steady_look : (e : Expression) → is_name e ≡ false → SameLook no_names no_names e e
steady_look e no_name = record { folds = refl; literals = refl; names = refl; calls = refl; varargs = refl; none = λ is. (refl, refl); one = λ is. absurd (true≢false (sym is ∙ no_name)) }

-- and is one value alone
steady_single : (line : ℕ) (e : Expression) (to : ℕ → Part) → is_name e ≡ false → is_multiple e ≡ false → is_target e ≡ false → ((r : ℕ) → Agree true no_names no_names (to r) (to r)) →
    Same no_names no_names (single line e to) (single line e to)
steady_single line e to no_name no_multi no_target s = same_only (same_single line e e to to (steady_look e no_name) s) no_multi no_target

-- `nil`
pub nil_agrees : (tested : Bool) (own : List Text) (line : ℕ) → ExpressionAgrees tested own (nil_literal line)
nil_agrees tested own line here there f u =
    none_by (SameOf tested own (nil_literal line)) here there u
    (steady_single line (nil_literal line) (λ r. put line (Piece.Abc Op.LoadNil r r 0)) refl refl refl (λ r. same_put line (Piece.Abc Op.LoadNil r r 0)))

-- `true`
pub true_agrees : (tested : Bool) (own : List Text) (line : ℕ) → ExpressionAgrees tested own (true_literal line)
true_agrees tested own line here there f u =
    none_by (SameOf tested own (true_literal line)) here there u
    (steady_single line (true_literal line) (λ r. put line (Piece.Abc Op.LoadBool r 1 0)) refl refl refl (λ r. same_put line (Piece.Abc Op.LoadBool r 1 0)))

-- `false`
pub false_agrees : (tested : Bool) (own : List Text) (line : ℕ) → ExpressionAgrees tested own (false_literal line)
false_agrees tested own line here there f u =
    none_by (SameOf tested own (false_literal line)) here there u
    (steady_single line (false_literal line) (λ r. put line (Piece.Abc Op.LoadBool r 0 0)) refl refl refl (λ r. same_put line (Piece.Abc Op.LoadBool r 0 0)))

-- `...`
pub vararg_agrees : (tested : Bool) (own : List Text) (line : ℕ) → ExpressionAgrees tested own (vararg_expression line)
vararg_agrees tested own line here there f u = none_by (SameOf tested own (vararg_expression line)) here there u (same_vararg line)

-- a number
pub number_agrees : (tested : Bool) (own : List Text) (line : ℕ) (n : ℤ) → ExpressionAgrees tested own (number_literal line n)
number_agrees tested own line n here there f u =
    none_by (SameOf tested own (number_literal line n)) here there u
    (steady_single line (number_literal line n) (λ r. load line r (Constant.Number n)) refl refl refl (λ r. same_load line r (Constant.Number n)))

-- a string
pub text_agrees : (tested : Bool) (own : List Text) (line : ℕ) (text : Text) → ExpressionAgrees tested own (text_literal line text)
text_agrees tested own line text here there f u =
    none_by (SameOf tested own (text_literal line text)) here there u
    (steady_single line (text_literal line text) (λ r. load line r (Constant.Text text)) refl refl refl (λ r. same_load line r (Constant.Text text)))

-- a name
pub name_agrees : (tested : Bool) (own : List Text) (line : ℕ) (text : Text) → ExpressionAgrees tested own (name_expression line text)
name_agrees tested own line text here there f u = one_by (SameOf tested own (name_expression line text)) here there u (same_coded_name line text)

-- a function
pub function_agrees : (tested : Bool) (own : List Text) (line : ℕ) (body : FunctionBody) → BodyAgrees false body → ExpressionAgrees tested own (function_expression line body)
function_agrees tested own line body p here there f u = same_coded_function line body (turned_body false body) (p here there f u)

-- an index expression
pub index_agrees : (tested : Bool) (own : List Text) (line : ℕ) (on key : Expression) → ExpressionAgrees false own on → ExpressionAgrees false own key →
    ExpressionAgrees tested own (index_expression line on key)
index_agrees tested own line on key p q here there f u =
    let parts = and_parts _ _ (and_parts (is_prefix on) _ f).1 in
    both_by (SameOf tested own (index_expression line on key)) here there u (λ one more again others v w.
    same_index line (index_expression line on key) (index_expression line (turned_expression false own on) (turned_expression false own key)) (look_plain refl refl refl refl refl refl refl)
    (p one again parts.0 v).value (q more others parts.1 w).value refl)

-- a field
pub field_agrees : (tested : Bool) (own : List Text) (line : ℕ) (on : Expression) (text : Text) → ExpressionAgrees false own on → ExpressionAgrees tested own (field_expression line on text)
field_agrees tested own line on text p here there f u =
    let parts = and_parts _ _ (and_parts (is_prefix on) _ f).1 in
    same_field line (field_expression line on text) (field_expression line (turned_expression false own on) text) text
    (look_plain refl refl refl refl refl refl refl) (p here there parts.0 u).value refl

-- a call
pub call_agrees : (tested : Bool) (own : List Text) (line : ℕ) (on : Expression) (args : Arguments) (on_line : ℕ) → ExpressionAgrees false own on → ArgumentsAgree own args →
    ExpressionAgrees tested own (call_expression line on args on_line)
call_agrees tested own line on args on_line p q here there f u =
    let parts = and_parts _ _ (and_parts (is_prefix on) _ f).1 in
    let formed = (and_parts (on_its_line args line on_line) _ parts.1).1 in
    both_by (SameOf tested own (call_expression line on args on_line)) here there u (λ one more again others v w.
    same_call line (call_expression line on args on_line) (call_expression line (turned_expression false own on) (turned_arguments own args) on_line) _ _
    (look_plain refl refl refl refl refl refl refl) refl
    (same_call_at line (p one again parts.0 v).value (q more others formed w line)))

-- a call of a method
pub method_agrees : (tested : Bool) (own : List Text) (line : ℕ) (on : Expression) (text : Text) (args : Arguments) (on_line : ℕ) → ExpressionAgrees false own on → ArgumentsAgree own args →
    ExpressionAgrees tested own (method_call line on text args on_line)
method_agrees tested own line on text args on_line p q here there f u =
    let parts = and_parts _ _ (and_parts (is_prefix on) _ f).1 in
    let formed = (and_parts (on_its_line args line on_line) _ (and_parts (is_name_text text) _ parts.1).1).1 in
    both_by (SameOf tested own (method_call line on text args on_line)) here there u (λ one more again others v w.
    same_call line (method_call line on text args on_line) (method_call line (turned_expression false own on) text (turned_arguments own args) on_line) _ _
    (look_plain refl refl refl refl refl refl refl) refl
    (same_method_at line text (p one again parts.0 v).value (q more others formed w line)))

-- `and`
pub and_agrees : (tested : Bool) (own : List Text) (line : ℕ) (left right : Expression) → ExpressionAgrees tested own left → ExpressionAgrees tested own right →
    ExpressionAgrees tested own (and_expression line left right)
and_agrees tested own line left right p q here there f u =
    let parts = and_parts _ _ (and_parts (right_binds 2 false right) _ (and_parts (left_binds 2 false left) _ f).1).1 in
    both_by (SameOf tested own (and_expression line left right)) here there u (λ one more again others v w.
    same_only
    (same_logic line false (and_expression line left right) (and_expression line (turned_expression tested own left) (turned_expression tested own right))
    (look_plain refl refl refl refl refl refl refl)
    (p one again parts.0 v).parts (q more others parts.1 w).parts) refl refl)

-- `or`
pub or_agrees : (tested : Bool) (own : List Text) (line : ℕ) (left right : Expression) → ExpressionAgrees tested own left → ExpressionAgrees tested own right →
    ExpressionAgrees tested own (or_expression line left right)
or_agrees tested own line left right p q here there f u =
    let parts = and_parts _ _ (and_parts (right_binds 1 false right) _ (and_parts (left_binds 1 false left) _ f).1).1 in
    both_by (SameOf tested own (or_expression line left right)) here there u (λ one more again others v w.
    same_only
    (same_logic line true (or_expression line left right) (or_expression line (turned_expression tested own left) (turned_expression tested own right))
    (look_plain refl refl refl refl refl refl refl)
    (p one again parts.0 v).parts (q more others parts.1 w).parts) refl refl)

-- `not`, under which a test goes on
pub not_agrees : (tested : Bool) (own : List Text) (line : ℕ) (e : Expression) → ExpressionAgrees tested own e → ExpressionAgrees tested own (unary_expression line UnaryOp.Not e)
not_agrees tested own line e p here there f u =
    let whole = unary_expression line UnaryOp.Not e in
    same_only (same_unary line UnaryOp.Not whole (turned_expression tested own whole) (look_same tested own whole here there u)
    (p here there (and_parts (left_binds 7 false e) _ f).1 u).parts) refl refl

-- `-`
pub negation_agrees : (tested : Bool) (own : List Text) (line : ℕ) (e : Expression) → ExpressionAgrees false own e → ExpressionAgrees tested own (unary_expression line UnaryOp.Neg e)
negation_agrees tested own line e p here there f u =
    let whole = unary_expression line UnaryOp.Neg e in
    same_only (same_unary line UnaryOp.Neg whole (turned_expression tested own whole) (look_same tested own whole here there u)
    (p here there (and_parts (left_binds 7 false e) _ f).1 u).parts) refl refl

-- `#`
pub length_agrees : (tested : Bool) (own : List Text) (line : ℕ) (e : Expression) → ExpressionAgrees false own e → ExpressionAgrees tested own (unary_expression line UnaryOp.Len e)
length_agrees tested own line e p here there f u =
    let whole = unary_expression line UnaryOp.Len e in
    same_only (same_unary line UnaryOp.Len whole (turned_expression tested own whole) (look_same tested own whole here there u)
    (p here there (and_parts (left_binds 7 false e) _ f).1 u).parts) refl refl

-- a constructor
pub constructor_agrees : (tested : Bool) (own : List Text) (line : ℕ) (fields : Fields) → FieldsAgree own fields → ExpressionAgrees tested own (constructor line fields)
constructor_agrees tested own line fields p here there f u = same_table line fields (turned_fields own fields) (p here there f u)

-- parentheses, under which a test goes on
pub paren_agrees : (tested : Bool) (own : List Text) (line : ℕ) (e : Expression) → ExpressionAgrees tested own e → ExpressionAgrees tested own (parenthesized line e)
paren_agrees tested own line e p here there f u =
    let whole = parenthesized line e in
    same_only (same_paren whole (turned_expression tested own whole) (look_same tested own whole here there u) (p here there f u).parts) refl refl

-- ---- a binary operator, turned or not

-- a local of the function is a name, which means a local
own_name : (own : List Text) (e : Expression) → is_own own e ≡ true → is_name e ≡ true
own_name own (name_expression line text) is = refl
own_name own (parenthesized line e) is = own_name own e is
own_name own e is = absurd (true≢false (sym is))

-- the number of its declaration, and its names in both
abbrev IsLocal : (here there : List Use) → Type 0
IsLocal here there = (d : ℕ) × (uses here ≡ one_name (local_use d)) × (uses there ≡ one_name (local_use d))

-- a local of the function means one in both
own_local : (own : List Text) (e : Expression) (here there : List Use) → is_own own e ≡ true → OwnUse (is_own own e) here → ExpressionUses false own e here there → IsLocal here there
own_local own e here there is o u =
    let (d, local) = subst (λ b. OwnUse b here) is o in
    let (meant, left, right) = name_one false own e here there (own_name own e is) u in
    (d, ap uses local, ap uses (right ∙ sym left ∙ local))

-- a local of the function is a name, by its parts too
coded_name_is : (own : List Text) (e : Expression) → is_own own e ≡ true → is_name (coded e).e ≡ true
coded_name_is own e is = ap is_name (coded_e e) ∙ own_name own e is

-- a comparison, and the other way round
abbrev TurnedParts : (own : List Text) → (line : ℕ) → BinaryOp → (left right : Expression) → Names → Names → Type 0
TurnedParts own line op left right here there =
    SameParts here there (coded (binary_expression line op left right)) (coded (binary_expression line (turned_op op) (turned_expression false own right) (turned_expression false own left)))

-- a value and the turned one agree
abbrev SameValues : (own : List Text) → (e : Expression) → (here there : List Use) → Type 0
SameValues own e here there = Same (uses here) (uses there) (coded e) (coded (turned_expression false own e))

-- where the left operand is a local
turned_on_left : (own : List Text) (line : ℕ) (op : BinaryOp) (left right : Expression) (one more again others : List Use) → is_greater op ≡ true → is_own own left ≡ true → IsLocal one again →
    SameValues own left one again → SameValues own right more others → TurnedParts own line op left right (and_then (uses one) (uses more)) (and_then (uses others) (uses again))
turned_on_left own line op left right one more again others greater is local s t =
    let (d, l, r) = local in
    let here = turned_expression false own left in
    let there = turned_expression false own right in
    let name = coded_name_is own left is in
    subst₂ (λ h k. TurnedParts own line op left right (and_then h (uses more)) (and_then (uses others) k)) (sym l) (sym r)
    (same_turned_left line op d (coded left) (coded right) (coded there) (coded here) left right there here greater
    (takes_local d (coded left) name) (takes_local d (coded here) (sym s.value.look.names ∙ name)) t.value)

-- where the right one is
turned_on_right : (own : List Text) (line : ℕ) (op : BinaryOp) (left right : Expression) (one more again others : List Use) → is_greater op ≡ true → is_own own right ≡ true → IsLocal more others →
    SameValues own left one again → SameValues own right more others → TurnedParts own line op left right (and_then (uses one) (uses more)) (and_then (uses others) (uses again))
turned_on_right own line op left right one more again others greater is local s t =
    let (d, l, r) = local in
    let here = turned_expression false own left in
    let there = turned_expression false own right in
    let name = coded_name_is own right is in
    subst₂ (λ h k. TurnedParts own line op left right (and_then (uses one) h) (and_then k (uses again))) (sym l) (sym r)
    (same_turned_right line op d (coded left) (coded right) (coded there) (coded here) left right there here greater
    (takes_local d (coded right) name) (takes_local d (coded there) (sym t.value.look.names ∙ name)) s.value)

-- where one of the operands is a local
turned_parts : (own : List Text) (line : ℕ) (op : BinaryOp) (left right : Expression) → is_greater op ≡ true → (is_own own left || is_own own right) ≡ true →
    ExpressionAgrees false own left → ExpressionAgrees false own right →
    formed_expression left ≡ true → formed_expression right ≡ true → (here there : List Use) →
    TurnedUse (is_own own left) (is_own own right) (ExpressionUses false own left) (ExpressionUses false own right) here there →
    TurnedParts own line op left right (uses here) (uses there)
turned_parts own line op left right greater owned p q f g here there u =
    let (one, more, again, others, v, w, left_own, right_own, l, r) = u in
    let s = p one again f v in
    let t = q more others g w in
    subst₂ (TurnedParts own line op left right) (sym (uses_joined one more l)) (sym (uses_joined others again r))
    (⊎_elim
    (λ is. turned_on_left own line op left right one more again others greater is (own_local own left one again is left_own v) s t)
    (λ is. turned_on_right own line op left right one more again others greater is (own_local own right more others is right_own w) s t)
    (or_cases (is_own own left) (is_own own right) owned))

-- a binary operator that is turned or not
compared_parts : (turn : Bool) (own : List Text) (line : ℕ) (op : BinaryOp) (left right : Expression) → (turn ≡ true → (is_greater op ≡ true) × ((is_own own left || is_own own right) ≡ true)) →
    ExpressionAgrees false own left → ExpressionAgrees false own right → formed_expression left ≡ true → formed_expression right ≡ true → (here there : List Use) →
    SameLook (uses here) (uses there) (binary_expression line op left right) (turned_both turn line op (turned_expression false own left) (turned_expression false own right)) →
    ComparedUse turn (is_own own left) (is_own own right) (ExpressionUses false own left) (ExpressionUses false own right) here there →
    SameParts (uses here) (uses there) (coded (binary_expression line op left right)) (coded (turned_both turn line op (turned_expression false own left) (turned_expression false own right)))
compared_parts true own line op left right is p q f g here there look u = turned_parts own line op left right (is refl).0 (is refl).1 p q f g here there u
compared_parts false own line op left right is p q f g here there look u =
    let whole = binary_expression line op left right in
    let other = binary_expression line op (turned_expression false own left) (turned_expression false own right) in
    both_by (λ h k. SameLook h k whole other → SameParts h k (coded whole) (coded other)) here there u
    (λ one more again others v w look. same_binary line op whole other look (p one again f v).parts (q more others g w).parts) look

-- a binary operator
pub binary_agrees : (tested : Bool) (own : List Text) (line : ℕ) (op : BinaryOp) (left right : Expression) → ExpressionAgrees false own left → ExpressionAgrees false own right →
    ExpressionAgrees tested own (binary_expression line op left right)
binary_agrees tested own line op left right p q here there f u =
    let whole = binary_expression line op left right in
    let turn = tested && is_turned own op left right in
    let behind = and_parts (left_binds (level_of_op op) (is_right_associative op) left) _ f in
    let formed = and_parts (formed_expression left) _ (and_parts (right_binds (level_of_op op) (is_right_associative op) right) _ behind.1).1 in
    same_only (compared_parts turn own line op left right (turned_is tested own op left right) p q formed.0 formed.1 here there (look_same tested own whole here there u) u) refl refl
  where
    turned_is : (tested : Bool) (own : List Text) (op : BinaryOp) (left right : Expression) → (tested && is_turned own op left right) ≡ true →
        (is_greater op ≡ true) × ((is_own own left || is_own own right) ≡ true)
    turned_is tested own op left right e =
        let parts = and_parts (is_greater op) _ (and_parts tested _ e).1 in
        (parts.0, (and_parts (is_own own left || is_own own right) _ parts.1).0)

-- ---- lists, arguments and fields

-- no expressions
pub all_none_agrees : (own : List Text) → AllAgree own no_expressions
all_none_agrees own here there f u = none_by (λ h k. AllSame h k [] []) here there u all_none

-- an expression and those that follow
pub all_more_agrees : (own : List Text) (e : Expression) (rest : Expressions) → ExpressionAgrees false own e → AllAgree own rest → AllAgree own (syntax.expression e rest)
all_more_agrees own e rest p q here there f u =
    let formed = and_parts (formed_expression e) _ f in
    both_by (λ h k. AllSame h k (all_coded (syntax.expression e rest)) (all_coded (turned_values own (syntax.expression e rest)))) here there u
    (λ one more again others v w. all_more (p one again formed.0 v) (q more others formed.1 w))

-- a string as the argument
pub text_argument_agrees : (own : List Text) (text : Text) → ArgumentsAgree own (text_argument text)
text_argument_agrees own text here there f u line =
    none_by (λ h k. SameGiven h k (given (text_argument text) line) (given (text_argument text) line)) here there u (same_given_one (same_next_text line text))

-- a list of arguments
pub list_agrees : (own : List Text) (es : Expressions) → AllAgree own es → ArgumentsAgree own (argument_list es)
list_agrees own es p here there f u line = same_given_list (p here there f u)

-- a table as the argument
pub table_agrees : (own : List Text) (fields : Fields) → FieldsAgree own fields → ArgumentsAgree own (table_argument fields)
table_agrees own _ p here there f u line = same_given_one (same_table_at line (p here there f u))

-- the entries of fields and of the turned ones, with these names
abbrev EntriesOf : (own : List Text) → Fields → Names → Names → Type 0
EntriesOf own fields here there = SameEntries here there (entries fields) (entries (turned_fields own fields))

-- no fields
pub no_fields_agree : (own : List Text) → FieldsAgree own no_fields
no_fields_agree own here there f u = none_by (EntriesOf own no_fields) here there u entries_none

-- a positional field and those that follow
pub positional_agrees : (own : List Text) (e : Expression) (separator : Separator) (rest : Fields) → ExpressionAgrees false own e → FieldsAgree own rest → FieldsAgree own (positional e separator rest)
positional_agrees own e separator rest p q here there f u =
    let formed = and_parts (formed_expression e) _ (and_parts (ends_item separator rest) _ f).1 in
    both_by (EntriesOf own (positional e separator rest)) here there u (λ one more again others v w. entries_positional (p one again formed.0 v) (q more others formed.1 w))

-- a named one
pub named_agrees : (own : List Text) (text : Text) (e : Expression) (separator : Separator) (rest : Fields) → ExpressionAgrees false own e → FieldsAgree own rest →
    FieldsAgree own (named text e separator rest)
named_agrees own text e separator rest p q here there f u =
    let formed = and_parts (formed_expression e) _ (and_parts (is_name_text text) _ (and_parts (ends_item separator rest) _ f).1).1 in
    both_by (EntriesOf own (named text e separator rest)) here there u (λ one more again others v w. entries_named text (p one again formed.0 v) (q more others formed.1 w))

-- one with a key
pub keyed_agrees : (own : List Text) (key e : Expression) (separator : Separator) (rest : Fields) → ExpressionAgrees false own key → ExpressionAgrees false own e → FieldsAgree own rest →
    FieldsAgree own (keyed key e separator rest)
keyed_agrees own key e separator rest p q r here there f u =
    let formed = and_parts (formed_expression key) _ (and_parts (ends_item separator rest) _ f).1 in
    let behind = and_parts (formed_expression e) _ formed.1 in
    let whole = keyed key e separator rest in
    both_by (EntriesOf own whole) here there u (λ one more again others v w.
    both_by (λ h k. EntriesOf own whole (and_then (uses one) h) (and_then (uses again) k)) more others w (λ first second third fourth x y.
    entries_keyed (p one again formed.0 v) (q first third behind.0 x) (r second fourth behind.1 y)))
