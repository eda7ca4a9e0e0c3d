-- The words of every well-formed expression capture what its marks do, for each use of it.
use Rattle.std.proofs.Common.{◌≡◌, ℕ, true, false, List, refl}
use Rattle.lua_tree.specs.Names.{is_name}
use Rattle.lua_tree.specs.Outline.{Place, arguments_part, both, expression_part, fields_part}
use Rattle.lua_tree.specs.Precedence.{left_binds, right_binds}
use Rattle.lua_tree.specs.Syntax as syntax
use Rattle.lua_tree.specs.Syntax.{Expressions, no_expressions, Arguments, argument_list, text_argument, table_argument, Fields, no_fields, positional, named, keyed, Expression, nil_literal, true_literal, false_literal, vararg_expression, number_literal, text_literal, name_expression, function_expression, index_expression, field_expression, call_expression, method_call, and_expression, or_expression, binary_expression, unary_expression, constructor, parenthesized}
use Rattle.lua_tree.specs.WellFormed.{ends_item, formed_arguments, formed_expression, formed_expressions, formed_fields, is_prefix, on_its_line}
use Rattle.recover_expr.specs.Situation.{Function}
use Rattle.scheme.specs.declared.making.Active.{Active}
use Rattle.scheme_stands.specs.Expressions.{form_of, rel_alone, rel_single, several}
use Rattle.scheme_stands.specs.Lists.{CallAt, MethodAt, TableAt}
use Rattle.scheme_stands.specs.Relation.{ItemsAt, given_rel, related}
use Rattle.scheme_stands.specs.Words.{Fn, Spot, Stretch}
use Rattle.scheme_stands.proofs.Walks.{and_left, and_right}
use Rattle.reads_back.proofs.CapturedExpressions.{RelCatches, ValueCatches, binary_all, binary_value, call_all, call_caught, field_all, index_all, literal_caught, load_caught, logic_all, logic_value, method_caught, moved_caught, name_all, named_caught, paren_all, single_caught, unary_all, unary_value, vararg_all}
use Rattle.reads_back.proofs.CapturedLeaves.{function_caught}
use Rattle.reads_back.proofs.CapturedLists.{AllCaught, ExpressionCaught, FieldsCaught, items_caught, open_caught}
use Rattle.reads_back.proofs.CapturedStretches.{Onward, Catches, Catching, abc_still, abx_still, caught_from, caught_none}

module _ {f : Function} {g : Fn} {all : Onward} {base : Place} {active : List Active} (of : Catching f g all base active) where
  -- what has a value alone
  value_all : (e : Expression) (to : List Active → (free r : ℕ) → Stretch) → ((free r : ℕ) (p q : Spot) → to active free r p q → Catches f all base active (expression_part e) p q) → ValueCatches f all base active (expression_part e) (rel_alone g (form_of e) to)
  value_all e to one = record { named = named_caught of e; bare = λ p q at. at; quiet = literal_caught of e; to_reg = one }

  plain_all : (e : Expression) (to : List Active → (free r : ℕ) → Stretch) → several (form_of e) ≡ false → ((free r : ℕ) (p q : Spot) → to active free r p q → Catches f all base active (expression_part e) p q) → RelCatches f all base active (expression_part e) false (rel_single g (form_of e) to)
  plain_all e to single one = single_caught of (expression_part e) (form_of e) to single (value_all e to one)

  mutual
    pub expression_caught : (e : Expression) → formed_expression e ≡ true → ExpressionCaught of e
    expression_caught (nil_literal line) h = plain_all (nil_literal line) _ refl (λ free r p q at. caught_none (abc_still of.is_function refl at))
    expression_caught (true_literal line) h = plain_all (true_literal line) _ refl (λ free r p q at. caught_none (abc_still of.is_function refl at))
    expression_caught (false_literal line) h = plain_all (false_literal line) _ refl (λ free r p q at. caught_none (abc_still of.is_function refl at))
    expression_caught (vararg_expression line) h = vararg_all of line
    expression_caught (number_literal line n) h = plain_all (number_literal line n) _ refl (λ free r p q at. caught_none (abx_still of.is_function refl at.word))
    expression_caught (text_literal line text) h = plain_all (text_literal line text) _ refl (λ free r p q at. caught_none (abx_still of.is_function refl at.word))
    expression_caught (name_expression line text) h = name_all of line text
    expression_caught (function_expression line body) h = plain_all (function_expression line body) _ refl (function_caught of body false h)
    expression_caught (index_expression line on key) h =
        let inside = and_right (is_prefix on) _ h in
        let first = expression_caught on (and_left (formed_expression on) (formed_expression key) inside) in
        let second = expression_caught key (and_right (formed_expression on) (formed_expression key) inside) in
        index_all of (expression_part on) (expression_part key) line on key (related g on) (related g key) first.value second.value
    expression_caught (field_expression line on text) h =
        let first = expression_caught on (and_left (formed_expression on) _ (and_right (is_prefix on) _ h)) in
        field_all of (expression_part on) (related g on) text first.value
    expression_caught (call_expression line on args on_line) h =
        let inside = and_right (is_prefix on) _ h in
        let first = expression_caught on (and_left (formed_expression on) _ inside) in
        let given = given_caught args (and_right (on_its_line args line on_line) (formed_arguments args) (and_right (formed_expression on) _ inside)) in
        call_all of (both (expression_part on) (arguments_part args)) (form_of (call_expression line on args on_line)) (CallAt g (related g on) (given_rel g args)) refl refl
        (call_caught of (expression_part on) (arguments_part args) (related g on) (given_rel g args) first.value given)
    expression_caught (method_call line on text args on_line) h =
        let inside = and_right (formed_expression on) _ (and_right (is_prefix on) _ h) in
        let first = expression_caught on (and_left (formed_expression on) _ (and_right (is_prefix on) _ h)) in
        let given = given_caught args (and_right (on_its_line args line on_line) (formed_arguments args) (and_right (is_name text) _ inside)) in
        call_all of (both (expression_part on) (arguments_part args)) (form_of (method_call line on text args on_line)) (MethodAt g (related g on) text (given_rel g args)) refl refl
        (method_caught of (expression_part on) (arguments_part args) (related g on) text (given_rel g args) first.value given)
    expression_caught (and_expression line left right) h =
        let inside = and_right (right_binds 2 false right) _ (and_right (left_binds 2 false left) _ h) in
        let first = expression_caught left (and_left (formed_expression left) (formed_expression right) inside) in
        let second = expression_caught right (and_right (formed_expression left) (formed_expression right) inside) in
        logic_all of (expression_part left) (expression_part right) (related g left) (related g right) _ _ first second false (form_of (and_expression line left right)) refl
        (value_all (and_expression line left right) _ (logic_value of (expression_part left) (expression_part right) (related g left) (related g right) _ _ first second false))
    expression_caught (or_expression line left right) h =
        let inside = and_right (right_binds 1 false right) _ (and_right (left_binds 1 false left) _ h) in
        let first = expression_caught left (and_left (formed_expression left) (formed_expression right) inside) in
        let second = expression_caught right (and_right (formed_expression left) (formed_expression right) inside) in
        logic_all of (expression_part left) (expression_part right) (related g left) (related g right) _ _ first second true (form_of (or_expression line left right)) refl
        (value_all (or_expression line left right) _ (logic_value of (expression_part left) (expression_part right) (related g left) (related g right) _ _ first second true))
    expression_caught (binary_expression line op left right) h =
        let inside = and_right _ _ (and_right _ _ h) in
        let first = expression_caught left (and_left (formed_expression left) (formed_expression right) inside) in
        let second = expression_caught right (and_right (formed_expression left) (formed_expression right) inside) in
        let e = binary_expression line op left right in
        binary_all of (expression_part left) (expression_part right) (related g left) (related g right) _ _ first second op line left right
        (single_caught of (expression_part e) (form_of e) _ refl (value_all e _ (load_caught of _ e _ refl (binary_value of (expression_part left) (expression_part right) (related g left) (related g right) _ _ first second op))))
    expression_caught (unary_expression line op e) h =
        let first = expression_caught e (and_right (left_binds 7 false e) (formed_expression e) h) in
        let x = unary_expression line op e in
        unary_all of op (expression_part e) x (related g e) _ first (single_caught of (expression_part e) (form_of x) _ refl (value_all x _ (load_caught of _ x _ refl (unary_value of op (expression_part e) (related g e) first.value))))
    expression_caught (constructor line items) h =
        let each = fields_caught items h in
        plain_all (constructor line items) _ refl (λ free r p q at. moved_caught of (fields_part items) (TableAt g (λ t. ItemsAt g items active t 0 0) free) free r p q (λ m at. caught_from (abc_still of.is_function refl at.word) (items_caught of items each free 0 0 at.mid m at.items_at)) at)
    expression_caught (parenthesized line e) h =
        let first = expression_caught e h in
        paren_all of (expression_part e) line e (related g e) _ (λ p q is passed. named_caught of e is p q passed) (λ k p q is still. literal_caught of (parenthesized line e) k is p q still) first

    given_caught : (args : Arguments) → formed_arguments args ≡ true → (free : ℕ) (p q : Spot) → (given_rel g args).part active free p q → Catches f all base active (arguments_part args) p q
    given_caught (argument_list es) h free p q at = open_caught of es (all_caught es h) free p q at
    given_caught (text_argument text) h free p q at = caught_none (abx_still of.is_function refl at.value_at.word)
    given_caught (table_argument items) h free p q at = caught_from (abc_still of.is_function refl at.word) (items_caught of items (fields_caught items h) free 0 0 at.mid q at.items_at)

    pub all_caught : (es : Expressions) → formed_expressions es ≡ true → AllCaught of es
    all_caught no_expressions h = tt
    all_caught (syntax.expression e es) h = (expression_caught e (and_left (formed_expression e) (formed_expressions es) h), all_caught es (and_right (formed_expression e) (formed_expressions es) h))

    fields_caught : (items : Fields) → formed_fields items ≡ true → FieldsCaught of items
    fields_caught no_fields h = tt
    fields_caught (positional e separator rest) h =
        let inside = and_right (ends_item separator rest) _ h in
        (expression_caught e (and_left (formed_expression e) (formed_fields rest) inside), fields_caught rest (and_right (formed_expression e) (formed_fields rest) inside))
    fields_caught (named text e separator rest) h =
        let inside = and_right (is_name text) _ (and_right (ends_item separator rest) _ h) in
        (expression_caught e (and_left (formed_expression e) (formed_fields rest) inside), fields_caught rest (and_right (formed_expression e) (formed_fields rest) inside))
    fields_caught (keyed key e separator rest) h =
        let inside = and_right (ends_item separator rest) _ h in
        let behind = and_right (formed_expression key) _ inside in
        (expression_caught key (and_left (formed_expression key) _ inside), expression_caught e (and_left (formed_expression e) (formed_fields rest) behind), fields_caught rest (and_right (formed_expression e) (formed_fields rest) behind))
