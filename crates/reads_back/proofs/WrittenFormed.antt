-- What is written of a value or of a test is well formed, and no deeper than its levels tell, where the functions that are left are so.
use Rattle.std.proofs.Common.{◌≡◌, ℕ, ◌≤◌, Bool, true, false, not, ◌&&◌, ◌||◌, List, [], ◌∷◌, Option, Some, None, is_some, refl, sym, ap, ◌∙◌, subst, arith, le-leb, length}
use Rattle.std.specs.Prelude.{ℤ, pos, negsuc, ◌==◌, ◌-◌, ◌^◌, suc, slice_get, if◌then◌else◌}
use Rattle.std.proofs.lemmas.Bool.{leb-true}
use Rattle.std.proofs.lemmas.Option.{same_Some}
use Rattle.lua_num.specs.Bytes.{Text}
use Rattle.lua_tree.specs.Names.{is_name}
use Rattle.lua_tree.specs.Precedence.{is_right_associative, is_unary, left_binds, level_of, level_of_op, right_binds}
use Rattle.lua_tree.specs.Syntax.{Expression, Fields, no_fields, true_literal, false_literal}
use Rattle.lua_tree.specs.WellFormed.{depth_of_arguments, depth_of_body, depth_of_expression, depth_of_expressions, depth_of_fields, ends_item, formed_arguments, formed_body, formed_expression, formed_expressions, formed_fields, is_prefix, on_its_line}
use Rattle.lua_tree.specs.declared.tree.BinaryOp.{BinaryOp}
use Rattle.lua_tree.specs.declared.tree.Separator.{Separator}
use Rattle.lua_tree.specs.declared.tree.UnaryOp.{UnaryOp}
use Rattle.proto.specs.declared.parts.Constant.{Constant}
use Rattle.core_expr.specs.Counting.{left_by, left_by_operand, taken_behind, taken_behind_operand, with_constant}
use Rattle.proto.specs.declared.parts.LocVar.{LocVar}
use Rattle.core_expr.specs.Places.{Place, as_name, constant_at, constant_name, field_name, field_number, local_name, name_of_entry, name_of_local, name_of_number, text_at, upvalue_name}
use Rattle.core_expr.specs.Targets.{can_write_both, is_swapped, mirrored, word_both}
use Rattle.core_expr.specs.Values.{Inner, ItemList, OperandList, OperandValue, Value, Values, and_keyed, and_operand, and_positional, and_value, binary_value, bool_value, call_value, concat_value, constant_operand, constant_value, function_value, global_value, index_value, local_value, method_value, nil_value, no_items, no_operands, no_values, table_value, unary_value, upvalue_value, value_operand, vararg_value}
use Rattle.core_expr.specs.Writing.{function_left, function_word, ArgumentWording, FieldWording, Wording, Wordings, and_item, and_keyed_item, and_wording, applied, as_arguments, as_list, as_prefix, as_text_argument, can_write, can_write_items, can_write_operand, can_write_operands, can_write_values, chained, constant_word, ends_items, ends_values, in_parentheses, is_bare, is_multiple, is_power, joined, literal, name_word, number_word, numeral, on_left, on_right, separator_before, single, text_or_empty, truth, unless, with_arguments, with_binary, with_field, with_index, with_items, with_key, with_method, with_unary, word, word_each, word_items, word_keys, word_only, word_operand, word_short, word_values}
use Rattle.recover_expr.specs.Testing.{TestedValue, tested_comparison, tested_value}
use Rattle.scheme.specs.Shapes.{plain_body}
use Rattle.reads_back.proofs.FunctionsLeft.{EachLeft, each_by, each_by_operand, left_there}
use Rattle.reads_back.proofs.TestedAs.{can_test, condition_word}
use Rattle.reads_back.proofs.Tests.{both_hold, first_of_both, given_is, not_so, second_of_both, test_holds}

-- ---- functions that are left

-- a function that is left is well formed, no deeper than its levels tell, and plain
pub record IsFineFunction (found : Inner) : Type 0 where
  pub formed : formed_body found.body ≡ true
  pub shallow : found.levels ≤ 1000 → depth_of_body found.body ≤ found.levels
  pub plain : plain_body found.body ≡ true

-- each is
abbrev pub AreFineLeft : List (Option Inner) → Type 0
AreFineLeft left = EachLeft (λ number found. IsFineFunction found) 0 left

-- ---- expressions from their parts

pub record IsFine (w : Wording) : Type 0 where
  pub formed : formed_expression w.words ≡ true
  pub shallow : w.levels ≤ 1000 → depth_of_expression w.words ≤ w.levels

pub record AreFine (ws : Wordings) : Type 0 where
  pub formed : formed_expressions ws.words ≡ true
  pub shallow : ws.levels ≤ 1000 → depth_of_expressions ws.words ≤ ws.levels

record AreGiven (args : ArgumentWording) : Type 0 where
  formed : formed_arguments args.words ≡ true
  on_line : on_its_line args.words 1 1 ≡ true
  shallow : args.levels ≤ 1000 → depth_of_arguments args.words ≤ args.levels

record AreFields (ws : FieldWording) : Type 0 where
  formed : formed_fields ws.words ≡ true
  shallow : ws.levels ≤ 1000 → depth_of_fields ws.words ≤ ws.levels

parenthesized_fine : (w : Wording) → IsFine w → IsFine (in_parentheses w)
parenthesized_fine w fine = record { formed = fine.formed; shallow = λ few. let low = fine.shallow (omega (arith, few)) in omega (arith, low, few) }

unless_fine : (b : Bool) (w : Wording) → IsFine w → IsFine (unless b w)
unless_fine true w fine = fine
unless_fine false w fine = parenthesized_fine w fine

pub prefix_by : (b : Bool) (w : Wording) → is_prefix w.words ≡ b → is_prefix (unless b w).words ≡ true
prefix_by true w is = is
prefix_by false w is = refl

prefix_is : (w : Wording) → is_prefix (as_prefix w).words ≡ true
prefix_is w = prefix_by (is_prefix w.words) w refl

prefix_fine : (w : Wording) → IsFine w → IsFine (as_prefix w)
prefix_fine w fine = unless_fine (is_prefix w.words) w fine

left_by_test : (b : Bool) (op : BinaryOp) (w : Wording) → left_binds (level_of_op op) (is_right_associative op) w.words ≡ b → left_binds (level_of_op op) (is_right_associative op) (unless b w).words ≡ true
left_by_test true op w is = is
left_by_test false BinaryOp.Add w is = refl
left_by_test false BinaryOp.Sub w is = refl
left_by_test false BinaryOp.Mul w is = refl
left_by_test false BinaryOp.Div w is = refl
left_by_test false BinaryOp.Rem w is = refl
left_by_test false BinaryOp.Pow w is = refl
left_by_test false BinaryOp.Concat w is = refl
left_by_test false BinaryOp.Eq w is = refl
left_by_test false BinaryOp.Ne w is = refl
left_by_test false BinaryOp.Lt w is = refl
left_by_test false BinaryOp.Le w is = refl
left_by_test false BinaryOp.Gt w is = refl
left_by_test false BinaryOp.Ge w is = refl

or_more : (a b c : Bool) → (b ≡ true → c ≡ true) → (a || b) ≡ true → (a || c) ≡ true
or_more true b c implied is = refl
or_more false b c implied is = implied is

-- more binds than what stands bare on the right
pow_bound : (e : Expression) → right_binds 4 false e ≡ true → right_binds 4 true e ≡ true
pow_bound e is = or_more (is_unary e) _ _ (λ more. le-leb 4 (level_of e) (omega (arith, leb-true 5 (level_of e) more))) is

right_by_test : (b : Bool) (op : BinaryOp) (w : Wording) → right_binds (level_of_op op) (is_power op) w.words ≡ b → right_binds (level_of_op op) (is_right_associative op) (unless b w).words ≡ true
right_by_test true BinaryOp.Add w is = is
right_by_test true BinaryOp.Sub w is = is
right_by_test true BinaryOp.Mul w is = is
right_by_test true BinaryOp.Div w is = is
right_by_test true BinaryOp.Rem w is = is
right_by_test true BinaryOp.Pow w is = is
right_by_test true BinaryOp.Concat w is = pow_bound w.words is
right_by_test true BinaryOp.Eq w is = is
right_by_test true BinaryOp.Ne w is = is
right_by_test true BinaryOp.Lt w is = is
right_by_test true BinaryOp.Le w is = is
right_by_test true BinaryOp.Gt w is = is
right_by_test true BinaryOp.Ge w is = is
right_by_test false BinaryOp.Add w is = refl
right_by_test false BinaryOp.Sub w is = refl
right_by_test false BinaryOp.Mul w is = refl
right_by_test false BinaryOp.Div w is = refl
right_by_test false BinaryOp.Rem w is = refl
right_by_test false BinaryOp.Pow w is = refl
right_by_test false BinaryOp.Concat w is = refl
right_by_test false BinaryOp.Eq w is = refl
right_by_test false BinaryOp.Ne w is = refl
right_by_test false BinaryOp.Lt w is = refl
right_by_test false BinaryOp.Le w is = refl
right_by_test false BinaryOp.Gt w is = refl
right_by_test false BinaryOp.Ge w is = refl

left_is : (op : BinaryOp) (w : Wording) → left_binds (level_of_op op) (is_right_associative op) (on_left op w).words ≡ true
left_is op w = left_by_test (left_binds (level_of_op op) (is_right_associative op) w.words) op w refl

right_is : (op : BinaryOp) (w : Wording) → right_binds (level_of_op op) (is_right_associative op) (on_right op w).words ≡ true
right_is op w = right_by_test (right_binds (level_of_op op) (is_power op) w.words) op w refl

binary_fine : (op : BinaryOp) (l r : Wording) → left_binds (level_of_op op) (is_right_associative op) l.words ≡ true → right_binds (level_of_op op) (is_right_associative op) r.words ≡ true → IsFine l → IsFine r → IsFine (with_binary op l r)
binary_fine op l r left right first second = record {
  formed = both_hold _ _ left (both_hold _ _ right (both_hold _ _ first.formed second.formed));
  shallow = λ few. let low = first.shallow (omega (arith, few)) in let high = second.shallow (omega (arith, few)) in omega (arith, low, high, few);
}

joined_fine : (op : BinaryOp) (l r : Wording) → IsFine l → IsFine r → IsFine (joined op l r)
joined_fine op l r first second =
    binary_fine op (on_left op l) (on_right op r) (left_is op l) (right_is op r) (unless_fine (left_binds (level_of_op op) (is_right_associative op) l.words) l first) (unless_fine (right_binds (level_of_op op) (is_power op) r.words) r second)

unary_by : (b : Bool) (w : Wording) → left_binds 7 false w.words ≡ b → left_binds 7 false (unless b w).words ≡ true
unary_by true w is = is
unary_by false w is = refl

applied_fine : (op : UnaryOp) (w : Wording) → IsFine w → IsFine (applied op w)
applied_fine op w fine =
    let of = unless_fine (left_binds 7 false w.words) w fine in
    record { formed = both_hold _ _ (unary_by (left_binds 7 false w.words) w refl) of.formed; shallow = λ few. let low = of.shallow (omega (arith, few)) in omega (arith, low, few) }

-- a chain of `..` may stand on the right of another
chain_binds : (w : Wording) (ws : List Wording) → right_binds 4 true (chained w ws).words ≡ true
chain_binds w [] = right_is BinaryOp.Concat w
chain_binds w (next ∷ rest) = refl

abbrev AllFine : List Wording → Type 0
AllFine [] = Unit {0}
AllFine (w ∷ ws) = IsFine w × AllFine ws

chained_fine : (w : Wording) (ws : List Wording) → IsFine w → AllFine ws → IsFine (chained w ws)
chained_fine w [] fine all = unless_fine (right_binds 4 false w.words) w fine
chained_fine w (next ∷ rest) fine all =
    binary_fine BinaryOp.Concat (on_left BinaryOp.Concat w) (chained next rest) (left_is BinaryOp.Concat w) (chain_binds next rest) (unless_fine (left_binds 4 true w.words) w fine) (chained_fine next rest all.0 all.1)

field_fine : (on : Wording) (name : Text) → is_prefix on.words ≡ true → is_name name ≡ true → IsFine on → IsFine (with_field on name)
field_fine on name prefix named fine = record { formed = both_hold _ _ prefix (both_hold _ _ fine.formed named); shallow = λ few. let low = fine.shallow (omega (arith, few)) in omega (arith, low, few) }

index_fine : (on key : Wording) → is_prefix on.words ≡ true → IsFine on → IsFine key → IsFine (with_index on key)
index_fine on key prefix first second = record {
  formed = both_hold _ _ prefix (both_hold _ _ first.formed second.formed);
  shallow = λ few. let low = first.shallow (omega (arith, few)) in let high = second.shallow (omega (arith, few)) in omega (arith, low, high, few);
}

call_fine : (on : Wording) (args : ArgumentWording) → is_prefix on.words ≡ true → IsFine on → AreGiven args → IsFine (with_arguments on args)
call_fine on args prefix fine given = record {
  formed = both_hold _ _ prefix (both_hold _ _ fine.formed (both_hold _ _ given.on_line given.formed));
  shallow = λ few. let low = fine.shallow (omega (arith, few)) in let high = given.shallow (omega (arith, few)) in omega (arith, low, high, few);
}

method_fine : (on : Wording) (name : Text) (args : ArgumentWording) → is_prefix on.words ≡ true → is_name name ≡ true → IsFine on → AreGiven args → IsFine (with_method on name args)
method_fine on name args prefix named fine given = record {
  formed = both_hold _ _ prefix (both_hold _ _ fine.formed (both_hold _ _ named (both_hold _ _ given.on_line given.formed)));
  shallow = λ few. let low = fine.shallow (omega (arith, few)) in let high = given.shallow (omega (arith, few)) in omega (arith, low, high, few);
}

table_fine : (ws : FieldWording) → AreFields ws → IsFine (with_items ws)
table_fine ws fields = record { formed = fields.formed; shallow = λ few. let low = fields.shallow (omega (arith, few)) in omega (arith, low, few) }

list_given : (ws : Wordings) → AreFine ws → AreGiven (as_list ws)
list_given ws fine = record { formed = fine.formed; on_line = refl; shallow = fine.shallow }

-- ---- leaves

single_fine : (e : Expression) → formed_expression e ≡ true → depth_of_expression e ≡ 1 → IsFine (single e)
single_fine e formed one = record { formed = formed; shallow = λ few. omega (arith, one) }

truth_fine : (b : Bool) → IsFine (truth b)
truth_fine true = single_fine (true_literal 1) refl refl
truth_fine false = single_fine (false_literal 1) refl refl

least_fine : IsFine (with_binary BinaryOp.Sub (with_unary UnaryOp.Neg (number_word (pos (2 ^ 63 - 1)))) (number_word (pos 1)))
least_fine = record { formed = refl; shallow = λ few. omega arith }

negative_fine : (b : Bool) (n : ℕ) → IsFine (if b then with_binary BinaryOp.Sub (with_unary UnaryOp.Neg (number_word (pos (2 ^ 63 - 1)))) (number_word (pos 1)) else with_unary UnaryOp.Neg (number_word (pos (suc n))))
negative_fine true n = least_fine
negative_fine false n = record { formed = refl; shallow = λ few. omega arith }

numeral_fine : (n : ℤ) → IsFine (numeral n)
numeral_fine (pos n) = record { formed = refl; shallow = λ few. omega arith }
numeral_fine (negsuc n) = negative_fine (n == 2 ^ 63 - 1) n

literal_fine : (k : Constant) → IsFine (literal k)
literal_fine Constant.Nil = single_fine _ refl refl
literal_fine (Constant.Bool b) = truth_fine b
literal_fine (Constant.Number n) = numeral_fine n
literal_fine (Constant.Text text) = single_fine _ refl refl

constant_fine : (k : Option Constant) → IsFine (constant_word k)
constant_fine None = single_fine _ refl refl
constant_fine (Some k) = literal_fine k

-- a name that a source can write
pub as_named : (name : Option Text) (text : Text) → as_name name ≡ Some text → is_name text ≡ true
as_named None text is = cc
as_named (Some name) text is = ap is_name (sym (given_is (is_name name) name text is)) ∙ test_holds (is_name name) name text is

name_fine : (name : Option Text) → (known : (text : Text) → name ≡ Some text → is_name text ≡ true) → IsFine (name_word name)
name_fine None known = single_fine _ refl refl
name_fine (Some text) known = single_fine _ (known text refl) refl

function_fine : (found : Option Inner) → ((f : Inner) → found ≡ Some f → IsFineFunction f) → is_some found ≡ true → IsFine (function_word found)
function_fine None known some = not_so some
function_fine (Some f) known some =
    let fine = known f refl in
    record { formed = fine.formed; shallow = λ few. let low = fine.shallow (omega (arith, few)) in omega (arith, low, few) }

-- ---- values

some_text : (name : Option Text) → is_some name ≡ true → name ≡ Some (text_or_empty name)
some_text None some = cc
some_text (Some text) some = refl

pub entry_as_name : (at : Place) (entry : Option ℕ) (text : Text) → name_of_entry at entry ≡ Some text → is_name text ≡ true
entry_as_name at None text is = cc
entry_as_name at (Some entry) text is = local_as_name (slice_get at.of.locals entry) is
  where
    local_as_name : (local : Option LocVar) → name_of_local local ≡ Some text → is_name text ≡ true
    local_as_name None is = cc
    local_as_name (Some local) is = as_named (Some local.name) text is

number_as_name : (at : Place) (number : Option ℕ) (text : Text) → name_of_number at number ≡ Some text → is_name text ≡ true
number_as_name at None text is = cc
number_as_name at (Some k) text is = as_named (text_at at k) text is

keyed_fine : (at : Place) (key : OperandValue) (on word : Wording) (name : Option Text) → field_name at key ≡ name → is_prefix on.words ≡ true → IsFine on → IsFine word → IsFine (with_key name on word)
keyed_fine at key on word None is prefix fine other = index_fine on word prefix fine other
keyed_fine at key on word (Some name) is prefix fine other = field_fine on name prefix (number_as_name at (field_number key) name is) fine

pub keyed_prefix : (name : Option Text) (on word : Wording) → is_prefix (with_key name on word).words ≡ true
keyed_prefix None on word = refl
keyed_prefix (Some name) on word = refl

and_wording_fine : (w : Wording) (ws : Wordings) → IsFine w → AreFine ws → AreFine (and_wording w ws)
and_wording_fine w ws first rest = record {
  formed = both_hold _ _ first.formed rest.formed;
  shallow = λ few. let low = first.shallow (omega (arith, few)) in let high = rest.shallow (omega (arith, few)) in omega (arith, low, high, few);
}

separated : (rest : ItemList) (words : Fields) → (ends_items rest ≡ true → words ≡ no_fields) → ends_item (separator_before rest) words ≡ true
separated no_items words none = ap (ends_item Separator.Missing) (none refl)
separated (and_positional v rest) words none = refl
separated (and_keyed key item rest) words none = refl

and_item_fine : (w : Wording) (rest : ItemList) (ws : FieldWording) → (ends_items rest ≡ true → ws.words ≡ no_fields) → IsFine w → AreFields ws → AreFields (and_item w (separator_before rest) ws)
and_item_fine w rest ws none first others = record {
  formed = both_hold _ _ (separated rest ws.words none) (both_hold _ _ first.formed others.formed);
  shallow = λ few. let low = first.shallow (omega (arith, few)) in let high = others.shallow (omega (arith, few)) in omega (arith, low, high, few);
}

and_keyed_fine : (at : Place) (key : OperandValue) (name : Option Text) → field_name at key ≡ name → (k w : Wording) (rest : ItemList) (ws : FieldWording) → (ends_items rest ≡ true → ws.words ≡ no_fields) → IsFine k → IsFine w → AreFields ws → AreFields (and_keyed_item name k w (separator_before rest) ws)
and_keyed_fine at key None is k w rest ws none first second others = record {
  formed = both_hold _ _ (separated rest ws.words none) (both_hold _ _ first.formed (both_hold _ _ second.formed others.formed));
  shallow = λ few. let low = first.shallow (omega (arith, few)) in let mid = second.shallow (omega (arith, few)) in let high = others.shallow (omega (arith, few)) in omega (arith, low, mid, high, few);
}
and_keyed_fine at key (Some name) is k w rest ws none first second others = record {
  formed = both_hold _ _ (separated rest ws.words none) (both_hold _ _ (number_as_name at (field_number key) name is) (both_hold _ _ second.formed others.formed));
  shallow = λ few. let low = second.shallow (omega (arith, few)) in let high = others.shallow (omega (arith, few)) in omega (arith, low, high, few);
}

given_fine : (short all : Bool) (only : Option ArgumentWording) (ws : Wordings) → ((args : ArgumentWording) → only ≡ Some args → AreGiven args) → AreFine ws → AreGiven (as_arguments (short && all) only ws)
given_fine true true None ws short fine = list_given ws fine
given_fine true true (Some args) ws short fine = short args refl
given_fine true false only ws short fine = list_given ws fine
given_fine false all only ws short fine = list_given ws fine

text_given : (text : Option Text) (args : ArgumentWording) → as_text_argument text ≡ Some args → AreGiven args
text_given None args is = cc
text_given (Some text) args is = subst AreGiven (same_Some _ args is) (record { formed = refl; on_line = refl; shallow = λ few. omega arith })

no_words : (at : Place) (n : ℕ) (fs : List (Option Inner)) (items : ItemList) (all : Bool) → ends_items items ≡ true → (word_items at n fs items all).words ≡ no_fields
no_words at n fs no_items all ends = refl
no_words at n fs (and_positional v rest) all ends = cc
no_words at n fs (and_keyed key item rest) all ends = cc

module _ (at : Place) where
  mutual
    pub word_fine : (v : Value) (n : ℕ) (fs : List (Option Inner)) → AreFineLeft fs → can_write at fs v ≡ true → IsFine (word at n fs v)
    word_fine nil_value n fs fine_left can = single_fine _ refl refl
    word_fine vararg_value n fs fine_left can = single_fine _ refl refl
    word_fine (bool_value b) n fs fine_left can = truth_fine b
    word_fine (constant_value k) n fs fine_left can = constant_fine (constant_at at k)
    word_fine (local_value r) n fs fine_left can = name_fine (local_name at r) (λ text is. entry_as_name at (slice_get at.entries r) text is)
    word_fine (upvalue_value u) n fs fine_left can = name_fine (upvalue_name at u) (λ text is. as_named (slice_get at.of.upvalue_names u) text is)
    word_fine (global_value k) n fs fine_left can = name_fine (constant_name at k) (λ text is. as_named (text_at at k) text is)
    word_fine (index_value on keys depth) n fs fine_left can =
        let both = second_of_both _ _ can in
        let first = word_fine on n fs fine_left (first_of_both _ _ both) in
        (keys_fine keys (taken_behind on n) (left_by on fs) (as_prefix (word at n fs on)) (each_by _ on fs fine_left) (second_of_both _ _ both) (prefix_is (word at n fs on)) (prefix_fine (word at n fs on) first))
    word_fine (binary_value op left right depth) n fs fine_left can =
        joined_fine op _ _ (operand_fine left n fs fine_left (first_of_both _ _ can)) (operand_fine right (taken_behind_operand left n) (left_by_operand left fs) (each_by_operand _ left fs fine_left) (second_of_both _ _ can))
    word_fine (unary_value op of depth) n fs fine_left can = applied_fine op _ (word_fine of n fs fine_left can)
    word_fine (concat_value no_values depth) n fs fine_left can = not_so can
    word_fine (concat_value (and_value v rest) depth) n fs fine_left can =
        let both = second_of_both (not (ends_values (and_value v rest))) _ can in
        chained_fine (word at n fs v) (word_each at (taken_behind v n) (left_by v fs) rest) (word_fine v n fs fine_left (first_of_both _ _ both)) (each_fine rest (taken_behind v n) (left_by v fs) (each_by _ v fs fine_left) (second_of_both _ _ both))
    word_fine (call_value on args all depth) n fs fine_left can =
        let behind = each_by _ on fs fine_left in
        let first = word_fine on n fs fine_left (first_of_both _ _ can) in
        let given = second_of_both _ _ can in
        call_fine _ _ (prefix_is (word at n fs on)) (prefix_fine (word at n fs on) first)
        (given_fine at.short (not all) _ _ (short_fine args (taken_behind on n) (left_by on fs) behind given) (values_fine args all (taken_behind on n) (left_by on fs) behind given))
    word_fine (method_value on name args all depth) n fs fine_left can =
        let behind = each_by _ on fs fine_left in
        let first = word_fine on n fs fine_left (first_of_both _ _ can) in
        let named = first_of_both _ _ (second_of_both _ _ can) in
        let given = second_of_both (is_some (constant_name at name)) _ (second_of_both _ _ can) in
        let m = with_constant (taken_behind on n) name in
        method_fine _ _ _ (prefix_is (word at n fs on)) (as_named (text_at at name) _ (some_text (constant_name at name) named)) (prefix_fine (word at n fs on) first)
        (given_fine at.short (not all) _ _ (short_fine args m (left_by on fs) behind given) (values_fine args all m (left_by on fs) behind given))
    word_fine (table_value items all depth) n fs fine_left can = table_fine _ (items_fine items all n fs fine_left can)
    word_fine (function_value number itself) n fs fine_left can = function_fine (function_left fs number) (λ found there. left_there _ number fs found fine_left there) (second_of_both (not itself) _ can)

    pub values_fine : (vs : Values) (all : Bool) (n : ℕ) (fs : List (Option Inner)) → AreFineLeft fs → can_write_values at fs vs ≡ true → AreFine (word_values at n fs vs all)
    values_fine no_values all n fs fine_left can = record { formed = refl; shallow = λ few. omega arith }
    values_fine (and_value v rest) all n fs fine_left can =
        and_wording_fine _ _ (unless_fine (not ((ends_values rest && not all) && is_multiple v)) _ (word_fine v n fs fine_left (first_of_both _ _ can))) (values_fine rest all (taken_behind v n) (left_by v fs) (each_by _ v fs fine_left) (second_of_both _ _ can))

    each_fine : (vs : Values) (n : ℕ) (fs : List (Option Inner)) → AreFineLeft fs → can_write_values at fs vs ≡ true → AllFine (word_each at n fs vs)
    each_fine no_values n fs fine_left can = tt
    each_fine (and_value v rest) n fs fine_left can = (word_fine v n fs fine_left (first_of_both _ _ can), each_fine rest (taken_behind v n) (left_by v fs) (each_by _ v fs fine_left) (second_of_both _ _ can))

    pub operand_fine : (o : OperandValue) (n : ℕ) (fs : List (Option Inner)) → AreFineLeft fs → can_write_operand at fs o ≡ true → IsFine (word_operand at n fs o)
    operand_fine (constant_operand k) n fs fine_left can = constant_fine (constant_at at k)
    operand_fine (value_operand v) n fs fine_left can = unless_fine (is_bare at n v) _ (word_fine v n fs fine_left can)

    keys_fine : (keys : OperandList) (n : ℕ) (fs : List (Option Inner)) (on : Wording) → AreFineLeft fs → can_write_operands at fs keys ≡ true → is_prefix on.words ≡ true → IsFine on → IsFine (word_keys at n fs on keys)
    keys_fine no_operands n fs on fine_left can prefix fine = fine
    keys_fine (and_operand key rest) n fs on fine_left can prefix fine =
        let other = operand_fine key n fs fine_left (first_of_both _ _ can) in
        keys_fine rest (taken_behind_operand key n) (left_by_operand key fs) _ (each_by_operand _ key fs fine_left) (second_of_both _ _ can) (keyed_prefix (field_name at key) on _) (keyed_fine at key on _ (field_name at key) refl prefix fine other)

    items_fine : (items : ItemList) (all : Bool) (n : ℕ) (fs : List (Option Inner)) → AreFineLeft fs → can_write_items at fs items ≡ true → AreFields (word_items at n fs items all)
    items_fine no_items all n fs fine_left can = record { formed = refl; shallow = λ few. omega arith }
    items_fine (and_positional v rest) all n fs fine_left can =
        and_item_fine _ rest _ (no_words at _ _ rest all) (unless_fine (not ((ends_items rest && not all) && is_multiple v)) _ (word_fine v n fs fine_left (first_of_both _ _ can))) (items_fine rest all (taken_behind v n) (left_by v fs) (each_by _ v fs fine_left) (second_of_both _ _ can))
    items_fine (and_keyed key item rest) all n fs fine_left can =
        let behind = each_by_operand _ key fs fine_left in
        let both = second_of_both _ _ can in
        and_keyed_fine at key (field_name at key) refl _ _ rest _ (no_words at _ _ rest all) (operand_fine key n fs fine_left (first_of_both _ _ can)) (operand_fine item (taken_behind_operand key n) (left_by_operand key fs) behind (first_of_both _ _ both))
        (items_fine rest all (taken_behind_operand item (taken_behind_operand key n)) (left_by_operand item (left_by_operand key fs)) (each_by_operand _ item (left_by_operand key fs) behind) (second_of_both _ _ both))

    short_fine : (vs : Values) (n : ℕ) (fs : List (Option Inner)) → AreFineLeft fs → can_write_values at fs vs ≡ true → (args : ArgumentWording) → word_short at n fs vs ≡ Some args → AreGiven args
    short_fine (and_value v no_values) n fs fine_left can args is = only_fine v n fs fine_left (first_of_both _ _ can) args is
    short_fine vs n fs fine_left can args is = cc

    only_fine : (v : Value) (n : ℕ) (fs : List (Option Inner)) → AreFineLeft fs → can_write at fs v ≡ true → (args : ArgumentWording) → word_only at n fs v ≡ Some args → AreGiven args
    only_fine (constant_value k) n fs fine_left can args is = text_given (text_at at k) args is
    only_fine (table_value items all depth) n fs fine_left can args is =
        let fields = items_fine items all n fs fine_left can in
        subst AreGiven (same_Some _ args is) (record { formed = fields.formed; on_line = refl; shallow = fields.shallow })
    only_fine v n fs fine_left can args is = cc

-- ---- tests

module _ (at : Place) (n : ℕ) (left : List (Option Inner)) (fine_left : AreFineLeft left) where
  both_fine : (op : BinaryOp) (first second : OperandValue) → can_write_both at left first second ≡ true → IsFine (word_both at n left op first second)
  both_fine op first second can =
      joined_fine op (word_operand at n left first) (word_operand at (taken_behind_operand first n) (left_by_operand first left) second) (operand_fine at first n left fine_left (first_of_both _ _ can))
      (operand_fine at second (taken_behind_operand first n) (left_by_operand first left) (each_by_operand _ first left fine_left) (second_of_both (can_write_operand at left first) _ can))

  pub condition_fine : (tested : TestedValue) → can_test at n left tested ≡ true → IsFine (condition_word at n left tested)
  condition_fine (tested_value v) can = word_fine at v n left fine_left can
  condition_fine (tested_comparison c) can = by (is_swapped (length at.entries) n c) can
    where
      by : (swapped : Bool) → (if swapped then can_write_both at left c.right c.left else can_write_both at left c.left c.right) ≡ true →
          IsFine (if swapped then word_both at n left (mirrored c.op) c.right c.left else word_both at n left c.op c.left c.right)
      by true can = both_fine (mirrored c.op) c.right c.left can
      by false can = both_fine c.op c.left c.right can
