-- What is written of a value whose parts are written one behind the other.
use Rattle.std.proofs.Common.{◌≡◌, refl, sym, ap, ◌∙◌, ℕ, suc, ◌<◌, ◌≤◌, Bool, true, false, List, [], ◌∷◌, length, get_or, map, Option, Some, None, arith}
use Rattle.std.specs.Prelude.{◌&&◌, not, is_some, nat_le, if◌then◌else◌}
use Rattle.std.proofs.lemmas.Bool.{and_from, and_left, and_right}
use Rattle.std.proofs.lemmas.Bool.Decides.{nat_tests}
use Rattle.lua_num.specs.Bytes.{Text}
use Rattle.lua_tree.specs.declared.tree.BinaryOp.{BinaryOp}
use Rattle.lua_tree.specs.declared.tree.UnaryOp.{UnaryOp}
use Rattle.lua_tree.specs.declared.tree.Separator.{Separator}
use Rattle.core_expr.specs.Places.{Place, constant_at, name_of_number, field_name, field_number, constant_name}
use Rattle.core_expr.specs.Standing.{Standing, with_taken, behind, behind_values, behind_operand, behind_short, behind_arguments, worded, worded_values, worded_each, worded_operand, worded_only, worded_short, worded_arguments, worded_keyed, no_field_wording, can_word, can_word_values, can_word_operand}
use Rattle.core_expr.specs.Targets.{index_target, can_write_target}
use Rattle.core_expr.specs.declared.scope.Written.{Written}
use Rattle.core_expr.specs.Values.{Value, Inner, Values, no_values, and_value, OperandValue, constant_operand, value_operand, constant_value, binary_value, unary_value, concat_value, call_value, method_value, view_core, view_operand, values_of, operands_of, view_operand_list}
use Rattle.core_expr.specs.declared.cores.Core.{Core, Constant, Table, Table', out-Core, roll-Core, roll-out-Core}
use Rattle.core_expr.specs.declared.cores.Core.TheBlock.{shown-the_row-CoreItem-2}
use Rattle.core_expr.specs.declared.cores.CoreItems.{CoreItems}
use Rattle.core_expr.specs.declared.cores.Operand.{Operand}
use Rattle.core_expr.specs.declared.cores.Operands.{Operands, out-Operands}
use Rattle.core_expr.specs.Writing.{Wording, Wordings, ArgumentWording, unless, in_parentheses, as_prefix, with_key, with_field, with_index, joined, applied, with_arguments, with_method, text_or_empty, word_short, as_arguments, as_list, and_keyed_item, and_named, and_key, operand_count, ends_values, view_written}
use Rattle.core_expr.proofs.OwnParts.{name_there}

-- ---- parentheses

pub bare_is : (bare : Bool) (w : Wording) → bare ≡ true → w ≡ unless bare w
bare_is true w is = refl
bare_is false w is = cc

pub not_bare_is : (bare : Bool) (w : Wording) → bare ≡ false → in_parentheses w ≡ unless bare w
not_bare_is true w is = cc
not_bare_is false w is = refl

-- only one is wanted of what can give several
pub one_is : (only_one multiple : Bool) (w : Wording) → only_one ≡ true → multiple ≡ true → in_parentheses w ≡ unless (not (only_one && multiple)) w
one_is true true w only_is multiple_is = refl
one_is true false w only_is multiple_is = cc
one_is false multiple w only_is multiple_is = cc

pub all_is : (only_one multiple : Bool) (w : Wording) → only_one ≡ false → w ≡ unless (not (only_one && multiple)) w
all_is true multiple w is = cc
all_is false multiple w is = refl

pub single_is : (only_one multiple : Bool) (w : Wording) → multiple ≡ false → w ≡ unless (not (only_one && multiple)) w
single_is true true w is = cc
single_is true false w is = refl
single_is false multiple w is = refl

-- what is written behind something: it can be, where both can
pub both_can : (first : Bool) (can : Standing → Bool) {next last : Standing} → first ≡ true → next ≡ last → can next ≡ true → (first && can last) ≡ true
both_can first can first_can then_is next_can = and_from first _ first_can (ap can (sym then_is) ∙ next_can)

-- ---- operators

pub binary_made : (op : BinaryOp) (left right : OperandValue) (s next : Standing) (l r w : Wording) → l ≡ worded_operand s left → next ≡ behind_operand left s → r ≡ worded_operand next right → w ≡ joined op l r →
    w ≡ worded s (binary_value op left right 0)
binary_made op left right s next l r w l_is then_is r_is w_is =
    w_is ∙ ap (λ x. joined op x r) l_is ∙ ap (joined op (worded_operand s left)) (r_is ∙ ap (λ x. worded_operand x right) then_is)

pub binary_behind : (op : BinaryOp) (left right : OperandValue) (s next last : Standing) → next ≡ behind_operand left s → last ≡ behind_operand right next → last ≡ behind (binary_value op left right 0) s
binary_behind op left right s next last then_is last_is = last_is ∙ ap (behind_operand right) then_is

pub binary_left : (op : BinaryOp) (left right : OperandValue) (s : Standing) → can_word_operand s left ≡ false → can_word s (binary_value op left right 0) ≡ false
binary_left op left right s cannot = and_left _ _ cannot

pub binary_right : (op : BinaryOp) (left right : OperandValue) (s next : Standing) → next ≡ behind_operand left s → can_word_operand next right ≡ false → can_word s (binary_value op left right 0) ≡ false
binary_right op left right s next then_is cannot = and_right _ _ (ap (λ x. can_word_operand x right) (sym then_is) ∙ cannot)

pub unary_made : (op : UnaryOp) (of : Value) (s : Standing) (o w : Wording) → o ≡ worded s of → w ≡ applied op o → w ≡ worded s (unary_value op of 0)
unary_made op of s o w o_is w_is = w_is ∙ ap (applied op) o_is

-- ---- calls

pub call_made : (on : Value) (args : Values) (all : Bool) (s next : Standing) (o w : Wording) (a : ArgumentWording) → o ≡ as_prefix (worded s on) → next ≡ behind on s → a ≡ worded_arguments next args all → w ≡ with_arguments o a →
    w ≡ worded s (call_value on args all 0)
call_made on args all s next o w a o_is then_is a_is w_is =
    w_is ∙ ap (λ x. with_arguments x a) o_is ∙ ap (with_arguments (as_prefix (worded s on))) (a_is ∙ ap (λ x. worded_arguments x args all) then_is)

pub call_behind : (on : Value) (args : Values) (all : Bool) (s next last : Standing) → next ≡ behind on s → last ≡ behind_values args next → last ≡ behind (call_value on args all 0) s
call_behind on args all s next last then_is last_is = last_is ∙ ap (behind_values args) then_is

pub call_on : (on : Value) (args : Values) (all : Bool) (s : Standing) → can_word s on ≡ false → can_word s (call_value on args all 0) ≡ false
call_on on args all s cannot = and_left _ _ cannot

pub call_args : (on : Value) (args : Values) (all : Bool) (s next : Standing) → next ≡ behind on s → can_word_values next args ≡ false → can_word s (call_value on args all 0) ≡ false
call_args on args all s next then_is cannot = and_right _ _ (ap (λ x. can_word_values x args) (sym then_is) ∙ cannot)

pub method_made : (on : Value) (name : ℕ) (args : Values) (all : Bool) (s next named_then : Standing) (o w : Wording) (text : Text) (a : ArgumentWording) →
    o ≡ as_prefix (worded s on) → next ≡ behind on s → Some text ≡ constant_name next.at name → named_then ≡ with_taken name next → a ≡ worded_arguments named_then args all → w ≡ with_method o text a →
    w ≡ worded s (method_value on name args all 0)
method_made on name args all s next named_then o w text a o_is then_is text_is named_is a_is w_is =
    let prefix = as_prefix (worded s on) in
    let method_name = text_or_empty (constant_name s.at name) in
    let name_is : text ≡ method_name = ap text_or_empty (text_is ∙ ap (λ x. constant_name x.at name) then_is) in
    w_is ∙ ap (λ x. with_method x text a) o_is ∙ ap (λ x. with_method prefix x a) name_is
    ∙ ap (with_method prefix method_name) (a_is ∙ ap (λ x. worded_arguments x args all) (named_is ∙ ap (with_taken name) then_is))

pub method_behind : (on : Value) (name : ℕ) (args : Values) (all : Bool) (s next named_then last : Standing) → next ≡ behind on s → named_then ≡ with_taken name next → last ≡ behind_values args named_then →
    last ≡ behind (method_value on name args all 0) s
method_behind on name args all s next named_then last then_is named_is last_is = last_is ∙ ap (behind_values args) (named_is ∙ ap (with_taken name) then_is)

pub method_on : (on : Value) (name : ℕ) (args : Values) (all : Bool) (s : Standing) → can_word s on ≡ false → can_word s (method_value on name args all 0) ≡ false
method_on on name args all s cannot = and_left _ _ cannot

pub method_name : (on : Value) (name : ℕ) (args : Values) (all : Bool) (s next : Standing) → next ≡ behind on s → None ≡ constant_name next.at name → can_word s (method_value on name args all 0) ≡ false
method_name on name args all s next then_is none =
    let no_name : is_some (constant_name s.at name) ≡ false = ap (λ x. is_some (constant_name x.at name)) (sym then_is) ∙ ap is_some (sym none) in
    and_right _ _ (and_left _ _ no_name)

pub method_args : (on : Value) (name : ℕ) (args : Values) (all : Bool) (s next named_then : Standing) → next ≡ behind on s → named_then ≡ with_taken name next → can_word_values named_then args ≡ false →
    can_word s (method_value on name args all 0) ≡ false
method_args on name args all s next named_then then_is named_is cannot =
    and_right _ _ (and_right _ _ (ap (λ x. can_word_values x args) (sym (named_is ∙ ap (with_taken name) then_is)) ∙ cannot))

pub method_can : (on : Value) (name : ℕ) (args : Values) (all : Bool) (s next named_then : Standing) (text : Text) → can_word s on ≡ true → next ≡ behind on s → Some text ≡ constant_name next.at name → named_then ≡ with_taken name next →
    can_word_values named_then args ≡ true → can_word s (method_value on name args all 0) ≡ true
method_can on name args all s next named_then text on_can then_is text_is named_is args_can =
    both_can (can_word s on) (λ x. is_some (constant_name x.at name) && can_word_values x args) on_can then_is
    (and_from _ _ (ap is_some (sym text_is)) (ap (λ x. can_word_values x args) (sym named_is) ∙ args_can))

-- ---- keys

counted : (operands : List Operand) → operand_count (operands_of operands) ≡ length operands
counted [] = refl
counted (o ∷ operands) = ap suc (counted operands)

past_limit : (n : ℕ) → 200 < n → nat_le n 200 ≡ false
past_limit n above = grind (arith, nat_tests)

pub too_many_keys : (operands : Operands) (items : List Operand) → items ≡ (out-Operands operands).operands.items → 200 < length items → nat_le (operand_count (view_operand_list operands)) 200 ≡ false
too_many_keys operands items is above = ap (λ those. nat_le (operand_count (operands_of those)) 200) (sym is) ∙ ap (λ n. nat_le n 200) (counted items) ∙ past_limit (length items) above

within_limit : (n : ℕ) → n ≤ 200 → nat_le n 200 ≡ true
within_limit n within = grind (arith, nat_tests)

pub few_keys : (operands : Operands) (items : List Operand) → items ≡ (out-Operands operands).operands.items → length items ≤ 200 → nat_le (operand_count (view_operand_list operands)) 200 ≡ true
few_keys operands items is within = ap (λ those. nat_le (operand_count (operands_of those)) 200) (sym is) ∙ ap (λ n. nat_le n 200) (counted items) ∙ within_limit (length items) within

numbered : (is_small : Bool) (n k : ℕ) → (let found : Option ℕ = if is_small then None else Some n in found ≡ Some k) → n ≡ k
numbered true n k is = cc
numbered false n k is = cc

-- a field takes the constant that is its name
pub behind_field : (key : OperandValue) (k : ℕ) (s : Standing) → field_number key ≡ Some k → with_taken k s ≡ behind_operand key s
behind_field (constant_operand n) k s is = let e : n ≡ k = cc in ap (λ x. with_taken x s) (sym e)
behind_field (value_operand (constant_value n)) k s is = ap (λ x. with_taken x s) (sym (numbered (nat_le n 255) n k is))
behind_field (value_operand v) k s is = cc

number_named : (at : Place) (is_small : Bool) (k : ℕ) (name : Text) → (let found : Option ℕ = if is_small then None else Some k in Some name ≡ name_of_number at found) → Some name ≡ constant_name at k
number_named at true k name is = cc
number_named at false k name is = is

-- a key that is a name can be written
pub field_can : (key : OperandValue) (s : Standing) (name : Text) → Some name ≡ field_name s.at key → can_word_operand s key ≡ true
field_can (constant_operand k) s name is = name_there (constant_at s.at k) is
field_can (value_operand (constant_value k)) s name is = name_there (constant_at s.at k) (number_named s.at (nat_le k 255) k name is)
field_can (value_operand v) s name is = cc

pub field_made : (key : OperandValue) (s : Standing) (on w : Wording) (name : Text) → Some name ≡ field_name s.at key → w ≡ with_field on name → w ≡ with_key (field_name s.at key) on (worded_operand s key)
field_made key s on w name name_is w_is = w_is ∙ ap (λ x. with_key x on (worded_operand s key)) name_is

pub index_made : (key : OperandValue) (s : Standing) (on k w : Wording) → None ≡ field_name s.at key → k ≡ worded_operand s key → w ≡ with_index on k → w ≡ with_key (field_name s.at key) on (worded_operand s key)
index_made key s on k w none k_is w_is = w_is ∙ ap (with_index on) k_is ∙ ap (λ x. with_key x on (worded_operand s key)) none

-- the key of a target cannot be written behind what it is a key of
pub target_key : (on : Core) (key : Operand) (at : Place) (n : ℕ) (fs : List (Option Inner)) (s next : Standing) → s ≡ record { at = at; taken = n; left = fs } → next ≡ behind (view_core on) s →
    can_word_operand next (view_operand key) ≡ false → can_write_target at fs (index_target (view_core on) (view_operand key)) ≡ false
target_key on key at n fs s next s_is then_is cannot = and_right _ _ (ap (λ x. can_word_operand x (view_operand key)) (sym (then_is ∙ ap (behind (view_core on)) s_is)) ∙ cannot)

-- ---- items

pub named_made : (key item : OperandValue) (k : ℕ) (name : Text) (s next : Standing) (w : Wording) (separator : Separator) →
    Some name ≡ field_name s.at key → field_number key ≡ Some k → next ≡ with_taken k s → w ≡ worded_operand next item → and_named name w separator no_field_wording ≡ worded_keyed s key item separator
named_made key item k name s next w separator name_is number_is then_is w_is =
    let key_word = worded_operand s key in
    ap (λ x. and_keyed_item x key_word w separator no_field_wording) name_is
    ∙ ap (λ x. and_keyed_item (field_name s.at key) key_word x separator no_field_wording) (w_is ∙ ap (λ x. worded_operand x item) (then_is ∙ behind_field key k s number_is))

pub keyed_made : (key item : OperandValue) (s next : Standing) (k w : Wording) (separator : Separator) →
    None ≡ field_name s.at key → k ≡ worded_operand s key → next ≡ behind_operand key s → w ≡ worded_operand next item → and_key k w separator no_field_wording ≡ worded_keyed s key item separator
keyed_made key item s next k w separator none k_is then_is w_is =
    ap (λ x. and_keyed_item None x w separator no_field_wording) k_is
    ∙ ap (λ x. and_keyed_item x (worded_operand s key) w separator no_field_wording) none
    ∙ ap (λ x. and_keyed_item (field_name s.at key) (worded_operand s key) x separator no_field_wording) (w_is ∙ ap (λ x. worded_operand x item) then_is)

-- ---- an only argument without parentheses

pub not_short : (short : Option ArgumentWording) (v : Value) (s : Standing) → None ≡ short → s ≡ behind_short short v s
not_short None v s is = refl
not_short (Some short) v s is = cc

pub short_behind : (short : Option ArgumentWording) (v : Value) (s : Standing) → behind_short short v s ≡ behind_arguments short (and_value v no_values) s
short_behind None v s = refl
short_behind (Some short) v s = refl

-- what is neither a constant nor a constructor has no short form
pub no_short_form : (c : Core) (s : Standing) → ((k : ℕ) → c ≡ Constant k → ⊥) → ((items : CoreItems) (all : Bool) (depth : ℕ) → c ≡ Table items all depth → ⊥) → None ≡ worded_only s (view_core c)
unfolding out-Core roll-Core denote.Hole.Carrier.out denote.Hole.Carrier.roll
no_short_form (Constant k) s no_constant no_table = absurd (no_constant k refl)
no_short_form (Table' m row all depth) s no_constant no_table =
    let items : CoreItems = record { items = shown-the_row-CoreItem-2 m row } in
    absurd (no_table items all depth (sym (roll-out-Core (Table' m row all depth))))
no_short_form c s no_constant no_table = refl

-- all arguments in the short form
short_form : (is_short : Bool) (form : Option ArgumentWording) (ws : Wordings) (a : ArgumentWording) → Some a ≡ (if is_short then form else None) → a ≡ as_arguments is_short form ws
short_form true None ws a is = cc
short_form true (Some short) ws a is = cc
short_form false form ws a is = cc

list_form : (is_short : Bool) (form : Option ArgumentWording) (ws : Wordings) → None ≡ (if is_short then form else None) → as_list ws ≡ as_arguments is_short form ws
list_form true None ws is = refl
list_form true (Some short) ws is = cc
list_form false form ws is = refl

pub arguments_short : (s : Standing) (args : Values) (all : Bool) (a : ArgumentWording) → Some a ≡ worded_short s args all → a ≡ worded_arguments s args all
arguments_short s args all a is = short_form (s.at.short && not all) (word_short s.at s.taken s.left args) (worded_values s args all) a is

pub arguments_list : (s next : Standing) (args : Values) (all : Bool) (ws : Wordings) → None ≡ worded_short s args all → next ≡ s → ws ≡ worded_values next args all → as_list ws ≡ worded_arguments s args all
arguments_list s next args all ws none then_is ws_is =
    ap as_list (ws_is ∙ ap (λ x. worded_values x args all) then_is) ∙ list_form (s.at.short && not all) (word_short s.at s.taken s.left args) (worded_values s args all) none

pub behind_none : (form : Option ArgumentWording) (args : Values) (s : Standing) → None ≡ form → behind_arguments form args s ≡ s
behind_none None args s is = refl
behind_none (Some short) args s is = cc

pub behind_some : (form : Option ArgumentWording) (args : Values) (s : Standing) (a : ArgumentWording) → Some a ≡ form → behind_arguments form args s ≡ behind_values args s
behind_some None args s a is = cc
behind_some (Some short) args s a is = refl

no_form : (is_short : Bool) (form : Option ArgumentWording) → is_short ≡ false → None ≡ (if is_short then form else None)
no_form true form is = cc
no_form false form is = refl

some_form : (is_short : Bool) (form : Option ArgumentWording) → is_short ≡ true → form ≡ (if is_short then form else None)
some_form true form is = refl
some_form false form is = cc

-- none where the last argument gives all its values, where it is not asked for, and where there is not one argument
pub none_open : (s : Standing) (args : Values) (all : Bool) → all ≡ true → None ≡ worded_short s args all
none_open s args all is = no_form (s.at.short && not all) (word_short s.at s.taken s.left args) (and_right s.at.short (not all) (ap not is))

pub none_long : (s : Standing) (args : Values) (all : Bool) → s.at.short ≡ false → None ≡ worded_short s args all
none_long s args all is = no_form (s.at.short && not all) (word_short s.at s.taken s.left args) (and_left s.at.short (not all) is)

none_many : (cores : List Core) (s : Standing) → (length cores ≡ 1 → ⊥) → None ≡ word_short s.at s.taken s.left (values_of cores)
none_many [] s apart = refl
none_many (c ∷ []) s apart = absurd (apart refl)
none_many (c ∷ d ∷ rest) s apart = refl

both_true : (a b : Bool) → a ≡ true → b ≡ true → (a && b) ≡ true
both_true true true a_is b_is = refl
both_true true false a_is b_is = cc
both_true false b a_is b_is = cc

pub one_argument : (s : Standing) (v : Value) (all : Bool) → s.at.short ≡ true → all ≡ false → worded_only s v ≡ worded_short s (and_value v no_values) all
one_argument s v all short_is all_is = some_form (s.at.short && not all) (worded_only s v) (both_true s.at.short (not all) short_is (ap not all_is))

none_either : (is_short : Bool) (form : Option ArgumentWording) → None ≡ form → None ≡ (if is_short then form else None)
none_either true form is = is
none_either false form is = refl

pub none_not_one : (s : Standing) (cores : List Core) (all : Bool) → (length cores ≡ 1 → ⊥) → None ≡ worded_short s (values_of cores) all
none_not_one s cores all apart = none_either (s.at.short && not all) (word_short s.at s.taken s.left (values_of cores)) (none_many cores s apart)

-- a list of one
pub only_one : (cores : List Core) (only : Core) → length cores ≡ 1 → only ≡ get_or cores 0 only → values_of cores ≡ and_value (view_core only) no_values
only_one [] only count is = cc
only_one (c ∷ []) only count is = ap (λ x. and_value (view_core x) no_values) (sym is)
only_one (c ∷ d ∷ rest) only count is = absurd (omega arith)

and_true : (b : Bool) → b ≡ (b && true)
and_true true = refl
and_true false = refl

pub can_only : (cores : List Core) (only : Core) (s : Standing) → length cores ≡ 1 → only ≡ get_or cores 0 only → can_word s (view_core only) ≡ can_word_values s (values_of cores)
can_only cores only s count is = and_true (can_word s (view_core only)) ∙ ap (can_word_values s) (sym (only_one cores only count is))

-- ---- joined values

-- where none is written there is none
pub none_each : (operands : Values) (s : Standing) → [] ≡ worded_each s operands → can_word s (concat_value operands 0) ≡ false
none_each no_values s is = refl
none_each (and_value v rest) s is = cc

-- where some is written there is one
pub some_each : (operands : Values) (s : Standing) (ws : List Written) → map view_written ws ≡ worded_each s operands → (ws ≡ [] → ⊥) → not (ends_values operands) ≡ true
some_each no_values s [] is some = absurd (some refl)
some_each no_values s (w ∷ ws) is some = cc
some_each (and_value v rest) s ws is some = refl
