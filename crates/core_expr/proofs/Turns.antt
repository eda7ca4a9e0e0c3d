-- Turns of the loops over lists of values, operands and items.
use Rattle.std.proofs.Common.{◌≡◌, refl, sym, ap, ◌∙◌, ℕ, ◌+◌, ◌<◌, ◌≤◌, max, Bool, true, false, List, [], ◌∷◌, ◌++◌, length, drop, length-drop, get_or, append_assoc, append-nil, Option, Some, None, arith}
use Rattle.std.specs.Prelude.{◌&&◌, not, ◌==◌}
use Rattle.std.proofs.lemmas.Bool.{and_left}
use Rattle.std.proofs.lemmas.Bool.Decides.{nat_tests}
use Rattle.std.proofs.lemmas.List.{drop_more, at_drop_all}
use Rattle.lua_num.specs.Bytes.{Text}
use Rattle.lua_tree.specs.Joins.{join_expressions, join_fields}
use Rattle.lua_tree.specs.Syntax.{Expressions, no_expressions, expression, Fields, no_fields, positional, named, keyed}
use Rattle.lua_tree.specs.declared.tree.Separator.{Separator}
use Rattle.core_expr.specs.Held.{wordings_with, join_wordings, separator_of}
use Rattle.core_expr.specs.Places.{field_name}
use Rattle.core_expr.specs.Standing.{Standing, behind, behind_values, behind_operand, behind_operands, behind_item, behind_items, worded, worded_values, worded_each, worded_operand, worded_keys, worded_item, worded_items, no_field_wording, can_word, can_word_values, can_word_operand, can_word_operands, can_word_item, can_word_items}
use Rattle.core_expr.specs.Values.{view_core, view_operand, view_item, values_of, operands_of, items_of, ItemList, no_items, and_positional, and_keyed}
use Rattle.core_expr.specs.Writing.{Wording, Wordings, FieldWording, as_value, and_wording, no_wordings, and_keyed_item, ends_values, ends_items, separator_before, with_key}
use Rattle.core_expr.specs.declared.cores.Core.{Core}
use Rattle.core_expr.specs.declared.cores.CoreItem.{CoreItem, Positional, Keyed}
use Rattle.core_expr.specs.declared.cores.Operand.{Operand}

-- what is left of a list, by its first item
pub left_of : {A : Type 0} (items : List A) (i : ℕ) (item : A) → i < length items → item ≡ get_or items i item → drop i items ≡ item ∷ drop (i + 1) items
left_of items i item below is = drop_more items i item below ∙ ap (λ first. first ∷ drop (i + 1) items) (sym is)

-- at the end of a loop nothing is left
pub none_left : {A B : Type 0} (rest : List A → B) (items : List A) (i : ℕ) {nothing : B} → length items ≤ i → rest [] ≡ nothing → rest (drop i items) ≡ nothing
none_left rest items i done is = at_drop_all rest items i done ∙ is

-- ---- values of a list

-- written ones before others
abbrev pub join_lists : Wordings → Wordings → Wordings
join_lists ws more = record { words = join_expressions ws.words more.words; levels = max ws.levels more.levels }

expressions_assoc : (a b c : Expressions) → join_expressions (join_expressions a b) c ≡ join_expressions a (join_expressions b c)
expressions_assoc no_expressions b c = refl
expressions_assoc (expression e a) b c = ap (expression e) (expressions_assoc a b c)

expressions_none : (a : Expressions) → join_expressions a no_expressions ≡ a
expressions_none no_expressions = refl
expressions_none (expression e a) = ap (expression e) (expressions_none a)

max_assoc : (a b c : ℕ) → max (max a b) c ≡ max a (max b c)
max_assoc a b c = omega arith

max_none : (a : ℕ) → max a 0 ≡ a
max_none a = omega arith

none_max : (a : ℕ) → max 0 a ≡ a
none_max a = omega arith

lists_with : (ws more : Wordings) (w : Wording) → join_lists (wordings_with ws w) more ≡ join_lists ws (and_wording w more)
lists_with ws more w = λ i. record { words = expressions_assoc ws.words (expression w.words no_expressions) more.words i; levels = max_assoc ws.levels w.levels more.levels i }

pub lists_end : (ws : Wordings) → join_lists ws no_wordings ≡ ws
lists_end ws = λ i. record { words = expressions_none ws.words i; levels = max_none ws.levels i }

pub lists_start : {ws : Wordings} (more : Wordings) → ws ≡ no_wordings → join_lists ws more ≡ more
lists_start more is = ap (λ ws. join_lists ws more) is ∙ (λ i. record { words = more.words; levels = none_max more.levels i })

pub values_turn : (items : List Core) (i : ℕ) (c : Core) → i < length items → c ≡ get_or items i c → (all : Bool) (before after : Standing) (ws after_ws : Wordings) (w : Wording) (whole : Wordings) →
    join_lists ws (worded_values before (values_of (drop i items)) all) ≡ whole →
    w ≡ as_value (ends_values (values_of (drop (i + 1) items)) && not all) (view_core c) (worded before (view_core c)) → after ≡ behind (view_core c) before → after_ws ≡ wordings_with ws w →
    join_lists after_ws (worded_values after (values_of (drop (i + 1) items)) all) ≡ whole
values_turn items i c below is all before after ws after_ws w whole whole_is w_is after_is ws_is =
    let rest = values_of (drop (i + 1) items) in
    ap (λ x. join_lists x (worded_values after rest all)) ws_is
    ∙ lists_with ws (worded_values after rest all) w
    ∙ ap (λ x. join_lists ws (and_wording w (worded_values x rest all))) after_is
    ∙ ap (λ x. join_lists ws (and_wording x (worded_values (behind (view_core c) before) rest all))) w_is
    ∙ ap (λ those. join_lists ws (worded_values before (values_of those) all)) (sym (left_of items i c below is))
    ∙ whole_is

pub behind_turn : (items : List Core) (i : ℕ) (c : Core) → i < length items → c ≡ get_or items i c → (before after whole : Standing) →
    behind_values (values_of (drop i items)) before ≡ whole → after ≡ behind (view_core c) before → behind_values (values_of (drop (i + 1) items)) after ≡ whole
behind_turn items i c below is before after whole whole_is after_is =
    ap (behind_values (values_of (drop (i + 1) items))) after_is ∙ ap (λ those. behind_values (values_of those) before) (sym (left_of items i c below is)) ∙ whole_is

-- what was written could be: whether all can be is whether the rest can
pub can_turn : (items : List Core) (i : ℕ) (c : Core) → i < length items → c ≡ get_or items i c → (before after : Standing) {whole : Bool} →
    can_word_values before (values_of (drop i items)) ≡ whole → can_word before (view_core c) ≡ true → after ≡ behind (view_core c) before → can_word_values after (values_of (drop (i + 1) items)) ≡ whole
can_turn items i c below is before after whole_is can after_is =
    let rest = values_of (drop (i + 1) items) in
    ap (λ s. can_word_values s rest) after_is
    ∙ ap (λ first. first && can_word_values (behind (view_core c) before) rest) (sym can)
    ∙ ap (λ those. can_word_values before (values_of those)) (sym (left_of items i c below is))
    ∙ whole_is

pub can_here : (items : List Core) (i : ℕ) (c : Core) → i < length items → c ≡ get_or items i c → (before : Standing) →
    can_word before (view_core c) ≡ false → can_word_values before (values_of (drop i items)) ≡ false
can_here items i c below is before cannot = ap (λ those. can_word_values before (values_of those)) (left_of items i c below is) ∙ and_left _ _ cannot

-- whether an item is the last of its list
ends_by : (items : List Core) → ends_values (values_of items) ≡ (length items == 0)
ends_by [] = refl
ends_by (c ∷ items) = grind (arith, nat_tests)

is_last_by : {A : Type 0} (items : List A) (i : ℕ) → i < length items → (i + 1 == length items) ≡ (length (drop (i + 1) items) == 0)
is_last_by items i below = let n = length-drop (i + 1) items in grind (arith, nat_tests)

pub is_last_value : (items : List Core) (i : ℕ) → i < length items → (i + 1 == length items) ≡ ends_values (values_of (drop (i + 1) items))
is_last_value items i below = is_last_by items i below ∙ sym (ends_by (drop (i + 1) items))

-- ---- values that are joined

pub each_turn : (items : List Core) (i : ℕ) (c : Core) → i < length items → c ≡ get_or items i c → (before after : Standing) (ws after_ws whole : List Wording) (w : Wording) →
    ws ++ worded_each before (values_of (drop i items)) ≡ whole → w ≡ worded before (view_core c) → after ≡ behind (view_core c) before → after_ws ≡ ws ++ w ∷ [] →
    after_ws ++ worded_each after (values_of (drop (i + 1) items)) ≡ whole
each_turn items i c below is before after ws after_ws whole w whole_is w_is after_is ws_is =
    let rest = values_of (drop (i + 1) items) in
    ap (λ x. x ++ worded_each after rest) ws_is
    ∙ append_assoc ws (w ∷ []) (worded_each after rest)
    ∙ ap (λ x. ws ++ w ∷ worded_each x rest) after_is
    ∙ ap (λ x. ws ++ x ∷ worded_each (behind (view_core c) before) rest) w_is
    ∙ ap (λ those. ws ++ worded_each before (values_of those)) (sym (left_of items i c below is))
    ∙ whole_is

pub each_end : (items : List Core) (i : ℕ) → length items ≤ i → (s : Standing) (ws : List Wording) {whole : List Wording} → ws ++ worded_each s (values_of (drop i items)) ≡ whole → ws ≡ whole
each_end items i done s ws is = sym (none_left (λ those. ws ++ worded_each s (values_of those)) items i done (append-nil ws)) ∙ is

-- ---- keys

pub keys_turn : (items : List Operand) (i : ℕ) (key : Operand) → i < length items → key ≡ get_or items i key → (before after : Standing) (on w whole : Wording) →
    worded_keys before on (operands_of (drop i items)) ≡ whole → w ≡ with_key (field_name before.at (view_operand key)) on (worded_operand before (view_operand key)) → after ≡ behind_operand (view_operand key) before →
    worded_keys after w (operands_of (drop (i + 1) items)) ≡ whole
keys_turn items i key below is before after on w whole whole_is w_is after_is =
    let rest = operands_of (drop (i + 1) items) in
    ap (λ x. worded_keys x w rest) after_is
    ∙ ap (λ x. worded_keys (behind_operand (view_operand key) before) x rest) w_is
    ∙ ap (λ those. worded_keys before on (operands_of those)) (sym (left_of items i key below is))
    ∙ whole_is

pub behind_keys_turn : (items : List Operand) (i : ℕ) (key : Operand) → i < length items → key ≡ get_or items i key → (before after whole : Standing) →
    behind_operands (operands_of (drop i items)) before ≡ whole → after ≡ behind_operand (view_operand key) before → behind_operands (operands_of (drop (i + 1) items)) after ≡ whole
behind_keys_turn items i key below is before after whole whole_is after_is =
    ap (behind_operands (operands_of (drop (i + 1) items))) after_is ∙ ap (λ those. behind_operands (operands_of those) before) (sym (left_of items i key below is)) ∙ whole_is

pub can_keys_turn : (items : List Operand) (i : ℕ) (key : Operand) → i < length items → key ≡ get_or items i key → (before after : Standing) {whole : Bool} →
    can_word_operands before (operands_of (drop i items)) ≡ whole → can_word_operand before (view_operand key) ≡ true → after ≡ behind_operand (view_operand key) before → can_word_operands after (operands_of (drop (i + 1) items)) ≡ whole
can_keys_turn items i key below is before after whole_is can after_is =
    let rest = operands_of (drop (i + 1) items) in
    ap (λ s. can_word_operands s rest) after_is
    ∙ ap (λ first. first && can_word_operands (behind_operand (view_operand key) before) rest) (sym can)
    ∙ ap (λ those. can_word_operands before (operands_of those)) (sym (left_of items i key below is))
    ∙ whole_is

pub can_keys_here : (items : List Operand) (i : ℕ) (key : Operand) → i < length items → key ≡ get_or items i key → (before : Standing) →
    can_word_operand before (view_operand key) ≡ false → can_word_operands before (operands_of (drop i items)) ≡ false
can_keys_here items i key below is before cannot = ap (λ those. can_word_operands before (operands_of those)) (left_of items i key below is) ∙ and_left _ _ cannot

-- ---- items of a constructor

fields_assoc : (a b c : Fields) → join_fields (join_fields a b) c ≡ join_fields a (join_fields b c)
fields_assoc no_fields b c = refl
fields_assoc (positional e separator a) b c = ap (positional e separator) (fields_assoc a b c)
fields_assoc (named name e separator a) b c = ap (named name e separator) (fields_assoc a b c)
fields_assoc (keyed key e separator a) b c = ap (keyed key e separator) (fields_assoc a b c)

fields_none : (a : Fields) → join_fields a no_fields ≡ a
fields_none no_fields = refl
fields_none (positional e separator a) = ap (positional e separator) (fields_none a)
fields_none (named name e separator a) = ap (named name e separator) (fields_none a)
fields_none (keyed key e separator a) = ap (keyed key e separator) (fields_none a)

wordings_assoc : (a b c : FieldWording) → join_wordings (join_wordings a b) c ≡ join_wordings a (join_wordings b c)
wordings_assoc a b c = λ i. record { words = fields_assoc a.words b.words c.words i; levels = max_assoc a.levels b.levels c.levels i }

pub wordings_end : (ws : FieldWording) → join_wordings ws (record { words = no_fields; levels = 0 }) ≡ ws
wordings_end ws = λ i. record { words = fields_none ws.words i; levels = max_none ws.levels i }

pub wordings_start : {ws : FieldWording} (more : FieldWording) → ws ≡ record { words = no_fields; levels = 0 } → join_wordings ws more ≡ more
wordings_start more is = ap (λ ws. join_wordings ws more) is ∙ (λ i. record { words = more.words; levels = none_max more.levels i })

and_assoc : (a b c : Bool) → (a && (b && c)) ≡ ((a && b) && c)
and_assoc true b c = refl
and_assoc false b c = refl

max_zero : (a b : ℕ) → max a b ≡ max (max a 0) b
max_zero a b = ap (λ n. max n b) (sym (max_none a))

keyed_first : (name : Option Text) (key w : Wording) (separator : Separator) (rest : FieldWording) →
    and_keyed_item name key w separator rest ≡ join_wordings (and_keyed_item name key w separator no_field_wording) rest
keyed_first None key w separator rest = λ i. record { words = keyed key.words w.words separator rest.words; levels = max_zero (max key.levels w.levels) rest.levels i }
keyed_first (Some name) key w separator rest = λ i. record { words = named name w.words separator rest.words; levels = max_zero w.levels rest.levels i }

-- items by the first one and the others
item_first : (item : CoreItem) (rest : ItemList) (all : Bool) (s : Standing) →
    worded_items s (view_item item rest) all ≡ join_wordings (worded_item s (ends_items rest && not all) item (separator_before rest)) (worded_items (behind_item item s) rest all)
item_first (Positional c) rest all s =
    let w = as_value (ends_items rest && not all) (view_core c) (worded s (view_core c)) in
    let others = worded_items (behind (view_core c) s) rest all in
    λ i. record { words = positional w.words (separator_before rest) others.words; levels = max_zero w.levels others.levels i }
item_first (Keyed key item) rest all s =
    let behind_key = behind_operand (view_operand key) s in
    keyed_first (field_name s.at (view_operand key)) (worded_operand s (view_operand key)) (worded_operand behind_key (view_operand item)) (separator_before rest) (worded_items (behind_operand (view_operand item) behind_key) rest all)

behind_first : (item : CoreItem) (rest : ItemList) (s : Standing) → behind_items (view_item item rest) s ≡ behind_items rest (behind_item item s)
behind_first (Positional c) rest s = refl
behind_first (Keyed key item) rest s = refl

can_first : (item : CoreItem) (rest : ItemList) (s : Standing) → can_word_items s (view_item item rest) ≡ (can_word_item s item && can_word_items (behind_item item s) rest)
can_first (Positional c) rest s = refl
can_first (Keyed key item) rest s =
    let behind_key = behind_operand (view_operand key) s in
    and_assoc (can_word_operand s (view_operand key)) (can_word_operand behind_key (view_operand item)) (can_word_items (behind_operand (view_operand item) behind_key) rest)

separator_is : (rest : ItemList) → separator_of (ends_items rest) ≡ separator_before rest
separator_is no_items = refl
separator_is (and_positional v rest) = refl
separator_is (and_keyed key item rest) = refl

ends_first : (item : CoreItem) (rest : ItemList) → ends_items (view_item item rest) ≡ false
ends_first (Positional c) rest = refl
ends_first (Keyed key item) rest = refl

ends_items_by : (items : List CoreItem) → ends_items (items_of items) ≡ (length items == 0)
ends_items_by [] = refl
ends_items_by (item ∷ items) = let e = ends_first item (items_of items) in grind (arith, nat_tests)

pub is_last_item : (items : List CoreItem) (i : ℕ) → i < length items → (i + 1 == length items) ≡ ends_items (items_of (drop (i + 1) items))
is_last_item items i below = is_last_by items i below ∙ sym (ends_items_by (drop (i + 1) items))

pub items_turn : (items : List CoreItem) (i : ℕ) (item : CoreItem) → i < length items → item ≡ get_or items i item → (all is_last : Bool) → is_last ≡ ends_items (items_of (drop (i + 1) items)) → (before after : Standing) (ws after_ws whole : FieldWording) (w : Separator → FieldWording) →
    join_wordings ws (worded_items before (items_of (drop i items)) all) ≡ whole → ((separator : Separator) → w separator ≡ worded_item before (is_last && not all) item separator) → after ≡ behind_item item before →
    after_ws ≡ join_wordings ws (w (separator_of is_last)) → join_wordings after_ws (worded_items after (items_of (drop (i + 1) items)) all) ≡ whole
items_turn items i item below is all is_last last_is before after ws after_ws whole w whole_is w_is after_is ws_is =
    let rest = items_of (drop (i + 1) items) in
    let others = worded_items (behind_item item before) rest all in
    ap (λ x. join_wordings x (worded_items after rest all)) ws_is
    ∙ wordings_assoc ws (w (separator_of is_last)) (worded_items after rest all)
    ∙ ap (λ x. join_wordings ws (join_wordings (w (separator_of is_last)) (worded_items x rest all))) after_is
    ∙ ap (λ x. join_wordings ws (join_wordings x others)) (w_is (separator_of is_last))
    ∙ ap (λ x. join_wordings ws (join_wordings (worded_item before (x && not all) item (separator_of x)) others)) last_is
    ∙ ap (λ x. join_wordings ws (join_wordings (worded_item before (ends_items rest && not all) item x) others)) (separator_is rest)
    ∙ ap (join_wordings ws) (sym (item_first item rest all before))
    ∙ ap (λ those. join_wordings ws (worded_items before (items_of those) all)) (sym (left_of items i item below is))
    ∙ whole_is

pub behind_items_turn : (items : List CoreItem) (i : ℕ) (item : CoreItem) → i < length items → item ≡ get_or items i item → (before after whole : Standing) →
    behind_items (items_of (drop i items)) before ≡ whole → after ≡ behind_item item before → behind_items (items_of (drop (i + 1) items)) after ≡ whole
behind_items_turn items i item below is before after whole whole_is after_is =
    ap (behind_items (items_of (drop (i + 1) items))) after_is
    ∙ sym (behind_first item (items_of (drop (i + 1) items)) before)
    ∙ ap (λ those. behind_items (items_of those) before) (sym (left_of items i item below is))
    ∙ whole_is

pub can_items_turn : (items : List CoreItem) (i : ℕ) (item : CoreItem) → i < length items → item ≡ get_or items i item → (before after : Standing) {whole : Bool} →
    can_word_items before (items_of (drop i items)) ≡ whole → can_word_item before item ≡ true → after ≡ behind_item item before → can_word_items after (items_of (drop (i + 1) items)) ≡ whole
can_items_turn items i item below is before after whole_is can after_is =
    let rest = items_of (drop (i + 1) items) in
    ap (λ s. can_word_items s rest) after_is
    ∙ ap (λ first. first && can_word_items (behind_item item before) rest) (sym can)
    ∙ sym (can_first item rest before)
    ∙ ap (λ those. can_word_items before (items_of those)) (sym (left_of items i item below is))
    ∙ whole_is

pub can_items_here : (items : List CoreItem) (i : ℕ) (item : CoreItem) → i < length items → item ≡ get_or items i item → (before : Standing) →
    can_word_item before item ≡ false → can_word_items before (items_of (drop i items)) ≡ false
can_items_here items i item below is before cannot =
    ap (λ those. can_word_items before (items_of those)) (left_of items i item below is) ∙ can_first item (items_of (drop (i + 1) items)) before ∙ and_left _ _ cannot
