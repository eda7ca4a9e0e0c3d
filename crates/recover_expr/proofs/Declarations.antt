-- Declarations and heads of loops: names one behind the other, and lists by their last ones.
use Rattle.std.proofs.Common.{◌≡◌, refl, sym, ap, ◌∙◌, ℕ, zero, suc, ◌+◌, ◌-◌, ◌<◌, ◌≤◌, true, false, ◌&&◌, ◌||◌, List, [], ◌∷◌, ◌++◌, length, take, map, get_or, Option, Some, None, arith}
use Rattle.std.specs.List.{list_any}
use Rattle.std.specs.Prelude.{option_map, slice_get, if◌then◌else◌}
use Rattle.std.proofs.lemmas.List.{length-map, take-map}
use Rattle.std.proofs.lemmas.Option.{slice_get_past, slice_get_read, slice_get-get_or}
use Rattle.lua_num.specs.Bytes.{Text}
use Rattle.lua_tree.specs.Syntax.{no_expressions, expression}
use Rattle.lua_tree.specs.TreeLists.{expressions_of}
use Rattle.lua_tree.specs.View.{view_exp}
use Rattle.lua_tree.specs.declared.tree.Exp.{Exp}
use Rattle.proto.specs.declared.parts.LocVar.{LocVar}
use Rattle.core_expr.specs.Places.{name_of_local}
use Rattle.recover_expr.specs.Declaring.{is_own_function, is_nil_entry, is_one_value, ends_with_nil, is_one, without_step_one, expression_count}
use Rattle.recover_expr.specs.Entries.{EntryValue, Entries, view_entry, missing_entry}
use Rattle.recover_expr.specs.Locals.{name_of, before_names, names_from}
use Rattle.recover_expr.specs.declared.stack.Entry.{Entry}
use Rattle.recover_expr.proofs.Listed.{names_turn}

-- ---- names

no_name_behind : (name : Option Text) → before_names name None ≡ None
no_name_behind None = refl
no_name_behind (Some name) = refl

-- the first of these is none, or one behind it is
names_next : (locals : List LocVar) (first count : ℕ) → (0 < count → names_from locals (suc first) count ≡ None) → length locals < first + suc count → names_from locals first (suc count) ≡ None
names_next locals first zero behind beyond =
    let past : length locals ≤ first = omega arith in
    ap (λ found. before_names (name_of_local found) (names_from locals (suc first) zero)) (slice_get_past locals first past)
names_next locals first (suc count) behind beyond =
    let some : 0 < suc count = omega arith in
    ap (before_names (name_of locals first)) (behind some) ∙ no_name_behind (name_of locals first)

-- there are no names of more entries than there are
names_beyond : (locals : List LocVar) (first count : ℕ) → 0 < count → length locals < first + count → names_from locals first count ≡ None
names_beyond locals first zero some beyond = absurd (omega (arith, some))
names_beyond locals first (suc count) some beyond =
    let less : length locals < suc first + count = omega arith in
    names_next locals first count (λ more. names_beyond locals (suc first) count more less) beyond

pub names_few : (locals : List LocVar) (first count : ℕ) → length locals - first < count → names_from locals first count ≡ None
names_few locals first count few =
    let some : 0 < count = omega arith in
    let beyond : length locals < first + count = omega arith in
    names_beyond locals first count some beyond

-- one name more is pushed
pub names_pushed : (locals : List LocVar) (names after : List Text) (name : Text) (entry end : ℕ) → entry < end → Some name ≡ name_of locals entry → after ≡ names ++ name ∷ [] → {whole : Option (List Text)} →
    option_map (λ rest. names ++ rest) (names_from locals entry (end - entry)) ≡ whole → option_map (λ rest. after ++ rest) (names_from locals (entry + 1) (end - (entry + 1))) ≡ whole
names_pushed locals names after name entry end below named is {whole} left =
    ap (λ those. option_map (λ rest. those ++ rest) (names_from locals (entry + 1) (end - (entry + 1)))) is ∙ names_turn locals names name entry end below named left

-- ---- entries

pub any_own : (entries : List Entry) → list_any is_own_function (map view_entry entries) ≡ list_any (λ (e : Entry). is_own_function (view_entry e)) entries
any_own [] = refl
any_own (e ∷ entries) = ap (λ b. is_own_function (view_entry e) || b) (any_own entries)

pub view_length : (entries : List Entry) → length (map view_entry entries) ≡ length entries
view_length entries = length-map entries view_entry

-- with one that is missing in the place of the last one
pub without_last : (entries : List Entry) → map view_entry (take (length entries - 1) entries) ++ missing_entry ∷ [] ≡ take (length (map view_entry entries) - 1) (map view_entry entries) ++ missing_entry ∷ []
without_last entries =
    ap (λ front. front ++ missing_entry ∷ []) (sym (take-map view_entry (length entries - 1) entries))
    ∙ ap (λ n. take (n - 1) (map view_entry entries) ++ missing_entry ∷ []) (sym (length-map entries view_entry))

behind_first : (entry : EntryValue) (entries : Entries) → 2 ≤ length entries → ends_with_nil (entry ∷ entries) ≡ ends_with_nil entries
behind_first entry [] many = absurd (omega (arith, many))
behind_first entry (one ∷ []) many = absurd (omega (arith, many))
behind_first entry (one ∷ two ∷ entries) many = refl

two_alone : (x : Entry) (entries : List Entry) (before last : Entry) → length entries ≡ 1 → Some x ≡ Some before → slice_get entries 0 ≡ Some last →
    ends_with_nil (map view_entry (x ∷ entries)) ≡ (is_nil_entry (view_entry last) && is_one_value (view_entry before))
two_alone x [] before last one is_before is_last = absurd (omega (arith, one))
two_alone x (y ∷ []) before last one is_before is_last =
    let low : x ≡ before = cc in
    let high : y ≡ last = cc in
    ap (λ e. is_nil_entry (view_entry y) && is_one_value (view_entry e)) low ∙ ap (λ e. is_nil_entry (view_entry e) && is_one_value (view_entry before)) high
two_alone x (y ∷ z ∷ entries) before last one is_before is_last = absurd (omega (arith, one))

two_behind : (entries : List Entry) (n : ℕ) (before last : Entry) → length entries ≡ suc (suc n) → slice_get entries n ≡ Some before → slice_get entries (suc n) ≡ Some last →
    ends_with_nil (map view_entry entries) ≡ (is_nil_entry (view_entry last) && is_one_value (view_entry before))
two_behind [] n before last count is_before is_last = absurd (omega (arith, count))
two_behind (x ∷ entries) zero before last count is_before is_last =
    let one : length entries ≡ 1 = omega arith in
    two_alone x entries before last one is_before is_last
two_behind (x ∷ entries) (suc n) before last count is_before is_last =
    let less : length entries ≡ suc (suc n) = omega arith in
    let many : 2 ≤ length (map view_entry entries) = omega (arith, length-map entries view_entry) in
    behind_first (view_entry x) (map view_entry entries) many ∙ two_behind entries n before last less is_before is_last

-- the last of these, behind another
pub two_last : (entries : List Entry) (before last : Entry) → 2 ≤ length entries → before ≡ get_or entries (length entries - 2) before → last ≡ get_or entries (length entries - 1) last →
    ends_with_nil (map view_entry entries) ≡ (is_nil_entry (view_entry last) && is_one_value (view_entry before))
two_last entries before last many is_before is_last =
    let n = length entries - 2 in
    let low : n < length entries = omega arith in
    let high : length entries - 1 < length entries = omega arith in
    let next : suc n ≡ length entries - 1 = omega arith in
    let count : length entries ≡ suc (suc n) = omega arith in
    two_behind entries n before last count (slice_get_read entries (length entries) n before refl low is_before)
    (ap (slice_get entries) next ∙ slice_get_read entries (length entries) (length entries - 1) last refl high is_last)

pub one_last : (entries : List Entry) (last : Entry) → length entries ≡ 1 → last ≡ get_or entries 0 last → ends_with_nil (map view_entry entries) ≡ is_nil_entry (view_entry last)
one_last [] last one is = absurd (omega (arith, one))
one_last (x ∷ []) last one is = ap (λ e. is_nil_entry (view_entry e)) (sym is)
one_last (x ∷ y ∷ entries) last one is = absurd (omega (arith, one))

pub none_last : (entries : List Entry) → length entries < 1 → ends_with_nil (map view_entry entries) ≡ false
none_last [] none = refl
none_last (x ∷ entries) none = absurd (omega (arith, none))

-- ---- expressions

pub count_is : (items : List Exp) → expression_count (expressions_of items) ≡ length items
count_is [] = refl
count_is (e ∷ items) = ap suc (count_is items)

step_behind : (e : Exp) (items : List Exp) (n : ℕ) → length items ≡ suc n → without_step_one (expressions_of (e ∷ items)) ≡ expression (view_exp e) (without_step_one (expressions_of items))
step_behind e [] n some = absurd (omega (arith, some))
step_behind e (x ∷ items) n some = refl

one_alone : (e : Exp) (items : List Exp) (last : Exp) → length items ≡ 0 → Some e ≡ Some last → is_one (view_exp last) ≡ true → no_expressions ≡ without_step_one (expressions_of (e ∷ items))
one_alone e [] last none is one =
    let same : e ≡ last = cc in
    sym (ap (λ x. if is_one (view_exp x) then no_expressions else expression (view_exp e) no_expressions) same ∙ ap (λ b. if b then no_expressions else expression (view_exp e) no_expressions) one)
one_alone e (x ∷ items) last none is one = absurd (omega (arith, none))

one_dropped : (items : List Exp) (n : ℕ) (last : Exp) → length items ≡ suc n → slice_get items n ≡ Some last → is_one (view_exp last) ≡ true →
    expressions_of (take n items) ≡ without_step_one (expressions_of items)
one_dropped [] n last some is one = absurd (omega (arith, some))
one_dropped (e ∷ items) zero last some is one =
    let none : length items ≡ 0 = omega arith in
    one_alone e items last none is one
one_dropped (e ∷ items) (suc n) last some is one =
    let less : length items ≡ suc n = omega arith in
    ap (expression (view_exp e)) (one_dropped items n last less is one) ∙ sym (step_behind e items n less)

other_alone : (e : Exp) (items : List Exp) (last : Exp) → length items ≡ 0 → Some e ≡ Some last → is_one (view_exp last) ≡ false → expressions_of (e ∷ items) ≡ without_step_one (expressions_of (e ∷ items))
other_alone e [] last none is other =
    let same : e ≡ last = cc in
    sym (ap (λ x. if is_one (view_exp x) then no_expressions else expression (view_exp e) no_expressions) same ∙ ap (λ b. if b then no_expressions else expression (view_exp e) no_expressions) other)
other_alone e (x ∷ items) last none is other = absurd (omega (arith, none))

other_kept : (items : List Exp) (n : ℕ) (last : Exp) → length items ≡ suc n → slice_get items n ≡ Some last → is_one (view_exp last) ≡ false →
    expressions_of items ≡ without_step_one (expressions_of items)
other_kept [] n last some is other = absurd (omega (arith, some))
other_kept (e ∷ items) zero last some is other =
    let none : length items ≡ 0 = omega arith in
    other_alone e items last none is other
other_kept (e ∷ items) (suc n) last some is other =
    let less : length items ≡ suc n = omega arith in
    ap (expression (view_exp e)) (other_kept items n last less is other) ∙ sym (step_behind e items n less)

pub without_one : (items : List Exp) (last : Exp) → slice_get items (length items - 1) ≡ Some last → is_one (view_exp last) ≡ true →
    expressions_of (take (length items - 1) items) ≡ without_step_one (expressions_of items)
without_one [] last is one = cc
without_one (e ∷ items) last is one =
    let less : length (e ∷ items) - 1 ≡ length items = omega arith in
    ap (λ n. expressions_of (take n (e ∷ items))) less ∙ one_dropped (e ∷ items) (length items) last refl (ap (slice_get (e ∷ items)) (sym less) ∙ is) one

pub with_other : (items : List Exp) (last : Exp) → slice_get items (length items - 1) ≡ Some last → is_one (view_exp last) ≡ false →
    expressions_of items ≡ without_step_one (expressions_of items)
with_other [] last is other = cc
with_other (e ∷ items) last is other =
    let less : length (e ∷ items) - 1 ≡ length items = omega arith in
    other_kept (e ∷ items) (length items) last refl (ap (slice_get (e ∷ items)) (sym less) ∙ is) other

pub with_none : (items : List Exp) → slice_get items (length items - 1) ≡ None → expressions_of items ≡ without_step_one (expressions_of items)
with_none [] none = refl
with_none (e ∷ items) none =
    let low : length (e ∷ items) - 1 < length (e ∷ items) = omega arith in
    let there = slice_get-get_or (e ∷ items) (length (e ∷ items) - 1) e low in
    cc
