-- Expressions but calls, constructors and functions: they agree, where the expressions in them do.
use Rattle.std.proofs.Common.{◌≡◌, ℕ, ◌-◌, Bool, true, false, cond, not, List, refl, sym, ap, ◌∙◌, subst, subst₂}
use Rattle.std.specs.Prelude.{Option, Some, None, is_some, ℤ, ◌==◌}
use Rattle.std.specs.Bool.{beq}
use Rattle.lua_num.specs.Bytes.{Text}
use Rattle.lua_tree.specs.declared.tree.BinaryOp.{BinaryOp}
use Rattle.lua_tree.specs.declared.tree.UnaryOp.{UnaryOp}
use Rattle.lua_tree.specs.Scoping.{Use}
use Rattle.lua_tree.specs.Syntax.{Expression, name_expression}
use Rattle.lua_tree.specs.WellFormed.{is_target}
use Rattle.opcode.specs.declared.op.Op.{Op}
use Rattle.opcode.specs.Word.{truth_field}
use Rattle.proto.specs.declared.parts.Constant.{Constant}
use Rattle.scheme.specs.Making.{Maker, Part, Got, Asks, nothing, answer, freeing, Where, in_register, in_upvalue, in_globals, where_is, next_name}
use Rattle.scheme.specs.Expressions.{fold, number_or, literal, is_name, is_multiple, Want, Target, name_target, part_target, Coded, next_reg, in_next_reg, register_of, local_register, is_local, operand_by, operand, is_small, small_constant, rk_by, rk, load, next_text, rk_text, comparison_word, compare, test, is_true_constant, test_by, plain_multi, no_target, single, read_where, name_value, coded_name, indexed_value, indexed_target, coded_index, coded_field, coded_paren, load_or, arithmetic, concat, truth_value, binary_value, is_comparison, binary_spine, coded_binary, unary_word, unary_value, unary_jump, coded_unary, decide, logic_here, logic_jump, logic_moved, logic_value, coded_logic}
use Rattle.scheme.specs.declared.making.Piece.{Piece}
use Rattle.scheme_order.proofs.Makers.{Names, no_names, one_name, and_then, with_names, got_with, Agree, AgreeAsks, bind, ◌then◌, loosely, either, either_asks, if_so, same_free, same_put, same_label, same_place, same_jump, same_take, same_freeing, same_constant, same_pass, same_name}
use Rattle.scheme_order.proofs.Trees.{SameLook}

-- two expressions whose values agree, with the names of both
pub record SameValue (here there : Names) (c d : Coded) : Type 0 where
  pub look : SameLook here there c.e d.e
  pub to_reg : (r : ℕ) → Agree true here there (c.to_reg r) (d.to_reg r)

-- and whose tests do
pub record SameParts (here there : Names) (c d : Coded) : Type 0 where
  pub value : SameValue here there c d
  pub jump_if : (truth : Bool) (label : ℕ) → Agree true here there (c.jump_if truth label) (d.jump_if truth label)
  pub spine : Agree true here there c.spine d.spine

-- and which agree where they give several values, or are assigned to
pub record Same (here there : Names) (c d : Coded) : Type 0 where
  pub parts : SameParts here there c d
  pub open parts use *
  pub multi : is_multiple c.e ≡ true → (op : Op) (want : Want) → Agree true here there (c.multi op want) (d.multi op want)
  pub target : is_target c.e ≡ true → AgreeAsks true here there c.target d.target

-- ---- names, and literals, which have none

-- by equal names
abbrev Renamed : (P : Names → Names → Type 0) → (here there more again : Names) → Type 0
Renamed P here there more again = (here ≡ more) × (there ≡ again) → P more again → P here there

-- a claim of the names, and so of equal ones
renamed : (P : Names → Names → Type 0) {here there more again : Names} → Renamed P here there more again
renamed P e p = subst₂ P (sym e.0) (sym e.1) p

-- the register of a local, where the expression is a name
abbrev local_by : Bool → Maker → Option ℕ
local_by b m = cond b (register_of (next_name m)) None

-- both have one name, with one meaning
abbrev One : (here there : Names) → Type 0
One here there = (meant : Use) × (here ≡ one_name meant) × (there ≡ one_name meant)

-- what is read, where one name may be ahead, is the same
record AgreeRead {A : Type 0} (here there : Names) (of other : Maker → A) : Type 0 where
  seen : Maker → A
  first : (m : Maker) (rest : List Use) → of (with_names (here rest) m) ≡ seen m
  pub second : (m : Maker) (rest : List Use) → other (with_names (there rest) m) ≡ seen m

-- the register of what may be a name
read_local_by : {here there : Names} (b : Bool) → (b ≡ true → One here there) → AgreeRead here there (local_by b) (local_by b)
read_local_by false one = record { seen = λ m. None; first = λ m rest. refl; second = λ m rest. refl }
read_local_by true one =
    let (meant, here, there) = one refl in
    renamed (λ here there. AgreeRead here there (local_by true) (local_by true)) (here, there)
    (record { seen = λ m. register_of (where_is meant m.active); first = λ m rest. refl; second = λ m rest. refl })

-- the register of an expression that may be a local
same_local : {here there : Names} {c d : Coded} → SameValue here there c d → AgreeRead here there (local_register c.e) (local_register d.e)
same_local {here} {there} {c} {d} s = subst (λ b. AgreeRead here there (local_register c.e) (local_by b)) s.look.names (read_local_by (is_name c.e) s.look.one)

-- whether an expression is a local
same_is_local : {here there : Names} {c d : Coded} → SameValue here there c d → AgreeRead here there (is_local c.e) (is_local d.e)
same_is_local s = let r = same_local s in record { seen = λ m. is_some (r.seen m); first = λ m rest. ap is_some (r.first m rest); second = λ m rest. ap is_some (r.second m rest) }

-- what depends on the register of a local
asked_by : {A : Type 0} {k : Bool} {here there : Names} (b : Bool) (f g : Option ℕ → Asks A) → (b ≡ true → One here there) →
    ((r : ℕ) (meant : Use) → AgreeAsks k (one_name meant) (one_name meant) (f (Some r)) (g (Some r))) →
    AgreeAsks k here there (f None) (g None) → AgreeAsks k here there (λ m. f (local_by b m) m) (λ m. g (local_by b m) m)
asked_by false f g one p q = q
asked_by {A} {k} {here} {there} true f g one p q = by (one refl)
  where
    by : One here there → AgreeAsks k here there (λ m. f (local_by true m) m) (λ m. g (local_by true m) m)
    by (meant, left, right) =
        let at : (o : Option ℕ) → AgreeAsks k (one_name meant) (one_name meant) (f o) (g o) =
        elim [ Some r ↦ p r meant | None ↦ subst₂ (λ here there. AgreeAsks k here there (f None) (g None)) left right q ] in
        renamed (λ here there. AgreeAsks k here there (λ m. f (local_by true m) m) (λ m. g (local_by true m) m)) (left, right)
        (record {
          made = λ m. (at (register_of (where_is meant m.active))).made m;
          first = λ m rest. (at (register_of (where_is meant m.active))).first m rest;
          second = λ m rest. (at (register_of (where_is meant m.active))).second m rest;
          active = λ e m. (at (register_of (where_is meant m.active))).active e m;
        })

-- what is asked by the register of an expression that may be a local
same_by_local : {A : Type 0} {k : Bool} {here there : Names} {c d : Coded} (f g : Option ℕ → Asks A) → SameValue here there c d →
    ((r : ℕ) (meant : Use) → AgreeAsks k (one_name meant) (one_name meant) (f (Some r)) (g (Some r))) → AgreeAsks k here there (f None) (g None) →
    AgreeAsks k here there (λ m. f (local_register c.e m) m) (λ m. g (local_register d.e m) m)
same_by_local {k = k} {here} {there} {c} {d} f g s p q =
    subst (λ b. AgreeAsks k here there (λ m. f (local_register c.e m) m) (λ m. g (local_by b m) m)) s.look.names (asked_by (is_name c.e) f g s.look.one p q)

-- ---- registers, operands

-- NextReg
pub same_next : {k : Bool} {here there : Names} {c d : Coded} → SameValue here there c d → Agree k here there (next_reg c) (next_reg d)
same_next s = bind same_free (λ free. loosely (s.to_reg free) then same_take 1)

-- NextReg, and which register it is
same_in_next : {k : Bool} {here there : Names} {c d : Coded} → SameValue here there c d → AgreeAsks k here there (in_next_reg c) (in_next_reg d)
same_in_next s =
    let next = same_next s in
    record {
      made = λ m. record { value = m.free; after = next.made m };
      first = λ m rest. ap (λ (n : Maker). record { value = m.free; after = n }) (next.first m rest);
      second = λ m rest. ap (λ (n : Maker). record { value = m.free; after = n }) (next.second m rest);
      active = next.active;
    }

-- Operand
pub same_operand : {k : Bool} {here there : Names} {c d : Coded} → SameValue here there c d → AgreeAsks k here there (operand c) (operand d)
same_operand {c = c} {d = d} s = same_by_local (λ o. operand_by o c) (λ o. operand_by o d) s (λ r meant. taken r meant) (same_in_next s)
  where
    taken : {k : Bool} (r : ℕ) (meant : Use) → AgreeAsks k (one_name meant) (one_name meant) (operand_by (Some r) c) (operand_by (Some r) d)
    taken r meant = record { made = λ m. record { value = r; after = m }; first = λ m rest. refl; second = λ m rest. refl; active = λ e m. refl }

-- a small constant
same_small : {k : Bool} (c : Constant) → AgreeAsks k no_names no_names (small_constant c) (small_constant c)
same_small c = record { made = small_constant c; first = λ m rest. refl; second = λ m rest. refl; active = λ e m. refl }

-- a constant where it is small, or another way
small_or : {k : Bool} (c : Constant) {ask other : Asks ℕ} → AgreeAsks k no_names no_names ask other →
    AgreeAsks k no_names no_names (λ m. cond (is_small c m) (small_constant c) ask m) (λ m. cond (is_small c m) (small_constant c) other m)
small_or {k} c {ask} {other} a = record {
  made = λ m. (at (is_small c m)).made m;
  first = λ m rest. (at (is_small c m)).first m rest;
  second = λ m rest. (at (is_small c m)).second m rest;
  active = λ e m. (at (is_small c m)).active e m;
}
  where
    at : (b : Bool) → AgreeAsks k no_names no_names (cond b (small_constant c) ask) (cond b (small_constant c) other)
    at b = either_asks b (same_small c) a

-- RK, by the literal that the expression is
rk_by_same : {k : Bool} {here there : Names} {c d : Coded} → SameValue here there c d → (o : Option Constant) → (is_some o ≡ true → (here ≡ no_names) × (there ≡ no_names)) →
    AgreeAsks k here there (rk_by o c) (rk_by o d)
rk_by_same {k} {here} {there} {c} {d} s (Some x) none =
    let no_use = none refl in
    renamed (λ here there. AgreeAsks k here there (rk_by (Some x) c) (rk_by (Some x) d)) no_use
    (small_or x (subst₂ (λ here there. AgreeAsks k here there (operand c) (operand d)) no_use.0 no_use.1 (same_operand s)))
rk_by_same s None none = same_operand s

-- RK
pub same_rk : {k : Bool} {here there : Names} {c d : Coded} → SameValue here there c d → AgreeAsks k here there (rk c) (rk d)
same_rk {k} {here} {there} {c} {d} s = subst (λ o. AgreeAsks k here there (rk c) (rk_by o d)) s.look.literals (rk_by_same s (literal c.e) s.look.none)

-- a constant is loaded
pub same_load : {k : Bool} (line register : ℕ) (c : Constant) → Agree k no_names no_names (load line register c) (load line register c)
same_load line register c = bind (same_constant c) (λ number. same_put line (Piece.Abx Op.LoadK register number))

-- NextReg of a string
pub same_next_text : {k : Bool} (line : ℕ) (text : Text) → Agree k no_names no_names (next_text line text) (next_text line text)
same_next_text line text = bind same_free (λ free. same_load line free (Constant.Text text) then same_take 1)

-- RK of a string
pub same_rk_text : {k : Bool} (line : ℕ) (text : Text) → AgreeAsks k no_names no_names (rk_text line text) (rk_text line text)
same_rk_text line text = small_or (Constant.Text text) next
  where
    next : {k : Bool} → AgreeAsks k no_names no_names (λ n. record { value = n.free; after = next_text line text n }) (λ n. record { value = n.free; after = next_text line text n })
    next = record { made = λ m. record { value = m.free; after = next_text line text m }; first = λ m rest. refl; second = λ m rest. refl; active = λ e m. refl }

-- ---- tests

-- the test of a comparison
same_compare : {here there more again : Names} {c d x y : Coded} (line : ℕ) (op : BinaryOp) (truth : Bool) (label : ℕ) → SameValue here there c d → SameValue more again x y →
    Agree true (and_then here more) (and_then there again) (compare line op c x truth label) (compare line op d y truth label)
same_compare line op truth label s t = bind (same_rk s) (λ x. bind (same_rk t) (λ y. same_put line (comparison_word op truth x y) then same_jump line label))

-- the test of a value
same_test : {here there : Names} (c d : Coded) (line : ℕ) (truth : Bool) (label : ℕ) → AgreeAsks true here there (operand c) (operand d) →
    Agree true here there (test line c truth label) (test line d truth label)
same_test c d line truth label s = bind s (λ x. same_put line (Piece.Abc Op.Test x 0 (truth_field truth)) then same_jump line label)

-- the test of a value that may be a literal
same_test_by : {here there : Names} (c d : Coded) (o : Option Constant) (line : ℕ) (truth : Bool) (label : ℕ) → (is_some o ≡ true → (here ≡ no_names) × (there ≡ no_names)) →
    AgreeAsks true here there (operand c) (operand d) →
    Agree true here there (test_by o line c truth label) (test_by o line d truth label)
same_test_by c d (Some x) line truth label none s =
    renamed (λ here there. Agree true here there (test_by (Some x) line c truth label) (test_by (Some x) line d truth label)) (none refl)
    (if_so (beq truth (is_true_constant x)) (same_jump line label))
same_test_by c d None line truth label none s = same_freeing (same_test c d line truth label s)

-- ---- kinds of expressions

-- an expression of which ToReg alone is said
abbrev alone : Expression → (ℕ → Part) → Coded
alone e to = record { e = e; to_reg = λ r. freeing (to r); jump_if = λ truth label. nothing; spine = nothing; multi = plain_multi; target = no_target }

-- where ToReg says all
pub same_single : {here there : Names} (line : ℕ) (e f : Expression) (to other : ℕ → Part) → SameLook here there e f → ((r : ℕ) → Agree true here there (to r) (other r)) →
    SameParts here there (single line e to) (single line f other)
same_single {here} {there} line e f to other look s =
    let value : SameValue here there (alone e to) (alone f other) = record { look = look; to_reg = λ r. same_freeing (s r) } in
    record {
      value = record { look = look; to_reg = value.to_reg };
      jump_if = λ truth label. subst (λ o. Agree true here there (test_by (literal e) line (alone e to) truth label) (test_by o line (alone f other) truth label)) look.literals
          (same_test_by (alone e to) (alone f other) (literal e) line truth label look.none (same_operand value));
      spine = same_next value;
    }

-- one that gives one value, and is not assigned to
pub same_only : {here there : Names} {c d : Coded} → SameParts here there c d → is_multiple c.e ≡ false → is_target c.e ≡ false → Same here there c d
same_only s no_multi no_target = record { parts = s; multi = λ is. cc; target = λ is. cc }

-- ---- names, fields, parentheses

-- what a name means is read
same_where : {k : Bool} (line register : ℕ) (text : Text) (w : Where) → Agree k no_names no_names (read_where line register text w) (read_where line register text w)
same_where line r text (in_register x) = same_put line _
same_where line r text (in_upvalue slot) = same_put line _
same_where line r text in_globals = bind (same_constant (Constant.Text text)) (λ k. same_put line (Piece.Abx Op.GetGlobal r k))

-- a name looks like itself
name_look : (line : ℕ) (text : Text) (meant : Use) → SameLook (one_name meant) (one_name meant) (name_expression line text) (name_expression line text)
name_look line text meant = record { folds = refl; literals = refl; names = refl; calls = refl; varargs = refl; none = λ is. cc; one = λ is. (meant, refl, refl) }

-- a name
pub same_coded_name : (line : ℕ) (text : Text) (meant : Use) → Same (one_name meant) (one_name meant) (coded_name line text) (coded_name line text)
same_coded_name line text meant =
    let e = name_expression line text in
    let to = name_value line text in
    let single = same_single line e e to to (name_look line text meant) (λ r. bind (same_name meant) (λ w. same_where line r text w)) in
    record {
      parts = record { value = record { look = single.value.look; to_reg = single.value.to_reg }; jump_if = single.jump_if; spine = single.spine };
      multi = λ is. cc;
      target = λ is. record { made = λ m. record { value = name_target text (where_is meant m.active); after = m }; first = λ m rest. refl; second = λ m rest. refl; active = λ e m. refl };
    }

-- the value of what is indexed
same_indexed : {here there more again : Names} {on table : Coded} (line : ℕ) (key other : Asks ℕ) → SameValue here there on table → AgreeAsks true more again key other → (r : ℕ) →
    Agree true (and_then here more) (and_then there again) (indexed_value line on key r) (indexed_value line table other r)
same_indexed line key other s k r = bind (same_operand s) (λ t. bind k (λ x. same_put line (Piece.Abc Op.GetTable r t x)))

-- a target by what is indexed and its key
abbrev target_by : (on key : Got ℕ) → (on_local key_local : Bool) → Got Target
target_by on key on_local key_local = record { value = part_target on.value key.value on_local key_local; after = key.after }

-- of one of the two
indexed_side : (on : Coded) (key : Asks ℕ) (key_local : Maker → Bool) (m : Maker) (middle rest : List Use) (x y : Got ℕ) (a b : Bool) →
    operand on m ≡ got_with middle x → key (with_names middle x.after) ≡ got_with rest y → is_local on.e m ≡ a → key_local (with_names middle x.after) ≡ b →
    indexed_target on key key_local m ≡ got_with rest (target_by x y a b)
indexed_side on key key_local m middle rest x y a b p q u v =
    ap (λ (t : Got ℕ). target_by t (key t.after) (is_local on.e m) (key_local t.after)) p
    ∙ ap (λ t. target_by (got_with middle x) (key (with_names middle x.after)) t (key_local (with_names middle x.after))) u
    ∙ ap (λ t. target_by (got_with middle x) (key (with_names middle x.after)) a t) v
    ∙ ap (λ (t : Got ℕ). target_by (got_with middle x) t a b) q

-- what is indexed, as a target
same_indexed_target : {here there more again : Names} {on table : Coded} (key other : Asks ℕ) (key_local other_local : Maker → Bool) → SameValue here there on table →
    AgreeAsks true more again key other →
    AgreeRead more again key_local other_local → AgreeAsks true (and_then here more) (and_then there again) (indexed_target on key key_local) (indexed_target table other other_local)
same_indexed_target {here} {there} {more} {again} {on} {table} key other key_local other_local s k l =
    let x = same_operand s in
    let sight = same_is_local s in
    record {
      made = λ m. target_by (x.made m) (k.made (x.made m).after) (sight.seen m) (l.seen (x.made m).after);
      first = λ m rest.
          indexed_side on key key_local (with_names (here (more rest)) m) (more rest) rest (x.made m) (k.made (x.made m).after) _ _
          (x.first m (more rest)) (k.first (x.made m).after rest) (sight.first m (more rest)) (l.first (x.made m).after rest);
      second = λ m rest.
          indexed_side table other other_local (with_names (there (again rest)) m) (again rest) rest (x.made m) (k.made (x.made m).after) _ _
          (x.second m (again rest)) (k.second (x.made m).after rest) (sight.second m (again rest)) (l.second (x.made m).after rest);
      active = λ e m. k.active refl (x.made m).after ∙ x.active refl m;
    }

-- an index expression
pub same_index : {here there more again : Names} {on key table other : Coded} (line : ℕ) (e f : Expression) → SameLook (and_then here more) (and_then there again) e f →
    SameValue here there on table → SameValue more again key other →
    is_multiple e ≡ false → Same (and_then here more) (and_then there again) (coded_index line e on key) (coded_index line f table other)
same_index {on = on} {key} {table} {other} line e f look s k no_multi =
    let single = same_single line e f (indexed_value line on (rk key)) (indexed_value line table (rk other)) look (same_indexed line (rk key) (rk other) s (same_rk k)) in
    record {
      parts = record { value = record { look = look; to_reg = single.value.to_reg }; jump_if = single.jump_if; spine = single.spine };
      multi = λ is. cc;
      target = λ is. same_indexed_target (rk key) (rk other) (is_local key.e) (is_local other.e) s (same_rk k) (same_is_local k);
    }

-- a field
pub same_field : {here there : Names} {on table : Coded} (line : ℕ) (e f : Expression) (text : Text) → SameLook here there e f → SameValue here there on table → is_multiple e ≡ false →
    Same here there (coded_field line e on text) (coded_field line f table text)
same_field {on = on} {table} line e f text look s no_multi =
    let key = rk_text line text in
    let single = same_single line e f (indexed_value line on key) (indexed_value line table key) look (same_indexed line key key s (same_rk_text line text)) in
    record {
      parts = record { value = record { look = look; to_reg = single.value.to_reg }; jump_if = single.jump_if; spine = single.spine };
      multi = λ is. cc;
      target = λ is. same_indexed_target key key (λ m. false) (λ m. false) s (same_rk_text line text) (record { seen = λ m. false; first = λ m rest. refl; second = λ m rest. refl });
    }

-- parentheses
pub same_paren : {here there : Names} {c d : Coded} (e f : Expression) → SameLook here there e f → SameParts here there c d → SameParts here there (coded_paren e c) (coded_paren f d)
same_paren e f look s = record { value = record { look = look; to_reg = s.value.to_reg }; jump_if = s.jump_if; spine = same_next s.value }

-- ---- operators

-- a folded expression is a literal
number_some : (o : Option ℤ) (other : Option Constant) → is_some o ≡ true → is_some (number_or o other) ≡ true
number_some (Some n) other is = refl
number_some None other is = cc

-- a value that may be a number
same_load_or : {here there : Names} (o : Option ℤ) (line : ℕ) (to other : ℕ → Part) → (is_some o ≡ true → (here ≡ no_names) × (there ≡ no_names)) →
    ((r : ℕ) → Agree true here there (to r) (other r)) → (r : ℕ) →
    Agree true here there (load_or o line to r) (load_or o line other r)
same_load_or (Some n) line to other none s r =
    renamed (λ here there. Agree true here there (load line r (Constant.Number n)) (load line r (Constant.Number n))) (none refl) (same_load line r (Constant.Number n))
same_load_or None line to other none s r = s r

-- an operator of arithmetic
same_arithmetic : {here there more again : Names} {left right third fourth : Coded} (line : ℕ) (op : Op) → SameValue here there left third → SameValue more again right fourth → (r : ℕ) →
    Agree true (and_then here more) (and_then there again) (arithmetic line op left right r) (arithmetic line op third fourth r)
same_arithmetic line op s t r = bind (same_rk s) (λ x. bind (same_rk t) (λ y. same_put line (Piece.Abc op r x y)))

-- `..`
same_concat : {here there more again : Names} {left right third fourth : Coded} (line : ℕ) → SameValue here there left third → SameParts more again right fourth → (r : ℕ) →
    Agree true (and_then here more) (and_then there again) (concat line left right r) (concat line third fourth r)
same_concat line s t r = bind (same_in_next s) (λ first. t.spine then bind same_free (λ after. same_put line (Piece.Abc Op.Concat r first (after - 1))))

-- the value of a comparison, by that of its test
pub truth_by : {here there : Names} (left right third fourth : Coded) (line : ℕ) (op other : BinaryOp) →
    ((label : ℕ) → Agree true here there (compare line op left right true label) (compare line other third fourth true label)) → (r : ℕ) →
    Agree true here there (truth_value line op left right r) (truth_value line other third fourth r)
truth_by left right third fourth line op other p r =
    bind same_label (λ label. p label then same_put line (Piece.Abc Op.LoadBool r 0 1) then same_place label then same_put line (Piece.Abc Op.LoadBool r 1 0))

-- the value of a comparison
same_truth : {here there more again : Names} {left right third fourth : Coded} (line : ℕ) (op : BinaryOp) → SameValue here there left third → SameValue more again right fourth → (r : ℕ) →
    Agree true (and_then here more) (and_then there again) (truth_value line op left right r) (truth_value line op third fourth r)
same_truth {left = left} {right} {third} {fourth} line op s t = truth_by left right third fourth line op op (λ label. same_compare line op true label s t)

-- the value of a binary operator
same_binary_value : {here there more again : Names} {left right third fourth : Coded} (line : ℕ) (op : BinaryOp) → SameParts here there left third → SameParts more again right fourth → (r : ℕ) →
    Agree true (and_then here more) (and_then there again) (binary_value line op left right r) (binary_value line op third fourth r)
same_binary_value line BinaryOp.Add s t = same_arithmetic line Op.Add s.value t.value
same_binary_value line BinaryOp.Sub s t = same_arithmetic line Op.Sub s.value t.value
same_binary_value line BinaryOp.Mul s t = same_arithmetic line Op.Mul s.value t.value
same_binary_value line BinaryOp.Div s t = same_arithmetic line Op.Div s.value t.value
same_binary_value line BinaryOp.Rem s t = same_arithmetic line Op.Mod s.value t.value
same_binary_value line BinaryOp.Pow s t = same_arithmetic line Op.Pow s.value t.value
same_binary_value line BinaryOp.Concat s t = same_concat line s.value t
same_binary_value line op s t = same_truth line op s.value t.value

-- two tests agree
abbrev SameJumps : (here there : Names) → (jump other : Bool → ℕ → Part) → Type 0
SameJumps here there jump other = (truth : Bool) (label : ℕ) → Agree true here there (jump truth label) (other truth label)

-- the test of a binary operator
same_binary_jump : {here there : Names} (b : Bool) (one two other more : Bool → ℕ → Part) → SameJumps here there one other → SameJumps here there two more →
    SameJumps here there (cond b one two) (cond b other more)
same_binary_jump true one two other more p q = p
same_binary_jump false one two other more p q = q

-- the spine of a binary operator
same_binary_spine : {here there : Names} {one two other more : Part} (op : BinaryOp) → Agree true here there one other → Agree true here there two more →
    Agree true here there (binary_spine op one two) (binary_spine op other more)
same_binary_spine BinaryOp.Concat p q = p
same_binary_spine op p q = q

-- a value that is loaded where the expression is folded
same_folded : {here there : Names} (e f : Expression) (line : ℕ) (to other : ℕ → Part) → SameLook here there e f → ((r : ℕ) → Agree true here there (to r) (other r)) → (r : ℕ) →
    Agree true here there (load_or (fold e) line to r) (load_or (fold f) line other r)
same_folded {here} {there} e f line to other look s r =
    subst (λ o. Agree true here there (load_or (fold e) line to r) (load_or o line other r)) look.folds (same_load_or (fold e) line to other (λ is. look.none (number_some (fold e) _ is)) s r)

-- a binary operator
pub same_binary : {here there more again : Names} {left right third fourth : Coded} (line : ℕ) (op : BinaryOp) (e f : Expression) → SameLook (and_then here more) (and_then there again) e f →
    SameParts here there left third → SameParts more again right fourth →
    SameParts (and_then here more) (and_then there again) (coded_binary line op e left right) (coded_binary line op f third fourth)
same_binary {left = left} {right} {third} {fourth} line op e f look s t =
    let value = binary_value line op left right in
    let other = binary_value line op third fourth in
    let v = same_single line e f (load_or (fold e) line value) (load_or (fold f) line other) look (same_folded e f line value other look (same_binary_value line op s t)) in
    record {
      value = record { look = look; to_reg = v.value.to_reg };
      jump_if = same_binary_jump (is_comparison op) _ _ _ _ (λ truth label. same_freeing (same_compare line op truth label s.value t.value)) v.jump_if;
      spine = same_binary_spine op (same_next s.value then t.spine) v.spine;
    }

-- the value of a unary operator
same_unary_value : {here there : Names} {c d : Coded} (line : ℕ) (op : UnaryOp) → SameValue here there c d → (r : ℕ) → Agree true here there (unary_value line op c r) (unary_value line op d r)
same_unary_value line op s r = bind (same_operand s) (λ x. same_put line (Piece.Abc (unary_word op) r x 0))

-- the test of a unary operator
same_unary_jump : {here there : Names} {c d : Coded} (op : UnaryOp) (two more : Bool → ℕ → Part) → SameParts here there c d → SameJumps here there two more →
    SameJumps here there (unary_jump op c two) (unary_jump op d more)
same_unary_jump UnaryOp.Not two more s q = λ truth label. s.jump_if (not truth) label
same_unary_jump UnaryOp.Neg two more s q = q
same_unary_jump UnaryOp.Len two more s q = q

-- a unary operator
pub same_unary : {here there : Names} {c d : Coded} (line : ℕ) (op : UnaryOp) (e f : Expression) → SameLook here there e f → SameParts here there c d →
    SameParts here there (coded_unary line op e c) (coded_unary line op f d)
same_unary {c = c} {d} line op e f look s =
    let value = unary_value line op c in
    let other = unary_value line op d in
    let v = same_single line e f (load_or (fold e) line value) (load_or (fold f) line other) look (same_folded e f line value other look (same_unary_value line op s.value)) in
    record { value = record { look = look; to_reg = v.value.to_reg }; jump_if = same_unary_jump op _ _ s v.jump_if; spine = v.spine }

-- ---- `and` and `or`

-- a part as one that is asked for nothing
abbrev asking : Part → Asks (Unit {0})
asking part m = record { value = tt; after = part m }

-- a part that agrees, as one that is asked
as_ask : {k : Bool} {here there : Names} {part other : Part} → Agree k here there part other → AgreeAsks k here there (asking part) (asking other)
as_ask a = record { made = asking a.made; first = λ m rest. ap (answer tt) (a.first m rest); second = λ m rest. ap (answer tt) (a.second m rest); active = a.active }

-- and back
as_part : {k : Bool} {here there : Names} {part other : Part} → AgreeAsks k here there (asking part) (asking other) → Agree k here there part other
as_part a = record {
  made = λ m. (a.made m).after;
  first = λ m rest. ap (λ (got : Got (Unit {0})). got.after) (a.first m rest);
  second = λ m rest. ap (λ (got : Got (Unit {0})). got.after) (a.second m rest);
  active = a.active;
}

-- the left value decides
abbrev decided : (line : ℕ) → (truth : Bool) → Coded → ℕ → Part
decided line truth left r m = decide line truth left r (local_register left.e m) m

-- the left value decides in both
same_decided : {here there : Names} {c d : Coded} (line : ℕ) (truth : Bool) → SameValue here there c d → (r : ℕ) → Agree true here there (decided line truth c r) (decided line truth d r)
same_decided {c = c} {d} line truth s r =
    as_part (same_by_local (λ o. asking (decide line truth c r o)) (λ o. asking (decide line truth d r o)) s
    (λ x meant. as_ask (same_pass meant then same_put line (Piece.Abc Op.TestSet r x (truth_field truth))))
    (as_ask (s.to_reg r then same_put line (Piece.Abc Op.Test r 0 (truth_field truth)))))

-- the value of `and` or `or` in its register
same_here : {here there more again : Names} {left right third fourth : Coded} (line : ℕ) (truth : Bool) → SameValue here there left third → SameValue more again right fourth → (r : ℕ) →
    Agree true (and_then here more) (and_then there again) (logic_here line truth left right r) (logic_here line truth third fourth r)
same_here line truth s t r = same_decided line truth s r then bind same_label (λ label. same_jump line label then t.to_reg r then same_place label)

-- the test of `and` or `or`
same_logic_jump : {here there more again : Names} {left right third fourth : Coded} (decides : Bool) → SameParts here there left third → SameParts more again right fourth →
    SameJumps (and_then here more) (and_then there again) (logic_jump decides left right) (logic_jump decides third fourth)
same_logic_jump decides s t truth label =
    either (beq decides truth) (s.jump_if truth label then t.jump_if truth label)
    (bind same_label (λ over. s.jump_if (not truth) over then t.jump_if truth label then same_place over))

-- the value by the next free register
same_moved : {here there more again : Names} {left right third fourth : Coded} (line : ℕ) (decides : Bool) → SameValue here there left third → SameValue more again right fourth → (r : ℕ) →
    Agree true (and_then here more) (and_then there again) (logic_moved line decides left right r) (logic_moved line decides third fourth r)
same_moved line decides s t r = bind same_free (λ free. same_here line decides s t free then same_take 1 then same_put line (Piece.Abc Op.Move r free 0))

-- the value of `and` or `or`
same_logic_value : {here there more again : Names} {left right third fourth : Coded} (line : ℕ) (decides : Bool) → SameValue here there left third → SameValue more again right fourth → (r : ℕ) →
    Agree true (and_then here more) (and_then there again) (logic_value line decides left right r) (logic_value line decides third fourth r)
same_logic_value line decides s t r = bind same_free (λ free. either (r == free) (same_here line decides s t r) (same_moved line decides s t r))

-- `and` and `or`
pub same_logic : {here there more again : Names} {left right third fourth : Coded} (line : ℕ) (decides : Bool) (e f : Expression) → SameLook (and_then here more) (and_then there again) e f →
    SameParts here there left third → SameParts more again right fourth →
    SameParts (and_then here more) (and_then there again) (coded_logic line decides e left right) (coded_logic line decides f third fourth)
same_logic {left = left} {right} {third} {fourth} line decides e f look s t =
    let v = same_single line e f (logic_value line decides left right) (logic_value line decides third fourth) look (same_logic_value line decides s.value t.value) in
    record { value = record { look = look; to_reg = v.value.to_reg }; jump_if = same_logic_jump decides s t; spine = v.spine }
