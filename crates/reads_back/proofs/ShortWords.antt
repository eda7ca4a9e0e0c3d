-- A string or a constructor that is the only argument, written without parentheses, has the code of the list in which it stands, and needs no more levels.
use Rattle.std.proofs.Common.{◌≡◌, ℕ, ◌+◌, ◌^◌, ◌<◌, ◌≤◌, max, Bool, true, false, not, List, Option, Some, None, refl, sym, ap, ◌∙◌, subst, arith, eq-eqb}
use Rattle.std.specs.Prelude.{◌&&◌}
use Rattle.std.proofs.lemmas.Option.{same_Some}
use Rattle.opcode.specs.declared.op.Op.{Op}
use Rattle.proto.specs.declared.parts.Constant.{Constant}
use Rattle.core_expr.specs.Places.{Place, as_text, constant_at}
use Rattle.core_expr.specs.Values.{Inner, Value, Values, and_value, constant_value, no_values, table_value}
use Rattle.core_expr.specs.Writing.{ArgumentWording, FieldWording, Wordings, as_arguments, as_list, as_text_argument, constant_word, no_wordings, and_wording, with_items, word_items, word_only, word_short, word_values, as_table_argument}
use Rattle.lua_tree.specs.Syntax.{Fields, argument_list}
use Rattle.scheme.specs.Expressions.{next_reg}
use Rattle.scheme.specs.Lists.{Entry, coded_table, positional_count, other_count, size_hint, table_at}
use Rattle.scheme.specs.Making.{Maker, Part, free_from, put, take_registers, when}
use Rattle.scheme.specs.Scheme.{entries, given}
use Rattle.scheme.specs.declared.making.Piece.{Piece}
use Rattle.scheme_stands.proofs.Growth.{calm}
use Rattle.scheme_stands.proofs.Parts.{EntriesGrow, grow_entries, grows_entries}

-- a new table, in the next register
abbrev pub begun : List Entry → Part
begun others m = take_registers 1 (put 1 (Piece.Abc Op.NewTable m.free (size_hint (positional_count others)) (size_hint (other_count others))) m)

-- its register is the next one
pub next_table : (others : List Entry) → EntriesGrow calm others → (of : Fields) (m : Maker) → next_reg (coded_table 1 of others) m ≡ table_at 1 others m
next_table others grow of m =
    let at = table_at 1 others m in
    let grown = grows_entries {v = calm} 1 m.free 0 0 others grow (begun others m) in
    let high : max at.high (m.free + 1) ≡ at.high = omega (arith, grown.high) in
    ap (λ (same : Bool). take_registers 1 (free_from m.free (when (not same) (put 1 (Piece.Abc Op.Move m.free m.free 0)) at))) (eq-eqb m.free m.free refl)
    ∙ ap (λ (high : ℕ). record at { free = m.free + 1; high = high }) high

-- arguments that have the code of this list, and need no more levels where it needs few
pub record AreGivenAlike (args : ArgumentWording) (ws : Wordings) : Type 0 where
  pub count : (given args.words 1).count ≡ (given (argument_list ws.words) 1).count
  pub part : (m : Maker) → (given args.words 1).part m ≡ (given (argument_list ws.words) 1).part m
  pub levels : ws.levels < 2 ^ 31 → args.levels ≤ ws.levels

list_alike : (ws : Wordings) → AreGivenAlike (as_list ws) ws
list_alike ws = record { count = refl; part = λ m. refl; levels = λ few. omega arith }

text_alike : (k : Option Constant) (args : ArgumentWording) → as_text_argument (as_text k) ≡ Some args → AreGivenAlike args (and_wording (constant_word k) no_wordings)
text_alike (Some (Constant.Text text)) args is = subst (λ args. AreGivenAlike args (and_wording (constant_word (Some (Constant.Text text))) no_wordings)) (same_Some _ args is) (record { count = refl; part = λ m. refl; levels = λ few. omega arith })
text_alike None args is = cc
text_alike (Some Constant.Nil) args is = cc
text_alike (Some (Constant.Bool b)) args is = cc
text_alike (Some (Constant.Number n)) args is = cc

table_alike : (ws : FieldWording) → AreGivenAlike (as_table_argument ws) (and_wording (with_items ws) no_wordings)
table_alike ws = record { count = refl; part = λ m. sym (next_table (entries ws.words) (grow_entries calm ws.words) ws.words m); levels = λ few. omega (arith, few) }

module _ (at : Place) (n : ℕ) (fs : List (Option Inner)) where
  only_alike : (v : Value) (args : ArgumentWording) → word_only at n fs v ≡ Some args → AreGivenAlike args (word_values at n fs (and_value v no_values) false)
  only_alike (constant_value k) args is = text_alike (constant_at at k) args is
  only_alike (table_value items all depth) args is = subst (λ args. AreGivenAlike args (word_values at n fs (and_value (table_value items all depth) no_values) false)) (same_Some _ args is) (table_alike (word_items at n fs items all))
  only_alike v args is = cc

  short_alike : (vs : Values) (args : ArgumentWording) → word_short at n fs vs ≡ Some args → AreGivenAlike args (word_values at n fs vs false)
  short_alike (and_value v no_values) args is = only_alike v args is
  short_alike vs args is = cc

  given_alike : (vs : Values) (only : Option ArgumentWording) → word_short at n fs vs ≡ only → AreGivenAlike (as_arguments true only (word_values at n fs vs false)) (word_values at n fs vs false)
  given_alike vs (Some args) is = short_alike vs args is
  given_alike vs None is = list_alike (word_values at n fs vs false)

  -- in the short form or not
  pub arguments_alike : (short : Bool) (vs : Values) (all : Bool) → AreGivenAlike (as_arguments (short && not all) (word_short at n fs vs) (word_values at n fs vs all)) (word_values at n fs vs all)
  arguments_alike true vs true = list_alike (word_values at n fs vs true)
  arguments_alike true vs false = given_alike vs (word_short at n fs vs) refl
  arguments_alike false vs all = list_alike (word_values at n fs vs all)
