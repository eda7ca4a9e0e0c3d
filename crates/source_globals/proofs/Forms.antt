-- The kinds of expressions but calls, constructors and functions: each adds the uses of its mentions, if its parts do.
use Rattle.std.proofs.Common.{◌≡◌, ◌≤◌, ℕ, suc, ◌+◌, ◌-◌, Bool, true, false, cond, not, List, [], ◌∷◌, ◌++◌, length, refl, sym, ap, ◌∙◌, subst, arith}
use Rattle.std.specs.Prelude.{Option, Some, None, ℤ, ◌==◌, ◌&&◌, slice_get}
use Rattle.std.specs.Str.{bytes_eq}
use Rattle.std.specs.Bool.{beq}
use Rattle.std.proofs.lemmas.Bool.{eqb-true}
use Rattle.lua_num.specs.Bytes.{Text}
use Rattle.lua_tree.specs.declared.tree.BinaryOp.{BinaryOp}
use Rattle.lua_tree.specs.declared.tree.UnaryOp.{UnaryOp}
use Rattle.lua_tree.specs.Scoping.{Use, local_use, upvalue_use, global_use}
use Rattle.lua_tree.specs.Syntax.{Expression, name_expression}
use Rattle.opcode.specs.declared.op.Op.{Op}
use Rattle.opcode.specs.Word.{truth_field}
use Rattle.proto.specs.Constants.{constant_number}
use Rattle.proto.specs.declared.parts.Constant.{Constant}
use Rattle.scheme.specs.Making.{◌>>◌, Maker, Part, Asks, freeing, Where, next_name, head_or, where_is, constant, pass_name, put, new_label}
use Rattle.scheme.specs.Expressions.{Coded, Want, next_reg, operand, local_register, register_of, is_name as is_bare_name, is_multiple, literal, fold, rk, rk_text, load, number_or, plain_literal, single, read_where, name_value, coded_name, indexed_value, coded_index, coded_field, coded_paren, compare, comparison_word, load_or, arithmetic, concat, truth_value, binary_value, is_comparison, binary_jump, binary_spine, coded_binary, unary_word, unary_value, unary_jump, coded_unary, decide, logic_here, logic_moved, logic_value, jump_both, jump_over, coded_logic}
use Rattle.scheme.specs.declared.making.Piece.{Piece}
use Rattle.scheme.specs.declared.making.Item.{Item}
use Rattle.scheme.specs.declared.making.Active.{Active}
use Rattle.scheme_stands.proofs.Growth.{calm, Grown, constant_stands}
use Rattle.scheme_stands.proofs.Parts.{Grows, alone, grows_next, grows_rk, grows_rk_text, grows_operand, grows_single, grows_name, grows_name_value, grows_paren, grows_indexed, grows_index, grows_field, grows_binary, grows_binary_value, grows_load_or, grows_compare, grows_unary, grows_unary_value, grows_logic, grows_logic_value, grows_here, decide_free}
use Rattle.global_use.specs.Uses.{is_name}
use Rattle.source_globals.specs.Named.{Role, gets_it, sets_it, is_role}
use Rattle.source_globals.proofs.Owed.{Mention, is_global, mine, one_if}
use Rattle.source_globals.proofs.Pieces.{is_plain}
use Rattle.source_globals.proofs.Tally.{End, Last, LastBy, Fine, FineBy, Told, ToldBy, WentBy, back, untake, still, both, quiet, behind, word_went, abc_went, on_abc, on_jump, on_load, no_mention, pass_told}
use Rattle.source_globals.proofs.Values.{Value, Speaks, next_told, next_low, operand_told, rk_told, two_told, rk_text_told, load_told, test_told, local_low}

module _ (z : End) where
  -- ---- an expression by its value alone

  pub single_told : {ms : List Mention} (line : ℕ) (e : Expression) (to : ℕ → Part) → is_multiple e ≡ false →
      ((r : ℕ) (m : Maker) → Grown calm m (to r m)) →
      ((r : ℕ) → r ≤ 250 → (m : Maker) → Last z (to r m) → Fine z m → Told z ms m (to r m)) →
      ((r : ℕ) (m : Maker) → local_register e m ≡ Some r → Fine z m → Told z ms m (pass_name m)) →
      ((k : Constant) → literal e ≡ Some k → ms ≡ []) →
      Speaks z ms (single line e to)
  single_told {ms} line e to one grown told bare silent =
      let g = grows_single {v = calm} line e to one grown in
      let v : Value z ms (alone e to) = record { to_grows = g.to_reg; to_free = λ r m. refl; to_reg = told; bare = bare; silent = silent } in
      record {
        grows = g;
        value = record { to_grows = g.to_reg; to_free = λ r m. refl; to_reg = told; bare = bare; silent = silent };
        jump_if = λ truth label m l f. test_told z line (alone e to) v truth label m l f;
        spine = λ m l f. next_told z (alone e to) v m l f;
        multi = λ o want m l f. absurd (neither one o);
        multi_low = λ o n m l. absurd (neither one o);
        tail = λ o want m l f. absurd (neither one o);
      }
    where
      neither : {b : Bool} → b ≡ false → b ≡ true → ⊥
      neither {b = true} e k = cc
      neither {b = false} e k = cc

  -- an expression that is no name is no bare local, and one that is no literal is none
  pub no_local : {ms : List Mention} (e : Expression) → is_bare_name e ≡ false → (r : ℕ) (m : Maker) → local_register e m ≡ Some r → Fine z m → Told z ms m (pass_name m)
  no_local e n r m h f = absurd (by (is_bare_name e) (register_of (next_name m)) n h)
    where
      by : (b : Bool) (o : Option ℕ) → b ≡ false → cond b o None ≡ Some r → ⊥
      by true o n h = cc
      by false o n h = cc

  pub no_literal : {ms : List Mention} (e : Expression) → literal e ≡ None → (k : Constant) → literal e ≡ Some k → ms ≡ []
  no_literal {ms} e n k h = by (literal e) n h
    where
      by : (o : Option Constant) → o ≡ None → o ≡ Some k → ms ≡ []
      by None n h = cc
      by (Some k) n h = cc

  -- ---- names

  -- a word that uses the global of a text by its constant
  global_by : (who : Role) (text : Text) (m : Maker) → Last z (constant (Constant.Text text) m).after → slice_get z.constants (constant (Constant.Text text) m).value ≡ Some (Constant.Text text)
  global_by who text m l = l.constants_kept _ _ (constant_stands (Constant.Text text) m.constants)

  read_told : (line : ℕ) (text : Text) (r : ℕ) → r ≤ 250 → (m : Maker) (means : Use) → head_or global_use m.ahead.names ≡ means →
      Last z (read_where line r text (where_is means m.active) (pass_name m)) → Fine z m →
      Told z ((gets_it, text) ∷ []) m (read_where line r text (where_is means m.active) (pass_name m))
  read_told line text r low m (local_use declaration) e l f = on_abc z line Op.Move r _ 0 refl (pass_told z (gets_it, text) m.ahead.names (ap is_global e) f)
  read_told line text r low m (upvalue_use slot) e l f = on_abc z line Op.GetUpval r slot 0 refl (pass_told z (gets_it, text) m.ahead.names (ap is_global e) f)
  read_told line text r low m global_use e l f =
      let number = (constant (Constant.Text text) m).value in
      let is = global_by gets_it text m l in
      let w = word_went z {functions = m.functions} line (Piece.Abx Op.GetGlobal r number) (omega (arith, low)) refl f in
      let used = ap (λ k. one_if (is_role z.role gets_it && is_name z.name k)) is in
      let own = mine z.role z.name (gets_it, text) (head_or global_use m.ahead.names) (ap is_global e) in
      let total = w.total in
      record { went = record { fine = w.fine; total = omega (arith, total, used, own) }; names_passed = refl }

  pub name_told : (line : ℕ) (text : Text) → Speaks z ((gets_it, text) ∷ []) (coded_name line text)
  name_told line text =
      let s = single_told line (name_expression line text) (name_value line text) refl (grows_name_value line text)
      (λ r low m l f. read_told line text r low m (head_or global_use m.ahead.names) refl l f)
      (λ r m e f. pass_told z (gets_it, text) m.ahead.names (local_low (name_expression line text) m r e).1 f)
      (λ k e. cc) in
      record { grows = grows_name line text; value = record { to_grows = s.value.to_grows; to_free = λ r m. refl; to_reg = s.value.to_reg; bare = s.value.bare; silent = s.value.silent }; jump_if = s.jump_if; spine = s.spine; multi = s.multi; multi_low = s.multi_low; tail = s.tail }

  -- ---- parts of tables

  pub indexed_told : {ms ns : List Mention} (line : ℕ) (on : Coded) (key : Asks ℕ) → Speaks z ms on → ((m : Maker) → Grown calm m (key m).after) →
      ((m : Maker) → Last z (key m).after → Fine z m → Told z ns m (key m).after) →
      (r : ℕ) (m : Maker) → Last z (indexed_value line on key r m) → Fine z m → Told z (ms ++ ns) m (indexed_value line on key r m)
  indexed_told line on key s grown told r m l f =
      let m1 = (operand on m).after in
      let one = operand_told z on s.value m (back z m1 _ (grown m1) l) f in
      on_abc z line Op.GetTable r _ _ refl (both z one (told m1 l one.went.fine))

  pub index_told : {ms ns : List Mention} (line : ℕ) (e : Expression) (on key : Coded) → is_multiple e ≡ false → literal e ≡ None → is_bare_name e ≡ false → Speaks z ms on → Speaks z ns key → Speaks z (ms ++ ns) (coded_index line e on key)
  index_told line e on key one none two s t =
      let v = single_told line e (indexed_value line on (rk key)) one (grows_indexed line on (rk key) s.grows (grows_rk key t.grows)) (λ r low m l f. indexed_told line on (rk key) s (grows_rk key t.grows) (rk_told z key t.value) r m l f) (no_local e two) (no_literal e none) in
      record { grows = grows_index line e on key one s.grows t.grows; value = record { to_grows = v.value.to_grows; to_free = λ r m. refl; to_reg = v.value.to_reg; bare = v.value.bare; silent = v.value.silent }; jump_if = v.jump_if; spine = v.spine; multi = v.multi; multi_low = v.multi_low; tail = v.tail }

  pub field_told : {ms : List Mention} (line : ℕ) (e : Expression) (on : Coded) (text : Text) → is_multiple e ≡ false → literal e ≡ None → is_bare_name e ≡ false → Speaks z ms on → Speaks z ms (coded_field line e on text)
  field_told {ms} line e on text one none two s =
      let told = λ (r : ℕ) (low : r ≤ 250) (m : Maker) (l : Last z (indexed_value line on (rk_text line text) r m)) (f : Fine z m).
      let m1 = (operand on m).after in
      let first = operand_told z on s.value m (back z m1 _ (grows_rk_text line text m1) l) f in
      on_abc z line Op.GetTable r _ _ refl (quiet z first (rk_text_told z line text m1 first.went.fine)) in
      let v = single_told {ms = ms} line e (indexed_value line on (rk_text line text)) one (grows_indexed line on (rk_text line text) s.grows (grows_rk_text line text)) told (no_local e two) (no_literal e none) in
      record { grows = grows_field line e on text one s.grows; value = record { to_grows = v.value.to_grows; to_free = λ r m. refl; to_reg = v.value.to_reg; bare = v.value.bare; silent = v.value.silent }; jump_if = v.jump_if; spine = v.spine; multi = v.multi; multi_low = v.multi_low; tail = v.tail }

  pub paren_told : {ms : List Mention} (e : Expression) (c : Coded) → is_multiple e ≡ false → Speaks z ms c →
      ((r : ℕ) (m : Maker) → local_register e m ≡ Some r → Fine z m → Told z ms m (pass_name m)) →
      ((k : Constant) → literal e ≡ Some k → ms ≡ []) →
      Speaks z ms (coded_paren e c)
  paren_told e c one s bare silent = record {
    grows = grows_paren e c one s.grows;
    value = record { to_grows = s.value.to_grows; to_free = s.value.to_free; to_reg = s.value.to_reg; bare = bare; silent = silent };
    jump_if = s.jump_if;
    spine = λ m l f. next_told z c s.value m l f;
    multi = λ o want m l f. absurd (neither one o);
    multi_low = λ o n m l. absurd (neither one o);
    tail = λ o want m l f. absurd (neither one o);
  }
    where
      neither : {b : Bool} → b ≡ false → b ≡ true → ⊥
      neither {b = true} e k = cc
      neither {b = false} e k = cc

  -- ---- operators

  pub load_or_told : {ms : List Mention} (line : ℕ) (e : Expression) (to : ℕ → Part) →
      ((r : ℕ) → r ≤ 250 → (m : Maker) → Last z (to r m) → Fine z m → Told z ms m (to r m)) →
      ((k : Constant) → literal e ≡ Some k → ms ≡ []) →
      (o : Option ℤ) → fold e ≡ o → (r : ℕ) → r ≤ 250 → (m : Maker) → Last z (load_or o line to r m) → Fine z m → Told z ms m (load_or o line to r m)
  load_or_told line e to told silent (Some n) h r low m l f = no_mention z (silent (Constant.Number n) (ap (λ o. number_or o (plain_literal e)) h)) (load_told z line r (Constant.Number n) m f)
  load_or_told line e to told silent None h r low m l f = told r low m l f

  comparison_went : (line : ℕ) (op : BinaryOp) (truth : Bool) (x y : ℕ) (m : Maker) → Fine z m → WentBy z 0 m.items m.functions (put line (comparison_word op truth x y) m).items m.functions m.active
  comparison_went line BinaryOp.Ne truth x y m f = abc_went z line Op.Eq (truth_field (not truth)) x y refl f
  comparison_went line BinaryOp.Lt truth x y m f = abc_went z line Op.Lt (truth_field truth) x y refl f
  comparison_went line BinaryOp.Le truth x y m f = abc_went z line Op.Le (truth_field truth) x y refl f
  comparison_went line BinaryOp.Gt truth x y m f = abc_went z line Op.Lt (truth_field truth) y x refl f
  comparison_went line BinaryOp.Ge truth x y m f = abc_went z line Op.Le (truth_field truth) y x refl f
  comparison_went line op truth x y m f = abc_went z line Op.Eq (truth_field truth) x y refl f

  module _ {ms ns : List Mention} (line : ℕ) (left right : Coded) (s : Speaks z ms left) (t : Speaks z ns right) where
    pub compare_told : (op : BinaryOp) (truth : Bool) (label : ℕ) (m : Maker) → Last z (compare line op left right truth label m) → Fine z m → Told z (ms ++ ns) m (compare line op left right truth label m)
    compare_told op truth label m l f =
        let m2 = (rk right (rk left m).after).after in
        let two = two_told z left right s t m l f in
        on_jump z line Op.Jmp 0 label refl (behind z two (comparison_went line op truth _ _ m2 two.went.fine))

    arithmetic_told : (op : Op) → is_plain op ≡ true → (r : ℕ) → r ≤ 250 → (m : Maker) → Last z (arithmetic line op left right r m) → Fine z m → Told z (ms ++ ns) m (arithmetic line op left right r m)
    arithmetic_told op e r low m l f = on_abc z line op r _ _ e (two_told z left right s t m l f)

    spine_told : (m : Maker) → Last z (right.spine (next_reg left m)) → Fine z m → Told z (ms ++ ns) m (right.spine (next_reg left m))
    spine_told m l f =
        let m1 = next_reg left m in
        let one = next_told z left s.value m (back z m1 _ (t.grows.spine m1) l) f in
        both z one (t.spine m1 l one.went.fine)

    concat_told : (r : ℕ) → r ≤ 250 → (m : Maker) → Last z (concat line left right r m) → Fine z m → Told z (ms ++ ns) m (concat line left right r m)
    concat_told r low m l f = on_abc z line Op.Concat r _ _ refl (spine_told m l f)

    truth_told : (op : BinaryOp) (r : ℕ) → r ≤ 250 → (m : Maker) → Last z (truth_value line op left right r m) → Fine z m → Told z (ms ++ ns) m (truth_value line op left right r m)
    truth_told op r low m l f = on_abc z line Op.LoadBool r 1 0 refl (on_abc z line Op.LoadBool r 0 1 refl (compare_told op true (length m.labels) (new_label m).after l f))

    binary_value_told : (op : BinaryOp) (r : ℕ) → r ≤ 250 → (m : Maker) → Last z (binary_value line op left right r m) → Fine z m → Told z (ms ++ ns) m (binary_value line op left right r m)
    binary_value_told BinaryOp.Add = arithmetic_told Op.Add refl
    binary_value_told BinaryOp.Sub = arithmetic_told Op.Sub refl
    binary_value_told BinaryOp.Mul = arithmetic_told Op.Mul refl
    binary_value_told BinaryOp.Div = arithmetic_told Op.Div refl
    binary_value_told BinaryOp.Rem = arithmetic_told Op.Mod refl
    binary_value_told BinaryOp.Pow = arithmetic_told Op.Pow refl
    binary_value_told BinaryOp.Concat = concat_told
    binary_value_told BinaryOp.Eq = truth_told BinaryOp.Eq
    binary_value_told BinaryOp.Ne = truth_told BinaryOp.Ne
    binary_value_told BinaryOp.Lt = truth_told BinaryOp.Lt
    binary_value_told BinaryOp.Le = truth_told BinaryOp.Le
    binary_value_told BinaryOp.Gt = truth_told BinaryOp.Gt
    binary_value_told BinaryOp.Ge = truth_told BinaryOp.Ge

    binary_jump_told : (b : Bool) (op : BinaryOp) (of_value : Bool → ℕ → Part) →
        ((truth : Bool) (label : ℕ) (m : Maker) → Last z (of_value truth label m) → Fine z m → Told z (ms ++ ns) m (of_value truth label m)) →
        (truth : Bool) (label : ℕ) (m : Maker) → Last z (cond b (λ truth label. freeing (compare line op left right truth label)) of_value truth label m) → Fine z m →
        Told z (ms ++ ns) m (cond b (λ truth label. freeing (compare line op left right truth label)) of_value truth label m)
    binary_jump_told true op of_value h truth label m l f = compare_told op truth label m l f
    binary_jump_told false op of_value h truth label m l f = h truth label m l f

    binary_spine_told : (op : BinaryOp) (of_value : Part) → ((m : Maker) → Last z (of_value m) → Fine z m → Told z (ms ++ ns) m (of_value m)) →
        (m : Maker) → Last z (binary_spine op (next_reg left >> right.spine) of_value m) → Fine z m → Told z (ms ++ ns) m (binary_spine op (next_reg left >> right.spine) of_value m)
    binary_spine_told BinaryOp.Concat of_value h = spine_told
    binary_spine_told op of_value h = h

    pub binary_told : (op : BinaryOp) (e : Expression) → is_multiple e ≡ false →
        ((r : ℕ) (m : Maker) → local_register e m ≡ Some r → Fine z m → Told z (ms ++ ns) m (pass_name m)) →
        ((k : Constant) → literal e ≡ Some k → ms ++ ns ≡ []) →
        Speaks z (ms ++ ns) (coded_binary line op e left right)
    binary_told op e one bare silent =
        let v = single_told line e (load_or (fold e) line (binary_value line op left right)) one (grows_load_or (fold e) line _ (grows_binary_value line op left right s.grows t.grows))
        (load_or_told line e (binary_value line op left right) (binary_value_told op) silent (fold e) refl) bare silent in
        record {
          grows = grows_binary line op e left right one s.grows t.grows;
          value = record { to_grows = v.value.to_grows; to_free = λ r m. refl; to_reg = v.value.to_reg; bare = bare; silent = silent };
          jump_if = binary_jump_told (is_comparison op) op _ v.jump_if;
          spine = binary_spine_told op _ v.spine;
          multi = v.multi;
          multi_low = v.multi_low;
          tail = v.tail;
        }

    -- ---- and, or

    decide_told : (truth : Bool) (r : ℕ) → r ≤ 250 → (m : Maker) (o : Option ℕ) → local_register left.e m ≡ o → Last z (decide line truth left r o m) → Fine z m → Told z ms m (decide line truth left r o m)
    decide_told truth r low m (Some x) e l f = on_abc z line Op.TestSet r x (truth_field truth) refl (s.value.bare x m e f)
    decide_told truth r low m None e l f = on_abc z line Op.Test r 0 (truth_field truth) refl (s.value.to_reg r low m l f)

    here_told : (truth : Bool) (r : ℕ) → r ≤ 250 → (m : Maker) → Last z (logic_here line truth left right r m) → Fine z m → Told z (ms ++ ns) m (logic_here line truth left right r m)
    here_told truth r low m l f =
        let m1 = decide line truth left r (local_register left.e m) m in
        let m2 = put line (Piece.Jump Op.Jmp 0 (length m1.labels)) (new_label m1).after in
        let one = on_jump z line Op.Jmp 0 (length m1.labels) refl (decide_told truth r low m (local_register left.e m) refl (back z m2 _ (t.value.to_grows r m2) l) f) in
        both z one (t.value.to_reg r low m2 l one.went.fine)

    here_free : (truth : Bool) (r : ℕ) (m : Maker) → (logic_here line truth left right r m).free ≡ m.free
    here_free truth r m =
        let m1 = decide line truth left r (local_register left.e m) m in
        let m2 = put line (Piece.Jump Op.Jmp 0 (length m1.labels)) (new_label m1).after in
        t.value.to_free r m2 ∙ decide_free line truth left s.grows r (local_register left.e m) m

    logic_by_told : (b : Bool) (decides : Bool) (r : ℕ) → r ≤ 250 → (m : Maker) → Last z (cond b (logic_here line decides left right r) (logic_moved line decides left right r) m) → Fine z m →
        Told z (ms ++ ns) m (cond b (logic_here line decides left right r) (logic_moved line decides left right r) m)
    logic_by_told true decides r low m l f = here_told decides r low m l f
    logic_by_told false decides r low m l f =
        let free = here_free decides m.free m in
        let high = l.low in
        on_abc z line Op.Move r m.free 0 refl (here_told decides m.free (omega (arith, free, high)) m (untake z (logic_here line decides left right m.free m) _ l) f)

    logic_jump_told : (b : Bool) (truth : Bool) (label : ℕ) (m : Maker) → Last z (cond b (jump_both truth left right label) (jump_over truth left right label) m) → Fine z m →
        Told z (ms ++ ns) m (cond b (jump_both truth left right label) (jump_over truth left right label) m)
    logic_jump_told true truth label m l f =
        let m1 = left.jump_if truth label m in
        let one = s.jump_if truth label m (back z m1 _ (t.grows.jump_if truth label m1) l) f in
        both z one (t.jump_if truth label m1 l one.went.fine)
    logic_jump_told false truth label m l f =
        let m1 = left.jump_if (not truth) (length m.labels) (new_label m).after in
        let one = s.jump_if (not truth) (length m.labels) (new_label m).after (back z m1 _ (t.grows.jump_if truth label m1) l) f in
        both z one (t.jump_if truth label m1 l one.went.fine)

    pub logic_told : (decides : Bool) (e : Expression) → is_multiple e ≡ false →
        ((r : ℕ) (m : Maker) → local_register e m ≡ Some r → Fine z m → Told z (ms ++ ns) m (pass_name m)) →
        ((k : Constant) → literal e ≡ Some k → ms ++ ns ≡ []) →
        Speaks z (ms ++ ns) (coded_logic line decides e left right)
    logic_told decides e one bare silent =
        let v = single_told line e (logic_value line decides left right) one (grows_logic_value line decides left right s.grows t.grows)
        (λ r low m l f. logic_by_told (r == m.free) decides r low m l f) bare silent in
        record {
          grows = grows_logic line decides e left right one s.grows t.grows;
          value = record { to_grows = v.value.to_grows; to_free = λ r m. refl; to_reg = v.value.to_reg; bare = bare; silent = silent };
          jump_if = λ truth label m l f. logic_jump_told (beq decides truth) truth label m l f;
          spine = v.spine;
          multi = v.multi;
          multi_low = v.multi_low;
          tail = v.tail;
        }

  unary_went : (line : ℕ) (op : UnaryOp) (r x : ℕ) (m : Maker) → Fine z m → WentBy z 0 m.items m.functions (put line (Piece.Abc (unary_word op) r x 0) m).items m.functions m.active
  unary_went line UnaryOp.Neg r x m f = abc_went z line Op.Unm r x 0 refl f
  unary_went line UnaryOp.Not r x m f = abc_went z line Op.Not r x 0 refl f
  unary_went line UnaryOp.Len r x m f = abc_went z line Op.Len r x 0 refl f

  unary_jump_told : {ms : List Mention} (op : UnaryOp) (c : Coded) (of_value : Bool → ℕ → Part) → Speaks z ms c →
      ((truth : Bool) (label : ℕ) (m : Maker) → Last z (of_value truth label m) → Fine z m → Told z ms m (of_value truth label m)) →
      (truth : Bool) (label : ℕ) (m : Maker) → Last z (unary_jump op c of_value truth label m) → Fine z m → Told z ms m (unary_jump op c of_value truth label m)
  unary_jump_told UnaryOp.Not c of_value s h truth label m l f = s.jump_if (not truth) label m l f
  unary_jump_told UnaryOp.Neg c of_value s h truth label m l f = h truth label m l f
  unary_jump_told UnaryOp.Len c of_value s h truth label m l f = h truth label m l f

  pub unary_told : {ms : List Mention} (line : ℕ) (op : UnaryOp) (e : Expression) (c : Coded) → is_multiple e ≡ false → Speaks z ms c →
      ((r : ℕ) (m : Maker) → local_register e m ≡ Some r → Fine z m → Told z ms m (pass_name m)) →
      ((k : Constant) → literal e ≡ Some k → ms ≡ []) →
      Speaks z ms (coded_unary line op e c)
  unary_told line op e c one s bare silent =
      let v = single_told line e (load_or (fold e) line (unary_value line op c)) one (grows_load_or (fold e) line _ (grows_unary_value line op c s.grows))
      (load_or_told line e (unary_value line op c)
      (λ r low m l f. let t = operand_told z c s.value m l f in behind z t (unary_went line op r _ (operand c m).after t.went.fine)) silent (fold e) refl) bare silent in
      record {
        grows = grows_unary line op e c one s.grows;
        value = record { to_grows = v.value.to_grows; to_free = λ r m. refl; to_reg = v.value.to_reg; bare = bare; silent = silent };
        jump_if = unary_jump_told op c _ s v.jump_if;
        spine = v.spine;
        multi = v.multi;
        multi_low = v.multi_low;
        tail = v.tail;
      }
