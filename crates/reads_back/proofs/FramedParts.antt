-- What is made of an expression that has a core goes on as it would without a constant that was taken more, until it takes one.
use Rattle.std.proofs.Common.{◌≡◌, ℕ, suc, ◌+◌, false, not, ◌&&◌, List, [], ◌∷◌, length, Option, Some, None, refl, sym, ap, ◌∙◌, subst}
use Rattle.std.specs.Prelude.{◌==◌, ◌-◌, ◌/◌, nat_le, nat_lt, ℤ}
use Rattle.lua_num.specs.Bytes.{Text}
use Rattle.lua_tree.specs.OneLine.{one_line_arguments, one_line_body, one_line_expression, one_line_expressions, one_line_fields}
use Rattle.lua_tree.specs.Scoping.{Use}
use Rattle.lua_tree.specs.Syntax as syntax
use Rattle.lua_tree.specs.Syntax.{Expressions, no_expressions, Arguments, argument_list, text_argument, table_argument, Expression, nil_literal, true_literal, false_literal, vararg_expression, number_literal, text_literal, name_expression, index_expression, field_expression, call_expression, method_call, binary_expression, unary_expression, parenthesized, constructor, Fields, no_fields, positional, named, keyed, function_expression}
use Rattle.lua_tree.specs.declared.tree.BinaryOp.{BinaryOp}
use Rattle.lua_tree.specs.declared.tree.UnaryOp.{UnaryOp}
use Rattle.opcode.specs.declared.op.Op.{Op}
use Rattle.proto.specs.declared.parts.Constant.{Constant}
use Rattle.scheme.specs.Expressions.{Coded, Want, arithmetic, binary_spine, binary_value, concat, count_field, fold, indexed_value, is_comparison, is_multiple, literal, load, load_or, local_register, name_value, next_reg, next_text, operand, operand_by, read_where, rk, rk_by, rk_text, unary_value, unary_word}
use Rattle.scheme.specs.Functions.{closure, further_word, further_words, next_sources, source_names, with_function, without_sources, Inner}
use Rattle.scheme.specs.Lists.{Given, all_multi, all_next, by_base, call_at, ends_open, entries_from, is_last, keyed_item, method_at, moved, open_list, other_count, pending_after, positional_count, results_at, set_list, size_hint, table_at}
use Rattle.scheme.specs.Making.{Asks, Maker, Part, Where, free_from, freeing, in_globals, in_register, in_upvalue, next_name, pass_name, put, take_registers, where_is}
use Rattle.scheme.specs.Scheme.{all_coded, coded, entries, given, inner}
use Rattle.scheme.specs.declared.making.Piece.{Piece}
use Rattle.reads_back.specs.Cores.{AllHaveCores, HasCore, HaveCores, HaveItems}
use Rattle.reads_back.proofs.Framed.{Framed, FramedAsk, after_framed, ask_framed, bind_framed, cond_framed, constant_framed, free_framed, freeing_framed, nothing_framed, plain_framed, put_framed, read_framed, small_framed, take_framed, then_framed, when_framed}
use Rattle.reads_back.proofs.PassedMentions.{sources_named}
use Rattle.reads_back.proofs.Rewriting.{code}

module _ (k : Constant) (n : ℕ) where
  -- each part of an expression
  pub record FramedCoded (c : Coded) : Type 0 where
    pub to_reg : (r : ℕ) → Framed k n (c.to_reg r)
    pub spine : Framed k n c.spine
    pub multi : (op : Op) (want : Want) → Framed k n (c.multi op want)

-- the call of a method, behind its value and its name
abbrev call_behind : Given → Op → Want → (base x y : ℕ) → Part
call_behind args op want base x y m = results_at base want (put 1 (Piece.Abc op base (count_field 2 args.count) (count_field 1 want)) (args.part (free_from (base + 2) (put 1 (Piece.Abc Op.Self_ base x y) m))))

abbrev name_behind : Text → Given → Op → Want → (base x : ℕ) → Part
name_behind text args op want base x m = let y = rk_text 1 text (take_registers 2 (free_from base m)) in call_behind args op want base x y.value y.after

abbrev method_behind : Coded → Text → Given → Op → Want → (base : ℕ) → Part
method_behind on text args op want base m = let x = operand on m in name_behind text args op want base x.value x.after

abbrev EachFramed : Constant → ℕ → Expressions → Type 0
EachFramed k n no_expressions = Unit {0}
EachFramed k n (syntax.expression e es) = FramedCoded k n (code e) × EachFramed k n es

abbrev ItemsFramed : Constant → ℕ → Fields → Type 0
ItemsFramed k n no_fields = Unit {0}
ItemsFramed k n (positional e separator rest) = FramedCoded k n (code e) × ItemsFramed k n rest
ItemsFramed k n (named text e separator rest) = FramedCoded k n (code e) × ItemsFramed k n rest
ItemsFramed k n (keyed key e separator rest) = FramedCoded k n (code key) × FramedCoded k n (code e) × ItemsFramed k n rest

further_apart : (uses : List Use) (a : Maker) (constants : List Constant) → further_words 1 uses (record a { constants = constants }) ≡ record (further_words 1 uses a) { constants = constants }
further_apart [] a constants = refl
further_apart (one ∷ uses) a constants = further_apart uses (put 1 (further_word (where_is one a.active)) a) constants

pub further_same : (uses : List Use) (a : Maker) → (further_words 1 uses a).constants ≡ a.constants
further_same [] a = refl
further_same (one ∷ uses) a = further_same uses (put 1 (further_word (where_is one a.active)) a)

module _ {k : Constant} {n : ℕ} where
  -- ---- names, constants, operands

  load_framed : (line r : ℕ) (c : Constant) → Framed k n (load line r c)
  load_framed line r c = bind_framed {rest = λ number. put line (Piece.Abx Op.LoadK r number)} (constant_framed c) (λ number. put_framed line (Piece.Abx Op.LoadK r number))

  pass_framed : Framed k n pass_name
  pass_framed = plain_framed pass_name (λ a constants. refl) (λ a. refl)

  read_where_framed : (line r : ℕ) (text : Text) (w : Where) → Framed k n (read_where line r text w)
  read_where_framed line r text (in_register x) = put_framed line (Piece.Abc Op.Move r x 0)
  read_where_framed line r text (in_upvalue slot) = put_framed line (Piece.Abc Op.GetUpval r slot 0)
  read_where_framed line r text in_globals = bind_framed {rest = λ number. put line (Piece.Abx Op.GetGlobal r number)} (constant_framed (Constant.Text text)) (λ number. put_framed line (Piece.Abx Op.GetGlobal r number))

  name_framed : (line : ℕ) (text : Text) (r : ℕ) → Framed k n (name_value line text r)
  name_framed line text r = bind_framed {rest = λ w m. read_where line r text w (pass_name m)} (read_framed next_name (λ a. refl)) (λ w. then_framed pass_framed (read_where_framed line r text w))

  next_framed : (c : Coded) → ((r : ℕ) → Framed k n (c.to_reg r)) → Framed k n (next_reg c)
  next_framed c framed = bind_framed {rest = λ r m. take_registers 1 (c.to_reg r m)} (read_framed (λ m. m.free) (λ a. refl)) (λ r. then_framed (framed r) (take_framed 1))

  in_next_framed : (part : Part) → Framed k n part → FramedAsk k n (λ m. record { value = m.free; after = part m })
  in_next_framed part framed = ask_framed {rest = λ r m. record { value = r; after = part m }} (read_framed (λ m. m.free) (λ a. refl)) (λ r. after_framed framed r)

  operand_by_framed : (local : Option ℕ) (c : Coded) → ((r : ℕ) → Framed k n (c.to_reg r)) → FramedAsk k n (operand_by local c)
  operand_by_framed (Some r) c framed = after_framed pass_framed r
  operand_by_framed None c framed = in_next_framed (next_reg c) (next_framed c framed)

  operand_framed : (c : Coded) → ((r : ℕ) → Framed k n (c.to_reg r)) → FramedAsk k n (operand c)
  operand_framed c framed = ask_framed {rest = λ local. operand_by local c} (read_framed (local_register c.e) (λ a. refl)) (λ local. operand_by_framed local c framed)

  rk_by_framed : (literal : Option Constant) (c : Coded) → ((r : ℕ) → Framed k n (c.to_reg r)) → FramedAsk k n (rk_by literal c)
  rk_by_framed (Some other) c framed = small_framed other (operand c) (operand_framed c framed)
  rk_by_framed None c framed = operand_framed c framed

  pub rk_framed : (c : Coded) → FramedCoded k n c → FramedAsk k n (rk c)
  rk_framed c framed = rk_by_framed (literal c.e) c framed.to_reg

  next_text_framed : (line : ℕ) (text : Text) → Framed k n (next_text line text)
  next_text_framed line text = bind_framed {rest = λ r m. take_registers 1 (load line r (Constant.Text text) m)} (read_framed (λ m. m.free) (λ a. refl)) (λ r. then_framed (load_framed line r (Constant.Text text)) (take_framed 1))

  rk_text_framed : (line : ℕ) (text : Text) → FramedAsk k n (rk_text line text)
  rk_text_framed line text = small_framed (Constant.Text text) (λ m. record { value = m.free; after = next_text line text m }) (in_next_framed (next_text line text) (next_text_framed line text))

  -- ---- expressions from their parts

  -- what gives one value, which goes to the next register
  single_framed : (c : Coded) → ((r : ℕ) → Framed k n (c.to_reg r)) → c.spine ≡ next_reg c → c.multi ≡ (λ op want m. m) → FramedCoded k n c
  single_framed c framed spine multi = record {
    to_reg = framed;
    spine = subst (λ (part : Part). Framed k n part) (sym spine) (next_framed c framed);
    multi = λ op want. subst (λ (multi : Op → Want → Part). Framed k n (multi op want)) (sym multi) nothing_framed;
  }

  indexed_framed : (line : ℕ) (on : Coded) (key : Asks ℕ) → FramedCoded k n on → FramedAsk k n key → (r : ℕ) → Framed k n (indexed_value line on key r)
  indexed_framed line on key framed then_key r =
      bind_framed {rest = λ t m. put line (Piece.Abc Op.GetTable r t (key m).value) (key m).after} (operand_framed on framed.to_reg)
      (λ t. bind_framed {rest = λ k. put line (Piece.Abc Op.GetTable r t k)} then_key (λ k. put_framed line (Piece.Abc Op.GetTable r t k)))

  load_or_framed : (folded : Option ℤ) (line : ℕ) (to : ℕ → Part) → ((r : ℕ) → Framed k n (to r)) → (r : ℕ) → Framed k n (load_or folded line to r)
  load_or_framed (Some number) line to framed r = load_framed line r (Constant.Number number)
  load_or_framed None line to framed r = framed r

  arithmetic_framed : (line : ℕ) (op : Op) (left right : Coded) → FramedCoded k n left → FramedCoded k n right → (r : ℕ) → Framed k n (arithmetic line op left right r)
  arithmetic_framed line op left right first second r =
      bind_framed {rest = λ x m. put line (Piece.Abc op r x (rk right m).value) (rk right m).after} (rk_framed left first)
      (λ x. bind_framed {rest = λ y. put line (Piece.Abc op r x y)} (rk_framed right second) (λ y. put_framed line (Piece.Abc op r x y)))

  operands_framed : (left right : Coded) → FramedCoded k n left → FramedCoded k n right → Framed k n (λ m. right.spine (next_reg left m))
  operands_framed left right first second = then_framed (next_framed left first.to_reg) second.spine

  concat_framed : (line : ℕ) (left right : Coded) → FramedCoded k n left → FramedCoded k n right → (r : ℕ) → Framed k n (concat line left right r)
  concat_framed line left right first second r =
      bind_framed {rest = λ first m. put line (Piece.Abc Op.Concat r first ((right.spine (next_reg left m)).free - 1)) (right.spine (next_reg left m))} (read_framed (λ m. m.free) (λ a. refl))
      (λ base. then_framed (operands_framed left right first second) (bind_framed {rest = λ after. put line (Piece.Abc Op.Concat r base (after - 1))} (read_framed (λ m. m.free) (λ a. refl)) (λ after. put_framed line (Piece.Abc Op.Concat r base (after - 1)))))

  binary_value_framed : (line : ℕ) (op : BinaryOp) (left right : Coded) → is_comparison op ≡ false → FramedCoded k n left → FramedCoded k n right → (r : ℕ) → Framed k n (binary_value line op left right r)
  binary_value_framed line BinaryOp.Add left right plain first second = arithmetic_framed line Op.Add left right first second
  binary_value_framed line BinaryOp.Sub left right plain first second = arithmetic_framed line Op.Sub left right first second
  binary_value_framed line BinaryOp.Mul left right plain first second = arithmetic_framed line Op.Mul left right first second
  binary_value_framed line BinaryOp.Div left right plain first second = arithmetic_framed line Op.Div left right first second
  binary_value_framed line BinaryOp.Rem left right plain first second = arithmetic_framed line Op.Mod left right first second
  binary_value_framed line BinaryOp.Pow left right plain first second = arithmetic_framed line Op.Pow left right first second
  binary_value_framed line BinaryOp.Concat left right plain first second = concat_framed line left right first second
  binary_value_framed line op left right plain first second = absurd cc

  spine_framed : (op : BinaryOp) (of_concat of_value : Part) → Framed k n of_concat → Framed k n of_value → Framed k n (binary_spine op of_concat of_value)
  spine_framed BinaryOp.Concat of_concat of_value first second = first
  spine_framed op of_concat of_value first second = second

  binary_framed : (op : BinaryOp) (l r : Expression) → is_comparison op ≡ false → FramedCoded k n (coded l) → FramedCoded k n (coded r) → FramedCoded k n (coded (binary_expression 1 op l r))
  binary_framed op l r plain first second = record {
    to_reg = to;
    spine = spine_framed op _ _ (operands_framed (coded l) (coded r) first second) (next_framed (coded (binary_expression 1 op l r)) to);
    multi = λ op want. nothing_framed;
  }
    where
      to : (register : ℕ) → Framed k n ((coded (binary_expression 1 op l r)).to_reg register)
      to register = freeing_framed (load_or_framed (fold (binary_expression 1 op l r)) 1 (binary_value 1 op (coded l) (coded r)) (binary_value_framed 1 op (coded l) (coded r) plain first second) register)

  unary_framed : (line : ℕ) (op : UnaryOp) (c : Coded) → FramedCoded k n c → (r : ℕ) → Framed k n (unary_value line op c r)
  unary_framed line op c framed r = bind_framed {rest = λ x. put line (Piece.Abc (unary_word op) r x 0)} (operand_framed c framed.to_reg) (λ x. put_framed line (Piece.Abc (unary_word op) r x 0))

  -- ---- lists and calls

  next_each_framed : (es : Expressions) → EachFramed k n es → Framed k n (all_next (all_coded (one_line_expressions es)))
  next_each_framed no_expressions framed = nothing_framed
  next_each_framed (syntax.expression e es) framed = then_framed (next_framed (code e) framed.0.to_reg) (next_each_framed es framed.1)

  multi_each_framed : (op : Op) (want : Want) (es : Expressions) → EachFramed k n es → Framed k n (all_multi op want (all_coded (one_line_expressions es)))
  multi_each_framed op want no_expressions framed = nothing_framed
  multi_each_framed op want (syntax.expression e no_expressions) framed = framed.0.multi op want
  multi_each_framed op want (syntax.expression e (syntax.expression d es)) framed = then_framed (next_framed (code e) framed.0.to_reg) (multi_each_framed op want (syntax.expression d es) framed.1)

  open_framed : (es : Expressions) → EachFramed k n es → Framed k n (open_list (all_coded (one_line_expressions es)))
  open_framed es framed = cond_framed (ends_open (all_coded (one_line_expressions es))) (multi_each_framed Op.Call None es framed) (next_each_framed es framed)

  results_framed : (base : ℕ) (want : Want) → Framed k n (results_at base want)
  results_framed base None = plain_framed (results_at base None) (λ a constants. refl) (λ a. refl)
  results_framed base (Some count) = plain_framed (results_at base (Some count)) (λ a constants. refl) (λ a. refl)

  call_framed : (on : Coded) (args : Given) → FramedCoded k n on → Framed k n args.part → (op : Op) (want : Want) → Framed k n (call_at 1 on args op want)
  call_framed on args first second op want =
      bind_framed {rest = λ base m. results_at base want (put 1 (Piece.Abc op base (count_field 1 args.count) (count_field 1 want)) (args.part (next_reg on m)))} (read_framed (λ m. m.free) (λ a. refl))
      (λ base. then_framed (then_framed (then_framed (next_framed on first.to_reg) second) (put_framed 1 (Piece.Abc op base (count_field 1 args.count) (count_field 1 want)))) (results_framed base want))

  method_framed : (on : Coded) (text : Text) (args : Given) → FramedCoded k n on → Framed k n args.part → (op : Op) (want : Want) → Framed k n (method_at 1 on text args op want)
  method_framed on text args first second op want =
      bind_framed {rest = λ base m. method_behind on text args op want base m} (read_framed (λ m. m.free) (λ a. refl)) (λ base. bind_framed {rest = λ x m. name_behind text args op want base x m} (operand_framed on first.to_reg) (λ x. then_framed (then_framed (free_framed base) (take_framed 2)) (bind_framed {rest = λ y m. call_behind args op want base x y m} (rk_text_framed 1 text) (λ y.
      then_framed (then_framed (then_framed (then_framed (put_framed 1 (Piece.Abc Op.Self_ base x y)) (free_framed (base + 2))) second) (put_framed 1 (Piece.Abc op base (count_field 2 args.count) (count_field 1 want)))) (results_framed base want)))))

  moved_framed : (line base r : ℕ) → Framed k n (moved line base r)
  moved_framed line base r = when_framed (not (base == r)) (put_framed line (Piece.Abc Op.Move r base 0))

  by_base_framed : (at_base : Part) → Framed k n at_base → (r : ℕ) → Framed k n (by_base 1 at_base r)
  by_base_framed at_base framed r = bind_framed {rest = λ base m. moved 1 base r (at_base m)} (read_framed (λ m. m.free) (λ a. refl)) (λ base. then_framed framed (moved_framed 1 base r))

  -- ---- functions

  further_words_framed : (uses : List Use) → Framed k n (further_words 1 uses)
  further_words_framed uses = plain_framed (further_words 1 uses) (further_apart uses) (further_same uses)

  closure_framed : (made : Inner) (r : ℕ) → Framed k n (closure 1 made r)
  closure_framed made r =
      bind_framed {rest = λ uses m. further_words 1 uses (put 1 (Piece.Abx Op.Closure r (length m.functions)) (with_function (made (source_names m uses) (without_sources m.ahead)) m))} (read_framed next_sources (λ a. refl)) (λ uses.
      then_framed (plain_framed (λ m. put 1 (Piece.Abx Op.Closure r (length m.functions)) (with_function (made (source_names m uses) (without_sources m.ahead)) m)) (λ a constants. named uses a constants) (λ a. refl)) (further_words_framed uses))
    where
      named : (uses : List Use) (a : Maker) (constants : List Constant) → put 1 (Piece.Abx Op.Closure r (length a.functions)) (with_function (made (source_names (record a { constants = constants }) uses) (without_sources a.ahead)) (record a { constants = constants }))
          ≡ record (put 1 (Piece.Abx Op.Closure r (length a.functions)) (with_function (made (source_names a uses) (without_sources a.ahead)) a)) { constants = constants }
      named uses a constants =
          ap (λ names. put 1 (Piece.Abx Op.Closure r (length a.functions)) (with_function (made names (without_sources a.ahead)) (record a { constants = constants })))
          (sources_named (record a { constants = constants }) uses ∙ sym (sources_named a uses))

  -- ---- constructors

  set_list_framed : (t count done : ℕ) → Framed k n (set_list 1 t count done)
  set_list_framed t count done =
      let block = (done - 1) / 50 + 1 in
      then_framed (cond_framed (nat_le block 511) (put_framed 1 (Piece.Abc Op.SetList t count block)) (then_framed (put_framed 1 (Piece.Abc Op.SetList t count 0)) (put_framed 1 (Piece.Bare block)))) (free_framed (t + 1))

  item_framed : (t : ℕ) (key : Asks ℕ) (c : Coded) → FramedAsk k n key → FramedCoded k n c → Framed k n (freeing (keyed_item 1 t key c))
  item_framed t key c first second =
      freeing_framed (bind_framed {rest = λ k m. put 1 (Piece.Abc Op.SetTable t k (rk c m).value) (rk c m).after} first (λ k. bind_framed {rest = λ v. put 1 (Piece.Abc Op.SetTable t k v)} (rk_framed c second) (λ v. put_framed 1 (Piece.Abc Op.SetTable t k v))))

  items_framed_by : (items : Fields) → ItemsFramed k n items → (t done pending : ℕ) → Framed k n (entries_from 1 t done pending (entries (one_line_fields items)))
  items_framed_by no_fields framed t done pending = when_framed (nat_lt 0 pending) (set_list_framed t pending done)
  items_framed_by (positional e separator rest) framed t done pending =
      cond_framed (is_last (entries (one_line_fields rest)) && is_multiple (code e).e)
      (then_framed (framed.0.multi Op.Call None) (set_list_framed t 0 (suc done)))
      (then_framed (then_framed (next_framed (code e) framed.0.to_reg) (when_framed (suc pending == 50) (set_list_framed t 50 (suc done)))) (items_framed_by rest framed.1 t (suc done) (pending_after (suc pending))))
  items_framed_by (named text e separator rest) framed t done pending = then_framed (item_framed t (rk_text 1 text) (code e) (rk_text_framed 1 text) framed.0) (items_framed_by rest framed.1 t done pending)
  items_framed_by (keyed key e separator rest) framed t done pending = then_framed (item_framed t (rk (code key)) (code e) (rk_framed (code key) framed.0) framed.1) (items_framed_by rest framed.2 t done pending)

  table_framed : (items : Fields) → ItemsFramed k n items → Framed k n (table_at 1 (entries (one_line_fields items)))
  table_framed items framed =
      let entries = entries (one_line_fields items) in
      let new : ℕ → Piece = λ t. Piece.Abc Op.NewTable t (size_hint (positional_count entries)) (size_hint (other_count entries)) in
      bind_framed {rest = λ t m. free_from (t + 1) (entries_from 1 t 0 0 entries (take_registers 1 (put 1 (new t) m)))} (read_framed (λ m. m.free) (λ a. refl))
      (λ t. then_framed (then_framed (then_framed (put_framed 1 (new t)) (take_framed 1)) (items_framed_by items framed t 0 0)) (free_framed (t + 1)))

  -- ---- every expression that has a core

  called_framed : (c : Coded) (at : Op → Want → Part) → ((r : ℕ) → c.to_reg r ≡ freeing (by_base 1 (at Op.Call (Some 1)) r)) → c.spine ≡ next_reg c → c.multi ≡ at → ((op : Op) (want : Want) → Framed k n (at op want)) → FramedCoded k n c
  called_framed c at to spine multi framed = record {
    to_reg = to_framed;
    spine = subst (λ (part : Part). Framed k n part) (sym spine) (next_framed c to_framed);
    multi = λ op want. subst (λ (multi : Op → Want → Part). Framed k n (multi op want)) (sym multi) (framed op want);
  }
    where
      to_framed : (r : ℕ) → Framed k n (c.to_reg r)
      to_framed r = subst (λ (part : Part). Framed k n part) (sym (to r)) (freeing_framed (by_base_framed (at Op.Call (Some 1)) (framed Op.Call (Some 1)) r))

module _ (k : Constant) (n : ℕ) where
  mutual
    pub framed : (e : Expression) → HasCore e → FramedCoded k n (code e)
    framed (nil_literal line) has = single_framed (code (nil_literal line)) (λ r. freeing_framed (put_framed 1 (Piece.Abc Op.LoadNil r r 0))) refl refl
    framed (true_literal line) has = single_framed (code (true_literal line)) (λ r. freeing_framed (put_framed 1 (Piece.Abc Op.LoadBool r 1 0))) refl refl
    framed (false_literal line) has = single_framed (code (false_literal line)) (λ r. freeing_framed (put_framed 1 (Piece.Abc Op.LoadBool r 0 0))) refl refl
    framed (vararg_expression line) has = record {
      to_reg = λ r. freeing_framed (put_framed 1 (Piece.Abc Op.Vararg r 2 0));
      spine = next_framed (code (vararg_expression line)) (λ r. freeing_framed (put_framed 1 (Piece.Abc Op.Vararg r 2 0)));
      multi = λ op want. bind_framed {rest = λ base m. results_at base want (put 1 (Piece.Abc Op.Vararg base (count_field 1 want) 0) m)} (read_framed (λ m. m.free) (λ a. refl)) (λ base. then_framed (put_framed 1 (Piece.Abc Op.Vararg base (count_field 1 want) 0)) (results_framed base want));
    }
    framed (number_literal line number) has = single_framed (code (number_literal line number)) (λ r. freeing_framed (load_framed 1 r (Constant.Number number))) refl refl
    framed (text_literal line text) has = single_framed (code (text_literal line text)) (λ r. freeing_framed (load_framed 1 r (Constant.Text text))) refl refl
    framed (name_expression line text) has = single_framed (code (name_expression line text)) (λ r. freeing_framed (name_framed 1 text r)) refl refl
    framed (function_expression line body) has = single_framed (code (function_expression line body)) (λ r. freeing_framed (closure_framed (inner (one_line_body body) false) r)) refl refl
    framed (index_expression line on key) has = single_framed (code (index_expression line on key)) (λ r. freeing_framed (indexed_framed 1 (code on) (rk (code key)) (framed on has.0) (rk_framed (code key) (framed key has.1)) r)) refl refl
    framed (field_expression line on text) has = single_framed (code (field_expression line on text)) (λ r. freeing_framed (indexed_framed 1 (code on) (rk_text 1 text) (framed on has) (rk_text_framed 1 text) r)) refl refl
    framed (call_expression line on args on_line) has =
        called_framed (code (call_expression line on args on_line)) (call_at 1 (code on) (given (one_line_arguments args) 1)) (λ r. refl) refl refl (call_framed (code on) (given (one_line_arguments args) 1) (framed on has.0) (given_framed args has.1))
    framed (method_call line on name args on_line) has =
        called_framed (code (method_call line on name args on_line)) (method_at 1 (code on) name (given (one_line_arguments args) 1)) (λ r. refl) refl refl (method_framed (code on) name (given (one_line_arguments args) 1) (framed on has.1) (given_framed args has.2))
    framed (binary_expression line op left right) has = binary_framed op (one_line_expression left) (one_line_expression right) has.0 (framed left has.1) (framed right has.2)
    framed (unary_expression line op e) has =
        single_framed (code (unary_expression line op e)) (λ r. freeing_framed (load_or_framed (fold (unary_expression 1 op (one_line_expression e))) 1 (unary_value 1 op (code e)) (unary_framed 1 op (code e) (framed e has)) r)) refl refl
    framed (constructor line items) has =
        single_framed (code (constructor line items)) (λ r. freeing_framed (by_base_framed (table_at 1 (entries (one_line_fields items))) (table_framed items (items_framed items has)) r)) refl refl
    framed (parenthesized line e) has = record { to_reg = (framed e has).to_reg; spine = next_framed (code e) (framed e has).to_reg; multi = λ op want. nothing_framed }
    framed e has = absurd has

    given_framed : (args : Arguments) → HaveCores args → Framed k n (given (one_line_arguments args) 1).part
    given_framed (argument_list es) have = open_framed es (each_framed es have)
    given_framed (text_argument text) have = next_text_framed 1 text
    given_framed (table_argument items) have = table_framed items (items_framed items have)

    items_framed : (items : Fields) → HaveItems items → ItemsFramed k n items
    items_framed no_fields have = tt
    items_framed (positional e separator rest) have = (framed e have.0, items_framed rest have.1)
    items_framed (named text e separator rest) have = (framed e have.0, items_framed rest have.1)
    items_framed (keyed key e separator rest) have = (framed key have.0, framed e have.1, items_framed rest have.2)

    each_framed : (es : Expressions) → AllHaveCores es → EachFramed k n es
    each_framed no_expressions have = tt
    each_framed (syntax.expression e es) have = (framed e have.0, each_framed es have.1)
