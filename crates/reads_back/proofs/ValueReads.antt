-- The words of every expression that has a value by them are read as it.
use Rattle.std.proofs.Common.{◌≡◌, ℕ, suc, ◌≤◌, max, true, false, List, Option, Some, None, sym, arith}
use Rattle.std.specs.Prelude.{ℤ}
use Rattle.lua_num.specs.Bytes.{Text}
use Rattle.lua_tree.specs.Syntax as syntax
use Rattle.lua_tree.specs.Syntax.{Expressions, no_expressions, Arguments, argument_list, text_argument, table_argument, constructor, Fields, no_fields, positional, named, keyed, Expression, nil_literal, true_literal, false_literal, vararg_expression, number_literal, text_literal, name_expression, function_expression, index_expression, field_expression, call_expression, method_call, binary_expression, unary_expression, parenthesized}
use Rattle.lua_tree.specs.WellFormed.{is_call, depth_of_arguments, depth_of_expression, depth_of_expressions, depth_of_fields}
use Rattle.lua_tree.specs.declared.tree.BinaryOp.{BinaryOp}
use Rattle.proto.specs.declared.parts.Constant.{Constant}
use Rattle.core_expr.specs.Values.{Value, OperandValue}
use Rattle.recover_expr.specs.Situation.{Function}
use Rattle.scheme.specs.Expressions.{fold, is_comparison, is_multiple}
use Rattle.scheme.specs.declared.making.Active.{Active}
use Rattle.scheme.specs.declared.making.Piece.{Piece}
use Rattle.opcode.specs.declared.op.Op.{Op}
use Rattle.scheme_stands.specs.Expressions.{BinaryAt, LoadOr, OperandAt, TwoAt, UnaryAt}
use Rattle.scheme_stands.specs.Lists.{CallAt, MethodAt}
use Rattle.scheme_stands.specs.Relation.{given_rel, related}
use Rattle.scheme_stands.specs.Words.{Fn, Stretch, WordAt}
use Rattle.reads_back.specs.Cores.{AllHaveCores, AreGiven, HasCore, HaveCores, HaveItems, IsCore, IsFoldedOr, IsOperand, IsOperator, core, Counted, called_by, method_called_by, indexed_by, first_and}
use Rattle.reads_back.proofs.CallResults.{call_open_reads, call_value_reads, vararg_open_reads, vararg_reads}
use Rattle.reads_back.proofs.CallWords.{call_reads}
use Rattle.reads_back.proofs.ClosureReads.{function_reads}
use Rattle.reads_back.proofs.Comes.{Reads, ReadsCall, ReadsCore, ReadsGiven, ReadsOpen, ReadsOperand, ReadsSpine}
use Rattle.reads_back.proofs.Concats.{concat_reads, spine_alone, spine_first}
use Rattle.reads_back.proofs.Deeper.{given_deeper, open_deeper, operand_deeper, reads_deeper, some_depth, spine_deeper}
use Rattle.reads_back.proofs.GivenLists.{AllRead, list_given, table_given, text_given}
use Rattle.reads_back.proofs.LiteralReads.{constant_reads, false_reads, nil_reads, true_reads}
use Rattle.reads_back.proofs.MethodWords.{method_reads}
use Rattle.reads_back.proofs.NameReads.{AreListed, name_reads}
use Rattle.reads_back.proofs.OperandReads.{operand_reads, rk_reads, text_key_reads}
use Rattle.reads_back.proofs.Operators.{TakesNext, rk_takes, text_takes, add_reads, div_reads, indexed_reads, mul_reads, pow_reads, rem_reads, sub_reads, unary_reads}
use Rattle.reads_back.proofs.TableReads.{ItemsRead, table_reads}
use Rattle.reads_back.proofs.TableValues.{table_value_reads}
use Rattle.reads_back.proofs.Tests.{not_so}
use Rattle.reads_back.proofs.WordsRead.{IsFunction}

-- a value and, where it can give several, all of them; and as an operand of a `..` that it ends
pub record ReadsAll (f : Function) (g : Fn) (active : List Active) (listed : List ℕ) (e : Expression) : Type 0 where
  pub one : ReadsCore f g active listed e
  pub spine : ReadsSpine f g active listed (core g active e).spine (depth_of_expression e) ((related g e).spine active)
  pub several : is_multiple e ≡ true → ReadsOpen f g active listed (IsCore g active e) (depth_of_expression e) ((related g e).multi active)

module _ {f : Function} {g : Fn} {active : List Active} {listed : List ℕ} (is_function : IsFunction f g) (all : AreListed f g active listed) where
  -- a folded number is loaded
  folded_reads : {Is : Counted Value} {deep : ℕ} (folded : Option ℤ) (to : List Active → (free r : ℕ) → Stretch) → Reads f g active listed Is (suc deep) (to active) → Reads f g active listed (IsFoldedOr folded g Is) (suc deep) (LoadOr folded g to active)
  folded_reads (Some n) to reads = reads_deeper (omega arith) (constant_reads is_function (Constant.Number n))
  folded_reads None to reads = reads

  -- parts of a call that are no deeper
  call_of : {deep : ℕ} (on : Expression) (args : Arguments) → deep ≤ 199 → ReadsCore f g active listed on → ReadsGiven f g active listed (AreGiven g active args) (max 1 (depth_of_arguments args)) (given_rel g args) → depth_of_expression on ≤ deep → max 1 (depth_of_arguments args) ≤ deep →
      ReadsCall f g active listed (called_by (IsCore g active on) (AreGiven g active args)) (suc deep) (CallAt g (related g on) (given_rel g args) active)
  call_of on args few one given shallow low = call_reads (related g on) (given_rel g args) is_function (omega (arith, few)) (reads_deeper shallow one) (given_deeper low given)

  method_of : {deep : ℕ} (on : Expression) (name : Text) (args : Arguments) → deep ≤ 199 → ReadsCore f g active listed on → ReadsGiven f g active listed (AreGiven g active args) (max 1 (depth_of_arguments args)) (given_rel g args) → depth_of_expression on ≤ deep → max 1 (depth_of_arguments args) ≤ deep →
      ReadsCall f g active listed (method_called_by g name (IsCore g active on) (AreGiven g active args)) (suc deep) (MethodAt g (related g on) name (given_rel g args) active)
  method_of on name args few one given shallow low = method_reads (related g on) name (given_rel g args) is_function (omega (arith, few)) (operand_deeper shallow (operand_reads is_function all on one)) (given_deeper low given)

  indexed : {deep : ℕ} {Key : Counted OperandValue} {key_at : (free x free1 : ℕ) → Stretch} (on : Expression) → TakesNext g key_at → deep ≤ 199 → ReadsCore f g active listed on → ReadsOperand f g active listed Key deep key_at → depth_of_expression on ≤ deep →
      Reads f g active listed (indexed_by (IsCore g active on) Key) (suc deep) (λ free r. TwoAt (OperandAt g active (related g on)) key_at free (λ t k. WordAt g (Piece.Abc Op.GetTable r t k)))
  indexed on takes few one key shallow = indexed_reads (related g on) takes is_function (omega (arith, few)) (operand_deeper shallow (operand_reads is_function all on one)) key

  -- an operator that is no comparison
  operator_of : (op : BinaryOp) (left right : Expression) (deep : ℕ) → is_comparison op ≡ false → deep ≤ 199 → ReadsAll f g active listed left → ReadsAll f g active listed right → depth_of_expression left ≤ deep → depth_of_expression right ≤ deep →
      Reads f g active listed (IsOperator op (IsOperand g active left) (IsOperand g active right) (first_and (IsCore g active left) (core g active right).spine)) (suc deep) (BinaryAt g op (related g left) (related g right) active)
  operator_of BinaryOp.Add left right deep other few first second low high = add_reads (related g left) (related g right) is_function (omega (arith, few)) (operand_deeper low (rk_reads is_function all left first.one)) (operand_deeper high (rk_reads is_function all right second.one))
  operator_of BinaryOp.Sub left right deep other few first second low high = sub_reads (related g left) (related g right) is_function (omega (arith, few)) (operand_deeper low (rk_reads is_function all left first.one)) (operand_deeper high (rk_reads is_function all right second.one))
  operator_of BinaryOp.Mul left right deep other few first second low high = mul_reads (related g left) (related g right) is_function (omega (arith, few)) (operand_deeper low (rk_reads is_function all left first.one)) (operand_deeper high (rk_reads is_function all right second.one))
  operator_of BinaryOp.Div left right deep other few first second low high = div_reads (related g left) (related g right) is_function (omega (arith, few)) (operand_deeper low (rk_reads is_function all left first.one)) (operand_deeper high (rk_reads is_function all right second.one))
  operator_of BinaryOp.Rem left right deep other few first second low high = rem_reads (related g left) (related g right) is_function (omega (arith, few)) (operand_deeper low (rk_reads is_function all left first.one)) (operand_deeper high (rk_reads is_function all right second.one))
  operator_of BinaryOp.Pow left right deep other few first second low high = pow_reads (related g left) (related g right) is_function (omega (arith, few)) (operand_deeper low (rk_reads is_function all left first.one)) (operand_deeper high (rk_reads is_function all right second.one))
  operator_of BinaryOp.Concat left right deep other few first second low high = concat_reads (related g left) (related g right) is_function (omega (arith, few)) (reads_deeper low first.one) (spine_deeper high second.spine)
  operator_of op left right deep other few first second low high = not_so (sym other)

  spine_of : (op : BinaryOp) (line : ℕ) (left right : Expression) → ReadsAll f g active listed left → ReadsAll f g active listed right → ReadsCore f g active listed (binary_expression line op left right) →
      ReadsSpine f g active listed (core g active (binary_expression line op left right)).spine (depth_of_expression (binary_expression line op left right)) ((related g (binary_expression line op left right)).spine active)
  spine_of BinaryOp.Concat line left right first second one =
      spine_first (related g left) (related g right) (reads_deeper {more = depth_of_expression (binary_expression line BinaryOp.Concat left right)} (omega arith) first.one) (spine_deeper (omega arith) second.spine)
  spine_of op line left right first second one = spine_alone one

  mutual
    pub reads_all : (e : Expression) → HasCore e → depth_of_expression e ≤ 200 → ReadsAll f g active listed e
    reads_all (nil_literal line) has few = let one : ReadsCore f g active listed (nil_literal line) = nil_reads is_function in record { one = one; spine = spine_alone one; several = λ many. not_so many }
    reads_all (true_literal line) has few = let one : ReadsCore f g active listed (true_literal line) = true_reads is_function in record { one = one; spine = spine_alone one; several = λ many. not_so many }
    reads_all (false_literal line) has few = let one : ReadsCore f g active listed (false_literal line) = false_reads is_function in record { one = one; spine = spine_alone one; several = λ many. not_so many }
    reads_all (vararg_expression line) has few = let one : ReadsCore f g active listed (vararg_expression line) = vararg_reads is_function in record { one = one; spine = spine_alone one; several = λ many. vararg_open_reads is_function }
    reads_all (number_literal line n) has few = let one : ReadsCore f g active listed (number_literal line n) = constant_reads is_function (Constant.Number n) in record { one = one; spine = spine_alone one; several = λ many. not_so many }
    reads_all (text_literal line text) has few = let one : ReadsCore f g active listed (text_literal line text) = constant_reads is_function (Constant.Text text) in record { one = one; spine = spine_alone one; several = λ many. not_so many }
    reads_all (name_expression line text) has few = let one : ReadsCore f g active listed (name_expression line text) = name_reads is_function all text has in record { one = one; spine = spine_alone one; several = λ many. not_so many }
    reads_all (function_expression line body) has few = let one : ReadsCore f g active listed (function_expression line body) = reads_deeper (omega arith) (function_reads is_function all body) in record { one = one; spine = spine_alone one; several = λ many. not_so many }
    reads_all (index_expression line on key) has few =
        let first = reads_all on has.0 (omega (arith, few)) in
        let second = reads_all key has.1 (omega (arith, few)) in
        let deep = max (depth_of_expression on) (depth_of_expression key) in
        let one : ReadsCore f g active listed (index_expression line on key) = reads_deeper (omega arith) (indexed {deep = deep} on (rk_takes g active (related g key)) (omega (arith, few)) first.one (operand_deeper (omega arith) (rk_reads is_function all key second.one)) (omega arith)) in
        record { one = one; spine = spine_alone one; several = λ many. not_so many }
    reads_all (field_expression line on text) has few =
        let first = reads_all on has (omega (arith, few)) in
        let one : ReadsCore f g active listed (field_expression line on text) =
        reads_deeper (omega arith) (indexed {deep = depth_of_expression on} on (text_takes g text) (omega (arith, few)) first.one (operand_deeper (some_depth on) (text_key_reads is_function text)) (omega arith)) in
        record { one = one; spine = spine_alone one; several = λ many. not_so many }
    reads_all (call_expression line on args on_line) has few =
        let deep = max (depth_of_expression on) (depth_of_arguments args) in
        let called = call_of {deep = deep} on args (omega (arith, few)) (reads_all on has.0 (omega (arith, few))).one (given_reads args has.1 (omega (arith, few))) (omega arith) (omega (arith, some_depth on)) in
        let one : ReadsCore f g active listed (call_expression line on args on_line) = reads_deeper (omega arith) (call_value_reads _ is_function called) in
        record { one = one; spine = spine_alone one; several = λ many. open_deeper (omega arith) (call_open_reads is_function called) }
    reads_all (method_call line on name args on_line) has few =
        let deep = max (depth_of_expression on) (depth_of_arguments args) in
        let called = method_of {deep = deep} on name args (omega (arith, few)) (reads_all on has.1 (omega (arith, few))).one (given_reads args has.2 (omega (arith, few))) (omega arith) (omega (arith, some_depth on)) in
        let one : ReadsCore f g active listed (method_call line on name args on_line) = reads_deeper (omega arith) (call_value_reads _ is_function called) in
        record { one = one; spine = spine_alone one; several = λ many. open_deeper (omega arith) (call_open_reads is_function called) }
    reads_all (binary_expression line op left right) has few =
        let first = reads_all left has.1 (omega (arith, few)) in
        let second = reads_all right has.2 (omega (arith, few)) in
        let deep = max (depth_of_expression left) (depth_of_expression right) in
        let one : ReadsCore f g active listed (binary_expression line op left right) =
        reads_deeper (omega arith) (folded_reads (fold (binary_expression line op left right)) (BinaryAt g op (related g left) (related g right)) (operator_of op left right deep has.0 (omega (arith, few)) first second (omega arith) (omega arith))) in
        record { one = one; spine = spine_of op line left right first second one; several = λ many. not_so many }
    reads_all (unary_expression line op e) has few =
        let of = reads_all e has (omega (arith, few)) in
        let one : ReadsCore f g active listed (unary_expression line op e) =
        reads_deeper (omega arith) (folded_reads (fold (unary_expression line op e)) (UnaryAt g op (related g e)) (unary_reads {deep = depth_of_expression e} op is_function (omega (arith, few)) (operand_reads is_function all e of.one))) in
        record { one = one; spine = spine_alone one; several = λ many. not_so many }
    reads_all (constructor line fields) has few =
        let one : ReadsCore f g active listed (constructor line fields) = reads_deeper (omega arith) (table_value_reads is_function (table_reads is_function (omega (arith, few)) fields (items_read fields has {deep = depth_of_fields fields} (omega (arith, few)) (omega arith)))) in
        record { one = one; spine = spine_alone one; several = λ many. not_so many }
    reads_all (parenthesized line e) has few =
        let of = reads_all e has (omega (arith, few)) in
        let one : ReadsCore f g active listed (parenthesized line e) = reads_deeper (omega arith) of.one in
        record { one = one; spine = spine_alone one; several = λ many. not_so many }
    reads_all e has few = absurd has

    pub given_reads : (args : Arguments) → HaveCores args → depth_of_arguments args ≤ 199 → ReadsGiven f g active listed (AreGiven g active args) (max 1 (depth_of_arguments args)) (given_rel g args)
    given_reads (argument_list es) has few = given_deeper {deep = depth_of_expressions es} (omega arith) (list_given {deep = depth_of_expressions es} is_function es (each_read es has (omega (arith, few)) (omega arith)))
    given_reads (text_argument text) has few = text_given is_function text
    given_reads (table_argument fields) has few = given_deeper (omega arith) (table_given fields (table_reads is_function (omega (arith, few)) fields (items_read fields has {deep = depth_of_fields fields} (omega (arith, few)) (omega arith))))

    items_read : (fields : Fields) → HaveItems fields → {deep : ℕ} → deep ≤ 199 → depth_of_fields fields ≤ deep → ItemsRead f g active listed deep fields
    items_read no_fields has few low = tt
    items_read (positional e separator rest) has few low =
        let first = reads_all e has.0 (omega (arith, few, low)) in
        (record { one = reads_deeper (omega (arith, low)) first.one; all = λ many. open_deeper (omega (arith, low)) (first.several many) }, items_read rest has.1 few (omega (arith, low)))
    items_read (named text e separator rest) has few low =
        let item = reads_all e has.0 (omega (arith, few, low)) in
        (operand_deeper (omega (arith, low, some_depth e)) (text_key_reads is_function text), operand_deeper (omega (arith, low)) (rk_reads is_function all e item.one), items_read rest has.1 few (omega (arith, low)))
    items_read (keyed key e separator rest) has few low =
        let first = reads_all key has.0 (omega (arith, few, low)) in
        let item = reads_all e has.1 (omega (arith, few, low)) in
        (operand_deeper (omega (arith, low)) (rk_reads is_function all key first.one), operand_deeper (omega (arith, low)) (rk_reads is_function all e item.one), items_read rest has.2 few (omega (arith, low)))

    pub each_read : (es : Expressions) → AllHaveCores es → {deep : ℕ} → deep ≤ 200 → depth_of_expressions es ≤ deep → AllRead f g active listed deep es
    each_read no_expressions has few low = tt
    each_read (syntax.expression e es) has few low =
        let first = reads_all e has.0 (omega (arith, few, low)) in
        (record { one = reads_deeper (omega (arith, low)) first.one; all = λ many. open_deeper (omega (arith, low)) (first.several many) }, each_read es has.1 few (omega (arith, low)))

  -- a call, for as many values as are wanted
  pub call_read : (e : Expression) → is_call e ≡ true → HasCore e → depth_of_expression e ≤ 200 → (deep : ℕ) × ReadsCall f g active listed (IsCore g active e) deep ((related g e).multi active)
  call_read (call_expression line on args on_line) call has few =
      let deep = max (depth_of_expression on) (depth_of_arguments args) in
      (suc deep, call_of {deep = deep} on args (omega (arith, few)) (reads_all on has.0 (omega (arith, few))).one (given_reads args has.1 (omega (arith, few))) (omega arith) (omega (arith, some_depth on)))
  call_read (method_call line on name args on_line) call has few =
      let deep = max (depth_of_expression on) (depth_of_arguments args) in
      (suc deep, method_of {deep = deep} on name args (omega (arith, few)) (reads_all on has.1 (omega (arith, few))).one (given_reads args has.2 (omega (arith, few))) (omega arith) (omega (arith, some_depth on)))
  call_read e call has few = not_so call
