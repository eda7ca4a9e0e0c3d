-- The words of a value are one or more.
use Rattle.std.proofs.Common.{◌≡◌, ℕ, suc, ◌+◌, ◌-◌, ◌/◌, ◌<◌, ◌≤◌, nat_lt, nat_le, Bool, true, false, ◌&&◌, List, Option, Some, None, refl, sym, arith, inl, inr}
use Rattle.std.specs.Prelude.{◌==◌, ℤ}
use Rattle.lua_num.specs.Bytes.{Text}
use Rattle.lua_tree.specs.Syntax.{Arguments, Expression, nil_literal, true_literal, false_literal, vararg_expression, number_literal, text_literal, name_expression, function_expression, index_expression, field_expression, call_expression, method_call, binary_expression, unary_expression, constructor, parenthesized, Fields, no_fields, positional, named, keyed}
use Rattle.lua_tree.specs.WellFormed.{depth_of_arguments, depth_of_expression, depth_of_fields}
use Rattle.lua_tree.specs.declared.tree.BinaryOp.{BinaryOp}
use Rattle.opcode.specs.declared.op.Op.{Op}
use Rattle.recover_expr.specs.Situation.{Function}
use Rattle.scheme.specs.Expressions.{Want, fold, is_comparison, is_multiple}
use Rattle.scheme.specs.Lists.{pending_after}
use Rattle.scheme.specs.declared.making.Active.{Active}
use Rattle.scheme_stands.specs.Expressions.{ArithmeticAt, BinaryAt, LoadOr, RkAt, RkTextAt, UnaryAt}
use Rattle.scheme_stands.specs.Lists.{CallAt, ItemBy, KeyedAt, MethodAt, MovedFrom, is_last_item}
use Rattle.scheme_stands.specs.Relation.{ItemsAt, given_rel, related}
use Rattle.scheme_stands.specs.Words.{Fn, Spot, Stretch, meaning}
use Rattle.reads_back.specs.Cores.{HasCore, HaveCores, HaveItems}
use Rattle.reads_back.proofs.ClosureReads.{closure_later}
use Rattle.reads_back.proofs.NameReads.{AreListed, name_later}
use Rattle.reads_back.proofs.OperandReads.{operand_reads, rk_reads, text_forward}
use Rattle.reads_back.proofs.TableWords.{list_later, list_if_forward}
use Rattle.reads_back.proofs.Tests.{not_so, second_of_both}
use Rattle.reads_back.proofs.ValueReads.{given_reads, reads_all}
use Rattle.reads_back.proofs.WordsRead.{IsFunction}

moved_later : {g : Fn} {part : Stretch} (free r : ℕ) (p q : Spot) → ((p q : Spot) → part p q → p.pc < q.pc) → MovedFrom g part free r p q → p.pc < q.pc
moved_later free r p q later (inl (same, at)) = later p q at
moved_later free r p q later (inr (other, at)) = omega (arith, later p at.mid at.first_at, at.second_at.next)

module _ {f : Function} {g : Fn} {active : List Active} {listed : List ℕ} (is_function : IsFunction f g) (all : AreListed f g active listed) where
  -- ---- calls

  module _ (on : Expression) (args : Arguments) (has_on : HasCore on) (has : HaveCores args) (few : depth_of_expression on ≤ 199) (low : depth_of_arguments args ≤ 199) (free : ℕ) (op : Op) (want : Want) (p q : Spot) where
    call_later : CallAt g (related g on) (given_rel g args) active free op want p q → p.pc < q.pc
    call_later at =
        let on_first = (reads_all is_function all on has_on (omega (arith, few))).one.forward free free p at.mid at.on_at in
        let given = (given_reads is_function all args has low).forward (free + 1) at.mid at.last at.given_at in
        omega (arith, on_first, given, at.word.next)

    method_later : (text : Text) → MethodAt g (related g on) text (given_rel g args) active free op want p q → p.pc < q.pc
    method_later text at =
        let on_first = (operand_reads is_function all on (reads_all is_function all on has_on (omega (arith, few))).one).forward free at.x at.free1 p at.mid at.on_at in
        let name = text_forward g text (free + 2) at.y at.free2 at.mid at.named at.name_at in
        let given = (given_reads is_function all args has low).forward (free + 2) at.begun at.last at.given_at in
        omega (arith, on_first, name, at.self_at.next, given, at.word.next)

  pub multi_later : (e : Expression) → HasCore e → depth_of_expression e ≤ 200 → is_multiple e ≡ true → (free : ℕ) (op : Op) (want : Want) (p q : Spot) → (related g e).multi active free op want p q → p.pc < q.pc
  multi_later (vararg_expression line) has few many free op want p q at = omega (arith, at.word.next)
  multi_later (call_expression line on args on_line) has few many free op want p q at = call_later on args has.0 has.1 (omega (arith, few)) (omega (arith, few)) free op want p q at
  multi_later (method_call line on name args on_line) has few many free op want p q at = method_later on args has.1 has.2 (omega (arith, few)) (omega (arith, few)) free op want p q name at
  multi_later e has few many free op want p q at = not_so many

  -- ---- the items of a constructor

  item_forward : (e : Expression) (t done pending : ℕ) (rest : Stretch) → HasCore e → depth_of_expression e ≤ 199 → ((p q : Spot) → rest p q → p.pc ≤ q.pc) → (left_open : Bool) →
      (left_open ≡ true → is_multiple e ≡ true) → (p q : Spot) → ItemBy left_open g (related g e) active t done pending rest p q → p.pc ≤ q.pc
  item_forward e t done pending rest has few rest_on true many p q at =
      let block = (suc done - 1) / 50 + 1 in
      omega (arith, multi_later e has (omega (arith, few)) (many refl) (t + suc pending) Op.Call None p at.mid at.first_at, list_later g (nat_le block 511) t 0 block at.mid q at.second_at)
  item_forward e t done pending rest has few rest_on false many p q at =
      let free = t + suc pending in
      let others = at.others in
      let on = (reads_all is_function all e has (omega (arith, few))).one.forward free free p at.mid at.first in
      omega (arith, on, list_if_forward g (suc pending == 50) t 50 (suc done) at.mid others.mid others.first_at, rest_on others.mid q others.second_at)

  value_forward : (e : Expression) → HasCore e → depth_of_expression e ≤ 199 → (free x free1 : ℕ) (p q : Spot) → RkAt g active (related g e) free x free1 p q → p.pc ≤ q.pc
  value_forward e has few = (rk_reads is_function all e (reads_all is_function all e has (omega (arith, few))).one).forward

  keyed_forward : (e : Expression) (key : (free x free1 : ℕ) → Stretch) → HasCore e → depth_of_expression e ≤ 199 → ((free x free1 : ℕ) (p q : Spot) → key free x free1 p q → p.pc ≤ q.pc) →
      (t pending : ℕ) (p q : Spot) → KeyedAt g key (related g e) active t pending p q → p.pc ≤ q.pc
  keyed_forward e key has few key_on t pending p q at =
      let word = at.words_at in
      omega (arith, key_on (t + suc pending) at.x at.free1 p at.mid at.left_at, value_forward e has few at.free1 at.y at.free2 at.mid at.last at.right_at, word.next)

  items_forward : (fields : Fields) → HaveItems fields → depth_of_fields fields ≤ 199 → (t done pending : ℕ) (p q : Spot) → ItemsAt g fields active t done pending p q → p.pc ≤ q.pc
  items_forward no_fields has few t done pending p q at = list_if_forward g (nat_lt 0 pending) t pending done p q at
  items_forward (positional e separator rest) has few t done pending p q at =
      item_forward e t done pending (ItemsAt g rest active t (suc done) (pending_after (suc pending))) has.0 (omega (arith, few))
      (items_forward rest has.1 (omega (arith, few)) t (suc done) (pending_after (suc pending))) (is_last_item rest && is_multiple e) (λ both. second_of_both (is_last_item rest) (is_multiple e) both) p q at
  items_forward (named text e separator rest) has few t done pending p q at =
      let on = keyed_forward e (RkTextAt g text) has.0 (omega (arith, few)) (text_forward g text) t pending p at.mid at.first_at in
      omega (arith, on, items_forward rest has.1 (omega (arith, few)) t done pending at.mid q at.second_at)
  items_forward (keyed key e separator rest) has few t done pending p q at =
      let on = keyed_forward e (RkAt g active (related g key)) has.1 (omega (arith, few)) (value_forward key has.0 (omega (arith, few))) t pending p at.mid at.first_at in
      omega (arith, on, items_forward rest has.2 (omega (arith, few)) t done pending at.mid q at.second_at)

  -- ---- values

  loaded_later : (folded : Option ℤ) (to : List Active → (free r : ℕ) → Stretch) (free r : ℕ) (p q : Spot) → (to active free r p q → p.pc < q.pc) → LoadOr folded g to active free r p q → p.pc < q.pc
  loaded_later (Some n) to free r p q later at = omega (arith, at.word.next)
  loaded_later None to free r p q later at = later at

  arithmetic_later : (op : Op) (left right : Expression) → HasCore left → HasCore right → depth_of_expression left ≤ 199 → depth_of_expression right ≤ 199 →
      (free r : ℕ) (p q : Spot) → ArithmeticAt g op (related g left) (related g right) active free r p q → p.pc < q.pc
  arithmetic_later op left right has_left has_right low high free r p q at =
      let word = at.words_at in
      omega (arith, value_forward left has_left low free at.x at.free1 p at.mid at.left_at, value_forward right has_right high at.free1 at.y at.free2 at.mid at.last at.right_at, word.next)

  operator_later : (op : BinaryOp) (left right : Expression) → is_comparison op ≡ false → HasCore left → HasCore right → depth_of_expression left ≤ 199 → depth_of_expression right ≤ 199 →
      (free r : ℕ) (p q : Spot) → BinaryAt g op (related g left) (related g right) active free r p q → p.pc < q.pc
  operator_later BinaryOp.Add left right other first second low high free r p q at = arithmetic_later Op.Add left right first second low high free r p q at
  operator_later BinaryOp.Sub left right other first second low high free r p q at = arithmetic_later Op.Sub left right first second low high free r p q at
  operator_later BinaryOp.Mul left right other first second low high free r p q at = arithmetic_later Op.Mul left right first second low high free r p q at
  operator_later BinaryOp.Div left right other first second low high free r p q at = arithmetic_later Op.Div left right first second low high free r p q at
  operator_later BinaryOp.Rem left right other first second low high free r p q at = arithmetic_later Op.Mod left right first second low high free r p q at
  operator_later BinaryOp.Pow left right other first second low high free r p q at = arithmetic_later Op.Pow left right first second low high free r p q at
  operator_later BinaryOp.Concat left right other first second low high free r p q at =
      let operands = at.operands in
      let on = (reads_all is_function all left first (omega (arith, low))).one.forward free free p operands.mid operands.first in
      let rest = (reads_all is_function all right second (omega (arith, high))).spine.forward (free + 1) at.free1 operands.mid at.last operands.rest in
      omega (arith, on, rest, at.word.next)
  operator_later op left right other first second low high free r p q at = not_so (sym other)

  pub value_later : (e : Expression) → HasCore e → depth_of_expression e ≤ 200 → (free r : ℕ) (p q : Spot) → (related g e).to_reg active free r p q → p.pc < q.pc
  value_later (nil_literal line) has few free r p q at = omega (arith, at.next)
  value_later (true_literal line) has few free r p q at = omega (arith, at.next)
  value_later (false_literal line) has few free r p q at = omega (arith, at.next)
  value_later (vararg_expression line) has few free r p q at = omega (arith, at.next)
  value_later (number_literal line n) has few free r p q at = omega (arith, at.word.next)
  value_later (text_literal line text) has few free r p q at = omega (arith, at.word.next)
  value_later (name_expression line text) has few free r p q at = let words = at.1 in omega (arith, words.first_at.pc, name_later g text (meaning active p) r words.mid q words.second_at)
  value_later (function_expression line body) has few free r p q at = closure_later p q at
  value_later (index_expression line on key) has few free r p q at =
      let word = at.words_at in
      let tables = operand_reads is_function all on (reads_all is_function all on has.0 (omega (arith, few))).one in
      omega (arith, tables.forward free at.x at.free1 p at.mid at.left_at, value_forward key has.1 (omega (arith, few)) at.free1 at.y at.free2 at.mid at.last at.right_at, word.next)
  value_later (field_expression line on text) has few free r p q at =
      let word = at.words_at in
      let tables = operand_reads is_function all on (reads_all is_function all on has (omega (arith, few))).one in
      omega (arith, tables.forward free at.x at.free1 p at.mid at.left_at, text_forward g text at.free1 at.y at.free2 at.mid at.last at.right_at, word.next)
  value_later (call_expression line on args on_line) has few free r p q at =
      moved_later free r p q (λ p q at. call_later on args has.0 has.1 (omega (arith, few)) (omega (arith, few)) free Op.Call (Some 1) p q at) at
  value_later (method_call line on name args on_line) has few free r p q at =
      moved_later free r p q (λ p q at. method_later on args has.1 has.2 (omega (arith, few)) (omega (arith, few)) free Op.Call (Some 1) p q name at) at
  value_later (binary_expression line op left right) has few free r p q at =
      loaded_later (fold (binary_expression line op left right)) (BinaryAt g op (related g left) (related g right)) free r p q
      (λ at. operator_later op left right has.0 has.1 has.2 (omega (arith, few)) (omega (arith, few)) free r p q at) at
  value_later (unary_expression line op e) has few free r p q at =
      let of = operand_reads is_function all e (reads_all is_function all e has (omega (arith, few))).one in
      loaded_later (fold (unary_expression line op e)) (UnaryAt g op (related g e)) free r p q (λ at. let word = at.words_at in omega (arith, of.forward free at.x at.free1 p at.mid at.operand_at, word.next)) at
  value_later (constructor line fields) has few free r p q at =
      moved_later free r p q (λ p q at. omega (arith, at.word.next, items_forward fields has (omega (arith, few)) free 0 0 at.mid q at.items_at)) at
  value_later (parenthesized line e) has few free r p q at = value_later e has (omega (arith, few)) free r p q at
  value_later e has few free r p q at = absurd has
