-- The words of a value, of a statement and of a list are behind one another: where they stand, the pc grows.
use Rattle.std.proofs.Common.{◌≡◌, ◌<◌, ◌≤◌, inl, inr, ℕ, suc, ◌+◌, ◌-◌, ◌/◌, Bool, true, false, nat_le, nat_lt, List, [], length, Option, Some, None, refl, sym, ◌∙◌, arith, subst, lt-ltb}
use Rattle.std.specs.Prelude.{◌==◌, ℤ}
use Rattle.lua_num.specs.Bytes.{Text}
use Rattle.lua_tree.specs.Syntax as syntax
use Rattle.lua_tree.specs.Syntax.{Arguments, argument_list, text_argument, table_argument, Expression, Expressions, no_expressions, Fields, no_fields, positional, named, keyed, nil_literal, true_literal, false_literal, vararg_expression, number_literal, text_literal, name_expression, function_expression, index_expression, field_expression, call_expression, method_call, binary_expression, unary_expression, constructor, parenthesized}
use Rattle.lua_tree.specs.declared.tree.BinaryOp.{BinaryOp}
use Rattle.opcode.specs.declared.op.Op.{Op}
use Rattle.proto.specs.declared.parts.Constant.{Constant}
use Rattle.recover_expr.specs.Situation.{Function}
use Rattle.scheme.specs.Expressions.{Want, fold, is_comparison}
use Rattle.scheme.specs.Lists.{pending_after}
use Rattle.scheme.specs.declared.making.Active.{Active}
use Rattle.scheme_stands.specs.Expressions.{ArithmeticAt, BinaryAt, LoadOr, OperandAt, OperandBy, Rel, RkAt, RkBy, RkTextAt, UnaryAt, local_at, in_next}
use Rattle.scheme_stands.specs.Lists.{AdjustAt, AdjustBy, CallAt, FilledAt, ItemBy, KeyedAt, MethodAt, MovedFrom, OpenBy, rels_open}
use Rattle.scheme_stands.specs.Relation.{ItemsAt, all_related, given_rel, related}
use Rattle.scheme_stands.specs.Words.{Fn, Law, Same, Spot, Stretch, meaning, never}
use Rattle.reads_back.specs.Cores.{AllHaveCores, HasCore, HaveCores, HaveItems}
use Rattle.reads_back.proofs.ClosureReads.{closure_later}
use Rattle.reads_back.proofs.LowValues.{ListBy}
use Rattle.reads_back.proofs.NameReads.{AreListed, local_operand, name_later}
use Rattle.reads_back.proofs.OperandReads.{text_forward}
use Rattle.reads_back.proofs.TableWords.{list_if_forward}
use Rattle.reads_back.proofs.TableWords as table_words
use Rattle.reads_back.proofs.Tests.{not_so}
use Rattle.reads_back.proofs.WordsRead.{IsFunction}

-- the words of a value, for each use of it, are one or more
pub record IsForward (g : Fn) (active : List Active) (e : Expression) : Type 0 where
  pub value : (free r : ℕ) (p q : Spot) → (related g e).to_reg active free r p q → p.pc < q.pc
  pub spine : (free free1 : ℕ) (p q : Spot) → (related g e).spine active free free1 p q → p.pc < q.pc
  pub multi : (free : ℕ) (op : Op) (want : Want) (p q : Spot) → (related g e).multi active free op want p q → p.pc < q.pc

moved_forward : {g : Fn} {part : Stretch} (free r : ℕ) (p q : Spot) → ((p q : Spot) → part p q → p.pc < q.pc) → MovedFrom g part free r p q → p.pc < q.pc
moved_forward free r p q later (inl (same, at)) = later p q at
moved_forward free r p q later (inr (other, at)) = omega (arith, later p at.mid at.first_at, at.second_at.next)

module _ {f : Function} {g : Fn} {active : List Active} {listed : List ℕ} (is_function : IsFunction f g) (all : AreListed f g active listed) where
  -- ---- operands

  module _ (e : Expression) (forward : IsForward g active e) (free x free1 : ℕ) (p q : Spot) where
    operand_by : (o : Option ℕ) → local_at (related g e).form active p ≡ o → OperandBy o g active (related g e) free x free1 p q → p.pc ≤ q.pc
    operand_by (Some r) is at = omega (arith, (local_operand is_function all e r p q is at.passed).same)
    operand_by None is at = omega (arith, forward.value free free p q at.value_at)

    pub operand_forward : OperandAt g active (related g e) free x free1 p q → p.pc ≤ q.pc
    operand_forward at = operand_by (local_at (related g e).form active p) refl at

    rk_by : (o : Option Constant) → RkBy o g active (related g e) free x free1 p q → p.pc ≤ q.pc
    rk_by (Some k) (inl at) = omega (arith, at.same.pc)
    rk_by (Some k) (inr (large, at)) = operand_forward at
    rk_by None at = operand_forward at

    pub rk_forward : RkAt g active (related g e) free x free1 p q → p.pc ≤ q.pc
    rk_forward at = rk_by (related g e).form.literal at

  -- ---- calls and items

  no_multi : (p q : Spot) → never g.law Same p q → p.pc < q.pc
  no_multi p q at = absurd (subst (λ (law : Law). never law Same p q) is_function.law at)

  module _ (on : Expression) (forward : IsForward g active on) (args : Arguments) (given : (free : ℕ) (p q : Spot) → (given_rel g args).part active free p q → p.pc ≤ q.pc) (free : ℕ) (op : Op) (want : Want) (p q : Spot) where
    call_forward : CallAt g (related g on) (given_rel g args) active free op want p q → p.pc < q.pc
    call_forward at = omega (arith, forward.value free free p at.mid at.on_at, given (free + 1) at.mid at.last at.given_at, at.word.next)

    method_forward : (text : Text) → MethodAt g (related g on) text (given_rel g args) active free op want p q → p.pc < q.pc
    method_forward text at =
        let on_first = operand_forward on forward free at.x at.free1 p at.mid at.on_at in
        let name = text_forward g text (free + 2) at.y at.free2 at.mid at.named at.name_at in
        omega (arith, on_first, name, at.self_at.next, given (free + 2) at.begun at.last at.given_at, at.word.next)

  item_forward : (e : Expression) (t done pending : ℕ) (rest : Stretch) → IsForward g active e → ((p q : Spot) → rest p q → p.pc ≤ q.pc) → (left_open : Bool) → (p q : Spot) →
      ItemBy left_open g (related g e) active t done pending rest p q → p.pc ≤ q.pc
  item_forward e t done pending rest forward rest_on true p q at =
      let block = (suc done - 1) / 50 + 1 in omega (arith, forward.multi (t + suc pending) Op.Call None p at.mid at.first_at, table_words.list_later g (nat_le block 511) t 0 block at.mid q at.second_at)
  item_forward e t done pending rest forward rest_on false p q at =
      let free = t + suc pending in
      let others = at.others in
      omega (arith, forward.value free free p at.mid at.first, list_if_forward g (suc pending == 50) t 50 (suc done) at.mid others.mid others.first_at, rest_on others.mid q others.second_at)

  keyed_forward : (e : Expression) (key : (free x free1 : ℕ) → Stretch) → IsForward g active e → ((free x free1 : ℕ) (p q : Spot) → key free x free1 p q → p.pc ≤ q.pc) → (t pending : ℕ) (p q : Spot) →
      KeyedAt g key (related g e) active t pending p q → p.pc ≤ q.pc
  keyed_forward e key forward key_on t pending p q at =
      let word = at.words_at in
      omega (arith, key_on (t + suc pending) at.x at.free1 p at.mid at.left_at, rk_forward e forward at.free1 at.y at.free2 at.mid at.last at.right_at, word.next)

  -- ---- operators

  loaded_forward : (folded : Option ℤ) (to : List Active → (free r : ℕ) → Stretch) (free r : ℕ) (p q : Spot) → (to active free r p q → p.pc < q.pc) → LoadOr folded g to active free r p q → p.pc < q.pc
  loaded_forward (Some n) to free r p q later at = omega (arith, at.word.next)
  loaded_forward None to free r p q later at = later at

  module _ (left right : Expression) (one : IsForward g active left) (two : IsForward g active right) (free r : ℕ) (p q : Spot) where
    arithmetic_forward : (op : Op) → ArithmeticAt g op (related g left) (related g right) active free r p q → p.pc < q.pc
    arithmetic_forward op at =
        let word = at.words_at in
        omega (arith, rk_forward left one free at.x at.free1 p at.mid at.left_at, rk_forward right two at.free1 at.y at.free2 at.mid at.last at.right_at, word.next)

    operator_forward : (op : BinaryOp) → is_comparison op ≡ false → BinaryAt g op (related g left) (related g right) active free r p q → p.pc < q.pc
    operator_forward BinaryOp.Add other at = arithmetic_forward Op.Add at
    operator_forward BinaryOp.Sub other at = arithmetic_forward Op.Sub at
    operator_forward BinaryOp.Mul other at = arithmetic_forward Op.Mul at
    operator_forward BinaryOp.Div other at = arithmetic_forward Op.Div at
    operator_forward BinaryOp.Rem other at = arithmetic_forward Op.Mod at
    operator_forward BinaryOp.Pow other at = arithmetic_forward Op.Pow at
    operator_forward BinaryOp.Concat other at =
        let operands = at.operands in
        omega (arith, one.value free free p operands.mid operands.first, two.spine (free + 1) at.free1 operands.mid at.last operands.rest, at.word.next)
    operator_forward op other at = not_so (sym other)

  binary_spine : (line : ℕ) (op : BinaryOp) (left right : Expression) → IsForward g active left → IsForward g active right → ((free r : ℕ) (p q : Spot) → (related g (binary_expression line op left right)).to_reg active free r p q → p.pc < q.pc) →
      (free free1 : ℕ) (p q : Spot) → (related g (binary_expression line op left right)).spine active free free1 p q → p.pc < q.pc
  binary_spine line BinaryOp.Concat left right one two value free free1 p q at = omega (arith, one.value free free p at.mid at.first, two.spine (free + 1) free1 at.mid q at.rest)
  binary_spine line op left right one two value free free1 p q at = value free free p q at.value_at

  -- ---- values

  single_forward : (e : Expression) → ((free r : ℕ) (p q : Spot) → (related g e).to_reg active free r p q → p.pc < q.pc) →
      ((free free1 : ℕ) (p q : Spot) → (related g e).spine active free free1 p q → in_next g (related g e).to_reg active free free1 p q) →
      ((free : ℕ) (op : Op) (want : Want) (p q : Spot) → (related g e).multi active free op want p q → never g.law Same p q) → IsForward g active e
  single_forward e value spine multi = record {
    value = value;
    spine = λ free free1 p q at. value free free p q (spine free free1 p q at).value_at;
    multi = λ free op want p q at. no_multi p q (multi free op want p q at);
  }

  called_forward : (e : Expression) → ((free r : ℕ) (p q : Spot) → (related g e).to_reg active free r p q → MovedFrom g ((related g e).multi active free Op.Call (Some 1)) free r p q) →
      ((free free1 : ℕ) (p q : Spot) → (related g e).spine active free free1 p q → in_next g (related g e).to_reg active free free1 p q) →
      ((free : ℕ) (op : Op) (want : Want) (p q : Spot) → (related g e).multi active free op want p q → p.pc < q.pc) → IsForward g active e
  called_forward e moved spine multi =
      let value = λ (free r : ℕ) (p q : Spot) (at : (related g e).to_reg active free r p q). moved_forward free r p q (λ p q at. multi free Op.Call (Some 1) p q at) (moved free r p q at) in
      record { value = value; spine = λ free free1 p q at. value free free p q (spine free free1 p q at).value_at; multi = multi }

  pub as_list : (is_open : Bool) (cs : List Rel) (free : ℕ) (p q : Spot) → OpenBy is_open g cs active free p q → ListBy is_open g Op.Call None cs active free p q
  as_list true cs free p q at = at
  as_list false cs free p q at = at

  mutual
    pub value_forward : (e : Expression) → HasCore e → IsForward g active e
    value_forward (nil_literal line) has = single_forward (nil_literal line) (λ free r p q at. omega (arith, at.next)) (λ free free1 p q at. at) (λ free op want p q at. at)
    value_forward (true_literal line) has = single_forward (true_literal line) (λ free r p q at. omega (arith, at.next)) (λ free free1 p q at. at) (λ free op want p q at. at)
    value_forward (false_literal line) has = single_forward (false_literal line) (λ free r p q at. omega (arith, at.next)) (λ free free1 p q at. at) (λ free op want p q at. at)
    value_forward (vararg_expression line) has = record {
      value = λ free r p q at. omega (arith, at.next);
      spine = λ free free1 p q at. let word = at.value_at in omega (arith, word.next);
      multi = λ free op want p q at. omega (arith, at.word.next);
    }
    value_forward (number_literal line n) has = single_forward (number_literal line n) (λ free r p q at. omega (arith, at.word.next)) (λ free free1 p q at. at) (λ free op want p q at. at)
    value_forward (text_literal line text) has = single_forward (text_literal line text) (λ free r p q at. omega (arith, at.word.next)) (λ free free1 p q at. at) (λ free op want p q at. at)
    value_forward (name_expression line text) has =
        single_forward (name_expression line text) (λ free r p q at. let words = at.1 in omega (arith, words.first_at.pc, name_later g text (meaning active p) r words.mid q words.second_at)) (λ free free1 p q at. at) (λ free op want p q at. at)
    value_forward (function_expression line body) has = single_forward (function_expression line body) (λ free r p q at. closure_later p q at) (λ free free1 p q at. at) (λ free op want p q at. at)
    value_forward (index_expression line on key) has =
        let one = value_forward on has.0 in
        let two = value_forward key has.1 in
        single_forward (index_expression line on key)
        (λ free r p q at.
        let word = at.words_at in
        omega (arith, operand_forward on one free at.x at.free1 p at.mid at.left_at, rk_forward key two at.free1 at.y at.free2 at.mid at.last at.right_at, word.next))
        (λ free free1 p q at. at) (λ free op want p q at. at)
    value_forward (field_expression line on text) has =
        let one = value_forward on has in
        single_forward (field_expression line on text)
        (λ free r p q at.
        let word = at.words_at in
        omega (arith, operand_forward on one free at.x at.free1 p at.mid at.left_at, text_forward g text at.free1 at.y at.free2 at.mid at.last at.right_at, word.next))
        (λ free free1 p q at. at) (λ free op want p q at. at)
    value_forward (call_expression line on args on_line) has =
        called_forward (call_expression line on args on_line) (λ free r p q at. at) (λ free free1 p q at. at) (λ free op want p q at. call_forward on (value_forward on has.0) args (given_forward args has.1) free op want p q at)
    value_forward (method_call line on name args on_line) has =
        called_forward (method_call line on name args on_line) (λ free r p q at. at) (λ free free1 p q at. at) (λ free op want p q at. method_forward on (value_forward on has.1) args (given_forward args has.2) free op want p q name at)
    value_forward (binary_expression line op left right) has =
        let one = value_forward left has.1 in
        let two = value_forward right has.2 in
        let value = λ (free r : ℕ) (p q : Spot) (at : (related g (binary_expression line op left right)).to_reg active free r p q).
        loaded_forward (fold (binary_expression line op left right)) (BinaryAt g op (related g left) (related g right)) free r p q (λ at. operator_forward left right one two free r p q op has.0 at) at in
        record { value = value; spine = binary_spine line op left right one two value; multi = λ free op want p q at. no_multi p q at }
    value_forward (unary_expression line op e) has =
        let one = value_forward e has in
        single_forward (unary_expression line op e)
        (λ free r p q at.
        loaded_forward (fold (unary_expression line op e)) (UnaryAt g op (related g e)) free r p q (λ at. let word = at.words_at in omega (arith, operand_forward e one free at.x at.free1 p at.mid at.operand_at, word.next)) at)
        (λ free free1 p q at. at) (λ free op want p q at. at)
    value_forward (constructor line fields) has =
        single_forward (constructor line fields) (λ free r p q at. moved_forward free r p q (λ p q at. omega (arith, at.word.next, items_forward fields has free 0 0 at.mid q at.items_at)) at) (λ free free1 p q at. at) (λ free op want p q at. at)
    value_forward (parenthesized line e) has = single_forward (parenthesized line e) (value_forward e has).value (λ free free1 p q at. at) (λ free op want p q at. at)
    value_forward e has = absurd has

    given_forward : (args : Arguments) → HaveCores args → (free : ℕ) (p q : Spot) → (given_rel g args).part active free p q → p.pc ≤ q.pc
    given_forward (argument_list es) has free p q at = let is_open = rels_open (all_related g es) in list_forward es has is_open Op.Call None free p q (as_list is_open (all_related g es) free p q at)
    given_forward (text_argument text) has free p q at = let w = at.value_at in omega (arith, w.word.next)
    given_forward (table_argument fields) has free p q at = omega (arith, at.word.next, items_forward fields has free 0 0 at.mid q at.items_at)

    items_forward : (fields : Fields) → HaveItems fields → (t done pending : ℕ) (p q : Spot) → ItemsAt g fields active t done pending p q → p.pc ≤ q.pc
    items_forward no_fields has t done pending p q at = list_if_forward g (nat_lt 0 pending) t pending done p q at
    items_forward (positional e separator rest) has t done pending p q at =
        item_forward e t done pending (ItemsAt g rest active t (suc done) (pending_after (suc pending))) (value_forward e has.0) (items_forward rest has.1 t (suc done) (pending_after (suc pending))) _ p q at
    items_forward (named text e separator rest) has t done pending p q at =
        let on = keyed_forward e (RkTextAt g text) (value_forward e has.0) (text_forward g text) t pending p at.mid at.first_at in
        omega (arith, on, items_forward rest has.1 t done pending at.mid q at.second_at)
    items_forward (keyed key e separator rest) has t done pending p q at =
        let on = keyed_forward e (RkAt g active (related g key)) (value_forward e has.1) (rk_forward key (value_forward key has.0)) t pending p at.mid at.first_at in
        omega (arith, on, items_forward rest has.2 t done pending at.mid q at.second_at)

    -- of a list, each value in a register of its own or the last one for several
    pub list_forward : (es : Expressions) → AllHaveCores es → (is_open : Bool) (op : Op) (want : Want) (free : ℕ) (p q : Spot) → ListBy is_open g op want (all_related g es) active free p q → p.pc ≤ q.pc
    list_forward no_expressions has true op want free p q at = omega (arith, at.pc)
    list_forward no_expressions has false op want free p q at = omega (arith, at.pc)
    list_forward (syntax.expression e no_expressions) has true op want free p q at = omega (arith, (value_forward e has.0).multi free op want p q at)
    list_forward (syntax.expression e no_expressions) has false op want free p q at = omega (arith, (value_forward e has.0).value free free p at.mid at.first, at.others.pc)
    list_forward (syntax.expression e (syntax.expression d es)) has true op want free p q at =
        omega (arith, (value_forward e has.0).value free free p at.mid at.first, list_forward (syntax.expression d es) has.1 true op want (free + 1) at.mid q at.others)
    list_forward (syntax.expression e (syntax.expression d es)) has false op want free p q at =
        omega (arith, (value_forward e has.0).value free free p at.mid at.first, list_forward (syntax.expression d es) has.1 false op want (free + 1) at.mid q at.others)

  -- a list that is not empty has a word or more
  pub list_later : (e : Expression) (es : Expressions) → AllHaveCores (syntax.expression e es) → (is_open : Bool) (op : Op) (want : Want) (free : ℕ) (p q : Spot) →
      ListBy is_open g op want (all_related g (syntax.expression e es)) active free p q → p.pc < q.pc
  list_later e no_expressions has true op want free p q at = omega (arith, (value_forward e has.0).multi free op want p q at)
  list_later e no_expressions has false op want free p q at = omega (arith, (value_forward e has.0).value free free p at.mid at.first, at.others.pc)
  list_later e (syntax.expression d es) has true op want free p q at =
      omega (arith, (value_forward e has.0).value free free p at.mid at.first, list_forward (syntax.expression d es) has.1 true op want (free + 1) at.mid q at.others)
  list_later e (syntax.expression d es) has false op want free p q at =
      omega (arith, (value_forward e has.0).value free free p at.mid at.first, list_forward (syntax.expression d es) has.1 false op want (free + 1) at.mid q at.others)

  -- ---- lists that are adjusted

  filled_later : (e : Expression) (es : Expressions) → AllHaveCores (syntax.expression e es) → (is_open : Bool) (missing free : ℕ) (p q : Spot) → FilledAt is_open g (all_related g (syntax.expression e es)) missing active free p q → p.pc < q.pc
  filled_later e es has true missing free p q at = list_later e es has true Op.Call (Some (missing + 1)) free p q at
  filled_later e es has false missing free p q at = let nils = at.second_at in omega (arith, list_forward (syntax.expression e es) has false Op.Call None free p at.mid at.first_at, nils.word.next)

  adjusted_later : (e : Expression) (es : Expressions) → AllHaveCores (syntax.expression e es) → (fewer : Bool) (n free : ℕ) (p q : Spot) → AdjustBy fewer g (all_related g (syntax.expression e es)) n active free p q → p.pc < q.pc
  adjusted_later e es has true n free p q at = filled_later e es has (rels_open (all_related g (syntax.expression e es))) (n - length (all_related g (syntax.expression e es))) free p q at
  adjusted_later e es has false n free p q at = list_later e es has false Op.Call None free p q at

  nils_later : (fewer : Bool) (n free : ℕ) (p q : Spot) → nat_lt 0 n ≡ fewer → 0 < n → AdjustBy fewer g [] n active free p q → p.pc < q.pc
  nils_later true n free p q is some at = let nils = at.second_at in omega (arith, at.first_at.pc, nils.word.next)
  nils_later false n free p q is some at = absurd cc (sym (lt-ltb 0 n some) ∙ is)

  -- so many registers take a word or more
  pub adjust_later : (es : Expressions) → AllHaveCores es → (n free : ℕ) (p q : Spot) → 0 < n → AdjustAt g (all_related g es) n active free p q → p.pc < q.pc
  adjust_later no_expressions has n free p q some at = nils_later (nat_lt 0 n) n free p q refl some at
  adjust_later (syntax.expression e es) has n free p q some at = adjusted_later e es has (nat_lt (length (all_related g (syntax.expression e es))) n) n free p q at
