-- The first word of a value that goes to a register: it begins a value for a register that is free, or it is the only one, but for the further words of a closure.
use Rattle.std.proofs.Common.{◌≡◌, ℕ, ◌+◌, ◌≤◌, ◌⊎◌, true, false, List, [], length, Option, Some, None, refl, sym, ap, ◌∙◌, subst, arith, inl, inr}
use Rattle.std.specs.Prelude.{ℤ}
use Rattle.lua_num.specs.Bytes.{Text}
use Rattle.lua_tree.specs.Syntax.{FunctionBody, Expression, nil_literal, true_literal, false_literal, vararg_expression, number_literal, text_literal, name_expression, function_expression, index_expression, field_expression, call_expression, method_call, binary_expression, unary_expression, constructor, parenthesized}
use Rattle.lua_tree.specs.WellFormed.{depth_of_expression, is_call}
use Rattle.lua_tree.specs.declared.tree.BinaryOp.{BinaryOp}
use Rattle.lua_tree.specs.declared.tree.UnaryOp.{UnaryOp}
use Rattle.opcode.specs.declared.op.Op.{Op}
use Rattle.opcode.specs.declared.word.Instr.{Instr}
use Rattle.core_expr.specs.Values.{OperandValue}
use Rattle.recover_expr.specs.Effects.{makes_value}
use Rattle.recover_expr.specs.Items.{further_words}
use Rattle.recover_expr.specs.Locals.{or_zero}
use Rattle.recover_expr.specs.Situation.{Function, instr_at}
use Rattle.scheme.specs.Expressions.{fold, is_comparison, unary_word}
use Rattle.scheme.specs.Making.{Where, head_or, in_register, in_upvalue, in_globals}
use Rattle.scheme.specs.declared.making.Active.{Active}
use Rattle.scheme.specs.declared.making.Piece.{Piece}
use Rattle.scheme_stands.specs.Expressions.{ArithmeticAt, BinaryAt, LoadOr, NameBy, TwoAt, UnaryAt}
use Rattle.scheme_stands.specs.Functions.{ClosureAt}
use Rattle.scheme_stands.specs.Lists.{MovedFrom, TableAt}
use Rattle.scheme_stands.specs.Relation.{FunctionOf, ItemsAt, related}
use Rattle.scheme_stands.specs.Words.{Fn, IsRead, Spot, Stretch, WordAt, instr_by, meaning}
use Rattle.reads_back.specs.Cores.{Counted, HasCore}
use Rattle.reads_back.proofs.ClosureReads.{are_further}
use Rattle.reads_back.proofs.Comes.{Begins, BeginsOrNone}
use Rattle.reads_back.proofs.HeldOperands.{ReadsHeld, operand_held, rk_held, text_held}
use Rattle.reads_back.proofs.NameReads.{AreListed}
use Rattle.reads_back.proofs.Tests.{not_so}
use Rattle.reads_back.proofs.ValueReads.{call_read, reads_all}
use Rattle.reads_back.proofs.WordsBegin.{instr_is, word_begins, begins_same}
use Rattle.reads_back.proofs.WordsRead.{IsFunction, abc_is_read, abx_is_read}

-- the only word between, but for its further words, makes a value for this register
pub record IsAlone (f : Function) (r first last : ℕ) : Type 0 where
  pub instr : Instr
  pub there : instr_at f first ≡ Some instr
  pub makes : makes_value instr.op ≡ true
  pub register : instr.a ≡ r
  pub next : last ≡ first + 1 + further_words f instr.op instr

-- the first word begins a value for a register from one on, or it is the only one
abbrev pub BeginsFor : Function → (free r first last : ℕ) → Type 0
BeginsFor f free r first last = Begins f free first ⊎ IsAlone f r first last

is_alone : {f : Function} {g : Fn} {w : Piece} {p q : Spot} (r : ℕ) → IsFunction f g → WordAt g w p q → IsRead p.pc w → makes_value (instr_by p.pc w).op ≡ true → (instr_by p.pc w).a ≡ r →
    further_words f (instr_by p.pc w).op (instr_by p.pc w) ≡ 0 → IsAlone f r p.pc q.pc
is_alone {w = w} {p} r is_function at read makes register none =
    record { instr = instr_by p.pc w; there = instr_is is_function at read; makes = makes; register = register; next = omega (arith, none, at.next) }

-- no words stand before it
behind_none : {f : Function} {free r first mid last : ℕ} → first ≡ mid → IsAlone f r mid last → BeginsFor f free r first last
behind_none {f} {free} {r} {last = last} same alone = inr (subst (λ (pc : ℕ). IsAlone f r pc last) (sym same) alone)

moved_first : {f : Function} {g : Fn} {part : Stretch} (free r : ℕ) (p q : Spot) → q.pc ≤ f.last → ((p q : Spot) → q.pc ≤ f.last → part p q → Begins f free p.pc) → MovedFrom g part free r p q → BeginsFor f free r p.pc q.pc
moved_first free r p q within begins (inl (same, at)) = inl (begins p q within at)
moved_first free r p q within begins (inr (other, at)) = inl (begins p at.mid (omega (arith, within, at.second_at.next)) at.first_at)

module _ {f : Function} {g : Fn} {active : List Active} {listed : List ℕ} (is_function : IsFunction f g) (all : AreListed f g active listed) where
  name_first : (text : Text) (w : Where) (r : ℕ) (p q : Spot) → NameBy g text w r p q → IsAlone f r p.pc q.pc
  name_first text (in_register x) r p q at = is_alone r is_function at (abc_is_read is_function at) refl refl refl
  name_first text (in_upvalue slot) r p q at = is_alone r is_function at (abc_is_read is_function at) refl refl refl
  name_first text in_globals r p q at = is_alone r is_function at.word (abx_is_read is_function at.word) refl refl refl

  closure_first : (body : FunctionBody) (free r : ℕ) (p q : Spot) → ClosureAt g (FunctionOf body false) active free r p q → IsAlone f r p.pc q.pc
  closure_first body free r p q at =
      let w = Piece.Abx Op.Closure r p.functions in
      let uses = head_or [] p.ahead.sources in
      let further : further_words f Op.Closure (instr_by p.pc w) ≡ length uses = ap or_zero (is_function.upvalues p.functions at.chunk at.is) ∙ at.upvalues in
      record {
        instr = instr_by p.pc w;
        there = instr_is is_function at.word (abx_is_read is_function at.word);
        makes = refl;
        register = refl;
        next = omega (arith, further, at.word.next, at.next, (are_further g active uses at.mid q at.further).pc);
      }

  -- two operands, and a word that makes a value of them
  both_first : {Left Right : Counted OperandValue} {left_at right_at : (free x free1 : ℕ) → Stretch} (code : Op) → makes_value code ≡ true → ((i : Instr) → further_words f code i ≡ 0) → ReadsHeld f g active listed Left left_at → ReadsHeld f g active listed Right right_at →
      (free r : ℕ) (p q : Spot) → q.pc ≤ f.last → TwoAt left_at right_at free (λ x y. WordAt g (Piece.Abc code r x y)) p q → BeginsFor f free r p.pc q.pc
  both_first code makes none left right free r p q within at =
      let word = at.words_at in
      let last : at.last.pc ≤ f.last = omega (arith, word.next, within) in
      let back = right.forward at.free1 at.y at.free2 at.mid at.last at.right_at in
      by_first (left.begins free at.x at.free1 p at.mid (omega (arith, back, last)) at.left_at) (right.begins at.free1 at.y at.free2 at.mid at.last last at.right_at)
    where
      by_first : BeginsOrNone f free at.free1 p.pc at.mid.pc → BeginsOrNone f at.free1 at.free2 at.mid.pc at.last.pc → BeginsFor f free r p.pc q.pc
      by_first (inr begins) second = inl begins
      by_first (inl (same, at_free)) (inr begins) = inl (begins_same (sym at_free) same begins)
      by_first (inl (same, at_free)) (inl (also, still)) =
          let word = at.words_at in
          behind_none (omega (arith, same, also)) (is_alone r is_function word (abc_is_read is_function word) makes refl (none (instr_by at.last.pc (Piece.Abc code r at.x at.y))))

  -- two operands that can be constants
  arithmetic_first : (code : Op) → makes_value code ≡ true → ((i : Instr) → further_words f code i ≡ 0) → (left right : Expression) → HasCore left → HasCore right → depth_of_expression left ≤ 199 → depth_of_expression right ≤ 199 →
      (free r : ℕ) (p q : Spot) → q.pc ≤ f.last → ArithmeticAt g code (related g left) (related g right) active free r p q → BeginsFor f free r p.pc q.pc
  arithmetic_first code makes none left right has_left has_right low high free r p q within at =
      let operand = λ (e : Expression) (has : HasCore e) (few : depth_of_expression e ≤ 199). rk_held is_function all e (reads_all is_function all e has (omega (arith, few))).one in
      both_first code makes none (operand left has_left low) (operand right has_right high) free r p q within at

  module _ (left right : Expression) (has_left : HasCore left) (has_right : HasCore right) (low : depth_of_expression left ≤ 199) (high : depth_of_expression right ≤ 199) (free r : ℕ) (p q : Spot) (within : q.pc ≤ f.last) where
    operator_first : (op : BinaryOp) → is_comparison op ≡ false → BinaryAt g op (related g left) (related g right) active free r p q → BeginsFor f free r p.pc q.pc
    operator_first BinaryOp.Add other at = arithmetic_first Op.Add refl (λ i. refl) left right has_left has_right low high free r p q within at
    operator_first BinaryOp.Sub other at = arithmetic_first Op.Sub refl (λ i. refl) left right has_left has_right low high free r p q within at
    operator_first BinaryOp.Mul other at = arithmetic_first Op.Mul refl (λ i. refl) left right has_left has_right low high free r p q within at
    operator_first BinaryOp.Div other at = arithmetic_first Op.Div refl (λ i. refl) left right has_left has_right low high free r p q within at
    operator_first BinaryOp.Rem other at = arithmetic_first Op.Mod refl (λ i. refl) left right has_left has_right low high free r p q within at
    operator_first BinaryOp.Pow other at = arithmetic_first Op.Pow refl (λ i. refl) left right has_left has_right low high free r p q within at
    operator_first BinaryOp.Concat other at =
        let operands = at.operands in
        let rest = (reads_all is_function all right has_right (omega (arith, high))).spine.forward (free + 1) at.free1 operands.mid at.last operands.rest in
        inl ((reads_all is_function all left has_left (omega (arith, low))).one.begins free p operands.mid (omega (arith, rest, at.word.next, within)) operands.first)
    operator_first op other at = not_so (sym other)

  unary_first : (op : UnaryOp) (e : Expression) → HasCore e → depth_of_expression e ≤ 199 → (free r : ℕ) (p q : Spot) → q.pc ≤ f.last → UnaryAt g op (related g e) active free r p q → BeginsFor f free r p.pc q.pc
  unary_first op e has few free r p q within at =
      let word = at.words_at in
      by_operand op word ((operand_held is_function all e (reads_all is_function all e has (omega (arith, few))).one).begins free at.x at.free1 p at.mid (omega (arith, within, word.next)) at.operand_at)
    where
      by_operand : (op : UnaryOp) → WordAt g (Piece.Abc (unary_word op) r at.x 0) at.mid q → BeginsOrNone f free at.free1 p.pc at.mid.pc → BeginsFor f free r p.pc q.pc
      by_operand op word (inr begins) = inl begins
      by_operand UnaryOp.Neg word (inl (same, none)) = behind_none same (is_alone r is_function word (abc_is_read is_function word) refl refl refl)
      by_operand UnaryOp.Not word (inl (same, none)) = behind_none same (is_alone r is_function word (abc_is_read is_function word) refl refl refl)
      by_operand UnaryOp.Len word (inl (same, none)) = behind_none same (is_alone r is_function word (abc_is_read is_function word) refl refl refl)

  -- a folded number is loaded
  loaded_first : (folded : Option ℤ) (to : List Active → (free r : ℕ) → Stretch) (free r : ℕ) (p q : Spot) → (to active free r p q → BeginsFor f free r p.pc q.pc) → LoadOr folded g to active free r p q → BeginsFor f free r p.pc q.pc
  loaded_first (Some n) to free r p q first at = inr (is_alone r is_function at.word (abx_is_read is_function at.word) refl refl refl)
  loaded_first None to free r p q first at = first at

  call_first : (e : Expression) → is_call e ≡ true → HasCore e → depth_of_expression e ≤ 200 → (free r : ℕ) (p q : Spot) → q.pc ≤ f.last → MovedFrom g ((related g e).multi active free Op.Call (Some 1)) free r p q → BeginsFor f free r p.pc q.pc
  call_first e call has few free r p q within at = moved_first free r p q within (λ p q within at. (call_read is_function all e call has few).1.begins free Op.Call (Some 1) p q within at) at

  pub value_first : (e : Expression) → HasCore e → depth_of_expression e ≤ 200 → (free r : ℕ) (p q : Spot) → q.pc ≤ f.last → (related g e).to_reg active free r p q → BeginsFor f free r p.pc q.pc
  value_first (nil_literal line) has few free r p q within at = inr (is_alone r is_function at (abc_is_read is_function at) refl refl refl)
  value_first (true_literal line) has few free r p q within at = inr (is_alone r is_function at (abc_is_read is_function at) refl refl refl)
  value_first (false_literal line) has few free r p q within at = inr (is_alone r is_function at (abc_is_read is_function at) refl refl refl)
  value_first (vararg_expression line) has few free r p q within at = inr (is_alone r is_function at (abc_is_read is_function at) refl refl refl)
  value_first (number_literal line n) has few free r p q within at = inr (is_alone r is_function at.word (abx_is_read is_function at.word) refl refl refl)
  value_first (text_literal line text) has few free r p q within at = inr (is_alone r is_function at.word (abx_is_read is_function at.word) refl refl refl)
  value_first (name_expression line text) has few free r p q within at = let words = at.1 in behind_none (sym words.first_at.pc) (name_first text (meaning active p) r words.mid q words.second_at)
  value_first (function_expression line body) has few free r p q within at = inr (closure_first body free r p q at)
  value_first (index_expression line on key) has few free r p q within at =
      let table = operand_held is_function all on (reads_all is_function all on has.0 (omega (arith, few))).one in
      both_first Op.GetTable refl (λ i. refl) table (rk_held is_function all key (reads_all is_function all key has.1 (omega (arith, few))).one) free r p q within at
  value_first (field_expression line on text) has few free r p q within at =
      both_first Op.GetTable refl (λ i. refl) (operand_held is_function all on (reads_all is_function all on has (omega (arith, few))).one) (text_held is_function text) free r p q within at
  value_first (call_expression line on args on_line) has few free r p q within at = call_first (call_expression line on args on_line) refl has few free r p q within at
  value_first (method_call line on name args on_line) has few free r p q within at = call_first (method_call line on name args on_line) refl has few free r p q within at
  value_first (binary_expression line op left right) has few free r p q within at =
      loaded_first (fold (binary_expression line op left right)) (BinaryAt g op (related g left) (related g right)) free r p q
      (λ at. operator_first left right has.1 has.2 (omega (arith, few)) (omega (arith, few)) free r p q within op has.0 at) at
  value_first (unary_expression line op e) has few free r p q within at =
      loaded_first (fold (unary_expression line op e)) (UnaryAt g op (related g e)) free r p q (λ at. unary_first op e has (omega (arith, few)) free r p q within at) at
  value_first (constructor line fields) has few free r p q within at =
      let part : Stretch = TableAt g (λ t. ItemsAt g fields active t 0 0) free in
      moved_first {part = part} free r p q within (λ p q within at. word_begins free is_function at.word (abc_is_read is_function at.word) refl (omega arith)) at
  value_first (parenthesized line e) has few free r p q within at = value_first e has (omega (arith, few)) free r p q within at
  value_first e has few free r p q within at = absurd has
