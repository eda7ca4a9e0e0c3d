-- The word of an operator takes its operands off, and makes their value: where its operands are read, so is it.
use Rattle.std.proofs.Common.{◌≡◌, ℕ, suc, ◌*◌, ◌+◌, ◌-◌, ◌<◌, ◌≤◌, max, nat_le, ◌||◌, true, false, Bool, List, Option, Some, None, refl, sym, ap, ◌∙◌, subst, arith, inl, inr, le-leb, lt-ltb}
use Rattle.std.proofs.lemmas.Bool.Decides.{nat_tests}
use Rattle.std.proofs.Math.Nat.{max-le, max-zero}
use Rattle.std.specs.Prelude.{option_and_then, option_map, if◌then◌else◌}
use Rattle.lua_num.specs.Bytes.{Text}
use Rattle.lua_tree.specs.declared.tree.BinaryOp.{BinaryOp}
use Rattle.lua_tree.specs.declared.tree.UnaryOp.{UnaryOp}
use Rattle.opcode.specs.declared.op.Op.{Op}
use Rattle.proto.specs.declared.parts.Constant.{Constant}
use Rattle.core_expr.specs.Counting.{one_more, taken_behind, taken_behind_operand, taken_behind_operands}
use Rattle.core_expr.specs.Making.{and_last, depth_of, depth_of_operand, made_binary, made_index, made_over, made_unary}
use Rattle.core_expr.specs.Values.{Value, index_value, binary_value, unary_value, OperandValue, constant_operand, value_operand, OperandList, no_operands, and_operand}
use Rattle.recover_expr.specs.Drafts.{makes}
use Rattle.recover_expr.specs.Effects.{is_from, makes_value, reads_from}
use Rattle.recover_expr.specs.Reading.{read_word}
use Rattle.recover_expr.specs.Situation.{Function, Situation, constant_in, pop, pop_operand, see, see_operand}
use Rattle.recover_expr.specs.Words.{arithmetic, arithmetic_right, get_table, get_table_key, made_by, unary}
use Rattle.recover_expr.specs.declared.function.Word.{Word}
use Rattle.scheme.specs.Expressions.{is_comparison, unary_word}
use Rattle.scheme.specs.declared.making.Piece.{Piece}
use Rattle.scheme.specs.declared.making.Active.{Active}
use Rattle.scheme_stands.specs.Expressions.{ArithmeticAt, OneAt, OperandAt, OperandBy, Rel, RkAt, RkBy, RkTextAt, TwoAt, local_at}
use Rattle.scheme_stands.specs.Words.{Fn, Spot, Stretch, WordAt, instr_by}
use Rattle.reads_back.specs.Cores.{IsArithmetic, IsIndexed, IsUnary, IsValueOperand, Counted, arithmetic_by, valued, unary_by, indexed_by}
use Rattle.reads_back.proofs.Comes.{Begins, IsOperandWanted, IsWanted, Made, OperandComes, Reads, ReadsOperand, BeginsOrNone}
use Rattle.reads_back.proofs.BehindWords.{SameLocals, behind_words, quiet_same, same_then, locals_then}
use Rattle.reads_back.proofs.BothOperands.{behind_operand, both_reach, both_taken, constants_taken, counted, first_popped, next_behind, second_popped, seen_with, seen_with_both, with_seen, as_operand, with_constant, first_is_read, second_is_read}
use Rattle.reads_back.proofs.Reaches.{Reaches, reaches_on}
use Rattle.reads_back.proofs.ValueWords.{next_free}
use Rattle.reads_back.proofs.WordsBegin.{begins_wants, word_begins, word_wants, begins_same}
use Rattle.reads_back.proofs.WordsRead.{IsFunction, IsQuiet, abc_is_read, quiet_before, quiet_from, turn_there, word_of, word_there}
use Rattle.reads_back.proofs.Deeper.{made_so}

-- ---- operands that are values

abbrev value_in : (OperandValue × Situation) → Option (Value × Situation)
value_in (value_operand v, t) = Some (v, t)
value_in (constant_operand k, t) = None

-- no constant is taken for it
value_by : (is_constant : Bool) (number : Option ℕ) (taken : Option (Value × Situation)) (v : Value) (t behind : Situation) →
    (if is_constant then option_map (with_constant t) number else option_map as_operand taken) ≡ Some (value_operand v, behind) → (is_constant ≡ false) × (taken ≡ Some (v, behind))
value_by true None taken v t behind is = absurd cc
value_by true (Some number) taken v t behind is = let never = ap (option_and_then value_in) is in absurd cc
value_by false number None v t behind is = absurd cc
value_by false number (Some taken) v t behind is = (refl, ap (option_and_then value_in) is)

value_popped : (f : Function) (x : ℕ) (t behind : Situation) (operand : OperandValue) (v : Value) → operand ≡ value_operand v → pop_operand f x t ≡ Some (operand, behind) → (nat_le 256 x ≡ false) × (pop f x t ≡ Some (v, behind))
value_popped f x t behind operand v is popped = value_by (nat_le 256 x) (constant_in f (x - 256)) (pop f x t) v t behind (popped ∙ ap (λ (operand : OperandValue). Some (operand, behind)) is)

-- ---- registers of operands

-- an operand takes the next free register, one of those that the function has, or none
pub record TakesNext (g : Fn) (at : (free x free1 : ℕ) → Stretch) : Type 0 where
  pub few : (free x free1 : ℕ) (p q : Spot) → at free x free1 p q → free1 ≡ free + 1 → free < g.size

module _ (g : Fn) (active : List Active) (c : Rel) where
  operand_few : (o : Option ℕ) (free x free1 : ℕ) (p q : Spot) → OperandBy o g active c free x free1 p q → free1 ≡ free + 1 → free < g.size
  operand_few (Some r) free x free1 p q at next = omega (arith, at.at_free, next)
  operand_few None free x free1 p q at next = at.room

  operand_takes : TakesNext g (OperandAt g active c)
  operand_takes = record {
    few = λ free x free1 p q at next. operand_few (local_at c.form active p) free x free1 p q at next;
  }

  rk_few : (o : Option Constant) (free x free1 : ℕ) (p q : Spot) → RkBy o g active c free x free1 p q → free1 ≡ free + 1 → free < g.size
  rk_few (Some k) free x free1 p q (inl at) next = omega (arith, at.at_free, next)
  rk_few (Some k) free x free1 p q (inr (large, at)) next = operand_takes.few free x free1 p q at next
  rk_few None free x free1 p q at next = operand_takes.few free x free1 p q at next

  pub rk_takes : TakesNext g (RkAt g active c)
  rk_takes = record { few = rk_few c.form.literal }

text_few : (g : Fn) (text : Text) (free x free1 : ℕ) (p q : Spot) → RkTextAt g text free x free1 p q → free1 ≡ free + 1 → free < g.size
text_few g text free x free1 p q (inl at) next = omega (arith, at.at_free, next)
text_few g text free x free1 p q (inr (large, at)) next = at.room

pub text_takes : (g : Fn) (text : Text) → TakesNext g (RkTextAt g text)
text_takes g text = record { few = text_few g text }

-- ---- the word that makes the value

word_made : {f : Function} {g : Fn} {Is : Value → Type 0} {deep first : ℕ} {op : Op} {a b c : ℕ} {s : Situation} {v : Value} {p q : Spot} (before : Situation) → IsFunction f g → IsQuiet f s.scope first q.pc → SameLocals s.scope before.scope →
    Reaches f first s p.pc before → WordAt g (Piece.Abc op a b c) p q → Is v → depth_of v ≤ 2 * deep →
    read_word f (word_of p.pc (Piece.Abc op a b c)) (see (instr_by p.pc (Piece.Abc op a b c)) before) ≡ Some (makes v (suc p.pc), record s { scope = before.scope; seen = taken_behind v s.seen }) → Made f Is deep s a first q.pc
word_made {f} {op = op} {a = a} {b = b} {c = c} {s = s} {v = v} {p = p} {q = q} before is_function quiet same reaches at is shallow does =
    let later : p.pc < q.pc = omega (arith, at.next) in
    record {
      value = v;
      is = is;
      shallow = shallow;
      scope = before.scope;
      same = same;
      seen = taken_behind v s.seen;
      taken = refl;
      before = before;
      word = word_of p.pc (Piece.Abc op a b c);
      reaches = reaches;
      turn = turn_there p.pc before (quiet_same same quiet) (reaches_on reaches) later (word_there is_function at (abc_is_read is_function at) (omega (arith, quiet.within)));
      later = later;
      register = refl;
      makes = does ∙ ap (λ (next : ℕ). Some (makes v next, record s { scope = before.scope; seen = taken_behind v s.seen })) (sym at.next);
    }

-- the word behind two operands makes a value of them
record MakesOfBoth (f : Function) (g : Fn) (Left Right : Counted OperandValue) (Is : Counted Value) (deep : ℕ) (code : Op) : Type 0 where
  made : {before between free x free1 y free2 first mid r : ℕ} {s : Situation} {p q : Spot} → free ≡ next_free s → IsQuiet f s.scope first q.pc → (one : OperandComes f (Left before between) deep s free x free1 first mid) →
      OperandComes f (Right between p.functions) deep (behind_operand one) free1 y free2 mid p.pc → WordAt g (Piece.Abc code r x y) p q → Made f (Is before q.functions) (suc deep) s r first q.pc

-- such a word makes a value, and reads the registers of both operands
record ReadsBoth (code : Op) : Type 0 where
  makes : makes_value code ≡ true
  first : (pc r x y base : ℕ) → base ≤ x → x < 256 → reads_from (instr_by pc (Piece.Abc code r x y)) base ≡ true
  second : (pc r x y base : ℕ) → base ≤ y → y < 256 → reads_from (instr_by pc (Piece.Abc code r x y)) base ≡ true

module _ {f : Function} {g : Fn} {active : List Active} {listed : List ℕ} {Left Right : Counted OperandValue} {deep : ℕ} {left_at right_at : (free x free1 : ℕ) → Stretch} (is_function : IsFunction f g)
    (left_takes : TakesNext g left_at) (right_takes : TakesNext g right_at) (left : ReadsOperand f g active listed Left deep left_at) (right : ReadsOperand f g active listed Right deep right_at) {code : Op} (reads : ReadsBoth code) where
  abbrev BothAt : (free r : ℕ) → Stretch
  BothAt free r = TwoAt left_at right_at free (λ x y. WordAt g (Piece.Abc code r x y))

  both_forward : (free r : ℕ) (p q : Spot) → BothAt free r p q → p.pc ≤ q.pc
  both_forward free r p q at = omega (arith, left.forward free at.x at.free1 p at.mid at.left_at, right.forward at.free1 at.y at.free2 at.mid at.last at.right_at, at.words_at.next)

  -- the first word is one of the first operand that has words, or that of the operator
  both_begin : (free : ℕ) (p q : Spot) → q.pc ≤ f.last → BothAt free free p q → Begins f free p.pc
  both_begin free p q within at =
      let last : at.last.pc ≤ f.last = omega (arith, at.words_at.next, within) in
      let back = right.forward at.free1 at.y at.free2 at.mid at.last at.right_at in
      by_first at (left.begins free at.x at.free1 p at.mid (omega (arith, back, last)) at.left_at) (right.begins at.free1 at.y at.free2 at.mid at.last last at.right_at)
    where
      by_first : (at : BothAt free free p q) → BeginsOrNone f free at.free1 p.pc at.mid.pc → BeginsOrNone f at.free1 at.free2 at.mid.pc at.last.pc → Begins f free p.pc
      by_first at (inr first) second = first
      by_first at (inl none) (inr second) = begins_same (sym none.1) none.0 second
      by_first at (inl none) (inl also) = begins_same refl (none.0 ∙ also.0) (word_begins free is_function at.words_at (abc_is_read is_function at.words_at) reads.makes refl)

  -- the first operand is wanted by the first word of the second one, or by that of the operator
  first_wanted : (free r : ℕ) (p q : Spot) (s : Situation) → free ≡ next_free s → IsQuiet f s.scope p.pc q.pc → (at : BothAt free r p q) → IsOperandWanted f s free at.x at.free1 at.mid.pc
  first_wanted free r p q s is quiet at at_x at_free = by_second (right.begins at.free1 at.y at.free2 at.mid at.last (omega (arith, at.words_at.next, quiet.within)) at.right_at)
    where
      on : p.pc ≤ at.mid.pc
      on = left.forward free at.x at.free1 p at.mid at.left_at

      back : at.mid.pc ≤ at.last.pc
      back = right.forward at.free1 at.y at.free2 at.mid at.last at.right_at

      by_second : BeginsOrNone f at.free1 at.free2 at.mid.pc at.last.pc → IsWanted f s at.mid.pc
      by_second (inr second) = begins_wants s (quiet.stays at.mid.pc on (omega (arith, back, at.words_at.next))) second (λ none. omega (arith, is, at_free, none))
      by_second (inl (same, none)) =
          let few : at.x < 256 = omega (arith, left_takes.few free at.x at.free1 p at.mid at.left_at at_free, is_function.few, at_x) in
          let first = reads.first at.last.pc r at.x at.y s.base (omega (arith, is, at_x)) few in
          subst (λ (pc : ℕ). IsWanted f s pc) (sym same) (word_wants s (quiet.stays at.last.pc (omega (arith, on, back)) (omega (arith, at.words_at.next))) is_function at.words_at (abc_is_read is_function at.words_at) first)

  second_wanted : (free r : ℕ) (p q : Spot) (t : Situation) → IsQuiet f t.scope p.pc q.pc → (at : BothAt free r p q) → at.free1 ≡ next_free t → IsOperandWanted f t at.free1 at.y at.free2 at.last.pc
  second_wanted free r p q t quiet at is at_y at_free =
      let few : at.y < 256 = omega (arith, right_takes.few at.free1 at.y at.free2 at.mid at.last at.right_at at_free, is_function.few, at_y) in
      let on = left.forward free at.x at.free1 p at.mid at.left_at in
      let back = right.forward at.free1 at.y at.free2 at.mid at.last at.right_at in
      word_wants t (quiet.stays at.last.pc (omega (arith, on, back)) (omega (arith, at.words_at.next))) is_function at.words_at (abc_is_read is_function at.words_at) (reads.second at.last.pc r at.x at.y t.base (omega (arith, is, at_y)) few)

  both_read : {Is : Counted Value} → MakesOfBoth f g Left Right Is deep code → Reads f g active listed Is (suc deep) BothAt
  both_read by = record {
    forward = both_forward;
    begins = both_begin;
    arrives = λ free r p q s locals is goal quiet wanted at.
        let on = left.forward free at.x at.free1 p at.mid at.left_at in
        let back = right.forward at.free1 at.y at.free2 at.mid at.last at.right_at in
        let before = quiet_before at.last.pc (omega (arith, at.words_at.next)) quiet in
        let one = left.comes free at.x at.free1 p at.mid s locals is (quiet_before at.mid.pc back before) (first_wanted free r p q s is quiet at) at.left_at in
        let next = next_behind one is in
        let two = right.comes at.free1 at.y at.free2 at.mid at.last (behind_operand one) (locals_then one.same locals) next (quiet_same one.same (quiet_from at.mid.pc on before)) (second_wanted free r p q (behind_operand one) (quiet_same one.same quiet) at next) at.right_at in
        inl (by.made is quiet one two at.words_at);
  }

over_made : (depth : ℕ) (make : ℕ → Value) → depth < 400 → made_over depth make ≡ Some (make (suc depth))
over_made depth make few = ap (λ few. if few then Some (make (suc depth)) else None) (lt-ltb depth 400 few)

-- ---- arithmetic

-- so a word is read that is of arithmetic
record IsArithmeticWord (op : BinaryOp) (code : Op) : Type 0 where
  makes : makes_value code ≡ true
  wants : (pc r x y base : ℕ) → reads_from (instr_by pc (Piece.Abc code r x y)) base ≡ (is_from x base || is_from y base)
  plain : is_comparison op ≡ false
  sees : (pc r x y : ℕ) (t : Situation) → see (instr_by pc (Piece.Abc code r x y)) t ≡ see_operand y (see_operand x t)
  reads : (f : Function) (pc r x y : ℕ) (t : Situation) → read_word f (word_of pc (Piece.Abc code r x y)) t ≡ arithmetic f (word_of pc (Piece.Abc code r x y)) op t

-- it is one deeper than its operands
abbrev binary_of : BinaryOp → (left right : OperandValue) → Value
binary_of op left right = binary_value op left right (suc (max (depth_of_operand left) (depth_of_operand right)))

binary_made : (op : BinaryOp) (left right : OperandValue) → max (depth_of_operand left) (depth_of_operand right) < 400 → made_binary op left right ≡ Some (binary_of op left right)
binary_made op left right few = over_made (max (depth_of_operand left) (depth_of_operand right)) (λ d. binary_value op left right d) few

arithmetic_made : (f : Function) (w : Word) (op : BinaryOp) (t mid behind : Situation) (left right : OperandValue) → pop_operand f w.instr.c t ≡ Some (right, mid) → pop_operand f w.instr.b mid ≡ Some (left, behind) →
    max (depth_of_operand left) (depth_of_operand right) < 400 → arithmetic f w op t ≡ Some (makes (binary_of op left right) w.next, behind)
arithmetic_made f w op t mid behind left right popped_right popped_left few =
    ap (option_and_then (arithmetic_right f w op)) popped_right
    ∙ ap (option_and_then (λ (left : OperandValue × Situation). made_by w left.1 (made_binary op left.0 right))) popped_left
    ∙ ap (made_by w behind) (binary_made op left right few)

arithmetic_does : {f : Function} {Left Right : OperandValue → Type 0} {deep free x free1 y free2 first mid last : ℕ} {s : Situation} {op : BinaryOp} {code : Op} → IsArithmeticWord op code →
    (pc r : ℕ) (one : OperandComes f Left deep s free x free1 first mid) (two : OperandComes f Right deep (behind_operand one) free1 y free2 mid last) →
    free ≡ next_free s → max (depth_of_operand one.operand) (depth_of_operand two.operand) < 400 →
    read_word f (word_of pc (Piece.Abc code r x y)) (see (instr_by pc (Piece.Abc code r x y)) (behind_operand two))
    ≡ Some (makes (binary_of op one.operand two.operand) (suc pc), record s { scope = two.scope; seen = taken_behind_operand two.operand (taken_behind_operand one.operand s.seen) })
arithmetic_does {f} {x = x} {y = y} {s = s} {op = op} {code = code} as_word pc r one two is few =
    let w = word_of pc (Piece.Abc code r x y) in
    let n = max (max two.seen (counted x)) (counted y) in
    ap (read_word f w) (as_word.sees pc r x y (behind_operand two) ∙ seen_with_both x y (behind_operand two))
    ∙ as_word.reads f pc r x y (with_seen n (behind_operand two))
    ∙ arithmetic_made f w op (with_seen n (behind_operand two)) (with_seen n (behind_words two.scope one.seen one.more s)) (record s { scope = two.scope; seen = n }) one.operand two.operand (second_popped one two n is) (first_popped one two n is) few
    ∙ ap (λ (n : ℕ). Some (makes (binary_of op one.operand two.operand) (suc pc), record s { scope = two.scope; seen = n })) (both_taken one two)

arithmetic_comes : {f : Function} {g : Fn} {Left Right : OperandValue → Type 0} {deep free x free1 y free2 first mid r : ℕ} {s : Situation} {op : BinaryOp} {code : Op} {p q : Spot} →
    IsArithmeticWord op code → IsFunction f g → deep < 200 → free ≡ next_free s → IsQuiet f s.scope first q.pc → (one : OperandComes f Left deep s free x free1 first mid) (two : OperandComes f Right deep (behind_operand one) free1 y free2 mid p.pc) →
    WordAt g (Piece.Abc code r x y) p q → Made f (IsArithmetic op Left Right) (suc deep) s r first q.pc
arithmetic_comes {r = r} {op = op} {p = p} as_word is_function few is quiet one two at =
    let shallow = max-le one.shallow two.shallow in
    let fits : max (depth_of_operand one.operand) (depth_of_operand two.operand) < 400 = omega (arith, shallow, few) in
    word_made (behind_operand two) is_function quiet (same_then one.same two.same) (both_reach one two) at
    (as_word.plain, one.operand, two.operand, one.is, two.is, binary_made op one.operand two.operand fits) (omega (arith, shallow)) (arithmetic_does as_word p.pc r one two is fits)

arithmetic_both : {op : BinaryOp} {code : Op} → IsArithmeticWord op code → ReadsBoth code
arithmetic_both as_word = record {
  makes = as_word.makes;
  first = λ pc r x y base above small. as_word.wants pc r x y base ∙ first_is_read base x y above small;
  second = λ pc r x y base above small. as_word.wants pc r x y base ∙ second_is_read base x y above small;
}

module _ {f : Function} {g : Fn} {active : List Active} {listed : List ℕ} {Left Right : Counted OperandValue} {deep : ℕ} (left_part right_part : Rel) where
  arithmetic_reads : (op : BinaryOp) (code : Op) → IsArithmeticWord op code → IsFunction f g → deep < 200 → ReadsOperand f g active listed Left deep (RkAt g active left_part) → ReadsOperand f g active listed Right deep (RkAt g active right_part) →
      Reads f g active listed (arithmetic_by op Left Right) (suc deep) (ArithmeticAt g code left_part right_part active)
  arithmetic_reads op code as_word is_function few left right =
      both_read is_function (rk_takes g active left_part) (rk_takes g active right_part) left right (arithmetic_both as_word) (record {
        made = λ {before} {between} is quiet one two at.
            made_so (omega arith) (λ v made. (between, subst (λ (behind : ℕ). IsArithmetic op (Left before between) (Right between behind) v) (sym at.functions) made)) (arithmetic_comes as_word is_function few is quiet one two at);
      })

  pub add_reads : IsFunction f g → deep < 200 → ReadsOperand f g active listed Left deep (RkAt g active left_part) → ReadsOperand f g active listed Right deep (RkAt g active right_part) →
      Reads f g active listed (arithmetic_by BinaryOp.Add Left Right) (suc deep) (ArithmeticAt g Op.Add left_part right_part active)
  add_reads = arithmetic_reads BinaryOp.Add Op.Add (record { makes = refl; wants = λ pc r x y base. refl; plain = refl; sees = λ pc r x y t. refl; reads = λ f pc r x y t. refl })

  pub sub_reads : IsFunction f g → deep < 200 → ReadsOperand f g active listed Left deep (RkAt g active left_part) → ReadsOperand f g active listed Right deep (RkAt g active right_part) →
      Reads f g active listed (arithmetic_by BinaryOp.Sub Left Right) (suc deep) (ArithmeticAt g Op.Sub left_part right_part active)
  sub_reads = arithmetic_reads BinaryOp.Sub Op.Sub (record { makes = refl; wants = λ pc r x y base. refl; plain = refl; sees = λ pc r x y t. refl; reads = λ f pc r x y t. refl })

  pub mul_reads : IsFunction f g → deep < 200 → ReadsOperand f g active listed Left deep (RkAt g active left_part) → ReadsOperand f g active listed Right deep (RkAt g active right_part) →
      Reads f g active listed (arithmetic_by BinaryOp.Mul Left Right) (suc deep) (ArithmeticAt g Op.Mul left_part right_part active)
  mul_reads = arithmetic_reads BinaryOp.Mul Op.Mul (record { makes = refl; wants = λ pc r x y base. refl; plain = refl; sees = λ pc r x y t. refl; reads = λ f pc r x y t. refl })

  pub div_reads : IsFunction f g → deep < 200 → ReadsOperand f g active listed Left deep (RkAt g active left_part) → ReadsOperand f g active listed Right deep (RkAt g active right_part) →
      Reads f g active listed (arithmetic_by BinaryOp.Div Left Right) (suc deep) (ArithmeticAt g Op.Div left_part right_part active)
  div_reads = arithmetic_reads BinaryOp.Div Op.Div (record { makes = refl; wants = λ pc r x y base. refl; plain = refl; sees = λ pc r x y t. refl; reads = λ f pc r x y t. refl })

  pub rem_reads : IsFunction f g → deep < 200 → ReadsOperand f g active listed Left deep (RkAt g active left_part) → ReadsOperand f g active listed Right deep (RkAt g active right_part) →
      Reads f g active listed (arithmetic_by BinaryOp.Rem Left Right) (suc deep) (ArithmeticAt g Op.Mod left_part right_part active)
  rem_reads = arithmetic_reads BinaryOp.Rem Op.Mod (record { makes = refl; wants = λ pc r x y base. refl; plain = refl; sees = λ pc r x y t. refl; reads = λ f pc r x y t. refl })

  pub pow_reads : IsFunction f g → deep < 200 → ReadsOperand f g active listed Left deep (RkAt g active left_part) → ReadsOperand f g active listed Right deep (RkAt g active right_part) →
      Reads f g active listed (arithmetic_by BinaryOp.Pow Left Right) (suc deep) (ArithmeticAt g Op.Pow left_part right_part active)
  pow_reads = arithmetic_reads BinaryOp.Pow Op.Pow (record { makes = refl; wants = λ pc r x y base. refl; plain = refl; sees = λ pc r x y t. refl; reads = λ f pc r x y t. refl })

-- ---- operands that stand in a register

-- the value in the operand, for which its words have taken all constants
record ComesAlone (f : Function) (Is : Value → Type 0) (deep : ℕ) (s : Situation) (x seen : ℕ) (operand : OperandValue) : Type 0 where
  value : Value
  is : Is value
  shallow : depth_of value ≤ 2 * deep
  taken : taken_behind value s.seen ≡ seen
  popped : (t behind : Situation) → pop_operand f x t ≡ Some (operand, behind) → pop f x t ≡ Some (value, behind)

no_constant : (x n : ℕ) → nat_le 256 x ≡ false → max n (counted x) ≡ n
no_constant x n is = ap (λ (is_constant : Bool). max n (if is_constant then one_more (x - 256) else 0)) is ∙ max-zero n

operand_alone : {f : Function} {Is : Value → Type 0} {deep free x free1 first last : ℕ} {s : Situation} → free ≡ next_free s → (one : OperandComes f (IsValueOperand Is) deep s free x free1 first last) → ComesAlone f Is deep s x one.seen one.operand
operand_alone {f} {deep = deep} {x = x} {s = s} is one =
    let v = one.is.0 in
    let same : one.operand ≡ value_operand v = one.is.2 in
    let there = one.popped (behind_operand one) s.entries refl one.same.active refl (sym is) in
    let plain = value_popped f x (behind_operand one) (record s { scope = one.scope; seen = one.seen }) one.operand v same there in
    record {
      value = v;
      is = one.is.1;
      shallow = subst (λ (operand : OperandValue). depth_of_operand operand ≤ 2 * deep) same one.shallow;
      taken = sym (ap (λ (operand : OperandValue). taken_behind_operand operand s.seen) same) ∙ sym (constants_taken one) ∙ no_constant x one.seen plain.0;
      popped = λ t behind popped. (value_popped f x t behind one.operand v same popped).1;
    }

-- ---- operators of one operand

unary_there : (f : Function) (op : UnaryOp) (pc r x : ℕ) (t : Situation) → read_word f (word_of pc (Piece.Abc (unary_word op) r x 0)) (see (instr_by pc (Piece.Abc (unary_word op) r x 0)) t) ≡ unary f (word_of pc (Piece.Abc (unary_word op) r x 0)) op t
unary_there f UnaryOp.Neg pc r x t = refl
unary_there f UnaryOp.Not pc r x t = refl
unary_there f UnaryOp.Len pc r x t = refl

unary_made : (f : Function) (w : Word) (op : UnaryOp) (t behind : Situation) (of : Value) → pop f w.instr.b t ≡ Some (of, behind) → depth_of of < 400 → unary f w op t ≡ Some (makes (unary_value op of (suc (depth_of of))) w.next, behind)
unary_made f w op t behind of popped few = ap (option_and_then (λ (of : Value × Situation). made_by w of.1 (made_unary op of.0))) popped ∙ ap (made_by w behind) (over_made (depth_of of) (λ d. unary_value op of d) few)

unary_comes : {f : Function} {g : Fn} {Of : Value → Type 0} {deep free x free1 first r : ℕ} {s : Situation} {p q : Spot} (op : UnaryOp) → IsFunction f g → deep < 200 → free ≡ next_free s → IsQuiet f s.scope first q.pc →
    OperandComes f (IsValueOperand Of) deep s free x free1 first p.pc → WordAt g (Piece.Abc (unary_word op) r x 0) p q → Made f (IsUnary op Of) (suc deep) s r first q.pc
unary_comes {f} {x = x} {r = r} {s = s} {p = p} op is_function few is quiet one at =
    let alone = operand_alone is one in
    let fits : depth_of alone.value < 400 = omega (arith, alone.shallow, few) in
    let there = alone.popped (behind_operand one) (record s { scope = one.scope; seen = one.seen }) (one.popped (behind_operand one) s.entries refl one.same.active refl (sym is)) in
    let v = unary_value op alone.value (suc (depth_of alone.value)) in
    word_made (behind_operand one) is_function quiet one.same one.reaches at (alone.value, alone.is, over_made (depth_of alone.value) (λ d. unary_value op alone.value d) fits) (omega (arith, alone.shallow))
    (unary_there f op p.pc r x (behind_operand one)
    ∙ unary_made f (word_of p.pc (Piece.Abc (unary_word op) r x 0)) op (behind_operand one) (record s { scope = one.scope; seen = one.seen }) alone.value there fits
    ∙ ap (λ (n : ℕ). Some (makes v (suc p.pc), record s { scope = one.scope; seen = n })) (sym alone.taken))

unary_makes : (op : UnaryOp) → makes_value (unary_word op) ≡ true
unary_makes UnaryOp.Neg = refl
unary_makes UnaryOp.Not = refl
unary_makes UnaryOp.Len = refl

unary_word_reads : (op : UnaryOp) (pc r x base : ℕ) → base ≤ x → reads_from (instr_by pc (Piece.Abc (unary_word op) r x 0)) base ≡ true
unary_word_reads UnaryOp.Neg pc r x base above = le-leb base x above
unary_word_reads UnaryOp.Not pc r x base above = le-leb base x above
unary_word_reads UnaryOp.Len pc r x base above = le-leb base x above

unary_begins : {f : Function} {g : Fn} {x : ℕ} (op : UnaryOp) (free free1 : ℕ) (p mid q : Spot) → IsFunction f g → WordAt g (Piece.Abc (unary_word op) free x 0) mid q → BeginsOrNone f free free1 p.pc mid.pc → Begins f free p.pc
unary_begins op free free1 p mid q is_function at (inl none) = begins_same refl none.0 (word_begins free is_function at (abc_is_read is_function at) (unary_makes op) refl)
unary_begins op free free1 p mid q is_function at (inr begins) = begins

pub unary_reads : {f : Function} {g : Fn} {active : List Active} {listed : List ℕ} {Of : Counted Value} {deep : ℕ} {of_at : (free x free1 : ℕ) → Stretch} (op : UnaryOp) → IsFunction f g → deep < 200 →
    ReadsOperand f g active listed (valued Of) deep of_at → Reads f g active listed (unary_by op Of) (suc deep) (λ free r. OneAt of_at free (λ x. WordAt g (Piece.Abc (unary_word op) r x 0)))
unary_reads {Of = Of} op is_function few of = record {
  forward = λ free r p q at. omega (arith, of.forward free at.x at.free1 p at.mid at.operand_at, at.words_at.next);
  begins = λ free p q within at.
      unary_begins op free at.free1 p at.mid q is_function at.words_at (of.begins free at.x at.free1 p at.mid (omega (arith, at.words_at.next, within)) at.operand_at);
  arrives = λ free r p q s locals is goal quiet wanted at.
      let before = quiet_before at.mid.pc (omega (arith, at.words_at.next)) quiet in
      let on = of.forward free at.x at.free1 p at.mid at.operand_at in
      let reads = word_wants s (quiet.stays at.mid.pc on (omega (arith, at.words_at.next))) is_function at.words_at (abc_is_read is_function at.words_at) in
      inl (made_so (omega arith) (λ v made. subst (λ (behind : ℕ). IsUnary op (Of p.functions behind) v) (sym at.words_at.functions) made) (unary_comes op is_function few is quiet (of.comes free at.x at.free1 p at.mid s locals is before (λ at_x at_free. reads (unary_word_reads op at.mid.pc r at.x s.base (omega (arith, is, at_x)))) at.operand_at) at.words_at));
}

-- ---- indexing

pub last_taken : (keys : OperandList) (key : OperandValue) (n : ℕ) → taken_behind_operands (and_last keys key) n ≡ taken_behind_operand key (taken_behind_operands keys n)
last_taken no_operands key n = refl
last_taken (and_operand first keys) key n = last_taken keys key (taken_behind_operand first n)

-- what indexes a value takes the constants of that first, and then those of the key
record Indexes (on : Value) (key : OperandValue) (deep : ℕ) : Type 0 where
  value : Value
  made : made_index on key ≡ Some value
  shallow : depth_of value ≤ 2 * suc deep
  taken : (n : ℕ) → taken_behind value n ≡ taken_behind_operand key (taken_behind on n)

-- a chain of keys has one more, and another value has its first
plainly_indexed : (on : Value) (key : OperandValue) (deep : ℕ) → depth_of on ≤ 2 * deep → depth_of_operand key ≤ 2 * deep → deep < 200 →
    made_index on key ≡ made_over (max (depth_of on) (depth_of_operand key)) (λ d. index_value on (and_operand key no_operands) d) → Indexes on key deep
plainly_indexed on key deep first second few plain =
    let deepest : max (depth_of on) (depth_of_operand key) ≤ 2 * deep = max-le first second in
    record {
      value = index_value on (and_operand key no_operands) (suc (max (depth_of on) (depth_of_operand key)));
      made = plain ∙ over_made (max (depth_of on) (depth_of_operand key)) (λ d. index_value on (and_operand key no_operands) d) (omega (arith, deepest, few));
      shallow = omega (arith, deepest);
      taken = λ n. refl;
    }

indexed : (on : Value) (key : OperandValue) (deep : ℕ) → depth_of on ≤ 2 * deep → depth_of_operand key ≤ 2 * deep → deep < 200 → Indexes on key deep
indexed (index_value on keys depth) key deep first second few = record {
  value = index_value on (and_last keys key) (max depth (suc (depth_of_operand key)));
  made = over_made (depth_of_operand key) (λ d. index_value on (and_last keys key) (max depth d)) (omega (arith, second, few));
  shallow = omega (arith, first, second);
  taken = λ n. last_taken keys key (taken_behind on n);
}
indexed on key deep first second few = plainly_indexed on key deep first second few refl

table_made : (f : Function) (w : Word) (t mid behind : Situation) (on v : Value) (key : OperandValue) → pop_operand f w.instr.c t ≡ Some (key, mid) → pop f w.instr.b mid ≡ Some (on, behind) → made_index on key ≡ Some v →
    get_table f w t ≡ Some (makes v w.next, behind)
table_made f w t mid behind on v key popped_key popped_on made =
    ap (option_and_then (get_table_key f w)) popped_key
    ∙ ap (option_and_then (λ (on : Value × Situation). made_by w on.1 (made_index on.0 key))) popped_on
    ∙ ap (made_by w behind) made

-- the word takes the constant of its key
table_does : {f : Function} {On : Value → Type 0} {Key : OperandValue → Type 0} {deep free x free1 y free2 first mid last : ℕ} {s : Situation} (pc r : ℕ) (one : OperandComes f (IsValueOperand On) deep s free x free1 first mid)
    (two : OperandComes f Key deep (behind_operand one) free1 y free2 mid last) (alone : ComesAlone f On deep s x one.seen one.operand) (of : Indexes alone.value two.operand deep) → free ≡ next_free s →
    read_word f (word_of pc (Piece.Abc Op.GetTable r x y)) (see (instr_by pc (Piece.Abc Op.GetTable r x y)) (behind_operand two)) ≡ Some (makes of.value (suc pc), record s { scope = two.scope; seen = taken_behind of.value s.seen })
table_does {f} {x = x} {y = y} {s = s} pc r one two alone of is =
    let w = word_of pc (Piece.Abc Op.GetTable r x y) in
    let n = max two.seen (counted y) in
    let mid = with_seen n (behind_words two.scope one.seen one.more s) in
    let behind = record s { scope = two.scope; seen = n } in
    ap (get_table f w) (seen_with y (behind_operand two))
    ∙ table_made f w (with_seen n (behind_operand two)) mid behind alone.value of.value two.operand (second_popped one two n is) (alone.popped mid behind (first_popped one two n is)) of.made
    ∙ ap (λ (n : ℕ). Some (makes of.value (suc pc), record s { scope = two.scope; seen = n })) (constants_taken two ∙ sym (ap (taken_behind_operand two.operand) alone.taken) ∙ sym (of.taken s.seen))

table_comes : {f : Function} {g : Fn} {On : Value → Type 0} {Key : OperandValue → Type 0} {deep free x free1 y free2 first mid r : ℕ} {s : Situation} {p q : Spot} → IsFunction f g → deep < 200 → free ≡ next_free s → IsQuiet f s.scope first q.pc →
    (one : OperandComes f (IsValueOperand On) deep s free x free1 first mid) (two : OperandComes f Key deep (behind_operand one) free1 y free2 mid p.pc) → WordAt g (Piece.Abc Op.GetTable r x y) p q → Made f (IsIndexed On Key) (suc deep) s r first q.pc
table_comes {deep = deep} {r = r} {p = p} is_function few is quiet one two at =
    let alone = operand_alone is one in
    let of = indexed alone.value two.operand deep alone.shallow two.shallow few in
    word_made (behind_operand two) is_function quiet (same_then one.same two.same) (both_reach one two) at (alone.value, two.operand, alone.is, two.is, of.made) of.shallow (table_does p.pc r one two alone of is)

key_is_read : (base x y : ℕ) → base ≤ y → y < 256 → (nat_le base x || is_from y base) ≡ true
key_is_read base x y above small = grind (arith, nat_tests)

pub on_is_read : (base x y : ℕ) → base ≤ x → (nat_le base x || is_from y base) ≡ true
on_is_read base x y above = grind (arith, nat_tests)

pub indexed_reads : {f : Function} {g : Fn} {active : List Active} {listed : List ℕ} {On : Counted Value} {Key : Counted OperandValue} {deep : ℕ} {key_at : (free x free1 : ℕ) → Stretch} (on_part : Rel) → TakesNext g key_at → IsFunction f g → deep < 200 →
    ReadsOperand f g active listed (valued On) deep (OperandAt g active on_part) → ReadsOperand f g active listed Key deep key_at →
    Reads f g active listed (indexed_by On Key) (suc deep) (λ free r. TwoAt (OperandAt g active on_part) key_at free (λ t k. WordAt g (Piece.Abc Op.GetTable r t k)))
indexed_reads {g = g} {active = active} {On = On} {Key = Key} on_part takes is_function few on key =
    let reads : ReadsBoth Op.GetTable = record { makes = refl; first = λ pc r x y base above small. on_is_read base x y above; second = λ pc r x y base above small. key_is_read base x y above small } in
    both_read is_function (operand_takes g active on_part) takes on key reads (record {
      made = λ {before} {between} is quiet one two at.
          made_so (omega arith) (λ v made. (between, subst (λ (behind : ℕ). IsIndexed (On before between) (Key between behind) v) (sym at.functions) made)) (table_comes is_function few is quiet one two at);
    })
