-- How the words of a value begin: with a word for the register where it goes, or for the free one; what is read is below that.
use Rattle.std.proofs.Common.{◌≡◌, ◌<◌, ◌≤◌, ◌⊎◌, inl, inr, ℕ, suc, ◌+◌, Bool, true, false, ◌||◌, nat_le, List, [], length, Option, Some, None, refl, sym, ap, ◌∙◌, arith, subst}
use Rattle.std.specs.Prelude.{ℤ}
use Rattle.lua_num.specs.Bytes.{Text}
use Rattle.lua_tree.specs.Syntax as syntax
use Rattle.lua_tree.specs.Syntax.{Arguments, argument_list, text_argument, table_argument, Expression, Expressions, no_expressions, Fields, no_fields, positional, named, keyed, FunctionBody, nil_literal, true_literal, false_literal, vararg_expression, number_literal, text_literal, name_expression, function_expression, index_expression, field_expression, call_expression, method_call, binary_expression, unary_expression, constructor, parenthesized}
use Rattle.lua_tree.specs.declared.tree.BinaryOp.{BinaryOp}
use Rattle.lua_tree.specs.declared.tree.UnaryOp.{UnaryOp}
use Rattle.opcode.specs.declared.op.Op.{Op}
use Rattle.opcode.specs.declared.word.Instr.{Instr}
use Rattle.proto.specs.declared.parts.Constant.{Constant}
use Rattle.recover_expr.specs.Effects.{is_from, makes_value, reads_as}
use Rattle.recover_expr.specs.Items.{further_words}
use Rattle.recover_expr.specs.Locals.{or_zero}
use Rattle.recover_expr.specs.Situation.{Function, instr_at}
use Rattle.scheme.specs.Expressions.{Want, count_field, fold, is_comparison, unary_word}
use Rattle.scheme.specs.Making.{Where, head_or, in_globals, in_register, in_upvalue}
use Rattle.scheme.specs.declared.making.Active.{Active}
use Rattle.scheme.specs.declared.making.Piece.{Piece}
use Rattle.scheme_stands.specs.Expressions.{BinaryAt, LoadOr, NameAt, NameBy, NextAt, OperandAt, OperandBy, RkAt, Rel, RkBy, RkTextAt, SmallAt, TwoAt, UnaryAt, local_at, in_next}
use Rattle.scheme_stands.specs.Functions.{ClosureAt}
use Rattle.scheme_stands.specs.Lists.{AllMultiAt, AllNextAt, CallAt, ItemBy, KeyedAt, MethodAt, MovedFrom, OpenBy, TableAt, rels_open}
use Rattle.scheme_stands.specs.Relation.{FunctionOf, ItemsAt, all_related, given_rel, related}
use Rattle.scheme_stands.specs.Words.{ConstantWord, Fn, Law, Same, Spot, Stretch, WordAt, instr_by, meaning, never}
use Rattle.reads_back.specs.Cores.{AllHaveCores, HasCore, HaveCores, HaveItems}
use Rattle.reads_back.proofs.ClosureReads.{are_further}
use Rattle.reads_back.proofs.Comes.{IsCallWord}
use Rattle.reads_back.proofs.LowWords.{Alone, alone_reads, Begun, FarName, First, IsLow, Lasting, NoneOrBegun, ReadsBelow, Row, alone_then, begun_reads, below_lasts, below_later, first_later, first_reads, first_then, low_lasts, no_words, operands_low, part_low, one_word, row_names, row_then, row_up, row_word, value_of_word, word_alone, word_below, words}
use Rattle.reads_back.proofs.NameReads.{AreListed, IsListed, local_operand}
use Rattle.reads_back.proofs.Tests.{nor, not_below, not_so}
use Rattle.reads_back.proofs.WordsBegin.{instr_is}
use Rattle.reads_back.proofs.WordsRead.{IsFunction, abc_is_read, abx_is_read}

-- all values of `...`, so many as are wanted, come to the registers from the free one on
pub record IsRest (f : Function) (want : Want) (free first last : ℕ) : Type 0 where
  pub there : instr_at f first ≡ Some (instr_by first (Piece.Abc Op.Vararg free (count_field 1 want) 0))
  pub next : last ≡ suc first

abbrev pub FirstOrRest : Function → Want → (low free first last : ℕ) → Type 0
FirstOrRest f want low free first last = IsRest f want free first last ⊎ Begun f low free first

pub rest_alone : {f : Function} {want : Want} {free first last : ℕ} (low : ℕ) → IsRest f want free first last → Alone f low free first last
rest_alone {want = want} {free} {first} low rest = record { instr = instr_by first (Piece.Abc Op.Vararg free (count_field 1 want) 0); there = rest.there; reads = refl; makes = refl; register = refl; next = omega (arith, rest.next) }

pub rest_first : {f : Function} {want : Want} {low free first last : ℕ} → FirstOrRest f want low free first last → First f low free free first last
rest_first {low = low} (inl rest) = inl (rest_alone low rest)
rest_first (inr begun) = inr begun

-- the words of values begin, where there are any
abbrev pub OfList : Expressions → Function → (low free first last : ℕ) → Type 0
OfList no_expressions f low free first last = first ≡ last
OfList (syntax.expression e es) f low free first last = First f low free free first last

-- no words, or words that read no register from one on
abbrev pub NoneOrBelow : Function → (low first last : ℕ) → Type 0
NoneOrBelow f low first last = (first ≡ last) ⊎ ReadsBelow f low first

list_below : {f : Function} {low first last : ℕ} (free : ℕ) (es : Expressions) → OfList es f low free first last → NoneOrBelow f low first last
list_below free no_expressions same = inl same
list_below free (syntax.expression e es) first = inr (first_reads first)

-- words behind them that read no more
below_then : {f : Function} (low more first : ℕ) {last : ℕ} → low ≤ more → NoneOrBelow f low first last → ReadsBelow f more last → ReadsBelow f more first
below_then {f} low more first less (inl same) behind = subst (ReadsBelow f more) (sym same) behind
below_then low more first less (inr reads) behind = below_later low more less reads

-- the values of a list, where the last one gives several or one
abbrev pub ListBy : (is_open : Bool) → Fn → Op → Want → List Rel → List Active → (free : ℕ) → Stretch
ListBy true g op want cs = AllMultiAt g op want cs
ListBy false g op want cs = AllNextAt g cs

-- how the words of a value begin, those of an operand of a `..` and those of several values
pub record LowValue (f : Function) (g : Fn) (active : List Active) (e : Expression) : Type 0 where
  pub value : (free r : ℕ) (p q : Spot) → length active ≤ free → (related g e).to_reg active free r p q → First f (length active) free r p.pc q.pc
  pub spine : (free free1 : ℕ) (p q : Spot) → length active ≤ free → (related g e).spine active free free1 p q → ReadsBelow f (length active) p.pc
  pub multi : (free : ℕ) (op : Op) (want : Want) (p q : Spot) → length active ≤ free → IsCallWord op → (related g e).multi active free op want p q → FirstOrRest f want (length active) free p.pc q.pc

module _ {f : Function} {g : Fn} {active : List Active} {listed : List ℕ} (is_function : IsFunction f g) (all : AreListed f g active listed) where
  abbrev count : ℕ
  count = length active

  -- ---- operands

  next_row : {value : Stretch} (low free x free1 : ℕ) (p q : Spot) → (value p q → First f low free free p.pc q.pc) → NextAt g value free x free1 p q → Row f (λ n. x < n) low free free1 p.pc q.pc
  next_row low free x free1 p q value at = by (value at.value_at)
    where
      by : First f low free free p.pc q.pc → Row f (λ n. x < n) low free free1 p.pc q.pc
      by (inl one) = one_word one (omega (arith, at.at_free)) (omega (arith, at.at_x))
      by (inr begun) = words (omega (arith, at.at_free)) begun

  constant_row : (k : Constant) (low free x free1 : ℕ) (p q : Spot) → SmallAt g k free x free1 p q → Row f (λ n. IsLow n x) low free free1 p.pc q.pc
  constant_row k low free x free1 p q at = no_words (sym at.same.pc) at.at_free (inr (omega (arith, at.at_x)))

  pub constant_alone : {k : Constant} {op : Op} {r : ℕ} {p q : Spot} (low : ℕ) → makes_value op ≡ true → ((i : Instr) → reads_as op i low ≡ false) → ((i : Instr) → further_words f op i ≡ 0) → ConstantWord g op r k p q → Alone f low r p.pc q.pc
  constant_alone {op = op} {r} {p} low makes reads further at =
      let i = instr_by p.pc (Piece.Abx op r at.number) in word_alone low r is_function at.word (abx_is_read is_function at.word) (reads i) makes refl (further i)

  pub text_row : (text : Text) (low free x free1 : ℕ) (p q : Spot) → RkTextAt g text free x free1 p q → Row f (λ n. IsLow n x) low free free1 p.pc q.pc
  text_row text low free x free1 p q (inl at) = constant_row (Constant.Text text) low free x free1 p q at
  text_row text low free x free1 p q (inr (large, at)) = row_names (λ n below. inl below) (next_row low free x free1 p q (λ at. inl (constant_alone low refl (λ i. refl) (λ i. refl) at)) at)

  module _ (e : Expression) (has : LowValue f g active e) (low free x free1 : ℕ) (p q : Spot) (least : count ≤ low) (less : low ≤ free) where
    operand_by : (o : Option ℕ) → local_at (related g e).form active p ≡ o → OperandBy o g active (related g e) free x free1 p q → Row f (λ n. x < n) low free free1 p.pc q.pc
    operand_by (Some r) is at =
        let local = local_operand is_function all e r p q is at.passed in
        no_words (sym local.same) at.at_free (omega (arith, at.at_x, local.below, least))
    operand_by None is at = next_row low free x free1 p q (λ at. first_later count low least (has.value free free p q (omega (arith, least, less)) at)) at

    pub operand_row : OperandAt g active (related g e) free x free1 p q → Row f (λ n. x < n) low free free1 p.pc q.pc
    operand_row at = operand_by (local_at (related g e).form active p) refl at

    rk_by : (o : Option Constant) → RkBy o g active (related g e) free x free1 p q → Row f (λ n. IsLow n x) low free free1 p.pc q.pc
    rk_by (Some k) (inl at) = constant_row k low free x free1 p q at
    rk_by (Some k) (inr (large, at)) = row_names (λ n below. inl below) (operand_row at)
    rk_by None at = row_names (λ n below. inl below) (operand_row at)

    pub rk_row : RkAt g active (related g e) free x free1 p q → Row f (λ n. IsLow n x) low free free1 p.pc q.pc
    rk_row at = rk_by (related g e).form.literal at

  -- ---- values of one word

  name_alone : (text : Text) (w : Where) (r : ℕ) (p q : Spot) → ((x : ℕ) → w ≡ in_register x → x < count) → NameBy g text w r p q → Alone f count r p.pc q.pc
  name_alone text (in_register x) r p q below at = word_alone count r is_function at (abc_is_read is_function at) (not_below x count (below x refl)) refl refl refl
  name_alone text (in_upvalue slot) r p q below at = word_alone count r is_function at (abc_is_read is_function at) refl refl refl refl
  name_alone text in_globals r p q below at = constant_alone count refl (λ i. refl) (λ i. refl) at

  pub closure_alone : (body : FunctionBody) (within : List Active) (free r : ℕ) (p q : Spot) → ClosureAt g (FunctionOf body false) within free r p q → Alone f count r p.pc q.pc
  closure_alone body within free r p q at =
      let w = Piece.Abx Op.Closure r p.functions in
      let uses = head_or [] p.ahead.sources in
      let further : further_words f Op.Closure (instr_by p.pc w) ≡ length uses = ap or_zero (is_function.upvalues p.functions at.chunk at.is) ∙ at.upvalues in
      record {
        instr = instr_by p.pc w;
        there = instr_is is_function at.word (abx_is_read is_function at.word);
        reads = refl;
        makes = refl;
        register = refl;
        next = omega (arith, further, at.word.next, at.next, (are_further g within uses at.mid q at.further).pc);
      }

  -- ---- operators

  -- two operands, and a word that makes a value of them
  module _ {P Q : ℕ → Type 0} (lasting_p : Lasting P) (lasting_q : Lasting Q) (free r x y free1 free2 : ℕ) (p mid last q : Spot) (code : Op) (least : count ≤ free) (makes : makes_value code ≡ true) (none : (i : Instr) → further_words f code i ≡ 0)
      (reads : (n : ℕ) → P n → Q n → reads_as code (instr_by last.pc (Piece.Abc code r x y)) n ≡ false) where
    pub both_first : Row f P count free free1 p.pc mid.pc → Row f Q count free1 free2 mid.pc last.pc → WordAt g (Piece.Abc code r x y) last q → First f count free r p.pc q.pc
    both_first left right word =
        let read = abc_is_read is_function word in
        value_of_word (row_word (row_then lasting_p lasting_q least left right) least (λ n more names. word_below n is_function word read (reads n names.0 names.1)))
        (λ known. word_alone count r is_function word read (reads count known.1.0 known.1.1) makes refl (none (instr_by last.pc (Piece.Abc code r x y))))

  module _ (left right : Expression) (has_left : LowValue f g active left) (has_right : LowValue f g active right) (free r : ℕ) (p q : Spot) (least : count ≤ free) where
    arithmetic_first : (code : Op) → makes_value code ≡ true → ((i : Instr) → further_words f code i ≡ 0) → ((n : ℕ) (i : Instr) → reads_as code i n ≡ (is_from i.b n || is_from i.c n)) →
        TwoAt (RkAt g active (related g left)) (RkAt g active (related g right)) free (λ x y. WordAt g (Piece.Abc code r x y)) p q → First f count free r p.pc q.pc
    arithmetic_first code makes none reads at =
        let one = rk_row left has_left count free at.x at.free1 p at.mid (omega arith) least at.left_at in
        let more = row_up one in
        let two = rk_row right has_right count at.free1 at.y at.free2 at.mid at.last (omega arith) (omega (arith, least, more)) at.right_at in
        both_first (low_lasts at.x) (low_lasts at.y) free r at.x at.y at.free1 at.free2 p at.mid at.last q code least makes none
        (λ n first second. reads n (instr_by at.last.pc (Piece.Abc code r at.x at.y)) ∙ operands_low n at.x at.y first second) one two at.words_at

    operator_first : (op : BinaryOp) → is_comparison op ≡ false → BinaryAt g op (related g left) (related g right) active free r p q → First f count free r p.pc q.pc
    operator_first BinaryOp.Add other at = arithmetic_first Op.Add refl (λ i. refl) (λ n i. refl) at
    operator_first BinaryOp.Sub other at = arithmetic_first Op.Sub refl (λ i. refl) (λ n i. refl) at
    operator_first BinaryOp.Mul other at = arithmetic_first Op.Mul refl (λ i. refl) (λ n i. refl) at
    operator_first BinaryOp.Div other at = arithmetic_first Op.Div refl (λ i. refl) (λ n i. refl) at
    operator_first BinaryOp.Rem other at = arithmetic_first Op.Mod refl (λ i. refl) (λ n i. refl) at
    operator_first BinaryOp.Pow other at = arithmetic_first Op.Pow refl (λ i. refl) (λ n i. refl) at
    operator_first BinaryOp.Concat other at =
        let operands = at.operands in
        inr (first_then (has_left.value free free p operands.mid least operands.first) (below_later count (suc free) (omega (arith, least)) (has_right.spine (free + 1) at.free1 operands.mid at.last (omega (arith, least)) operands.rest)))
    operator_first op other at = not_so (sym other)

  unary_first : (op : UnaryOp) (e : Expression) → LowValue f g active e → (free r : ℕ) (p q : Spot) → count ≤ free → UnaryAt g op (related g e) active free r p q → First f count free r p.pc q.pc
  unary_first op e has free r p q least at = by op at.words_at
    where
      row : Row f (λ n. at.x < n) count free at.free1 p.pc at.mid.pc
      row = operand_row e has count free at.x at.free1 p at.mid (omega arith) least at.operand_at

      by_word : (code : Op) → makes_value code ≡ true → ((i : Instr) → further_words f code i ≡ 0) → ((n : ℕ) (i : Instr) → reads_as code i n ≡ nat_le n i.b) → WordAt g (Piece.Abc code r at.x 0) at.mid q → First f count free r p.pc q.pc
      by_word code makes none reads word =
          let read = abc_is_read is_function word in
          let i = instr_by at.mid.pc (Piece.Abc code r at.x 0) in
          let low = λ (n : ℕ) (below : at.x < n). reads n i ∙ not_below at.x n below in
          value_of_word (row_word row least (λ n more below. word_below n is_function word read (low n below))) (λ known. word_alone count r is_function word read (low count known.1) makes refl (none i))

      by : (op : UnaryOp) → WordAt g (Piece.Abc (unary_word op) r at.x 0) at.mid q → First f count free r p.pc q.pc
      by UnaryOp.Neg word = by_word Op.Unm refl (λ i. refl) (λ n i. refl) word
      by UnaryOp.Not word = by_word Op.Not refl (λ i. refl) (λ n i. refl) word
      by UnaryOp.Len word = by_word Op.Len refl (λ i. refl) (λ n i. refl) word

  -- a folded number is loaded
  loaded_first : (folded : Option ℤ) (to : List Active → (free r : ℕ) → Stretch) (free r : ℕ) (p q : Spot) → (to active free r p q → First f count free r p.pc q.pc) → LoadOr folded g to active free r p q → First f count free r p.pc q.pc
  loaded_first (Some n) to free r p q first at = inl (constant_alone count refl (λ i. refl) (λ i. refl) at)
  loaded_first None to free r p q first at = first at

  -- ---- a value that comes to the free register

  move_below : (free r : ℕ) (p q : Spot) → WordAt g (Piece.Abc Op.Move r free 0) p q → ReadsBelow f (suc free) p.pc
  move_below free r p q at = word_below (suc free) is_function at (abc_is_read is_function at) (not_below free (suc free) (omega arith))

  moved_first : {part : Stretch} (free r : ℕ) (p q : Spot) → ((q : Spot) → part p q → First f count free free p.pc q.pc) → MovedFrom g part free r p q → First f count free r p.pc q.pc
  moved_first free r p q first (inl (same, at)) = subst (λ r. First f count free r p.pc q.pc) same (first q at)
  moved_first free r p q first (inr (other, at)) = inr (first_then (first at.mid at.first_at) (move_below free r at.mid q at.second_at))

  -- ---- calls

  call_below : (op : Op) (free b c : ℕ) (p q : Spot) → IsCallWord op → WordAt g (Piece.Abc op free b c) p q → ReadsBelow f (suc free) p.pc
  call_below op free b c p q (inl call) at = by op call at
    where
      by : (op : Op) → op ≡ Op.Call → WordAt g (Piece.Abc op free b c) p q → ReadsBelow f (suc free) p.pc
      by Op.Call is at = word_below (suc free) is_function at (abc_is_read is_function at) (not_below free (suc free) (omega arith))
      by op is at = absurd cc
  call_below op free b c p q (inr call) at = by op call at
    where
      by : (op : Op) → op ≡ Op.TailCall → WordAt g (Piece.Abc op free b c) p q → ReadsBelow f (suc free) p.pc
      by Op.TailCall is at = word_below (suc free) is_function at (abc_is_read is_function at) (not_below free (suc free) (omega arith))
      by op is at = absurd cc

  module _ (on : Expression) (has : LowValue f g active on) (args : Arguments) (given : (free : ℕ) (p q : Spot) → count ≤ free → (given_rel g args).part active free p q → NoneOrBelow f count p.pc q.pc)
      (free : ℕ) (op : Op) (want : Want) (p q : Spot) (least : count ≤ free) (calls : IsCallWord op) where
    call_begun : CallAt g (related g on) (given_rel g args) active free op want p q → Begun f count free p.pc
    call_begun at =
        let call = call_below op free (count_field 1 (given_rel g args).count) (count_field 1 want) at.last q calls at.word in
        first_then (has.value free free p at.mid least at.on_at) (below_then count (suc free) at.mid.pc (omega (arith, least)) (given (free + 1) at.mid at.last (omega (arith, least)) at.given_at) call)

    method_begun : (text : Text) → MethodAt g (related g on) text (given_rel g args) active free op want p q → Begun f count free p.pc
    method_begun text at = by (operand_row on has count free at.x at.free1 p at.mid (omega arith) least at.on_at) at.name_at
      where
        word : WordAt g (Piece.Abc Op.Self_ free at.x at.y) at.named at.begun
        word = at.self_at

        behind : ReadsBelow f (suc free) at.begun.pc
        behind =
            let call = call_below op free (count_field 2 (given_rel g args).count) (count_field 1 want) at.last q calls at.word in
            below_then count (suc free) at.begun.pc (omega (arith, least)) (given (free + 2) at.begun at.last (omega (arith, least)) at.given_at) call

        self : (x y : ℕ) → x < count → IsLow count y → WordAt g (Piece.Abc Op.Self_ free x y) at.named at.begun → Alone f count free at.named.pc at.begun.pc
        self x y below low word = word_alone count free is_function word (abc_is_read is_function word) (part_low count x y below low) refl refl refl

        by : Row f (λ n. at.x < n) count free at.free1 p.pc at.mid.pc → RkTextAt g text (free + 2) at.y at.free2 at.mid at.named → Begun f count free p.pc
        by (words more begun) name = begun
        by (no_words same free_same below) (inl name) =
            let here : p.pc ≡ at.named.pc = same ∙ sym name.same.pc in
            subst (Begun f count free) (sym here) (alone_then (self at.x at.y below (inr (omega (arith, name.at_x))) word) behind)
        by (no_words same free_same below) (inr (large, name)) =
            let loads = name.value_at in
            let load = instr_is is_function loads.word (abx_is_read is_function loads.word) in
            let call = instr_is is_function word (abc_is_read is_function word) in
            let far : FarName f count free at.mid.pc = record {
              number = loads.number;
              on = at.x;
              loads = load;
              calls = subst (λ pc. instr_at f pc ≡ Some (instr_by pc (Piece.Abc Op.Self_ free at.x (free + 2)))) loads.word.next (subst (λ y. instr_at f at.named.pc ≡ Some (instr_by at.named.pc (Piece.Abc Op.Self_ free at.x y))) name.at_x call);
              below = below;
            } in
            subst (Begun f count free) (sym same) (inr far)
        by (one_word one free_is below) (inl name) =
            let reads = word_below (suc free) is_function word (abc_is_read is_function word) (part_low (suc free) at.x at.y below (inr (omega (arith, name.at_x)))) in
            alone_then one (subst (ReadsBelow f (suc free)) name.same.pc reads)
        by (one_word one free_is below) (inr (large, name)) = alone_then one (word_below (suc free) is_function name.value_at.word (abx_is_read is_function name.value_at.word) refl)

  -- ---- lists and constructors

  no_multi : (free : ℕ) (want : Want) (p q : Spot) → never g.law Same p q → FirstOrRest f want count free p.pc q.pc
  no_multi free want p q at = absurd (subst (λ (law : Law). never law Same p q) is_function.law at)

  -- an item with a key: the word that stores it reads the table
  keyed_below : (key : (free x free1 : ℕ) → Stretch) (e : Expression) → LowValue f g active e → (t : ℕ) → count ≤ t → ((low free x free1 : ℕ) (p q : Spot) → count ≤ low → low ≤ free → key free x free1 p q → Row f (λ n. IsLow n x) low free free1 p.pc q.pc) →
      (p q : Spot) → KeyedAt g key (related g e) active t 0 p q → ReadsBelow f (suc t) p.pc
  keyed_below key e has t least key_row p q at =
      let low = suc t in
      let free = t + 1 in
      let one = key_row low free at.x at.free1 p at.mid (omega (arith, least)) (omega arith) at.left_at in
      let more = row_up one in
      let two = rk_row e has low at.free1 at.y at.free2 at.mid at.last (omega (arith, least)) (omega (arith, more)) at.right_at in
      let word = at.words_at in
      let read = abc_is_read is_function word in
      let stores : (n : ℕ) → low ≤ n → IsLow n at.x × IsLow n at.y → ReadsBelow f n at.last.pc = λ n more names.
      word_below n is_function word read (nor (nat_le n t) (is_from at.x n || is_from at.y n) (not_below t n (omega (arith, more))) (operands_low n at.x at.y names.0 names.1)) in
      by (row_word (row_then (low_lasts at.x) (low_lasts at.y) (omega arith) one two) (omega arith) stores) (λ known. stores low (omega arith) known)
    where
      by : NoneOrBegun f ((at.free2 ≡ t + 1) × (IsLow (suc t) at.x × IsLow (suc t) at.y)) (suc t) (t + 1) p.pc at.last.pc → (IsLow (suc t) at.x × IsLow (suc t) at.y → ReadsBelow f (suc t) at.last.pc) → ReadsBelow f (suc t) p.pc
      by (inl none) stores = subst (ReadsBelow f (suc t)) (sym none.0) (stores none.1.1)
      by (inr begun) stores = begun_reads begun

  item_below : (left_open : Bool) (e : Expression) → LowValue f g active e → (t : ℕ) → count ≤ t → (done : ℕ) (rest : Stretch) (p q : Spot) → ItemBy left_open g (related g e) active t done 0 rest p q → ReadsBelow f (suc t) p.pc
  item_below true e has t least done rest p q at = below_later count (suc t) (omega (arith, least)) (first_reads (rest_first (has.multi (t + 1) Op.Call None p at.mid (omega (arith, least)) (inl refl) at.first_at)))
  item_below false e has t least done rest p q at = below_later count (suc t) (omega (arith, least)) (first_reads (has.value (t + 1) (t + 1) p at.mid (omega (arith, least)) at.first))

  table_first : (items : Fields) → ((t : ℕ) (p q : Spot) → count ≤ t → ItemsAt g items active t 0 0 p q → NoneOrBelow f (suc t) p.pc q.pc) → (free : ℕ) (p q : Spot) → count ≤ free → TableAt g (λ t. ItemsAt g items active t 0 0) free p q → First f count free free p.pc q.pc
  table_first items below free p q least at = by (below free at.mid q least at.items_at)
    where
      table : Alone f count free p.pc at.mid.pc
      table = word_alone count free is_function at.word (abc_is_read is_function at.word) refl refl refl refl

      by : NoneOrBelow f (suc free) at.mid.pc q.pc → First f count free free p.pc q.pc
      by (inl same) = inl (subst (λ pc. Alone f count free p.pc pc) same table)
      by (inr reads) = inr (alone_then table reads)

  -- ---- all values

  -- a value with no use of its own for one of several
  single_low : (e : Expression) → ((free r : ℕ) (p q : Spot) → count ≤ free → (related g e).to_reg active free r p q → First f count free r p.pc q.pc) →
      ((free free1 : ℕ) (p q : Spot) → (related g e).spine active free free1 p q → in_next g (related g e).to_reg active free free1 p q) → ((free : ℕ) (op : Op) (want : Want) (p q : Spot) → (related g e).multi active free op want p q → never g.law Same p q) → LowValue f g active e
  single_low e value spine multi = record {
    value = value;
    spine = λ free free1 p q least at. first_reads (value free free p q least (spine free free1 p q at).value_at);
    multi = λ free op want p q least calls at. no_multi free want p q (multi free op want p q at);
  }

  called_low : (e : Expression) → ((free r : ℕ) (p q : Spot) → (related g e).to_reg active free r p q → MovedFrom g ((related g e).multi active free Op.Call (Some 1)) free r p q) →
      ((free free1 : ℕ) (p q : Spot) → (related g e).spine active free free1 p q → in_next g (related g e).to_reg active free free1 p q) → ((free : ℕ) (op : Op) (want : Want) (p q : Spot) → count ≤ free → IsCallWord op → (related g e).multi active free op want p q → Begun f count free p.pc) → LowValue f g active e
  called_low e moved spine multi =
      let value = λ (free r : ℕ) (p q : Spot) (least : count ≤ free) (at : (related g e).to_reg active free r p q). moved_first free r p q (λ q at. inr (multi free Op.Call (Some 1) p q least (inl refl) at)) (moved free r p q at) in
      record {
        value = value;
        spine = λ free free1 p q least at. first_reads (value free free p q least (spine free free1 p q at).value_at);
        multi = λ free op want p q least calls at. inr (multi free op want p q least calls at);
      }

  binary_spine : (line : ℕ) (op : BinaryOp) (left right : Expression) → LowValue f g active left → ((free r : ℕ) (p q : Spot) → count ≤ free → (related g (binary_expression line op left right)).to_reg active free r p q → First f count free r p.pc q.pc) →
      (free free1 : ℕ) (p q : Spot) → count ≤ free → (related g (binary_expression line op left right)).spine active free free1 p q → ReadsBelow f count p.pc
  binary_spine line BinaryOp.Concat left right has value free free1 p q least at = first_reads (has.value free free p at.mid least at.first)
  binary_spine line op left right has value free free1 p q least at = first_reads (value free free p q least at.value_at)

  name_low : (text : Text) (free r : ℕ) (p q : Spot) → NameAt g text active free r p q → Alone f count r p.pc q.pc
  name_low text free r p q at =
      let there = all.listed_as text (meaning active p) at.0 in
      let words = at.1 in
      subst (λ pc. Alone f count r pc q.pc) words.first_at.pc (name_alone text (meaning active p) r words.mid q (λ x is. (subst (λ (w : Where). IsListed f count listed text w) is there).0) words.second_at)

  pub as_list : (is_open : Bool) (cs : List Rel) (free : ℕ) (p q : Spot) → OpenBy is_open g cs active free p q → ListBy is_open g Op.Call None cs active free p q
  as_list true cs free p q at = at
  as_list false cs free p q at = at

  index_first : {key_at : (free x free1 : ℕ) → Stretch} → ((low free x free1 : ℕ) (p q : Spot) → count ≤ low → low ≤ free → key_at free x free1 p q → Row f (λ n. IsLow n x) low free free1 p.pc q.pc) → (on : Expression) → LowValue f g active on →
      (free r : ℕ) (p q : Spot) → count ≤ free → TwoAt (OperandAt g active (related g on)) key_at free (λ t k. WordAt g (Piece.Abc Op.GetTable r t k)) p q → First f count free r p.pc q.pc
  index_first key_row on has free r p q least at =
      let one = operand_row on has count free at.x at.free1 p at.mid (omega arith) least at.left_at in
      let more = row_up one in
      let two = key_row count at.free1 at.y at.free2 at.mid at.last (omega arith) (omega (arith, least, more)) at.right_at in
      both_first (below_lasts at.x) (low_lasts at.y) free r at.x at.y at.free1 at.free2 p at.mid at.last q Op.GetTable least refl (λ i. refl) (λ n first second. part_low n at.x at.y first second) one two at.words_at

  mutual
    pub low_value : (e : Expression) → HasCore e → LowValue f g active e
    low_value (nil_literal line) has =
        single_low (nil_literal line) (λ free r p q least at. inl (word_alone count r is_function at (abc_is_read is_function at) refl refl refl refl)) (λ free free1 p q at. at) (λ free op want p q at. at)
    low_value (true_literal line) has =
        single_low (true_literal line) (λ free r p q least at. inl (word_alone count r is_function at (abc_is_read is_function at) refl refl refl refl)) (λ free free1 p q at. at) (λ free op want p q at. at)
    low_value (false_literal line) has =
        single_low (false_literal line) (λ free r p q least at. inl (word_alone count r is_function at (abc_is_read is_function at) refl refl refl refl)) (λ free free1 p q at. at) (λ free op want p q at. at)
    low_value (vararg_expression line) has = record {
      value = λ free r p q least at. inl (word_alone count r is_function at (abc_is_read is_function at) refl refl refl refl);
      spine = λ free free1 p q least at. let word = at.value_at in word_below count is_function word (abc_is_read is_function word) refl;
      multi = λ free op want p q least calls at. inl (record { there = instr_is is_function at.word (abc_is_read is_function at.word); next = at.word.next });
    }
    low_value (number_literal line n) has = single_low (number_literal line n) (λ free r p q least at. inl (constant_alone count refl (λ i. refl) (λ i. refl) at)) (λ free free1 p q at. at) (λ free op want p q at. at)
    low_value (text_literal line text) has = single_low (text_literal line text) (λ free r p q least at. inl (constant_alone count refl (λ i. refl) (λ i. refl) at)) (λ free free1 p q at. at) (λ free op want p q at. at)
    low_value (name_expression line text) has =
        single_low (name_expression line text) (λ free r p q least at. inl (name_low text free r p q at)) (λ free free1 p q at. at) (λ free op want p q at. at)
    low_value (function_expression line body) has = single_low (function_expression line body) (λ free r p q least at. inl (closure_alone body active free r p q at)) (λ free free1 p q at. at) (λ free op want p q at. at)
    low_value (index_expression line on key) has =
        single_low (index_expression line on key) (λ free r p q least at. index_first (rk_row key (low_value key has.1)) on (low_value on has.0) free r p q least at) (λ free free1 p q at. at) (λ free op want p q at. at)
    low_value (field_expression line on text) has =
        single_low (field_expression line on text) (λ free r p q least at. index_first (λ low free x free1 p q least less at. text_row text low free x free1 p q at) on (low_value on has) free r p q least at) (λ free free1 p q at. at) (λ free op want p q at. at)
    low_value (call_expression line on args on_line) has =
        called_low (call_expression line on args on_line) (λ free r p q at. at) (λ free free1 p q at. at) (λ free op want p q least calls at. call_begun on (low_value on has.0) args (low_given args has.1) free op want p q least calls at)
    low_value (method_call line on name args on_line) has =
        called_low (method_call line on name args on_line) (λ free r p q at. at) (λ free free1 p q at. at) (λ free op want p q least calls at. method_begun on (low_value on has.1) args (low_given args has.2) free op want p q least calls name at)
    low_value (binary_expression line op left right) has =
        let one = low_value left has.1 in
        let two = low_value right has.2 in
        let value = λ (free r : ℕ) (p q : Spot) (least : count ≤ free) (at : (related g (binary_expression line op left right)).to_reg active free r p q).
        loaded_first (fold (binary_expression line op left right)) (BinaryAt g op (related g left) (related g right)) free r p q (λ at. operator_first left right one two free r p q least op has.0 at) at in
        record { value = value; spine = binary_spine line op left right one value; multi = λ free op want p q least calls at. no_multi free want p q at }
    low_value (unary_expression line op e) has =
        single_low (unary_expression line op e) (λ free r p q least at. loaded_first (fold (unary_expression line op e)) (UnaryAt g op (related g e)) free r p q (λ at. unary_first op e (low_value e has) free r p q least at) at) (λ free free1 p q at. at) (λ free op want p q at. at)
    low_value (constructor line fields) has =
        single_low (constructor line fields) (λ free r p q least at. moved_first free r p q (λ q at. table_first fields (low_items fields has) free p q least at) at) (λ free free1 p q at. at) (λ free op want p q at. at)
    low_value (parenthesized line e) has = single_low (parenthesized line e) (low_value e has).value (λ free free1 p q at. at) (λ free op want p q at. at)
    low_value e has = absurd has

    pub low_given : (args : Arguments) → HaveCores args → (free : ℕ) (p q : Spot) → count ≤ free → (given_rel g args).part active free p q → NoneOrBelow f count p.pc q.pc
    low_given (argument_list es) has free p q least at = let is_open = rels_open (all_related g es) in list_below free es (low_list es has is_open Op.Call None free p q least (inl refl) (as_list is_open (all_related g es) free p q at))
    low_given (text_argument text) has free p q least at = inr (alone_reads (constant_alone count refl (λ i. refl) (λ i. refl) at.value_at))
    low_given (table_argument fields) has free p q least at = inr (first_reads (table_first fields (low_items fields has) free p q least at))

    low_items : (fields : Fields) → HaveItems fields → (t : ℕ) (p q : Spot) → count ≤ t → ItemsAt g fields active t 0 0 p q → NoneOrBelow f (suc t) p.pc q.pc
    low_items no_fields has t p q least at = inl (sym at.pc)
    low_items (positional e separator rest) has t p q least at = inr (item_below _ e (low_value e has.0) t least 0 _ p q at)
    low_items (named text e separator rest) has t p q least at = inr (keyed_below (RkTextAt g text) e (low_value e has.0) t least (λ low free x free1 p q least less at. text_row text low free x free1 p q at) p at.mid at.first_at)
    low_items (keyed key e separator rest) has t p q least at =
        inr (keyed_below (RkAt g active (related g key)) e (low_value e has.1) t least (rk_row key (low_value key has.0)) p at.mid at.first_at)

    -- of a list, each value in a register of its own or the last one for several
    pub low_list : (es : Expressions) → AllHaveCores es → (is_open : Bool) (op : Op) (want : Want) (free : ℕ) (p q : Spot) → count ≤ free → IsCallWord op → ListBy is_open g op want (all_related g es) active free p q → OfList es f count free p.pc q.pc
    low_list no_expressions has true op want free p q least calls at = sym at.pc
    low_list no_expressions has false op want free p q least calls at = sym at.pc
    low_list (syntax.expression e no_expressions) has true op want free p q least calls at = rest_first ((low_value e has.0).multi free op want p q least calls at)
    low_list (syntax.expression e no_expressions) has false op want free p q least calls at =
        subst (λ pc. First f count free free p.pc pc) (sym at.others.pc) ((low_value e has.0).value free free p at.mid least at.first)
    low_list (syntax.expression e (syntax.expression d es)) has true op want free p q least calls at =
        let rest = low_list (syntax.expression d es) has.1 true op want (free + 1) at.mid q (omega (arith, least)) calls at.others in
        inr (first_then ((low_value e has.0).value free free p at.mid least at.first) (below_later count (suc free) (omega (arith, least)) (first_reads rest)))
    low_list (syntax.expression e (syntax.expression d es)) has false op want free p q least calls at =
        let rest = low_list (syntax.expression d es) has.1 false op want (free + 1) at.mid q (omega (arith, least)) calls at.others in
        inr (first_then ((low_value e has.0).value free free p at.mid least at.first) (below_later count (suc free) (omega (arith, least)) (first_reads rest)))

  -- two values or more
  pub two_begun : (e d : Expression) (es : Expressions) → AllHaveCores (syntax.expression e (syntax.expression d es)) → (is_open : Bool) (op : Op) (want : Want) (free : ℕ) (p q : Spot) → count ≤ free → IsCallWord op →
      ListBy is_open g op want (all_related g (syntax.expression e (syntax.expression d es))) active free p q → Begun f count free p.pc
  two_begun e d es has true op want free p q least calls at =
      let rest = low_list (syntax.expression d es) has.1 true op want (free + 1) at.mid q (omega (arith, least)) calls at.others in
      first_then ((low_value e has.0).value free free p at.mid least at.first) (below_later count (suc free) (omega (arith, least)) (first_reads rest))
  two_begun e d es has false op want free p q least calls at =
      let rest = low_list (syntax.expression d es) has.1 false op want (free + 1) at.mid q (omega (arith, least)) calls at.others in
      first_then ((low_value e has.0).value free free p at.mid least at.first) (below_later count (suc free) (omega (arith, least)) (first_reads rest))
