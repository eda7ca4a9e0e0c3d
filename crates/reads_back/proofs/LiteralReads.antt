-- Words that make a value by themselves: literals, folded numbers, and `...`.
use Rattle.std.proofs.Common.{◌≡◌, ℕ, suc, ◌-◌, ◌<◌, ◌≤◌, true, false, List, length, Some, None, refl, sym, ap, ◌∙◌, arith, lt-ltb, eq-eqb, inl, inr}
use Rattle.std.specs.Prelude.{option_and_then, slice_get, if◌then◌else◌}
use Rattle.std.proofs.lemmas.Option.{slice_get_within}
use Rattle.opcode.specs.declared.op.Op.{Op}
use Rattle.proto.specs.declared.parts.Constant.{Constant}
use Rattle.core_expr.specs.Counting.{taken_behind}
use Rattle.core_expr.specs.Making.{depth_of}
use Rattle.core_expr.specs.Values.{Value, nil_value, bool_value, constant_value}
use Rattle.recover_expr.specs.Drafts.{makes}
use Rattle.recover_expr.specs.Entries.{place_in}
use Rattle.recover_expr.specs.Reading.{read_word}
use Rattle.recover_expr.specs.Situation.{Function, Situation, see, see_constant}
use Rattle.recover_expr.specs.Words.{loaded, far_method}
use Rattle.scheme.specs.declared.making.Piece.{Piece}
use Rattle.scheme.specs.declared.making.Active.{Active}
use Rattle.scheme_stands.specs.Words.{Fn, Spot, WordAt, ConstantWord, IsRead, instr_by}
use Rattle.reads_back.specs.Cores.{IsConstant, still}
use Rattle.reads_back.proofs.Comes.{Arrives, IsGoal, Reads}
use Rattle.reads_back.proofs.BehindWords.{same_locals}
use Rattle.reads_back.proofs.Reaches.{here}
use Rattle.reads_back.proofs.Tests.{not_below, not_more}
use Rattle.reads_back.proofs.ValueWords.{place_of_next}
use Rattle.reads_back.proofs.WordsBegin.{word_begins}
use Rattle.reads_back.proofs.WordsRead.{IsFunction, IsQuiet, word_of, abc_is_read, abx_is_read, word_there, turn_there}

-- ---- one word that makes a value, and takes constants

-- the word makes a value, and takes the constants that the value takes
pub record MakesValue (f : Function) (pc : ℕ) (w : Piece) (s : Situation) (v : Value) : Type 0 where
  pub does : read_word f (word_of pc w) (see (instr_by pc w) s) ≡ Some (makes v (suc pc), record s { seen = taken_behind v s.seen })

pub word_made : {f : Function} {g : Fn} {Is : Value → Type 0} {w : Piece} {p q : Spot} {s : Situation} {r : ℕ} (v : Value) → IsFunction f g → IsQuiet f s.scope p.pc q.pc → WordAt g w p q → IsRead p.pc w → (instr_by p.pc w).a ≡ r → MakesValue f p.pc w s v →
    Is v → depth_of v ≤ 2 → Arrives f Is 1 s r p.pc q.pc
word_made {f} {w = w} {p = p} {q = q} {s = s} v is_function quiet at read to by is shallow =
    let later : p.pc < q.pc = omega (arith, at.next) in
    inl (record {
      value = v;
      is = is;
      shallow = omega (arith, shallow);
      scope = s.scope;
      same = same_locals s.scope;
      seen = taken_behind v s.seen;
      taken = refl;
      before = s;
      word = word_of p.pc w;
      reaches = here;
      turn = turn_there p.pc s quiet (omega arith) later (word_there is_function at read (omega (arith, quiet.within)));
      later = later;
      register = to;
      makes = by.does ∙ ap (λ (next : ℕ). Some (makes v next, record s { seen = taken_behind v s.seen })) (sym at.next);
    })

-- ---- constants that are loaded

pub constant_there : {f : Function} {g : Fn} (number : ℕ) (k : Constant) → IsFunction f g → slice_get g.constants number ≡ Some k → slice_get f.of.constants number ≡ Some k
constant_there number k is_function is = ap (λ constants. slice_get constants number) is_function.constants ∙ is

load_makes : (f : Function) (pc r number : ℕ) (k : Constant) (s : Situation) → slice_get f.of.constants number ≡ Some k → IsGoal s r → MakesValue f pc (Piece.Abx Op.LoadK r number) s (constant_value number)
load_makes f pc r number k s there goal =
    let w = word_of pc (Piece.Abx Op.LoadK r number) in
    let t = see_constant number s in
    let here = ap (λ here. option_and_then (loaded f w t (place_in s.base r)) (if here then Some number else None)) (lt-ltb number (length f.of.constants) (slice_get_within f.of.constants number k there)) in
    record { does = here ∙ by goal }
  where
    by : IsGoal s r → loaded f (word_of pc (Piece.Abx Op.LoadK r number)) (see_constant number s) (place_in s.base r) number ≡ Some (makes (constant_value number) (suc pc), see_constant number s)
    by (inl next) =
        let w = word_of pc (Piece.Abx Op.LoadK r number) in
        let t = see_constant number s in
        let count = length s.entries in
        ap (λ place. loaded f w t place number) (place_of_next s.base count r next) ∙ ap (λ far. if far then far_method f w number t else Some (makes (constant_value number) (suc pc), t)) (not_more count)
    by (inr below) =
        let w = word_of pc (Piece.Abx Op.LoadK r number) in
        let t = see_constant number s in
        ap (λ above. loaded f w t (if above then Some (r - s.base) else None) number) (not_below r s.base below)

module _ {f : Function} {g : Fn} {active : List Active} {listed : List ℕ} (is_function : IsFunction f g) where
  -- ---- literals that are words

  pub nil_reads : Reads f g active listed (still (λ v. v ≡ nil_value)) 1 (λ free r. WordAt g (Piece.Abc Op.LoadNil r r 0))
  nil_reads = record {
    forward = λ free r p q at. omega (arith, at.next);
    begins = λ free p q within at. word_begins free is_function at (abc_is_read is_function at) refl (omega arith);
    arrives = λ free r p q s locals is goal quiet wanted at. word_made nil_value is_function quiet at (abc_is_read is_function at) refl (record { does = rw (eq-eqb r r refl) }) (at.functions, refl) (omega arith);
  }

  pub true_reads : Reads f g active listed (still (λ v. v ≡ bool_value true)) 1 (λ free r. WordAt g (Piece.Abc Op.LoadBool r 1 0))
  true_reads = record {
    forward = λ free r p q at. omega (arith, at.next);
    begins = λ free p q within at. word_begins free is_function at (abc_is_read is_function at) refl (omega arith);
    arrives = λ free r p q s locals is goal quiet wanted at. word_made (bool_value true) is_function quiet at (abc_is_read is_function at) refl (record { does = refl }) (at.functions, refl) (omega arith);
  }

  pub false_reads : Reads f g active listed (still (λ v. v ≡ bool_value false)) 1 (λ free r. WordAt g (Piece.Abc Op.LoadBool r 0 0))
  false_reads = record {
    forward = λ free r p q at. omega (arith, at.next);
    begins = λ free p q within at. word_begins free is_function at (abc_is_read is_function at) refl (omega arith);
    arrives = λ free r p q s locals is goal quiet wanted at. word_made (bool_value false) is_function quiet at (abc_is_read is_function at) refl (record { does = refl }) (at.functions, refl) (omega arith);
  }

  pub constant_reads : (k : Constant) → Reads f g active listed (still (IsConstant g k)) 1 (λ free r. ConstantWord g Op.LoadK r k)
  constant_reads k = record {
    forward = λ free r p q at. omega (arith, at.word.next);
    begins = λ free p q within at. word_begins free is_function at.word (abx_is_read is_function at.word) refl (omega arith);
    arrives = λ free r p q s locals is goal quiet wanted at.
        word_made (constant_value at.number) is_function quiet at.word (abx_is_read is_function at.word) refl (load_makes f p.pc r at.number k s (constant_there at.number k is_function at.is) goal) (at.word.functions, (at.number, record { is = at.is; first = at.first }, refl)) (omega arith);
  }
