-- An operand, and what of it stands in the registers of the step: nothing where it is a constant or a local.
use Rattle.std.proofs.Common.{◌≡◌, ℕ, ◌+◌, ◌-◌, ◌<◌, ◌≤◌, ◌⊎◌, max, List, [], ◌∷◌, length, Option, Some, None, refl, sym, ap, ◌∙◌, subst, arith, le-leb, inl, inr}
use Rattle.std.proofs.Math.Nat.{max-zero}
use Rattle.std.proofs.lemmas.Option.{slice_get_within}
use Rattle.std.specs.Prelude.{if◌then◌else◌}
use Rattle.lua_num.specs.Bytes.{Text}
use Rattle.lua_tree.specs.Syntax.{Expression}
use Rattle.proto.specs.declared.parts.Constant.{Constant}
use Rattle.core_expr.specs.Counting.{one_more, taken_behind_operand}
use Rattle.core_expr.specs.Places.{local_name, place}
use Rattle.core_expr.specs.Values.{Value, local_value, OperandValue, constant_operand, value_operand}
use Rattle.recover_expr.specs.Entries.{Entries, EntryValue, single_of}
use Rattle.recover_expr.specs.Locals.{Scope}
use Rattle.recover_expr.specs.Situation.{Function, Situation}
use Rattle.scheme.specs.declared.making.Active.{Active}
use Rattle.scheme_stands.proofs.Forms.{form_is}
use Rattle.scheme_stands.specs.Expressions.{Form, NextAt, OperandAt, OperandBy, RkAt, RkBy, RkTextAt, SmallAt, local_at}
use Rattle.scheme_stands.specs.Relation.{related}
use Rattle.scheme_stands.specs.Words.{Fn, Spot, Stretch}
use Rattle.reads_back.specs.Cores.{IsCore, IsKey, IsOperand, IsOperandBy, IsSmall, IsValueOperand, Counted, valued}
use Rattle.reads_back.proofs.OperandReads.{operand_reads, rk_reads, stays, text_key_reads}
use Rattle.reads_back.proofs.Comes.{Comes, IsOperandWanted, ReadsCore, comes_next, BeginsOrNone}
use Rattle.reads_back.proofs.BehindWords.{HasLocals, SameLocals, behind_words, same_locals}
use Rattle.reads_back.proofs.BothOperands.{counted}
use Rattle.reads_back.proofs.LiteralReads.{constant_reads, constant_there}
use Rattle.reads_back.proofs.NameReads.{AreListed, IsLocal, local_operand}
use Rattle.reads_back.proofs.Reaches.{Reaches}
use Rattle.reads_back.proofs.Tests.{not_below}
use Rattle.reads_back.proofs.ValueWords.{next_free}
use Rattle.reads_back.proofs.WordsRead.{IsFunction, IsQuiet}

-- ---- where an operand is

-- a constant in the word, a local in its register, or an entry for a value in the next register
pub data Kept : Type 0 where
  in_word in_local : ℕ → Kept
  in_next : EntryValue → Value → Kept

abbrev pub operand_of : Kept → OperandValue
operand_of (in_word number) = constant_operand number
operand_of (in_local r) = value_operand (local_value r)
operand_of (in_next entry v) = value_operand v

-- what stands of it in the registers of the step
abbrev pub entries_in : Kept → Entries
entries_in (in_next entry v) = entry ∷ []
entries_in kept = []

-- a constant that the function has, a local with a name below so many, or the register that was free, with an entry that is this value
abbrev pub StandsIn : Function → (count : ℕ) → (listed : List ℕ) → (free x free1 : ℕ) → Kept → Type 0
StandsIn f count listed free x free1 (in_word number) = (x ≡ number + 256) × (number < length f.of.constants) × (free1 ≡ free)
StandsIn f count listed free x free1 (in_local r) = (x ≡ r) × (r < count) × (count ≤ 250) × (free1 ≡ free) × (text : Text) × (local_name (place f.of listed f.short) r ≡ Some text)
StandsIn f count listed free x free1 (in_next entry v) = (x ≡ free) × (free < 250) × (free1 ≡ free + 1) × (single_of entry ≡ Some v)

-- Words before an operand x of a word come to what stands of it.
pub record HeldComes (f : Function) (active : List Active) (listed : List ℕ) (Is : OperandValue → Type 0) (s : Situation) (free x free1 first last : ℕ) : Type 0 where
  pub kept : Kept
  pub is : Is (operand_of kept)
  pub scope : Scope
  pub same : SameLocals s.scope scope
  pub seen : ℕ
  pub taken : max seen (counted x) ≡ taken_behind_operand (operand_of kept) s.seen
  pub reaches : Reaches f first s last (behind_words scope seen (entries_in kept) s)
  pub stands : StandsIn f (length active) listed free x free1 kept

-- no register is taken, or the next one, for the operand
abbrev pub IsTaken : (free x free1 : ℕ) → Type 0
IsTaken free x free1 = (free1 ≡ free) ⊎ ((x ≡ free) × (free < 250) × (free1 ≡ free + 1))

pub taken_up : {free x free1 : ℕ} → IsTaken free x free1 → free ≤ free1
taken_up (inl same) = omega (arith, same)
taken_up (inr next) = omega (arith, next.2)

-- where its words stand, if there are any
pub record ReadsHeld (f : Function) (g : Fn) (active : List Active) (listed : List ℕ) (Is : Counted OperandValue) (to : (free x free1 : ℕ) → Stretch) : Type 0 where
  pub forward : (free x free1 : ℕ) (p q : Spot) → to free x free1 p q → p.pc ≤ q.pc
  pub begins : (free x free1 : ℕ) (p q : Spot) → q.pc ≤ f.last → to free x free1 p q → BeginsOrNone f free free1 p.pc q.pc
  pub takes : (free x free1 : ℕ) (p q : Spot) → to free x free1 p q → IsTaken free x free1
  pub comes : (free x free1 : ℕ) (p q : Spot) (s : Situation) → HasLocals active listed s → free ≡ next_free s → IsQuiet f s.scope p.pc q.pc → IsOperandWanted f s free x free1 q.pc → to free x free1 p q →
      HeldComes f active listed (Is p.functions q.functions) s free x free1 p.pc q.pc

-- what is known of it may be less
held_less : {f : Function} {active : List Active} {listed : List ℕ} {Is Less : OperandValue → Type 0} {free x free1 first last : ℕ} {s : Situation} → ((o : OperandValue) → Is o → Less o) → HeldComes f active listed Is s free x free1 first last →
    HeldComes f active listed Less s free x free1 first last
held_less less one = record { kept = one.kept; is = less (operand_of one.kept) one.is; scope = one.scope; same = one.same; seen = one.seen; taken = one.taken; reaches = one.reaches; stands = one.stands }

-- ---- no words

pub counts_none : (x : ℕ) → x < 256 → counted x ≡ 0
counts_none x small = ap (λ far. if far then one_more (x - 256) else 0) (not_below x 256 small)

counts_constant : (number : ℕ) → counted (number + 256) ≡ one_more number
counts_constant number =
    let minus : number + 256 - 256 ≡ number = omega arith in
    ap (λ far. if far then one_more (number + 256 - 256) else 0) (le-leb 256 (number + 256) (omega arith)) ∙ ap one_more minus

next_taken : {f : Function} {g : Fn} {value : Stretch} {free x free1 : ℕ} {p q : Spot} → IsFunction f g → NextAt g value free x free1 p q → IsTaken free x free1
next_taken is_function at = inr (at.at_x, omega (arith, at.room, is_function.few), at.at_free)

text_takes : {f : Function} {g : Fn} → IsFunction f g → (text : Text) (free x free1 : ℕ) (p q : Spot) → RkTextAt g text free x free1 p q → IsTaken free x free1
text_takes is_function text free x free1 p q (inl at) = inl at.at_free
text_takes is_function text free x free1 p q (inr (large, at)) = next_taken is_function at

module _ {f : Function} {g : Fn} {active : List Active} {listed : List ℕ} (is_function : IsFunction f g) where
  constant_held : (k : Constant) (free x free1 : ℕ) (p q : Spot) (s : Situation) → SmallAt g k free x free1 p q → HeldComes f active listed (IsSmall g k) s free x free1 p.pc q.pc
  constant_held k free x free1 p q s at = record {
    kept = in_word at.number;
    is = (at.number, record { is = at.is; first = at.first }, at.small, refl);
    scope = s.scope;
    same = same_locals s.scope;
    seen = s.seen;
    taken = ap (λ x. max s.seen (counted x)) at.at_x ∙ ap (max s.seen) (counts_constant at.number);
    reaches = stays p q s at.same.pc;
    stands = (at.at_x, slice_get_within f.of.constants at.number k (constant_there at.number k is_function at.is), at.at_free);
  }

  -- a value in the next register
  next_held : {Is : Value → Type 0} {deep first last : ℕ} (free x free1 : ℕ) (s : Situation) → x ≡ free → free < g.size → free1 ≡ free + 1 → Comes f Is deep s first last → HeldComes f active listed (IsValueOperand Is) s free x free1 first last
  next_held free x free1 s at_x room at_free comes = record {
    kept = in_next comes.entry comes.value;
    is = (comes.value, comes.is, refl);
    scope = comes.scope;
    same = comes.same;
    seen = comes.seen;
    taken = ap (max comes.seen) (counts_none x (omega (arith, at_x, room, is_function.few))) ∙ max-zero comes.seen ∙ sym comes.taken;
    reaches = comes.reaches;
    stands = (at_x, omega (arith, room, is_function.few), at_free, comes.single);
  }

  -- ---- operands

  module _ (all : AreListed f g active listed) (e : Expression) (reads : ReadsCore f g active listed e) where
    local_held : (r free x free1 : ℕ) (p q : Spot) (s : Situation) → x ≡ r → free1 ≡ free → IsLocal is_function all e r p q → HeldComes f active listed (valued (IsCore g active e) p.functions q.functions) s free x free1 p.pc q.pc
    local_held r free x free1 p q s at_x at_free local = record {
      kept = in_local r;
      is = (local_value r, local.core, refl);
      scope = s.scope;
      same = same_locals s.scope;
      seen = s.seen;
      taken = ap (max s.seen) (counts_none x (omega (arith, at_x, local.below, all.few))) ∙ max-zero s.seen;
      reaches = stays p q s local.same;
      stands = (at_x, local.below, all.few, at_free, local.text, local.named);
    }

    operand_by_takes : (o : Option ℕ) (free x free1 : ℕ) (p q : Spot) → OperandBy o g active (related g e) free x free1 p q → IsTaken free x free1
    operand_by_takes (Some r) free x free1 p q at = inl at.at_free
    operand_by_takes None free x free1 p q at = next_taken is_function at

    operand_by_held : (o : Option ℕ) (free x free1 : ℕ) (p q : Spot) (s : Situation) → local_at (related g e).form active p ≡ o → HasLocals active listed s → free ≡ next_free s → IsQuiet f s.scope p.pc q.pc → IsOperandWanted f s free x free1 q.pc →
        OperandBy o g active (related g e) free x free1 p q → HeldComes f active listed (valued (IsCore g active e) p.functions q.functions) s free x free1 p.pc q.pc
    operand_by_held (Some r) free x free1 p q s is locals next quiet wanted at = local_held r free x free1 p q s at.at_x at.at_free (local_operand is_function all e r p q is at.passed)
    operand_by_held None free x free1 p q s is locals next quiet wanted at = next_held free x free1 s at.at_x at.room at.at_free (comes_next reads free p q s locals next quiet (wanted at.at_x at.at_free) at.value_at)

    -- a local, or the next register
    pub operand_held : ReadsHeld f g active listed (valued (IsCore g active e)) (OperandAt g active (related g e))
    operand_held = record {
      forward = (operand_reads is_function all e reads).forward;
      begins = (operand_reads is_function all e reads).begins;
      takes = λ free x free1 p q at. operand_by_takes (local_at (related g e).form active p) free x free1 p q at;
      comes = λ free x free1 p q s locals next quiet wanted at. operand_by_held (local_at (related g e).form active p) free x free1 p q s refl locals next quiet wanted at;
    }

    rk_by_takes : (o : Option Constant) (free x free1 : ℕ) (p q : Spot) → RkBy o g active (related g e) free x free1 p q → IsTaken free x free1
    rk_by_takes (Some k) free x free1 p q (inl at) = inl at.at_free
    rk_by_takes (Some k) free x free1 p q (inr (large, at)) = operand_held.takes free x free1 p q at
    rk_by_takes None free x free1 p q at = operand_held.takes free x free1 p q at

    rk_by_held : (o : Option Constant) (free x free1 : ℕ) (p q : Spot) (s : Situation) → HasLocals active listed s → free ≡ next_free s → IsQuiet f s.scope p.pc q.pc → IsOperandWanted f s free x free1 q.pc → RkBy o g active (related g e) free x free1 p q →
        HeldComes f active listed (IsOperandBy o g (IsCore g active e) p.functions q.functions) s free x free1 p.pc q.pc
    rk_by_held (Some k) free x free1 p q s locals next quiet wanted (inl at) = held_less (λ o is. inl (at.same.functions, is)) (constant_held k free x free1 p q s at)
    rk_by_held (Some k) free x free1 p q s locals next quiet wanted (inr (large, at)) = held_less (λ o is. inr (large, is)) (operand_held.comes free x free1 p q s locals next quiet wanted at)
    rk_by_held None free x free1 p q s locals next quiet wanted at = operand_held.comes free x free1 p q s locals next quiet wanted at

    -- a literal is a constant where its number is small
    pub rk_held : ReadsHeld f g active listed (IsOperand g active e) (RkAt g active (related g e))
    rk_held = record {
      forward = (rk_reads is_function all e reads).forward;
      begins = (rk_reads is_function all e reads).begins;
      takes = λ free x free1 p q at. rk_by_takes (related g e).form.literal free x free1 p q at;
      comes = λ free x free1 p q s locals next quiet wanted at.
          subst (λ (form : Form). HeldComes f active listed (IsOperandBy form.literal g (IsCore g active e) p.functions q.functions) s free x free1 p.pc q.pc) (form_is g e)
          (rk_by_held (related g e).form.literal free x free1 p q s locals next quiet wanted at);
    }

  -- ---- the name of a field

  module _ (text : Text) where
    text_comes : (free x free1 : ℕ) (p q : Spot) (s : Situation) → HasLocals active listed s → free ≡ next_free s → IsQuiet f s.scope p.pc q.pc → IsOperandWanted f s free x free1 q.pc → RkTextAt g text free x free1 p q →
        HeldComes f active listed (IsKey g text p.functions q.functions) s free x free1 p.pc q.pc
    text_comes free x free1 p q s locals next quiet wanted (inl at) = held_less (λ o is. inl (at.same.functions, is)) (constant_held (Constant.Text text) free x free1 p q s at)
    text_comes free x free1 p q s locals next quiet wanted (inr (large, at)) =
        held_less (λ o is. inr (large, is))
        (next_held free x free1 s at.at_x at.room at.at_free
        (comes_next (constant_reads {active = active} {listed = listed} is_function (Constant.Text text)) free p q s locals next quiet (wanted at.at_x at.at_free) at.value_at))

    pub text_held : ReadsHeld f g active listed (IsKey g text) (RkTextAt g text)
    text_held = let key = text_key_reads {active = active} {listed = listed} is_function text in record { forward = key.forward; begins = key.begins; takes = text_takes is_function text; comes = text_comes }
