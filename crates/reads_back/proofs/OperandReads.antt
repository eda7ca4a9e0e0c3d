-- An operand is a constant, a local or the value in the next register, which the word takes off again.
use Rattle.std.proofs.Common.{◌≡◌, ℕ, ◌+◌, ◌-◌, ◌<◌, ◌≤◌, false, List, [], ◌∷◌, ◌++◌, length, append-nil, Option, Some, None, refl, sym, ap, ap₂, ◌∙◌, subst, arith, le-leb, lt-ltb, inl, inr, if◌then◌else◌}
use Rattle.std.specs.Prelude.{option_and_then, option_map, slice_get}
use Rattle.std.proofs.lemmas.Bool.Decides.{nat_tests}
use Rattle.std.proofs.lemmas.Option.{slice_get_within}
use Rattle.lua_num.specs.Bytes.{Text}
use Rattle.lua_tree.specs.Syntax.{Expression}
use Rattle.lua_tree.specs.WellFormed.{depth_of_expression}
use Rattle.proto.specs.declared.parts.Constant.{Constant}
use Rattle.core_expr.specs.Counting.{taken_behind_operand, with_constant}
use Rattle.core_expr.specs.Places.{local_name, place}
use Rattle.core_expr.specs.Values.{Value, local_value, OperandValue, constant_operand, value_operand}
use Rattle.recover_expr.specs.Entries.{Entries, EntryValue, is_temporary, single_of, take_at}
use Rattle.recover_expr.specs.Locals.{has_name, name_of}
use Rattle.recover_expr.specs.Situation.{Function, Situation, constant_in, pop, pop_at, pop_operand, see_constant, see_operand, with_entries}
use Rattle.scheme.specs.declared.making.Active.{Active}
use Rattle.scheme_stands.proofs.Forms.{form_is}
use Rattle.scheme_stands.specs.Expressions.{Form, OperandAt, OperandBy, RkAt, RkBy, RkTextAt, SmallAt, local_at}
use Rattle.scheme_stands.specs.Relation.{related}
use Rattle.scheme_stands.specs.Words.{Fn, Spot}
use Rattle.reads_back.specs.Cores.{IsCore, IsKey, IsOperand, IsOperandBy, IsSmall, IsValueOperand, valued}
use Rattle.reads_back.proofs.Comes.{Comes, IsOperandWanted, OperandComes, ReadsCore, ReadsOperand, comes_next, BeginsOrNone}
use Rattle.reads_back.proofs.BehindWords.{HasLocals, behind_words, same_locals}
use Rattle.reads_back.proofs.BothOperands.{as_operand}
use Rattle.reads_back.proofs.Deeper.{some_depth, operand_so}
use Rattle.reads_back.proofs.LiteralReads.{constant_reads, constant_there}
use Rattle.reads_back.proofs.NameReads.{AreListed, IsLocal, entry_named, local_operand}
use Rattle.reads_back.proofs.Reaches.{Reaches, here}
use Rattle.reads_back.proofs.TakenEntries.{top_taken}
use Rattle.reads_back.proofs.Tests.{not_below}
use Rattle.reads_back.proofs.ValueWords.{next_free, place_of_next}
use Rattle.reads_back.proofs.WordsBegin.{word_begins}
use Rattle.reads_back.proofs.WordsRead.{IsFunction, IsQuiet, abx_is_read}

-- ---- no words

-- nothing is read between
pub stays : {f : Function} (p q : Spot) (s : Situation) → q.pc ≡ p.pc → Reaches f p.pc s q.pc (behind_words s.scope s.seen [] s)
stays {f} p q s same =
    subst (λ (pc : ℕ). Reaches f p.pc s pc (behind_words s.scope s.seen [] s)) (sym same)
    (subst (λ (entries : Entries). Reaches f p.pc s p.pc (record s { entries = entries })) (sym (append-nil s.entries)) here)

-- ---- constants

sees_constant : (number : ℕ) (s t : Situation) → t.seen ≡ s.seen → (see_operand (number + 256) t).seen ≡ taken_behind_operand (constant_operand number) s.seen
sees_constant number s t same =
    let minus : number + 256 - 256 ≡ number = omega arith in
    ap (λ far. (if far then see_constant (number + 256 - 256) t else t).seen) (le-leb 256 (number + 256) (omega arith)) ∙ ap₂ with_constant same minus

constant_popped : (f : Function) (number : ℕ) (k : Constant) (t : Situation) (before : Entries) → slice_get f.of.constants number ≡ Some k → t.entries ≡ before ++ [] → pop_operand f (number + 256) t ≡ Some (constant_operand number, record t { entries = before })
constant_popped f number k t before there is =
    let minus : number + 256 - 256 ≡ number = omega arith in
    let operand : ℕ → OperandValue × Situation = λ k. (constant_operand k, t) in
    ap (λ far. if far then option_map operand (constant_in f (number + 256 - 256)) else option_map as_operand (pop f (number + 256) t)) (le-leb 256 (number + 256) (omega arith))
    ∙ ap (λ n. option_map operand (constant_in f n)) minus
    ∙ ap (λ within. option_map operand (if within then Some number else None)) (lt-ltb number (length f.of.constants) (slice_get_within f.of.constants number k there))
    ∙ ap (λ (entries : Entries). Some (constant_operand number, record t { entries = entries })) (is ∙ append-nil before)

far_kept : (base x : ℕ) → 256 ≤ x → is_temporary base x ≡ false
far_kept base x far = grind (arith, nat_tests)

low_kept : (base x : ℕ) → x < base → is_temporary base x ≡ false
low_kept base x low = grind (arith, nat_tests)

small_comes : {f : Function} {g : Fn} {p q : Spot} (k : Constant) (s : Situation) (free x free1 : ℕ) → IsFunction f g → SmallAt g k free x free1 p q → OperandComes f (IsSmall g k) 1 s free x free1 p.pc q.pc
small_comes {f} {g} {p} {q} k s free x free1 is_function at = record {
  operand = constant_operand at.number;
  is = (at.number, record { is = at.is; first = at.first }, at.small, refl);
  shallow = omega arith;
  scope = s.scope;
  same = same_locals s.scope;
  seen = s.seen;
  more = [];
  counts = omega (arith, at.at_free);
  taken = λ t seen. ap (λ x. (see_operand x t).seen) at.at_x ∙ sees_constant at.number s t seen;
  reaches = stays p q s at.same.pc;
  popped = λ t before base active entries next. ap (λ x. pop_operand f x t) at.at_x ∙ constant_popped f at.number k t before (constant_there at.number k is_function at.is) entries;
  kept = inl (refl, far_kept s.base x (omega (arith, at.at_x)));
}

-- ---- a value in the next register

pub register_popped : (f : Function) (x : ℕ) (t : Situation) → x < 256 → pop_operand f x t ≡ option_map as_operand (pop f x t)
register_popped f x t small = ap (λ far. if far then option_map (λ k. (constant_operand k, t)) (constant_in f (x - 256)) else option_map as_operand (pop f x t)) (not_below x 256 small)

sees_nothing : (x : ℕ) (t : Situation) → x < 256 → see_operand x t ≡ t
sees_nothing x t small = ap (λ far. if far then see_constant (x - 256) t else t) (not_below x 256 small)

value_popped : (f : Function) (x : ℕ) (entry : EntryValue) (v : Value) (t : Situation) (before : Entries) → single_of entry ≡ Some v → x < 256 → t.entries ≡ before ++ entry ∷ [] → x ≡ t.base + length before →
    pop_operand f x t ≡ Some (value_operand v, record t { entries = before })
value_popped f x entry v t before single small is next =
    register_popped f x t small
    ∙ ap (λ place. option_map as_operand (pop_at f t x place)) (place_of_next t.base (length before) x next)
    ∙ ap (λ entries. option_map as_operand (option_map (with_entries t) (take_at (length before) entries))) is
    ∙ ap (λ taken. option_map as_operand (option_map (with_entries t) taken)) (top_taken before entry v (length before) single refl)

next_comes : {f : Function} {Is : Value → Type 0} {deep first last : ℕ} {s : Situation} (free x free1 : ℕ) → x ≡ free → free < 256 → free1 ≡ free + 1 → Comes f Is deep s first last → OperandComes f (IsValueOperand Is) deep s free x free1 first last
next_comes {f} free x free1 at_x small at_free comes = record {
  operand = value_operand comes.value;
  is = (comes.value, comes.is, refl);
  shallow = comes.shallow;
  scope = comes.scope;
  same = comes.same;
  seen = comes.seen;
  more = comes.entry ∷ [];
  counts = at_free;
  taken = λ t seen. ap (λ (t : Situation). t.seen) (sees_nothing x t (omega (arith, at_x, small))) ∙ seen ∙ sym comes.taken;
  reaches = comes.reaches;
  popped = λ t before base active entries next. value_popped f x comes.entry comes.value t before comes.single (omega (arith, at_x, small)) entries (omega (arith, at_x, next));
  kept = inr (comes.entry, comes.value, refl, comes.single, at_x);
}

-- ---- a local

local_popped : (f : Function) (listed : List ℕ) (r : ℕ) (text : Text) (t : Situation) (before : Entries) → r < 256 → r < t.base → t.scope.active ≡ listed → local_name (place f.of listed f.short) r ≡ Some text → t.entries ≡ before ++ [] →
    pop_operand f r t ≡ Some (value_operand (local_value r), record t { entries = before })
local_popped f listed r text t before small below active named is =
    register_popped f r t small
    ∙ ap (λ above. option_map as_operand (pop_at f t r (if above then Some (r - t.base) else None))) (not_below r t.base below)
    ∙ ap (λ listed. option_map as_operand (option_map (λ v. (v, t)) (if has_name (option_and_then (name_of f.of.locals) (slice_get listed r)) then Some (local_value r) else None))) active
    ∙ ap (λ name. option_map as_operand (option_map (λ v. (v, t)) (if has_name name then Some (local_value r) else None))) (entry_named (place f.of listed f.short) text (slice_get listed r) named)
    ∙ ap (λ (entries : Entries). Some (value_operand (local_value r), record t { entries = entries })) (is ∙ append-nil before)

-- ---- operands

module _ {f : Function} {g : Fn} {active : List Active} {listed : List ℕ} (is_function : IsFunction f g) (all : AreListed f g active listed) (e : Expression) (reads : ReadsCore f g active listed e) where
  local_comes : (r free x free1 : ℕ) (p q : Spot) (s : Situation) → HasLocals active listed s → x ≡ r → free1 ≡ free → IsLocal is_function all e r p q → OperandComes f (valued (IsCore g active e) p.functions q.functions) (depth_of_expression e) s free x free1 p.pc q.pc
  local_comes r free x free1 p q s locals at_x at_free local =
      let few = all.few in
      record {
        operand = value_operand (local_value r);
        is = (local_value r, local.core, refl);
        shallow = omega (arith, some_depth e);
        scope = s.scope;
        same = same_locals s.scope;
        seen = s.seen;
        more = [];
        counts = omega (arith, at_free);
        taken = λ t seen. ap (λ (t : Situation). t.seen) (sees_nothing x t (omega (arith, at_x, local.below, few))) ∙ seen;
        reaches = stays p q s local.same;
        popped = λ t before base in_scope entries next.
            ap (λ x. pop_operand f x t) at_x
            ∙ local_popped f listed r local.text t before (omega (arith, local.below, few)) (omega (arith, local.below, locals.base, base)) (in_scope ∙ locals.places) local.named entries;
        kept = inl (refl, low_kept s.base x (omega (arith, at_x, local.below, locals.base)));
      }

  operand_by_forward : (o : Option ℕ) (free x free1 : ℕ) (p q : Spot) → local_at (related g e).form active p ≡ o → OperandBy o g active (related g e) free x free1 p q → p.pc ≤ q.pc
  operand_by_forward (Some r) free x free1 p q is at = let local = local_operand is_function all e r p q is at.passed in omega (arith, local.same)
  operand_by_forward None free x free1 p q is at = reads.forward free free p q at.value_at

  operand_by_begins : (o : Option ℕ) (free x free1 : ℕ) (p q : Spot) → q.pc ≤ f.last → local_at (related g e).form active p ≡ o → OperandBy o g active (related g e) free x free1 p q → BeginsOrNone f free free1 p.pc q.pc
  operand_by_begins (Some r) free x free1 p q within is at = let local = local_operand is_function all e r p q is at.passed in inl (sym local.same, at.at_free)
  operand_by_begins None free x free1 p q within is at = inr (reads.begins free p q within at.value_at)

  operand_by_comes : (o : Option ℕ) (free x free1 : ℕ) (p q : Spot) (s : Situation) → local_at (related g e).form active p ≡ o → HasLocals active listed s → free ≡ next_free s → IsQuiet f s.scope p.pc q.pc → IsOperandWanted f s free x free1 q.pc →
      OperandBy o g active (related g e) free x free1 p q → OperandComes f (valued (IsCore g active e) p.functions q.functions) (depth_of_expression e) s free x free1 p.pc q.pc
  operand_by_comes (Some r) free x free1 p q s is locals next quiet wanted at = local_comes r free x free1 p q s locals at.at_x at.at_free (local_operand is_function all e r p q is at.passed)
  operand_by_comes None free x free1 p q s is locals next quiet wanted at =
      next_comes free x free1 at.at_x (omega (arith, at.room, is_function.few)) at.at_free (comes_next reads free p q s locals next quiet (wanted at.at_x at.at_free) at.value_at)

  -- a local, or the next register
  pub operand_reads : ReadsOperand f g active listed (valued (IsCore g active e)) (depth_of_expression e) (OperandAt g active (related g e))
  operand_reads = record {
    forward = λ free x free1 p q at. operand_by_forward (local_at (related g e).form active p) free x free1 p q refl at;
    begins = λ free x free1 p q within at. operand_by_begins (local_at (related g e).form active p) free x free1 p q within refl at;
    comes = λ free x free1 p q s locals next quiet wanted at. operand_by_comes (local_at (related g e).form active p) free x free1 p q s refl locals next quiet wanted at;
  }

  rk_by_forward : (o : Option Constant) (free x free1 : ℕ) (p q : Spot) → RkBy o g active (related g e) free x free1 p q → p.pc ≤ q.pc
  rk_by_forward (Some k) free x free1 p q (inl at) = omega (arith, at.same.pc)
  rk_by_forward (Some k) free x free1 p q (inr (large, at)) = operand_reads.forward free x free1 p q at
  rk_by_forward None free x free1 p q at = operand_reads.forward free x free1 p q at

  rk_by_begins : (o : Option Constant) (free x free1 : ℕ) (p q : Spot) → q.pc ≤ f.last → RkBy o g active (related g e) free x free1 p q → BeginsOrNone f free free1 p.pc q.pc
  rk_by_begins (Some k) free x free1 p q within (inl at) = inl (sym at.same.pc, at.at_free)
  rk_by_begins (Some k) free x free1 p q within (inr (large, at)) = operand_reads.begins free x free1 p q within at
  rk_by_begins None free x free1 p q within at = operand_reads.begins free x free1 p q within at

  rk_by_comes : (o : Option Constant) (free x free1 : ℕ) (p q : Spot) (s : Situation) → HasLocals active listed s → free ≡ next_free s → IsQuiet f s.scope p.pc q.pc → IsOperandWanted f s free x free1 q.pc → RkBy o g active (related g e) free x free1 p q →
      OperandComes f (IsOperandBy o g (IsCore g active e) p.functions q.functions) (depth_of_expression e) s free x free1 p.pc q.pc
  rk_by_comes (Some k) free x free1 p q s locals next quiet wanted (inl at) = operand_so (some_depth e) (λ o is. inl (at.same.functions, is)) (small_comes k s free x free1 is_function at)
  rk_by_comes (Some k) free x free1 p q s locals next quiet wanted (inr (large, at)) = operand_so (omega arith) (λ o is. inr (large, is)) (operand_reads.comes free x free1 p q s locals next quiet wanted at)
  rk_by_comes None free x free1 p q s locals next quiet wanted at = operand_reads.comes free x free1 p q s locals next quiet wanted at

  -- a literal is a constant where its number is small
  pub rk_reads : ReadsOperand f g active listed (IsOperand g active e) (depth_of_expression e) (RkAt g active (related g e))
  rk_reads = record {
    forward = λ free x free1 p q at. rk_by_forward (related g e).form.literal free x free1 p q at;
    begins = λ free x free1 p q within at. rk_by_begins (related g e).form.literal free x free1 p q within at;
    comes = λ free x free1 p q s locals next quiet wanted at.
        subst (λ (form : Form). OperandComes f (IsOperandBy form.literal g (IsCore g active e) p.functions q.functions) (depth_of_expression e) s free x free1 p.pc q.pc) (form_is g e)
        (rk_by_comes (related g e).form.literal free x free1 p q s locals next quiet wanted at);
  }

-- the name of a field
pub text_forward : (g : Fn) (text : Text) (free x free1 : ℕ) (p q : Spot) → RkTextAt g text free x free1 p q → p.pc ≤ q.pc
text_forward g text free x free1 p q (inl at) = omega (arith, at.same.pc)
text_forward g text free x free1 p q (inr (large, at)) = let w = at.value_at in omega (arith, w.word.next)

text_begins : {f : Function} {g : Fn} (text : Text) (free x free1 : ℕ) (p q : Spot) → IsFunction f g → RkTextAt g text free x free1 p q → BeginsOrNone f free free1 p.pc q.pc
text_begins text free x free1 p q is_function (inl at) = inl (sym at.same.pc, at.at_free)
text_begins text free x free1 p q is_function (inr (large, at)) = let w = at.value_at in inr (word_begins free is_function w.word (abx_is_read is_function w.word) refl (omega arith))

module _ {f : Function} {g : Fn} {active : List Active} {listed : List ℕ} (is_function : IsFunction f g) (text : Text) where
  text_comes : (free x free1 : ℕ) (p q : Spot) (s : Situation) → HasLocals active listed s → free ≡ next_free s → IsQuiet f s.scope p.pc q.pc → IsOperandWanted f s free x free1 q.pc → RkTextAt g text free x free1 p q → OperandComes f (IsKey g text p.functions q.functions) 1 s free x free1 p.pc q.pc
  text_comes free x free1 p q s locals next quiet wanted (inl at) = operand_so (omega arith) (λ o is. inl (at.same.functions, is)) (small_comes (Constant.Text text) s free x free1 is_function at)
  text_comes free x free1 p q s locals next quiet wanted (inr (large, at)) =
      operand_so (omega arith) (λ o is. inr (large, is))
      (next_comes free x free1 at.at_x (omega (arith, at.room, is_function.few)) at.at_free
      (comes_next (constant_reads {active = active} {listed = listed} is_function (Constant.Text text)) free p q s locals next quiet (wanted at.at_x at.at_free) at.value_at))

  pub text_key_reads : ReadsOperand f g active listed (IsKey g text) 1 (RkTextAt g text)
  text_key_reads = record { forward = text_forward g text; begins = λ free x free1 p q within at. text_begins text free x free1 p q is_function at; comes = text_comes }
