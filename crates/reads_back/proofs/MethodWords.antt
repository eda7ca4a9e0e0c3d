-- The words of a method call are read as a call of the method of what its value is read as.
use Rattle.std.proofs.Common.{◌≡◌, ℕ, suc, ◌+◌, ◌-◌, ◌*◌, ◌<◌, ◌≤◌, inl, inr, max, true, false, nat_le, Bool, List, [], ◌∷◌, ◌++◌, length, length-append, append_assoc, Option, Some, None, refl, sym, ap, ap₂, ◌∙◌, subst, arith, lt-ltb, le-leb, eq-eqb, subst₂, zero}
use Rattle.std.proofs.lemmas.Option.{slice_get_within}
use Rattle.std.specs.Prelude.{option_map, option_and_then, slice_get, if◌then◌else◌}
use Rattle.lua_num.specs.Bytes.{Text}
use Rattle.opcode.specs.declared.op.Op.{Op}
use Rattle.proto.specs.declared.parts.Constant.{Constant}
use Rattle.core_expr.specs.Counting.{with_constant, taken_behind, taken_behind_operand, taken_behind_values}
use Rattle.core_expr.specs.Making.{depth_of, depth_of_operand, deepest}
use Rattle.core_expr.specs.Values.{Value, Values, constant_value, OperandValue, constant_operand, value_operand}
use Rattle.recover_expr.specs.Drafts.{makes}
use Rattle.recover_expr.specs.Entries.{Entries, Listed, more_entry, method_entry, place_in}
use Rattle.recover_expr.specs.Locals.{Scope}
use Rattle.recover_expr.specs.Reading.{Turn, on as goes_to, turn_at, turn_of, turned}
use Rattle.recover_expr.specs.Situation.{Function, Situation, constant_in, pop, see_constant, word_at, instr_at}
use Rattle.recover_expr.specs.Words.{Done, far_method, far_method_on, far_self, gone, loaded, method_named, with_method, with_more}
use Rattle.scheme.specs.Expressions.{Want, count_field}
use Rattle.scheme.specs.declared.making.Piece.{Piece}
use Rattle.scheme.specs.declared.making.Active.{Active}
use Rattle.scheme_stands.specs.Expressions.{Rel, OperandAt, OperandBy, RkTextAt, local_at}
use Rattle.scheme_stands.specs.Lists.{GivenRel, MethodAt}
use Rattle.scheme_stands.specs.Words.{Fn, Spot, WordAt, instr_by}
use Rattle.reads_back.proofs.CallWords.{method_of, method_is_made, method_called}
use Rattle.reads_back.proofs.Comes.{Begins, IsWanted, CallComes, ReadsCall, GivenComes, ReadsGiven, OperandComes, ReadsOperand, BeginsOrNone}
use Rattle.reads_back.proofs.BehindWords.{HasLocals, SameLocals, same_then, quiet_same, behind_words, locals_then}
use Rattle.reads_back.proofs.BothOperands.{same_value}
use Rattle.reads_back.proofs.OperandReads.{text_forward}
use Rattle.reads_back.proofs.Operators.{on_is_read}
use Rattle.reads_back.proofs.Reaches.{Reaches, here, word, reaches_on, reaches_then}
use Rattle.reads_back.proofs.ValueWords.{entry_next, next_free, place_of_next}
use Rattle.reads_back.proofs.WordsBegin.{word_begins, word_wants, second_begins, name_wants, instr_is}
use Rattle.reads_back.proofs.WordsRead.{IsFunction, IsQuiet, abc_is_read, abx_is_read, quiet_before, quiet_from, turn_there, word_of, word_there}
use Rattle.reads_back.specs.Cores.{HasNumber, IsMethodCalled, IsValueOperand, Counted, CountedValues, valued, method_called_by}
use Rattle.reads_back.proofs.Deeper.{call_so}

-- ---- what a method is called on

-- Words before it: they come to these entries more, which the word that names its register takes off again.
record OnComes (f : Function) (On : Value → Type 0) (deep : ℕ) (s : Situation) (x first last : ℕ) : Type 0 where
  value : Value
  is : On value
  shallow : depth_of value ≤ 2 * deep
  scope : Scope
  same : SameLocals s.scope scope
  seen : ℕ
  taken : taken_behind value s.seen ≡ seen
  more : Entries
  few : length more ≤ 1
  reaches : Reaches f first s last (behind_words scope seen more s)
  popped : (t : Situation) → t.base ≡ s.base → t.scope.active ≡ s.scope.active → t.entries ≡ s.entries ++ more → pop f x t ≡ Some (value, record t { entries = s.entries })

both_same : (one other : OperandValue × Situation) → Some one ≡ Some other → (one.0 ≡ other.0) × (one.1 ≡ other.1)
both_same one other is = let same : one ≡ other = cc in (ap (λ (p : OperandValue × Situation). p.0) same, ap (λ (p : OperandValue × Situation). p.1) same)

-- what is taken off as a value is no constant
popped_by : (far : Bool) (constant : Option ℕ) (there : Option (Value × Situation)) (t behind : Situation) (v : Value) →
    (if far then option_map {U = OperandValue × Situation} (λ k. (constant_operand k, t)) constant else option_map {U = OperandValue × Situation} (λ p. (value_operand p.0, p.1)) there) ≡ Some (value_operand v, behind) →
    (far ≡ false) × (there ≡ Some (v, behind))
popped_by true None there t behind v is = absurd cc
popped_by true (Some k) there t behind v is = let both = (both_same (constant_operand k, t) (value_operand v, behind) is).0 in absurd cc
popped_by false constant None t behind v is = absurd cc
popped_by false constant (Some p) t behind v is =
    let both = both_same (value_operand p.0, p.1) (value_operand v, behind) is in
    (refl, ap₂ (λ (v : Value) (s : Situation). Some (v, s)) (same_value p.0 v both.0) both.1)

-- it takes a register, or none where it is a local
one_at_most : (local : Option ℕ) (g : Fn) (active : List Active) (on : Rel) (free x free1 : ℕ) (p q : Spot) → OperandBy local g active on free x free1 p q → free1 ≤ free + 1
one_at_most None g active on free x free1 p q at = omega (arith, at.at_free)
one_at_most (Some r) g active on free x free1 p q at = omega (arith, at.at_free)

on_comes : {f : Function} {On : Value → Type 0} {deep free x free1 first last : ℕ} {s : Situation} → free ≡ next_free s → free1 ≤ free + 1 → OperandComes f (IsValueOperand On) deep s free x free1 first last → OnComes f On deep s x first last
on_comes {f} {deep = deep} {x = x} {s = s} is fits comes =
    let v = comes.is.0 in
    let popped = λ (t : Situation) (base : t.base ≡ s.base) (active : t.scope.active ≡ s.scope.active) (entries : t.entries ≡ s.entries ++ comes.more).
    popped_by (nat_le 256 x) (constant_in f (x - 256)) (pop f x t) t (record t { entries = s.entries }) v
    (comes.popped t s.entries base active entries (ap (λ base. base + length s.entries) base ∙ sym is) ∙ ap (λ operand. Some (operand, record t { entries = s.entries })) comes.is.2) in
    let t = behind_words comes.scope comes.seen comes.more s in
    let near = (popped t refl comes.same.active refl).0 in
    record {
      value = v;
      is = comes.is.1;
      shallow = subst (λ operand. depth_of_operand operand ≤ 2 * deep) comes.is.2 comes.shallow;
      scope = comes.scope;
      same = comes.same;
      seen = comes.seen;
      taken = sym (ap (λ far. (if far then see_constant (x - 256) t else t).seen) (sym near) ∙ comes.taken t refl ∙ ap (λ operand. taken_behind_operand operand s.seen) comes.is.2);
      more = comes.more;
      few = omega (arith, fits, comes.counts);
      reaches = comes.reaches;
      popped = λ t base active entries. (popped t base active entries).1;
    }

-- ---- the words of a method

-- a method stands in two registers
abbrev and_method : Value → (number : ℕ) → Situation → Situation
and_method v number s = record s { entries = s.entries ++ method_entry v number ∷ more_entry ∷ [] }

method_set : (a number : ℕ) (v : Value) (t : Situation) → a ≡ next_free t → with_method a v number t ≡ Some (and_method v number t)
method_set a number v t is =
    ap (option_map (with_more (more_entry ∷ []))) (entry_next (method_entry v number) t a is)
    ∙ ap (λ (entries : Entries). Some (record t { entries = entries })) (append_assoc t.entries (method_entry v number ∷ []) (more_entry ∷ []))

-- SELF, which names its constant
self_turn : (f : Function) (pc free x number : ℕ) (t behind : Situation) (v : Value) → number < length f.of.constants → pop f x (see_constant number t) ≡ Some (v, behind) → free ≡ next_free behind →
    turn_of f t (word_of pc (Piece.Abc Op.Self_ free x (number + 256))) ≡ Some (goes_to (suc pc), and_method v number behind)
self_turn f pc free x number t behind v within popped is =
    let w = word_of pc (Piece.Abc Op.Self_ free x (number + 256)) in
    let turn : Done → Option (Turn × Situation) = option_and_then (λ p. turned f w p.1 p.0) in
    let does = λ (seen : Situation) (n : ℕ). option_and_then (method_named f w seen) (constant_in f n) in
    let puts : Option (Value × Situation) → Done = option_and_then (λ p. gone (suc pc) (with_method free p.0 number p.1)) in
    let same : number + 256 - 256 ≡ number = omega arith in
    ap (λ named. turn (if named then does (if named then see_constant (number + 256 - 256) t else t) (number + 256 - 256) else None)) (le-leb 256 (number + 256) (omega arith))
    ∙ ap (λ n. turn (does (see_constant n t) n)) same
    ∙ ap (λ there. turn (option_and_then (method_named f w (see_constant number t)) (if there then Some number else None))) (lt-ltb number (length f.of.constants) within)
    ∙ ap (λ on. turn (puts on)) popped
    ∙ ap (λ put. turn (gone (suc pc) put)) (method_set free number v behind is)

-- the LOADK of a name whose number is too large for that, and the SELF behind it
load_turn : (f : Function) (pc free x number count : ℕ) (t behind : Situation) (v : Value) → number < length f.of.constants → free + 2 ≡ t.base + count → length t.entries < count → suc pc < f.last →
    word_at f (suc pc) ≡ Some (word_of (suc pc) (Piece.Abc Op.Self_ free x (free + 2))) → pop f x (see_constant number t) ≡ Some (v, behind) → free ≡ next_free behind →
    turn_of f t (word_of pc (Piece.Abx Op.LoadK (free + 2) number)) ≡ Some (goes_to (suc (suc pc)), and_method v number behind)
load_turn f pc free x number count t behind v within above far before there popped is =
    let w = word_of pc (Piece.Abx Op.LoadK (free + 2) number) in
    let self = word_of (suc pc) (Piece.Abc Op.Self_ free x (free + 2)) in
    let seen = see_constant number t in
    let turn : Done → Option (Turn × Situation) = option_and_then (λ p. turned f w p.1 p.0) in
    ap (λ there. turn (option_and_then (loaded f w seen (place_in t.base (free + 2))) (if there then Some number else None))) (lt-ltb number (length f.of.constants) within)
    ∙ ap (λ place. turn (loaded f w seen place number)) (place_of_next t.base count (free + 2) above)
    ∙ ap (λ far. turn (if far then far_method f w number seen else Some (makes (constant_value number) (suc pc), seen))) (lt-ltb (length t.entries) count far)
    ∙ ap (λ before. turn (if before then option_and_then (far_self f w number seen) (word_at f (suc pc)) else None)) (lt-ltb (suc pc) f.last before)
    ∙ ap (λ self. turn (option_and_then (far_self f w number seen) self)) there
    ∙ ap (λ same. turn (if same then option_and_then (far_method_on w number self) (pop f x seen) else None)) (eq-eqb (free + 2) (free + 2) refl)
    ∙ ap (λ on. turn (option_and_then (far_method_on w number self) on)) popped
    ∙ ap (λ same. turn (if same then gone (suc (suc pc)) (with_method free v number behind) else None)) (eq-eqb (free + 2) (free + 2) refl)
    ∙ ap (λ put. turn (gone (suc (suc pc)) put)) (method_set free number v behind is)

record MethodComes (f : Function) (g : Fn) (name : Text) (On : Value → Type 0) (deep : ℕ) (s : Situation) (first last : ℕ) : Type 0 where
  value : Value
  is : On value
  shallow : depth_of value ≤ 2 * deep
  number : ℕ
  named : HasNumber g (Constant.Text name) number
  scope : Scope
  same : SameLocals s.scope scope
  seen : ℕ
  taken : with_constant (taken_behind value s.seen) number ≡ seen
  reaches : Reaches f first s last (behind_words scope seen (method_entry value number ∷ more_entry ∷ []) s)

-- the word that takes the value off sets the method
method_comes : {f : Function} {g : Fn} {name : Text} {On : Value → Type 0} {deep x first mid last : ℕ} {s : Situation} (on : OnComes f On deep s x first mid) (number : ℕ) → HasNumber g (Constant.Text name) number → mid < last →
    turn_at f mid (behind_words on.scope on.seen on.more s) ≡ Some (goes_to last, behind_words on.scope (with_constant on.seen number) (method_entry on.value number ∷ more_entry ∷ []) s) → MethodComes f g name On deep s first last
method_comes on number named later turn = record {
  value = on.value;
  is = on.is;
  shallow = on.shallow;
  number = number;
  named = named;
  scope = on.scope;
  same = on.same;
  seen = with_constant on.seen number;
  taken = ap (λ seen. with_constant seen number) on.taken;
  reaches = reaches_then on.reaches (word later turn here);
}

constant_within : {f : Function} {g : Fn} (number : ℕ) (k : Constant) → IsFunction f g → slice_get g.constants number ≡ Some k → number < length f.of.constants
constant_within {f} number k is_function is = slice_get_within f.of.constants number k (ap (λ constants. slice_get constants number) is_function.constants ∙ is)

-- the value is taken off where the constant is seen
on_popped : {f : Function} {On : Value → Type 0} {deep x first last : ℕ} {s : Situation} (on : OnComes f On deep s x first last) (number : ℕ) →
    pop f x (see_constant number (behind_words on.scope on.seen on.more s)) ≡ Some (on.value, record s { scope = on.scope; seen = with_constant on.seen number })
on_popped {s = s} on number = on.popped (see_constant number (behind_words on.scope on.seen on.more s)) refl on.same.active refl

near_comes : {f : Function} {g : Fn} {name : Text} {On : Value → Type 0} {deep free x first : ℕ} {p q : Spot} {s : Situation} (on : OnComes f On deep s x first p.pc) (number : ℕ) → IsFunction f g → free ≡ next_free s → IsQuiet f s.scope first q.pc →
    HasNumber g (Constant.Text name) number → WordAt g (Piece.Abc Op.Self_ free x (number + 256)) p q → MethodComes f g name On deep s first q.pc
near_comes {f} {name = name} {free = free} {x = x} {p = p} {q = q} {s = s} on number is_function is quiet named at =
    let later : p.pc < q.pc = omega (arith, at.next) in
    let t = behind_words on.scope on.seen on.more s in
    let behind = record s { scope = on.scope; seen = with_constant on.seen number } in
    let there = word_there is_function at (abc_is_read is_function at) (omega (arith, later, quiet.within)) in
    let turn =
    turn_there p.pc t (quiet_same on.same quiet) (reaches_on on.reaches) later there
    ∙ self_turn f p.pc free x number t behind on.value (constant_within number (Constant.Text name) is_function named.is) (on_popped on number) is
    ∙ ap (λ (next : ℕ). Some (goes_to next, and_method on.value number behind)) (sym at.next) in
    method_comes on number named later turn

far_comes : {f : Function} {g : Fn} {name : Text} {On : Value → Type 0} {deep free x number first : ℕ} {p mid q : Spot} {s : Situation} (on : OnComes f On deep s x first p.pc) → IsFunction f g → free ≡ next_free s → IsQuiet f s.scope first q.pc →
    HasNumber g (Constant.Text name) number → WordAt g (Piece.Abx Op.LoadK (free + 2) number) p mid → WordAt g (Piece.Abc Op.Self_ free x (free + 2)) mid q → MethodComes f g name On deep s first q.pc
far_comes {f} {name = name} {free = free} {x = x} {number = number} {p = p} {mid = mid} {q = q} {s = s} on is_function is quiet named at self_at =
    let later : p.pc < q.pc = omega (arith, at.next, self_at.next) in
    let t = behind_words on.scope on.seen on.more s in
    let behind = record s { scope = on.scope; seen = with_constant on.seen number } in
    let before : suc p.pc < f.last = omega (arith, at.next, self_at.next, quiet.within) in
    let there = word_there is_function at (abx_is_read is_function at) (omega (arith, before)) in
    let self_there = subst (λ (pc : ℕ). word_at f pc ≡ Some (word_of pc (Piece.Abc Op.Self_ free x (free + 2)))) at.next (word_there is_function self_at (abc_is_read is_function self_at) (omega (arith, before, at.next))) in
    let fits : length t.entries < length s.entries + 2 = omega (arith, length-append s.entries on.more, on.few) in
    let next : suc (suc p.pc) ≡ q.pc = omega (arith, at.next, self_at.next) in
    let turn =
    turn_there p.pc t (quiet_same on.same quiet) (reaches_on on.reaches) later there
    ∙ load_turn f p.pc free x number (length s.entries + 2) t behind on.value (constant_within number (Constant.Text name) is_function named.is) (omega (arith, is)) fits before self_there (on_popped on number) is
    ∙ ap (λ (next : ℕ). Some (goes_to next, and_method on.value number behind)) next in
    method_comes on number named later turn

-- a constant with a small number stands in the SELF
named_comes : {f : Function} {g : Fn} {name : Text} {On : Value → Type 0} {deep free x y free2 first : ℕ} {p mid q : Spot} {s : Situation} (on : OnComes f On deep s x first p.pc) → IsFunction f g → free ≡ next_free s → IsQuiet f s.scope first q.pc →
    RkTextAt g name (free + 2) y free2 p mid → WordAt g (Piece.Abc Op.Self_ free x y) mid q → MethodComes f g name On deep s first q.pc
named_comes {f} {g} {name} {On} {deep} {free} {x} {first = first} {p = p} {mid = mid} {q = q} {s = s} on is_function is quiet (inl small) at =
    let there = subst (λ (pc : ℕ). OnComes f On deep s x first pc) (sym small.same.pc) on in
    near_comes there small.number is_function is quiet (record { is = small.is; first = small.first }) (subst (λ (y : ℕ). WordAt g (Piece.Abc Op.Self_ free x y) mid q) small.at_x at)
named_comes {g = g} {free = free} {x = x} {mid = mid} {q = q} on is_function is quiet (inr (large, far)) at =
    far_comes on is_function is quiet (record { is = far.value_at.is; first = far.value_at.first }) far.value_at.word (subst (λ (y : ℕ). WordAt g (Piece.Abc Op.Self_ free x y) mid q) far.at_x at)

-- ---- a method and its arguments

-- what is known behind a method
abbrev behind_method : {f : Function} {g : Fn} {name : Text} {On : Value → Type 0} {deep first last : ℕ} {s : Situation} → MethodComes f g name On deep s first last → Situation
behind_method {s = s} one = behind_words one.scope one.seen (method_entry one.value one.number ∷ more_entry ∷ []) s

-- and behind its arguments
abbrev behind_both : {f : Function} {g : Fn} {name : Text} {On : Value → Type 0} {Given : Values → Bool → Type 0} {deep first mid last : ℕ} {count : Want} {s : Situation} (one : MethodComes f g name On deep s first mid) →
    GivenComes f Given deep (behind_method one) count mid last → Situation
behind_both {s = s} one args = behind_words args.scope args.seen (method_entry one.value one.number ∷ more_entry ∷ args.more) s

both_reached : {f : Function} {g : Fn} {name : Text} {On : Value → Type 0} {Given : Values → Bool → Type 0} {deep first mid last : ℕ} {count : Want} {s : Situation} (one : MethodComes f g name On deep s first mid)
    (args : GivenComes f Given deep (behind_method one) count mid last) → Reaches f first s last (behind_both one args)
both_reached {f} {mid = mid} {last = last} {s = s} one args =
    reaches_then one.reaches
    (subst (λ (entries : Entries). Reaches f mid (behind_method one) last (record s { scope = args.scope; entries = entries; seen = args.seen })) (append_assoc s.entries (method_entry one.value one.number ∷ more_entry ∷ []) args.more) args.reaches)

both_called : {f : Function} {g : Fn} {name : Text} {On : Value → Type 0} {Given : Values → Bool → Type 0} {deep first mid : ℕ} {last q : Spot} {count : Want} {s : Situation} (op : Op) (free c : ℕ) (one : MethodComes f g name On deep s first mid)
    (args : GivenComes f Given deep (behind_method one) count mid last.pc) → IsFunction f g → deep < 200 → free ≡ next_free s → IsQuiet f s.scope first q.pc → WordAt g (Piece.Abc op free (count_field 2 count) c) last q →
    CallComes f (IsMethodCalled g name On Given) (suc deep) s op free c first q.pc
both_called {deep = deep} {last = last} {q = q} {count = count} {s = s} op free c one args is_function few is quiet at =
    let deepest_part = max (depth_of one.value) (deepest args.values) in
    let shallow : deepest_part ≤ suc (2 * deep) = omega (arith, one.shallow, args.shallow) in
    let under : deepest_part < 400 = omega (arith, shallow, few) in
    let method = method_entry one.value one.number ∷ more_entry ∷ [] in
    let place : length s.entries + 2 ≡ length (s.entries ++ method) = sym (length-append s.entries method) in
    let list : Listed = record { values = args.values; all = args.all } in
    let same = same_then one.same args.same in
    let reaches = both_reached one args in
    let later : last.pc < q.pc = omega (arith, at.next) in
    let b = count_field 2 count in
    let w = word_of last.pc (Piece.Abc op free b c) in
    record {
      value = method_of one.value one.number args.values args.all;
      is = (one.value, one.number, args.values, args.all, one.is, one.named, args.are, method_is_made one.value one.number args.values args.all under);
      shallow = omega (arith, shallow);
      scope = args.scope;
      same = same;
      seen = args.seen;
      taken = ap (taken_behind_values args.values) one.taken ∙ args.taken;
      more = method_entry one.value one.number ∷ more_entry ∷ args.more;
      b = b;
      pc = last.pc;
      next = at.next;
      reaches = reaches;
      turn = turn_there last.pc (behind_both one args) (quiet_same same quiet) (reaches_on reaches) later (word_there is_function at (abc_is_read is_function at) (omega (arith, later, quiet.within)));
      makes = method_called w (behind_both one args) s.entries args.more one.value one.number count list refl is refl under (args.listed (s.entries ++ method) (length s.entries + 2) (count_field 1 count) place refl);
    }

name_keeps : {g : Fn} {name : Text} (free y free2 : ℕ) (p q : Spot) → RkTextAt g name free y free2 p q → q.functions ≡ p.functions
name_keeps free y free2 p q (inl small) = small.same.functions
name_keeps free y free2 p q (inr (large, far)) = far.value_at.word.functions

-- the words behind the object begin with one that makes a value for a register from the next free one on
name_begins : {f : Function} {g : Fn} {name : Text} {x : ℕ} (free y free2 : ℕ) (p mid q : Spot) → IsFunction f g → RkTextAt g name (free + 2) y free2 p mid → WordAt g (Piece.Abc Op.Self_ free x y) mid q → Begins f free p.pc
name_begins {f} free y free2 p mid q is_function (inl small) at = subst (λ (pc : ℕ). Begins f free pc) small.same.pc (word_begins free is_function at (abc_is_read is_function at) refl refl)
name_begins free y free2 p mid q is_function (inr (large, far)) at = let w = far.value_at.word in second_begins free is_function w (abx_is_read is_function w) refl refl

-- they want it: SELF reads its register, also behind the load of the name
object_wanted : {f : Function} {g : Fn} {name : Text} (free x y free2 : ℕ) (p mid q : Spot) (s : Situation) → IsFunction f g → IsQuiet f s.scope p.pc q.pc → free ≡ next_free s → x ≡ free →
    RkTextAt g name (free + 2) y free2 p mid → WordAt g (Piece.Abc Op.Self_ free x y) mid q → IsWanted f s p.pc
object_wanted {f} free x y free2 p mid q s is_function quiet is at_x (inl small) at =
    let stay = quiet.stays mid.pc (omega (arith, small.same.pc)) (omega (arith, at.next)) in
    subst (λ (pc : ℕ). IsWanted f s pc) small.same.pc (word_wants s stay is_function at (abc_is_read is_function at) (on_is_read s.base x y (omega (arith, is, at_x))))
object_wanted {f} {g} free x y free2 p mid q s is_function quiet is at_x (inr (large, far)) at = by (length s.entries) refl
  where
    w : WordAt g (Piece.Abx Op.LoadK (free + 2) far.value_at.number) p mid
    w = far.value_at.word

    by : (n : ℕ) → length s.entries ≡ n → IsWanted f s p.pc
    by (suc n) some = inl (omega (arith, some))
    by zero none =
        let call = instr_by mid.pc (Piece.Abc Op.Self_ free x y) in
        let next : mid.pc ≡ p.pc + 1 = omega (arith, w.next) in
        let there = ap (instr_at f) (sym next) ∙ instr_is is_function at (abc_is_read is_function at) in
        name_wants f p.pc (instr_by p.pc (Piece.Abx Op.LoadK (free + 2) far.value_at.number)) call s (quiet.stays p.pc (omega arith) (omega (arith, w.next, at.next))) (instr_is is_function w (abx_is_read is_function w)) refl
        (omega (arith, is)) (omega (arith, w.next, at.next, quiet.within)) there (eq-eqb x s.base (omega (arith, at_x, is, none)))

module _ {f : Function} {g : Fn} {active : List Active} {listed : List ℕ} {On : Counted Value} {Given : CountedValues} {deep : ℕ} (on_part : Rel) (name : Text) (given : GivenRel) (is_function : IsFunction f g) (few : deep < 200)
    (on_reads : ReadsOperand f g active listed (valued On) deep (OperandAt g active on_part)) (given_reads : ReadsGiven f g active listed Given deep given) where
  method_forward : (free : ℕ) (op : Op) (want : Want) (p q : Spot) → MethodAt g on_part name given active free op want p q → p.pc ≤ q.pc
  method_forward free op want p q at =
      let on_first = on_reads.forward free at.x at.free1 p at.mid at.on_at in
      let named = text_forward _ _ (free + 2) at.y at.free2 at.mid at.named at.name_at in
      omega (arith, on_first, named, at.self_at.next, given_reads.forward (free + 2) at.begun at.last at.given_at, at.word.next)

  -- the first word of the object, of the load of the name, or SELF
  method_begins : (free : ℕ) (op : Op) (want : Want) (p q : Spot) → q.pc ≤ f.last → MethodAt g on_part name given active free op want p q → Begins f free p.pc
  method_begins free op want p q within at =
      let named = text_forward _ _ (free + 2) at.y at.free2 at.mid at.named at.name_at in
      let begun : at.begun.pc ≤ f.last = omega (arith, within, given_reads.forward (free + 2) at.begun at.last at.given_at, at.word.next) in
      by_object (on_reads.begins free at.x at.free1 p at.mid (omega (arith, named, at.self_at.next, begun)) at.on_at)
    where
      by_object : BeginsOrNone f free at.free1 p.pc at.mid.pc → Begins f free p.pc
      by_object (inr begins) = begins
      by_object (inl (same, none)) = subst (λ (pc : ℕ). Begins f free pc) (sym same) (name_begins free at.y at.free2 at.mid at.named at.begun is_function at.name_at at.self_at)

  method_comes_to : (free : ℕ) (op : Op) (want : Want) (p q : Spot) (s : Situation) → HasLocals active listed s → free ≡ next_free s → IsQuiet f s.scope p.pc q.pc → MethodAt g on_part name given active free op want p q →
      CallComes f (method_called_by g name On Given p.functions q.functions) (suc deep) s op free (count_field 1 want) p.pc q.pc
  method_comes_to free op want p q s locals is quiet at =
      let on_first = on_reads.forward free at.x at.free1 p at.mid at.on_at in
      let named = text_forward _ _ (free + 2) at.y at.free2 at.mid at.named at.name_at in
      let given_first = given_reads.forward (free + 2) at.begun at.last at.given_at in
      let before = quiet_before at.last.pc (omega (arith, at.word.next)) quiet in
      let begun = quiet_before at.begun.pc given_first before in
      let fits = one_at_most (local_at on_part.form active p) g active on_part free at.x at.free1 p at.mid at.on_at in
      let wanted = λ (at_x : at.x ≡ free) (at_free : at.free1 ≡ free + 1). object_wanted free at.x at.y at.free2 at.mid at.named at.begun s is_function (quiet_from at.mid.pc on_first begun) is at_x at.name_at at.self_at in
      let on = on_comes is fits (on_reads.comes free at.x at.free1 p at.mid s locals is (quiet_before at.mid.pc (omega (arith, named, at.self_at.next)) begun) wanted at.on_at) in
      let one = named_comes on is_function is begun at.name_at at.self_at in
      let next : free + 2 ≡ next_free (behind_method one) = omega (arith, is, length-append s.entries (method_entry one.value one.number ∷ more_entry ∷ [])) in
      let there : HasLocals active listed (behind_method one) = locals_then one.same locals in
      let first : p.pc ≤ at.begun.pc = omega (arith, on_first, named, at.self_at.next) in
      let some : 0 < length (behind_method one).entries = omega (arith, length-append s.entries (method_entry one.value one.number ∷ more_entry ∷ [])) in
      let args = given_reads.comes (free + 2) at.begun at.last (behind_method one) there next (quiet_same one.same (quiet_from at.begun.pc first before)) some at.given_at in
      let begun_made = at.begun.functions in
      let still_made = at.self_at.functions ∙ name_keeps (free + 2) at.y at.free2 at.mid at.named at.name_at in
      call_so (omega arith)
      (λ v made. (
        begun_made,
        subst₂ (λ (between behind : ℕ). IsMethodCalled g name (On p.functions between) (Given begun_made behind) v) (sym still_made) (sym at.word.functions) made,
      ))
      (both_called op free (count_field 1 want) one args is_function few is quiet at.word)

pub method_reads : {f : Function} {g : Fn} {active : List Active} {listed : List ℕ} {On : Counted Value} {Given : CountedValues} {deep : ℕ} (on : Rel) (name : Text) (given : GivenRel) → IsFunction f g → deep < 200 →
    ReadsOperand f g active listed (valued On) deep (OperandAt g active on) → ReadsGiven f g active listed Given deep given → ReadsCall f g active listed (method_called_by g name On Given) (suc deep) (MethodAt g on name given active)
method_reads on name given is_function few on_reads given_reads = record {
  forward = method_forward on name given is_function few on_reads given_reads;
  begins = method_begins on name given is_function few on_reads given_reads;
  comes = λ free op want p q s locals is quiet by at. method_comes_to on name given is_function few on_reads given_reads free op want p q s locals is quiet at;
}
