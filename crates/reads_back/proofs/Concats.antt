-- The operands of a `..`, which come to the next registers one behind the other, and the CONCAT behind them.
use Rattle.std.proofs.Common.{◌≡◌, ℕ, suc, ◌+◌, ◌-◌, ◌<◌, ◌≤◌, List, [], ◌∷◌, ◌++◌, length, length-append, append_assoc, Some, None, refl, sym, inl, ap, ◌∙◌, subst, arith, lt-ltb, eq-eqb}
use Rattle.std.proofs.Math.Nat.{max-le}
use Rattle.std.specs.Prelude.{option_map, option_and_then, if◌then◌else◌}
use Rattle.opcode.specs.declared.op.Op.{Op}
use Rattle.core_expr.specs.Counting.{taken_behind_values}
use Rattle.core_expr.specs.Making.{deepest}
use Rattle.core_expr.specs.Values.{Value, concat_value, Values, no_values}
use Rattle.core_expr.specs.Values as values
use Rattle.recover_expr.specs.Drafts.{makes}
use Rattle.recover_expr.specs.Entries.{Entries, place_in, singles_with, take_singles}
use Rattle.recover_expr.specs.Lists.{value_count}
use Rattle.recover_expr.specs.Situation.{Function, Situation}
use Rattle.recover_expr.specs.Words.{concat, concat_from, concat_of}
use Rattle.recover_expr.specs.declared.function.Word.{Word}
use Rattle.scheme.specs.declared.making.Piece.{Piece}
use Rattle.scheme.specs.declared.making.Active.{Active}
use Rattle.scheme_stands.specs.Expressions.{Rel, NextAt, SpineAt, ConcatAt}
use Rattle.scheme_stands.specs.Words.{Fn, Spot, Stretch, WordAt}
use Rattle.reads_back.specs.Cores.{IsConcat, IsFirst, IsOnly, Counted, only, first_and, concat_by}
use Rattle.reads_back.proofs.Comes.{AreEntries, Begins, Comes, Made, Reads, ReadsSpine, SpineComes, comes_next, behind_one}
use Rattle.reads_back.proofs.BehindWords.{HasLocals, behind_words, quiet_same, same_then, locals_then}
use Rattle.reads_back.proofs.Reaches.{Reaches, reaches_on, reaches_then}
use Rattle.reads_back.proofs.TakenEntries.{behind_taken, count_of_entries, more_entries}
use Rattle.reads_back.proofs.Tests.{both_hold}
use Rattle.reads_back.proofs.ValueWords.{next_free, place_of_next}
use Rattle.reads_back.proofs.WordsBegin.{begins_wants, wanted_above}
use Rattle.reads_back.proofs.WordsRead.{IsFunction, IsQuiet, abc_is_read, quiet_before, quiet_from, turn_there, word_of, word_there}
use Rattle.reads_back.proofs.Deeper.{spine_so, made_so}
use Rattle.reads_back.proofs.FurtherWords.{spine_further}

-- ---- a value alone, and with others behind it

-- the last operand
alone_comes : {f : Function} {Is : Value → Type 0} {deep free free1 first last : ℕ} {s : Situation} → free1 ≡ free + 1 → Comes f Is deep s first last → SpineComes f (IsOnly Is) deep s free free1 first last
alone_comes counts one = record {
  values = values.and_value one.value no_values;
  are = (one.value, one.is, refl);
  some = omega arith;
  shallow = omega (arith, one.shallow);
  counts = counts;
  scope = one.scope;
  same = one.same;
  seen = one.seen;
  taken = one.taken;
  entries = one.entry ∷ [];
  singles = more_entries one.entry [] one.value no_values one.single refl;
  reaches = one.reaches;
}

values_reached : {f : Function} {First : Value → Type 0} {Rest : Values → Type 0} {deep free free1 first mid last : ℕ} {s : Situation} (one : Comes f First deep s first mid) (rest : SpineComes f Rest deep (behind_one one) free free1 mid last) →
    Reaches f first s last (behind_words rest.scope rest.seen (one.entry ∷ rest.entries) s)
values_reached {f} {mid = mid} {last = last} {s = s} one rest =
    reaches_then one.reaches
    (subst (λ (entries : Entries). Reaches f mid (behind_one one) last (record s { scope = rest.scope; entries = entries; seen = rest.seen })) (append_assoc s.entries (one.entry ∷ []) rest.entries) rest.reaches)

-- an operand, and those along the spine behind it
first_comes : {f : Function} {First : Value → Type 0} {Rest : Values → Type 0} {deep free free1 first mid last : ℕ} {s : Situation} (one : Comes f First deep s first mid) → SpineComes f Rest deep (behind_one one) (free + 1) free1 mid last →
    SpineComes f (IsFirst First Rest) deep s free free1 first last
first_comes one rest = record {
  values = values.and_value one.value rest.values;
  are = (one.value, rest.values, one.is, rest.are, refl);
  some = omega arith;
  shallow = max-le one.shallow rest.shallow;
  counts = omega (arith, rest.counts);
  scope = rest.scope;
  same = same_then one.same rest.same;
  seen = rest.seen;
  taken = ap (taken_behind_values rest.values) one.taken ∙ rest.taken;
  entries = one.entry ∷ rest.entries;
  singles = more_entries one.entry rest.entries one.value rest.values one.single rest.singles;
  reaches = values_reached one rest;
}

-- ---- the CONCAT

-- a `..` is one deeper than its operands
abbrev concat_over : Values → Value
concat_over operands = concat_value operands (suc (deepest operands))

-- the word names the first and the last register of the highest ones, and there are more than one
record JoinsBy (w : Word) (s : Situation) (before : Entries) (operands : Values) (more : ℕ) : Type 0 where
  all : Entries
  singles : AreEntries all operands
  entries : s.entries ≡ before ++ all
  counts : value_count operands ≡ suc more
  some : 0 < more
  first : w.instr.b ≡ s.base + length before
  last : w.instr.c ≡ s.base + (length before + more)
  shallow : deepest operands < 400

joined : (w : Word) (s : Situation) (before : Entries) (operands : Values) (more : ℕ) → JoinsBy w s before operands more → concat w s ≡ Some (makes (concat_over operands) w.next, record s { entries = before })
joined w s before operands more joins =
    let first = length before in
    let last = length before + more in
    let size : length s.entries ≡ suc last = ap length joins.entries ∙ length-append before joins.all ∙ ap (λ n. first + n) (count_of_entries joins.all operands joins.singles ∙ joins.counts) ∙ omega arith in
    ap (λ place. concat_of w s place (place_in s.base w.instr.c)) (place_of_next s.base first w.instr.b joins.first)
    ∙ ap (concat_of w s (Some first)) (place_of_next s.base last w.instr.c joins.last)
    ∙ ap (λ there. if there then option_and_then (concat_from w s) (take_singles first s.entries) else None) (both_hold _ _ (lt-ltb first last (omega (arith, joins.some))) (eq-eqb (length s.entries) (suc last) size))
    ∙ ap (λ entries. option_and_then (concat_from w s) (take_singles first entries)) joins.entries
    ∙ ap (λ taken. option_and_then (concat_from w s) (option_and_then singles_with taken)) (behind_taken before joins.all first refl)
    ∙ ap (λ singles. option_and_then (concat_from w s) (option_map (λ vs. (vs, before)) singles)) joins.singles
    ∙ ap (λ few. option_map (λ v. (makes v w.next, record s { entries = before })) (if few then Some (concat_over operands) else None)) (lt-ltb (deepest operands) 400 joins.shallow)

joined_to : (w : Word) (s : Situation) (before : Entries) (operands : Values) (more next : ℕ) → JoinsBy w s before operands more → next ≡ w.next → concat w s ≡ Some (makes (concat_over operands) next, record s { entries = before })
joined_to w s before operands more next joins is = joined w s before operands more joins ∙ ap (λ (next : ℕ). Some (makes (concat_over operands) next, record s { entries = before })) (sym is)

-- the words of the operands, and the word
operands_joined : {f : Function} {g : Fn} {First : Value → Type 0} {Rest : Values → Type 0} {deep mid : ℕ} → IsFunction f g → deep < 200 → (free free1 r : ℕ) (p last q : Spot) (s : Situation) → free ≡ next_free s → IsQuiet f s.scope p.pc q.pc →
    WordAt g (Piece.Abc Op.Concat r free (free1 - 1)) last q → (one : Comes f First deep s p.pc mid) → SpineComes f Rest deep (behind_one one) (free + 1) free1 mid last.pc → Made f (IsConcat (IsFirst First Rest)) (suc deep) s r p.pc q.pc
unfolding first_comes
operands_joined is_function few free free1 r p last q s is quiet at one rest =
    let w = word_of last.pc (Piece.Abc Op.Concat r free (free1 - 1)) in
    let all = first_comes one rest in
    let t = behind_words all.scope all.seen all.entries s in
    let joins : JoinsBy w t s.entries all.values (value_count rest.values) = record {
      all = all.entries;
      singles = all.singles;
      entries = refl;
      counts = refl;
      some = rest.some;
      first = is;
      last = omega (arith, is, rest.counts, rest.some);
      shallow = omega (arith, all.shallow, few);
    } in
    let later : last.pc < q.pc = omega (arith, at.next) in
    record {
      value = concat_over all.values;
      is = (all.values, all.are, ap (λ small. if small then Some (concat_over all.values) else None) (lt-ltb (deepest all.values) 400 joins.shallow));
      shallow = omega (arith, all.shallow);
      scope = all.scope;
      same = all.same;
      seen = all.seen;
      taken = all.taken;
      before = t;
      word = w;
      reaches = all.reaches;
      turn = turn_there last.pc t (quiet_same all.same quiet) (reaches_on all.reaches) later (word_there is_function at (abc_is_read is_function at) (omega (arith, quiet.within)));
      later = later;
      register = refl;
      makes = joined_to w t s.entries all.values (value_count rest.values) q.pc joins at.next;
    }

-- ---- where they stand

module _ {f : Function} {g : Fn} {active : List Active} {listed : List ℕ} where
  pub spine_alone : {Is : Counted Value} {deep : ℕ} {to : (free r : ℕ) → Stretch} → Reads f g active listed Is deep to → ReadsSpine f g active listed (only Is) deep (λ free free1. NextAt g (to free free) free free free1)
  spine_alone reads = record {
    forward = λ free free1 p q at. reads.forward free free p q at.value_at;
    begins = λ free free1 p q within at. reads.begins free p q within at.value_at;
    comes = λ free free1 p q s locals is quiet wanted at. alone_comes at.at_free (comes_next reads free p q s locals is quiet wanted at.value_at);
  }

  module _ {First : Counted Value} {Rest : Counted Values} {deep : ℕ} (left right : Rel) (first : Reads f g active listed First deep (left.to_reg active)) (rest : ReadsSpine f g active listed Rest deep (right.spine active)) where
    operands_forward : (free free1 : ℕ) (p q : Spot) → SpineAt g left right active free free1 p q → p.pc ≤ q.pc
    operands_forward free free1 p q at = omega (arith, first.forward free free p at.mid at.first, rest.forward (free + 1) free1 at.mid q at.rest)

    operands_begin : (free free1 : ℕ) (p q : Spot) → q.pc ≤ f.last → SpineAt g left right active free free1 p q → Begins f free p.pc
    operands_begin free free1 p q within at = first.begins free p at.mid (omega (arith, within, rest.forward (free + 1) free1 at.mid q at.rest)) at.first

    -- the first word of the next operand wants it
    one_of : (free free1 : ℕ) (p q : Spot) (s : Situation) → HasLocals active listed s → free ≡ next_free s → IsQuiet f s.scope p.pc q.pc → (at : SpineAt g left right active free free1 p q) → Comes f (First p.functions at.mid.functions) deep s p.pc at.mid.pc
    one_of free free1 p q s locals is quiet at =
        let back = rest.forward (free + 1) free1 at.mid q at.rest in
        let on = first.forward free free p at.mid at.first in
        let later = spine_further rest (free + 1) free1 at.mid q s locals (omega (arith, is)) quiet.within at.rest in
        let wanted = begins_wants s (quiet.stays at.mid.pc on later) (rest.begins (free + 1) free1 at.mid q quiet.within at.rest) (λ none. omega (arith, is, none)) in
        comes_next first free p at.mid s locals is (quiet_before at.mid.pc back quiet) wanted at.first

    rest_of : (free free1 : ℕ) (p q : Spot) (s : Situation) → HasLocals active listed s → free ≡ next_free s → IsQuiet f s.scope p.pc q.pc → (at : SpineAt g left right active free free1 p q) → (one : Comes f (First p.functions at.mid.functions) deep s p.pc at.mid.pc) →
        SpineComes f (Rest at.mid.functions q.functions) deep (behind_one one) (free + 1) free1 at.mid.pc q.pc
    rest_of free free1 p q s locals is quiet at one =
        let behind = behind_one one in
        let there : HasLocals active listed behind = locals_then one.same locals in
        let next : free + 1 ≡ next_free behind = omega (arith, is, length-append s.entries (one.entry ∷ [])) in
        let some : 0 < length behind.entries = omega (arith, length-append s.entries (one.entry ∷ [])) in
        rest.comes (free + 1) free1 at.mid q behind there next (quiet_same one.same (quiet_from at.mid.pc (first.forward free free p at.mid at.first) quiet)) (wanted_above f behind q.pc some) at.rest

    pub spine_first : ReadsSpine f g active listed (first_and First Rest) deep (SpineAt g left right active)
    spine_first = record {
      forward = operands_forward;
      begins = operands_begin;
      comes = λ free free1 p q s locals is quiet wanted at. let one = one_of free free1 p q s locals is quiet at in spine_so (omega arith) (λ values are. (at.mid.functions, are)) (first_comes one (rest_of free free1 p q s locals is quiet at one));
    }

    concat_made : IsFunction f g → deep < 200 → (free r : ℕ) (p q : Spot) (s : Situation) → HasLocals active listed s → free ≡ next_free s → IsQuiet f s.scope p.pc q.pc → ConcatAt g left right active free r p q →
        Made f (concat_by (first_and First Rest) p.functions q.functions) (suc deep) s r p.pc q.pc
    concat_made is_function few free r p q s locals is quiet at =
        let before = quiet_before at.last.pc (omega (arith, at.word.next)) quiet in
        let one = one_of free at.free1 p at.last s locals is before at.operands in
        let made = operands_joined is_function few free at.free1 r p at.last q s is quiet at.word one (rest_of free at.free1 p at.last s locals is before at.operands one) in
        let mid = at.operands.mid.functions in
        made_so (omega arith) (λ v is. (is.0, (mid, subst (λ (behind : ℕ). IsFirst (First p.functions mid) (Rest mid behind) is.0) (sym at.word.functions) is.1), is.2)) made

  pub concat_reads : {First : Counted Value} {Rest : Counted Values} {deep : ℕ} (left right : Rel) → IsFunction f g → deep < 200 → Reads f g active listed First deep (left.to_reg active) → ReadsSpine f g active listed Rest deep (right.spine active) →
      Reads f g active listed (concat_by (first_and First Rest)) (suc deep) (ConcatAt g left right active)
  concat_reads left right is_function few first rest = record {
    forward = λ free r p q at. omega (arith, operands_forward left right first rest free at.free1 p at.last at.operands, at.word.next);
    begins = λ free p q within at. operands_begin left right first rest free at.free1 p at.last (omega (arith, within, at.word.next)) at.operands;
    arrives = λ free r p q s locals is goal quiet wanted at. inl (concat_made left right first rest is_function few free r p q s locals is quiet at);
  }
