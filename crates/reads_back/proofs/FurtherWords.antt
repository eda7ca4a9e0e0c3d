-- Above the lowest register of a statement the words of a value are one or more.
use Rattle.std.proofs.Common.{◌≡◌, ℕ, ◌-◌, ◌<◌, ◌≤◌, nat_lt, Bool, true, false, ◌∷◌, [], None, length, length-append, refl, ap, arith, ltb-true, ltb-false, List}
use Rattle.core_expr.specs.Values.{Value, Values}
use Rattle.recover_expr.specs.Entries.{held_entry, more, open_entry}
use Rattle.recover_expr.specs.Situation.{Function, Situation}
use Rattle.scheme.specs.declared.making.Active.{Active}
use Rattle.scheme_stands.specs.Words.{Fn, Spot, Stretch}
use Rattle.opcode.specs.declared.op.Op.{Op}
use Rattle.scheme.specs.Expressions.{Want}
use Rattle.reads_back.specs.Cores.{Counted}
use Rattle.reads_back.proofs.BehindWords.{HasLocals}
use Rattle.reads_back.proofs.Comes.{Reads, ReadsOpen, ReadsSpine, comes_next}
use Rattle.reads_back.proofs.TableItems.{held_count}
use Rattle.reads_back.proofs.TableWords.{reaches_none}
use Rattle.reads_back.proofs.WordsBegin.{wanted_above}
use Rattle.reads_back.proofs.WordsRead.{quiet_nowhere}
use Rattle.reads_back.proofs.TakenEntries.{count_of_entries}

-- held entries stand up to a register
abbrev filled : (free : ℕ) → Situation → Situation
filled free s = record s { entries = more (free - s.base) held_entry }

-- no words leave as many entries
later_by : (first last : ℕ) → first ≤ last → (first ≡ last → ⊥) → first < last
later_by first last on some = by (nat_lt first last) refl
  where
    by : (later : Bool) → nat_lt first last ≡ later → first < last
    by true is = ltb-true first last is
    by false is = absurd (some (omega (arith, on, ltb-false first last is)))

module _ {f : Function} {g : Fn} {active : List Active} {listed : List ℕ} {deep : ℕ} where
  pub value_further : {Is : Counted Value} {to : (free r : ℕ) → Stretch} → Reads f g active listed Is deep to → (free : ℕ) (p q : Spot) (s : Situation) → HasLocals active listed s → s.base < free → q.pc ≤ f.last → to free free p q → p.pc < q.pc
  value_further reads free p q s locals above within at = later_by p.pc q.pc (reads.forward free free p q at) some
    where
      some : p.pc ≡ q.pc → ⊥
      some same =
          let u = filled free s in
          let count = held_count (free - s.base) in
          let come = comes_next reads free p q u (record { base = locals.base; places = locals.places }) (omega (arith, count, above)) (quiet_nowhere within same) (wanted_above f u q.pc (omega (arith, count, above))) at in
          let size = ap (λ (s : Situation). length s.entries) (reaches_none come.reaches same) in
          omega (arith, size, length-append u.entries (come.entry ∷ []))

  pub open_value_further : {Is : Counted Value} {part : (free : ℕ) → Op → Want → Stretch} → ReadsOpen f g active listed Is deep part → (free : ℕ) (p q : Spot) (s : Situation) → HasLocals active listed s → s.base < free → q.pc ≤ f.last →
      part free Op.Call None p q → p.pc < q.pc
  open_value_further reads free p q s locals above within at = later_by p.pc q.pc (reads.forward free Op.Call None p q at) some
    where
      some : p.pc ≡ q.pc → ⊥
      some same =
          let u = filled free s in
          let count = held_count (free - s.base) in
          let come = reads.comes free p q u (record { base = locals.base; places = locals.places }) (omega (arith, count, above)) (quiet_nowhere within same) at in
          let size = ap (λ (s : Situation). length s.entries) (reaches_none come.reaches same) in
          omega (arith, size, length-append u.entries (open_entry come.value ∷ []))

  pub spine_further : {Are : Counted Values} {to : (free free1 : ℕ) → Stretch} → ReadsSpine f g active listed Are deep to → (free free1 : ℕ) (p q : Spot) (s : Situation) → HasLocals active listed s → s.base < free → q.pc ≤ f.last →
      to free free1 p q → p.pc < q.pc
  spine_further reads free free1 p q s locals above within at = later_by p.pc q.pc (reads.forward free free1 p q at) some
    where
      some : p.pc ≡ q.pc → ⊥
      some same =
          let u = filled free s in
          let count = held_count (free - s.base) in
          let come = reads.comes free free1 p q u (record { base = locals.base; places = locals.places }) (omega (arith, count, above)) (quiet_nowhere within same) (wanted_above f u q.pc (omega (arith, count, above))) at in
          let size = ap (λ (s : Situation). length s.entries) (reaches_none come.reaches same) in
          omega (arith, size, length-append u.entries come.entries, come.some, count_of_entries come.entries come.values come.singles)
