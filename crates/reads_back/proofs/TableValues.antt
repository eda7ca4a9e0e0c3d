-- A constructor as a value: in the next register, or moved from there.
use Rattle.std.proofs.Common.{◌≡◌, ℕ, suc, ◌<◌, ◌≤◌, nat_lt, false, List, [], ◌∷◌, sym, ap, ap₂, ◌∙◌, inl, inr, arith, le-leb, refl, subst}
use Rattle.opcode.specs.declared.op.Op.{Op}
use Rattle.core_expr.specs.Making.{deepest_item}
use Rattle.core_expr.specs.Values.{Value, table_value}
use Rattle.recover_expr.specs.Lists.{is_nil}
use Rattle.recover_expr.specs.Reading.{turn_of}
use Rattle.recover_expr.specs.Situation.{Function, Situation}
use Rattle.scheme.specs.declared.making.Active.{Active}
use Rattle.scheme.specs.declared.making.Piece.{Piece}
use Rattle.scheme_stands.specs.Lists.{MovedFrom}
use Rattle.scheme_stands.specs.Words.{Fn, Seq, Spot, Stretch, WordAt, instr_by}
use Rattle.reads_back.specs.Cores.{IsTable, Items, CountedItems, table_by}
use Rattle.reads_back.proofs.BehindWords.{HasLocals, behind_words, quiet_same}
use Rattle.reads_back.proofs.Comes.{Arrives, Begins, IsWanted, Moved, Reads, ReadsTable}
use Rattle.reads_back.proofs.Tests.{given_is}
use Rattle.reads_back.proofs.ValueWords.{next_free}
use Rattle.reads_back.proofs.WordsBegin.{word_wants}
use Rattle.reads_back.proofs.WordsRead.{IsFunction, IsQuiet, abc_is_read, quiet_before, turn_there, word_there}
use Rattle.reads_back.proofs.Deeper.{comes_so}

table_no_nil : {Are : Items} (v : Value) → IsTable Are v → is_nil v ≡ false
table_no_nil v is = ap is_nil (sym (given_is (nat_lt (deepest_item is.0) 400) (table_value is.0 is.1 (suc (deepest_item is.0))) v is.3))

module _ {f : Function} {g : Fn} {active : List Active} {listed : List ℕ} {Are : CountedItems} {deep : ℕ} {part : (free : ℕ) → Stretch} (is_function : IsFunction f g) (reads : ReadsTable f g active listed Are deep part) where
  forward : (free r : ℕ) (p q : Spot) → MovedFrom g (part free) free r p q → p.pc ≤ q.pc
  forward free r p q (inl (same, at)) = reads.forward free p q at
  forward free r p q (inr (other, at)) = omega (arith, reads.forward free p at.mid at.first_at, at.second_at.next)

  begins : (free : ℕ) (p q : Spot) → q.pc ≤ f.last → MovedFrom g (part free) free free p q → Begins f free p.pc
  begins free p q within (inl (same, at)) = reads.begins free p q within at
  begins free p q within (inr (other, at)) = absurd (other refl)

  moved : (free r : ℕ) (p q : Spot) (s : Situation) → HasLocals active listed s → free ≡ next_free s → IsQuiet f s.scope p.pc q.pc → (free ≡ r → ⊥) → Seq (part free) (WordAt g (Piece.Abc Op.Move r free 0)) p q → Moved f (IsTable (Are p.functions q.functions)) deep s r p.pc q.pc
  moved free r p q s locals is quiet other at =
      let later : at.mid.pc < q.pc = omega (arith, at.second_at.next) in
      let on = reads.forward free p at.mid at.first_at in
      let read = abc_is_read is_function at.second_at in
      let wanted = word_wants s (quiet.stays at.mid.pc on later) is_function at.second_at read (le-leb s.base free (omega (arith, is))) in
      let table = (reads.comes free p at.mid s locals is (quiet_before at.mid.pc (omega (arith, later)) quiet) wanted at.first_at).0 in
      let comes = comes_so (omega arith) (λ v made. subst (λ (behind : ℕ). IsTable (Are p.functions behind) v) (sym at.second_at.functions) made) table in
      let t = behind_words comes.scope comes.seen (comes.entry ∷ []) s in
      let there = word_there is_function at.second_at read (omega (arith, later, quiet.within)) in
      let turn = turn_there at.mid.pc t (quiet_same comes.same quiet) on later there in
      record {
        mid = at.mid.pc;
        comes = comes;
        no_nil = table_no_nil comes.value comes.is;
        other = λ same. other (is ∙ same);
        later = later;
        turn = turn ∙ ap₂ (λ (next from : ℕ). turn_of f t (record { pc = at.mid.pc; next = next; instr = instr_by at.mid.pc (Piece.Abc Op.Move r from 0) })) (sym at.second_at.next) is;
      }

  arrives : (free r : ℕ) (p q : Spot) (s : Situation) → HasLocals active listed s → free ≡ next_free s → IsQuiet f s.scope p.pc q.pc → (r ≡ next_free s → IsWanted f s q.pc) → MovedFrom g (part free) free r p q → Arrives f (IsTable (Are p.functions q.functions)) deep s r p.pc q.pc
  arrives free r p q s locals is quiet wanted (inl (same, at)) = inr (inl (sym same ∙ is, (reads.comes free p q s locals is quiet (wanted (sym same ∙ is)) at).0))
  arrives free r p q s locals is quiet wanted (inr (other, at)) = inr (inr (moved free r p q s locals is quiet other at))

  pub table_value_reads : Reads f g active listed (table_by Are) deep (λ free r. MovedFrom g (part free) free r)
  table_value_reads = record { forward = forward; begins = begins; arrives = λ free r p q s locals is goal quiet wanted at. arrives free r p q s locals is quiet wanted at }
