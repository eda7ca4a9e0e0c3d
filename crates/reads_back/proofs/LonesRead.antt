-- The words of a jump, of a CLOSE and of the foot of a loop are read as a step of their own, in which nothing is written.
use Rattle.std.proofs.Common.{◌≡◌, ℕ, suc, ◌+◌, ◌<◌, ◌≤◌, ◌&&◌, true, false, [], length, Some, None, refl, sym, ap, ◌∙◌, arith, eq-eqb}
use Rattle.std.specs.Prelude.{◌==◌, option_and_then, option_map, if◌then◌else◌}
use Rattle.opcode.specs.declared.op.Op.{Op}
use Rattle.recover_expr.specs.Drafts.{Drafted, drafted, nothing_part}
use Rattle.recover_expr.specs.Entries.{Entries}
use Rattle.recover_expr.specs.Locals.{declaring_step}
use Rattle.recover_expr.specs.Reading.{generic_foot, lone, lone_as, lone_step, over, read_word, turned, turn_of, words_from}
use Rattle.recover_expr.specs.Situation.{Function, Situation, see}
use Rattle.recover_expr.specs.Words.{as_end}
use Rattle.recover_expr.specs.declared.draft.DraftKind.{DraftKind}
use Rattle.recover_expr.specs.declared.function.Word.{Word}
use Rattle.scheme.specs.declared.making.Piece.{Piece}
use Rattle.scheme_stands.specs.Words.{Fn, Seq, Spot, WordAt, IsRead}
use Rattle.reads_back.proofs.ActsRead.{Declares, same_declares}
use Rattle.reads_back.proofs.BehindWords.{same_locals}
use Rattle.reads_back.proofs.Reaches.{here, step_ends}
use Rattle.reads_back.proofs.TestsEnd.{jump_is_read, jump_target, jump_there, label_target}
use Rattle.reads_back.proofs.WordsRead.{IsFunction, IsQuiet, abc_is_read, turn_there, word_of, word_there}

-- the words from one pc up to another are one step of this kind, in which nothing is written, and what is known stays
pub record LoneRead (f : Function) (of : DraftKind) (s : Situation) (first last : ℕ) : Type 0 where
  pub draft : Drafted
  pub behind : Situation
  pub reads : (count : ℕ) → last < count + first → words_from f count first s ≡ Some (draft, behind)
  pub is : draft ≡ drafted of last 1 nothing_part s
  pub stays : behind ≡ s
  pub kind : draft.kind ≡ of
  pub pc : draft.pc ≡ s.pc
  pub next : draft.next ≡ last
  pub part : draft.part ≡ nothing_part
  pub levels : draft.levels ≡ 1
  pub declares : Declares 0 s.scope behind.scope
  pub left : behind.left ≡ s.left
  pub seen : behind.seen ≡ s.seen
  pub later : first < last

-- where a word is the first of its step, it is one
lone_turn : (f : Function) (w : Word) (s : Situation) (draft : Drafted) → s.pc ≡ w.pc → s.entries ≡ [] → lone_as w.instr.op f w s ≡ Some draft → read_word f w (see w.instr s) ≡ lone_step f w s → turn_of f s w ≡ Some (over draft, s)
lone_turn f w s draft first empty does reads =
    let ended = λ (one : Drafted). as_end (one, s) in
    let words = lone_as w.instr.op f w s in
    ap (option_and_then (λ p. turned f w p.1 p.0))
    (reads
    ∙ ap (λ same. option_map ended (if same && (length s.entries == 0) then words else None)) (eq-eqb s.pc w.pc first)
    ∙ ap (λ (entries : Entries). option_map ended (if length entries == 0 then words else None)) empty
    ∙ ap (option_map ended) does)

module _ {f : Function} {g : Fn} (is_function : IsFunction f g) where
  -- a word, behind which another may stand that belongs to it
  lone_read : {w : Piece} {p mid : Spot} {last : ℕ} (of : DraftKind) (s : Situation) → s.pc ≡ p.pc → s.entries ≡ [] → IsQuiet f s.scope p.pc last → p.pc < last → WordAt g w p mid → IsRead p.pc w →
      lone_as (word_of p.pc w).instr.op f (word_of p.pc w) s ≡ Some (drafted of last 1 nothing_part s) → read_word f (word_of p.pc w) (see (word_of p.pc w).instr s) ≡ lone_step f (word_of p.pc w) s → LoneRead f of s p.pc last
  lone_read {w} {p} {last = last} of s first empty quiet later at read does reads =
      let draft = drafted of last 1 nothing_part s in
      let turn = turn_there p.pc s quiet (omega arith) later (word_there is_function at read (omega (arith, later, quiet.within))) ∙ lone_turn f (word_of p.pc w) s draft first empty does reads in
      record {
        draft = draft;
        behind = s;
        reads = λ count few. step_ends draft count here turn (omega (arith, few, later));
        is = refl;
        stays = refl;
        kind = refl;
        pc = refl;
        next = refl;
        part = refl;
        levels = refl;
        declares = same_declares (same_locals s.scope);
        left = refl;
        seen = refl;
        later = later;
      }

  -- a jump to a pc in the code
  pub jump_read : {label : ℕ} {p q : Spot} (s : Situation) → s.pc ≡ p.pc → s.entries ≡ [] → label ≤ f.last → IsQuiet f s.scope p.pc q.pc → WordAt g (Piece.Jump Op.Jmp 0 label) p q → LoneRead f (DraftKind.Jump label) s p.pc q.pc
  jump_read {label} {p} {q} s first empty within quiet at =
      lone_read (DraftKind.Jump label) s first empty quiet (omega (arith, at.next)) at (jump_is_read is_function at)
      (ap (option_map (λ to. lone (suc p.pc) s (DraftKind.Jump to))) (jump_target f p.pc label within) ∙ ap (λ (next : ℕ). Some (lone next s (DraftKind.Jump label))) (sym at.next)) refl

  -- a CLOSE of the registers from one on
  pub close_read : {register : ℕ} {p q : Spot} (s : Situation) → s.pc ≡ p.pc → s.entries ≡ [] → IsQuiet f s.scope p.pc q.pc → WordAt g (Piece.Abc Op.Close register 0 0) p q →
      LoneRead f (DraftKind.Close register (declaring_step register s.scope)) s p.pc q.pc
  close_read {register} {p} {q} s first empty quiet at =
      lone_read (DraftKind.Close register (declaring_step register s.scope)) s first empty quiet (omega (arith, at.next)) at (abc_is_read is_function at)
      (ap (λ (next : ℕ). Some (lone next s (DraftKind.Close register (declaring_step register s.scope)))) (sym at.next)) refl

  -- the foot of a loop over numbers
  pub foot_read : {register label : ℕ} {p q : Spot} (s : Situation) → s.pc ≡ p.pc → s.entries ≡ [] → label ≤ f.last → IsQuiet f s.scope p.pc q.pc → WordAt g (Piece.Jump Op.ForLoop register label) p q → LoneRead f (DraftKind.Foot true label) s p.pc q.pc
  foot_read {register} {label} {p} {q} s first empty within quiet at =
      lone_read (DraftKind.Foot true label) s first empty quiet (omega (arith, at.next)) at (jump_is_read is_function at)
      (ap (option_map (λ to. lone (suc p.pc) s (DraftKind.Foot true to))) (label_target f Op.ForLoop register p.pc label within) ∙ ap (λ (next : ℕ). Some (lone next s (DraftKind.Foot true label))) (sym at.next)) refl

  -- the foot of any other, with its jump
  pub generic_foot_read : {register count label : ℕ} {p q : Spot} (s : Situation) → s.pc ≡ p.pc → s.entries ≡ [] → label ≤ f.last → IsQuiet f s.scope p.pc q.pc →
      Seq (WordAt g (Piece.Abc Op.TForLoop register 0 count)) (WordAt g (Piece.Jump Op.Jmp 0 label)) p q → LoneRead f (DraftKind.Foot false label) s p.pc q.pc
  generic_foot_read {register} {count} {label} {p} {q} s first empty within quiet at =
      let word = at.first_at in
      let jump = at.second_at in
      let w = word_of p.pc (Piece.Abc Op.TForLoop register 0 count) in
      let there = jump_there w is_function (sym word.next) (omega (arith, jump.next, quiet.within)) jump in
      lone_read (DraftKind.Foot false label) s first empty quiet (omega (arith, word.next, jump.next)) word (abc_is_read is_function word)
      (ap (option_and_then (generic_foot f s)) there
      ∙ ap (option_map (λ to. lone (suc at.mid.pc) s (DraftKind.Foot false to))) (jump_target f at.mid.pc label within)
      ∙ ap (λ (next : ℕ). Some (lone next s (DraftKind.Foot false label))) (sym jump.next)) refl
