-- The words of an act are read as one step, with what is written of it: calls as statements.
use Rattle.std.proofs.Common.{◌≡◌, ℕ, zero, suc, ◌+◌, ◌<◌, true, List, [], ◌∷◌, ◌++◌, append-nil, length, Option, None, Some, refl, sym, ap, ◌∙◌, subst, arith, inl}
use Rattle.std.proofs.Math.Nat.{add-zero}
use Rattle.std.specs.Prelude.{◌==◌, option_and_then, option_map, if◌then◌else◌}
use Rattle.lua_tree.specs.Syntax.{Expression, Statement, call_statement}
use Rattle.opcode.specs.declared.op.Op.{Op}
use Rattle.core_expr.specs.Counting.{taken_behind}
use Rattle.core_expr.specs.Places.{place}
use Rattle.core_expr.specs.Values.{Value, Inner}
use Rattle.core_expr.specs.Writing.{Wording, can_write, word}
use Rattle.recover_expr.specs.Drafts.{Drafted, drafted, ends}
use Rattle.recover_expr.specs.Entries.{Entries}
use Rattle.recover_expr.specs.Locals.{Scope}
use Rattle.recover_expr.specs.Reading.{over, read_word, turned, turn_of, words_from}
use Rattle.recover_expr.specs.Situation.{Function, Situation, place_in_step, see, with_left}
use Rattle.recover_expr.specs.Words.{as_end, call_ended, call_made, call_written}
use Rattle.recover_expr.specs.declared.draft.DraftKind.{DraftKind}
use Rattle.recover_expr.specs.declared.function.Word.{Word}
use Rattle.scheme.specs.declared.making.Active.{Active}
use Rattle.scheme.specs.declared.making.Piece.{Piece}
use Rattle.scheme_stands.specs.Relation.{related}
use Rattle.scheme_stands.specs.Words.{Fn, Spot}
use Rattle.reads_back.specs.Acted.{Acted, called, declared, returned, IsActed, act_levels, act_statement, left_by_act, taken_behind_act, declared_function}
use Rattle.reads_back.specs.Cores.{IsCore}
use Rattle.reads_back.specs.ReadAs.{part_of}
use Rattle.reads_back.proofs.Comes.{CallComes, ReadsCall}
use Rattle.reads_back.proofs.BehindWords.{HasLocals, SameLocals, behind_words}
use Rattle.reads_back.proofs.Reaches.{reaches_on, step_ends}
use Rattle.reads_back.proofs.Said.{can_say}
use Rattle.reads_back.proofs.ValueWords.{next_free}
use Rattle.reads_back.proofs.WordsRead.{IsFunction, IsQuiet, word_of}

-- ---- what is known of an act that is read

-- what the step is, where so many locals are declared before it
abbrev pub kind_of_act : (first : ℕ) → Acted → DraftKind
kind_of_act first (declared names vs all) = DraftKind.Declaration first (length names)
kind_of_act first (declared_function text number) = DraftKind.Declaration first 1
kind_of_act first (returned vs all) = DraftKind.Return
kind_of_act first acted = DraftKind.Act

-- how many locals it declares
abbrev pub locals_of : Acted → ℕ
locals_of (declared names vs all) = length names
locals_of (declared_function text number) = 1
locals_of acted = 0

-- so many numbers from one on
abbrev pub numbers_from : (first count : ℕ) → List ℕ
numbers_from first zero = []
numbers_from first (suc count) = first ∷ numbers_from (suc first) count

-- so many locals more are declared and active
pub record Declares (count : ℕ) (before behind : Scope) : Type 0 where
  pub declared_more : length behind.declared ≡ length before.declared + count
  pub active_more : behind.active ≡ before.active ++ numbers_from (length before.declared) count

pub same_declares : {before behind : Scope} → SameLocals before behind → Declares 0 before behind
same_declares {before} same = record { declared_more = same.declared ∙ sym (add-zero (length before.declared)); active_more = same.active ∙ sym (append-nil before.active) }

-- the words from one pc up to another are one step, an act that the statement is, and so it is written
pub record ActRead (f : Function) (g : Fn) (active : List Active) (statement : Statement) (made_before made_behind : ℕ) (s : Situation) (first last : ℕ) : Type 0 where
  pub acted : Acted
  pub is : IsActed g active statement made_before made_behind acted
  pub draft : Drafted
  pub behind : Situation
  pub reads : (count : ℕ) → last < count + first → words_from f count first s ≡ Some (draft, behind)
  pub kind : draft.kind ≡ kind_of_act (length s.scope.declared) acted
  pub pc : draft.pc ≡ s.pc
  pub next : draft.next ≡ last
  pub part : draft.part ≡ part_of (act_statement (place_in_step f s) s.taken s.left acted)
  pub levels : draft.levels ≡ act_levels (place_in_step f s) s.taken s.left acted
  pub declares : Declares (locals_of acted) s.scope behind.scope
  pub left : behind.left ≡ left_by_act acted s.left
  pub seen : behind.seen ≡ taken_behind_act acted s.seen
  pub later : first < last

-- whatever act the statement is, it can be said, with the functions that are left where so many were made
pub record CanAct (f : Function) (g : Fn) (active : List Active) (listed : List ℕ) (lefts : ℕ → List (Option Inner)) (statement : Statement) : Type 0 where
  pub can : (before behind : ℕ) (acted : Acted) → IsActed g active statement before behind acted → can_say (place f.of listed f.short) (lefts before) acted ≡ true

pub can_now : {f : Function} {g : Fn} {active : List Active} {listed : List ℕ} {lefts : ℕ → List (Option Inner)} {statement : Statement} {before : ℕ} {left : List (Option Inner)} → CanAct f g active listed lefts statement → (behind : ℕ) (acted : Acted) →
    left ≡ lefts before → IsActed g active statement before behind acted → can_say (place f.of listed f.short) left acted ≡ true
can_now {f} {listed = listed} {before = before} can behind acted left_is is = subst (λ (left : List (Option Inner)). can_say (place f.of listed f.short) left acted ≡ true) (sym left_is) (can.can before behind acted is)

-- the step of an act, and what is known behind it
abbrev pub act_draft : (f : Function) → (next : ℕ) → Acted → Situation → Drafted
act_draft f next acted s = drafted (kind_of_act (length s.scope.declared) acted) next (act_levels (place_in_step f s) s.taken s.left acted) (part_of (act_statement (place_in_step f s) s.taken s.left acted)) s

abbrev pub after_act : Acted → Situation → Situation
after_act acted s = with_left (left_by_act acted s.left) s

-- the last word of the step ends it
pub ends_turn : (f : Function) (w : Word) (draft : Drafted) (s behind : Situation) → read_word f w (see w.instr s) ≡ Some (ends draft, behind) → turn_of f s w ≡ Some (over draft, behind)
ends_turn f w draft s behind does = ap (option_and_then (λ p. turned f w p.1 p.0)) does

-- ---- calls

call_is_written : (f : Function) (w : Word) (v : Value) (s : Situation) → can_write (place_in_step f s) s.left v ≡ true → s.entries ≡ [] → call_written f w (v, s) ≡ Some (act_draft f w.next (called v) s, after_act (called v) s)
call_is_written f w v s can empty =
    let wrote : Wording × ℕ × Situation = (word (place_in_step f s) s.taken s.left v, taken_behind v s.taken, after_act (called v) s) in
    ap (λ (entries : Entries). if length entries == 0 then option_map (call_ended w) (if can_write (place_in_step f s) s.left v then Some wrote else None) else None) empty
    ∙ ap (λ can. option_map (call_ended w) (if can then Some wrote else None)) can

module _ {f : Function} {g : Fn} {active : List Active} {listed : List ℕ} {lefts : ℕ → List (Option Inner)} (e : Expression) {deep : ℕ} (can : CanAct f g active listed lefts (call_statement e)) where
  call_acts : (free : ℕ) (p q : Spot) (s : Situation) → HasLocals active listed s → s.left ≡ lefts p.functions → s.entries ≡ [] → CallComes f (IsCore g active e p.functions q.functions) deep s Op.Call free 1 p.pc q.pc →
      ActRead f g active (call_statement e) p.functions q.functions s p.pc q.pc
  call_acts free p q s locals left_is empty comes =
      let v = comes.value in
      let w = word_of comes.pc (Piece.Abc Op.Call free comes.b 1) in
      let t = behind_words comes.scope comes.seen comes.more s in
      let u = record s { scope = comes.scope; seen = comes.seen } in
      let there : can_write (place_in_step f u) s.left v ≡ true = subst (λ (listed : List ℕ). can_write (place f.of listed f.short) s.left v ≡ true) (sym (comes.same.active ∙ locals.places)) (can_now can q.functions (called v) left_is comes.is) in
      let does : read_word f w (see w.instr t) ≡ Some (ends (act_draft f (suc comes.pc) (called v) u), after_act (called v) u) =
      ap (option_and_then (call_made f w)) comes.makes ∙ ap (option_map as_end) (call_is_written f w v u there empty) in
      record {
        acted = called v;
        is = comes.is;
        draft = act_draft f (suc comes.pc) (called v) u;
        behind = after_act (called v) u;
        reads = λ count few. step_ends (act_draft f (suc comes.pc) (called v) u) count comes.reaches (comes.turn ∙ ends_turn f w (act_draft f (suc comes.pc) (called v) u) t (after_act (called v) u) does) (omega (arith, comes.next, few));
        kind = refl;
        pc = refl;
        next = sym comes.next;
        part = ap (λ (listed : List ℕ). part_of (act_statement (place f.of listed f.short) s.taken s.left (called v))) comes.same.active;
        levels = ap (λ (listed : List ℕ). act_levels (place f.of listed f.short) s.taken s.left (called v)) comes.same.active;
        declares = same_declares comes.same;
        left = refl;
        seen = sym comes.taken;
        later = omega (arith, comes.next, reaches_on comes.reaches);
      }

pub call_statement_read : {f : Function} {g : Fn} {active : List Active} {listed : List ℕ} {lefts : ℕ → List (Option Inner)} → IsFunction f g → (e : Expression) (deep : ℕ) → ReadsCall f g active listed (IsCore g active e) deep ((related g e).multi active) →
    CanAct f g active listed lefts (call_statement e) →
    (p q : Spot) (s : Situation) → HasLocals active listed s → s.left ≡ lefts p.functions → s.entries ≡ [] → s.taken ≡ s.seen → IsQuiet f s.scope p.pc q.pc → (related g e).multi active (length active) Op.Call (Some 0) p q → ActRead f g active (call_statement e) p.functions q.functions s p.pc q.pc
call_statement_read {active = active} is_function e deep reads can p q s locals left_is empty taken quiet at =
    let next : length active ≡ next_free s = omega (arith, locals.base, ap length empty) in
    call_acts e can (length active) p q s locals left_is empty (reads.comes (length active) Op.Call (Some 0) p q s locals next quiet (inl refl) at)
