-- The words of a test are read as one step: a value, or a comparison, with the truth at which it jumps and where to.
use Rattle.std.proofs.Common.{◌≡◌, ℕ, suc, ◌+◌, ◌<◌, ◌≤◌, max, Bool, true, List, [], ◌∷◌, ◌++◌, length, Option, Some, refl, sym, ap, ◌∙◌, subst, arith, le-leb}
use Rattle.std.proofs.Math.Nat.{max-zero}
use Rattle.std.specs.Prelude.{option_map}
use Rattle.lua_tree.specs.Syntax.{Expression}
use Rattle.opcode.specs.declared.op.Op.{Op}
use Rattle.opcode.specs.Word.{truth_field}
use Rattle.core_expr.specs.Counting.{taken_behind, taken_behind_operand}
use Rattle.core_expr.specs.Places.{place}
use Rattle.core_expr.specs.Values.{Inner, Value, local_value, value_operand}
use Rattle.recover_expr.specs.Drafts.{Drafted, condition_part, ends}
use Rattle.recover_expr.specs.Entries.{Entries}
use Rattle.recover_expr.specs.Locals.{Scope}
use Rattle.recover_expr.specs.Reading.{read_word, words_from}
use Rattle.recover_expr.specs.Situation.{Function, Situation, place_in_step, pop, pop_at, see, with_entries}
use Rattle.recover_expr.specs.Testing.{TestedValue, negated_levels, test, tested_by, tested_value, when_of}
use Rattle.recover_expr.specs.Words.{as_end}
use Rattle.recover_expr.specs.declared.draft.DraftKind.{DraftKind}
use Rattle.recover_expr.specs.declared.function.Word.{Word}
use Rattle.scheme.specs.declared.making.Active.{Active}
use Rattle.scheme.specs.declared.making.Piece.{Piece}
use Rattle.scheme_stands.specs.Expressions.{TestAt}
use Rattle.scheme_stands.specs.Relation.{related}
use Rattle.scheme_stands.specs.Words.{Fn, Spot, WordAt}
use Rattle.reads_back.specs.Cores.{Counted, IsCore}
use Rattle.reads_back.proofs.ActsRead.{Declares, same_declares, ends_turn}
use Rattle.reads_back.proofs.BehindWords.{HasLocals, SameLocals, behind_words, quiet_same}
use Rattle.reads_back.proofs.BothOperands.{same_value}
use Rattle.reads_back.proofs.Comes.{ReadsCore}
use Rattle.reads_back.proofs.HeldOperands.{Kept, StandsIn, counts_none, entries_in, in_local, in_next, in_word, operand_held, operand_of}
use Rattle.reads_back.proofs.NameReads.{AreListed}
use Rattle.reads_back.proofs.Reaches.{Reaches, reaches_on, step_ends}
use Rattle.reads_back.proofs.StoresRead.{IsInStep, IsValueKept, is_value_kept, local_there, no_place}
use Rattle.reads_back.proofs.TestedAs.{IsValueTested, can_test, condition_word, left_by_test, taken_behind_test}
use Rattle.reads_back.proofs.TestsEnd.{after_test, flag_is, jump_target, jump_there, test_draft, test_is}
use Rattle.reads_back.proofs.ValueWords.{next_free, place_of_next}
use Rattle.reads_back.proofs.WordsBegin.{word_wants}
use Rattle.reads_back.proofs.WordsRead.{IsFunction, IsQuiet, abc_is_read, quiet_before, turn_there, word_of, word_there}

-- ---- what is known of a test that is read

-- the words from one pc up to another are one step, a test that jumps to a label where this is the truth of what is tested, and so that is written
pub record TestRead (f : Function) (Is : TestedValue → Type 0) (s : Situation) (when : Bool) (label first last : ℕ) : Type 0 where
  pub tested : TestedValue
  pub is : Is tested
  pub draft : Drafted
  pub behind : Situation
  pub reads : (count : ℕ) → last < count + first → words_from f count first s ≡ Some (draft, behind)
  pub kind : draft.kind ≡ DraftKind.Test when label (negated_levels (condition_word (place_in_step f s) s.taken s.left tested).words (condition_word (place_in_step f s) s.taken s.left tested).levels)
  pub pc : draft.pc ≡ s.pc
  pub next : draft.next ≡ last
  pub part : draft.part ≡ condition_part (condition_word (place_in_step f s) s.taken s.left tested).words
  pub levels : draft.levels ≡ (condition_word (place_in_step f s) s.taken s.left tested).levels
  pub declares : Declares 0 s.scope behind.scope
  pub left : behind.left ≡ left_by_test (place_in_step f s) s.taken s.left tested
  pub seen : behind.seen ≡ taken_behind_test tested s.seen
  pub later : first < last

-- whatever it is tested as can be written, with the functions that are left where so many were made
pub record CanTest (f : Function) (Is : Counted TestedValue) (listed : List ℕ) (lefts : ℕ → List (Option Inner)) : Type 0 where
  pub can : (n before behind : ℕ) (tested : TestedValue) → Is before behind tested → can_test (place f.of listed f.short) n (lefts before) tested ≡ true

-- ---- the step

-- Words come to these entries more, which the word of the test takes off again.
pub record TestComes (f : Function) (Is : TestedValue → Type 0) (s : Situation) (first last : ℕ) (w : Word) : Type 0 where
  pub tested : TestedValue
  pub is : Is tested
  pub scope : Scope
  pub same : SameLocals s.scope scope
  pub seen : ℕ
  pub more : Entries
  pub reaches : Reaches f first s last (behind_words scope seen more s)
  pub takes : tested_by f w (see w.instr (behind_words scope seen more s)) ≡ Some (tested, record s { scope = scope; seen = taken_behind_test tested s.seen })

module _ {f : Function} {g : Fn} {Is : Counted TestedValue} {listed : List ℕ} {lefts : ℕ → List (Option Inner)} (is_function : IsFunction f g) (can : CanTest f Is listed lefts) where
  -- the word of the test at a spot, and a JMP behind it
  pub test_ends : {code : Op} {a b c label first before : ℕ} {p mid q : Spot} (s : Situation) → s.scope.active ≡ listed → s.left ≡ lefts before → s.entries ≡ [] → label ≤ f.last → IsQuiet f s.scope first q.pc →
      (come : TestComes f (Is before q.functions) s first p.pc (word_of p.pc (Piece.Abc code a b c))) → WordAt g (Piece.Abc code a b c) p mid → WordAt g (Piece.Jump Op.Jmp 0 label) mid q →
      ((t : Situation) → read_word f (word_of p.pc (Piece.Abc code a b c)) t ≡ option_map as_end (test f (word_of p.pc (Piece.Abc code a b c)) t)) →
      TestRead f (Is before q.functions) s (when_of code (word_of p.pc (Piece.Abc code a b c))) label first q.pc
  test_ends {code} {a} {b} {c} {label} {first} {before} {p} {mid} {q} s places left_is empty within quiet come word jump reads =
      let w = word_of p.pc (Piece.Abc code a b c) in
      let tested = come.tested in
      let t = behind_words come.scope come.seen come.more s in
      let u = record s { scope = come.scope; seen = taken_behind_test tested s.seen } in
      let when = when_of code w in
      let later : p.pc < q.pc = omega (arith, word.next, jump.next) in
      let there = jump_there w is_function (sym word.next) (omega (arith, jump.next, quiet.within)) jump in
      let now : s.scope.active ≡ come.scope.active = sym come.same.active in
      let writes : can_test (place_in_step f u) u.taken u.left tested ≡ true =
      subst (λ (listed : List ℕ). can_test (place f.of listed f.short) s.taken s.left tested ≡ true) (sym places ∙ now)
      (subst (λ (left : List (Option Inner)). can_test (place f.of listed f.short) s.taken left tested ≡ true) (sym left_is) (can.can s.taken before q.functions tested come.is)) in
      let is = test_is f w (word_of mid.pc (Piece.Jump Op.Jmp 0 label)) tested label (see w.instr t) u there (jump_target f mid.pc label within) come.takes empty writes in
      let draft = test_draft f when label (suc mid.pc) tested u in
      let does : read_word f w (see w.instr t) ≡ Some (ends draft, after_test f tested u) = reads (see w.instr t) ∙ ap (option_map as_end) is in
      let turn = turn_there p.pc t (quiet_same come.same quiet) (reaches_on come.reaches) later (word_there is_function word (abc_is_read is_function word) (omega (arith, later, quiet.within))) ∙ ends_turn f w draft t (after_test f tested u) does in
      record {
        tested = tested;
        is = come.is;
        draft = draft;
        behind = after_test f tested u;
        reads = λ count few. step_ends draft count come.reaches turn (omega (arith, few, later));
        kind = ap (λ (listed : List ℕ). DraftKind.Test when label (negated_levels (condition_word (place f.of listed f.short) s.taken s.left tested).words (condition_word (place f.of listed f.short) s.taken s.left tested).levels)) (sym now);
        pc = refl;
        next = sym jump.next;
        part = ap (λ (listed : List ℕ). condition_part (condition_word (place f.of listed f.short) s.taken s.left tested).words) (sym now);
        levels = ap (λ (listed : List ℕ). (condition_word (place f.of listed f.short) s.taken s.left tested).levels) (sym now);
        declares = same_declares come.same;
        left = ap (λ (listed : List ℕ). left_by_test (place f.of listed f.short) s.taken s.left tested) (sym now);
        seen = refl;
        later = omega (arith, later, reaches_on come.reaches);
      }

-- ---- values

-- what stands of an operand is taken off for it
value_popped : (f : Function) (count free x free1 : ℕ) (listed : List ℕ) (kept : Kept) (s : Situation) → IsInStep f count listed s → s.entries ≡ [] → free ≡ count → IsValueKept kept → StandsIn f count listed free x free1 kept →
    (v : Value) × (operand_of kept ≡ value_operand v) × (pop f x (record s { entries = entries_in kept }) ≡ Some (v, record s { entries = [] }))
value_popped f count free x free1 listed (in_word number) s step empty is value stands = absurd value
value_popped f count free x free1 listed (in_local r) s step empty is value stands =
    let t = record s { entries = [] } in
    let now : IsInStep f count listed t = record { base = step.base; places = step.places } in
    (local_value r, refl, ap (λ x. pop f x t) stands.0 ∙ ap (pop_at f t r) (no_place now r stands.1) ∙ ap (option_map (λ v. (v, t))) (local_there now r stands.4 stands.5))
value_popped f count free x free1 listed (in_next entry v) s step empty is value stands =
    let t = record s { entries = entry ∷ [] } in
    (v, refl, ap (pop_at f t x) (place_of_next s.base 0 x (omega (arith, stands.0, is, step.base))) ∙ ap (λ (single : Option Value). option_map (with_entries t) (option_map (λ v. (v, [])) single)) stands.3)

-- it is in a register
in_register : (f : Function) (count free x free1 : ℕ) (listed : List ℕ) (kept : Kept) → IsValueKept kept → StandsIn f count listed free x free1 kept → x < 256
in_register f count free x free1 listed (in_word number) value stands = absurd value
in_register f count free x free1 listed (in_local r) value stands = omega (arith, stands.0, stands.1, stands.2)
in_register f count free x free1 listed (in_next entry v) value stands = omega (arith, stands.0, stands.1)

module _ {f : Function} {g : Fn} {active : List Active} {listed : List ℕ} {lefts : ℕ → List (Option Inner)} (is_function : IsFunction f g) (all : AreListed f g active listed) (e : Expression) (reads : ReadsCore f g active listed e) (can : CanTest f (IsValueTested g active e) listed lefts) where
  pub value_test_read : (free label : ℕ) (sense : Bool) (p q : Spot) (s : Situation) → HasLocals active listed s → s.left ≡ lefts p.functions → s.entries ≡ [] → free ≡ length active → label ≤ f.last → IsQuiet f s.scope p.pc q.pc → TestAt g active (related g e) free sense label p q →
      TestRead f (IsValueTested g active e p.functions q.functions) s sense label p.pc q.pc
  value_test_read free label sense p q s locals left_is empty is within quiet at =
      let word = at.words_at.first_at in
      let jump = at.words_at.second_at in
      let now : free ≡ next_free s = omega (arith, is, locals.base, ap length empty) in
      let on = (operand_held is_function all e reads).forward free at.x at.free1 p at.mid at.operand_at in
      let stay = quiet.stays at.mid.pc on (omega (arith, word.next, jump.next)) in
      let held = (operand_held is_function all e reads).comes free at.x at.free1 p at.mid s locals now (quiet_before at.mid.pc (omega (arith, word.next, jump.next)) quiet)
      (λ at_x at_free. word_wants s stay is_function word (abc_is_read is_function word) (le-leb s.base at.x (omega (arith, at_x, is, locals.base)))) at.operand_at in
      let value = is_value_kept (IsCore g active e p.functions at.mid.functions) held.kept held.is in
      let u = record s { scope = held.scope; seen = held.seen } in
      let step : IsInStep f (length active) listed u = record { base = locals.base; places = held.same.active ∙ locals.places } in
      let popped = value_popped f (length active) free at.x at.free1 listed held.kept u step empty is value held.stands in
      let v = popped.0 in
      let w = word_of at.mid.pc (Piece.Abc Op.Test at.x 0 (truth_field sense)) in
      let same : held.is.0 ≡ v = same_value held.is.0 v (sym held.is.2 ∙ popped.1) in
      let core : IsCore g active e p.functions q.functions v =
      subst (λ (behind : ℕ). IsCore g active e p.functions behind v) (sym (jump.functions ∙ word.functions)) (subst (IsCore g active e p.functions at.mid.functions) same held.is.1) in
      let small = in_register f (length active) free at.x at.free1 listed held.kept value held.stands in
      let taken : held.seen ≡ taken_behind v s.seen = sym (ap (max held.seen) (counts_none at.x small) ∙ max-zero held.seen) ∙ held.taken ∙ ap (λ operand. taken_behind_operand operand s.seen) popped.1 in
      let come : TestComes f (IsValueTested g active e p.functions q.functions) s p.pc at.mid.pc w = record {
        tested = tested_value v;
        is = (v, core, refl);
        scope = held.scope;
        same = held.same;
        seen = held.seen;
        more = entries_in held.kept;
        reaches = held.reaches;
        takes =
            ap (λ (entries : Entries). option_map (λ (p : Value × Situation). (tested_value p.0, p.1)) (pop f at.x (record u { entries = entries ++ entries_in held.kept }))) empty
            ∙ ap (option_map (λ (p : Value × Situation). (tested_value p.0, p.1))) popped.2
            ∙ ap (λ (n : ℕ). Some (tested_value v, record s { scope = held.scope; entries = []; seen = n })) taken
            ∙ ap (λ (entries : Entries). Some (tested_value v, record s { scope = held.scope; entries = entries; seen = taken_behind v s.seen })) (sym empty);
      } in
      subst (λ (when : Bool). TestRead f (IsValueTested g active e p.functions q.functions) s when label p.pc q.pc) (flag_is sense)
      (test_ends is_function can s locals.places left_is empty within quiet come word jump (λ t. refl))
