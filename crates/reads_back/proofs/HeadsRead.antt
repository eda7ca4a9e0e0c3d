-- The words of the head of a loop are read as one step, which declares its hidden locals and its variables, with the values that are written.
use Rattle.std.proofs.Common.{◌≡◌, ℕ, zero, suc, ◌+◌, ◌<◌, ◌≤◌, nat_lt, nat_le, Bool, true, false, List, [], ◌∷◌, ◌++◌, append_assoc, length, drop, Option, Some, None, refl, sym, ap, ap₂, ◌∙◌, subst, arith, lt-ltb, eq-eqb, ◌⊎◌, inr, inl}
use Rattle.std.specs.List.{prefix_len}
use Rattle.std.specs.Prelude.{◌==◌, option_and_then, option_map, if◌then◌else◌}
use Rattle.lua_num.specs.Bytes.{Text}
use Rattle.lua_tree.specs.Syntax.{Expressions}
use Rattle.lua_tree.specs.WellFormed.{depth_of_expressions, has_expressions}
use Rattle.opcode.specs.declared.op.Op.{Op}
use Rattle.proto.specs.declared.parts.LocVar.{LocVar}
use Rattle.core_expr.specs.Counting.{left_by, left_by_values, one_more, taken_behind, taken_behind_values}
use Rattle.core_expr.specs.Places.{Place, place}
use Rattle.core_expr.specs.Values.{Inner, Values, and_value, no_values}
use Rattle.core_expr.specs.Writing.{Wordings, can_write_values, word_values}
use Rattle.recover_expr.specs.Declaring.{declaration, expression_count, fits_head, fits_variables, head_checked, head_list, head_of, head_values, head_values_of, head_word, locals_declared, loop_head, loop_of, loop_step, slice_of, variables_declared, variables_named, with_head_values}
use Rattle.recover_expr.specs.Drafts.{Drafted, drafted, head_part}
use Rattle.recover_expr.specs.Entries.{Entries, Listed}
use Rattle.recover_expr.specs.Lists.{adjusted, adjusted_list, value_count}
use Rattle.recover_expr.specs.Locals.{Scope, declare, is_hidden, names_from, starting}
use Rattle.recover_expr.specs.Reading.{as_over, over, turn_at, turn_of, words_from}
use Rattle.recover_expr.specs.Situation.{Function, Situation, place_in_step, target, word_at}
use Rattle.recover_expr.specs.Writing.{list_written}
use Rattle.recover_expr.specs.declared.draft.DraftKind.{DraftKind}
use Rattle.recover_expr.specs.declared.function.Word.{Word}
use Rattle.scheme.specs.declared.making.Active.{Active}
use Rattle.scheme.specs.declared.making.Piece.{Piece}
use Rattle.scheme_stands.specs.Lists.{AdjustAt}
use Rattle.scheme_stands.specs.Relation.{all_related}
use Rattle.scheme_stands.specs.Words.{Fn, Seq, Spot, WordAt}
use Rattle.reads_back.specs.Cores.{AllHaveCores}
use Rattle.reads_back.specs.Stepped.{CountedAt}
use Rattle.reads_back.proofs.ActsRead.{Declares, numbers_from}
use Rattle.reads_back.proofs.BehindWords.{HasLocals, SameLocals, behind_words}
use Rattle.reads_back.proofs.Comes.{IsWanted}
use Rattle.reads_back.proofs.DeclarationsRead.{StartHere, declared_behind, declares_same, named_behind}
use Rattle.reads_back.proofs.HeadValues.{HeadComes, IsHeaded, counted_comes, generic_comes, head_wording}
use Rattle.reads_back.proofs.NameReads.{AreListed}
use Rattle.reads_back.proofs.Reaches.{Reaches, reaches_on, reaches_some, step_ends}
use Rattle.reads_back.proofs.TakenEntries.{behind_taken}
use Rattle.reads_back.proofs.TestsEnd.{jump_is_read, label_target}
use Rattle.reads_back.proofs.Tests.{both_hold, not_so}
use Rattle.reads_back.proofs.ValueWords.{next_free}
use Rattle.reads_back.proofs.WordsRead.{IsFunction, IsQuiet, word_of, word_there}

-- ---- where the locals of a loop start

-- the word behind its values
abbrev pub head_op : (numeric : Bool) → Op
head_op true = Op.ForPrep
head_op false = Op.Jmp

-- its hidden locals start at a pc, and its variables with these names behind the word there
pub record LoopStarts (f : Function) (numeric : Bool) (scope : Scope) (names : List Text) (pc : ℕ) : Type 0 where
  pub starts : starting f.of.locals pc scope ≡ 3
  pub hidden : is_hidden f.of.locals (length scope.declared) ≡ true
  pub called : head_of (head_op numeric) (slice_of f.of.locals (length scope.declared) 3) ≡ Some numeric
  pub declares : (step : Option ℕ) → (behind : Scope) × (declare f.of.locals 3 pc step scope ≡ Some behind) × Declares 3 scope behind × StartHere f behind names (suc pc)

-- those with the names of hidden locals are three
three_called : (numeric : Bool) (locals : List LocVar) → head_of (head_op numeric) locals ≡ Some numeric → length locals ≡ 3
three_called numeric (a ∷ b ∷ c ∷ []) is = refl
three_called true [] is = cc
three_called true (a ∷ []) is = cc
three_called true (a ∷ b ∷ []) is = cc
three_called true (a ∷ b ∷ c ∷ d ∷ locals) is = cc
three_called false [] is = cc
three_called false (a ∷ []) is = cc
three_called false (a ∷ b ∷ []) is = cc
three_called false (a ∷ b ∷ c ∷ d ∷ locals) is = cc

-- ---- what is known of a head that is read

-- the words from one pc up to another are one step, the head of a loop with these values and variables, and so it is written
pub record HeadRead (f : Function) (g : Fn) (active : List Active) (numeric : Bool) (es : Expressions) (names : List Text) (made_before made_behind : ℕ) (s : Situation) (foot first last : ℕ) : Type 0 where
  pub headed : Listed
  pub is : IsHeaded g active numeric es made_before made_behind headed
  pub draft : Drafted
  pub behind : Situation
  pub reads : (count : ℕ) → last < count + first → words_from f count first s ≡ Some (draft, behind)
  pub kind : draft.kind ≡ DraftKind.Head numeric foot (length s.scope.declared) (length names)
  pub pc : draft.pc ≡ s.pc
  pub next : draft.next ≡ last
  pub part : draft.part ≡ head_part (head_wording numeric (place_in_step f s) s.taken s.left headed).words names
  pub levels : draft.levels ≡ one_more (head_wording numeric (place_in_step f s) s.taken s.left headed).levels
  pub declares : Declares (3 + length names) s.scope behind.scope
  pub left : behind.left ≡ left_by_values headed.values s.left
  pub seen : behind.seen ≡ taken_behind_values headed.values s.seen
  pub later : first < last
  -- its values have words
  pub two : suc first < last

-- whatever its values are, they can be written, with the functions that are left where so many were made
pub record CanHead (f : Function) (g : Fn) (active : List Active) (listed : List ℕ) (lefts : ℕ → List (Option Inner)) (numeric : Bool) (es : Expressions) : Type 0 where
  pub can : (before behind : ℕ) (headed : Listed) → IsHeaded g active numeric es before behind headed → can_write_values (place f.of listed f.short) (lefts before) headed.values ≡ true

numbers_then : (first count more : ℕ) → numbers_from first (count + more) ≡ numbers_from first count ++ numbers_from (first + count) more
numbers_then first zero more =
    let none : 0 + more ≡ more = omega arith in
    let same : first ≡ first + 0 = omega arith in
    ap (numbers_from first) none ∙ ap (λ first. numbers_from first more) same
numbers_then first (suc count) more =
    let one : suc count + more ≡ suc (count + more) = omega arith in
    let same : suc first + count ≡ first + suc count = omega arith in
    ap (numbers_from first) one ∙ ap (λ rest. first ∷ rest) (numbers_then (suc first) count more ∙ ap (λ next. numbers_from (suc first) count ++ numbers_from next more) same)

-- so many locals, and others behind them
declares_then : (count more : ℕ) (before mid behind : Scope) → Declares count before mid → Declares more mid behind → Declares (count + more) before behind
declares_then count more before mid behind one other = record {
  declared_more = omega (arith, one.declared_more, other.declared_more);
  active_more =
      other.active_more
      ∙ ap₂ (λ (active : List ℕ) (first : ℕ). active ++ numbers_from first more) one.active_more one.declared_more
      ∙ append_assoc before.active (numbers_from (length before.declared) count) (numbers_from (length before.declared + count) more)
      ∙ ap (λ (numbers : List ℕ). before.active ++ numbers) (sym (numbers_then (length before.declared) count more));
}

-- ---- the step

-- as many expressions are written as there are values
pub written_count : (at : Place) (n : ℕ) (fs : List (Option Inner)) (vs : Values) (all : Bool) → expression_count (word_values at n fs vs all).words ≡ value_count vs
written_count at n fs no_values all = refl
written_count at n fs (and_value v rest) all = ap suc (written_count at (taken_behind v n) (left_by v fs) rest all)

module _ (f : Function) (numeric : Bool) (names : List Text) (foot pc : ℕ) (w : Word) (s : Situation) (headed : Listed) where
  abbrev count : ℕ
  count = length names

  abbrev first : ℕ
  first = length s.scope.declared

  abbrev emptied : Situation
  emptied = record s { entries = [] }

  abbrev wrote : Wordings × ℕ × Situation
  wrote = (word_values (place_in_step f s) s.taken s.left headed.values headed.all, taken_behind_values headed.values s.taken, record s { entries = []; left = left_by_values headed.values s.left })

  abbrev words : Wordings
  words = head_list numeric wrote.0

  -- what is known behind it, with these locals
  abbrev after_head : Scope → Situation
  after_head scope = record s { entries = []; left = left_by_values headed.values s.left; scope = scope }

  abbrev step : Scope → Drafted × Situation
  step scope = (drafted (DraftKind.Head numeric foot first count) w.next (one_more words.levels) (head_part words.words names) (after_head scope), after_head scope)

  module _ (listed : adjusted_list 3 false s.entries ≡ Some headed) (can : can_write_values (place_in_step f s) s.left headed.values ≡ true) (fits : fits_head w (length s.entries) numeric wrote ≡ true) where
    values_written : adjusted f 3 false s.taken s.entries emptied ≡ Some wrote
    values_written = ap (option_and_then (λ list. list_written f s.taken list emptied)) listed ∙ ap (λ can. if can then Some wrote else None) can

    values_read : head_values f w numeric s ≡ Some (words, wrote.2)
    values_read =
        ap (option_and_then (head_values_of f w numeric s)) (behind_taken [] s.entries 0 refl)
        ∙ ap (option_and_then (head_checked w (length s.entries) numeric)) values_written
        ∙ ap (λ fits. if fits then Some (words, wrote.2) else None) fits

    module _ (mid behind : Scope) (hidden_declared : declare f.of.locals 3 pc (Some s.step) s.scope ≡ Some mid) (starts : starting f.of.locals w.next mid ≡ count) (fit : fits_variables numeric count ≡ true)
        (declared : declare f.of.locals count w.next (Some s.step) mid ≡ Some behind) (named : names_from f.of.locals (length mid.declared) count ≡ Some names) (goes : target f w ≡ Some foot) where
      variables_read : with_head_values f pc first w numeric (words, wrote.2) ≡ Some (step behind)
      variables_read =
          let named_as = λ (n : ℕ) (behind : Scope). variables_named f w numeric first (length mid.declared) n words (after_head behind) in
          let some = λ (n : ℕ). option_and_then (named_as n) (declare f.of.locals n w.next (Some s.step) mid) in
          ap (option_and_then (variables_declared f w numeric first words wrote.2)) hidden_declared
          ∙ ap (λ n. if fits_variables numeric n then some n else None) starts
          ∙ ap (λ fit. if fit then some count else None) fit
          ∙ ap (option_and_then (named_as count)) declared
          ∙ ap (option_and_then (λ names. option_map (loop_step f w numeric first count words (after_head behind) names) (target f w))) named
          ∙ ap (option_map (loop_step f w numeric first count words (after_head behind) names)) goes

      head_is : word_at f pc ≡ Some w → head_of w.instr.op (slice_of f.of.locals first 3) ≡ Some numeric → length (slice_of f.of.locals first 3) ≡ 3 → loop_head f pc 3 s ≡ Some (step behind)
      head_is there called three =
          let slice = slice_of f.of.locals first 3 in
          ap (λ three. option_and_then (loop_of f pc first s) (if three then option_and_then (head_word slice) (word_at f pc) else None)) (eq-eqb (length slice) 3 three)
          ∙ ap (λ word. option_and_then (loop_of f pc first s) (option_and_then (head_word slice) word)) there
          ∙ ap (λ numeric. option_and_then (loop_of f pc first s) (option_map (λ (numeric : Bool). (w, numeric)) numeric)) called
          ∙ ap (option_and_then (with_head_values f pc first w numeric)) values_read
          ∙ variables_read

-- the turn before the word at the pc, where these locals start
head_turn : {f : Function} {numeric : Bool} {before : Scope} {names : List Text} {pc : ℕ} (s : Situation) (step : Drafted × Situation) → SameLocals before s.scope → LoopStarts f numeric before names pc → loop_head f pc 3 s ≡ Some step → turn_at f pc s ≡ Some (over step.0, step.1)
head_turn {f} {pc = pc} s step same start does =
    let rest = if nat_le f.last pc then None else option_and_then (turn_of f s) (word_at f pc) in
    let starts = λ (n : ℕ). prefix_len (λ (local : LocVar). local.start == pc) (drop n f.of.locals) in
    let declares_some = λ (n : ℕ). if nat_lt 0 n then option_map as_over (declaration f pc n s) else rest in
    let shows = λ (hidden : Bool). if hidden then loop_head f pc 3 s else (if nat_lt (length s.entries) 3 then None else locals_declared f pc 3 s) in
    ap declares_some (ap starts same.declared ∙ start.starts)
    ∙ ap (λ (hidden : Bool). option_map as_over (shows hidden)) (ap (is_hidden f.of.locals) same.declared ∙ start.hidden)
    ∙ ap (option_map as_over) does

-- the values of a head have words
head_words : {f : Function} {g : Fn} {active : List Active} {numeric : Bool} {es : Expressions} {before behind : ℕ} {s : Situation} {first last : ℕ} → s.entries ≡ [] → (come : HeadComes f g active numeric es before behind s first last) → first < last
head_words {s = s} {first} {last} empty come = by (reaches_some come.reaches)
  where
    none : adjusted_list 3 false [] ≡ Some come.headed → ⊥
    none listed = cc

    by : ◌⊎◌ (first < last) (s ≡ behind_words come.scope come.seen come.entries s) → first < last
    by (inl less) = less
    by (inr same) =
        let nothing : come.entries ≡ [] = sym (ap (λ (entries : Entries). entries ++ come.entries) empty) ∙ sym (ap (λ (s : Situation). s.entries) same) ∙ empty in
        absurd (none (ap (adjusted_list 3 false) (sym nothing) ∙ come.listed))

-- the values come, and then the locals start
module _ {f : Function} {g : Fn} {active : List Active} {listed : List ℕ} {lefts : ℕ → List (Option Inner)} {numeric : Bool} (is_function : IsFunction f g) (es : Expressions) (names : List Text) (can : CanHead f g active listed lefts numeric es) {made_before register foot first : ℕ} {mid q : Spot} (s : Situation)
    (locals : HasLocals active listed s) (left_is : s.left ≡ lefts made_before) (empty : s.entries ≡ []) (is : numeric ≡ true → register ≡ length active) (within : q.pc ≤ f.last) (on : foot ≤ f.last) (fit : fits_variables numeric (length names) ≡ true) (start : LoopStarts f numeric s.scope names mid.pc)
    (at : WordAt g (Piece.Jump (head_op numeric) register foot) mid q) (come : HeadComes f g active numeric es made_before mid.functions s first mid.pc) where
  abbrev begun : Situation
  begun = record s { scope = come.scope; entries = come.entries; seen = come.seen }

  abbrev head : Word
  head = word_of mid.pc (Piece.Jump (head_op numeric) register foot)

  can_be_written : can_write_values (place_in_step f begun) s.left come.headed.values ≡ true
  can_be_written =
      subst (λ (listed : List ℕ). can_write_values (place f.of listed f.short) s.left come.headed.values ≡ true) (sym (come.same.active ∙ locals.places))
      (subst (λ (left : List (Option Inner)). can_write_values (place f.of listed f.short) left come.headed.values ≡ true) (sym left_is) (can.can made_before mid.functions come.headed come.is))

  fits_by : (numeric : Bool) → (numeric ≡ true → register ≡ length active) → (numeric ≡ true → (length come.entries ≡ 3) × (value_count come.headed.values ≡ 3)) → fits_head (word_of mid.pc (Piece.Jump (head_op numeric) register foot)) (length come.entries) numeric (wrote f true names foot mid.pc head begun come.headed) ≡ true
  fits_by false is three = refl
  fits_by true is three =
      let all = three refl in
      let words = written_count (place_in_step f begun) s.taken s.left come.headed.values come.headed.all in
      both_hold _ _ (eq-eqb (length come.entries) 3 all.0) (both_hold _ _ (eq-eqb _ 3 (words ∙ all.1)) (eq-eqb register s.base (is refl ∙ sym locals.base)))

  head_ends : HeadRead f g active numeric es names made_before mid.functions s foot first q.pc
  head_ends =
      let reaches : Reaches f first s mid.pc begun = subst (λ (entries : Entries). Reaches f first s mid.pc (record begun { entries = entries ++ come.entries })) empty come.reaches in
      let before = start.declares (Some s.step) in
      let hidden = declares_same f.of.locals 3 mid.pc (Some s.step) s.scope come.scope before.0 come.same before.1 in
      let variables = before.3 in
      let behind = declared_behind (Some s.step) hidden.2 variables in
      let there : word_at f mid.pc ≡ Some head = word_there is_function at (jump_is_read is_function at) (omega (arith, at.next, within)) in
      let called = ap (λ (n : ℕ). head_of (head_op numeric) (slice_of f.of.locals n 3)) come.same.declared ∙ start.called in
      let starts : starting f.of.locals (suc mid.pc) hidden.0 ≡ length names = ap (λ (n : ℕ). prefix_len (λ (local : LocVar). local.start == suc mid.pc) (drop n f.of.locals)) hidden.2.declared ∙ variables.starts in
      let goes = label_target f (head_op numeric) register mid.pc foot on in
      let ended = step f numeric names foot mid.pc head begun come.headed behind.0 in
      let does = head_is f numeric names foot mid.pc head begun come.headed come.listed can_be_written (fits_by numeric is come.three) hidden.0 behind.0 hidden.1 starts fit behind.1 (named_behind hidden.0 hidden.2 variables) goes there called (three_called numeric _ called) in
      let turn = head_turn begun ended come.same start does in
      let now : come.scope.active ≡ s.scope.active = come.same.active in
      record {
        headed = come.headed;
        is = come.is;
        draft = ended.0;
        behind = ended.1;
        reads = λ count few. step_ends ended.0 count reaches turn (omega (arith, few, at.next));
        kind = ap (λ (first : ℕ). DraftKind.Head numeric foot first (length names)) come.same.declared;
        pc = refl;
        next = sym at.next;
        part = ap (λ (listed : List ℕ). head_part (head_wording numeric (place f.of listed f.short) s.taken s.left come.headed).words names) now;
        levels = ap (λ (listed : List ℕ). one_more (head_wording numeric (place f.of listed f.short) s.taken s.left come.headed).levels) now;
        declares = declares_then 3 (length names) s.scope before.0 behind.0 before.2 behind.2;
        left = refl;
        seen = sym come.taken;
        later = omega (arith, at.next, reaches_on come.reaches);
        two = let values = head_words empty come in omega (arith, at.next, values);
      }

-- ---- heads

module _ {f : Function} {g : Fn} {active : List Active} {listed : List ℕ} {lefts : ℕ → List (Option Inner)} (is_function : IsFunction f g) (all : AreListed f g active listed) (es : Expressions) (names : List Text) (has : AllHaveCores es) (few : depth_of_expressions es ≤ 200)
    (free foot at : ℕ) (p q : Spot) (s : Situation) (locals : HasLocals active listed s) (left_is : s.left ≡ lefts p.functions) (empty : s.entries ≡ []) (is : free ≡ length active) (last : q.pc ≡ suc at) (within : q.pc ≤ f.last) (on : foot ≤ f.last) (quiet : IsQuiet f s.scope p.pc at) where
  -- the values come, and then the word
  heads_end : {numeric : Bool} {register : ℕ} → (numeric ≡ true → register ≡ length active) → CanHead f g active listed lefts numeric es → fits_variables numeric (length names) ≡ true → LoopStarts f numeric s.scope names at → (mid : Spot) → at ≡ mid.pc → WordAt g (Piece.Jump (head_op numeric) register foot) mid q →
      HeadComes f g active numeric es p.functions mid.functions s p.pc mid.pc → HeadRead f g active numeric es names p.functions q.functions s foot p.pc q.pc
  heads_end {numeric} of can fit start mid there word come =
      subst (λ (made : ℕ). HeadRead f g active numeric es names p.functions made s foot p.pc q.pc) (sym word.functions)
      (head_ends is_function es names can s locals left_is empty of within on fit (subst (LoopStarts f numeric s.scope names) there start) word come)

  -- of a loop over what its values give
  pub generic_head_read : has_expressions es ≡ true → CanHead f g active listed lefts false es → LoopStarts f false s.scope names at →
      Seq (AdjustAt g (all_related g es) 3 active free) (WordAt g (Piece.Jump Op.Jmp 0 foot)) p q → HeadRead f g active false es names p.functions q.functions s foot p.pc q.pc
  generic_head_read some can start stands =
      let there : at ≡ stands.mid.pc = omega (arith, last, stands.second_at.next) in
      let wanted : IsWanted f s stands.mid.pc = subst (IsWanted f s) there (inr (inl (omega (arith, start.starts)))) in
      let next : free ≡ next_free s = omega (arith, is, locals.base, ap length empty) in
      let variables = start.declares None in
      heads_end (λ numeric. not_so numeric) can (lt-ltb 0 (length names) variables.3.some) start stands.mid there stands.second_at
      (generic_comes is_function all es p stands.mid s locals (subst (IsQuiet f s.scope p.pc) there quiet) has few some free next wanted stands.first_at)

  -- of a loop over numbers, which has one variable
  pub numeric_head_read : length names ≡ 1 → CanHead f g active listed lefts true es → LoopStarts f true s.scope names at →
      Seq (CountedAt g es active free) (WordAt g (Piece.Jump Op.ForPrep free foot)) p q → HeadRead f g active true es names p.functions q.functions s foot p.pc q.pc
  numeric_head_read one can start stands =
      let there : at ≡ stands.mid.pc = omega (arith, last, stands.second_at.next) in
      let next : free ≡ next_free s = omega (arith, is, locals.base, ap length empty) in
      heads_end (λ numeric. is) can (eq-eqb (length names) 1 one) start stands.mid there stands.second_at (counted_comes is_function all es p stands.mid s locals (subst (IsQuiet f s.scope p.pc) there quiet) has few free next stands.first_at)
