-- The words of a comparison are read as one step: its operands, of which the one made last is taken off first, and the fields in which the word has them.
use Rattle.std.proofs.Common.{◌≡◌, ℕ, ◌+◌, ◌-◌, ◌<◌, ◌≤◌, ◌⊎◌, inl, inr, nat_le, nat_lt, max, ◌&&◌, ◌||◌, Bool, true, false, List, [], ◌++◌, append-nil, append_assoc, length, length-append, Option, Some, None, refl, sym, ap, ◌∙◌, subst, arith, le-leb, lt-ltb, true≢false}
use Rattle.std.proofs.lemmas.Bool.Decides.{nat_tests}
use Rattle.std.specs.Prelude.{◌==◌, not, option_and_then, option_map, if◌then◌else◌}
use Rattle.lua_tree.specs.Syntax.{Expression}
use Rattle.lua_tree.specs.declared.tree.BinaryOp.{BinaryOp}
use Rattle.opcode.specs.declared.op.Op.{Op}
use Rattle.opcode.specs.Word.{truth_field}
use Rattle.core_expr.specs.Counting.{taken_behind_operand}
use Rattle.core_expr.specs.Targets.{Comparison}
use Rattle.core_expr.specs.Values.{Inner, OperandValue, Value, constant_operand, local_value, value_operand}
use Rattle.recover_expr.specs.Effects.{is_from, reads_from}
use Rattle.recover_expr.specs.Entries.{Entries, is_temporary, take_at}
use Rattle.recover_expr.specs.Locals.{Scope}
use Rattle.recover_expr.specs.Reading.{read_word}
use Rattle.recover_expr.specs.Situation.{Function, Situation, constant_in, pop, pop_at, pop_operand, see, see_operand, with_entries}
use Rattle.recover_expr.specs.Testing.{TestedValue, compared, comparison, left_first, right_first, test, tested_by, tested_comparison, when_of}
use Rattle.recover_expr.specs.Words.{as_end}
use Rattle.recover_expr.specs.declared.function.Word.{Word}
use Rattle.scheme.specs.Expressions.{is_comparison}
use Rattle.scheme.specs.declared.making.Active.{Active}
use Rattle.scheme.specs.declared.making.Piece.{Piece}
use Rattle.scheme_stands.specs.Expressions.{CompareAt, RkAt, TwoAt}
use Rattle.scheme_stands.specs.Relation.{related}
use Rattle.scheme_stands.specs.Words.{Fn, IsRead, Seq, Spot, Stretch, WordAt, instr_by}
use Rattle.reads_back.specs.Cores.{IsOperand}
use Rattle.reads_back.proofs.BehindWords.{HasLocals, SameLocals, behind_words, locals_then, quiet_same, same_then}
use Rattle.reads_back.proofs.BothOperands.{counted, seen_with_both, as_operand, first_is_read, second_is_read}
use Rattle.reads_back.proofs.Comes.{IsOperandWanted, IsWanted, ReadsCore, BeginsOrNone}
use Rattle.reads_back.proofs.HeldOperands.{IsTaken, Kept, ReadsHeld, StandsIn, entries_in, in_local, in_next, in_word, operand_of, rk_held}
use Rattle.reads_back.proofs.NameReads.{AreListed}
use Rattle.reads_back.proofs.OperandReads.{register_popped}
use Rattle.reads_back.proofs.StoresRead.{IsInStep, local_there, no_place}
use Rattle.reads_back.proofs.Reaches.{Reaches, reaches_then}
use Rattle.reads_back.proofs.TakenEntries.{top_taken}
use Rattle.reads_back.proofs.Taking.{max_swap, operand_taken_later}
use Rattle.reads_back.proofs.Tests.{both_hold}
use Rattle.reads_back.proofs.TestedAs.{IsCompared, IsField, comparison_by, comparison_of, is_turned, taken_behind_test, word_op}
use Rattle.reads_back.proofs.TestsEnd.{flag_is}
use Rattle.reads_back.proofs.TestsRead.{CanTest, TestComes, TestRead, test_ends}
use Rattle.reads_back.proofs.ValueWords.{next_free, place_of_next}
use Rattle.reads_back.proofs.WordsBegin.{begins_wants, word_wants}
use Rattle.reads_back.proofs.WordsRead.{IsFunction, IsQuiet, abc_is_read, quiet_before, quiet_from, word_of}

-- ---- what stands of an operand is taken off for it

-- it is on top, where it stands in a register of the step
abbrev IsOnTop : (count : ℕ) → Entries → (x : ℕ) → Kept → Type 0
IsOnTop count before x (in_next entry v) = x ≡ count + length before
IsOnTop count before x kept = Unit {0}

kept_popped : (f : Function) (count free x free1 : ℕ) (listed : List ℕ) (kept : Kept) (t : Situation) (before : Entries) → IsInStep f count listed t → t.entries ≡ before ++ entries_in kept → IsOnTop count before x kept → StandsIn f count listed free x free1 kept →
    pop_operand f x t ≡ Some (operand_of kept, record t { entries = before })
kept_popped f count free x free1 listed (in_word number) t before step is on_top stands =
    let minus : number + 256 - 256 ≡ number = omega arith in
    let operand : ℕ → OperandValue × Situation = λ k. (constant_operand k, t) in
    ap (λ x. pop_operand f x t) stands.0
    ∙ ap (λ far. if far then option_map operand (constant_in f (number + 256 - 256)) else option_map as_operand (pop f (number + 256) t)) (le-leb 256 (number + 256) (omega arith))
    ∙ ap (λ n. option_map operand (constant_in f n)) minus
    ∙ ap (λ within. option_map operand (if within then Some number else None)) (lt-ltb number (length f.of.constants) stands.1)
    ∙ ap (λ (entries : Entries). Some (constant_operand number, record t { entries = entries })) (is ∙ append-nil before)
kept_popped f count free x free1 listed (in_local r) t before step is on_top stands =
    ap (λ x. pop_operand f x t) stands.0
    ∙ register_popped f r t (omega (arith, stands.1, stands.2))
    ∙ ap (λ there. option_map as_operand (pop_at f t r there)) (no_place step r stands.1)
    ∙ ap (λ there. option_map as_operand (option_map (λ (v : Value). (v, t)) there)) (local_there step r stands.4 stands.5)
    ∙ ap (λ (entries : Entries). Some (value_operand (local_value r), record t { entries = entries })) (is ∙ append-nil before)
kept_popped f count free x free1 listed (in_next entry v) t before step is on_top stands =
    register_popped f x t (omega (arith, stands.0, stands.1))
    ∙ ap (λ place. option_map as_operand (pop_at f t x place)) (place_of_next t.base (length before) x (omega (arith, on_top, step.base)))
    ∙ ap (λ entries. option_map as_operand (option_map (with_entries t) (take_at (length before) entries))) is
    ∙ ap (λ taken. option_map as_operand (option_map (with_entries t) taken)) (top_taken before entry v (length before) stands.3 refl)

no_entry : (count x : ℕ) (before : Entries) (kept : Kept) → entries_in kept ≡ [] → IsOnTop count before x kept
no_entry count x before (in_word number) none = tt
no_entry count x before (in_local r) none = tt
no_entry count x before (in_next entry v) none = cc

-- ---- both

-- two operands one behind the other
record BothStand (f : Function) (count : ℕ) (listed : List ℕ) (x y free1 free2 : ℕ) (one two : Kept) : Type 0 where
  first : StandsIn f count listed count x free1 one
  second : StandsIn f count listed free1 y free2 two

-- which operand is taken off first
module _ {f : Function} {count free1 free2 x y : ℕ} {listed : List ℕ} {one two : Kept} (both : BothStand f count listed x y free1 free2 one two) where
  -- in order the one in C was made last
  in_order : (is_temporary count y && (is_temporary count x && nat_lt y x)) ≡ false
  in_order = by one both.first
    where
      by : (kept : Kept) → StandsIn f count listed count x free1 kept → (is_temporary count y && (is_temporary count x && nat_lt y x)) ≡ false
      by (in_word number) stands = let at = stands.0 in grind (arith, nat_tests)
      by (in_local r) stands = let at = stands.0 in let low = stands.1 in grind (arith, nat_tests)
      by (in_next entry v) stands = let at = stands.0 in grind (arith, nat_tests)

  -- the second one is on top of the first
  second_on_top : IsOnTop count (entries_in one) y two
  second_on_top = by one two both.first both.second
    where
      by : (one two : Kept) → StandsIn f count listed count x free1 one → StandsIn f count listed free1 y free2 two → IsOnTop count (entries_in one) y two
      by one (in_word number) first second = tt
      by one (in_local r) first second = tt
      by (in_word number) (in_next entry v) first second = omega (arith, first.2, second.0)
      by (in_local r) (in_next entry v) first second = omega (arith, first.3, second.0)
      by (in_next other w) (in_next entry v) first second = omega (arith, first.2, second.0)

  first_on_top : IsOnTop count [] x one
  first_on_top = by one both.first
    where
      by : (kept : Kept) → StandsIn f count listed count x free1 kept → IsOnTop count [] x kept
      by (in_word number) stands = tt
      by (in_local r) stands = tt
      by (in_next entry v) stands = omega (arith, stands.0)

  module _ (t : Situation) (step : IsInStep f count listed t) (entries : t.entries ≡ entries_in one ++ entries_in two) where
    second_off : pop_operand f y t ≡ Some (operand_of two, record t { entries = entries_in one })
    second_off = kept_popped f count free1 y free2 listed two t (entries_in one) step entries second_on_top both.second

    then_first_off : pop_operand f x (record t { entries = entries_in one }) ≡ Some (operand_of one, record t { entries = [] })
    then_first_off = kept_popped f count count x free1 listed one (record t { entries = entries_in one }) [] (record { base = step.base; places = step.places }) refl first_on_top both.first

    -- in the order of the fields
    plain_taken : (pc a : ℕ) (code : Op) (op : BinaryOp) → comparison f (word_of pc (Piece.Abc code a x y)) op t ≡ Some (tested_comparison (comparison_by false op x y (operand_of one) (operand_of two)), record t { entries = [] })
    plain_taken pc a code op =
        let w = word_of pc (Piece.Abc code a x y) in
        let turned : Option (TestedValue × Situation) = option_and_then (left_first f w op) (pop_operand f x t) in
        let plain : Option (TestedValue × Situation) = option_and_then (right_first f w op) (pop_operand f y t) in
        ap (λ is. if is then turned else plain) (ap (λ base. is_temporary base y && (is_temporary base x && nat_lt y x)) step.base ∙ in_order)
        ∙ ap (option_and_then (right_first f w op)) second_off
        ∙ ap (option_map (λ (left : OperandValue × Situation). (compared w op left.0 (operand_of two), left.1))) then_first_off

    -- with the fields the other way round
    only_one : (is_temporary count x && (is_temporary count y && nat_lt x y)) ≡ false → (entries_in one ≡ []) ⊎ (entries_in two ≡ [])
    only_one is = by one two both.first both.second
      where
        by : (one two : Kept) → StandsIn f count listed count x free1 one → StandsIn f count listed free1 y free2 two → (entries_in one ≡ []) ⊎ (entries_in two ≡ [])
        by (in_word number) two first second = inl refl
        by (in_local r) two first second = inl refl
        by (in_next other w) (in_word number) first second = inr refl
        by (in_next other w) (in_local r) first second = inr refl
        by (in_next other w) (in_next entry v) first second =
            let at_x = first.0 in
            let at_y = second.0 in
            let next = first.2 in
            let few = second.1 in
            let low : nat_le count x ≡ true = le-leb count x (omega (arith, at_x)) in
            let high : nat_le count y ≡ true = le-leb count y (omega (arith, at_y, next)) in
            let below : nat_lt x 256 ≡ true = lt-ltb x 256 (omega (arith, at_x, next, few)) in
            let under : nat_lt y 256 ≡ true = lt-ltb y 256 (omega (arith, at_y, few)) in
            let less : nat_lt x y ≡ true = lt-ltb x y (omega (arith, at_x, at_y, next)) in
            absurd (true≢false (sym (both_hold _ _ (both_hold _ _ low below) (both_hold _ _ (both_hold _ _ high under) less)) ∙ is))

    -- the first one is taken off first
    first_off : (entries_in one ≡ []) ⊎ (entries_in two ≡ []) → pop_operand f x t ≡ Some (operand_of one, record t { entries = entries_in two })
    first_off (inl none) =
        kept_popped f count count x free1 listed one t (entries_in two) step (entries ∙ ap (λ (es : Entries). es ++ entries_in two) none ∙ sym (append-nil (entries_in two)) ∙ ap (λ (es : Entries). entries_in two ++ es) (sym none)) (no_entry count x (entries_in two) one none) both.first
    first_off (inr none) =
        kept_popped f count count x free1 listed one t [] step (entries ∙ ap (λ (es : Entries). entries_in one ++ es) none ∙ append-nil (entries_in one)) first_on_top both.first
        ∙ ap (λ (es : Entries). Some (operand_of one, record t { entries = es })) (sym none)

    now_on_top : (entries_in one ≡ []) ⊎ (entries_in two ≡ []) → IsOnTop count [] y two
    now_on_top (inl none) = subst (λ (es : Entries). IsOnTop count es y two) none second_on_top
    now_on_top (inr none) = no_entry count y [] two none

    then_second_off : (entries_in one ≡ []) ⊎ (entries_in two ≡ []) → pop_operand f y (record t { entries = entries_in two }) ≡ Some (operand_of two, record t { entries = [] })
    then_second_off alone = kept_popped f count free1 y free2 listed two (record t { entries = entries_in two }) [] (record { base = step.base; places = step.places }) refl (now_on_top alone) both.second

    turned_taken : (pc a : ℕ) (code : Op) (op : BinaryOp) → comparison f (word_of pc (Piece.Abc code a y x)) op t ≡ Some (tested_comparison (comparison_by true op x y (operand_of one) (operand_of two)), record t { entries = [] })
    turned_taken pc a code op =
        ap (λ is. if is then turned else plain) (ap (λ base. is_temporary base x && (is_temporary base y && nat_lt x y)) step.base) ∙ by (is_temporary count x && (is_temporary count y && nat_lt x y)) refl
      where
        w : Word
        w = word_of pc (Piece.Abc code a y x)

        turned : Option (TestedValue × Situation)
        turned = option_and_then (left_first f w op) (pop_operand f y t)

        plain : Option (TestedValue × Situation)
        plain = option_and_then (right_first f w op) (pop_operand f x t)

        by : (is : Bool) → (is_temporary count x && (is_temporary count y && nat_lt x y)) ≡ is → (if is then turned else plain) ≡ Some (tested_comparison (comparison_by true op x y (operand_of one) (operand_of two)), record t { entries = [] })
        by true is =
            ap (option_and_then (left_first f w op)) second_off
            ∙ ap (option_map (λ (right : OperandValue × Situation). (compared w op (operand_of two) right.0, right.1))) then_first_off
        by false is =
            ap (option_and_then (right_first f w op)) (first_off (only_one is))
            ∙ ap (option_map (λ (left : OperandValue × Situation). (compared w op left.0 (operand_of one), left.1))) (then_second_off (only_one is))

-- ---- the words of both operands

-- a word with both fields reads the registers that are in them
record ReadsFields (g : Fn) (piece : (x y : ℕ) → Piece) : Type 0 where
  first : (pc x y base : ℕ) → base ≤ x → x < 256 → reads_from (instr_by pc (piece x y)) base ≡ true
  second : (pc x y base : ℕ) → base ≤ y → y < 256 → reads_from (instr_by pc (piece x y)) base ≡ true
  read : {f : Function} {p q : Spot} → IsFunction f g → (x y : ℕ) → WordAt g (piece x y) p q → IsRead p.pc (piece x y)

-- words before the word come to what stands of both
record BothCome (f : Function) (g : Fn) (active : List Active) (listed : List ℕ) (left right : Expression) (before behind : ℕ) (s : Situation) (x y first last : ℕ) : Type 0 where
  one : Kept
  two : Kept
  mid : ℕ
  is_first : IsOperand g active left before mid (operand_of one)
  is_second : IsOperand g active right mid behind (operand_of two)
  free1 : ℕ
  free2 : ℕ
  stand : BothStand f (length active) listed x y free1 free2 one two
  scope : Scope
  same : SameLocals s.scope scope
  seen : ℕ
  reaches : Reaches f first s last (behind_words scope seen (entries_in one ++ entries_in two) s)
  taken : max (max seen (counted x)) (counted y) ≡ taken_behind_operand (operand_of two) (taken_behind_operand (operand_of one) s.seen)

entries_count : (f : Function) (count : ℕ) (listed : List ℕ) (s : Situation) (x free1 : ℕ) (kept : Kept) → count ≡ next_free s → StandsIn f count listed count x free1 kept → free1 ≡ s.base + length (s.entries ++ entries_in kept)
entries_count f count listed s x free1 (in_word number) is stands = omega (arith, is, stands.2, length-append s.entries (entries_in (in_word number)))
entries_count f count listed s x free1 (in_local r) is stands = omega (arith, is, stands.3, length-append s.entries (entries_in (in_local r)))
entries_count f count listed s x free1 (in_next entry v) is stands = omega (arith, is, stands.2, length-append s.entries (entries_in (in_next entry v)))

module _ {f : Function} {g : Fn} {active : List Active} {listed : List ℕ} (left right : Expression) (label : ℕ) (piece : (x y : ℕ) → Piece) (is_function : IsFunction f g) (left_held : ReadsHeld f g active listed (IsOperand g active left) (RkAt g active (related g left))) (right_held : ReadsHeld f g active listed (IsOperand g active right) (RkAt g active (related g right))) (reads : ReadsFields g piece) where
  abbrev BothAt : Stretch
  BothAt = TwoAt (RkAt g active (related g left)) (RkAt g active (related g right)) (length active) (λ x y. Seq (WordAt g (piece x y)) (WordAt g (Piece.Jump Op.Jmp 0 label)))

  first_wanted : (p q : Spot) (s : Situation) → length active ≡ next_free s → IsQuiet f s.scope p.pc q.pc → (at : BothAt p q) → IsOperandWanted f s (length active) at.x at.free1 at.mid.pc
  first_wanted p q s is quiet at at_x at_free =
      by_second (right_held.begins at.free1 at.y at.free2 at.mid at.last (omega (arith, at.words_at.first_at.next, at.words_at.second_at.next, quiet.within)) at.right_at) (left_held.takes (length active) at.x at.free1 p at.mid at.left_at)
    where
      on : p.pc ≤ at.mid.pc
      on = left_held.forward (length active) at.x at.free1 p at.mid at.left_at

      back : at.mid.pc ≤ at.last.pc
      back = right_held.forward at.free1 at.y at.free2 at.mid at.last at.right_at

      by_second : BeginsOrNone f at.free1 at.free2 at.mid.pc at.last.pc → IsTaken (length active) at.x at.free1 → IsWanted f s at.mid.pc
      by_second (inr second) taken = begins_wants s (quiet.stays at.mid.pc on (omega (arith, back, at.words_at.first_at.next, at.words_at.second_at.next))) second (λ none. omega (arith, is, at_free, none))
      by_second (inl (same, still)) (inl none) = absurd (omega (arith, none, at_free))
      by_second (inl (same, still)) (inr next) =
          let word = at.words_at.first_at in
          let few : at.x < 256 = omega (arith, next.0, next.1) in
          let first = reads.first at.last.pc at.x at.y s.base (omega (arith, is, at_x)) few in
          subst (λ (pc : ℕ). IsWanted f s pc) (sym same) (word_wants s (quiet.stays at.last.pc (omega (arith, on, back)) (omega (arith, word.next, at.words_at.second_at.next))) is_function word (reads.read is_function at.x at.y word) first)

  second_wanted : (p q : Spot) (t : Situation) → IsQuiet f t.scope p.pc q.pc → (at : BothAt p q) → at.free1 ≡ next_free t → IsOperandWanted f t at.free1 at.y at.free2 at.last.pc
  second_wanted p q t quiet at is at_y at_free = by (right_held.takes at.free1 at.y at.free2 at.mid at.last at.right_at)
    where
      by : IsTaken at.free1 at.y at.free2 → IsWanted f t at.last.pc
      by (inl none) = absurd (omega (arith, none, at_free))
      by (inr next) =
          let word = at.words_at.first_at in
          let few : at.y < 256 = omega (arith, next.0, next.1) in
          let on = left_held.forward (length active) at.x at.free1 p at.mid at.left_at in
          let back = right_held.forward at.free1 at.y at.free2 at.mid at.last at.right_at in
          let stay = quiet.stays at.last.pc (omega (arith, on, back)) (omega (arith, word.next, at.words_at.second_at.next)) in
          word_wants t stay is_function word (reads.read is_function at.x at.y word) (reads.second at.last.pc at.x at.y t.base (omega (arith, is, at_y)) few)

  both_come : (p q : Spot) (s : Situation) → HasLocals active listed s → length active ≡ next_free s → IsQuiet f s.scope p.pc q.pc → (at : BothAt p q) → BothCome f g active listed left right p.functions at.last.functions s at.x at.y p.pc at.last.pc
  both_come p q s locals is quiet at =
      let on = left_held.forward (length active) at.x at.free1 p at.mid at.left_at in
      let back = right_held.forward at.free1 at.y at.free2 at.mid at.last at.right_at in
      let before = quiet_before at.last.pc (omega (arith, at.words_at.first_at.next, at.words_at.second_at.next)) quiet in
      let one = left_held.comes (length active) at.x at.free1 p at.mid s locals is (quiet_before at.mid.pc back before) (first_wanted p q s is quiet at) at.left_at in
      let t = behind_words one.scope one.seen (entries_in one.kept) s in
      let next : at.free1 ≡ next_free t = entries_count f (length active) listed s at.x at.free1 one.kept is one.stands in
      let two = right_held.comes at.free1 at.y at.free2 at.mid at.last t (locals_then one.same locals) next (quiet_same one.same (quiet_from at.mid.pc on before)) (second_wanted p q t (quiet_same one.same quiet) at next) at.right_at in
      record {
        one = one.kept;
        two = two.kept;
        mid = at.mid.functions;
        is_first = one.is;
        is_second = two.is;
        free1 = at.free1;
        free2 = at.free2;
        stand = record { first = one.stands; second = two.stands };
        scope = two.scope;
        same = same_then one.same two.same;
        seen = two.seen;
        reaches = subst (λ (entries : Entries). Reaches f p.pc s at.last.pc (record s { scope = two.scope; entries = entries; seen = two.seen })) (append_assoc s.entries (entries_in one.kept) (entries_in two.kept)) (reaches_then one.reaches two.reaches);
        taken =
            max_swap two.seen (counted at.x) (counted at.y)
            ∙ ap (λ n. max n (counted at.x)) two.taken
            ∙ sym (operand_taken_later (operand_of two.kept) one.seen (counted at.x))
            ∙ ap (taken_behind_operand (operand_of two.kept)) one.taken;
      }

-- ---- the word

-- so the word of a comparison is read
record IsCompareWord (code : Op) (op : BinaryOp) : Type 0 where
  wants : (pc a b c base : ℕ) → reads_from (instr_by pc (Piece.Abc code a b c)) base ≡ (is_from b base || is_from c base)
  sees : (pc a b c : ℕ) (t : Situation) → see (instr_by pc (Piece.Abc code a b c)) t ≡ see_operand c (see_operand b t)
  tests : (f : Function) (pc a b c : ℕ) (t : Situation) → tested_by f (word_of pc (Piece.Abc code a b c)) t ≡ comparison f (word_of pc (Piece.Abc code a b c)) op t
  reads : (f : Function) (pc a b c : ℕ) (t : Situation) → read_word f (word_of pc (Piece.Abc code a b c)) t ≡ option_map as_end (test f (word_of pc (Piece.Abc code a b c)) t)
  when : (pc a b c : ℕ) → when_of code (word_of pc (Piece.Abc code a b c)) ≡ (a == 1)

plain_fields : {g : Fn} {code : Op} {op : BinaryOp} (a : ℕ) → IsCompareWord code op → ReadsFields g (λ x y. Piece.Abc code a x y)
plain_fields a as_word = record {
  first = λ pc x y base above small. as_word.wants pc a x y base ∙ first_is_read base x y above small;
  second = λ pc x y base above small. as_word.wants pc a x y base ∙ second_is_read base x y above small;
  read = λ is_function x y at. abc_is_read is_function at;
}

turned_fields : {g : Fn} {code : Op} {op : BinaryOp} (a : ℕ) → IsCompareWord code op → ReadsFields g (λ x y. Piece.Abc code a y x)
turned_fields a as_word = record {
  first = λ pc x y base above small. as_word.wants pc a y x base ∙ second_is_read base y x above small;
  second = λ pc x y base above small. as_word.wants pc a y x base ∙ first_is_read base y x above small;
  read = λ is_function x y at. abc_is_read is_function at;
}

-- the constants that operands take, in any order
taken_as : (o : OperandValue) (n : ℕ) → taken_behind_operand o n ≡ max (taken_behind_operand o 0) n
taken_as o n = let none : max 0 n ≡ n = omega arith in sym (ap (taken_behind_operand o) none) ∙ operand_taken_later o 0 n

pub taken_either : (o p : OperandValue) (n : ℕ) → taken_behind_operand o (taken_behind_operand p n) ≡ taken_behind_operand p (taken_behind_operand o n)
taken_either o p n = omega (arith, taken_as o (taken_behind_operand p n), taken_as p n, taken_as p (taken_behind_operand o n), taken_as o n)

field_is : (f : Function) (count free field free1 : ℕ) (listed : List ℕ) (kept : Kept) → StandsIn f count listed free field free1 kept → IsField count free field free1 (operand_of kept)
field_is f count free field free1 listed (in_word number) stands = (stands.0, stands.2)
field_is f count free field free1 listed (in_local r) stands = inl (omega (arith, stands.0, stands.1), ap local_value (sym stands.0), stands.3)
field_is f count free field free1 listed (in_next entry v) stands = inr (stands.0, stands.1, stands.2)

module _ {f : Function} {g : Fn} {active : List Active} {listed : List ℕ} {lefts : ℕ → List (Option Inner)} (is_function : IsFunction f g) (all : AreListed f g active listed) (op : BinaryOp) (left right : Expression) (left_read : ReadsCore f g active listed left) (right_read : ReadsCore f g active listed right)
    (can : CanTest f (IsCompared g active op left right) listed lefts) where
  -- what both are tested as
  compared_by : {before behind x y first last : ℕ} {s : Situation} → (come : BothCome f g active listed left right before behind s x y first last) → IsCompared g active op left right before behind (tested_comparison (comparison_of op x y (operand_of come.one) (operand_of come.two)))
  compared_by {x = x} {y = y} come = (
    record {
      first = operand_of come.one;
      second = operand_of come.two;
      mid = come.mid;
      is_first = come.is_first;
      is_second = come.is_second;
      x = x;
      y = y;
      free1 = come.free1;
      free2 = come.free2;
      at_first = field_is f (length active) (length active) x come.free1 listed come.one come.stand.first;
      at_second = field_is f (length active) come.free1 y come.free2 listed come.two come.stand.second;
    },
    refl,
  )

  module _ {code : Op} (as_word : IsCompareWord code (word_op op)) where
    -- the operands stand in the fields of the word in their order or turned about
    either_read : (way : Bool) → is_turned op ≡ way → (label : ℕ) (when : Bool) (x y b c : ℕ) (p last mid q : Spot) (s : Situation) → HasLocals active listed s → s.left ≡ lefts p.functions → s.entries ≡ [] → label ≤ f.last → IsQuiet f s.scope p.pc q.pc →
        (come : BothCome f g active listed left right p.functions last.functions s x y p.pc last.pc) → WordAt g (Piece.Abc code (truth_field when) b c) last mid → WordAt g (Piece.Jump Op.Jmp 0 label) mid q →
        max (max come.seen (counted b)) (counted c) ≡ taken_behind_test (tested_comparison (comparison_by way (word_op op) x y (operand_of come.one) (operand_of come.two))) s.seen →
        ((t : Situation) → IsInStep f (length active) listed t → t.entries ≡ entries_in come.one ++ entries_in come.two →
        comparison f (word_of last.pc (Piece.Abc code (truth_field when) b c)) (word_op op) t ≡ Some (tested_comparison (comparison_by way (word_op op) x y (operand_of come.one) (operand_of come.two)), record t { entries = [] })) →
        TestRead f (IsCompared g active op left right p.functions q.functions) s when label p.pc q.pc
    either_read way turned label when x y b c p last mid q s locals left_is empty within quiet come word jump counts takes =
        let a = truth_field when in
        let first = operand_of come.one in
        let second = operand_of come.two in
        let tested = tested_comparison (comparison_of op x y first second) in
        let entries = entries_in come.one ++ entries_in come.two in
        let w = word_of last.pc (Piece.Abc code a b c) in
        let t = behind_words come.scope come.seen entries s in
        let n = max (max come.seen (counted b)) (counted c) in
        let u = record s { scope = come.scope; seen = n } in
        let step : IsInStep f (length active) listed (record u { entries = entries }) = record { base = locals.base; places = come.same.active ∙ locals.places } in
        let in_way : comparison_of op x y first second ≡ comparison_by way (word_op op) x y first second = ap (λ turned. comparison_by turned (word_op op) x y first second) turned in
        let all_counted : n ≡ taken_behind_test tested s.seen = counts ∙ ap (λ (c : Comparison). taken_behind_operand c.right (taken_behind_operand c.left s.seen)) (sym in_way) in
        let test_come : TestComes f (IsCompared g active op left right p.functions last.functions) s p.pc last.pc w = record {
          tested = tested;
          is = compared_by come;
          scope = come.scope;
          same = come.same;
          seen = come.seen;
          more = entries;
          reaches = come.reaches;
          takes =
              ap (tested_by f w) (as_word.sees last.pc a b c t ∙ seen_with_both b c t)
              ∙ as_word.tests f last.pc a b c (record t { seen = n })
              ∙ ap (λ (es : Entries). comparison f w (word_op op) (record u { entries = es ++ entries })) empty
              ∙ takes (record u { entries = entries }) step refl
              ∙ ap (λ (c : Comparison). Some (tested_comparison c, record u { entries = [] })) (sym in_way)
              ∙ ap (λ (es : Entries). Some (tested, record u { entries = es })) (sym empty)
              ∙ ap (λ (n : ℕ). Some (tested, record u { seen = n })) all_counted;
        } in
        let made : q.functions ≡ last.functions = jump.functions ∙ word.functions in
        subst (λ (when : Bool). TestRead f (IsCompared g active op left right p.functions q.functions) s when label p.pc q.pc) (as_word.when last.pc a b c ∙ flag_is when)
        (test_ends is_function can s locals.places left_is empty within quiet (subst (λ (behind : ℕ). TestComes f (IsCompared g active op left right p.functions behind) s p.pc last.pc w) (sym made) test_come) word jump (λ t. as_word.reads f last.pc a b c t))

    plain_read : (label : ℕ) (when : Bool) (p q : Spot) (s : Situation) → is_turned op ≡ false → HasLocals active listed s → s.left ≡ lefts p.functions → s.entries ≡ [] → label ≤ f.last → IsQuiet f s.scope p.pc q.pc →
        TwoAt (RkAt g active (related g left)) (RkAt g active (related g right)) (length active) (λ x y. Seq (WordAt g (Piece.Abc code (truth_field when) x y)) (WordAt g (Piece.Jump Op.Jmp 0 label))) p q →
        TestRead f (IsCompared g active op left right p.functions q.functions) s when label p.pc q.pc
    plain_read label when p q s turned locals left_is empty within quiet at =
        let is : length active ≡ next_free s = omega (arith, locals.base, ap length empty) in
        let come = both_come left right label (λ x y. Piece.Abc code (truth_field when) x y) is_function (rk_held is_function all left left_read) (rk_held is_function all right right_read) (plain_fields (truth_field when) as_word) p q s locals is quiet at in
        either_read false turned label when at.x at.y at.x at.y p at.last _ q s locals left_is empty within quiet come at.words_at.first_at at.words_at.second_at come.taken
        (λ t step entries. plain_taken come.stand t step entries at.last.pc (truth_field when) code (word_op op))

    turned_read : (label : ℕ) (when : Bool) (p q : Spot) (s : Situation) → is_turned op ≡ true → HasLocals active listed s → s.left ≡ lefts p.functions → s.entries ≡ [] → label ≤ f.last → IsQuiet f s.scope p.pc q.pc →
        TwoAt (RkAt g active (related g left)) (RkAt g active (related g right)) (length active) (λ x y. Seq (WordAt g (Piece.Abc code (truth_field when) y x)) (WordAt g (Piece.Jump Op.Jmp 0 label))) p q →
        TestRead f (IsCompared g active op left right p.functions q.functions) s when label p.pc q.pc
    turned_read label when p q s turned locals left_is empty within quiet at =
        let is : length active ≡ next_free s = omega (arith, locals.base, ap length empty) in
        let come = both_come left right label (λ x y. Piece.Abc code (truth_field when) y x) is_function (rk_held is_function all left left_read) (rk_held is_function all right right_read) (turned_fields (truth_field when) as_word) p q s locals is quiet at in
        either_read true turned label when at.x at.y at.y at.x p at.last _ q s locals left_is empty within quiet come at.words_at.first_at at.words_at.second_at
        (max_swap come.seen (counted at.y) (counted at.x) ∙ come.taken ∙ taken_either (operand_of come.two) (operand_of come.one) s.seen)
        (λ t step entries. turned_taken come.stand t step entries at.last.pc (truth_field when) code (word_op op))

equal_word : IsCompareWord Op.Eq BinaryOp.Eq
equal_word = record { wants = λ pc a b c base. refl; sees = λ pc a b c t. refl; tests = λ f pc a b c t. refl; reads = λ f pc a b c t. refl; when = λ pc a b c. refl }

less_word : IsCompareWord Op.Lt BinaryOp.Lt
less_word = record { wants = λ pc a b c base. refl; sees = λ pc a b c t. refl; tests = λ f pc a b c t. refl; reads = λ f pc a b c t. refl; when = λ pc a b c. refl }

up_to_word : IsCompareWord Op.Le BinaryOp.Le
up_to_word = record { wants = λ pc a b c base. refl; sees = λ pc a b c t. refl; tests = λ f pc a b c t. refl; reads = λ f pc a b c t. refl; when = λ pc a b c. refl }

-- the truth at which the word jumps
abbrev pub when_compared : BinaryOp → (sense : Bool) → Bool
when_compared BinaryOp.Ne sense = not sense
when_compared op sense = sense

-- a comparison, at the begin of a step
pub comparison_read : {f : Function} {g : Fn} {active : List Active} {listed : List ℕ} {lefts : ℕ → List (Option Inner)} → IsFunction f g → AreListed f g active listed → (op : BinaryOp) (left right : Expression) → is_comparison op ≡ true → ReadsCore f g active listed left → ReadsCore f g active listed right →
    CanTest f (IsCompared g active op left right) listed lefts → (label : ℕ) (sense : Bool) (p q : Spot) (s : Situation) → HasLocals active listed s → s.left ≡ lefts p.functions → s.entries ≡ [] → label ≤ f.last → IsQuiet f s.scope p.pc q.pc →
    CompareAt g op (related g left) (related g right) active (length active) sense label p q → TestRead f (IsCompared g active op left right p.functions q.functions) s (when_compared op sense) label p.pc q.pc
comparison_read is_function all BinaryOp.Eq left right is first second can label sense p q s locals left_is empty within quiet at = plain_read is_function all BinaryOp.Eq left right first second can equal_word label sense p q s refl locals left_is empty within quiet at
comparison_read is_function all BinaryOp.Ne left right is first second can label sense p q s locals left_is empty within quiet at = plain_read is_function all BinaryOp.Ne left right first second can equal_word label (not sense) p q s refl locals left_is empty within quiet at
comparison_read is_function all BinaryOp.Lt left right is first second can label sense p q s locals left_is empty within quiet at = plain_read is_function all BinaryOp.Lt left right first second can less_word label sense p q s refl locals left_is empty within quiet at
comparison_read is_function all BinaryOp.Le left right is first second can label sense p q s locals left_is empty within quiet at = plain_read is_function all BinaryOp.Le left right first second can up_to_word label sense p q s refl locals left_is empty within quiet at
comparison_read is_function all BinaryOp.Gt left right is first second can label sense p q s locals left_is empty within quiet at = turned_read is_function all BinaryOp.Gt left right first second can less_word label sense p q s refl locals left_is empty within quiet at
comparison_read is_function all BinaryOp.Ge left right is first second can label sense p q s locals left_is empty within quiet at = turned_read is_function all BinaryOp.Ge left right first second can up_to_word label sense p q s refl locals left_is empty within quiet at
comparison_read is_function all op left right is first second can label sense p q s locals left_is empty within quiet at = cc
