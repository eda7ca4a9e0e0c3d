-- CLOSURE in a sound chunk.
use Rattle.std.proofs.Common.{◌≡◌, inl, inr, ℕ, zero, suc, ◌+◌, ◌≤◌, min, ℤ, Bool, true, false, not, List, [], ◌∷◌, ◌++◌, length, take, drop, ◌==◌, None, Some, refl, sym, ap, subst, ◌∙◌, true≢false, arith, nat_lt, nat_le, ltb-false, eq-eqb, length-take, ◌||◌}
use Rattle.std.specs.Prelude.{Option, is_none, nat_eq}
use Rattle.opcode.specs.declared.op.Op.{Op}
use Rattle.opcode.specs.declared.word.Instr.{Instr}
use Rattle.proto.specs.Chunk.{Chunk, own, functions, Functions, no_functions, and_function, function_at}
use Rattle.lua_model.specs.Datum.{Datum, closure}
use Rattle.rules.specs.declared.rule.Rule.{Rule}
use Rattle.opcode.specs.Reading.{instr_of}
use Rattle.std.specs.List.{list_any}
use Rattle.rules.specs.Places.{named_by, named_by_all, upvalue_count, belonging_to, next_pc}
use Rattle.rules.specs.Notes.{Registers, captures}
use Rattle.rules.specs.Breaks.{reaches, is_capture, captures_none, is_bad_word_of}
use Rattle.rules.specs.Sound.{IsSound, AreSound}
use Rattle.rules.specs.State.{Cell, Closure, State, Effect, check, at_pc}
use Rattle.rules.specs.Cells.{take_cells}
use Rattle.rules.specs.Step.{add_closure, effect}
use Rattle.rules.proofs.Lists.{none_some, some_one, clash, or_first_false, or_second_false, some_head, some_tail, reach_head, reach_tail, get_pushed, member}
use Rattle.rules.proofs.Invariant.{IsClosure, Base, BaseOf, Fine}
use Rattle.rules.proofs.Landing.{need_fine, check_fine, set_fine}
use Rattle.rules.proofs.Closing.{base_cells}
use Rattle.rules.proofs.Sharing.{with_cells, IsCapture, AreCaptures, take_cells_fine}
use Rattle.rules.proofs.Arriving.{arrive_next, first_way}
use Rattle.rules.proofs.Words.{word, DoingOf, m, keeps, first_there, registers_kept}

reach_front : (limit : ℕ) (xs ys : List ℕ) → reaches limit (xs ++ ys) ≡ false → reaches limit xs ≡ false
reach_front limit [] ys e = refl
reach_front limit (x ∷ xs) ys e = go (nat_le limit x) (reach_front limit xs ys) e
  where
    go : (b : Bool) → (reaches limit (xs ++ ys) ≡ false → reaches limit xs ≡ false) → (b || reaches limit (xs ++ ys)) ≡ false → (b || reaches limit xs) ≡ false
    go true next h = h
    go false next h = next h

reach_back : (limit : ℕ) (xs ys : List ℕ) → reaches limit (xs ++ ys) ≡ false → reaches limit ys ≡ false
reach_back limit [] ys e = e
reach_back limit (x ∷ xs) ys e = reach_back limit xs ys (reach_tail limit x (xs ++ ys) e)

-- the function of a number is sound
inner_sound : (inner : Functions) (n : ℕ) (g : Chunk) → AreSound inner → function_at inner n ≡ Some g → IsSound g false
inner_sound no_functions n g are e = none_some g e
inner_sound (and_function c rest) zero g are e = subst (λ x. IsSound x false) (some_one c g e) are.0
inner_sound (and_function c rest) (suc n) g are e = inner_sound rest n g are.1 e

-- what the rules say of a further word
one_capture : (s : State) (caps : Registers) (op : Op) (a b c bx : ℕ) (sbx : ℤ) → is_capture op ≡ true → reaches (length s.top.registers) (named_by Op.Move (Some (word op a b c bx sbx))) ≡ false → reaches (length s.top.cells) (named_by Op.GetUpval (Some (word op a b c bx sbx))) ≡ false → ((r : ℕ) → member (named_by Op.Move (Some (word op a b c bx sbx))) r ≡ true → caps r ≡ true) → IsCapture s caps op (word op a b c bx sbx)
one_capture s caps Op.Move a b c bx sbx is registers upvalues named = (reach_head _ b [] registers, named b (ap (λ t. t || false) (eq-eqb b b refl)))
one_capture s caps Op.GetUpval a b c bx sbx is registers upvalues named = reach_head _ b [] upvalues
one_capture s caps _ a b c bx sbx is registers upvalues named = clash is refl

word_capture : (s : State) (caps : Registers) (o : Option Instr) → captures_none o ≡ false → reaches (length s.top.registers) (named_by Op.Move o) ≡ false → reaches (length s.top.cells) (named_by Op.GetUpval o) ≡ false → ((r : ℕ) → member (named_by Op.Move o) r ≡ true → caps r ≡ true) → (i : Instr) × (o ≡ Some i) × IsCapture s caps i.op i
word_capture s caps None bad registers upvalues named = absurd (true≢false bad)
word_capture s caps (Some i) bad registers upvalues named =
    (i, refl, one_capture s caps i.op i.a i.b i.c i.bx i.sbx (go (is_capture i.op) bad) registers upvalues named)
  where
    go : (b : Bool) → not b ≡ false → b ≡ true
    go true e = refl
    go false e = absurd (true≢false e)

member_front : (xs ys : List ℕ) (r : ℕ) → member xs r ≡ true → member (xs ++ ys) r ≡ true
member_front [] ys r e = absurd (true≢false (sym e))
member_front (x ∷ xs) ys r e = go (x == r) (member_front xs ys r) e
  where
    go : (b : Bool) → (member xs r ≡ true → member (xs ++ ys) r ≡ true) → (b || member xs r) ≡ true → (b || member (xs ++ ys) r) ≡ true
    go true next h = h
    go false next h = next h

member_back : (xs ys : List ℕ) (r : ℕ) → member ys r ≡ true → member (xs ++ ys) r ≡ true
member_back [] ys r e = e
member_back (x ∷ xs) ys r e = go (x == r) (member_back xs ys r e)
  where
    go : (b : Bool) → member (xs ++ ys) r ≡ true → (b || member (xs ++ ys) r) ≡ true
    go true h = refl
    go false h = h

pub captures_ok : (s : State) (caps : Registers) (words : List ℕ) → list_any (is_bad_word_of Op.Closure) words ≡ false → reaches (length s.top.registers) (named_by_all Op.Move words) ≡ false → reaches (length s.top.cells) (named_by_all Op.GetUpval words) ≡ false → ((r : ℕ) → member (named_by_all Op.Move words) r ≡ true → caps r ≡ true) → AreCaptures s caps words
captures_ok s caps [] bad registers upvalues named = tt
captures_ok s caps (w ∷ rest) bad registers upvalues named =
    (word_capture s caps (instr_of w) (some_head (is_bad_word_of Op.Closure) w rest bad) (reach_front _ (named_by Op.Move (instr_of w)) (named_by_all Op.Move rest) registers) (reach_front _ (named_by Op.GetUpval (instr_of w)) (named_by_all Op.GetUpval rest) upvalues) (λ r e. named r (member_front (named_by Op.Move (instr_of w)) (named_by_all Op.Move rest) r e)), captures_ok s caps rest (some_tail (is_bad_word_of Op.Closure) w rest bad) (reach_back _ (named_by Op.Move (instr_of w)) (named_by_all Op.Move rest) registers) (reach_back _ (named_by Op.GetUpval (instr_of w)) (named_by_all Op.GetUpval rest) upvalues) (λ r e. named r (member_back (named_by Op.Move (instr_of w)) (named_by_all Op.Move rest) r e)))

abbrev base_closures : (f : Chunk) (ups : List ℕ) (registers : List Datum) (landing : _) (below : _) (cells : List Cell) (closures : List Closure) (c : Closure) → Base f ups registers landing below cells closures → IsClosure cells c → Base f ups registers landing below cells (closures ++ c ∷ [])
base_closures f ups registers landing below cells closures c base is = record {
  known = base.known;
  size = base.size;
  counted = base.counted;
  named = base.named;
  closures_are = λ n x e. elim (get_pushed closures c n x e) [ inl old ↦ base.closures_are n x old | inr new ↦ subst (λ y. IsClosure cells y) new is ];
  opens = base.opens;
  waiting = base.waiting;
}

some_function : (o : Option Chunk) → is_none o ≡ false → (g : Chunk) × (o ≡ Some g)
some_function None e = absurd (true≢false e)
some_function (Some g) e = (g, refl)

whole_take : (n : ℕ) (xs : List ℕ) → nat_lt (length (take n xs)) n ≡ false → length (take n xs) ≡ n
whole_take n xs e =
    let low : n ≤ length (take n xs) = ltb-false (length (take n xs)) n e in
    let len : length (take n xs) ≡ min n (length xs) = length-take n xs in
    omega arith

module _ (m0 : State) (base : BaseOf m0) (a b c bx : ℕ) (sbx : ℤ) (d : DoingOf m0 base (word Op.Closure a b c bx sbx)) where
  abbrev code_behind : List ℕ
  code_behind = drop (suc m0.top.pc) (own m0.top.function).code

  abbrev taken_for : ℕ → Chunk → Effect
  taken_for n g = check (nat_eq (length (take n code_behind)) n) (take_cells (m m0 base) (take n code_behind) (λ m1 cells. add_closure (at_pc m1 (m1.top.pc + n)) a g cells))

  closure_words_fine : (g : Chunk) (n : ℕ) → function_at (functions m0.top.function) bx ≡ Some g → n ≡ (own g).upvalues → n ≡ belonging_to (functions m0.top.function) Op.Closure (word Op.Closure a b c bx sbx) → nat_lt (length (take n code_behind)) n ≡ false → list_any (is_bad_word_of Op.Closure) (take n code_behind) ≡ false → reaches (length m0.top.registers) (named_by_all Op.Move (take n code_behind)) ≡ false → reaches (length m0.top.cells) (named_by_all Op.GetUpval (take n code_behind)) ≡ false → ((r : ℕ) → member (named_by_all Op.Move (take n code_behind)) r ≡ true → captures m0.top.function m0.top.pc (word Op.Closure a b c bx sbx) r ≡ true) → Fine (taken_for n g)
  closure_words_fine g n at ups count few bad registers upvalues named =
      let len : length (take n code_behind) ≡ n = whole_take n code_behind few in
      let i : Instr = word Op.Closure a b c bx sbx in
      check_fine (nat_eq (length (take n code_behind)) n) _ (eq-eqb _ _ len) (
      take_cells_fine (m m0 base) base (captures m0.top.function m0.top.pc (word Op.Closure a b c bx sbx)) (take n code_behind) (captures_ok (m m0 base) (captures m0.top.function m0.top.pc (word Op.Closure a b c bx sbx)) (take n code_behind) bad registers upvalues named) m0.cells (record {
        more = omega arith;
        fewer = λ k low r is. is;
        opens = base.opens;
        own_opens = λ r is. inl is;
      }) (λ m1 cells. add_closure (at_pc m1 (m1.top.pc + n)) a g cells) (λ cells cs grown more count_is are.
      set_fine (record (at_pc (with_cells (m m0 base) cells) (suc m0.top.pc + n)) { closures = m0.closures ++ record { function = g; cells = cs } ∷ [] }) (base_closures m0.top.function m0.top.cells m0.top.registers m0.top.landing m0.below cells m0.closures (record { function = g; cells = cs }) (base_cells m0.top.function m0.top.cells m0.top.registers m0.top.landing m0.below m0.cells cells m0.closures base grown.more grown.fewer grown.opens) (record {
        sound = inner_sound (functions m0.top.function) bx g base.known.inner at;
        upvalues = count_is ∙ len ∙ ups;
        named = are;
      })) a (closure (length m0.closures)) (first_there m0 base (word Op.Closure a b c bx sbx) a [] d refl) (
      arrive_next m0.top.function base.known m0.cells (length m0.below) m0.top.registers m0.top.pc (word Op.Closure a b c bx sbx) d cells (λ r is. elim (grown.own_opens r is) [ inl old ↦ inl (old, refl) | inr new ↦ inr new ]) (λ x. refl) refl refl (suc m0.top.pc + n) (ap (λ k. suc m0.top.pc + k) count) (first_way (suc m0.top.pc + n) (next_pc m0.top.function m0.top.pc (word Op.Closure a b c bx sbx)) [] (ap (λ k. suc m0.top.pc + k) (sym count))))))

  pub closure_fine : Fine (effect Op.Closure (m m0 base) (word Op.Closure a b c bx sbx))
  closure_fine =
      let g = some_function (function_at (functions m0.top.function) bx) (keeps m0 base (word Op.Closure a b c bx sbx) d Rule.Function refl) in
      let count : upvalue_count (function_at (functions m0.top.function) bx) ≡ (own g.0).upvalues = ap upvalue_count g.1 in
      let further = keeps m0 base (word Op.Closure a b c bx sbx) d Rule.FurtherWord refl in
      need_fine (function_at (functions m0.top.function) bx) g.0 _ g.1 (
      subst (λ n. Fine (taken_for n g.0)) count (
      closure_words_fine g.0 (upvalue_count (function_at (functions m0.top.function) bx)) g.1 count refl (or_first_false _ _ further) (or_second_false _ _ further) (subst (λ n. reaches n (named_by_all Op.Move (take (upvalue_count (function_at (functions m0.top.function) bx)) code_behind)) ≡ false) (sym base.size) (or_second_false _ _ (registers_kept m0 base (word Op.Closure a b c bx sbx) d))) (subst (λ n. reaches n (named_by_all Op.GetUpval (take (upvalue_count (function_at (functions m0.top.function) bx)) code_behind)) ≡ false) (sym base.counted) (keeps m0 base (word Op.Closure a b c bx sbx) d Rule.Upvalue refl)) (λ r e. e)))
