-- Each word of a finished function obeys the rules that speak of what is behind it, by how the code goes on there.
use Rattle.std.proofs.Common.{◌≡◌, ◌≤◌, ◌<◌, ℕ, zero, suc, Bool, true, false, List, [], ◌∷◌, length, refl, sym, ap, ◌∙◌, arith, inl, ◌+◌, cond, ◌⊎◌, take, drop, subst, true≢false, nat_lt, inr, not, nat_le, eq-eqb, ne_eqb, le-ltb, get_or, pos}
use Rattle.std.specs.Prelude.{Option, None, ◌==◌, ◌&&◌, Some, ◌||◌, slice_get, is_some, is_none}
use Rattle.std.specs.List.{list_any}
use Rattle.std.proofs.lemmas.Bool.{cases_lt, or_left, or_right, and_from, lt-leb, and_right, leb-false}
use Rattle.std.proofs.lemmas.Option.{slice_get_within}
use Rattle.opcode.specs.declared.op.Op.{Op}
use Rattle.opcode.specs.declared.word.Instr.{Instr}
use Rattle.proto.specs.Chunk.{Chunk, own, functions_of, Functions, function_at}
use Rattle.rules.specs.Words.{is_test}
use Rattle.rules.specs.Places.{is_place, is_pc, ways, words_of, named_further, belonging_to, next_pc, plain_ways, upvalue_count, target, jmp_at, jmp_of, test_ways}
use Rattle.rules.specs.Notes.{Note, AsksLess, after, writes, captures, spares}
use Rattle.rules.specs.Breaks.{reaches, wants, leaves, breaks_function, plain_jumps, breaks_numbers, breaks_captured, is_bad_word_of, wanted_at, jumps, wants_at, breaks_further, breaks_no_jump, breaks_end, stays_in}
use Rattle.rules.proofs.Lists.{both_false, and_second, some_one, and_first, or_cases}
use Rattle.scheme.specs.Making.{Maker}
use Rattle.scheme.specs.Functions.{distance, word_at, Heading, chunk_of}
use Rattle.scheme.specs.declared.making.Piece.{Piece}
use Rattle.scheme.specs.declared.making.Item.{Item}
use Rattle.scheme.specs.declared.making.Local.{Local}
use Rattle.scheme_stands.proofs.Growth.{function_stands}
use Rattle.scheme_sound.proofs.Ghosts.{kind_at, captured_at, IsLoop, loop_at, Below, ClosedBelow, PreparedBelow, Ghost, plain_instr, Meets, FurtherFits, goes_on, HasPiece, Clear, FurtherAt, Flow, on_to_next, closing, ending, jumping, testing, preparing, looping, skipping, capturing, filling, HasFormat}
use Rattle.scheme_sound.proofs.Later.{below_then}
use Rattle.scheme_stands.proofs.Growth.{word_stands}
use Rattle.scheme_sound.proofs.Decoded.{Limits, full_instr, abc_read}
use Rattle.scheme_sound.proofs.Known.{Ready, Known, known, on_belongs, test_belongs}
use Rattle.scheme_sound.proofs.Standing.{flow_piece, code_long, place_is, instr_is, meets_full, wanted_is, free_wants, target_is}
use Rattle.scheme_sound.proofs.RuleFacts.{note_of, loop_true, loop_holds, spared, follows, on_test, on_named, on_function, on_numbers, on_captured, on_jumps, on_ways, one_way, two_ways, take_drop, take_long, IsCapture, AllCaptures, captures_from, moves_within, upvalues_within, captured_named, captures_read}

-- what a word obeys: the notes at the places it leads to, and the rules
pub record Obeys (m : Maker) (g : Ghost) (f : Chunk) (size ups pc : ℕ) (i : Instr) : Type 0 where
  pub edge : (t : ℕ) → list_any (is_pc t) (ways f pc i) ≡ true → (t < length m.items) × (g.is_place t ≡ true) × AsksLess (after f pc i (note_of (g.note pc))) (note_of (g.note t))
  pub target : list_any (λ t. not (is_place f t)) (jumps pc i) ≡ false
  pub wanted : list_any (wants_at f) (jumps pc i) ≡ false
  pub left : (is_some (leaves i.op i) && is_none (wanted_at f (suc pc))) ≡ false
  pub function : breaks_function f i.op i ≡ false
  pub numbers : breaks_numbers (Some (note_of (g.note pc))) i.op i ≡ false
  pub captured : breaks_captured (Some (note_of (g.note pc))) i.op i ≡ false
  pub further : breaks_further f pc i ≡ false
  pub no_jump : breaks_no_jump f pc i ≡ false
  pub end : breaks_end f pc i ≡ false
  pub moves : reaches size (named_further Op.Move i.op (words_of f pc i)) ≡ false
  pub upvalues : reaches ups (named_further Op.GetUpval i.op (words_of f pc i)) ≡ false

-- ---- tests

test_named : (by op : Op) (ws : List ℕ) → is_test op ≡ true → named_further by op ws ≡ []
test_named by Op.Closure ws e = cc
test_named by op ws e = refl

test_function : (f : Chunk) (op : Op) (i : Instr) → is_test op ≡ true → breaks_function f op i ≡ false
test_function f Op.Closure i e = cc
test_function f op i e = refl

test_numbers : (n : Note) (op : Op) (i : Instr) → is_test op ≡ true → breaks_numbers (Some n) op i ≡ false
test_numbers n Op.ForLoop i e = cc
test_numbers n op i e = refl

test_captured : (n : Note) (op : Op) (i : Instr) → is_test op ≡ true → breaks_captured (Some n) op i ≡ false
test_captured n Op.ForPrep i e = cc
test_captured n op i e = refl

test_leaves : (op : Op) (i : Instr) → is_test op ≡ true → leaves op i ≡ None
test_leaves Op.Call i e = cc
test_leaves Op.TailCall i e = cc
test_leaves Op.Vararg i e = cc
test_leaves op i e = refl

-- ---- small facts

-- the JMP behind a test
jump_flow : (m : Maker) (g : Ghost) (i n : ℕ) → Flow m g i (Piece.Jump Op.Jmp 0 n) → (n < length m.labels) × Below (g.note i) (g.need n)
jump_flow m g i n (on_to_next k s o b) = absurd (true≢false (sym k))
jump_flow m g i n (closing a e w b) = cc
jump_flow m g i n (ending a b e w) = cc
jump_flow m g i n (jumping k e l w b) = let same : n ≡ k = cc in (subst (λ x. x < length m.labels) (sym same) l, subst (λ x. Below (g.note i) (g.need x)) (sym same) b)
jump_flow m g i n (testing op a b c k e t p w w' d d') = cc
jump_flow m g i n (preparing a k e l w c b) = cc
jump_flow m g i n (looping a k e l w y b d) = cc
jump_flow m g i n (skipping a e p w w' d) = cc
jump_flow m g i n (capturing a k c e p v u w b) = cc
jump_flow m g i n (filling a k block e p s w b) = cc

any_none : (t : ℕ → Bool) (xs : List ℕ) → ((j x : ℕ) → slice_get xs j ≡ Some x → t x ≡ false) → list_any t xs ≡ false
any_none t [] h = refl
any_none t (x ∷ xs) h = both_false (t x) (list_any t xs) (h 0 x refl) (any_none t xs (λ j y e. h (suc j) y e))

three_false : (a b c : Bool) → a ≡ false → b ≡ false → c ≡ false → (a || b || c) ≡ false
three_false true b c x y z = absurd (true≢false x)
three_false false true c x y z = absurd (true≢false y)
three_false false false c x y z = z

not_left : (x : Option ℕ) (b : Bool) → x ≡ None → (is_some x && b) ≡ false
not_left None b e = refl
not_left (Some y) b e = cc

-- ---- word by word

module _ (m : Maker) (g : Ghost) (r : Ready m g) (l : Limits m) (heading : Heading) where
  abbrev labels : List ℕ
  labels = m.labels

  abbrev fs : Functions
  fs = functions_of m.functions

  abbrev f : Chunk
  f = chunk_of heading m

  abbrev ObeysAt : ℕ → Instr → Type 0
  ObeysAt pc i = Obeys m g f g.size (length m.upvalue_names) pc i

  -- a word that is not the last RETURN has one behind it
  last_return : (i : ℕ) (k : Known m g i) → i ≡ r.last → (plain_instr k.piece).op ≡ Op.Return
  last_return i k e =
      let here : Some k.item ≡ Some (record { line = r.line; piece = Piece.Abc Op.Return 0 1 0 }) = sym k.there ∙ ap (slice_get m.items) e ∙ r.ends in
      k.same ∙ ap (λ x. (plain_instr x.piece).op) (some_one k.item _ here)

  more_than : (i : ℕ) → i < length m.items → ((i ≡ r.last) → ⊥) → suc i < length m.items
  more_than i h n = go (cases_lt (suc i) (length m.items))
    where
      go : (suc i < length m.items) ⊎ (length m.items ≤ suc i) → suc i < length m.items
      go (inl a) = a
      go (inr a) = absurd (n (let q = r.long in omega (arith, q, a, h)))

  not_return : (i : ℕ) (k : Known m g i) → ((plain_instr k.piece).op ≡ Op.Return → ⊥) → suc i < length m.items
  not_return i k n = more_than i (slice_get_within m.items i k.item k.there) (λ e. n (last_return i k e))

  -- what stands at the last pc is a RETURN
  not_last : (i : ℕ) (piece : Piece) → HasPiece m i piece → ((plain_instr piece).op ≡ Op.Return → ⊥) → suc i < length m.items
  not_last i piece h n = more_than i (slice_get_within m.items i h.item h.there) (λ e. n (
      let here : Some h.item ≡ Some (record { line = r.line; piece = Piece.Abc Op.Return 0 1 0 }) = sym h.there ∙ ap (slice_get m.items) e ∙ r.ends in
      ap (λ x. (plain_instr x).op) (sym h.is) ∙ ap (λ x. (plain_instr x.piece).op) (some_one h.item _ here)))

  -- where a jump goes
  stands_at : (n : ℕ) → n < length m.labels → (get_or labels n 0 < length m.items) × (is_place f (Some (get_or labels n 0)) ≡ true) × (wanted_at f (get_or labels n 0) ≡ None)
  stands_at n h = (let s = r.labels n h in (s.within, place_is m g r l heading (get_or labels n 0) s.within s.clear.is_place, free_wants m g r l heading (get_or labels n 0) s.within s.clear))

  -- one jump
  jump_target : (pc n : ℕ) → n < length m.labels → list_any (λ t. not (is_place f t)) (target pc (distance pc (get_or labels n 0)) ∷ []) ≡ false
  jump_target pc n h = (let s = stands_at n h in ap (λ t. list_any (λ t. not (is_place f t)) (t ∷ [])) (target_is m g r l heading pc (get_or labels n 0)) ∙ ap (λ b. not b || false) s.1)

  jump_wanted : (pc n : ℕ) → n < length m.labels → list_any (wants_at f) (target pc (distance pc (get_or labels n 0)) ∷ []) ≡ false
  jump_wanted pc n h = (let s = stands_at n h in ap (λ t. list_any (wants_at f) (t ∷ [])) (target_is m g r l heading pc (get_or labels n 0)) ∙ ap (λ o. is_some o || false) s.2)

  -- a skip
  skip_target : (t : ℕ) → t < length m.items → Clear g t → list_any (λ t. not (is_place f t)) (Some t ∷ []) ≡ false
  skip_target t h w = ap (λ b. not b || false) (place_is m g r l heading t h w.is_place)

  skip_wanted : (t : ℕ) → t < length m.items → Clear g t → list_any (wants_at f) (Some t ∷ []) ≡ false
  skip_wanted t h w = ap (λ o. is_some o || false) (free_wants m g r l heading t h w)

  -- an edge to a label
  label_edge : (pc n : ℕ) (i : Instr) → n < length m.labels → AsksLess (after f pc i (note_of (g.note pc))) (note_of (g.need n)) → (get_or labels n 0 < length m.items) × (g.is_place (get_or labels n 0) ≡ true) × AsksLess (after f pc i (note_of (g.note pc))) (note_of (g.note (get_or labels n 0)))
  label_edge pc n i h a = (let s = r.labels n h in (s.within, s.clear.is_place, record { captured = λ x e. s.allows.captured x (a.captured x e); loops = λ x e. a.loops x (loop_holds (g.need n) x (s.allows.loops x (loop_true (g.note (get_or labels n 0)) x e))) }))

  moved_edge : (pc : ℕ) (i : Instr) (a t : ℕ) → a ≡ t → (a < length m.items) × (g.is_place a ≡ true) × AsksLess (after f pc i (note_of (g.note pc))) (note_of (g.note a)) → (t < length m.items) × (g.is_place t ≡ true) × AsksLess (after f pc i (note_of (g.note pc))) (note_of (g.note t))
  moved_edge pc i a t e x = subst (λ y. (y < length m.items) × (g.is_place y ≡ true) × AsksLess (after f pc i (note_of (g.note pc))) (note_of (g.note y))) e x

  -- words with none of their own
  alone_further : (pc : ℕ) (i : Instr) → belonging_to fs i.op i ≡ 0 → breaks_further f pc i ≡ false
  alone_further pc i e = ap (λ n. nat_lt (length (take n (drop (suc pc) (own f).code))) n || list_any (is_bad_word_of i.op) (take n (drop (suc pc) (own f).code))) e

  alone_next : (pc : ℕ) (i : Instr) → belonging_to fs i.op i ≡ 0 → next_pc f pc i ≡ suc pc
  alone_next pc i e = ap (λ n. suc pc + n) e ∙ (let q : suc pc + 0 ≡ suc pc = omega arith in q)

  end_within : (pc : ℕ) (i : Instr) → next_pc f pc i < length m.items → breaks_end f pc i ≡ false
  end_within pc i h = ap (λ b. b && not (stays_in i.op)) (lt-leb (length (own f).code) (next_pc f pc i) (let q = code_long m g r l heading in omega (arith, q, h)))

  end_stays : (pc : ℕ) (i : Instr) → stays_in i.op ≡ true → breaks_end f pc i ≡ false
  end_stays pc i e = ap (λ b. nat_le (length (own f).code) (next_pc f pc i) && not b) e ∙ and_right (nat_le (length (own f).code) (next_pc f pc i)) false refl

  -- ---- a word that goes on

  on_obeys : (pc : ℕ) (i : Instr) → goes_on i.op i.c ≡ true → belonging_to fs i.op i ≡ 0 → ((x : ℕ) → writes i.op i x ≡ true → kind_at (g.note pc) x ≡ 0) → suc pc < length m.items → g.is_place (suc pc) ≡ true → g.left (suc pc) ≡ leaves i.op i → Below (g.note pc) (g.note (suc pc)) → ObeysAt pc i
  on_obeys pc i k e w h s o b =
      let none = on_test i.op i.c k in
      let way : ways f pc i ≡ Some (suc pc) ∷ [] = ap (λ t. cond t (test_ways pc (jmp_at f (suc pc))) (plain_ways f pc i.op i)) none ∙ on_ways f pc i.op i k (alone_next pc i e) in
      let jump : jumps pc i ≡ [] = ap (λ t. cond t (Some (suc (suc pc)) ∷ []) (plain_jumps pc i.op i)) none ∙ on_jumps pc i.op i k in
      let follow = follows f pc i (g.note pc) (g.note (suc pc)) w (λ x c. absurd (true≢false (sym c ∙ ap (λ ns. list_any (λ named. named == x) ns) (on_named Op.Move i.op i.c (words_of f pc i) k)))) b in
      record {
        edge = λ t q. moved_edge pc i (suc pc) t (one_way t (suc pc) (sym (ap (list_any (is_pc t)) way) ∙ q)) (h, s, follow);
        target = ap (list_any (λ t. not (is_place f t))) jump;
        wanted = ap (list_any (wants_at f)) jump;
        left = left (leaves i.op i) refl;
        function = on_function f i.op i.c i k;
        numbers = on_numbers (note_of (g.note pc)) i.op i.c i k;
        captured = on_captured (note_of (g.note pc)) i.op i.c i k;
        further = alone_further pc i e;
        no_jump = ap (λ t. t && is_none (jmp_at f (suc pc))) none;
        end = end_within pc i (let q = alone_next pc i e in omega (arith, q, h));
        moves = ap (reaches g.size) (on_named Op.Move i.op i.c (words_of f pc i) k);
        upvalues = ap (reaches (length m.upvalue_names)) (on_named Op.GetUpval i.op i.c (words_of f pc i) k);
      }
    where
      left : (x : Option ℕ) → leaves i.op i ≡ x → (is_some x && is_none (wanted_at f (suc pc))) ≡ false
      left None q = refl
      left (Some first) q =
          let k = known m g r l (suc pc) h s in
          wants_some (wanted_at f (suc pc)) (wanted_is m g r l heading (suc pc) k) (subst (λ y. Meets (wants (full_instr labels (suc pc) k.piece).op (full_instr labels (suc pc) k.piece)) y) (o ∙ q) (meets_full m g r l heading (suc pc) k))
        where
          wants_some : (y : Option ℕ) → y ≡ wants (full_instr labels (suc pc) (known m g r l (suc pc) h s).piece).op (full_instr labels (suc pc) (known m g r l (suc pc) h s).piece) → Meets (wants (full_instr labels (suc pc) (known m g r l (suc pc) h s).piece).op (full_instr labels (suc pc) (known m g r l (suc pc) h s).piece)) (Some first) → is_none y ≡ false
          wants_some None z meet = absurd (subst (λ u. Meets u (Some first)) (sym z) meet)
          wants_some (Some a) z meet = refl

  -- ---- words that close, jump and test

  close_obeys : (pc a : ℕ) → suc pc < length m.items → Clear g (suc pc) → ClosedBelow a (g.note pc) (g.note (suc pc)) → ObeysAt pc (record { op = Op.Close; a = a; b = 0; c = 0; bx = 0; sbx = pos 0 })
  close_obeys pc a h w b =
      let i : Instr = record { op = Op.Close; a = a; b = 0; c = 0; bx = 0; sbx = pos 0 } in
      record {
        edge = λ t q. moved_edge pc i (suc pc) t ((let z : suc pc ≡ suc pc + 0 = omega arith in z) ∙ one_way t (suc pc + 0) q) (
          h,
          w.is_place,
          record {
            captured = λ x e. held x (or_cases _ _ e);
            loops = λ x e. or_left _ _ (and_from _ _ (loop_holds (g.note pc) x (b.loops x (loop_true (g.note (suc pc)) x e))) (spared f pc i (g.note pc) x (λ y z. absurd (true≢false (sym z))) (λ y z. absurd (true≢false (sym z))) (b.loops x (loop_true (g.note (suc pc)) x e))));
          },
        );
        target = refl;
        wanted = refl;
        left = refl;
        function = refl;
        numbers = refl;
        captured = refl;
        further = alone_further pc i refl;
        no_jump = refl;
        end = end_within pc i (let q = alone_next pc i refl in omega (arith, q, h));
        moves = refl;
        upvalues = refl;
      }
    where
      held : (x : ℕ) → ((captured_at (g.note pc) x && not (nat_le a x)) ≡ true) ⊎ (false ≡ true) → captured_at (g.note (suc pc)) x ≡ true
      held x (inl e) = b.captured x (and_first _ _ e) (below (nat_le a x) refl (and_second (captured_at (g.note pc) x) _ e))
        where
          below : (c : Bool) → nat_le a x ≡ c → not c ≡ true → x < a
          below true is z = absurd (true≢false (sym z))
          below false is z = leb-false a x is
      held x (inr e) = absurd (true≢false (sym e))

  end_obeys : (pc a b : ℕ) → ObeysAt pc (record { op = Op.Return; a = a; b = b; c = 0; bx = 0; sbx = pos 0 })
  end_obeys pc a b =
      let i : Instr = record { op = Op.Return; a = a; b = b; c = 0; bx = 0; sbx = pos 0 } in
      record { edge = λ t q. absurd (true≢false (sym q)); target = refl; wanted = refl; left = refl; function = refl; numbers = refl; captured = refl; further = alone_further pc i refl; no_jump = refl; end = end_stays pc i refl; moves = refl; upvalues = refl }

  jump_obeys : (pc n : ℕ) → n < length m.labels → Below (g.note pc) (g.need n) → ObeysAt pc (full_instr labels pc (Piece.Jump Op.Jmp 0 n))
  jump_obeys pc n h b =
      let i = full_instr labels pc (Piece.Jump Op.Jmp 0 n) in
      record {
        edge = λ t q. moved_edge pc i (get_or labels n 0) t (one_way t (get_or labels n 0) (sym (ap (λ y. list_any (is_pc t) (y ∷ [])) (target_is m g r l heading pc (get_or labels n 0))) ∙ q)) (label_edge pc n i h (follows f pc i (g.note pc) (g.need n) (λ y z. absurd (true≢false (sym z))) (λ y z. absurd (true≢false (sym z))) b));
        target = jump_target pc n h;
        wanted = jump_wanted pc n h;
        left = refl;
        function = refl;
        numbers = refl;
        captured = refl;
        further = alone_further pc i refl;
        no_jump = refl;
        end = end_stays pc i refl;
        moves = refl;
        upvalues = refl;
      }

  test_obeys : (pc : ℕ) (op : Op) (a b c n : ℕ) → is_test op ≡ true → ((x : ℕ) → writes op (record { op = op; a = a; b = b; c = c; bx = 0; sbx = pos 0 }) x ≡ true → kind_at (g.note pc) x ≡ 0) → HasPiece m (suc pc) (Piece.Jump Op.Jmp 0 n) → Clear g (suc pc) → Clear g (suc (suc pc)) → Below (g.note pc) (g.note (suc pc)) → Below (g.note pc) (g.note (suc (suc pc)))
      → ObeysAt pc (record { op = op; a = a; b = b; c = c; bx = 0; sbx = pos 0 })
  test_obeys pc op a b c n e w p w1 w2 d d' =
      let i : Instr = record { op = op; a = a; b = b; c = c; bx = 0; sbx = pos 0 } in
      let h1 = slice_get_within m.items (suc pc) p.item p.there in
      let h2 = not_last (suc pc) (Piece.Jump Op.Jmp 0 n) p (λ z. cc) in
      let k = known m g r l (suc pc) h1 w1.is_place in
      let item : k.item ≡ p.item = some_one k.item p.item (sym k.there ∙ p.there) in
      let here : k.item.piece ≡ Piece.Jump Op.Jmp 0 n = ap (λ y. y.piece) item ∙ p.is in
      let exact : k.piece ≡ Piece.Jump Op.Jmp 0 n = k.exact (λ z. (let y : (plain_instr k.item.piece).op ≡ Op.Jmp = ap (λ q. (plain_instr q).op) here in cc)) ∙ here in
      let jump = jump_flow m g (suc pc) n (subst (λ q. Flow m g (suc pc) q) exact k.ok.flow) in
      let at_jump : jmp_at f (suc pc) ≡ Some (distance (suc pc) (get_or labels n 0)) = ap jmp_of (instr_is m g r l heading (suc pc) k) ∙ ap (λ q. jmp_of (Some (full_instr labels (suc pc) q))) exact in
      let way : ways f pc i ≡ Some (get_or labels n 0) ∷ Some (suc (suc pc)) ∷ [] = ap (λ t. cond t (test_ways pc (jmp_at f (suc pc))) (plain_ways f pc i.op i)) e ∙ ap (test_ways pc) at_jump ∙ ap (λ y. y ∷ Some (suc (suc pc)) ∷ []) (target_is m g r l heading (suc pc) (get_or labels n 0)) in
      let jumped : jumps pc i ≡ Some (suc (suc pc)) ∷ [] = ap (λ t. cond t (Some (suc (suc pc)) ∷ []) (plain_jumps pc i.op i)) e in
      let no_capture = λ (y : ℕ) (z : captures f pc i y ≡ true). absurd {A = (captured_at (g.note pc) y ≡ true) × (kind_at (g.note pc) y ≡ 0)} (true≢false (sym z ∙ ap (λ ns. list_any (λ named. named == y) ns) (test_named Op.Move op (words_of f pc i) e))) in
      record {
        edge = λ t q. go t (two_ways t (get_or labels n 0) (suc (suc pc)) (sym (ap (list_any (is_pc t)) way) ∙ q))
            (label_edge pc n i jump.0 (follows f pc i (g.note pc) (g.need n) w no_capture (below_then d jump.1)))
            (h2, w2.is_place, follows f pc i (g.note pc) (g.note (suc (suc pc))) w no_capture d');
        target = ap (list_any (λ t. not (is_place f t))) jumped ∙ skip_target (suc (suc pc)) h2 w2;
        wanted = ap (list_any (wants_at f)) jumped ∙ skip_wanted (suc (suc pc)) h2 w2;
        left = not_left (leaves op i) _ (test_leaves op i e);
        function = test_function f op i e;
        numbers = test_numbers (note_of (g.note pc)) op i e;
        captured = test_captured (note_of (g.note pc)) op i e;
        further = alone_further pc i (test_belongs fs op i e);
        no_jump = ap (λ o. is_test op && is_none o) at_jump ∙ none_and (is_test op);
        end = end_within pc i (let q = alone_next pc i (test_belongs fs op i e) in omega (arith, q, h1));
        moves = ap (reaches g.size) (test_named Op.Move op (words_of f pc i) e);
        upvalues = ap (reaches (length m.upvalue_names)) (test_named Op.GetUpval op (words_of f pc i) e);
      }
    where
      none_and : (b : Bool) → (b && false) ≡ false
      none_and true = refl
      none_and false = refl

      go : (t : ℕ) → (get_or labels n 0 ≡ t) ⊎ (suc (suc pc) ≡ t)
          → (get_or labels n 0 < length m.items) × (g.is_place (get_or labels n 0) ≡ true) × AsksLess (after f pc (record { op = op; a = a; b = b; c = c; bx = 0; sbx = pos 0 }) (note_of (g.note pc))) (note_of (g.note (get_or labels n 0)))
          → (suc (suc pc) < length m.items) × (g.is_place (suc (suc pc)) ≡ true) × AsksLess (after f pc (record { op = op; a = a; b = b; c = c; bx = 0; sbx = pos 0 }) (note_of (g.note pc))) (note_of (g.note (suc (suc pc))))
          → (t < length m.items) × (g.is_place t ≡ true) × AsksLess (after f pc (record { op = op; a = a; b = b; c = c; bx = 0; sbx = pos 0 }) (note_of (g.note pc))) (note_of (g.note t))
      go t (inl q) x y = moved_edge pc _ (get_or labels n 0) t q x
      go t (inr q) x y = moved_edge pc _ (suc (suc pc)) t q y

  -- ---- words of loops

  prep_obeys : (pc a n : ℕ) → n < length m.labels → ((x : ℕ) → a ≤ x → captured_at (g.note pc) x ≡ false) → ((x : ℕ) → writes Op.ForPrep (full_instr labels pc (Piece.Jump Op.ForPrep a n)) x ≡ true → kind_at (g.note pc) x ≡ 0) → PreparedBelow a (g.note pc) (g.need n) → ObeysAt pc (full_instr labels pc (Piece.Jump Op.ForPrep a n))
  prep_obeys pc a n h c w b =
      let i = full_instr labels pc (Piece.Jump Op.ForPrep a n) in
      record {
        edge = λ t q. moved_edge pc i (get_or labels n 0) t (one_way t (get_or labels n 0) (sym (ap (λ y. list_any (is_pc t) (y ∷ [])) (target_is m g r l heading pc (get_or labels n 0))) ∙ q)) (label_edge pc n i h (record {
          captured = λ x e. b.captured x (held x (or_cases _ _ e));
          loops = λ x e. kept x (b.loops x (loop_true (g.need n) x e));
        }));
        target = jump_target pc n h;
        wanted = jump_wanted pc n h;
        left = refl;
        function = refl;
        numbers = refl;
        captured = three_false _ _ _ (c a (omega arith)) (c (a + 1) (omega arith)) (c (a + 2) (omega arith));
        further = alone_further pc i refl;
        no_jump = refl;
        end = end_stays pc i refl;
        moves = refl;
        upvalues = refl;
      }
    where
      held : (x : ℕ) → ((captured_at (g.note pc) x && true) ≡ true) ⊎ (false ≡ true) → captured_at (g.note pc) x ≡ true
      held x (inl e) = and_first _ _ e
      held x (inr e) = absurd (true≢false (sym e))

      kept : (x : ℕ) → (x ≡ a) ⊎ (IsLoop (g.note pc) x × (suc (suc x) < a)) → ((loop_at (g.note pc) x && spares f pc (full_instr labels pc (Piece.Jump Op.ForPrep a n)) x) || (a == x)) ≡ true
      kept x (inl e) = or_right _ _ (eq-eqb a x (sym e))
      kept x (inr q) = or_left _ _ (and_from _ _ (loop_holds (g.note pc) x q.0) (spared f pc (full_instr labels pc (Piece.Jump Op.ForPrep a n)) (g.note pc) x w (λ y z. absurd (true≢false (sym z))) q.0))

  loop_obeys : (pc a n : ℕ) → n < length m.labels → suc pc < length m.items → Clear g (suc pc) → IsLoop (g.note pc) a → ((x : ℕ) → writes Op.ForLoop (full_instr labels pc (Piece.Jump Op.ForLoop a n)) x ≡ true → kind_at (g.note pc) x ≡ 0) → Below (g.note pc) (g.need n) → Below (g.note pc) (g.note (suc pc)) → ObeysAt pc (full_instr labels pc (Piece.Jump Op.ForLoop a n))
  loop_obeys pc a n h h1 w1 y w b d =
      let i = full_instr labels pc (Piece.Jump Op.ForLoop a n) in
      record {
        edge = λ t q. go t (two_ways t (get_or labels n 0) (suc pc) (sym (ap (λ y. list_any (is_pc t) (y ∷ Some (suc pc) ∷ [])) (target_is m g r l heading pc (get_or labels n 0))) ∙ q))
            (label_edge pc n i h (follows f pc i (g.note pc) (g.need n) w (λ y z. absurd (true≢false (sym z))) b))
            (h1, w1.is_place, follows f pc i (g.note pc) (g.note (suc pc)) w (λ y z. absurd (true≢false (sym z))) d);
        target = jump_target pc n h;
        wanted = jump_wanted pc n h;
        left = refl;
        function = refl;
        numbers = ap not (loop_holds (g.note pc) a y);
        captured = refl;
        further = alone_further pc i refl;
        no_jump = refl;
        end = end_within pc i (let q = alone_next pc i refl in omega (arith, q, h1));
        moves = refl;
        upvalues = refl;
      }
    where
      go : (t : ℕ) → (get_or labels n 0 ≡ t) ⊎ (suc pc ≡ t)
          → (get_or labels n 0 < length m.items) × (g.is_place (get_or labels n 0) ≡ true) × AsksLess (after f pc (full_instr labels pc (Piece.Jump Op.ForLoop a n)) (note_of (g.note pc))) (note_of (g.note (get_or labels n 0)))
          → (suc pc < length m.items) × (g.is_place (suc pc) ≡ true) × AsksLess (after f pc (full_instr labels pc (Piece.Jump Op.ForLoop a n)) (note_of (g.note pc))) (note_of (g.note (suc pc)))
          → (t < length m.items) × (g.is_place t ≡ true) × AsksLess (after f pc (full_instr labels pc (Piece.Jump Op.ForLoop a n)) (note_of (g.note pc))) (note_of (g.note t))
      go t (inl q) x z = moved_edge pc (full_instr labels pc (Piece.Jump Op.ForLoop a n)) (get_or labels n 0) t q x
      go t (inr q) x z = moved_edge pc (full_instr labels pc (Piece.Jump Op.ForLoop a n)) (suc pc) t q z

  -- ---- a skip

  skip_obeys : (pc a : ℕ) → HasPiece m (suc pc) (Piece.Abc Op.LoadBool a 1 0) → Clear g (suc (suc pc)) → ((x : ℕ) → writes Op.LoadBool (full_instr labels pc (Piece.Abc Op.LoadBool a 0 1)) x ≡ true → kind_at (g.note pc) x ≡ 0) → Below (g.note pc) (g.note (suc (suc pc))) → ObeysAt pc (full_instr labels pc (Piece.Abc Op.LoadBool a 0 1))
  skip_obeys pc a p w2 w b =
      let i = full_instr labels pc (Piece.Abc Op.LoadBool a 0 1) in
      let h1 = slice_get_within m.items (suc pc) p.item p.there in
      let h2 = not_last (suc pc) (Piece.Abc Op.LoadBool a 1 0) p (λ z. cc) in
      record {
        edge = λ t q. moved_edge pc i (suc (suc pc)) t (one_way t (suc (suc pc)) q) (h2, w2.is_place, follows f pc i (g.note pc) (g.note (suc (suc pc))) w (λ y z. absurd (true≢false (sym z))) b);
        target = skip_target (suc (suc pc)) h2 w2;
        wanted = skip_wanted (suc (suc pc)) h2 w2;
        left = refl;
        function = refl;
        numbers = refl;
        captured = refl;
        further = alone_further pc i refl;
        no_jump = refl;
        end = end_within pc i (let q = alone_next pc i refl in omega (arith, q, h1));
        moves = refl;
        upvalues = refl;
      }

  -- ---- closures and large blocks

  capture_of : (xs : List Local) (piece : Piece) (i : ℕ) → FurtherFits m g xs piece → IsCapture g.size (length m.upvalue_names) xs (word_at labels i piece)
  capture_of xs (Piece.Abc Op.Move a b c) i w = record {
    instr = record { op = Op.Move; a = a; b = b; c = c; bx = 0; sbx = pos 0 };
    read = abc_read Op.Move a b c refl (omega (arith, w.0)) (omega (arith, w.1));
    is = inl (refl, w.2, w.3, w.4);
  }
  capture_of xs (Piece.Abc Op.GetUpval a b c) i w = record {
    instr = record { op = Op.GetUpval; a = a; b = b; c = c; bx = 0; sbx = pos 0 };
    read = abc_read Op.GetUpval a b c refl (omega (arith, w.0)) (omega (arith, w.1));
    is = inr (refl, w.2);
  }
  capture_of xs piece i w = absurd w

  word_of_item : (i : ℕ) (x : Item) → slice_get m.items i ≡ Some x → slice_get (own f).code i ≡ Some (word_at labels i x.piece)
  word_of_item i x e = word_stands labels 0 m.items i x e ∙ ap (λ n. Some (word_at labels n x.piece)) (let q : 0 + i ≡ i = omega arith in q)

  closure_obeys : (pc a k : ℕ) (c : Chunk) (z : Known m g pc) → ((plain_instr z.piece).op ≡ Op.Closure) → slice_get m.functions k ≡ Some c → ((j : ℕ) → j < (own c).upvalues → FurtherAt m g (g.note pc) (suc pc + j)) → suc pc + (own c).upvalues ≤ length m.items → Clear g (suc pc + (own c).upvalues) → ((x : ℕ) → writes Op.Closure (full_instr labels pc (Piece.Abx Op.Closure a k)) x ≡ true → kind_at (g.note pc) x ≡ 0) → Below (g.note pc) (g.note (suc pc + (own c).upvalues))
      → ObeysAt pc (full_instr labels pc (Piece.Abx Op.Closure a k))
  closure_obeys pc a k c z shut there v u w ws b =
      let i = full_instr labels pc (Piece.Abx Op.Closure a k) in
      let n = (own c).upvalues in
      let found : function_at fs k ≡ Some c = function_stands m.functions k c there in
      let many : belonging_to fs Op.Closure i ≡ n = ap upvalue_count found in
      let words : words_of f pc i ≡ take n (drop (suc pc) (own f).code) = ap (λ y. take y (drop (suc pc) (own f).code)) many in
      let next : next_pc f pc i ≡ suc pc + n = ap (λ y. suc pc + y) many in
      let below = before n v u in
      let long : length (take n (drop (suc pc) (own f).code)) ≡ n = take_long n (suc pc) (own f).code (let q = code_long m g r l heading in omega (arith, q, u)) in
      let marks : AllCaptures g.size (length m.upvalue_names) (g.note pc) (take n (drop (suc pc) (own f).code)) = captures_from _ _ _ _ (λ j y e. marked n v j y (let q = slice_get_within (take n (drop (suc pc) (own f).code)) j y e in omega (arith, q, long)) e) in
      let marks' : AllCaptures g.size (length m.upvalue_names) (g.note pc) (words_of f pc i) = subst (λ y. AllCaptures g.size (length m.upvalue_names) (g.note pc) y) (sym words) marks in
      record {
        edge = λ t q. moved_edge pc i (suc pc + n) t (sym next ∙ one_way t (next_pc f pc i) q) (below, w.is_place, follows f pc i (g.note pc) (g.note (suc pc + n)) ws (λ y e. captured_named g.size (length m.upvalue_names) (g.note pc) (words_of f pc i) y marks' e) b);
        target = refl;
        wanted = refl;
        left = refl;
        function = ap is_none found;
        numbers = refl;
        captured = refl;
        further = both_false _ _ (lt_none (length (words_of f pc i)) (belonging_to fs Op.Closure i) (ap length words ∙ long ∙ sym many)) (captures_read g.size (length m.upvalue_names) (g.note pc) (words_of f pc i) marks');
        no_jump = refl;
        end = end_within pc i (omega (arith, next, below));
        moves = moves_within g.size (length m.upvalue_names) (g.note pc) (words_of f pc i) marks';
        upvalues = upvalues_within g.size (length m.upvalue_names) (g.note pc) (words_of f pc i) marks';
      }
    where
      lt_none : (a b : ℕ) → a ≡ b → nat_lt a b ≡ false
      lt_none a b e = le-ltb a b (omega (arith, e))

      marked : (n : ℕ) → ((j : ℕ) → j < n → FurtherAt m g (g.note pc) (suc pc + j)) → (j y : ℕ) → j < n → slice_get (take n (drop (suc pc) (own f).code)) j ≡ Some y → IsCapture g.size (length m.upvalue_names) (g.note pc) y
      marked n v j y h e =
          let x = v j h in
          let same : Some y ≡ Some (word_at labels (suc pc + j) x.item.piece) = sym e ∙ take_drop n (suc pc) (own f).code j h ∙ word_of_item (suc pc + j) x.item x.there in
          subst (λ q. IsCapture g.size (length m.upvalue_names) (g.note pc) q) (sym (some_one y _ same)) (capture_of (g.note pc) x.item.piece (suc pc + j) x.fits)

      before : (n : ℕ) → ((j : ℕ) → j < n → FurtherAt m g (g.note pc) (suc pc + j)) → suc pc + n ≤ length m.items → suc pc + n < length m.items
      before zero v u = (let q = not_return pc z (λ e. (let y : Op.Closure ≡ Op.Return = sym shut ∙ e in cc)) in omega (arith, q))
      before (suc n) v u = go (cases_lt (suc pc + suc n) (length m.items))
        where
          go : (suc pc + suc n < length m.items) ⊎ (length m.items ≤ suc pc + suc n) → suc pc + suc n < length m.items
          go (inl q) = q
          go (inr q) = absurd (
              let long = r.long in
              let last : suc pc + n ≡ r.last = omega (arith, long, q, u) in
              true≢false (sym r.is_place ∙ ap g.is_place (sym last) ∙ (v n (omega arith)).is_place))

  fill_obeys : (pc a n block : ℕ) → HasPiece m (suc pc) (Piece.Bare (suc block)) → Clear g (suc (suc pc)) → Below (g.note pc) (g.note (suc (suc pc))) → ObeysAt pc (full_instr labels pc (Piece.Abc Op.SetList a n 0))
  fill_obeys pc a n block p w b =
      let i = full_instr labels pc (Piece.Abc Op.SetList a n 0) in
      let h2 = not_last (suc pc) (Piece.Bare (suc block)) p (λ z. cc) in
      let next : suc pc + 1 ≡ suc (suc pc) = omega arith in
      let code = code_long m g r l heading in
      let long : length (take 1 (drop (suc pc) (own f).code)) ≡ 1 = take_long 1 (suc pc) (own f).code (omega (arith, code, h2)) in
      record {
        edge = λ t q. moved_edge pc i (suc (suc pc)) t (sym next ∙ one_way t (suc pc + 1) q) (h2, w.is_place, follows f pc i (g.note pc) (g.note (suc (suc pc))) (λ y z. absurd (true≢false (sym z))) (λ y z. absurd (true≢false (sym z))) b);
        target = refl;
        wanted = refl;
        left = refl;
        function = refl;
        numbers = refl;
        captured = refl;
        further = both_false _ _ (ap (λ y. nat_lt y 1) long) (any_none _ (take 1 (drop (suc pc) (own f).code)) (λ j y e. bare j y (let q = slice_get_within (take 1 (drop (suc pc) (own f).code)) j y e in omega (arith, q, long)) e));
        no_jump = refl;
        end = end_within pc i (omega (arith, next, h2));
        moves = refl;
        upvalues = refl;
      }
    where
      bare : (j y : ℕ) → j < 1 → slice_get (take 1 (drop (suc pc) (own f).code)) j ≡ Some y → (y == 0) ≡ false
      bare j y h e =
          let at_next : suc pc + j ≡ suc pc = omega (arith, h) in
          let same : Some y ≡ Some (word_at labels (suc pc) p.item.piece) = sym e ∙ take_drop 1 (suc pc) (own f).code j h ∙ ap (slice_get (own f).code) at_next ∙ word_of_item (suc pc) p.item p.there in
          let is : y ≡ suc block = some_one y _ same ∙ ap (word_at labels (suc pc)) p.is in
          ne_eqb y 0 (λ q. omega (arith, q, is))

  -- ---- each word

  writes_full : (pc : ℕ) (piece : Piece) (x : ℕ) → writes (full_instr labels pc piece).op (full_instr labels pc piece) x ≡ writes (plain_instr piece).op (plain_instr piece) x
  writes_full pc (Piece.Abc op a b c) x = refl
  writes_full pc (Piece.Abx op a k) x = refl
  writes_full pc (Piece.Jump op a n) x = by_op op
    where
      by_op : (op : Op) → writes op (full_instr labels pc (Piece.Jump op a n)) x ≡ writes op (plain_instr (Piece.Jump op a n)) x
      by_op Op.SetGlobal = refl
      by_op Op.SetUpval = refl
      by_op Op.SetTable = refl
      by_op Op.Jmp = refl
      by_op Op.Eq = refl
      by_op Op.Lt = refl
      by_op Op.Le = refl
      by_op Op.Test = refl
      by_op Op.TailCall = refl
      by_op Op.Return = refl
      by_op Op.SetList = refl
      by_op Op.Close = refl
      by_op Op.LoadNil = refl
      by_op Op.Self_ = refl
      by_op Op.Call = refl
      by_op Op.Vararg = refl
      by_op Op.ForLoop = refl
      by_op Op.ForPrep = refl
      by_op Op.TForLoop = refl
      by_op op = refl
  writes_full pc (Piece.Bare n) x = refl

  full_op : (pc : ℕ) (piece : Piece) → (full_instr labels pc piece).op ≡ (plain_instr piece).op
  full_op pc (Piece.Abc op a b c) = refl
  full_op pc (Piece.Abx op a k) = refl
  full_op pc (Piece.Jump op a n) = refl
  full_op pc (Piece.Bare n) = refl

  full_c : (pc : ℕ) (piece : Piece) → (full_instr labels pc piece).c ≡ (plain_instr piece).c
  full_c pc (Piece.Abc op a b c) = refl
  full_c pc (Piece.Abx op a k) = refl
  full_c pc (Piece.Jump op a n) = refl
  full_c pc (Piece.Bare n) = refl

  leaves_full : (pc : ℕ) (piece : Piece) → leaves (full_instr labels pc piece).op (full_instr labels pc piece) ≡ leaves (plain_instr piece).op (plain_instr piece)
  leaves_full pc (Piece.Abc op a b c) = refl
  leaves_full pc (Piece.Abx op a x) = refl
  leaves_full pc (Piece.Jump op a n) = by_op op
    where
      by_op : (op : Op) → leaves op (full_instr labels pc (Piece.Jump op a n)) ≡ leaves op (plain_instr (Piece.Jump op a n))
      by_op Op.Call = refl
      by_op Op.TailCall = refl
      by_op Op.Vararg = refl
      by_op op = refl
  leaves_full pc (Piece.Bare n) = refl

  pub obeys : (pc : ℕ) (k : Known m g pc) → ObeysAt pc (full_instr labels pc k.piece)
  obeys pc k = go k.piece k.ok.format k.ok.flow refl
    where
      h : pc < length m.items
      h = slice_get_within m.items pc k.item k.there

      go : (piece : Piece) → HasFormat piece → Flow m g pc piece → k.piece ≡ piece → ObeysAt pc (full_instr labels pc piece)
      go piece form (on_to_next gk s o b) e = on_obeys pc (full_instr labels pc piece)
          (subst (λ q. goes_on q (full_instr labels pc piece).c ≡ true) (sym (full_op pc piece)) (subst (λ q. goes_on (plain_instr piece).op q ≡ true) (sym (full_c pc piece)) gk))
          (on_belongs fs labels pc piece form gk)
          (λ x w. spare piece e x (sym (writes_full pc piece x) ∙ w))
          (not_return pc k (λ q. (let z : (plain_instr piece).op ≡ Op.Return = ap (λ y. (plain_instr y).op) (sym e) ∙ q in true≢false (sym gk ∙ ap (λ y. goes_on y (plain_instr piece).c) z))))
          s (o ∙ sym (leaves_full pc piece)) b
        where
          spare : (piece : Piece) → k.piece ≡ piece → (x : ℕ) → writes (plain_instr piece).op (plain_instr piece) x ≡ true → kind_at (g.note pc) x ≡ 0
          spare piece e x w = k.ok.sane.spares x (ap (λ y. writes (plain_instr y).op (plain_instr y) x) e ∙ w)
      go piece form (closing a x w b) e = flow_piece (λ p. ObeysAt pc (full_instr labels pc p)) x (close_obeys pc a (not_return pc k (λ q. (let z : Op.Close ≡ Op.Return = ap (λ y. (plain_instr y).op) (sym x) ∙ ap (λ y. (plain_instr y).op) (sym e) ∙ q in cc))) w b)
      go piece form (ending a b x w) e = flow_piece (λ p. ObeysAt pc (full_instr labels pc p)) x (end_obeys pc a b)
      go piece form (jumping n x i w b) e = flow_piece (λ p. ObeysAt pc (full_instr labels pc p)) x (jump_obeys pc n i b)
      go piece form (testing op a b c n x t p w w' d d') e = flow_piece (λ p. ObeysAt pc (full_instr labels pc p)) x (test_obeys pc op a b c n t (λ y z. k.ok.sane.spares y (ap (λ q. writes (plain_instr q).op (plain_instr q) y) (e ∙ x) ∙ z)) p w w' d d')
      go piece form (preparing a n x i w c b) e = flow_piece (λ p. ObeysAt pc (full_instr labels pc p)) x (prep_obeys pc a n i c (λ y z. k.ok.sane.spares y (ap (λ q. writes (plain_instr q).op (plain_instr q) y) (e ∙ x) ∙ z)) b)
      go piece form (looping a n x i w y b d) e = flow_piece (λ p. ObeysAt pc (full_instr labels pc p)) x (loop_obeys pc a n i (not_return pc k (λ q. (let z : Op.ForLoop ≡ Op.Return = ap (λ y. (plain_instr y).op) (sym x) ∙ ap (λ y. (plain_instr y).op) (sym e) ∙ q in cc))) w y (λ y z. k.ok.sane.spares y (ap (λ q. writes (plain_instr q).op (plain_instr q) y) (e ∙ x) ∙ z)) b d)
      go piece form (skipping a x p w w' d) e = flow_piece (λ p. ObeysAt pc (full_instr labels pc p)) x (skip_obeys pc a p w' (λ y z. k.ok.sane.spares y (ap (λ q. writes (plain_instr q).op (plain_instr q) y) (e ∙ x) ∙ z)) d)
      go piece form (capturing a n c x there v u w b) e = flow_piece (λ p. ObeysAt pc (full_instr labels pc p)) x (closure_obeys pc a n c k (ap (λ y. (plain_instr y).op) (e ∙ x)) there v u w (λ y z. k.ok.sane.spares y (ap (λ q. writes (plain_instr q).op (plain_instr q) y) (e ∙ x) ∙ z)) b)
      go piece form (filling a n block x p s w b) e = flow_piece (λ p. ObeysAt pc (full_instr labels pc p)) x (fill_obeys pc a n block p w b)
