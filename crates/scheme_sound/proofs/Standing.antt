-- Which pcs of a finished function are places, what is left before them, and where each word goes.
use Rattle.std.proofs.Common.{◌≡◌, ◌<◌, ℕ, zero, suc, Bool, true, false, List, [], ◌∷◌, length, refl, sym, ap, ◌∙◌, arith, inl, ◌+◌, cond, ◌⊎◌, subst, true≢false, nat_lt, inr, not, lt-ltb, get_or, pos}
use Rattle.std.specs.Prelude.{Option, None, ◌&&◌, Some, slice_get, option_and_then, ◌+ℤ◌, ◌-ℤ◌}
use Rattle.std.proofs.lemmas.Int.{ints}
use Rattle.opcode.specs.declared.op.Op.{Op}
use Rattle.opcode.specs.Reading.{instr_of}
use Rattle.proto.specs.Chunk.{Chunk, own, functions_of, Functions}
use Rattle.rules.specs.Words.{instr_at}
use Rattle.rules.specs.Places.{is_further, is_place, belonging_to, upvalue_count, target, belonging, further_from, as_pc}
use Rattle.rules.specs.Breaks.{wants, left_before, leaves, wanted_at}
use Rattle.rules.proofs.Lists.{some_one}
use Rattle.scheme.specs.Making.{Maker}
use Rattle.scheme.specs.Functions.{distance, word_at, words_from, Heading, chunk_of}
use Rattle.scheme.specs.declared.making.Piece.{Piece}
use Rattle.scheme.specs.declared.making.Item.{Item}
use Rattle.scheme_stands.proofs.Growth.{function_stands}
use Rattle.scheme_sound.proofs.Ghosts.{Ghost, plain_instr, Meets, Clear, FurtherAt, Flow, on_to_next, closing, ending, jumping, testing, preparing, looping, skipping, capturing, filling, HasFormat}
use Rattle.scheme_stands.proofs.Whole.{words_length}
use Rattle.scheme_sound.proofs.Decoded.{Limits, full_instr}
use Rattle.scheme_sound.proofs.Known.{Ready, Known, known, instr_known, on_belongs, test_belongs}

-- so many further words from a pc on, behind which a place stands
pub record Pending (g : Ghost) (p n : ℕ) : Type 0 where
  pub idle : (j : ℕ) → j < n → g.is_place (p + j) ≡ false
  pub ends : g.is_place (p + n) ≡ true
  pub clear : (n ≡ 0) ⊎ (g.left (p + n) ≡ None)

none_pending : (g : Ghost) (p n : ℕ) → n ≡ 0 → g.is_place p ≡ true → Pending g p n
none_pending g p n e s = record {
  idle = λ j l. absurd (omega (arith, l, e));
  ends = ap g.is_place (let q : p + n ≡ p = omega (arith, e) in q) ∙ s;
  clear = inl e;
}

-- the operation of a flow's piece
pub flow_piece : {piece other : Piece} (P : Piece → Type 0) → piece ≡ other → P other → P piece
flow_piece P e p = subst P (sym e) p

module _ (m : Maker) (g : Ghost) (r : Ready m g) (l : Limits m) (heading : Heading) where
  abbrev labels : List ℕ
  labels = m.labels

  abbrev fs : Functions
  fs = functions_of m.functions

  abbrev f : Chunk
  f = chunk_of heading m

  belongs : (i : ℕ) (piece : Piece) → HasFormat piece → Flow m g i piece → Pending g (suc i) (belonging_to fs (full_instr labels i piece).op (full_instr labels i piece))
  belongs i piece form (on_to_next k s o b) = none_pending g (suc i) _ (on_belongs fs labels i piece form k) s
  belongs i piece form (closing a e w b) = flow_piece (λ p. Pending g (suc i) (belonging_to fs (full_instr labels i p).op (full_instr labels i p))) e (none_pending g (suc i) 0 refl w.is_place)
  belongs i piece form (ending a b e w) = flow_piece (λ p. Pending g (suc i) (belonging_to fs (full_instr labels i p).op (full_instr labels i p))) e (none_pending g (suc i) 0 refl w.is_place)
  belongs i piece form (jumping n e k w b) = flow_piece (λ p. Pending g (suc i) (belonging_to fs (full_instr labels i p).op (full_instr labels i p))) e (none_pending g (suc i) 0 refl w.is_place)
  belongs i piece form (testing op a b c n e t p w w' d d') = flow_piece (λ p. Pending g (suc i) (belonging_to fs (full_instr labels i p).op (full_instr labels i p))) e (none_pending g (suc i) _ (test_belongs fs op _ t) w.is_place)
  belongs i piece form (preparing a n e k w c b) = flow_piece (λ p. Pending g (suc i) (belonging_to fs (full_instr labels i p).op (full_instr labels i p))) e (none_pending g (suc i) 0 refl w.is_place)
  belongs i piece form (looping a n e k w y b d) = flow_piece (λ p. Pending g (suc i) (belonging_to fs (full_instr labels i p).op (full_instr labels i p))) e (none_pending g (suc i) 0 refl w.is_place)
  belongs i piece form (skipping a e p w w' d) = flow_piece (λ p. Pending g (suc i) (belonging_to fs (full_instr labels i p).op (full_instr labels i p))) e (none_pending g (suc i) 0 refl w.is_place)
  belongs i piece form (capturing a k c e p v u w b) =
      flow_piece (λ p. Pending g (suc i) (belonging_to fs (full_instr labels i p).op (full_instr labels i p))) e
      (subst (λ n. Pending g (suc i) n) (sym (ap upvalue_count (function_stands m.functions k c p))) (record { idle = λ j h. (v j h).is_place; ends = w.is_place; clear = inr w.left }))
  belongs i piece form (filling a n block e p s w b) =
      flow_piece (λ p. Pending g (suc i) (belonging_to fs (full_instr labels i p).op (full_instr labels i p))) e (record {
        idle = λ j h. ap g.is_place (let q : suc i + j ≡ suc i = omega (arith, h) in q) ∙ s;
        ends = ap g.is_place (let q : suc i + 1 ≡ suc (suc i) = omega arith in q) ∙ w.is_place;
        clear = inr (ap g.left (let q : suc i + 1 ≡ suc (suc i) = omega arith in q) ∙ w.left);
      })

  pending_next : (p n : ℕ) → Pending g p (suc n) → Pending g (suc p) n
  pending_next p n w = record {
    idle = λ j h. ap g.is_place (let q : suc p + j ≡ p + suc j = omega arith in q) ∙ w.idle (suc j) (omega (arith, h));
    ends = ap g.is_place (let q : suc p + n ≡ p + suc n = omega arith in q) ∙ w.ends;
    clear = next w.clear;
  }
    where
      next : (suc n ≡ 0) ⊎ (g.left (p + suc n) ≡ None) → (n ≡ 0) ⊎ (g.left (suc p + n) ≡ None)
      next (inl e) = absurd (omega (arith, e))
      next (inr e) = inr (ap g.left (let q : suc p + n ≡ p + suc n = omega arith in q) ∙ e)

  -- whether a pc is a further word, and that nothing is left behind the last of them
  pub record FurtherKnown (flag : Bool) (t : ℕ) : Type 0 where
    pub is : flag ≡ not (g.is_place t)
    pub left : g.is_place t ≡ false → g.is_place (suc t) ≡ true → g.left (suc t) ≡ None

  place_known : (flag : Bool) (t : ℕ) → flag ≡ false → g.is_place t ≡ true → FurtherKnown flag t
  place_known flag t e s = record { is = e ∙ ap not (sym s); left = λ n. absurd (true≢false (sym s ∙ n)) }

  walk : (xs : List Item) (p n : ℕ) → ((j : ℕ) → slice_get xs j ≡ slice_get m.items (p + j)) → p + length xs ≡ length m.items → Pending g p n → (j t : ℕ) → t ≡ p + j → j < length xs → FurtherKnown (get_or (further_from fs n (words_from labels p xs)) j false) t
  walk [] p n same long w j t e h = absurd (omega (arith, h))
  walk (x ∷ xs) p zero same long w zero t e h = place_known false t refl (ap g.is_place e ∙ w.ends)
  walk (x ∷ xs) p (suc n) same long w zero t e h = record {
    is = ap not (sym (ap g.is_place e ∙ w.idle 0 (omega arith)));
    left = λ s s'. behind n w s';
  }
    where
      behind : (n : ℕ) → Pending g p (suc n) → g.is_place (suc t) ≡ true → g.left (suc t) ≡ None
      behind zero w s' = only w.clear
        where
          only : (suc zero ≡ 0) ⊎ (g.left (p + suc zero) ≡ None) → g.left (suc t) ≡ None
          only (inl q) = absurd (omega (arith, q))
          only (inr q) = ap g.left (let z : suc t ≡ p + suc zero = omega (arith, e) in z) ∙ q
      behind (suc n) w s' = absurd (true≢false (sym s' ∙ ap g.is_place (let z : suc t ≡ p + suc zero = omega (arith, e) in z) ∙ w.idle 1 (omega arith)))
  walk (x ∷ xs) p zero same long w (suc j) t e h =
      let k = known m g r l p (omega (arith, long)) (ap g.is_place (let q : p ≡ p + 0 = omega arith in q) ∙ w.ends) in
      let here : Some x ≡ Some k.item = same 0 ∙ ap (slice_get m.items) (let q : p + 0 ≡ p = omega arith in q) ∙ k.there in
      let read : instr_of (word_at labels p x.piece) ≡ Some (full_instr labels p k.piece) = (let is : x ≡ k.item = some_one x k.item here in ap (λ y. instr_of (word_at labels p y.piece)) is ∙ k.read) in
      let after = belongs p k.piece k.ok.format k.ok.flow in
      let many : belonging fs (instr_of (word_at labels p x.piece)) ≡ belonging_to fs (full_instr labels p k.piece).op (full_instr labels p k.piece) = ap (belonging fs) read in
      walk xs (suc p) (belonging fs (instr_of (word_at labels p x.piece))) (λ i. same (suc i) ∙ ap (slice_get m.items) (let q : p + suc i ≡ suc p + i = omega arith in q)) (omega (arith, long)) (subst (λ n. Pending g (suc p) n) (sym many) after) j t (omega (arith, e)) (omega (arith, h))
  walk (x ∷ xs) p (suc n) same long w (suc j) t e h =
      walk xs (suc p) n (λ i. same (suc i) ∙ ap (slice_get m.items) (let q : p + suc i ≡ suc p + i = omega arith in q)) (omega (arith, long)) (pending_next p n w) j t (omega (arith, e)) (omega (arith, h))

  -- at each pc of the code
  pub further_known : (t : ℕ) → t < length m.items → FurtherKnown (is_further f t) t
  further_known t h = walk m.items 0 0 (λ j. ap (slice_get m.items) (let q : j ≡ 0 + j = omega arith in q)) (let q : 0 + length m.items ≡ length m.items = omega arith in q) (none_pending g 0 0 refl r.invariant.begins.is_place) t t (omega arith) h

  place_is_no_further : (t : ℕ) → t < length m.items → g.is_place t ≡ true → is_further f t ≡ false
  place_is_no_further t h s = (further_known t h).is ∙ ap not s

  pub no_further_is_place : (t : ℕ) → t < length m.items → is_further f t ≡ false → g.is_place t ≡ true
  no_further_is_place t h e = flip (g.is_place t) (sym (further_known t h).is ∙ e)
    where
      flip : (b : Bool) → not b ≡ false → b ≡ true
      flip true e = refl
      flip false e = absurd (true≢false e)

  pub code_long : length (own f).code ≡ length m.items
  code_long = words_length labels 0 m.items

  pub place_is : (t : ℕ) → t < length m.items → g.is_place t ≡ true → is_place f (Some t) ≡ true
  place_is t h s = both (nat_lt t (length (own f).code)) (is_further f t) (lt-ltb t (length (own f).code) (omega (arith, code_long, h))) (place_is_no_further t h s)
    where
      both : (a b : Bool) → a ≡ true → b ≡ false → (a && not b) ≡ true
      both true false x y = refl
      both true true x y = absurd (true≢false y)
      both false b x y = absurd (true≢false (sym x))

  pub instr_is : (t : ℕ) (k : Known m g t) → instr_at f t ≡ Some (full_instr labels t k.piece)
  instr_is t k = instr_known m g r l t k

  -- ---- what is left and wanted

  -- what a word wants where nothing is left
  wants_none : (w : Option ℕ) → Meets w None → w ≡ None
  wants_none None h = refl
  wants_none (Some x) h = absurd h

  wants_op : (i : ℕ) (piece : Piece) → wants (full_instr labels i piece).op (full_instr labels i piece) ≡ wants (plain_instr piece).op (plain_instr piece)
  wants_op i (Piece.Abc op a b c) = refl
  wants_op i (Piece.Abx op a x) = refl
  wants_op i (Piece.Jump op a n) = go op
    where
      go : (op : Op) → wants op (full_instr labels i (Piece.Jump op a n)) ≡ wants op (plain_instr (Piece.Jump op a n))
      go Op.Call = refl
      go Op.TailCall = refl
      go Op.SetList = refl
      go Op.Return = refl
      go op = refl
  wants_op i (Piece.Bare n) = refl

  leaves_op : (i : ℕ) (piece : Piece) → leaves (full_instr labels i piece).op (full_instr labels i piece) ≡ leaves (plain_instr piece).op (plain_instr piece)
  leaves_op i (Piece.Abc op a b c) = refl
  leaves_op i (Piece.Abx op a x) = refl
  leaves_op i (Piece.Jump op a n) = go op
    where
      go : (op : Op) → leaves op (full_instr labels i (Piece.Jump op a n)) ≡ leaves op (plain_instr (Piece.Jump op a n))
      go Op.Call = refl
      go Op.TailCall = refl
      go Op.Vararg = refl
      go op = refl
  leaves_op i (Piece.Bare n) = refl

  pub meets_full : (t : ℕ) (k : Known m g t) → Meets (wants (full_instr labels t k.piece).op (full_instr labels t k.piece)) (g.left t)
  meets_full t k = subst (λ w. Meets w (g.left t)) (sym (wants_op t k.piece)) k.ok.meets

  pub wanted_is : (t : ℕ) (k : Known m g t) → wanted_at f t ≡ wants (full_instr labels t k.piece).op (full_instr labels t k.piece)
  wanted_is t k = ap (option_and_then (λ i. wants i.op i)) (instr_is t k)

  pub free_wants : (t : ℕ) → t < length m.items → Clear g t → wanted_at f t ≡ None
  free_wants t h w = (let k = known m g r l t h w.is_place in wanted_is t k ∙ wants_none _ (subst (λ x. Meets (wants (full_instr labels t k.piece).op (full_instr labels t k.piece)) x) w.left (meets_full t k)))

  -- open results before a place are left by the word just before it
  flow_left : (i first : ℕ) (piece : Piece) → Flow m g i piece → g.is_place (suc i) ≡ true → g.left (suc i) ≡ Some first → leaves (plain_instr piece).op (plain_instr piece) ≡ Some first
  flow_left i first piece (on_to_next k s o b) t e = sym o ∙ e
  flow_left i first piece (closing a x w b) t e = (let z = w.left in cc)
  flow_left i first piece (ending a b x w) t e = (let z = w.left in cc)
  flow_left i first piece (jumping n x k w b) t e = (let z = w.left in cc)
  flow_left i first piece (testing op a b c n x y p w w' d d') t e = (let z = w.left in cc)
  flow_left i first piece (preparing a n x k w c b) t e = (let z = w.left in cc)
  flow_left i first piece (looping a n x k w y b d) t e = (let z = w.left in cc)
  flow_left i first piece (skipping a x p w w' d) t e = (let z = w.left in cc)
  flow_left i first piece (capturing a k c x p v u w b) t e = go (own c).upvalues v w.left
    where
      go : (n : ℕ) → ((j : ℕ) → j < n → FurtherAt m g (g.note i) (suc i + j)) → g.left (suc i + n) ≡ None → leaves (plain_instr piece).op (plain_instr piece) ≡ Some first
      go zero v z = (let q : g.left (suc i) ≡ None = ap g.left (let y : suc i ≡ suc i + 0 = omega arith in y) ∙ z in cc)
      go (suc n) v z = absurd (true≢false (sym t ∙ ap g.is_place (let y : suc i ≡ suc i + 0 = omega arith in y) ∙ (v 0 (omega arith)).is_place))
  flow_left i first piece (filling a n block x p s w b) t e = absurd (true≢false (sym t ∙ s))

  pub left_is : (t first : ℕ) → t < length m.items → g.is_place t ≡ true → g.left t ≡ Some first → left_before f t ≡ Some first
  left_is zero first h s e = (let z = r.invariant.begins.left in cc)
  left_is (suc i) first h s e = go (g.is_place i) refl
    where
      go : (b : Bool) → g.is_place i ≡ b → left_before f (suc i) ≡ Some first
      go false is = (let z = (further_known i (omega (arith, h))).left is s in cc)
      go true is =
          let k = known m g r l i (omega (arith, h)) is in
          ap (λ c. cond c None (option_and_then (λ i. leaves i.op i) (instr_at f i))) (place_is_no_further i (omega (arith, h)) is)
          ∙ ap (option_and_then (λ i. leaves i.op i)) (instr_is i k) ∙ leaves_op i k.piece ∙ flow_left i first k.piece k.ok.flow s e

  -- ---- jumps

  pub target_is : (pc t : ℕ) → target pc (distance pc t) ≡ Some t
  target_is pc t = ap as_pc (let e : pos (suc pc) +ℤ (pos t -ℤ pos (suc pc)) ≡ pos t = omega (arith, ints) in e)
