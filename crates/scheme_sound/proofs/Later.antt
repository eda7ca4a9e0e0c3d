-- What is so of a word or a label stays so when more is made.
use Rattle.std.proofs.Common.{◌≡◌, ◌≤◌, ◌<◌, ℕ, suc, Bool, false, List, [], ◌∷◌, length, sym, ◌∙◌, arith, inl, ◌+◌, ◌⊎◌, subst, inr, get_or}
use Rattle.std.proofs.lemmas.Option.{slice_get_within}
use Rattle.std.proofs.lemmas.Bool.{cases_lt}
use Rattle.opcode.specs.declared.op.Op.{Op}
use Rattle.opcode.specs.declared.word.Instr.{Instr}
use Rattle.proto.specs.Chunk.{own}
use Rattle.proto.specs.declared.parts.Constant.{Constant}
use Rattle.rules.specs.Breaks.{upvalues_of, operands, names, wants}
use Rattle.scheme.specs.Making.{Maker}
use Rattle.scheme.specs.declared.making.Piece.{Piece}
use Rattle.scheme.specs.declared.making.Local.{Local}
use Rattle.scheme_stands.proofs.Growth.{Kept}
use Rattle.scheme_sound.proofs.Ghosts.{kind_at, captured_at, IsLoop, Below, ClosedBelow, PreparedBelow, Ghost, AllBelow, IsConstant, AreOperands, HasText, ConstantFits, SmallC, VarargFits, plain_instr, Sane, Meets, FurtherFits, HasPiece, Clear, FurtherAt, Flow, on_to_next, closing, ending, jumping, testing, preparing, looping, skipping, capturing, filling, Ok, Placed, Grew, Widens}

-- ---- notes

pub below_self : (xs : List Local) → Below xs xs
below_self xs = record { captured = λ r e. e; loops = λ r l. l }

pub below_then : {xs ys zs : List Local} → Below xs ys → Below ys zs → Below xs zs
below_then b c = record { captured = λ r e. c.captured r (b.captured r e); loops = λ r l. b.loops r (c.loops r l) }

closed_then : {n : ℕ} {xs ys zs : List Local} → ClosedBelow n xs ys → Below ys zs → ClosedBelow n xs zs
closed_then b c = record { captured = λ r e l. c.captured r (b.captured r e l); loops = λ r l. b.loops r (c.loops r l) }

-- ---- what a word says by itself

all_below : (s t : ℕ) (xs : List ℕ) → s ≤ t → AllBelow s xs → AllBelow t xs
all_below s t [] l a = tt
all_below s t (x ∷ xs) l a = (omega (arith, l, a.0), all_below s t xs l a.1)

constant_operand_more : {j k x : ℕ} → j ≤ k → IsConstant j x → IsConstant k x
constant_operand_more l c = record { number = c.number; is = c.is; small = c.small; there = omega (arith, l, c.there) }

pub operand_more : (s t j k x : ℕ) → s ≤ t → j ≤ k → (x < s) ⊎ IsConstant j x → (x < t) ⊎ IsConstant k x
operand_more s t j k x l h (inl a) = inl (omega (arith, l, a))
operand_more s t j k x l h (inr c) = inr (constant_operand_more h c)

operands_more : (s t j k : ℕ) (xs : List ℕ) → s ≤ t → j ≤ k → AreOperands s j xs → AreOperands t k xs
operands_more s t j k [] l h a = tt
operands_more s t j k (x ∷ xs) l h a = (operand_more s t j k x l h a.0, operands_more s t j k xs l h a.1)

text_fits_more : {ks ls : List Constant} {i : ℕ} → Kept ks ls → HasText ks i → HasText ls i
text_fits_more k h = record { text = h.text; is = k _ _ h.is }

constant_fits_more : (ks ls : List Constant) (op : Op) (i : ℕ) → length ks ≤ length ls → Kept ks ls → ConstantFits ks op i → ConstantFits ls op i
constant_fits_more ks ls Op.LoadK i l k h = omega (arith, l, h)
constant_fits_more ks ls Op.GetGlobal i l k h = text_fits_more k h
constant_fits_more ks ls Op.SetGlobal i l k h = text_fits_more k h
constant_fits_more ks ls op i l k h = tt

either_more : (s t c : ℕ) → s ≤ t → (c ≤ 511) ⊎ (c ≤ suc s) → (c ≤ 511) ⊎ (c ≤ suc t)
either_more s t c l (inl a) = inl a
either_more s t c l (inr a) = inr (omega (arith, l, a))

small_more : (s t : ℕ) (op : Op) (c : ℕ) → s ≤ t → SmallC s op c → SmallC t op c
small_more s t Op.NewTable c l h = tt
small_more s t op c l h = either_more s t c l h

vararg_more : (a b : Bool) (op : Op) → b ≡ a → VarargFits a op → VarargFits b op
vararg_more a b Op.Vararg e h = e ∙ h
vararg_more a b op e h = tt

pub sane_later : (m n : Maker) (g h : Ghost) (xs ys : List Local) (i : Instr) → Grew m n → Widens m g h → ys ≡ xs → Sane m g xs i → Sane n h ys i
sane_later m n g h xs ys i r w e s = record {
  first = omega (arith, s.first, w.size);
  ordered = s.ordered;
  registers = all_below g.size h.size (names i.op i) w.size s.registers;
  fields = operands_more g.size h.size (length m.constants) (length n.constants) (operands i.op i) w.size r.count s.fields;
  constant = constant_fits_more m.constants n.constants i.op i.bx r.count r.constants s.constant;
  upvalues = subst (λ u. AllBelow (length u) (upvalues_of i.op i)) (sym r.upvalues) s.upvalues;
  small = small_more g.size h.size i.op i.c w.size s.small;
  extra = vararg_more g.vararg h.vararg i.op w.vararg s.extra;
  spares = λ x t. subst (λ zs. kind_at zs x ≡ 0) (sym e) (s.spares x t);
}

-- ---- words and labels

module _ {m n : Maker} {g h : Ghost} (r : Grew m n) (w : Widens m g h) where
  -- the note at a pc may only allow more
  pub note_below : (i : ℕ) → i ≤ length m.items → Below (g.note i) (h.note i)
  note_below i l = go (cases_lt i (length m.items))
    where
      go : (i < length m.items) ⊎ (length m.items ≤ i) → Below (g.note i) (h.note i)
      go (inl a) = subst (λ ys. Below (g.note i) ys) (sym (w.note i a)) (below_self (g.note i))
      go (inr a) = let e : i ≡ length m.items = omega (arith, l, a) in subst (λ j. Below (g.note j) (h.note j)) (sym e) w.last

  pub clear_later : (i : ℕ) → i ≤ length m.items → Clear g i → Clear h i
  clear_later i l f = record { is_place = w.is_place i l ∙ f.is_place; left = w.left i l ∙ f.left }

  piece_later : {i : ℕ} {piece : Piece} → HasPiece m i piece → HasPiece n i piece
  piece_later a = record { item = a.item; there = r.items _ _ a.there; is = a.is }

  -- from a note before the end to one at most there
  follow : (i j : ℕ) → i < length m.items → j ≤ length m.items → Below (g.note i) (g.note j) → Below (h.note i) (h.note j)
  follow i j l k b = subst (λ xs. Below xs (h.note j)) (sym (w.note i l)) (below_then b (note_below j k))

  follow_need : (i l : ℕ) → i < length m.items → l < length m.labels → Below (g.note i) (g.need l) → Below (h.note i) (h.need l)
  follow_need i l k e b = subst (λ xs. Below xs (h.need l)) (sym (w.note i k)) (subst (λ xs. Below (g.note i) xs) (sym (w.need l e)) b)

  further_fits : (xs : List Local) (piece : Piece) → FurtherFits m g xs piece → FurtherFits n h xs piece
  further_fits xs (Piece.Abc Op.Move a b c) f = (f.0, f.1, omega (arith, f.2, w.size), f.3, f.4)
  further_fits xs (Piece.Abc Op.GetUpval a b c) f = (f.0, f.1, subst (λ u. b < length u) (sym r.upvalues) f.2)
  further_fits xs piece f = absurd f

  further_later : (i j : ℕ) → i < length m.items → FurtherAt m g (g.note i) j → FurtherAt n h (h.note i) j
  further_later i j l f =
      let in_m = slice_get_within m.items j f.item f.there in
      record { item = f.item; there = r.items _ _ f.there; fits = subst (λ xs. FurtherFits n h xs f.item.piece) (sym (w.note i l)) (further_fits (g.note i) f.item.piece f.fits); is_place = w.is_place j (omega (arith, in_m)) ∙ f.is_place }

  piece_within : {i : ℕ} {piece : Piece} → HasPiece m i piece → i < length m.items
  piece_within a = slice_get_within m.items _ a.item a.there

  flow_later : (i : ℕ) (piece : Piece) → i < length m.items → Flow m g i piece → Flow n h i piece
  flow_later i piece l (on_to_next k s o b) = on_to_next k (w.is_place (suc i) l ∙ s) (w.left (suc i) l ∙ o) (follow i (suc i) l l b)
  flow_later i piece l (closing a e f b) = closing a e (clear_later (suc i) l f) (subst (λ xs. ClosedBelow a xs (h.note (suc i))) (sym (w.note i l)) (closed_then b (note_below (suc i) l)))
  flow_later i piece l (ending a b e f) = ending a b e (clear_later (suc i) l f)
  flow_later i piece l (jumping label e k f b) = jumping label e (omega (arith, k, r.labels)) (clear_later (suc i) l f) (follow_need i label l k b)
  flow_later i piece l (testing op a b c label e t p f f' d d') =
      let k = piece_within p in
      testing op a b c label e t (piece_later p) (clear_later (suc i) l f) (clear_later (suc (suc i)) k f') (follow i (suc i) l l d) (follow i (suc (suc i)) l k d')
  flow_later i piece l (preparing a label e k f c b) = preparing a label e (omega (arith, k, r.labels)) (clear_later (suc i) l f) (λ x y. subst (λ xs. captured_at xs x ≡ false) (sym (w.note i l)) (c x y))
      (subst (λ xs. PreparedBelow a xs (h.need label)) (sym (w.note i l)) (subst (λ xs. PreparedBelow a (g.note i) xs) (sym (w.need label k)) b))
  flow_later i piece l (looping a label e k f x b d) = looping a label e (omega (arith, k, r.labels)) (clear_later (suc i) l f) (subst (λ xs. IsLoop xs a) (sym (w.note i l)) x) (follow_need i label l k b) (follow i (suc i) l l d)
  flow_later i piece l (skipping a e p f f' d) =
      let k = piece_within p in
      skipping a e (piece_later p) (clear_later (suc i) l f) (clear_later (suc (suc i)) k f') (follow i (suc (suc i)) l k d)
  flow_later i piece l (capturing a k c e p v u f b) = capturing a k c e (r.functions _ _ p) (λ j x. further_later i (suc i + j) l (v j x)) (omega (arith, u, r.longer)) (clear_later (suc i + (own c).upvalues) u f) (follow i (suc i + (own c).upvalues) l u b)
  flow_later i piece l (filling a k block e p s f b) =
      let x = piece_within p in
      filling a k block e (piece_later p) (w.is_place (suc i) l ∙ s) (clear_later (suc (suc i)) x f) (follow i (suc (suc i)) l x b)

  pub ok_later : (i : ℕ) (piece : Piece) → i < length m.items → Ok m g i piece → Ok n h i piece
  ok_later i piece l o = record {
    format = o.format;
    sane = sane_later m n g h (g.note i) (h.note i) (plain_instr piece) r w (w.note i l) o.sane;
    meets = subst (λ x. Meets (wants (plain_instr piece).op (plain_instr piece)) x) (sym (w.left i (omega (arith, l)))) o.meets;
    flow = flow_later i piece l o.flow;
  }

  pub placed_later : (l : ℕ) → l < length m.labels → get_or n.labels l 0 ≡ get_or m.labels l 0 → Placed m g l → Placed n h l
  placed_later l k e p = record {
    within = subst (λ x. x ≤ length n.items) (sym e) (omega (arith, p.within, r.longer));
    clear = subst (λ x. Clear h x) (sym e) (clear_later _ p.within p.clear);
    allows = subst (λ x. Below (h.need l) (h.note x)) (sym e) (subst (λ xs. Below xs (h.note (get_or m.labels l 0))) (sym (w.need l k)) (below_then p.allows (note_below _ p.within)));
  }
