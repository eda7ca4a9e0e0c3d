-- What is known of each place of a finished function: the word there as it is read, and that it is as it should be.
use Rattle.std.proofs.Common.{◌≡◌, ◌≤◌, ◌<◌, ℕ, zero, suc, true, List, length, refl, sym, ap, ◌∙◌, arith, inl, ◌+◌, cond, ◌⊎◌, true≢false, inr, ne_eqb, get_or}
use Rattle.std.specs.Prelude.{Some, slice_get, pos, option_and_then}
use Rattle.std.proofs.lemmas.Option.{slice_get_within}
use Rattle.opcode.specs.declared.op.Op.{Op}
use Rattle.opcode.specs.declared.op.Format.{Format}
use Rattle.opcode.specs.declared.word.Instr.{Instr}
use Rattle.opcode.specs.Reading.{instr_of}
use Rattle.opcode.specs.Word.{format_of}
use Rattle.proto.specs.Chunk.{functions_of, Functions}
use Rattle.rules.specs.Words.{is_test}
use Rattle.rules.specs.Places.{belonging_to}
use Rattle.rules.proofs.Lists.{get_some}
use Rattle.scheme.specs.Making.{Maker}
use Rattle.scheme.specs.Functions.{word_at, words_from, register_count}
use Rattle.scheme.specs.declared.making.Piece.{Piece}
use Rattle.scheme.specs.declared.making.Item.{Item}
use Rattle.scheme_sound.proofs.Ghosts.{Below, Ghost, ConstantFits, SmallC, plain_instr, goes_on, Clear, Flow, on_to_next, closing, ending, jumping, testing, preparing, looping, skipping, capturing, filling, HasFormat, Ok, Invariant}
use Rattle.scheme_stands.proofs.Growth.{word_stands}
use Rattle.scheme_sound.proofs.Decoded.{Limits, full_instr, table_read, SmallPiece, piece_read}

-- ---- a finished function

-- a label stands at a word
pub record LabelStands (m : Maker) (g : Ghost) (label : ℕ) : Type 0 where
  pub within : get_or m.labels label 0 < length m.items
  pub clear : Clear g (get_or m.labels label 0)
  pub allows : Below (g.need label) (g.note (get_or m.labels label 0))

-- a function's words are all made
pub record Ready (m : Maker) (g : Ghost) : Type 0 where
  pub invariant : Invariant m g
  pub labels : (l : ℕ) → l < length m.labels → LabelStands m g l
  pub line : ℕ
  pub last : ℕ
  pub ends : slice_get m.items last ≡ Some (record { line = line; piece = Piece.Abc Op.Return 0 1 0 })
  pub long : length m.items ≡ suc last
  pub is_place : g.is_place last ≡ true
  pub size : g.size ≤ register_count m

-- ---- the words at its places

-- the word at a place, as it is read: but for the size hints of a table it is what was put
pub record Known (m : Maker) (g : Ghost) (i : ℕ) : Type 0 where
  pub item : Item
  pub there : slice_get m.items i ≡ Some item
  pub piece : Piece
  pub ok : Ok m g i piece
  pub read : instr_of (word_at m.labels i item.piece) ≡ Some (full_instr m.labels i piece)
  pub same : (plain_instr piece).op ≡ (plain_instr item.piece).op
  pub exact : (((plain_instr item.piece).op ≡ Op.NewTable) → ⊥) → piece ≡ item.piece

retable_flow : (m : Maker) (g : Ghost) (i a b c b' c' : ℕ) → Flow m g i (Piece.Abc Op.NewTable a b c) → Flow m g i (Piece.Abc Op.NewTable a b' c')
retable_flow m g i a b c b' c' (on_to_next k s o w) = on_to_next k s o w
retable_flow m g i a b c b' c' (closing x e f w) = cc
retable_flow m g i a b c b' c' (ending x y e f) = cc
retable_flow m g i a b c b' c' (jumping l e k f w) = cc
retable_flow m g i a b c b' c' (testing op x y z l e t p f f' d d') = absurd (let same : Op.NewTable ≡ op = cc in true≢false (sym t ∙ ap is_test (sym same)))
retable_flow m g i a b c b' c' (preparing x l e k f w d) = cc
retable_flow m g i a b c b' c' (looping x l e k f y w d) = cc
retable_flow m g i a b c b' c' (skipping x e p f f' d) = cc
retable_flow m g i a b c b' c' (capturing x k d e p v u f w) = cc
retable_flow m g i a b c b' c' (filling x n k e p s f w) = cc

retable : (m : Maker) (g : Ghost) (i a b c b' c' : ℕ) → Ok m g i (Piece.Abc Op.NewTable a b c) → Ok m g i (Piece.Abc Op.NewTable a b' c')
retable m g i a b c b' c' k = record {
  format = refl;
  sane = (let s = k.sane in record { first = s.first; ordered = refl; registers = s.registers; fields = tt; constant = tt; upvalues = tt; small = tt; extra = tt; spares = s.spares });
  meets = k.meets;
  flow = retable_flow m g i a b c b' c' k.flow;
}

-- a closure's number is small
closure_small : (m : Maker) (g : Ghost) (i a k : ℕ) → Limits m → Flow m g i (Piece.Abx Op.Closure a k) → k < 262144
closure_small m g i a k l (on_to_next z s o w) = absurd (true≢false (sym z))
closure_small m g i a k l (closing x e f w) = cc
closure_small m g i a k l (ending x y e f) = cc
closure_small m g i a k l (jumping n e z f w) = cc
closure_small m g i a k l (testing op x y z n e t p f f' d d') = cc
closure_small m g i a k l (preparing x n e z f w d) = cc
closure_small m g i a k l (looping x n e z f y w d) = cc
closure_small m g i a k l (skipping x e p f f' d) = cc
closure_small m g i a k l (capturing x j d e p v u f w) = let same : k ≡ j = cc in let q = slice_get_within m.functions j d p in let most = l.functions in omega (arith, same, q, most)
closure_small m g i a k l (filling x n z e p s f w) = cc

small_c : (s : ℕ) (op : Op) (c : ℕ) → s ≤ 250 → ((op ≡ Op.NewTable) → ⊥) → SmallC s op c → c < 512
small_c s Op.NewTable c l n h = absurd (n refl)
small_c s op c l n h = either h
  where
    either : (c ≤ 511) ⊎ (c ≤ suc s) → c < 512
    either (inl a) = omega (arith, a)
    either (inr a) = omega (arith, a, l)

abx_small : (m : Maker) (g : Ghost) (i : ℕ) (op : Op) (a k : ℕ) → Limits m → format_of op ≡ Format.Abx → ConstantFits m.constants op k → Flow m g i (Piece.Abx op a k) → k < 262144
abx_small m g i Op.LoadK a k l f c w = let most = l.constants in omega (arith, c, most)
abx_small m g i Op.GetGlobal a k l f c w = let q = slice_get_within m.constants k _ c.is in let most = l.constants in omega (arith, q, most)
abx_small m g i Op.SetGlobal a k l f c w = let q = slice_get_within m.constants k _ c.is in let most = l.constants in omega (arith, q, most)
abx_small m g i Op.Closure a k l f c w = closure_small m g i a k l w
abx_small m g i op a k l f c w = cc

module _ (m : Maker) (g : Ghost) (r : Ready m g) (l : Limits m) where
  within : g.size ≤ 250
  within = let a = r.size in let b = l.registers in omega (arith, a, b)

  small : (i : ℕ) (piece : Piece) → (((plain_instr piece).op ≡ Op.NewTable) → ⊥) → Ok m g i piece → SmallPiece piece
  small i (Piece.Abc op a b c) n k = (let f = k.sane.first in let w = within in (omega (arith, f, w), small_c g.size op c within n k.sane.small))
  small i (Piece.Abx op a x) n k = (let f = k.sane.first in let w = within in (omega (arith, f, w), abx_small m g i op a x l k.format k.sane.constant k.flow))
  small i (Piece.Jump op a label) n k = (let f = k.sane.first in let w = within in omega (arith, f, w))
  small i (Piece.Bare x) n k = k.format

  plain_known : (i : ℕ) (x : Item) → slice_get m.items i ≡ Some x → (((plain_instr x.piece).op ≡ Op.NewTable) → ⊥) → Ok m g i x.piece → Known m g i
  plain_known i x e n k = record { item = x; there = e; piece = x.piece; ok = k; read = piece_read m l i x e k.format (small i x.piece n k); same = refl; exact = λ q. refl }

  table_known : (i line a b c : ℕ) → slice_get m.items i ≡ Some (record { line = line; piece = Piece.Abc Op.NewTable a b c }) → Ok m g i (Piece.Abc Op.NewTable a b c) → Known m g i
  table_known i line a b c e k =
      let f = k.sane.first in
      let w = within in
      let t = table_read a b c (omega (arith, f, w)) in
      record { item = record { line = line; piece = Piece.Abc Op.NewTable a b c }; there = e; piece = Piece.Abc Op.NewTable a t.0 t.1; ok = retable m g i a b c t.0 t.1 k; read = t.2; same = refl; exact = λ q. absurd (q refl) }

  pub known : (i : ℕ) → i < length m.items → g.is_place i ≡ true → Known m g i
  known i h s = (let x = get_some m.items i h in go x.0 x.1 (r.invariant.words i x.0 x.1 s))
    where
      by_op : (op : Op) (line a b c : ℕ) → slice_get m.items i ≡ Some (record { line = line; piece = Piece.Abc op a b c }) → Ok m g i (Piece.Abc op a b c) → Known m g i
      by_op Op.NewTable line a b c e k = table_known i line a b c e k
      by_op op line a b c e k = plain_known i (record { line = line; piece = Piece.Abc op a b c }) e (λ q. cc) k

      by_piece : (line : ℕ) (piece : Piece) → slice_get m.items i ≡ Some (record { line = line; piece = piece }) → Ok m g i piece → Known m g i
      by_piece line (Piece.Abc op a b c) e k = by_op op line a b c e k
      by_piece line (Piece.Abx op a x) e k = plain_known i (record { line = line; piece = Piece.Abx op a x }) e (λ q. (let bad : format_of op ≡ Format.Abc = ap format_of q in let f = k.format in cc)) k
      by_piece line (Piece.Jump op a n) e k = plain_known i (record { line = line; piece = Piece.Jump op a n }) e (λ q. (let bad : format_of op ≡ Format.Abc = ap format_of q in let f = k.format in cc)) k
      by_piece line (Piece.Bare n) e k = absurd k.format

      go : (x : Item) → slice_get m.items i ≡ Some x → Ok m g i x.piece → Known m g i
      go x e k = by_piece x.line x.piece e k

  abbrev code : List ℕ
  code = words_from m.labels 0 m.items

  abbrev fs : Functions
  fs = functions_of m.functions

  pub word_known : (i : ℕ) (k : Known m g i) → slice_get code i ≡ Some (word_at m.labels i k.item.piece)
  word_known i k = word_stands m.labels 0 m.items i k.item k.there ∙ ap (λ n. Some (word_at m.labels n k.item.piece)) (let e : 0 + i ≡ i = omega arith in e)

  pub instr_known : (i : ℕ) (k : Known m g i) → option_and_then instr_of (slice_get code i) ≡ Some (full_instr m.labels i k.piece)
  instr_known i k = ap (option_and_then instr_of) (word_known i k) ∙ k.read

-- ---- words that belong to others

-- a word that goes on has none
pub on_belongs : (inner : Functions) (labels : List ℕ) (i : ℕ) (piece : Piece) → HasFormat piece → goes_on (plain_instr piece).op (plain_instr piece).c ≡ true → belonging_to inner (full_instr labels i piece).op (full_instr labels i piece) ≡ 0
on_belongs inner labels i (Piece.Abc op a b c) f e = go op c e
  where
    go : (op : Op) (c : ℕ) → goes_on op c ≡ true → belonging_to inner op (record { op = op; a = a; b = b; c = c; bx = 0; sbx = pos 0 }) ≡ 0
    go Op.SetList zero e = cc
    go Op.SetList (suc c) e = ap (λ t. cond t 1 0) (ne_eqb (suc c) 0 (λ q. omega (arith, q)))
    go Op.Closure c e = cc
    go op c e = refl
on_belongs inner labels i (Piece.Abx op a x) f e = go op e
  where
    go : (op : Op) → goes_on op 0 ≡ true → belonging_to inner op (record { op = op; a = a; b = 0; c = 0; bx = x; sbx = pos 0 }) ≡ 0
    go Op.SetList e = cc
    go Op.Closure e = cc
    go op e = refl
on_belongs inner labels i (Piece.Jump op a n) f e = go op e
  where
    go : (op : Op) → goes_on op 0 ≡ true → belonging_to inner op (full_instr labels i (Piece.Jump op a n)) ≡ 0
    go Op.SetList e = cc
    go Op.Closure e = cc
    go op e = refl
on_belongs inner labels i (Piece.Bare n) f e = absurd f

pub test_belongs : (inner : Functions) (op : Op) (i : Instr) → is_test op ≡ true → belonging_to inner op i ≡ 0
test_belongs inner Op.SetList i e = cc
test_belongs inner Op.Closure i e = cc
test_belongs inner op i e = refl
