-- What a step of the scheme adds to the uses of one name in a function that is being made, and which mentions it passes.
use Rattle.std.proofs.Common.{◌≡◌, ◌≤◌, ◌<◌, ℕ, zero, suc, ◌+◌, Bool, true, false, List, [], ◌∷◌, ◌++◌, length, refl, sym, ap, ◌∙◌, subst, arith, drop}
use Rattle.std.specs.Prelude.{Some, ◌&&◌, slice_get, max}
use Rattle.std.specs.Str.{bytes_eq}
use Rattle.lua_num.specs.Bytes.{Text}
use Rattle.lua_tree.specs.Scoping.{Use, global_use}
use Rattle.opcode.specs.declared.op.Op.{Op}
use Rattle.proto.specs.Chunk.{Chunk, Functions, functions_of, function_at}
use Rattle.proto.specs.declared.parts.Constant.{Constant}
use Rattle.scheme.specs.Making.{Maker, Misfit, head_or}
use Rattle.scheme.specs.declared.making.Piece.{Piece}
use Rattle.scheme.specs.declared.making.Item.{Item}
use Rattle.scheme.specs.declared.making.Active.{Active}
use Rattle.scheme_stands.proofs.Growth.{Kept, calm, loose, Grown}
use Rattle.global_use.specs.Uses.{uses_of}
use Rattle.source_globals.specs.Named.{Role, gets_it, sets_it}
use Rattle.source_globals.proofs.Owed.{Mention, is_mine, is_global, one_if, owed, passed, owed_both, passed_both, not_mine}
use Rattle.source_globals.proofs.Pieces.{does, is_plain, piece_use, takes, Reads, pending, items_use, AreRead, pending_both, use_both, read_both, plain_abc_reads, plain_abc_takes}

-- what is counted, and the finished function
pub record End : Type 0 where
  pub role : Role
  pub name : Text
  pub constants : List Constant
  pub functions : List Chunk

-- what was made stands in the finished function, which has few registers
pub record LastBy (z : End) (constants : List Constant) (functions : List Chunk) (high : ℕ) (misfits : List Misfit) : Type 0 where
  pub constants_kept : Kept constants z.constants
  pub functions_kept : Kept functions z.functions
  pub low : high ≤ 250
  pub none : misfits ≡ []

abbrev pub Last : End → Maker → Type 0
Last z m = LastBy z m.constants m.functions m.high m.misfits

pub back : (z : End) (m n : Maker) → Grown calm m n → Last z n → Last z m
back z m n g l = record {
  constants_kept = λ i x e. l.constants_kept i x (g.constants i x e);
  functions_kept = λ i x e. l.functions_kept i x (g.functions i x e);
  low = let h = l.low in omega (arith, g.high, h);
  none = g.fine l.none;
}

pub back_loose : (z : End) (m n : Maker) → Grown loose m n → Last z n → Last z m
back_loose z m n g l = record {
  constants_kept = λ i x e. l.constants_kept i x (g.constants i x e);
  functions_kept = λ i x e. l.functions_kept i x (g.functions i x e);
  low = let h = l.low in omega (arith, g.high, h);
  none = g.fine l.none;
}

pub untake : (z : End) (m : Maker) (n : ℕ) → LastBy z m.constants m.functions (max m.high n) m.misfits → Last z m
untake z m n l = record { constants_kept = l.constants_kept; functions_kept = l.functions_kept; low = let h = l.low in omega (arith, h); none = l.none }

-- all words are read, no further word is left to come, and few locals are active
pub record FineBy (z : End) (items : List Item) (active : List Active) : Type 0 where
  pub read : AreRead (functions_of z.functions) 0 items
  pub even : pending (functions_of z.functions) 0 items ≡ 0
  pub room : length active ≤ 250

abbrev pub Fine : End → Maker → Type 0
Fine z m = FineBy z m.items m.active

-- the uses of the words and of the functions that were made
abbrev pub tally : End → List Item → List Chunk → ℕ
tally z items functions = items_use z.role z.name z.constants (functions_of z.functions) 0 items + uses_of (does z.role) z.name (functions_of functions)

-- so many uses more
pub record WentBy (z : End) (n : ℕ) (items : List Item) (functions : List Chunk) (items' : List Item) (functions' : List Chunk) (active : List Active) : Type 0 where
  pub fine : FineBy z items' active
  pub total : tally z items' functions' ≡ tally z items functions + n

-- those of these mentions, which are passed
pub record ToldBy (z : End) (ms : List Mention) (items : List Item) (functions : List Chunk) (names : List Use) (items' : List Item) (functions' : List Chunk) (names' : List Use) (active : List Active) : Type 0 where
  pub went : WentBy z (owed z.role z.name ms names) items functions items' functions' active
  pub names_passed : names' ≡ passed ms names

abbrev pub Told : End → List Mention → Maker → Maker → Type 0
Told z ms m n = ToldBy z ms m.items m.functions m.ahead.names n.items n.functions n.ahead.names n.active

module _ (z : End) where
  pub still : {items : List Item} {functions : List Chunk} {names : List Use} {active : List Active} → FineBy z items active → ToldBy z [] items functions names items functions names active
  still f = record { went = record { fine = f; total = omega arith }; names_passed = refl }

  pub both : {ms ns : List Mention} {i1 i2 i3 : List Item} {f1 f2 f3 : List Chunk} {n1 n2 n3 : List Use} {a2 a3 : List Active} →
      ToldBy z ms i1 f1 n1 i2 f2 n2 a2 → ToldBy z ns i2 f2 n2 i3 f3 n3 a3 → ToldBy z (ms ++ ns) i1 f1 n1 i3 f3 n3 a3
  both {ms} {ns} {i1} {i2} {i3} {f1} {f2} {f3} {n1} {n2} {n3} {a2} {a3} t u =
      let two = owed_both z.role z.name ms ns n1 in
      let second = ap (owed z.role z.name ns) t.names_passed in
      let one_total = t.went.total in
      let two_total = u.went.total in
      record {
        went = record { fine = u.went.fine; total = omega (arith, two, second, one_total, two_total) };
        names_passed = u.names_passed ∙ ap (passed ns) t.names_passed ∙ sym (passed_both ms ns n1);
      }

  -- and what adds and passes nothing
  pub quiet : {ms : List Mention} {i1 i2 i3 : List Item} {f1 f2 f3 : List Chunk} {n1 n2 n3 : List Use} {a2 a3 : List Active} →
      ToldBy z ms i1 f1 n1 i2 f2 n2 a2 → ToldBy z [] i2 f2 n2 i3 f3 n3 a3 → ToldBy z ms i1 f1 n1 i3 f3 n3 a3
  quiet t u =
      let one_total = t.went.total in
      let two_total = u.went.total in
      record { went = record { fine = u.went.fine; total = omega (arith, one_total, two_total) }; names_passed = u.names_passed ∙ t.names_passed }

  -- where there is no mention
  pub no_mention : {ms : List Mention} {i1 i2 : List Item} {f1 f2 : List Chunk} {n1 n2 : List Use} {a2 : List Active} → ms ≡ [] → ToldBy z [] i1 f1 n1 i2 f2 n2 a2 → ToldBy z ms i1 f1 n1 i2 f2 n2 a2
  no_mention {ms} {i1} {i2} {f1} {f2} {n1} {n2} {a2} e t = subst (λ ms. ToldBy z ms i1 f1 n1 i2 f2 n2 a2) (sym e) t

  -- and words that pass no mention
  pub behind : {ms : List Mention} {i1 i2 i3 : List Item} {f1 f2 f3 : List Chunk} {n1 n2 : List Use} {a2 a3 : List Active} →
      ToldBy z ms i1 f1 n1 i2 f2 n2 a2 → WentBy z 0 i2 f2 i3 f3 a3 → ToldBy z ms i1 f1 n1 i3 f3 n2 a3
  behind t u =
      let one_total = t.went.total in
      let two_total = u.total in
      record { went = record { fine = u.fine; total = omega (arith, one_total, two_total) }; names_passed = t.names_passed }

  pub word_went : {items : List Item} {functions : List Chunk} {active : List Active} (line : ℕ) (piece : Piece) → Reads piece → takes (functions_of z.functions) piece ≡ 0 →
      FineBy z items active → WentBy z (piece_use z.role z.name z.constants piece) items functions (items ++ record { line = line; piece = piece } ∷ []) functions active
  word_went {items} {functions} {active} line piece reads none f =
      let item : Item = record { line = line; piece = piece } in
      let fs = functions_of z.functions in
      let sum = use_both z.role z.name z.constants fs 0 items (item ∷ []) in
      let at = ap (λ n. items_use z.role z.name z.constants fs n (item ∷ [])) f.even in
      let one : items_use z.role z.name z.constants fs 0 (item ∷ []) ≡ piece_use z.role z.name z.constants piece + items_use z.role z.name z.constants fs (takes fs piece) [] = refl in
      let end : items_use z.role z.name z.constants fs (takes fs piece) [] ≡ 0 = refl in
      record {
        fine = record {
          read = read_both fs 0 items (item ∷ []) f.read (subst (λ n. AreRead fs n (item ∷ [])) (sym f.even) (reads, tt));
          even = pending_both fs 0 items (item ∷ []) ∙ ap (λ n. pending fs n (item ∷ [])) f.even ∙ none;
          room = f.room;
        };
        total = omega (arith, sum, at, one, end);
      }

  pub abc_went : {items : List Item} {functions : List Chunk} {active : List Active} (line : ℕ) (op : Op) (a b c : ℕ) → is_plain op ≡ true →
      FineBy z items active → WentBy z 0 items functions (items ++ record { line = line; piece = Piece.Abc op a b c } ∷ []) functions active
  abc_went line op a b c e f = word_went line (Piece.Abc op a b c) (plain_abc_reads op a c e) (plain_abc_takes op c e) f

  pub jump_went : {items : List Item} {functions : List Chunk} {active : List Active} (line : ℕ) (op : Op) (a label : ℕ) → is_plain op ≡ true →
      FineBy z items active → WentBy z 0 items functions (items ++ record { line = line; piece = Piece.Jump op a label } ∷ []) functions active
  jump_went line op a label e f = word_went line (Piece.Jump op a label) e refl f

  pub on_abc : {ms : List Mention} {i1 i2 : List Item} {f1 f2 : List Chunk} {n1 n2 : List Use} {a2 : List Active} (line : ℕ) (op : Op) (a b c : ℕ) → is_plain op ≡ true →
      ToldBy z ms i1 f1 n1 i2 f2 n2 a2 → ToldBy z ms i1 f1 n1 (i2 ++ record { line = line; piece = Piece.Abc op a b c } ∷ []) f2 n2 a2
  on_abc line op a b c e t = behind t (abc_went line op a b c e t.went.fine)

  pub on_jump : {ms : List Mention} {i1 i2 : List Item} {f1 f2 : List Chunk} {n1 n2 : List Use} {a2 : List Active} (line : ℕ) (op : Op) (a label : ℕ) → is_plain op ≡ true →
      ToldBy z ms i1 f1 n1 i2 f2 n2 a2 → ToldBy z ms i1 f1 n1 (i2 ++ record { line = line; piece = Piece.Jump op a label } ∷ []) f2 n2 a2
  on_jump line op a label e t = behind t (jump_went line op a label e t.went.fine)

  pub on_load : {ms : List Mention} {i1 i2 : List Item} {f1 f2 : List Chunk} {n1 n2 : List Use} {a2 : List Active} (line a k : ℕ) →
      ToldBy z ms i1 f1 n1 i2 f2 n2 a2 → ToldBy z ms i1 f1 n1 (i2 ++ record { line = line; piece = Piece.Abx Op.LoadK a k } ∷ []) f2 n2 a2
  on_load line a k t = behind t (word_went line (Piece.Abx Op.LoadK a k) refl refl t.went.fine)

  -- a name that means no global is passed
  pub pass_told : {items : List Item} {functions : List Chunk} {active : List Active} (m : Mention) (names : List Use) → is_global (head_or global_use names) ≡ false →
      FineBy z items active → ToldBy z (m ∷ []) items functions names items functions (drop 1 names) active
  pass_told m names e f =
      let none = not_mine z.role z.name m (head_or global_use names) e in
      record { went = record { fine = f; total = omega (arith, none) }; names_passed = refl }
