-- The words that are being made, piece by piece: which get and set a global, how many further words belong to each, and what is needed so that a
-- word is read so.
use Rattle.std.proofs.Common.{◌≡◌, ◌<◌, ℕ, zero, suc, ◌+◌, Bool, true, false, List, [], ◌∷◌, ◌++◌, refl, ap, ◌∙◌, arith}
use Rattle.std.specs.Prelude.{◌&&◌, ◌==◌, slice_get, if◌then◌else◌}
use Rattle.lua_num.specs.Bytes.{Text}
use Rattle.opcode.specs.declared.op.Op.{Op}
use Rattle.proto.specs.Chunk.{Functions, function_at}
use Rattle.proto.specs.declared.parts.Constant.{Constant}
use Rattle.rules.specs.Places.{upvalue_count}
use Rattle.scheme.specs.declared.making.Piece.{Piece}
use Rattle.scheme.specs.declared.making.Item.{Item}
use Rattle.global_use.specs.Uses.{is_get, is_set, is_name}
use Rattle.source_globals.specs.Named.{Role, gets_it, sets_it, is_role}
use Rattle.source_globals.proofs.Owed.{one_if}

abbrev pub does : Role → Op → Bool
does gets_it = is_get
does sets_it = is_set

-- opcodes that use no global, and to which no further word belongs
abbrev pub is_plain : Op → Bool
is_plain Op.GetGlobal = false
is_plain Op.SetGlobal = false
is_plain Op.Closure = false
is_plain Op.SetList = false
is_plain op = true

abbrev pub abx_use : Role → Text → List Constant → Op → (bx : ℕ) → ℕ
abx_use role name cs Op.GetGlobal k = one_if (is_role role gets_it && is_name name (slice_get cs k))
abx_use role name cs Op.SetGlobal k = one_if (is_role role sets_it && is_name name (slice_get cs k))
abx_use role name cs op k = 0

abbrev pub piece_use : Role → Text → List Constant → Piece → ℕ
piece_use role name cs (Piece.Abc op a b c) = 0
piece_use role name cs (Piece.Abx op a bx) = abx_use role name cs op bx
piece_use role name cs (Piece.Jump op a label) = 0
piece_use role name cs (Piece.Bare n) = 0

abbrev pub abc_takes : Op → (c : ℕ) → ℕ
abc_takes Op.SetList c = one_if (c == 0)
abc_takes op c = 0

abbrev pub abx_takes : Functions → Op → (bx : ℕ) → ℕ
abx_takes fs Op.Closure k = upvalue_count (function_at fs k)
abx_takes fs op k = 0

abbrev pub takes : Functions → Piece → ℕ
takes fs (Piece.Abc op a b c) = abc_takes op c
takes fs (Piece.Abx op a bx) = abx_takes fs op bx
takes fs (Piece.Jump op a label) = 0
takes fs (Piece.Bare n) = 0

abbrev pub AbcReads : Op → (a c : ℕ) → Type 0
AbcReads Op.SetList a c = (a < 256) × (c < 512)
AbcReads op a c = is_plain op ≡ true

abbrev pub AbxReads : Op → (a : ℕ) → Type 0
AbxReads Op.GetGlobal a = a < 256
AbxReads Op.SetGlobal a = a < 256
AbxReads Op.Closure a = a < 256
AbxReads op a = is_plain op ≡ true

abbrev pub Reads : Piece → Type 0
Reads (Piece.Abc op a b c) = AbcReads op a c
Reads (Piece.Abx op a bx) = AbxReads op a
Reads (Piece.Jump op a label) = is_plain op ≡ true
Reads (Piece.Bare n) = ⊥

pub plain_abc_reads : (op : Op) (a c : ℕ) → is_plain op ≡ true → AbcReads op a c
plain_abc_reads Op.GetGlobal a c e = cc
plain_abc_reads Op.SetGlobal a c e = cc
plain_abc_reads Op.Closure a c e = cc
plain_abc_reads Op.SetList a c e = cc
plain_abc_reads op a c e = e

pub plain_abc_takes : (op : Op) (c : ℕ) → is_plain op ≡ true → abc_takes op c ≡ 0
plain_abc_takes Op.SetList c e = cc
plain_abc_takes op c e = refl

-- ---- rows of them, of which so many are further words at first

-- how many further words are left behind them
abbrev pub pending : Functions → ℕ → List Item → ℕ
pending fs n [] = n
pending fs zero (x ∷ xs) = pending fs (takes fs x.piece) xs
pending fs (suc n) (x ∷ xs) = pending fs n xs

abbrev pub items_use : Role → Text → List Constant → Functions → ℕ → List Item → ℕ
items_use role name cs fs n [] = 0
items_use role name cs fs zero (x ∷ xs) = piece_use role name cs x.piece + items_use role name cs fs (takes fs x.piece) xs
items_use role name cs fs (suc n) (x ∷ xs) = items_use role name cs fs n xs

abbrev pub AreRead : Functions → ℕ → List Item → Type 0
AreRead fs n [] = Unit {0}
AreRead fs zero (x ∷ xs) = Reads x.piece × AreRead fs (takes fs x.piece) xs
AreRead fs (suc n) (x ∷ xs) = AreRead fs n xs

pub pending_both : (fs : Functions) (n : ℕ) (xs ys : List Item) → pending fs n (xs ++ ys) ≡ pending fs (pending fs n xs) ys
pending_both fs n [] ys = refl
pending_both fs zero (x ∷ xs) ys = pending_both fs (takes fs x.piece) xs ys
pending_both fs (suc n) (x ∷ xs) ys = pending_both fs n xs ys

pub use_both : (role : Role) (name : Text) (cs : List Constant) (fs : Functions) (n : ℕ) (xs ys : List Item) →
    items_use role name cs fs n (xs ++ ys) ≡ items_use role name cs fs n xs + items_use role name cs fs (pending fs n xs) ys
use_both role name cs fs n [] ys = omega arith
use_both role name cs fs zero (x ∷ xs) ys =
    let h = use_both role name cs fs (takes fs x.piece) xs ys in
    ap (λ k. piece_use role name cs x.piece + k) h ∙ omega arith
use_both role name cs fs (suc n) (x ∷ xs) ys = use_both role name cs fs n xs ys

pub read_both : (fs : Functions) (n : ℕ) (xs ys : List Item) → AreRead fs n xs → AreRead fs (pending fs n xs) ys → AreRead fs n (xs ++ ys)
read_both fs n [] ys h k = k
read_both fs zero (x ∷ xs) ys h k = (h.0, read_both fs (takes fs x.piece) xs ys h.1 k)
read_both fs (suc n) (x ∷ xs) ys h k = read_both fs n xs ys h k
