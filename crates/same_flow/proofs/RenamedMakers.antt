-- What a step of the scheme makes is, behind other labels, what it makes there, where it makes no label of its own.
use Rattle.std.proofs.Common.{◌≡◌, ℕ, suc, Bool, true, false, cond, List, [], ◌∷◌, ◌++◌, length, map, drop, set, refl, sym, ap, ◌∙◌}
use Rattle.std.proofs.lemmas.List.{length-map, map-append}
use Rattle.std.specs.Prelude.{Some}
use Rattle.lua_num.specs.Bytes.{Text}
use Rattle.opcode.specs.declared.op.Op.{Op}
use Rattle.proto.specs.declared.parts.Constant.{Constant}
use Rattle.scheme.specs.Making.{Maker, Part, Got, Asks, ◌>>=◌, ◌>>◌, nothing, answer, read, put, jump_to, take_registers, free_from, freeing, constant, head_or, name, declare, activate, entry_at, starts_here, when}
use Rattle.scheme.specs.declared.making.Piece.{Piece}
use Rattle.scheme.specs.declared.making.Item.{Item}
use Rattle.scheme.specs.declared.making.Local.{Local}
use Rattle.same_flow.specs.Renaming.{renamed_piece, renamed_item, with_labels}

abbrev pub got_with_labels : {A : Type 0} → (numbers : ℕ → ℕ) → (labels : List ℕ) → Got A → Got A
got_with_labels numbers labels got = record { value = got.value; after = with_labels numbers labels got.after }

-- ---- parts that make behind other labels what they make

pub record SamePart (part : Part) : Type 0 where
  pub same : (numbers : ℕ → ℕ) (labels : List ℕ) (m : Maker) → with_labels numbers labels (part m) ≡ part (with_labels numbers labels m)

pub record SameAsks {A : Type 0} (ask : Asks A) : Type 0 where
  pub same : (numbers : ℕ → ℕ) (labels : List ℕ) (m : Maker) → got_with_labels numbers labels (ask m) ≡ ask (with_labels numbers labels m)

-- the label that it jumps to has another number too
pub record SameJump (jump : ℕ → Part) : Type 0 where
  pub same : (numbers : ℕ → ℕ) (labels : List ℕ) (label : ℕ) (m : Maker) → with_labels numbers labels (jump label m) ≡ jump (numbers label) (with_labels numbers labels m)

pub bind : {A : Type 0} {ask : Asks A} {rest : A → Part} → SameAsks ask → ((x : A) → SamePart (rest x)) → SamePart (ask >>= rest)
bind {A} {ask} {rest} a b = record {
  same = λ numbers labels m. (b (ask m).value).same numbers labels (ask m).after ∙ ap (λ (got : Got A). rest got.value got.after) (a.same numbers labels m);
}

infixl 20 ◌then◌
pub ◌then◌ : {one two : Part} → SamePart one → SamePart two → SamePart (one >> two)
◌then◌ {one} {two} a b = record { same = λ numbers labels m. b.same numbers labels (one m) ∙ ap two (a.same numbers labels m) }

pub no_part : SamePart nothing
no_part = record { same = λ numbers labels m. refl }

pub either : {one two : Part} (b : Bool) → SamePart one → SamePart two → SamePart (cond b one two)
either true p q = p
either false p q = q

pub either_asks : {A : Type 0} {one two : Asks A} (b : Bool) → SameAsks one → SameAsks two → SameAsks (cond b one two)
either_asks true p q = p
either_asks false p q = q

pub if_so : {part : Part} (b : Bool) → SamePart part → SamePart (when b part)
if_so true p = p
if_so false p = no_part

pub same_answer : {A : Type 0} (value : A) → SameAsks (answer value)
same_answer value = record { same = λ numbers labels m. refl }

pub same_free : SameAsks (read (λ m. m.free))
same_free = record { same = λ numbers labels m. refl }

-- ---- words

-- a word that jumps to no label
abbrev pub Stays : Piece → Type 0
Stays piece = (numbers : ℕ → ℕ) → renamed_piece numbers piece ≡ piece

pub same_put : (line : ℕ) (piece : Piece) → Stays piece → SamePart (put line piece)
same_put line piece stays = record {
  same = λ numbers labels m.
      let item : Piece → Item = λ p. record { line = line; piece = p } in
      ap (λ (items : List Item). record (with_labels numbers labels m) { items = items }) (map-append (renamed_item numbers) m.items (item piece ∷ []))
      ∙ ap (λ p. record (with_labels numbers labels m) { items = map (renamed_item numbers) m.items ++ item p ∷ [] }) (stays numbers);
}

pub same_abc : (line : ℕ) (op : Op) (a b c : ℕ) → SamePart (put line (Piece.Abc op a b c))
same_abc line op a b c = same_put line (Piece.Abc op a b c) (λ numbers. refl)

pub same_abx : (line : ℕ) (op : Op) (a bx : ℕ) → SamePart (put line (Piece.Abx op a bx))
same_abx line op a bx = same_put line (Piece.Abx op a bx) (λ numbers. refl)

-- ---- jumps

pub same_jump : (line : ℕ) → SameJump (jump_to line)
same_jump line = record {
  same = λ numbers labels label m.
      ap (λ (items : List Item). record (with_labels numbers labels m) { items = items }) (map-append (renamed_item numbers) m.items (record { line = line; piece = Piece.Jump Op.Jmp 0 label } ∷ []));
}

pub jump_bind : {A : Type 0} {ask : Asks A} {rest : A → ℕ → Part} → SameAsks ask → ((x : A) → SameJump (rest x)) → SameJump (λ label. ask >>= λ x. rest x label)
jump_bind {A} {ask} {rest} a b = record {
  same = λ numbers labels label m.
      (b (ask m).value).same numbers labels label (ask m).after ∙ ap (λ (got : Got A). rest got.value (numbers label) got.after) (a.same numbers labels m);
}

pub jump_after : {part : Part} {jump : ℕ → Part} → SamePart part → SameJump jump → SameJump (λ label. part >> jump label)
jump_after {part} {jump} a b = record { same = λ numbers labels label m. b.same numbers labels label (part m) ∙ ap (jump (numbers label)) (a.same numbers labels m) }

pub jump_if_so : {jump : ℕ → Part} (b : Bool) → SameJump jump → SameJump (λ label. when b (jump label))
jump_if_so true p = p
jump_if_so false p = record { same = λ numbers labels label m. refl }

pub jump_freeing : {jump : ℕ → Part} → SameJump jump → SameJump (λ label. freeing (jump label))
jump_freeing p = record { same = λ numbers labels label m. ap (free_from m.free) (p.same numbers labels label m) }

-- ---- registers

pub same_take : (n : ℕ) → SamePart (take_registers n)
same_take n = record { same = λ numbers labels m. refl }

pub same_free_from : (register : ℕ) → SamePart (free_from register)
same_free_from register = record { same = λ numbers labels m. refl }

pub same_freeing : {part : Part} → SamePart part → SamePart (freeing part)
same_freeing p = record { same = λ numbers labels m. ap (free_from m.free) (p.same numbers labels m) }

-- ---- constants and names

pub same_constant : (c : Constant) → SameAsks (constant c)
same_constant c = record { same = λ numbers labels m. refl }

pub same_name : SameAsks name
same_name = record { same = λ numbers labels m. refl }

-- ---- locals

items_length : (numbers : ℕ → ℕ) (m : Maker) → length m.items ≡ length (map (renamed_item numbers) m.items)
items_length numbers m = sym (length-map m.items (renamed_item numbers))

pub same_declare : (texts : List Text) → SameAsks (declare texts)
same_declare texts = record { same = declared texts }
  where
    declared : (texts : List Text) (numbers : ℕ → ℕ) (labels : List ℕ) (m : Maker) → got_with_labels numbers labels (declare texts m) ≡ declare texts (with_labels numbers labels m)
    declared [] numbers labels m = refl
    declared (text ∷ texts) numbers labels m =
        let local : Local = record { name = text; declaration = Some m.ahead.declarations; captured = head_or false m.ahead.captures } in
        ap (λ (others : Got (List Local)). record { value = local ∷ others.value; after = others.after })
        (declared texts numbers labels (record m { ahead = record (m.ahead) { captures = drop 1 m.ahead.captures; declarations = suc m.ahead.declarations } }))

pub same_activate : (locals : List Local) → SamePart (activate locals)
same_activate locals = record { same = activated locals }
  where
    activated : (locals : List Local) (numbers : ℕ → ℕ) (labels : List ℕ) (m : Maker) → with_labels numbers labels (activate locals m) ≡ activate locals (with_labels numbers labels m)
    activated [] numbers labels m = refl
    activated (local ∷ locals) numbers labels m =
        activated locals numbers labels (record m {
          active = m.active ++ record { local = local; listed = length m.locals } ∷ [];
          locals = m.locals ++ record { name = local.name; start = length m.items; end = length m.items } ∷ [];
        })
        ∙ ap (λ (pc : ℕ). activate locals (record (with_labels numbers labels m) {
          active = m.active ++ record { local = local; listed = length m.locals } ∷ [];
          locals = m.locals ++ record { name = local.name; start = pc; end = pc } ∷ [];
        })) (items_length numbers m)

pub same_starts : (listed : ℕ) → SamePart (starts_here listed)
same_starts listed = record {
  same = λ numbers labels m.
      let text = (entry_at m.locals listed).name in
      ap (λ (pc : ℕ). record (with_labels numbers labels m) { locals = set m.locals listed (record { name = text; start = pc; end = pc }) }) (items_length numbers m);
}
