-- What the steps of the scheme make is, with every line 1, what they make on line 1.
use Rattle.std.proofs.Common.{◌≡◌, ℕ, suc, Bool, true, false, cond, List, [], ◌∷◌, ◌++◌, length, map, take, drop, set, refl, sym, ap, ◌∙◌}
use Rattle.std.proofs.lemmas.List.{length-map, map-append}
use Rattle.std.specs.Prelude.{Some}
use Rattle.lua_num.specs.Bytes.{Text}
use Rattle.proto.specs.Chunk.{Own, Chunk, each}
use Rattle.proto.specs.declared.parts.Constant.{Constant}
use Rattle.scheme.specs.Making.{Misfit, too_many_registers, too_many_constants, jump_too_far, too_many_functions, Maker, Part, Got, Asks, ◌>>=◌, ◌>>◌, nothing, answer, read, put, new_label, place, jump_to, take_registers, used, free_from, freeing, constant, head_or, pass_name, name, declare, activate, entry_at, starts_here, end_all, end_locals, when}
use Rattle.scheme.specs.declared.making.Piece.{Piece}
use Rattle.scheme.specs.declared.making.Item.{Item}
use Rattle.scheme.specs.declared.making.Local.{Local}

abbrev pub one_line_item : Item → Item
one_line_item item = record { line = 1; piece = item.piece }

abbrev pub one_line_own : Own → Own
one_line_own f = record f { line_defined = 1; last_line = 1; lines = map (λ line. 1) f.lines }

abbrev pub one_line_chunk : Chunk → Chunk
one_line_chunk c = each one_line_own c

abbrev pub one_line_misfit : Misfit → Misfit
one_line_misfit (too_many_registers line reached) = too_many_registers 1 reached
one_line_misfit (too_many_constants line reached) = too_many_constants 1 reached
one_line_misfit (jump_too_far line reached) = jump_too_far 1 reached
one_line_misfit (too_many_functions line reached) = too_many_functions 1 reached

abbrev pub one_line : Maker → Maker
one_line m = record m { items = map one_line_item m.items; functions = map one_line_chunk m.functions; misfits = map one_line_misfit m.misfits }

abbrev pub one_line_got : {A : Type 0} → Got A → Got A
one_line_got got = record { value = got.value; after = one_line got.after }

-- ---- parts that make the same but for lines, the second with every line 1

pub record SamePart (part other : Part) : Type 0 where
  pub same : (m : Maker) → one_line (part m) ≡ other (one_line m)

pub record SameAsks {A : Type 0} (ask other : Asks A) : Type 0 where
  pub same : (m : Maker) → one_line_got (ask m) ≡ other (one_line m)

pub bind : {A : Type 0} {ask other : Asks A} {rest others : A → Part} → SameAsks ask other → ((x : A) → SamePart (rest x) (others x)) → SamePart (ask >>= rest) (other >>= others)
bind {A} {ask} {other} {rest} {others} a b = record { same = λ m. (b (ask m).value).same (ask m).after ∙ ap (λ (got : Got A). others got.value got.after) (a.same m) }

infixl 20 ◌then◌
pub ◌then◌ : {one two other more : Part} → SamePart one other → SamePart two more → SamePart (one >> two) (other >> more)
◌then◌ {one} {two} {other} {more} a b = record { same = λ m. b.same (one m) ∙ ap more (a.same m) }

pub no_part : SamePart nothing nothing
no_part = record { same = λ m. refl }

pub either : {one two other more : Part} (b : Bool) → SamePart one other → SamePart two more → SamePart (cond b one two) (cond b other more)
either true p q = p
either false p q = q

-- the second by a value that is equal
pub for_equal : {A : Type 0} {part : Part} {a b : A} (other : A → Part) → a ≡ b → SamePart part (other a) → SamePart part (other b)
for_equal other e p = record { same = λ m. p.same m ∙ ap (λ x. other x (one_line m)) e }

pub asks_for_equal : {A B : Type 0} {ask : Asks B} {a b : A} (other : A → Asks B) → a ≡ b → SameAsks ask (other a) → SameAsks ask (other b)
asks_for_equal other e p = record { same = λ m. p.same m ∙ ap (λ x. other x (one_line m)) e }

pub chosen : {one two other more : Part} {b d : Bool} → b ≡ d → SamePart one other → SamePart two more → SamePart (cond b one two) (cond d other more)
chosen {other = other} {more = more} {b = b} e p q = for_equal (λ t. cond t other more) e (either b p q)

pub either_asks : {A : Type 0} {one two other more : Asks A} (b : Bool) → SameAsks one other → SameAsks two more → SameAsks (cond b one two) (cond b other more)
either_asks true p q = p
either_asks false p q = q

pub if_so : {one other : Part} (b : Bool) → SamePart one other → SamePart (when b one) (when b other)
if_so true p = p
if_so false p = no_part

pub same_answer : {A : Type 0} (value : A) → SameAsks (answer value) (answer value)
same_answer value = record { same = λ m. refl }

pub same_read : {A : Type 0} (of : Maker → A) → ((m : Maker) → of m ≡ of (one_line m)) → SameAsks (read of) (read of)
same_read {A} of e = record { same = λ m. ap (λ (value : A). record { value = value; after = one_line m }) (e m) }

pub same_free : SameAsks (read (λ m. m.free)) (read (λ m. m.free))
same_free = same_read (λ m. m.free) (λ m. refl)

-- ---- words and labels

items_length : (m : Maker) → length m.items ≡ length (map one_line_item m.items)
items_length m = sym (length-map m.items one_line_item)

pub same_put : (line : ℕ) (piece : Piece) → SamePart (put line piece) (put 1 piece)
same_put line piece = record { same = λ m. ap (λ (items : List Item). record (one_line m) { items = items }) (map-append one_line_item m.items (record { line = line; piece = piece } ∷ [])) }

pub put_equal : {piece other : Piece} (line : ℕ) → piece ≡ other → SamePart (put line piece) (put 1 other)
put_equal {piece} line e = for_equal (put 1) e (same_put line piece)

pub same_label : SameAsks new_label new_label
same_label = record { same = λ m. refl }

pub same_place : (label : ℕ) → SamePart (place label) (place label)
same_place label = record { same = λ m. ap (λ (pc : ℕ). record (one_line m) { labels = set m.labels label pc }) (items_length m) }

pub same_jump : (line label : ℕ) → SamePart (jump_to line label) (jump_to 1 label)
same_jump line label = same_put line _

-- ---- registers

pub same_take : (n : ℕ) → SamePart (take_registers n) (take_registers n)
same_take n = record { same = λ m. refl }

pub same_used : (n : ℕ) → SamePart (used n) (used n)
same_used n = record { same = λ m. refl }

pub same_free_from : (register : ℕ) → SamePart (free_from register) (free_from register)
same_free_from register = record { same = λ m. refl }

pub same_freeing : {part other : Part} → SamePart part other → SamePart (freeing part) (freeing other)
same_freeing p = record { same = λ m. ap (free_from m.free) (p.same m) }

-- ---- constants and names

pub same_constant : (c : Constant) → SameAsks (constant c) (constant c)
same_constant c = record { same = λ m. refl }

pub same_pass : SamePart pass_name pass_name
same_pass = record { same = λ m. refl }

pub same_name : SameAsks name name
same_name = record { same = λ m. refl }

-- ---- locals

pub same_declare : (texts : List Text) → SameAsks (declare texts) (declare texts)
same_declare texts = record { same = declared texts }
  where
    declared : (texts : List Text) (m : Maker) → one_line_got (declare texts m) ≡ declare texts (one_line m)
    declared [] m = refl
    declared (text ∷ texts) m =
        let local : Local = record { name = text; declaration = Some m.ahead.declarations; captured = head_or false m.ahead.captures } in
        ap (λ (others : Got (List Local)). record { value = local ∷ others.value; after = others.after })
        (declared texts (record m { ahead = record (m.ahead) { captures = drop 1 m.ahead.captures; declarations = suc m.ahead.declarations } }))

pub same_activate : (locals : List Local) → SamePart (activate locals) (activate locals)
same_activate locals = record { same = activated locals }
  where
    activated : (locals : List Local) (m : Maker) → one_line (activate locals m) ≡ activate locals (one_line m)
    activated [] m = refl
    activated (local ∷ locals) m =
        activated locals (record m {
          active = m.active ++ record { local = local; listed = length m.locals } ∷ [];
          locals = m.locals ++ record { name = local.name; start = length m.items; end = length m.items } ∷ [];
        })
        ∙ ap (λ (pc : ℕ). activate locals (record (one_line m) {
          active = m.active ++ record { local = local; listed = length m.locals } ∷ [];
          locals = m.locals ++ record { name = local.name; start = pc; end = pc } ∷ [];
        })) (items_length m)

pub same_starts : (listed : ℕ) → SamePart (starts_here listed) (starts_here listed)
same_starts listed = record {
  same = λ m.
      let text = (entry_at m.locals listed).name in
      ap (λ (pc : ℕ). record (one_line m) { locals = set m.locals listed (record { name = text; start = pc; end = pc }) }) (items_length m);
}

pub same_end : (n : ℕ) → SamePart (end_locals n) (end_locals n)
same_end n = record { same = λ m. ap (λ (pc : ℕ). record (one_line m) { active = take n m.active; locals = end_all pc (drop n m.active) m.locals }) (items_length m) }
