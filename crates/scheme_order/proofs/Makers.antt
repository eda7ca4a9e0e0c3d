-- Parts of the scheme that consume the names ahead in different orders, and make the same.
use Rattle.std.proofs.Common.{◌≡◌, ℕ, suc, Bool, true, false, cond, List, [], ◌∷◌, ◌++◌, length, drop, refl, ap, ◌∙◌, subst, append_assoc}
use Rattle.std.specs.Prelude.{Some}
use Rattle.lua_num.specs.Bytes.{Text}
use Rattle.lua_tree.specs.Scoping.{Use}
use Rattle.proto.specs.declared.parts.Constant.{Constant}
use Rattle.scheme.specs.Making.{Maker, Part, Got, Asks, ◌>>=◌, ◌>>◌, nothing, read, put, new_label, place, jump_to, take_registers, used, free_from, freeing, constant, head_or, pass_name, where_is, name, declare, activate, starts_here, end_locals, when}
use Rattle.scheme.specs.declared.making.Piece.{Piece}
use Rattle.scheme.specs.declared.making.Local.{Local}

-- ---- the names ahead

-- a maker with these names ahead
abbrev pub with_names : List Use → Maker → Maker
with_names names m = record m { ahead = record (m.ahead) { names = names } }

-- an answer whose maker has these names ahead
abbrev pub got_with : {A : Type 0} → List Use → Got A → Got A
got_with names got = record { value = got.value; after = with_names names got.after }

-- the names ahead of a part, by those ahead behind it
abbrev pub Names : Type 0
Names = List Use → List Use

-- a part consumes no name
abbrev pub no_names : Names
no_names rest = rest

-- it consumes one, which means this
abbrev pub one_name : Use → Names
one_name meant rest = meant ∷ rest

-- it consumes the names of one part, and then those of another
abbrev pub and_then : Names → Names → Names
and_then one more rest = one (more rest)

-- ---- parts that agree: from makers that differ in the names ahead, each ahead of its own, they make makers that differ in those alone; and which keep the active locals, if this is so

pub record Agree (keeps : Bool) (here there : Names) (part other : Part) : Type 0 where
  pub made : Part
  pub first : (m : Maker) (rest : List Use) → part (with_names (here rest) m) ≡ with_names rest (made m)
  pub second : (m : Maker) (rest : List Use) → other (with_names (there rest) m) ≡ with_names rest (made m)
  pub active : keeps ≡ true → (m : Maker) → (made m).active ≡ m.active

pub record AgreeAsks {A : Type 0} (keeps : Bool) (here there : Names) (ask other : Asks A) : Type 0 where
  pub made : Asks A
  pub first : (m : Maker) (rest : List Use) → ask (with_names (here rest) m) ≡ got_with rest (made m)
  pub second : (m : Maker) (rest : List Use) → other (with_names (there rest) m) ≡ got_with rest (made m)
  pub active : keeps ≡ true → (m : Maker) → ((made m).after).active ≡ m.active

-- a part is asked, and what goes on by its answer agrees
pub bind : {k : Bool} {here there more again : Names} {A : Type 0} {ask other : Asks A} {rest others : A → Part} → AgreeAsks k here there ask other →
    ((x : A) → Agree k more again (rest x) (others x)) →
    Agree k (and_then here more) (and_then there again) (ask >>= rest) (other >>= others)
bind {more = more} {again = again} {A = A} {rest = rest} {others = others} a b = record {
  made = λ m. (b (a.made m).value).made (a.made m).after;
  first = λ m names. ap (λ (got : Got A). rest got.value got.after) (a.first m (more names)) ∙ (b (a.made m).value).first (a.made m).after names;
  second = λ m names. ap (λ (got : Got A). others got.value got.after) (a.second m (again names)) ∙ (b (a.made m).value).second (a.made m).after names;
  active = λ e m. (b (a.made m).value).active e (a.made m).after ∙ a.active e m;
}

-- where something is known of the answer
pub bind_known : {k : Bool} {here there more again : Names} {A : Type 0} {ask other : Asks A} {rest others : A → Part} (P : A → Type 0) → AgreeAsks k here there ask other →
    ((m : Maker) → P (ask m).value) →
    ((x : A) → P x → Agree k more again (rest x) (others x)) → Agree k (and_then here more) (and_then there again) (ask >>= rest) (other >>= others)
bind_known {here = here} {more = more} {again = again} {A = A} {ask = ask} {rest = rest} {others = others} P a p b = record {
  made = λ m. (b (a.made m).value (known m)).made (a.made m).after;
  first = λ m names. ap (λ (got : Got A). rest got.value got.after) (a.first m (more names)) ∙ (b (a.made m).value (known m)).first (a.made m).after names;
  second = λ m names. ap (λ (got : Got A). others got.value got.after) (a.second m (again names)) ∙ (b (a.made m).value (known m)).second (a.made m).after names;
  active = λ e m. (b (a.made m).value (known m)).active e (a.made m).after ∙ a.active e m;
}
  where
    known : (m : Maker) → P (a.made m).value
    known m = subst P (ap (λ (got : Got A). got.value) (a.first m [])) (p (with_names (here []) m))

-- one part after another
infixl 20 ◌then◌
pub ◌then◌ : {k : Bool} {here there more again : Names} {one two other another : Part} → Agree k here there one other → Agree k more again two another →
    Agree k (and_then here more) (and_then there again) (one >> two) (other >> another)
◌then◌ {more = more} {again = again} {two = two} {another = another} a b = record {
  made = λ m. b.made (a.made m);
  first = λ m names. ap two (a.first m (more names)) ∙ b.first (a.made m) names;
  second = λ m names. ap another (a.second m (again names)) ∙ b.second (a.made m) names;
  active = λ e m. b.active e (a.made m) ∙ a.active e m;
}

-- where nothing is made
pub no_part : {k : Bool} → Agree k no_names no_names nothing nothing
no_part = record { made = nothing; first = λ m rest. refl; second = λ m rest. refl; active = λ e m. refl }

-- a part that consumes no names
steady : {k : Bool} (part : Part) → ((m : Maker) (rest : List Use) → part (with_names rest m) ≡ with_names rest (part m)) → (k ≡ true → (m : Maker) → (part m).active ≡ m.active) →
    Agree k no_names no_names part part
steady part e a = record { made = part; first = e; second = e; active = a }

-- what is asked and consumes no names
pub steady_asks : {A : Type 0} {k : Bool} (ask : Asks A) → ((m : Maker) (rest : List Use) → ask (with_names rest m) ≡ got_with rest (ask m)) →
    (k ≡ true → (m : Maker) → ((ask m).after).active ≡ m.active) →
    AgreeAsks k no_names no_names ask ask
steady_asks ask e a = record { made = ask; first = e; second = e; active = a }

-- where it need not keep them
pub loosely : {k : Bool} {here there : Names} {part other : Part} → Agree true here there part other → Agree k here there part other
loosely a = record { made = a.made; first = a.first; second = a.second; active = λ e. a.active refl }

-- the other way round
pub mirrored : {k : Bool} {here there : Names} {part other : Part} → Agree k here there part other → Agree k there here other part
mirrored a = record { made = a.made; first = a.second; second = a.first; active = a.active }

-- what is asked, the other way round
pub mirrored_asks : {A : Type 0} {k : Bool} {here there : Names} {ask other : Asks A} → AgreeAsks k here there ask other → AgreeAsks k there here other ask
mirrored_asks a = record { made = a.made; first = a.second; second = a.first; active = a.active }

-- ---- choices

-- by one test of both
pub either : {k : Bool} {here there : Names} {one two other another : Part} (b : Bool) → Agree k here there one other → Agree k here there two another →
    Agree k here there (cond b one two) (cond b other another)
either true p q = p
either false p q = q

-- what is asked, by one test of both
pub either_asks : {A : Type 0} {k : Bool} {here there : Names} {one two other another : Asks A} (b : Bool) → AgreeAsks k here there one other → AgreeAsks k here there two another →
    AgreeAsks k here there (cond b one two) (cond b other another)
either_asks true p q = p
either_asks false p q = q

-- what is chosen needs to agree only where it is chosen
pub chosen : {k : Bool} {here there : Names} {one two other another : Part} {b d : Bool} → b ≡ d → (b ≡ true → Agree k here there one other) → Agree k here there two another →
    Agree k here there (cond b one two) (cond d other another)
chosen {k} {here} {there} {one} {two} {other} {another} {b} e p q = subst (λ t. Agree k here there (cond b one two) (cond t other another)) e (alone b p)
  where
    alone : (b : Bool) → (b ≡ true → Agree k here there one other) → Agree k here there (cond b one two) (cond b other another)
    alone true p = p refl
    alone false p = q

-- a part that is made or not
pub if_so : {k : Bool} {one other : Part} (b : Bool) → Agree k no_names no_names one other → Agree k no_names no_names (when b one) (when b other)
if_so true p = p
if_so false p = no_part

-- ---- what is read

-- what does not depend on the names is read
pub same_read : {A : Type 0} {k : Bool} (of : Maker → A) → ((m : Maker) (rest : List Use) → of (with_names rest m) ≡ of m) → AgreeAsks k no_names no_names (read of) (read of)
same_read {A} of e = steady_asks (read of) (λ m rest. ap (λ (value : A). record { value = value; after = with_names rest m }) (e m rest)) (λ _ m. refl)

-- the next free register is read
pub same_free : {k : Bool} → AgreeAsks k no_names no_names (read (λ m. m.free)) (read (λ m. m.free))
same_free = same_read (λ m. m.free) (λ m rest. refl)

-- ---- words and labels

-- a word is put
pub same_put : {k : Bool} (line : ℕ) (piece : Piece) → Agree k no_names no_names (put line piece) (put line piece)
same_put line piece = steady (put line piece) (λ m rest. refl) (λ e m. refl)

-- words that are equal are put
pub put_equal : {k : Bool} {piece other : Piece} (line : ℕ) → piece ≡ other → Agree k no_names no_names (put line piece) (put line other)
put_equal {k} {piece} line e = subst (λ p. Agree k no_names no_names (put line piece) (put line p)) e (same_put line piece)

-- a label is made
pub same_label : {k : Bool} → AgreeAsks k no_names no_names new_label new_label
same_label = steady_asks new_label (λ m rest. refl) (λ e m. refl)

-- a label is placed
pub same_place : {k : Bool} (label : ℕ) → Agree k no_names no_names (place label) (place label)
same_place label = steady (place label) (λ m rest. refl) (λ e m. refl)

-- a jump is put
pub same_jump : {k : Bool} (line label : ℕ) → Agree k no_names no_names (jump_to line label) (jump_to line label)
same_jump line label = same_put line _

-- ---- registers

-- registers are taken
pub same_take : {k : Bool} (n : ℕ) → Agree k no_names no_names (take_registers n) (take_registers n)
same_take n = steady (take_registers n) (λ m rest. refl) (λ e m. refl)

-- registers count as used
pub same_used : {k : Bool} (n : ℕ) → Agree k no_names no_names (used n) (used n)
same_used n = steady (used n) (λ m rest. refl) (λ e m. refl)

-- registers are free from one on
pub same_free_from : {k : Bool} (register : ℕ) → Agree k no_names no_names (free_from register) (free_from register)
same_free_from register = steady (free_from register) (λ m rest. refl) (λ e m. refl)

-- registers that a part takes are free again
pub same_freeing : {k : Bool} {here there : Names} {part other : Part} → Agree k here there part other → Agree k here there (freeing part) (freeing other)
same_freeing p = bind same_free (λ free. p then same_free_from free)

-- ---- constants and names

-- a constant is taken
pub same_constant : {k : Bool} (c : Constant) → AgreeAsks k no_names no_names (constant c) (constant c)
same_constant c = steady_asks (constant c) (λ m rest. refl) (λ e m. refl)

-- a name is passed over
pub same_pass : {k : Bool} (meant : Use) → Agree k (one_name meant) (one_name meant) pass_name pass_name
same_pass meant = record { made = nothing; first = λ m rest. refl; second = λ m rest. refl; active = λ e m. refl }

-- a name is read
pub same_name : {k : Bool} (meant : Use) → AgreeAsks k (one_name meant) (one_name meant) name name
same_name meant = record { made = λ m. record { value = where_is meant m.active; after = m }; first = λ m rest. refl; second = λ m rest. refl; active = λ e m. refl }

-- ---- locals

-- names are declared
pub same_declare : {k : Bool} (texts : List Text) → AgreeAsks k no_names no_names (declare texts) (declare texts)
same_declare texts = steady_asks (declare texts) (declared texts) (λ e. kept texts)
  where
    declared : (texts : List Text) (m : Maker) (rest : List Use) → declare texts (with_names rest m) ≡ got_with rest (declare texts m)
    declared [] m rest = refl
    declared (text ∷ texts) m rest =
        let local : Local = record { name = text; declaration = Some m.ahead.declarations; captured = head_or false m.ahead.captures } in
        ap (λ (others : Got (List Local)). record { value = local ∷ others.value; after = others.after })
        (declared texts (record m { ahead = record (m.ahead) { captures = drop 1 m.ahead.captures; declarations = suc m.ahead.declarations } }) rest)

    kept : (texts : List Text) (m : Maker) → ((declare texts m).after).active ≡ m.active
    kept [] m = refl
    kept (text ∷ texts) m = kept texts (record m { ahead = record (m.ahead) { captures = drop 1 m.ahead.captures; declarations = suc m.ahead.declarations } })

-- where the active locals need not stay, nothing is to be shown of them
pub not_kept : {A : Type 0} → false ≡ true → A
not_kept e = cc

-- locals become active
pub same_activate : (locals : List Local) → Agree false no_names no_names (activate locals) (activate locals)
same_activate locals = steady (activate locals) (activated locals) not_kept
  where
    activated : (locals : List Local) (m : Maker) (rest : List Use) → activate locals (with_names rest m) ≡ with_names rest (activate locals m)
    activated [] m rest = refl
    activated (local ∷ locals) m rest =
        activated locals (record m {
          active = m.active ++ record { local = local; listed = length m.locals } ∷ [];
          locals = m.locals ++ record { name = local.name; start = length m.items; end = length m.items } ∷ [];
        }) rest

-- a local starts
pub same_starts : {k : Bool} (listed : ℕ) → Agree k no_names no_names (starts_here listed) (starts_here listed)
same_starts listed = steady (starts_here listed) (λ m rest. refl) (λ e m. refl)

-- locals end
pub same_end : (n : ℕ) → Agree false no_names no_names (end_locals n) (end_locals n)
same_end n = steady (end_locals n) (λ m rest. refl) not_kept

-- ---- names as lists

-- these names, and what is behind them
abbrev pub uses : List Use → Names
uses names rest = names ++ rest

-- the names of a whole are those of its two parts
pub uses_joined : {names : List Use} (one more : List Use) → names ≡ one ++ more → uses names ≡ and_then (uses one) (uses more)
uses_joined one more e = λ i rest. (ap (λ names. names ++ rest) e ∙ append_assoc one more rest) i
