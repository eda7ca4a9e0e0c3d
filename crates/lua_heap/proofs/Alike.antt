-- Raw equality of values is that of what they stand for, where no two texts are alike.
use Rattle.std.proofs.Common.{◌≡◌, ℕ, zero, suc, Bool, true, false, ◌<◌, List, [], ◌∷◌, length, get_or, nat_eq, refl, sym, ap, ◌∙◌, arith, true≢false}
use Rattle.std.specs.List.{IsDistinct, AllByRecursion}
use Rattle.std.specs.Cmp.Lexicographic.{bytes_decides}
use Rattle.std.specs.Str.{bytes_eq}
use Rattle.std.proofs.lemmas.Bool.{eqb-true}
use Rattle.std.proofs.lemmas.List.Elements.{All-from_recursion, All-head, All-tail}
use Rattle.lua_num.specs.Bytes.{Text}
use Rattle.lua_model.specs.declared.Value.{Value}
use Rattle.lua_model.specs.declared.Value.TheVariants.{Nil, Bool as Boolean, Number, Text as TextValue, Table, Closure, Native, Host}
use Rattle.lua_model.specs.Datum.{nil, is_nil, raw_equal}
use Rattle.lua_model.specs.Value.{same_value}
use Rattle.lua_table.specs.Entries.{Entries, is_nil_value}
use Rattle.string_pool.specs.Texts.{TextsDiffer}
use Rattle.lua_heap.specs.State.{HeapState, datum, datum_in, IsOf, ArePairsOf}
use Rattle.lua_heap.proofs.Mapped as mapped

differs : (x : Text) (xs : List Text) (j : ℕ) → AllByRecursion (λ y. bytes_eq x y ≡ false) xs → j < length xs → bytes_eq x (get_or xs j []) ≡ false
differs x xs j h l = All-from_recursion (λ y. bytes_eq x y ≡ false) xs h j [] l

swap : (a b : Text) → bytes_eq a b ≡ true → bytes_eq b a ≡ true
swap a b e = (bytes_decides b a).1 (sym ((bytes_decides a b).0 e))

apart : (texts : List Text) (i j : ℕ) → TextsDiffer texts → i < length texts → j < length texts → bytes_eq (get_or texts i []) (get_or texts j []) ≡ true → i ≡ j
unfolding IsDistinct
apart [] i j d l m e = absurd (omega arith)
apart (x ∷ xs) zero zero d l m e = refl
apart (x ∷ xs) zero (suc j) d l m e = absurd (true≢false (sym e ∙ differs x xs j d.0 (omega arith)))
apart (x ∷ xs) (suc i) zero d l m e = absurd (true≢false (sym (swap (get_or xs i []) x e) ∙ differs x xs i d.0 (omega arith)))
apart (x ∷ xs) (suc i) (suc j) d l m e = ap suc (apart xs i j d.1 (omega arith) (omega arith) e)

same_bool : (a b : Bool) → (a ≡ true → b ≡ true) → (b ≡ true → a ≡ true) → a ≡ b
same_bool true b f g = sym (f refl)
same_bool false true f g = g refl
same_bool false false f g = refl

itself : (n : ℕ) → nat_eq n n ≡ true
itself n = grind arith

pub same_text : (texts : List Text) (i j : ℕ) → TextsDiffer texts → i < length texts → j < length texts → bytes_eq (get_or texts i []) (get_or texts j []) ≡ nat_eq i j
same_text texts i j d l m = same_bool _ _ (λ e. ap (nat_eq i) (sym (apart texts i j d l m e)) ∙ itself i) (λ e. (bytes_decides _ _).1 (ap (λ k. get_or texts k []) (eqb-true i j e)))

pub same_datum : (s : HeapState) → TextsDiffer s.texts → (v w : Value) → IsOf s v → IsOf s w → raw_equal (datum s v) (datum s w) ≡ same_value v w
same_datum s d (TextValue t) (TextValue u) l m = same_text s.texts t.index u.index d l m
same_datum s d Nil Nil l m = refl
same_datum s d (Boolean a) (Boolean b) l m = refl
same_datum s d (Number a) (Number b) l m = refl
same_datum s d (Table a) (Table b) l m = refl
same_datum s d (Closure a) (Closure b) l m = refl
same_datum s d (Native a) (Native b) l m = refl
same_datum s d (Host a) (Host b) l m = refl
same_datum s d _ _ l m = refl

pub nil_datum : (texts : List Text) (v : Value) → is_nil (datum_in texts v) ≡ is_nil_value v
nil_datum texts Nil = refl
nil_datum texts (Boolean b) = refl
nil_datum texts (Number n) = refl
nil_datum texts (TextValue t) = refl
nil_datum texts (Table t) = refl
nil_datum texts (Closure c) = refl
nil_datum texts (Native n) = refl
nil_datum texts (Host k) = refl

-- a key is equal to those of pairs as what it stands for is
pub alike : (s : HeapState) → TextsDiffer s.texts → (k : Value) → IsOf s k → (ps : Entries) → ArePairsOf s ps → mapped.Alike same_value Nil is_nil_value raw_equal nil is_nil (datum_in s.texts) (datum_in s.texts) refl (nil_datum s.texts) ps k
alike s d k l [] h = tt
alike s d k l (p ∷ ps) h = (same_datum s d k p.0 l (All-head (λ q. IsOf s q.0 × IsOf s q.1) p ps h).0, alike s d k l ps (All-tail (λ q. IsOf s q.0 × IsOf s q.1) p ps h))
