-- What the names of a function find at a place: what the scope there says, by the active locals, the names around and those of the
-- upvalues; and each local is marked as the whole source says.
use Rattle.std.proofs.Common.{◌≡◌, ◌<◌, ◌⊎◌, inl, inr, ℕ, zero, suc, ◌+◌, Bool, true, false, ◌||◌, ◌&&◌, List, [], ◌∷◌, ◌++◌, length, map, refl, sym, ap, ◌∙◌, subst, arith}
use Rattle.std.specs.Prelude.{Option, Some, None, ◌==◌, slice_get, is_some, if◌then◌else◌}
use Rattle.std.specs.Str.{bytes_eq}
use Rattle.std.proofs.lemmas.Slice.Eq.{bytes_eq-Decides}
use Rattle.std.proofs.lemmas.Bool.{eq-eqb}
use Rattle.lua_num.specs.Bytes.{Text}
use Rattle.lua_tree.specs.Outline.{Binding, Scope, Mark, Place, innermost, with_name, with_names, in_function, beginning}
use Rattle.lua_tree.specs.Scoping.{Use, slot_of, upvalues_of, is_captured}
use Rattle.scheme.specs.Making.{Where, where_is}
use Rattle.scheme.specs.declared.making.Active.{Active}
use Rattle.scheme.specs.declared.making.Local.{Local}
use Rattle.scheme_stands.specs.Words.{Names, onto, is_named, register_in, own_register, is_among, names_in, MeansBy, CapturedBy, IsCaptured, is_marked}
use Rattle.scheme_stands.specs.Functions.{Activated}
use Rattle.scheme_stands.specs.Placed.{AroundAt, FindsBy, FindsIn, NamedAt, NamedBy, OwnAt, names_of_seen}
use Rattle.scheme_stands.specs.Places.{locals_from, ActiveAt, ScopeAt, UpvalueAt, NameIs, own, upvalue, nothing_is, CaptureIs, own_local, own_upvalue, CapturesAre}
use Rattle.scheme_stands.proofs.Growth.{kept_end, at_end}
use Rattle.scheme_stands.proofs.Locals.{AllHidden, end_cases}
use Rattle.scheme_stands.proofs.Upvalues.{AllBindings, upvalues_captured}

-- ---- the innermost local with a name

onto_snoc : {A : Type 0} (xs : List A) (y : A) (zs : List A) → onto (xs ++ y ∷ []) zs ≡ y ∷ onto xs zs
onto_snoc [] y zs = refl
onto_snoc (x ∷ xs) y zs = onto_snoc xs y (x ∷ zs)

pub onto_length : {A : Type 0} (xs zs : List A) → length (onto xs zs) ≡ length xs + length zs
onto_length [] zs = let e : length zs ≡ 0 + length zs = omega arith in e
onto_length (x ∷ xs) zs = onto_length xs (x ∷ zs) ∙ (let e : length xs + suc (length zs) ≡ suc (length xs) + length zs = omega arith in e)

own_snoc : (name : Text) (active : List Active) (x : Active) → own_register name (active ++ x ∷ []) ≡ (if is_named name x then Some (length active) else own_register name active)
own_snoc name active x =
    ap (register_in name) (onto_snoc active x [])
    ∙ ap (λ k. if is_named name x then Some k else register_in name (onto active [])) (onto_length active [] ∙ (let e : length active + 0 ≡ length active = omega arith in e))

bytes_flip : (a b : Text) → bytes_eq a b ≡ bytes_eq b a
bytes_flip a b = by (bytes_eq a b) (bytes_eq b a) refl refl
  where
    by : (s t : Bool) → bytes_eq a b ≡ s → bytes_eq b a ≡ t → s ≡ t
    by true true e f = refl
    by false false e f = refl
    by true false e f = let q : true ≡ false = sym ((bytes_eq-Decides b a).1 (sym ((bytes_eq-Decides a b).0 e))) ∙ f in q
    by false true e f = let q : true ≡ false = sym ((bytes_eq-Decides a b).1 (sym ((bytes_eq-Decides b a).0 f))) ∙ e in sym q

same_text : (a b : Text) → bytes_eq a b ≡ true → a ≡ b
same_text a b e = (bytes_eq-Decides a b).0 e

-- ---- what is found

-- with one local more that has another name, or none
more_finds : (all : List Mark) (home : ℕ) (n : Names) (active : List Active) (x : Active) (name : Text) → is_named name x ≡ false → (o : Option Binding) → FindsBy all home n active name o → FindsBy all home n (active ++ x ∷ []) name o
more_finds all home n active x name e None h = (own_snoc name active x ∙ ap (λ t. if t then Some (length active) else own_register name active) e ∙ h.0, h.1)
more_finds all home n active x name e (Some b) h = by (b.home == home) h
  where
    same : own_register name (active ++ x ∷ []) ≡ own_register name active
    same = own_snoc name active x ∙ ap (λ t. if t then Some (length active) else own_register name active) e

    by : (t : Bool) → FindsIn all home n active name b t → FindsIn all home n (active ++ x ∷ []) name b t
    by true h = record { register = h.register; is = same ∙ h.is; one = h.one; there = kept_end active (x ∷ []) h.register h.one h.there; declaration = h.declaration }
    by false h = record { none = same ∙ h.none; among = h.among; slot = h.slot }

named_hides : (all : List Mark) (home : ℕ) (n : Names) (active : List Active) (scope : Scope) (x : Active) → x.local.declaration ≡ None → NamedBy all home n active scope → NamedBy all home n (active ++ x ∷ []) scope
named_hides all home n active scope x e h = record { finds = λ name. more_finds all home n active x name (ap (λ d. is_some d && bytes_eq name x.local.name) e) (scope name) (h.finds name); apart = h.apart; marked = λ r y d k m. more (end_cases active x y r k) d m }
  where
    more : {r : ℕ} {y : Active} → (slice_get active r ≡ Some y) ⊎ ((r ≡ length active) × (y ≡ x)) → (d : ℕ) → y.local.declaration ≡ Some d → y.local.captured ≡ is_captured d all
    more {r} {y} (inl k) d m = h.marked r y d k m
    more {r} {y} (inr k) d m = let no : None ≡ Some d = sym e ∙ sym (ap (λ (z : Active). z.local.declaration) k.1) ∙ m in cc

named_declares : (all : List Mark) (home number : ℕ) (n : Names) (active : List Active) (scope : Scope) (name : Text) (x : Active) → x.local.name ≡ name → x.local.declaration ≡ Some number → x.local.captured ≡ is_captured number all → ((other : Text) (b : Binding) → scope other ≡ Some b → b.declaration < number) →
    NamedBy all home n active scope → NamedBy all home n (active ++ x ∷ []) (with_name name (record { declaration = number; home = home }) scope)
named_declares all home number n active scope name x en ed ec low h = record {
  finds = λ other. finds other (bytes_eq name other) refl;
  apart = λ a b u v. apart a b u v (bytes_eq name a) (bytes_eq name b) refl refl;
  marked = λ r y d k m. marked (end_cases active x y r k) d m;
}
  where
    marked : {r : ℕ} {y : Active} → (slice_get active r ≡ Some y) ⊎ ((r ≡ length active) × (y ≡ x)) → (d : ℕ) → y.local.declaration ≡ Some d → y.local.captured ≡ is_captured d all
    marked {r} {y} (inl k) d m = h.marked r y d k m
    marked {r} {y} (inr k) d m =
        let numbers : Some number ≡ Some d = sym ed ∙ sym (ap (λ (z : Active). z.local.declaration) k.1) ∙ m in
        let same : number ≡ d = cc in
        ap (λ (z : Active). z.local.captured) k.1 ∙ ec ∙ ap (λ c. is_captured c all) same

    new : Binding
    new = record { declaration = number; home = home }

    named_is : (other : Text) (t : Bool) → bytes_eq name other ≡ t → is_named other x ≡ t
    named_is other t e = ap (λ d. is_some d && bytes_eq other x.local.name) ed ∙ ap (bytes_eq other) en ∙ bytes_flip other name ∙ e

    finds : (other : Text) (t : Bool) → bytes_eq name other ≡ t → FindsBy all home n (active ++ x ∷ []) other (if bytes_eq name other then Some new else scope other)
    finds other true e =
        subst (λ t. FindsBy all home n (active ++ x ∷ []) other (if t then Some new else scope other)) (sym e)
        (subst (FindsIn all home n (active ++ x ∷ []) other new) (sym (eq-eqb home home refl))
        (record { register = length active; is = own_snoc other active x ∙ ap (λ t. if t then Some (length active) else own_register other active) (named_is other true e); one = x; there = at_end active x; declaration = ed }))
    finds other false e =
        subst (λ t. FindsBy all home n (active ++ x ∷ []) other (if t then Some new else scope other)) (sym e)
        (more_finds all home n active x other (named_is other false e) (scope other) (h.finds other))

    number_of : (u : Binding) → Some new ≡ Some u → number ≡ u.declaration
    number_of u e = let same : new ≡ u = cc in ap (λ (y : Binding). y.declaration) same

    apart : (a b : Text) (u v : Binding) (s t : Bool) → bytes_eq name a ≡ s → bytes_eq name b ≡ t → with_name name new scope a ≡ Some u → with_name name new scope b ≡ Some v → u.declaration ≡ v.declaration → a ≡ b
    apart a b u v true true e f p q same = sym (same_text name a e) ∙ same_text name b f
    apart a b u v true false e f p q same =
        let p1 : Some new ≡ Some u = sym (ap (λ t. if t then Some new else scope a) e) ∙ p in
        let q1 : scope b ≡ Some v = sym (ap (λ t. if t then Some new else scope b) f) ∙ q in
        let l = low b v q1 in
        let i : number ≡ u.declaration = number_of u p1 in
        absurd (omega (arith, l, i, same))
    apart a b u v false true e f p q same =
        let p1 : scope a ≡ Some u = sym (ap (λ t. if t then Some new else scope a) e) ∙ p in
        let q1 : Some new ≡ Some v = sym (ap (λ t. if t then Some new else scope b) f) ∙ q in
        let l = low a u p1 in
        let i : number ≡ v.declaration = number_of v q1 in
        absurd (omega (arith, l, i, same))
    apart a b u v false false e f p q same =
        h.apart a b u v (sym (ap (λ t. if t then Some new else scope a) e) ∙ p) (sym (ap (λ t. if t then Some new else scope b) f) ∙ q) same

-- ---- locals that become active

pub named_hidden : (all : List Mark) (home : ℕ) (n : Names) (locals : List Local) (active after : List Active) (scope : Scope) → AllHidden locals → Activated locals active after → NamedBy all home n active scope → NamedBy all home n after scope
named_hidden all home n [] active after scope h t g = subst (λ l. NamedBy all home n l scope) (sym t) g
named_hidden all home n (one ∷ locals) active after scope h t g =
    named_hidden all home n locals (active ++ t.0 ∷ []) after scope h.1 t.2 (named_hides all home n active scope t.0 (ap (λ (l : Local). l.declaration) t.1 ∙ h.0) g)

abbrev pub Low : Scope → ℕ → Type 0
Low scope number = (other : Text) (b : Binding) → scope other ≡ Some b → b.declaration < number

low_declares : (scope : Scope) (name : Text) (number home : ℕ) → Low scope number → Low (with_name name (record { declaration = number; home = home }) scope) (suc number)
low_declares scope name number home low other b h = by (bytes_eq name other) h
  where
    by : (t : Bool) → (if t then Some (record { declaration = number; home = home }) else scope other) ≡ Some b → b.declaration < suc number
    by true q = let same : record { declaration = number; home = home } ≡ b = cc in let e : number ≡ b.declaration = ap (λ (y : Binding). y.declaration) same in omega (arith, e)
    by false q = let l = low other b q in omega (arith, l)

pub named_locals : (all : List Mark) (home number : ℕ) (n : Names) (names : List Text) (active after : List Active) (scope : Scope) → Low scope number → Activated (locals_from all number names) active after → NamedBy all home n active scope → NamedBy all home n after (with_names names number home scope)
named_locals all home number n [] active after scope low t g = subst (λ l. NamedBy all home n l scope) (sym t) g
named_locals all home number n (name ∷ names) active after scope low t g =
    named_locals all home (suc number) n names (active ++ t.0 ∷ []) after (with_name name (record { declaration = number; home = home }) scope) (low_declares scope name number home low) t.2
    (named_declares all home number n active scope name t.0 (ap (λ (l : Local). l.name) t.1) (ap (λ (l : Local). l.declaration) t.1) (ap (λ (l : Local). l.captured) t.1) low g)

-- ---- what a name means

own_at : (all : List Mark) (place : Place) (active : List Active) (n : Names) (name : Text) (b : Binding) (r : ℕ) (x : Active) → ActiveAt place active → NamedAt all place active n → place.scope name ≡ Some b → b.home ≡ innermost place.around → slice_get active r ≡ Some x → x.local.declaration ≡ Some b.declaration → own_register name active ≡ Some r
own_at all place active n name b r x a g s h there d =
    let f : FindsIn all (innermost place.around) n active name b (b.home == innermost place.around) = subst (FindsBy all (innermost place.around) n active name) s (g.finds name) in
    let o : OwnAt active name b.declaration = subst (FindsIn all (innermost place.around) n active name b) (eq-eqb b.home (innermost place.around) h) f in
    o.is ∙ ap Some (same o.register o.one o.there o.declaration)
  where
    same : (i : ℕ) (y : Active) → slice_get active i ≡ Some y → y.local.declaration ≡ Some b.declaration → i ≡ r
    same i y hy dy =
        let u : i < r → ⊥ = λ l. (let k = a.order i r y x b.declaration b.declaration l hy there dy d in absurd (omega (arith, k))) in
        let v : r < i → ⊥ = λ l. (let k = a.order r i x y b.declaration b.declaration l there hy d dy in absurd (omega (arith, k))) in
        omega (arith, u, v)

around_at : (all : List Mark) (place : Place) (active : List Active) (n : Names) (name : Text) (b : Binding) → NamedAt all place active n → place.scope name ≡ Some b → (b.home == innermost place.around) ≡ false → AroundAt all (innermost place.around) n active name b
around_at all place active n name b g s h =
    let f : FindsIn all (innermost place.around) n active name b (b.home == innermost place.around) = subst (FindsBy all (innermost place.around) n active name) s (g.finds name) in
    subst (FindsIn all (innermost place.around) n active name b) h f

-- the law: at a name
pub name_means : (all : List Mark) (place : Place) (active : List Active) (n : Names) (name : Text) (w : Where) → ActiveAt place active → NamedAt all place active n → NameIs all place name active w → MeansBy n active name w
name_means all place active n name w a g (own b r x s h there d e) = subst (MeansBy n active name) (sym e) (own_at all place active n name b r x a g s h there d)
name_means all place active n name w a g (upvalue b s h u e) = let k = around_at all place active n name b g s h in subst (MeansBy n active name) (sym e) (k.none, k.slot u)
name_means all place active n name w a g (nothing_is s e) = subst (MeansBy n active name) (sym e) (subst (FindsBy all (innermost place.around) n active name) s (g.finds name))

marks_at : (active : List Active) (r : ℕ) (x : Active) → slice_get active r ≡ Some x → slice_get (map is_marked active) r ≡ Some x.local.captured
marks_at [] r x h = cc
marks_at (y ∷ active) zero x h = let same : y ≡ x = cc in ap (λ (z : Active). Some z.local.captured) same
marks_at (y ∷ active) (suc r) x h = marks_at active r x h

capture_means : (all : List Mark) (place : Place) (active : List Active) (n : Names) (name : Text) (b : Binding) (w : Where) → is_captured b.declaration all ≡ true → ActiveAt place active → NamedAt all place active n → place.scope name ≡ Some b → CaptureIs all place active b w → IsCaptured n active name w
capture_means all place active n name b w c a g s (own_local r x h there d e) = subst (IsCaptured n active name) (sym e) (own_at all place active n name b r x a g s h there d, marks_at active r x there ∙ ap Some (g.marked r x b.declaration there d ∙ c))
capture_means all place active n name b w c a g s (own_upvalue h u e) = let k = around_at all place active n name b g s h in subst (IsCaptured n active name) (sym e) (k.none, k.slot u)

captures_mean : (all : List Mark) (place : Place) (active : List Active) (n : Names) (bs : List Binding) (uses : List Use) → AllBindings (λ b. is_captured b.declaration all ≡ true) bs → ActiveAt place active → NamedAt all place active n → (c : CapturesAre all place active bs uses) → CapturedBy n active (names_of_seen all place active bs uses c) uses
captures_mean all place active n [] uses k a g c = subst (CapturedBy n active []) (sym c) tt
captures_mean all place active n (b ∷ bs) uses k a g c =
    let rest = captures_mean all place active n bs c.1 k.1 a g c.5 in
    subst (CapturedBy n active (c.3.0 ∷ names_of_seen all place active bs c.1 c.5)) (sym c.2) (capture_means all place active n c.3.0 b (where_is c.0 active) k.0 a g c.3.1 c.4, rest)

pub closure_captures : (all : List Mark) (place : Place) (active : List Active) (n : Names) (uses : List Use) → ActiveAt place active → NamedAt all place active n → (c : CapturesAre all place active (upvalues_of place.functions all) uses) → CapturedBy n active (names_of_seen all place active (upvalues_of place.functions all) uses c) uses
closure_captures all place active n uses a g c = captures_mean all place active n (upvalues_of place.functions all) uses (upvalues_captured all place.functions) a g c

pub seen_length : (all : List Mark) (place : Place) (active : List Active) (bs : List Binding) (uses : List Use) (c : CapturesAre all place active bs uses) → length (names_of_seen all place active bs uses c) ≡ length bs
seen_length all place active [] uses c = refl
seen_length all place active (b ∷ bs) uses c = ap suc (seen_length all place active bs c.1 c.5)

-- ---- where a function begins

-- its upvalues' names, in their order
names_seen : (all : List Mark) (place : Place) (active : List Active) (bs : List Binding) (uses : List Use) (c : CapturesAre all place active bs uses) (i : ℕ) (b : Binding) → slice_get bs i ≡ Some b → (name : Text) × (slice_get (names_of_seen all place active bs uses c) i ≡ Some name) × (place.scope name ≡ Some b)
names_seen all place active [] uses c i b e = cc
names_seen all place active (x ∷ bs) uses c zero b e = let same : x ≡ b = cc in (c.3.0, refl, c.3.1 ∙ ap Some same)
names_seen all place active (x ∷ bs) uses c (suc i) b e = names_seen all place active bs c.1 c.5 i b e

among_app : (name : Text) (xs ys : List Text) → is_among name (xs ++ ys) ≡ is_among name xs || is_among name ys
among_app name [] ys = refl
among_app name (x ∷ xs) ys = by (bytes_eq name x) (among_app name xs ys)
  where
    by : (t : Bool) → is_among name (xs ++ ys) ≡ is_among name xs || is_among name ys → t || is_among name (xs ++ ys) ≡ (t || is_among name xs) || is_among name ys
    by true h = refl
    by false h = h

register_among_names : (name : Text) (xs : List Active) → is_among name (names_in xs) ≡ is_some (register_in name xs)
register_among_names name [] = refl
register_among_names name (x ∷ xs) = by (is_some x.local.declaration) (register_among_names name xs)
  where
    named : (t : Bool) → is_among name (names_in xs) ≡ is_some (register_in name xs) → t || is_among name (names_in xs) ≡ is_some (if t then Some (length xs) else register_in name xs)
    named true h = refl
    named false h = h

    by : (d : Bool) → is_among name (names_in xs) ≡ is_some (register_in name xs) → is_among name (if d then x.local.name ∷ names_in xs else names_in xs) ≡ is_some (if d && bytes_eq name x.local.name then Some (length xs) else register_in name xs)
    by true h = named (bytes_eq name x.local.name) h
    by false h = h

-- in a function that is opened nothing is its own yet, and what was in scope is around
pub named_enters : (all : List Mark) (vararg : Bool) (place : Place) (active : List Active) (n : Names) (uses : List Use) → ScopeAt place → ((name : Text) (b : Binding) → place.scope name ≡ Some b → (b.home == place.functions) ≡ false) → NamedAt all place active n → (c : CapturesAre all place active (upvalues_of place.functions all) uses) →
    NamedAt all (in_function vararg place) [] (record { around = names_in (onto active []) ++ n.around; upvalues = names_of_seen all place active (upvalues_of place.functions all) uses c })
named_enters all vararg place active n uses s new g c = record { finds = λ name. by name (place.scope name) refl (g.finds name); apart = g.apart; marked = λ r x d k m. cc }
  where
    inner : Names
    inner = record { around = names_in (onto active []) ++ n.around; upvalues = names_of_seen all place active (upvalues_of place.functions all) uses c }

    around_is : (name : Text) → is_among name (names_in (onto active []) ++ n.around) ≡ is_some (own_register name active) || is_among name n.around
    around_is name = among_app name (names_in (onto active [])) n.around ∙ ap (λ b. b || is_among name n.around) (register_among_names name (onto active []))

    slot : (name : Text) (b : Binding) → place.scope name ≡ Some b → UpvalueAt place.functions all b → slice_get inner.upvalues (slot_of b.declaration (upvalues_of place.functions all)) ≡ Some name
    slot name b q u =
        let k = names_seen all place active (upvalues_of place.functions all) uses c (slot_of b.declaration (upvalues_of place.functions all)) u.known u.is in
        k.1 ∙ ap Some (g.apart k.0 name u.known b k.2 q u.same)

    in_home : (name : Text) (b : Binding) → place.scope name ≡ Some b → (t : Bool) → FindsIn all (innermost place.around) n active name b t → AroundAt all place.functions inner [] name b
    in_home name b q true h = record { none = refl; among = around_is name ∙ ap (λ o. is_some o || is_among name n.around) h.is; slot = slot name b q }
    in_home name b q false h = record { none = refl; among = around_is name ∙ ap (λ o. is_some o || is_among name n.around) h.none ∙ h.among; slot = slot name b q }

    by : (name : Text) (o : Option Binding) → place.scope name ≡ o → FindsBy all (innermost place.around) n active name o → FindsBy all place.functions inner [] name o
    by name None q h = (refl, around_is name ∙ ap (λ o. is_some o || is_among name n.around) h.0 ∙ h.1)
    by name (Some b) q h = subst (FindsIn all place.functions inner [] name b) (sym (new name b q)) (in_home name b q (b.home == innermost place.around) h)

-- the main chunk
pub named_first : (all : List Mark) → NamedAt all beginning [] (record { around = []; upvalues = [] })
named_first all = record { finds = λ name. (refl, refl); apart = λ a b x y p q e. cc; marked = λ r x d k m. cc }

-- where the same is in scope
pub named_still : (all : List Mark) (place later : Place) (active : List Active) (n : Names) → later.scope ≡ place.scope → later.around ≡ place.around → NamedAt all place active n → NamedAt all later active n
named_still all place later active n s o g = subst (λ sc. NamedBy all (innermost later.around) n active sc) (sym s) (subst (λ ar. NamedBy all (innermost ar) n active place.scope) (sym o) g)
