-- The active locals are those that are in scope, and a name's register is its place among them.
use Rattle.std.proofs.Common.{◌≡◌, ◌≤◌, ◌<◌, ◌⊎◌, inl, inr, ℕ, zero, suc, ◌+◌, Bool, true, false, cond, ◌||◌, List, [], ◌∷◌, ◌++◌, length, refl, sym, ap, ◌∙◌, subst, true≢false, arith}
use Rattle.std.specs.Prelude.{Option, Some, None, ◌==◌, nat_eq, slice_get, if◌then◌else◌}
use Rattle.std.specs.Option.{option_eq}
use Rattle.std.specs.Str.{bytes_eq}
use Rattle.std.proofs.lemmas.Bool.{eqb-true, eq-eqb}
use Rattle.lua_num.specs.Bytes.{Text}
use Rattle.lua_tree.specs.Outline as outline
use Rattle.lua_tree.specs.Outline.{Binding, Scope, Mark, Place, innermost, with_name, with_names, with_locals, in_function, beginning}
use Rattle.lua_tree.specs.Scoping.{local_use, upvalue_use, is_one_of, use_in, slot_of, upvalues_of}
use Rattle.scheme.specs.Making.{register_among, where_is, in_register, in_upvalue, in_globals}
use Rattle.scheme.specs.declared.making.Active.{Active}
use Rattle.scheme.specs.declared.making.Local.{Local}
use Rattle.scheme_stands.specs.Functions.{Activated}
use Rattle.scheme_stands.specs.Places.{locals_from, AllOf, Closed, ActiveBy, ActiveAt, ScopeAt}
use Rattle.scheme_stands.proofs.Growth.{kept_end, at_end, length_end}

-- ---- one local more

pub end_cases : {A : Type 0} (xs : List A) (x y : A) (r : ℕ) → slice_get (xs ++ x ∷ []) r ≡ Some y → (slice_get xs r ≡ Some y) ⊎ ((r ≡ length xs) × (y ≡ x))
end_cases [] x y zero h = inr (refl, cc)
end_cases [] x y (suc r) h = cc
end_cases (z ∷ xs) x y zero h = inl h
end_cases (z ∷ xs) x y (suc r) h = go (end_cases xs x y r h)
  where
    go : (slice_get xs r ≡ Some y) ⊎ ((r ≡ length xs) × (y ≡ x)) → (slice_get xs r ≡ Some y) ⊎ ((suc r ≡ suc (length xs)) × (y ≡ x))
    go (inl k) = inl k
    go (inr k) = inr (ap suc k.0, k.1)

pub inside_of_list : {A : Type 0} (xs : List A) (r : ℕ) (x : A) → slice_get xs r ≡ Some x → r < length xs
inside_of_list [] r x h = cc
inside_of_list (y ∷ xs) zero x h = omega arith
inside_of_list (y ∷ xs) (suc r) x h = let l = inside_of_list xs r x h in omega (arith, l)

-- a hidden local
hidden_more : (scope : Scope) (home count d : ℕ) (active : List Active) (x : Active) → x.local.declaration ≡ None → ActiveBy scope home count d active → ActiveBy scope home (suc count) d (active ++ x ∷ [])
hidden_more scope home count d active x none a = record {
  counted = length_end active x ∙ ap suc a.counted;
  low = λ r y e h k. low (end_cases active x y r h) e k;
  order = λ i j y z e g l h k m n. order (end_cases active x y i h) (end_cases active x z j k) e g l m n;
  stands = λ name b h k. let s = a.stands name b h k in (s.0, s.1, kept_end active (x ∷ []) s.0 s.1 s.2, s.3);
}
  where
    low : {r : ℕ} {y : Active} → (slice_get active r ≡ Some y) ⊎ ((r ≡ length active) × (y ≡ x)) → (e : ℕ) → y.local.declaration ≡ Some e → e < d
    low {r} {y} (inl h) e k = a.low r y e h k
    low {r} {y} (inr h) e k = let no : None ≡ Some e = sym none ∙ sym (ap (λ (z : Active). z.local.declaration) h.1) ∙ k in cc

    order : {i j : ℕ} {y z : Active} → (slice_get active i ≡ Some y) ⊎ ((i ≡ length active) × (y ≡ x)) → (slice_get active j ≡ Some z) ⊎ ((j ≡ length active) × (z ≡ x)) → (e g : ℕ) → i < j → y.local.declaration ≡ Some e → z.local.declaration ≡ Some g → e < g
    order {i} {j} {y} {z} (inl h) (inl k) e g l m n = a.order i j y z e g l h k m n
    order {i} {j} {y} {z} (inr h) k e g l m n = let no : None ≡ Some e = sym none ∙ sym (ap (λ (z : Active). z.local.declaration) h.1) ∙ m in cc
    order {i} {j} {y} {z} (inl h) (inr k) e g l m n = let no : None ≡ Some g = sym none ∙ sym (ap (λ (z : Active). z.local.declaration) k.1) ∙ n in cc

-- a declared one, with its name
named_more : (scope : Scope) (home count d : ℕ) (active : List Active) (name : Text) (x : Active) → x.local.declaration ≡ Some d → ActiveBy scope home count d active →
    ActiveBy (with_name name (record { declaration = d; home = home }) scope) home (suc count) (suc d) (active ++ x ∷ [])
named_more scope home count d active name x is a = record {
  counted = length_end active x ∙ ap suc a.counted;
  low = λ r y e h k. low (end_cases active x y r h) e k;
  order = λ i j y z e g l h k m n. order (end_cases active x y i h) (end_cases active x z j k) e g l m n;
  stands = λ other b h k. stands (bytes_eq name other) other b h k;
}
  where
    number : {y : Active} → y ≡ x → (e : ℕ) → y.local.declaration ≡ Some e → e ≡ d
    number {y} h e k = let same : Some e ≡ Some d = sym k ∙ ap (λ (z : Active). z.local.declaration) h ∙ is in cc

    low : {r : ℕ} {y : Active} → (slice_get active r ≡ Some y) ⊎ ((r ≡ length active) × (y ≡ x)) → (e : ℕ) → y.local.declaration ≡ Some e → e < suc d
    low {r} {y} (inl h) e k = let l = a.low r y e h k in omega (arith, l)
    low {r} {y} (inr h) e k = let n = number h.1 e k in omega (arith, n)

    order : {i j : ℕ} {y z : Active} → (slice_get active i ≡ Some y) ⊎ ((i ≡ length active) × (y ≡ x)) → (slice_get active j ≡ Some z) ⊎ ((j ≡ length active) × (z ≡ x)) → (e g : ℕ) → i < j → y.local.declaration ≡ Some e → z.local.declaration ≡ Some g → e < g
    order {i} {j} {y} {z} (inl h) (inl k) e g l m n = a.order i j y z e g l h k m n
    order {i} {j} {y} {z} (inl h) (inr k) e g l m n = let b = a.low i y e h m in let c = number k.1 g n in omega (arith, b, c)
    order {i} {j} {y} {z} (inr h) (inl k) e g l m n = let b = inside_of_list active j z k in let c = h.0 in absurd (omega (arith, l, b, c))
    order {i} {j} {y} {z} (inr h) (inr k) e g l m n = let b = k.0 in let c = h.0 in absurd (omega (arith, l, b, c))

    stands : (t : Bool) (other : Text) (b : Binding) → (if t then Some (record { declaration = d; home = home }) else scope other) ≡ Some b → b.home ≡ home → (r : ℕ) × (y : Active) × (slice_get (active ++ x ∷ []) r ≡ Some y) × (y.local.declaration ≡ Some b.declaration)
    stands true other b h k = let same : record { declaration = d; home = home } ≡ b = cc in (length active, x, at_end active x, is ∙ ap (λ (z : Binding). Some z.declaration) same)
    stands false other b h k = let s = a.stands other b h k in (s.0, s.1, kept_end active (x ∷ []) s.0 s.1 s.2, s.3)

-- ---- locals that become active

abbrev pub AllHidden : List Local → Type 0
AllHidden [] = Unit {0}
AllHidden (one ∷ locals) = (one.declaration ≡ None) × AllHidden locals

pub hidden_active : (locals : List Local) (scope : Scope) (home count d : ℕ) (active after : List Active) → AllHidden locals → Activated locals active after → ActiveBy scope home count d active → ActiveBy scope home (count + length locals) d after
hidden_active [] scope home count d active after h t a =
    let sum : count ≡ count + 0 = omega arith in
    subst (ActiveBy scope home (count + 0) d) (sym t) (subst (λ n. ActiveBy scope home n d active) sum a)
hidden_active (one ∷ locals) scope home count d active after h t a =
    let sum : suc count + length locals ≡ count + suc (length locals) = omega arith in
    subst (λ n. ActiveBy scope home n d after) sum
    (hidden_active locals scope home (suc count) d (active ++ t.0 ∷ []) after h.1 t.2 (hidden_more scope home count d active t.0 (ap (λ (l : Local). l.declaration) t.1 ∙ h.0) a))

pub names_active : (all : List Mark) (names : List Text) (scope : Scope) (home count d : ℕ) (active after : List Active) → Activated (locals_from all d names) active after → ActiveBy scope home count d active →
    ActiveBy (with_names names d home scope) home (count + length names) (d + length names) after
names_active all [] scope home count d active after t a =
    let c : count ≡ count + 0 = omega arith in
    let e : d ≡ d + 0 = omega arith in
    subst (ActiveBy scope home (count + 0) (d + 0)) (sym t) (subst (λ n. ActiveBy scope home n (d + 0) active) c (subst (λ n. ActiveBy scope home count n active) e a))
names_active all (name ∷ names) scope home count d active after t a =
    let c : suc count + length names ≡ count + suc (length names) = omega arith in
    let e : suc d + length names ≡ d + suc (length names) = omega arith in
    let new = with_name name (record { declaration = d; home = home }) scope in
    subst (λ n. ActiveBy (with_names names (suc d) home new) home n (d + suc (length names)) after) c
    (subst (λ n. ActiveBy (with_names names (suc d) home new) home (suc count + length names) n after) e
    (names_active all names new home (suc count) (suc d) (active ++ t.0 ∷ []) after t.2 (named_more scope home count d active name t.0 (ap (λ (l : Local). l.declaration) t.1) a)))

-- with more declarations before
pub more_declared : (scope : Scope) (home count d e : ℕ) (active : List Active) → d ≤ e → ActiveBy scope home count d active → ActiveBy scope home count e active
more_declared scope home count d e active l a = record { counted = a.counted; low = λ r x k h m. let b = a.low r x k h m in omega (arith, b, l); order = a.order; stands = a.stands }

-- locals of a place, which come into scope at one behind it, with hidden ones before them
pub locals_active : (all : List Mark) (hidden : List Local) (names : List Text) (place later : Place) (active middle after : List Active) → AllHidden hidden → Activated hidden active middle → Activated (locals_from all place.declarations names) middle after →
    later.scope ≡ place.scope → later.around ≡ place.around → later.active ≡ place.active → place.declarations + length names ≤ later.declarations → ActiveAt place active → ActiveAt (with_locals (length hidden) names place.declarations later) after
locals_active all hidden names place later active middle after h t u s o n l a =
    let home = innermost place.around in
    let b = hidden_active hidden place.scope home place.active place.declarations active middle h t a in
    let c = names_active all names place.scope home (place.active + length hidden) place.declarations middle after u b in
    let d = more_declared (with_names names place.declarations home place.scope) home (place.active + length hidden + length names) (place.declarations + length names) later.declarations after l c in
    subst (λ k. ActiveBy (with_names names place.declarations (innermost later.around) later.scope) (innermost later.around) (k + length hidden + length names) later.declarations after) (sym n)
    (subst (λ g. ActiveBy (with_names names place.declarations (innermost g) later.scope) (innermost g) (place.active + length hidden + length names) later.declarations after) (sym o)
    (subst (λ g. ActiveBy (with_names names place.declarations home g) home (place.active + length hidden + length names) later.declarations after) (sym s) d))

-- behind a part that brings nothing into scope
pub closed_active : (part : outline.Part) (place : Place) (active : List Active) → Closed part place → ActiveAt place active → ActiveAt (part place).next active
closed_active part place active c a =
    let n = (part place).next in
    let k = c.counted in
    let grown = k.declarations in
    let l : place.declarations ≤ n.declarations = omega (arith, grown) in
    subst (λ s. ActiveBy s (innermost n.around) n.active n.declarations active) (sym c.scope)
    (subst (λ g. ActiveBy place.scope (innermost g) n.active n.declarations active) (sym k.around)
    (subst (λ m. ActiveBy place.scope (innermost place.around) m n.declarations active) (sym c.active) (more_declared place.scope (innermost place.around) place.active place.declarations n.declarations active l a)))

pub active_first : ActiveAt beginning []
active_first = record { counted = refl; low = λ r x d h. cc; order = λ i j x y d e l h. cc; stands = λ name b h. cc }

-- ---- scopes

pub scope_first : ScopeAt beginning
scope_first = record { function = 0; others = []; is = refl; homes = λ name b h. cc; declared = λ name b h. cc }

pub closed_scope : (part : outline.Part) (place : Place) → Closed part place → ScopeAt place → ScopeAt (part place).next
closed_scope part place c s =
    let n = (part place).next in
    let k = c.counted in
    let grown = k.declarations in
    record {
      function = s.function;
      others = s.others;
      is = k.around ∙ s.is;
      homes = λ name b h. ap (is_one_of b.home) k.around ∙ s.homes name b (sym (ap (λ (f : Scope). f name) c.scope) ∙ h);
      declared = λ name b h. let l = s.declared name b (sym (ap (λ (f : Scope). f name) c.scope) ∙ h) in omega (arith, l, grown);
    }

-- in a function that is opened no binding is its own
pub entered_scope : (vararg : Bool) (place : Place) → ScopeAt place → ScopeAt (in_function vararg place)
entered_scope vararg place s = record {
  function = place.functions;
  others = place.around;
  is = refl;
  homes = λ name b h. front (b.home == place.functions) b (s.homes name b h);
  declared = s.declared;
}
  where
    front : (t : Bool) (b : Binding) → is_one_of b.home place.around ≡ true → t || is_one_of b.home place.around ≡ true
    front true b h = refl
    front false b h = h

pub none_of : (n : ℕ) (xs : List ℕ) → AllOf (λ g. g < n) xs → is_one_of n xs ≡ true → ⊥
none_of n [] h k = true≢false (sym k)
none_of n (x ∷ xs) h k = go (n == x) refl (none_of n xs h.1)
  where
    go : (b : Bool) → (n == x) ≡ b → (is_one_of n xs ≡ true → ⊥) → ⊥
    go true e f = let l = h.0 in let same = eqb-true n x e in omega (arith, l, same)
    go false e f = f (sym (ap (λ b. b || is_one_of n xs) e) ∙ k)

pub entered_active : (vararg : Bool) (place : Place) → AllOf (λ g. g < place.functions) place.around → ScopeAt place → ActiveAt (in_function vararg place) []
entered_active vararg place low s = record {
  counted = refl;
  low = λ r x d h. cc;
  order = λ i j x y d e l h. cc;
  stands = λ name b h k. absurd (none_of place.functions place.around low (sym (ap (λ n. is_one_of n place.around) k) ∙ s.homes name b h));
}

-- names that come into scope
pub names_scope : (hidden : ℕ) (names : List Text) (place : Place) (number : ℕ) → number + length names ≤ place.declarations → ScopeAt place → ScopeAt (with_locals hidden names number place)
names_scope hidden names place number l s = record {
  function = s.function;
  others = s.others;
  is = s.is;
  homes = λ name b h. homes names number place.scope s.homes name b h;
  declared = λ name b h. declared names number place.scope l s.declared name b h;
}
  where
    home : is_one_of (innermost place.around) place.around ≡ true
    home = ap (λ xs. is_one_of (innermost xs) xs) s.is ∙ ap (λ b. b || is_one_of s.function s.others) (eq-eqb s.function s.function refl)

    one_home : (t : Bool) (number : ℕ) (other : Option Binding) (b : Binding) → ((b : Binding) → other ≡ Some b → is_one_of b.home place.around ≡ true) → (if t then Some (record { declaration = number; home = innermost place.around }) else other) ≡ Some b → is_one_of b.home place.around ≡ true
    one_home true number other b f h = let same : record { declaration = number; home = innermost place.around } ≡ b = cc in ap (λ (x : Binding). is_one_of x.home place.around) (sym same) ∙ home
    one_home false number other b f h = f b h

    homes : (names : List Text) (number : ℕ) (scope : Scope) → ((name : Text) (b : Binding) → scope name ≡ Some b → is_one_of b.home place.around ≡ true) → (name : Text) (b : Binding) → with_names names number (innermost place.around) scope name ≡ Some b → is_one_of b.home place.around ≡ true
    homes [] number scope f name b h = f name b h
    homes (x ∷ xs) number scope f name b h = homes xs (suc number) (with_name x (record { declaration = number; home = innermost place.around }) scope) (λ other c k. one_home (bytes_eq x other) number (scope other) c (f other) k) name b h

    one_declared : (t : Bool) (number : ℕ) (other : Option Binding) (b : Binding) → number < place.declarations → ((b : Binding) → other ≡ Some b → b.declaration < place.declarations) → (if t then Some (record { declaration = number; home = innermost place.around }) else other) ≡ Some b → b.declaration < place.declarations
    one_declared true number other b l f h = let same : record { declaration = number; home = innermost place.around } ≡ b = cc in subst (λ (x : Binding). x.declaration < place.declarations) same l
    one_declared false number other b l f h = f b h

    declared : (names : List Text) (number : ℕ) (scope : Scope) → number + length names ≤ place.declarations → ((name : Text) (b : Binding) → scope name ≡ Some b → b.declaration < place.declarations) → (name : Text) (b : Binding) → with_names names number (innermost place.around) scope name ≡ Some b → b.declaration < place.declarations
    declared [] number scope l f name b h = f name b h
    declared (x ∷ xs) number scope l f name b h =
        declared xs (suc number) (with_name x (record { declaration = number; home = innermost place.around }) scope) (omega (arith, l)) (λ other c k. one_declared (bytes_eq x other) number (scope other) c (omega (arith, l)) (f other) k) name b h

-- ---- registers

is_number : (d : ℕ) (o : Option ℕ) → option_eq nat_eq o (Some d) ≡ true → o ≡ Some d
is_number d None h = absurd (true≢false (sym h))
is_number d (Some e) h = ap (λ n. Some n) (eqb-true e d h)

number_is : (d : ℕ) (o : Option ℕ) → o ≡ Some d → option_eq nat_eq o (Some d) ≡ true
number_is d o h = ap (λ x. option_eq nat_eq x (Some d)) h ∙ eq-eqb d d refl

register_by : (d : ℕ) (active : List Active) (r : ℕ) (x : Active) → slice_get active r ≡ Some x → x.local.declaration ≡ Some d → ((i : ℕ) (y : Active) → i < r → slice_get active i ≡ Some y → y.local.declaration ≡ Some d → ⊥) → register_among d active ≡ r
register_by d [] r x h k f = cc
register_by d (y ∷ active) zero x h k f =
    let same : y ≡ x = cc in
    ap (λ b. cond b 0 (suc (register_among d active))) (number_is d y.local.declaration (ap (λ (z : Active). z.local.declaration) same ∙ k))
register_by d (y ∷ active) (suc r) x h k f = go (option_eq nat_eq y.local.declaration (Some d)) refl (register_by d active r x h k (λ i z l g e. f (suc i) z (omega (arith, l)) g e))
  where
    go : (b : Bool) → option_eq nat_eq y.local.declaration (Some d) ≡ b → register_among d active ≡ r → cond (option_eq nat_eq y.local.declaration (Some d)) 0 (suc (register_among d active)) ≡ suc r
    go true e g = absurd (f 0 y (omega arith) refl (is_number d y.local.declaration e))
    go false e g = ap (λ b. cond b 0 (suc (register_among d active))) e ∙ ap suc g

-- a declared local's register is its place
pub register_is : (scope : Scope) (home count declarations : ℕ) (active : List Active) (r : ℕ) (x : Active) (d : ℕ) → ActiveBy scope home count declarations active → slice_get active r ≡ Some x → x.local.declaration ≡ Some d → register_among d active ≡ r
register_is scope home count declarations active r x d a h k = register_by d active r x h k (λ i y l g e. let b = a.order i r y x d d l g h e k in omega (arith, b))

-- where what a name means is: a local of the running function, an upvalue or a global
pub local_is : (all : List Mark) (place : Place) (active : List Active) (name : Text) (b : Binding) → ActiveAt place active → place.scope name ≡ Some b → (b.home == innermost place.around) ≡ true →
    (r : ℕ) × (x : Active) × (slice_get active r ≡ Some x) × (x.local.declaration ≡ Some b.declaration) × (where_is (use_in (innermost place.around) all (place.scope name)) active ≡ in_register r)
local_is all place active name b a s h =
    let f = innermost place.around in
    let t = a.stands name b s (eqb-true b.home f h) in (
      t.0,
      t.1,
      t.2,
      t.3,
      ap (λ o. where_is (use_in f all o) active) s
          ∙ ap (λ c. where_is (if c then local_use b.declaration else upvalue_use (slot_of b.declaration (upvalues_of f all))) active) h
          ∙ ap in_register (register_is place.scope f place.active place.declarations active t.0 t.1 b.declaration a t.2 t.3),
    )

pub upvalue_at : (all : List Mark) (place : Place) (active : List Active) (name : Text) (b : Binding) → place.scope name ≡ Some b → (b.home == innermost place.around) ≡ false →
    where_is (use_in (innermost place.around) all (place.scope name)) active ≡ in_upvalue (slot_of b.declaration (upvalues_of (innermost place.around) all))
upvalue_at all place active name b s h =
    let f = innermost place.around in
    ap (λ o. where_is (use_in f all o) active) s ∙ ap (λ c. where_is (if c then local_use b.declaration else upvalue_use (slot_of b.declaration (upvalues_of f all))) active) h

pub global_at : (all : List Mark) (place : Place) (active : List Active) (name : Text) → place.scope name ≡ None → where_is (use_in (innermost place.around) all (place.scope name)) active ≡ in_globals
global_at all place active name s = ap (λ o. where_is (use_in (innermost place.around) all o) active) s
