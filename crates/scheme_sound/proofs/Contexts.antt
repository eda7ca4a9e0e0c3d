-- What is known of a context at a place of the source: each binding of the function that is in scope is a local, each local is captured
-- as the whole source says, and what is in scope from a function around is an upvalue.
use Rattle.std.proofs.Common.{◌≡◌, ◌<◌, ℕ, suc, Bool, true, false, List, [], ◌∷◌, length, refl, sym, ap, ◌∙◌, arith, inl, cond, eqb-true, ◌⊎◌, ◌++◌, subst, true≢false, inr, eq-eqb, ne_eqb}
use Rattle.std.specs.Prelude.{Option, None, ◌==◌, Some, ◌||◌, nat_eq}
use Rattle.std.specs.List.{list_any}
use Rattle.std.specs.Option.{option_eq}
use Rattle.std.specs.Str.{bytes_eq}
use Rattle.std.proofs.lemmas.Option.{slice_get_within}
use Rattle.std.proofs.lemmas.Bool.{or_left, or_right}
use Rattle.std.proofs.lemmas.List.Folds.{list_any-append}
use Rattle.lua_num.specs.Bytes.{Text}
use Rattle.lua_tree.specs.Outline.{Part, Binding, Scope, Place, Mark, innermost, with_name, with_names, with_locals}
use Rattle.lua_tree.specs.Scoping.{local_use, upvalue_use, use_in, uses_by, is_captured, is_one_of, upvalues_of, slot_of}
use Rattle.scheme.specs.Making.{is_declaration}
use Rattle.scheme.specs.declared.making.Local.{Local}
use Rattle.scheme_stands.specs.Places.{Closed, ScopeAt, Seen, UpvalueAt, locals_from}
use Rattle.scheme_stands.proofs.Names.{slot_stands}
use Rattle.scheme_stands.proofs.Upvalues.{AllBindings, KnownAround}
use Rattle.scheme_sound.proofs.Ghosts.{captured_at}
use Rattle.scheme_sound.proofs.Fitting.{Context, place_of, CaptureFits, CapturesFit, more_locals}
use Rattle.scheme_sound.proofs.Known.{known}
use Rattle.scheme_sound.proofs.Standing.{further_known}

-- ---- locals

-- a declared local is captured where the source says so
abbrev pub Marked : List Mark → List Local → Type 0
Marked all [] = Unit {0}
Marked all (x ∷ xs) = ((d : ℕ) → x.declaration ≡ Some d → x.captured ≡ is_captured d all) × Marked all xs

marked_append : (all : List Mark) (xs ys : List Local) → Marked all xs → Marked all ys → Marked all (xs ++ ys)
marked_append all [] ys a b = b
marked_append all (x ∷ xs) ys a b = (a.0, marked_append all xs ys a.1 b)

names_marked : (all : List Mark) (d : ℕ) (names : List Text) → Marked all (locals_from all d names)
names_marked all d [] = tt
names_marked all d (name ∷ names) = ((λ e h. ap (λ n. is_captured n all) (let same : d ≡ e = cc in same)), names_marked all (suc d) names)

declared_left : (d : ℕ) (xs ys : List Local) → list_any (is_declaration d) xs ≡ true → list_any (is_declaration d) (xs ++ ys) ≡ true
declared_left d xs ys h = list_any-append (is_declaration d) xs ys ∙ or_left _ _ h

declared_right : (d : ℕ) (xs ys : List Local) → list_any (is_declaration d) ys ≡ true → list_any (is_declaration d) (xs ++ ys) ≡ true
declared_right d xs ys h = list_any-append (is_declaration d) xs ys ∙ or_right _ _ h

declares_one : (d : ℕ) (x : Local) → is_declaration d x ≡ true → x.declaration ≡ Some d
declares_one d x h = go x.declaration h
  where
    go : (o : Option ℕ) → option_eq nat_eq o (Some d) ≡ true → o ≡ Some d
    go None h = absurd (true≢false (sym h))
    go (Some e) h = ap Some (eqb-true e d h)

-- a declared local is captured at its register where the source says so
captured_place : (all : List Mark) (d : ℕ) (xs : List Local) → Marked all xs → list_any (is_declaration d) xs ≡ true → captured_at xs (place_of d xs) ≡ is_captured d all
captured_place all d [] a h = cc
captured_place all d (x ∷ xs) a h = go (is_declaration d x) refl h (captured_place all d xs a.1)
  where
    go : (b : Bool) → is_declaration d x ≡ b → (b || list_any (is_declaration d) xs) ≡ true → (list_any (is_declaration d) xs ≡ true → captured_at xs (place_of d xs) ≡ is_captured d all) → captured_at (x ∷ xs) (cond b 0 (suc (place_of d xs))) ≡ is_captured d all
    go true is h k = a.0 d (declares_one d x is)
    go false is h k = k h

-- ---- a context at a place

-- what is known of a context at a place
pub record Knows (all : List Mark) (place : Place) (c : Context) : Type 0 where
  -- a binding of the function that is in scope is a local
  pub own : (name : Text) (b : Binding) → place.scope name ≡ Some b → b.home ≡ innermost place.around → list_any (is_declaration b.declaration) c.locals ≡ true
  pub marked : Marked all c.locals
  -- the main chunk has no functions around it, and its upvalues are not asked for
  pub upvalues : (place.around ≡ innermost place.around ∷ []) ⊎ (c.upvalues ≡ length (upvalues_of (innermost place.around) all))
  pub vararg : c.vararg ≡ place.vararg

-- behind a part that brings nothing into scope
pub knows_behind : (all : List Mark) (part : Part) (place : Place) (c : Context) → Closed part place → Knows all place c → Knows all (part place).next c
knows_behind all part place c w k =
    let counted = w.counted in
    record {
      own = λ name b h e. k.own name b (sym (ap (λ (scope : Scope). scope name) w.scope) ∙ h) (e ∙ ap innermost counted.around);
      marked = k.marked;
      upvalues = subst (λ around. (around ≡ innermost around ∷ []) ⊎ (c.upvalues ≡ length (upvalues_of (innermost around) all))) (sym counted.around) k.upvalues;
      vararg = k.vararg ∙ sym counted.vararg;
    }

-- a name that comes into scope means one of the new locals, or what it meant before
names_new : (all : List Mark) (names : List Text) (d home : ℕ) (scope : Scope) (name : Text) (b : Binding) → with_names names d home scope name ≡ Some b → (list_any (is_declaration b.declaration) (locals_from all d names) ≡ true) ⊎ (scope name ≡ Some b)
names_new all [] d home scope name b h = inr h
names_new all (first ∷ names) d home scope name b h = go (names_new all names (suc d) home (with_name first (record { declaration = d; home = home }) scope) name b h)
  where
    one : (t : Bool) → cond t (Some (record { declaration = d; home = home })) (scope name) ≡ Some b → (list_any (is_declaration b.declaration) (locals_from all d (first ∷ names)) ≡ true) ⊎ (scope name ≡ Some b)
    one true e =
        let same : ◌≡◌ {A = Binding} (record { declaration = d; home = home }) b = cc in
        inl (subst (λ (x : Binding). list_any (is_declaration x.declaration) (locals_from all d (first ∷ names)) ≡ true) same (or_left _ _ (eq-eqb d d refl)))
    one false e = inr e

    go : (list_any (is_declaration b.declaration) (locals_from all (suc d) names) ≡ true) ⊎ (with_name first (record { declaration = d; home = home }) scope name ≡ Some b) → (list_any (is_declaration b.declaration) (locals_from all d (first ∷ names)) ≡ true) ⊎ (scope name ≡ Some b)
    go (inl k) = inl (or_right (is_declaration b.declaration (record { name = first; declaration = Some d; captured = is_captured d all })) _ k)
    go (inr e) = one (bytes_eq first name) e

-- locals become active, and come into scope
pub knows_more : (all : List Mark) (count : ℕ) (hidden : List Local) (names : List Text) (number : ℕ) (place : Place) (c : Context) → Marked all hidden → Knows all place c → Knows all (with_locals count names number place) (more_locals c (hidden ++ locals_from all number names))
knows_more all count hidden names number place c m k = record {
  own = λ name b h e. own name b e (names_new all names number (innermost place.around) place.scope name b h);
  marked = marked_append all c.locals (hidden ++ locals_from all number names) k.marked (marked_append all hidden (locals_from all number names) m (names_marked all number names));
  upvalues = k.upvalues;
  vararg = k.vararg;
}
  where
    own : (name : Text) (b : Binding) → b.home ≡ innermost place.around → (list_any (is_declaration b.declaration) (locals_from all number names) ≡ true) ⊎ (place.scope name ≡ Some b) → list_any (is_declaration b.declaration) (c.locals ++ (hidden ++ locals_from all number names)) ≡ true
    own name b e (inl h) = declared_right b.declaration c.locals (hidden ++ locals_from all number names) (declared_right b.declaration hidden (locals_from all number names) h)
    own name b e (inr h) = declared_left b.declaration c.locals (hidden ++ locals_from all number names) (k.own name b h e)

-- ---- upvalues

-- the slot of an upvalue is within the count
pub slot_within : (all : List Mark) (place : Place) (c : Context) (name : Text) (b : Binding) → Knows all place c → ScopeAt place → place.scope name ≡ Some b → (b.home == innermost place.around) ≡ false → UpvalueAt (innermost place.around) all b → slot_of b.declaration (upvalues_of (innermost place.around) all) < c.upvalues
slot_within all place c name b k s is other u = go k.upvalues
  where
    f : ℕ
    f = innermost place.around

    go : (place.around ≡ f ∷ []) ⊎ (c.upvalues ≡ length (upvalues_of f all)) → slot_of b.declaration (upvalues_of f all) < c.upvalues
    go (inl h) = absurd (true≢false (sym (s.homes name b is) ∙ ap (is_one_of b.home) h ∙ ap (λ t. t || false) other))
    go (inr h) = let l = slice_get_within (upvalues_of f all) (slot_of b.declaration (upvalues_of f all)) u.known u.is in omega (arith, l, h)

-- ---- what functions capture

-- a test of two numbers, the other way round
pub other_way : (a b : ℕ) → (a == b) ≡ false → (b == a) ≡ false
other_way a b e = ne_eqb b a (λ q. true≢false (sym (eq-eqb a b (sym q)) ∙ e))

-- a binding is captured somewhere in the source
abbrev pub Captured : List Mark → Binding → Type 0
Captured all b = is_captured b.declaration all ≡ true

capture_good : (all : List Mark) (place : Place) (c : Context) (b : Binding) → Knows all place c → ScopeAt place → Seen place b → KnownAround (innermost place.around) all b → Captured all b → CaptureFits c (use_in (innermost place.around) all (Some b))
capture_good all place c b k s further_known known captured = go (b.home == innermost place.around) refl
  where
    f : ℕ
    f = innermost place.around

    go : (t : Bool) → (b.home == f) ≡ t → CaptureFits c (cond t (local_use b.declaration) (upvalue_use (slot_of b.declaration (upvalues_of f all))))
    go true e = let own = k.own further_known.0 b further_known.1 (eqb-true b.home f e) in (own, captured_place all b.declaration c.locals k.marked own ∙ captured)
    go false e =
        let t = slot_stands b.declaration (upvalues_of f all) (known (other_way b.home f e)) in
        slot_within all place c further_known.0 b k s further_known.1 e (record { known = t.0; is = t.1; same = t.2 })

-- where the upvalues of a function come from that is opened at a place
pub captures_good : (all : List Mark) (place : Place) (c : Context) (bs : List Binding) → Knows all place c → ScopeAt place → AllBindings (Seen place) bs → AllBindings (KnownAround (innermost place.around) all) bs → AllBindings (Captured all) bs → CapturesFit c (uses_by (innermost place.around) all bs)
captures_good all place c [] k s further_known known captured = tt
captures_good all place c (b ∷ bs) k s further_known known captured = (capture_good all place c b k s further_known.0 known.0 captured.0, captures_good all place c bs k s further_known.1 known.1 captured.1)
