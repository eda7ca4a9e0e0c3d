-- The upvalues of a function are in scope where it is opened, are upvalues of the function around it or its locals, and are captured.
use Rattle.std.proofs.Common.{◌≡◌, ◌≤◌, ◌<◌, ◌⊎◌, inl, inr, ℕ, suc, Bool, true, false, not, ◌&&◌, ◌||◌, List, [], ◌∷◌, ◌++◌, refl, sym, ap, ◌∙◌, subst, true≢false, append_assoc, arith}
use Rattle.std.specs.Prelude.{Option, Some, None, ◌==◌, if◌then◌else◌}
use Rattle.std.proofs.lemmas.Bool.{eqb-true, eq-eqb}
use Rattle.lua_num.specs.Bytes.{Text}
use Rattle.lua_tree.specs.Outline.{Binding, Mark, mention, local_name, hidden_local, dots, leave, opened, innermost, Place, in_function, body_part}
use Rattle.lua_tree.specs.Scoping.{is_one_of, inside_of, is_known, is_captured, upvalues_of, upvalues_behind, with_mention}
use Rattle.lua_tree.specs.Syntax.{FunctionBody, function_body}
use Rattle.scheme_stands.specs.Places.{Mentions, AllOf, Origin, seen, of_inside, declared_behind, OriginOf, From, Below, Behind, Between, inside_part, is_vararg_body, Seen}
use Rattle.scheme_stands.proofs.Names.{stays_known, mentioned}
use Rattle.scheme_stands.proofs.Origins.{all_more, mentions_both, mentions_more, entered, inside_walked}

-- ---- the upvalues of a function

pub differ : (n x : ℕ) → (n ≡ x → ⊥) → (n == x) ≡ false
differ n x f = go (n == x) refl
  where
    go : (b : Bool) → (n == x) ≡ b → b ≡ false
    go true e = absurd (f (eqb-true n x e))
    go false e = refl

not_one : (n : ℕ) (xs : List ℕ) → AllOf (λ g. n ≡ g → ⊥) xs → is_one_of n xs ≡ false
not_one n [] h = refl
not_one n (x ∷ xs) h = ap (λ b. b || is_one_of n xs) (differ n x h.0) ∙ not_one n xs h.1

-- what stands before the home in the functions around
front_of : (home : ℕ) (xs : List ℕ) (P : ℕ → Type 0) → AllOf P xs → AllOf P (inside_of home xs)
front_of home [] P h = tt
front_of home (x ∷ xs) P h = go (x == home) (front_of home xs P h.1)
  where
    go : (b : Bool) → AllOf P (inside_of home xs) → AllOf P (if b then [] else x ∷ inside_of home xs)
    go true k = tt
    go false k = (h.0, k)

-- where the home stands in the front, only that front counts
front_stops : (home n : ℕ) (xs ys : List ℕ) → AllOf (λ g. n ≡ g → ⊥) xs → is_one_of home xs ≡ true → is_one_of n (inside_of home (xs ++ ys)) ≡ false
front_stops home n [] ys h k = absurd (true≢false (sym k))
front_stops home n (x ∷ xs) ys h k = go (x == home) refl (front_stops home n xs ys h.1)
  where
    go : (b : Bool) → (x == home) ≡ b → (is_one_of home xs ≡ true → is_one_of n (inside_of home (xs ++ ys)) ≡ false) → is_one_of n (if x == home then [] else x ∷ inside_of home (xs ++ ys)) ≡ false
    go true e f = ap (λ b. is_one_of n (if b then [] else x ∷ inside_of home (xs ++ ys))) e
    go false e f =
        let other : (home == x) ≡ false = differ home x (λ q. true≢false (sym (eq-eqb x home (sym q)) ∙ e)) in
        ap (λ b. is_one_of n (if b then [] else x ∷ inside_of home (xs ++ ys))) e ∙ ap (λ b. b || is_one_of n (inside_of home (xs ++ ys))) (differ n x h.0) ∙ f (sym (ap (λ b. b || is_one_of home xs) other) ∙ k)

-- where it stands behind the front
front_ends : (n : ℕ) (xs ys : List ℕ) → AllOf (λ g. n ≡ g → ⊥) xs → is_one_of n (inside_of n (xs ++ n ∷ ys)) ≡ false
front_ends n [] ys h = ap (λ b. is_one_of n (if b then [] else n ∷ inside_of n ys)) (eq-eqb n n refl)
front_ends n (x ∷ xs) ys h =
    ap (λ b. is_one_of n (if b then [] else x ∷ inside_of n (xs ++ n ∷ ys))) (differ x n (λ e. (h.0) (sym e)))
    ∙ ap (λ b. b || is_one_of n (inside_of n (xs ++ n ∷ ys))) (differ n x h.0) ∙ front_ends n xs ys h.1

-- a mention that makes an upvalue of the function is one of such a binding
abbrev pub Makes : (n : ℕ) → (Binding → Type 0) → Option Binding → List ℕ → Type 0
Makes n Q means around = (b : Binding) → means ≡ Some b → is_one_of n (inside_of b.home around) ≡ true → Q b

makes_none : (n : ℕ) (Q : Binding → Type 0) (means : Option Binding) (around : List ℕ) → AllOf (λ g. n ≡ g → ⊥) around → Makes n Q means around
makes_none n Q means around h b e k = absurd (true≢false (sym k ∙ not_one n (inside_of b.home around) (front_of b.home around (λ g. n ≡ g → ⊥) h)))

makes_inside : (vararg : Bool) (place : Place) (means : Option Binding) (around : List ℕ) → From (in_function vararg place) means around → Makes place.functions (Seen place) means around
makes_inside vararg place means around h b e k = go (subst (OriginOf (in_function vararg place) h.inside) e h.origin)
  where
    others : AllOf (λ g. place.functions ≡ g → ⊥) h.inside
    others = all_more (λ g. suc place.functions ≤ g) (λ g. place.functions ≡ g → ⊥) (λ g l e. omega (arith, l, e)) h.inside h.later

    at : is_one_of place.functions (inside_of b.home (h.inside ++ place.functions ∷ place.around)) ≡ true
    at = sym (ap (λ xs. is_one_of place.functions (inside_of b.home xs)) h.is) ∙ k

    go : Origin (in_function vararg place) h.inside b → Seen place b
    go (seen name s) = (name, s)
    go (of_inside s) = absurd (true≢false (sym at ∙ front_stops b.home place.functions h.inside (place.functions ∷ place.around) others s))
    go (declared_behind s l) = absurd (true≢false (sym at ∙ ap (λ m. is_one_of place.functions (inside_of m (h.inside ++ place.functions ∷ place.around))) s ∙ front_ends place.functions h.inside place.around others))

-- each binding of a list
abbrev pub AllBindings : (Binding → Type 0) → List Binding → Type 0
AllBindings Q [] = Unit {0}
AllBindings Q (b ∷ bs) = Q b × AllBindings Q bs

bindings_end : (Q : Binding → Type 0) (known : List Binding) (b : Binding) → AllBindings Q known → Q b → AllBindings Q (known ++ b ∷ [])
bindings_end Q [] b h k = (k, tt)
bindings_end Q (x ∷ known) b h k = (h.0, bindings_end Q known b h.1 k)

bindings_with : (n : ℕ) (Q : Binding → Type 0) (b : Binding) (around : List ℕ) (known : List Binding) → Makes n Q (Some b) around → AllBindings Q known → AllBindings Q (with_mention n b around known)
bindings_with n Q b around known m h = go (is_one_of n (inside_of b.home around)) refl
  where
    more : (c : Bool) → Q b → AllBindings Q (if c then known ++ b ∷ [] else known)
    more true k = bindings_end Q known b h k
    more false k = h

    go : (c : Bool) → is_one_of n (inside_of b.home around) ≡ c → AllBindings Q (if c && not (is_known b.declaration known) then known ++ b ∷ [] else known)
    go true e = more (not (is_known b.declaration known)) (m b refl e)
    go false e = h

bindings_behind : (n : ℕ) (Q : Binding → Type 0) (marks : List Mark) (known : List Binding) → Mentions (Makes n Q) marks → AllBindings Q known → AllBindings Q (upvalues_behind n known marks)
bindings_behind n Q [] known m h = h
bindings_behind n Q (mention line name (Some b) around ∷ marks) known m h = bindings_behind n Q marks (with_mention n b around known) m.1 (bindings_with n Q b around known m.0 h)
bindings_behind n Q (mention line name None around ∷ marks) known m h = bindings_behind n Q marks known m.1 h
bindings_behind n Q (local_name line reached ∷ marks) known m h = bindings_behind n Q marks known m h
bindings_behind n Q (hidden_local line reached ∷ marks) known m h = bindings_behind n Q marks known m h
bindings_behind n Q (dots line vararg ∷ marks) known m h = bindings_behind n Q marks known m h
bindings_behind n Q (leave line looped ∷ marks) known m h = bindings_behind n Q marks known m h
bindings_behind n Q (opened outer ∷ marks) known m h = bindings_behind n Q marks known m h

-- what is so of each mention in a function's body that makes an upvalue of it, is so of each of its upvalues
pub upvalues_all : (all : List Mark) (method : Bool) (body : FunctionBody) (place : Place) (rest : List Mark) → (t : Between all (body_part method body) place rest) → (Q : Binding → Type 0) →
    Mentions (Makes place.functions Q) (inside_part method body (in_function (is_vararg_body body) place)).marks → AllBindings Q (upvalues_of place.functions all)
upvalues_all all method (function_body params vararg block first last) place rest t Q middle =
    let r = t.reached in
    let n = place.functions in
    let part = inside_part method (function_body params vararg block first last) in
    let inside = in_function vararg place in
    let end = (part inside).next in
    let w = inside_walked method (function_body params vararg block first last) inside inside (entered vararg place t.around_it) in
    let front : Mentions (Makes n Q) r.before = mentions_more (Below n) (Makes n Q) (λ means around h. makes_none n Q means around (all_more (λ g. g < n) (λ g. n ≡ g → ⊥) (λ g l e. omega (arith, l, e)) around h)) r.before t.before_it in
    let back : Mentions (Makes n Q) rest = mentions_more (Behind (body_part method (function_body params vararg block first last) place).next) (Makes n Q) (λ means around h. makes_none n Q means around (all_more (λ g. (is_one_of g place.around ≡ true) ⊎ (end.functions ≤ g)) (λ g. n ≡ g → ⊥) (later end w.grown) around h)) rest t.behind_it in
    let whole : Mentions (Makes n Q) (r.before ++ opened (innermost place.around) ∷ ((part inside).marks ++ rest)) = mentions_both (Makes n Q) r.before (opened (innermost place.around) ∷ ((part inside).marks ++ rest)) front (mentions_both (Makes n Q) (part inside).marks rest middle back) in
    subst (λ marks. AllBindings Q (upvalues_of n marks)) (sym r.is) (bindings_behind n Q (r.before ++ opened (innermost place.around) ∷ ((part inside).marks ++ rest)) [] whole tt)
  where
    later : (end : Place) → suc place.functions ≤ end.functions → (g : ℕ) → (is_one_of g place.around ≡ true) ⊎ (end.functions ≤ g) → place.functions ≡ g → ⊥
    later end l g (inl h) e = true≢false (sym h ∙ ap (λ k. is_one_of k place.around) (sym e) ∙ not_one place.functions place.around (all_more (λ g. g < place.functions) (λ g. place.functions ≡ g → ⊥) (λ g l e. omega (arith, l, e)) place.around t.around_it))
    later end l g (inr h) e = omega (arith, h, l, e)

-- the upvalues of a function are in scope where it is opened
pub upvalues_seen : (all : List Mark) (method : Bool) (body : FunctionBody) (place : Place) (rest : List Mark) → Between all (body_part method body) place rest → AllBindings (Seen place) (upvalues_of place.functions all)
upvalues_seen all method (function_body params vararg block first last) place rest t =
    let inside = in_function vararg place in
    let w = inside_walked method (function_body params vararg block first last) inside inside (entered vararg place t.around_it) in
    upvalues_all all method (function_body params vararg block first last) place rest t (Seen place)
    (mentions_more (From inside) (Makes place.functions (Seen place)) (makes_inside vararg place) (inside_part method (function_body params vararg block first last) inside).marks w.from)

-- ---- and upvalues of the function around, where they are of functions around that

-- each mention that makes an upvalue of a function makes it known there
abbrev pub Knows : (f : ℕ) → List Binding → Option Binding → List ℕ → Type 0
Knows f known means around = (b : Binding) → means ≡ Some b → is_one_of f (inside_of b.home around) ≡ true → is_known b.declaration known ≡ true

knows_one : (f : ℕ) (known : List Binding) (b : Binding) (around : List ℕ) (marks : List Mark) → Knows f (upvalues_behind f (with_mention f b around known) marks) (Some b) around
knows_one f known b around marks c e h =
    let same : b ≡ c = cc in
    let here : is_one_of f (inside_of b.home around) ≡ true = ap (λ (x : Binding). is_one_of f (inside_of x.home around)) same ∙ h in
    ap (λ (x : Binding). is_known x.declaration (upvalues_behind f (with_mention f b around known) marks)) (sym same)
    ∙ stays_known f b.declaration (with_mention f b around known) marks (mentioned f known b around here)

pub knows_all : (f : ℕ) (known : List Binding) (marks : List Mark) → Mentions (Knows f (upvalues_behind f known marks)) marks
knows_all f known [] = tt
knows_all f known (mention line name (Some b) around ∷ marks) = (knows_one f known b around marks, knows_all f (with_mention f b around known) marks)
knows_all f known (mention line name None around ∷ marks) = (λ b e h. cc, knows_all f known marks)
knows_all f known (local_name line reached ∷ marks) = knows_all f known marks
knows_all f known (hidden_local line reached ∷ marks) = knows_all f known marks
knows_all f known (dots line vararg ∷ marks) = knows_all f known marks
knows_all f known (leave line looped ∷ marks) = knows_all f known marks
knows_all f known (opened outer ∷ marks) = knows_all f known marks

pub mentions_front : (P : Option Binding → List ℕ → Type 0) (xs ys : List Mark) → Mentions P (xs ++ ys) → Mentions P xs
mentions_front P [] ys h = tt
mentions_front P (mention line name means around ∷ xs) ys h = (h.0, mentions_front P xs ys h.1)
mentions_front P (local_name line reached ∷ xs) ys h = mentions_front P xs ys h
mentions_front P (hidden_local line reached ∷ xs) ys h = mentions_front P xs ys h
mentions_front P (dots line vararg ∷ xs) ys h = mentions_front P xs ys h
mentions_front P (leave line looped ∷ xs) ys h = mentions_front P xs ys h
mentions_front P (opened outer ∷ xs) ys h = mentions_front P xs ys h

pub mentions_back : (P : Option Binding → List ℕ → Type 0) (xs ys : List Mark) → Mentions P (xs ++ ys) → Mentions P ys
mentions_back P [] ys h = h
mentions_back P (mention line name means around ∷ xs) ys h = mentions_back P xs ys h.1
mentions_back P (local_name line reached ∷ xs) ys h = mentions_back P xs ys h
mentions_back P (hidden_local line reached ∷ xs) ys h = mentions_back P xs ys h
mentions_back P (dots line vararg ∷ xs) ys h = mentions_back P xs ys h
mentions_back P (leave line looped ∷ xs) ys h = mentions_back P xs ys h
mentions_back P (opened outer ∷ xs) ys h = mentions_back P xs ys h

pub mentions_two : (P Q R : Option Binding → List ℕ → Type 0) → ((means : Option Binding) (around : List ℕ) → P means around → Q means around → R means around) → (xs : List Mark) → Mentions P xs → Mentions Q xs → Mentions R xs
mentions_two P Q R f [] g h = tt
mentions_two P Q R f (mention line name means around ∷ xs) g h = (f means around g.0 h.0, mentions_two P Q R f xs g.1 h.1)
mentions_two P Q R f (local_name line reached ∷ xs) g h = mentions_two P Q R f xs g h
mentions_two P Q R f (hidden_local line reached ∷ xs) g h = mentions_two P Q R f xs g h
mentions_two P Q R f (dots line vararg ∷ xs) g h = mentions_two P Q R f xs g h
mentions_two P Q R f (leave line looped ∷ xs) g h = mentions_two P Q R f xs g h
mentions_two P Q R f (opened outer ∷ xs) g h = mentions_two P Q R f xs g h

-- what is outside a function is outside the one around it, unless it is that one's own
next_outside : (home n f : ℕ) (xs ys : List ℕ) → AllOf (λ g. n ≡ g → ⊥) xs → (f == home) ≡ false → is_one_of n (inside_of home (xs ++ n ∷ f ∷ ys)) ≡ true → is_one_of f (inside_of home (xs ++ n ∷ f ∷ ys)) ≡ true
next_outside home n f [] ys h k m = go (n == home) refl
  where
    or_true : (b c : Bool) → c ≡ true → b || c ≡ true
    or_true true c e = refl
    or_true false c e = e

    go : (b : Bool) → (n == home) ≡ b → is_one_of f (if n == home then [] else n ∷ inside_of home (f ∷ ys)) ≡ true
    go true e = absurd (true≢false (sym m ∙ ap (λ b. is_one_of n (if b then [] else n ∷ inside_of home (f ∷ ys))) e))
    go false e = ap (λ b. is_one_of f (if b then [] else n ∷ inside_of home (f ∷ ys))) e ∙ or_true (f == n) (is_one_of f (inside_of home (f ∷ ys))) (ap (λ b. is_one_of f (if b then [] else f ∷ inside_of home ys)) k ∙ ap (λ b. b || is_one_of f (inside_of home ys)) (eq-eqb f f refl))
next_outside home n f (x ∷ xs) ys h k m = go (x == home) refl (next_outside home n f xs ys h.1 k)
  where
    or_true : (b c : Bool) → c ≡ true → b || c ≡ true
    or_true true c e = refl
    or_true false c e = e

    go : (b : Bool) → (x == home) ≡ b → (is_one_of n (inside_of home (xs ++ n ∷ f ∷ ys)) ≡ true → is_one_of f (inside_of home (xs ++ n ∷ f ∷ ys)) ≡ true) → is_one_of f (if x == home then [] else x ∷ inside_of home (xs ++ n ∷ f ∷ ys)) ≡ true
    go true e r = absurd (true≢false (sym m ∙ ap (λ b. is_one_of n (if b then [] else x ∷ inside_of home (xs ++ n ∷ f ∷ ys))) e))
    go false e r =
        let m1 : is_one_of n (inside_of home (xs ++ n ∷ f ∷ ys)) ≡ true = sym (ap (λ b. is_one_of n (if b then [] else x ∷ inside_of home (xs ++ n ∷ f ∷ ys))) e ∙ ap (λ b. b || is_one_of n (inside_of home (xs ++ n ∷ f ∷ ys))) (differ n x h.0)) ∙ m in
        ap (λ b. is_one_of f (if b then [] else x ∷ inside_of home (xs ++ n ∷ f ∷ ys))) e ∙ or_true (f == x) (is_one_of f (inside_of home (xs ++ n ∷ f ∷ ys))) (r m1)

-- an upvalue of a function is an upvalue of the one around it, unless it is a local there
abbrev pub KnownAround : (f : ℕ) → List Mark → Binding → Type 0
KnownAround f all b = (f == b.home) ≡ false → is_known b.declaration (upvalues_of f all) ≡ true

pub upvalues_known : (all : List Mark) (method : Bool) (body : FunctionBody) (place : Place) (rest : List Mark) (f : ℕ) (others : List ℕ) → place.around ≡ f ∷ others → Between all (body_part method body) place rest → AllBindings (KnownAround f all) (upvalues_of place.functions all)
upvalues_known all method (function_body params vararg block first last) place rest f others a t =
    let n = place.functions in
    let inside = in_function vararg place in
    let part = inside_part method (function_body params vararg block first last) in
    let r = t.reached in
    let w = inside_walked method (function_body params vararg block first last) inside inside (entered vararg place t.around_it) in
    let every : Mentions (Knows f (upvalues_of f all)) (r.before ++ opened (innermost place.around) ∷ ((part inside).marks ++ rest)) = subst (λ marks. Mentions (Knows f (upvalues_of f all)) marks) r.is (knows_all f [] all) in
    let body_marks = mentions_front (Knows f (upvalues_of f all)) (part inside).marks rest (mentions_back (Knows f (upvalues_of f all)) r.before (opened (innermost place.around) ∷ ((part inside).marks ++ rest)) every) in
    upvalues_all all method (function_body params vararg block first last) place rest t (KnownAround f all)
    (mentions_two (From inside) (Knows f (upvalues_of f all)) (Makes n (KnownAround f all)) (λ means around g k b e m d. k b e (outside means around g b m d)) (part inside).marks w.from body_marks)
  where
    outside : (means : Option Binding) (around : List ℕ) → From (in_function vararg place) means around → (b : Binding) → is_one_of place.functions (inside_of b.home around) ≡ true → (f == b.home) ≡ false → is_one_of f (inside_of b.home around) ≡ true
    outside means around g b m d =
        let is : around ≡ g.inside ++ place.functions ∷ f ∷ others = g.is ∙ ap (λ xs. g.inside ++ place.functions ∷ xs) a in
        let m1 : is_one_of place.functions (inside_of b.home (g.inside ++ place.functions ∷ f ∷ others)) ≡ true = sym (ap (λ xs. is_one_of place.functions (inside_of b.home xs)) is) ∙ m in
        ap (λ xs. is_one_of f (inside_of b.home xs)) is
        ∙ next_outside b.home place.functions f g.inside others (all_more (λ x. suc place.functions ≤ x) (λ x. place.functions ≡ x → ⊥) (λ x l e. omega (arith, l, e)) g.inside g.later) d m1

-- ---- and they are captured

captured_later : (d : ℕ) (xs ys : List Mark) → is_captured d ys ≡ true → is_captured d (xs ++ ys) ≡ true
captured_later d [] ys h = h
captured_later d (mention line name (Some b) around ∷ xs) ys h = either ((b.declaration == d) && not (b.home == innermost around)) (captured_later d xs ys h)
  where
    either : (t : Bool) → is_captured d (xs ++ ys) ≡ true → t || is_captured d (xs ++ ys) ≡ true
    either true k = refl
    either false k = k
captured_later d (mention line name None around ∷ xs) ys h = captured_later d xs ys h
captured_later d (local_name line reached ∷ xs) ys h = captured_later d xs ys h
captured_later d (hidden_local line reached ∷ xs) ys h = captured_later d xs ys h
captured_later d (dots line vararg ∷ xs) ys h = captured_later d xs ys h
captured_later d (leave line looped ∷ xs) ys h = captured_later d xs ys h
captured_later d (opened outer ∷ xs) ys h = captured_later d xs ys h

-- where a function inside the home stands around, the innermost is not the home
not_home : (f home : ℕ) (around : List ℕ) → is_one_of f (inside_of home around) ≡ true → (home == innermost around) ≡ false
not_home f home [] h = absurd (true≢false (sym h))
not_home f home (x ∷ xs) h = go (x == home) refl
  where
    go : (t : Bool) → (x == home) ≡ t → (home == x) ≡ false
    go true e = absurd (true≢false (sym h ∙ ap (λ b. is_one_of f (if b then [] else x ∷ inside_of home xs)) e))
    go false e = differ home x (λ q. true≢false (sym (eq-eqb x home (sym q)) ∙ e))

captured_here : (f line : ℕ) (name : Text) (b : Binding) (around : List ℕ) (marks : List Mark) → is_one_of f (inside_of b.home around) ≡ true → is_captured b.declaration (mention line name (Some b) around ∷ marks) ≡ true
captured_here f line name b around marks h =
    ap (λ t. (t && not (b.home == innermost around)) || is_captured b.declaration marks) (eq-eqb b.declaration b.declaration refl)
    ∙ ap (λ t. not t || is_captured b.declaration marks) (not_home f b.home around h)

abbrev pub IsCapturedIn : List Mark → Binding → Type 0
IsCapturedIn all b = is_captured b.declaration all ≡ true

pub captured_among : (f : ℕ) (all before marks : List Mark) → all ≡ before ++ marks → Mentions (Makes f (IsCapturedIn all)) marks
captured_among f all before [] e = tt
captured_among f all before (mention line name (Some b) around ∷ marks) e = (
  λ c s h. let same : b ≡ c = cc in
      ap (is_captured c.declaration) e
      ∙ captured_later c.declaration before (mention line name (Some b) around ∷ marks)
      (subst (λ (x : Binding). is_captured c.declaration (mention line name (Some x) around ∷ marks) ≡ true) (sym same) (captured_here f line name c around marks h)),
  captured_among f all (before ++ mention line name (Some b) around ∷ []) marks (e ∙ sym (append_assoc before (mention line name (Some b) around ∷ []) marks)),
)
captured_among f all before (mention line name None around ∷ marks) e = (λ c s h. cc, captured_among f all (before ++ mention line name None around ∷ []) marks (e ∙ sym (append_assoc before (mention line name None around ∷ []) marks)))
captured_among f all before (local_name line reached ∷ marks) e = captured_among f all (before ++ local_name line reached ∷ []) marks (e ∙ sym (append_assoc before (local_name line reached ∷ []) marks))
captured_among f all before (hidden_local line reached ∷ marks) e = captured_among f all (before ++ hidden_local line reached ∷ []) marks (e ∙ sym (append_assoc before (hidden_local line reached ∷ []) marks))
captured_among f all before (dots line vararg ∷ marks) e = captured_among f all (before ++ dots line vararg ∷ []) marks (e ∙ sym (append_assoc before (dots line vararg ∷ []) marks))
captured_among f all before (leave line looped ∷ marks) e = captured_among f all (before ++ leave line looped ∷ []) marks (e ∙ sym (append_assoc before (leave line looped ∷ []) marks))
captured_among f all before (opened outer ∷ marks) e = captured_among f all (before ++ opened outer ∷ []) marks (e ∙ sym (append_assoc before (opened outer ∷ []) marks))

-- each upvalue of a function is a captured declaration
pub upvalues_captured : (all : List Mark) (f : ℕ) → AllBindings (λ b. is_captured b.declaration all ≡ true) (upvalues_of f all)
upvalues_captured all f = bindings_behind f (IsCapturedIn all) all [] (captured_among f all [] all refl) tt
