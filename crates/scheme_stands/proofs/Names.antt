-- What names, declarations and closures mean, by what is ahead at their place.
use Rattle.std.proofs.Common.{◌≡◌, ◌<◌, ℕ, zero, suc, ◌+◌, Bool, true, false, not, ◌&&◌, ◌||◌, List, [], ◌∷◌, ◌++◌, length, drop, get_or, refl, sym, ap, ◌∙◌, subst, true≢false, append-nil, arith}
use Rattle.std.specs.Prelude.{Some, None, ◌==◌, nat_lt, slice_get, if◌then◌else◌}
use Rattle.std.proofs.lemmas.Bool.{eqb-true, eq-eqb, ltb-true, ltb-false}
use Rattle.lua_num.specs.Bytes.{Text}
use Rattle.lua_tree.specs.Outline.{Binding, Mark, mention, local_name, hidden_local, dots, leave, opened, innermost, Place, declares, statements_part, body_part, beginning, outline}
use Rattle.lua_tree.specs.Resolved.{resolved, declarations_in, functions_in, captured_below, upvalues_below}
use Rattle.lua_tree.specs.Scoping.{Use, global_use, use_in, uses_among, is_captured, sources_of, upvalues_of, upvalues_behind, with_mention, is_known, is_one_of, inside_of, slot_of, outer_of, outer_functions, uses_by}
use Rattle.lua_tree.specs.Syntax.{Source, FunctionBody, function_body}
use Rattle.scheme.specs.Making.{Ahead, head_or, where_is}
use Rattle.scheme.specs.Scheme.{ahead_of}
use Rattle.scheme.specs.declared.making.Active.{Active}
use Rattle.scheme.specs.declared.making.Local.{Local}
use Rattle.scheme_stands.specs.Words.{Spot, meaning}
use Rattle.scheme_stands.specs.Functions.{Declared}
use Rattle.scheme_stands.specs.Places.{ahead_at, Reached, locals_from, sources_at, UpvalueAt}
use Rattle.scheme_stands.proofs.Growth.{kept_end, at_end, length_end}
use Rattle.scheme_stands.proofs.Counting.{declares_closed, declared_both, opened_both}
use Rattle.scheme_stands.proofs.Walks.{drop_one}

-- ---- the beginning

-- what is ahead of the main chunk is what is ahead at the beginning of the source
pub begins : (source : Source) → ahead_of (resolved source) ≡ ahead_at (outline source) beginning ((statements_part source.body beginning).marks ++ [])
begins source = sym (ap (λ marks. ahead_at (outline source) beginning marks) (append-nil (outline source)))

-- ---- names

pub name_means : (all : List Mark) (place : Place) (line : ℕ) (name : Text) (rest : List Mark) (active : List Active) (p : Spot) → p.ahead ≡ ahead_at all place (mention line name (place.scope name) place.around ∷ rest) →
    meaning active p ≡ where_is (use_in (innermost place.around) all (place.scope name)) active
name_means all place line name rest active p e = ap (λ (a : Ahead). where_is (head_or global_use a.names) active) e

-- ---- declarations

head_at : {A : Type 0} (other : A) (xs : List A) (n : ℕ) (x : A) → slice_get xs n ≡ Some x → head_or other (drop n xs) ≡ x
head_at other [] n x e = cc
head_at other (y ∷ xs) zero x e = cc
head_at other (y ∷ xs) (suc n) x e = head_at other xs n x e

captured_length : (n : ℕ) (all : List Mark) → length (captured_below n all) ≡ n
captured_length zero all = refl
captured_length (suc n) all = length_end (captured_below n all) _ ∙ ap suc (captured_length n all)

captured_stands : (n d : ℕ) (all : List Mark) → d < n → slice_get (captured_below n all) d ≡ Some (is_captured d all)
captured_stands zero d all l = absurd (omega (arith, l))
captured_stands (suc n) d all l = by (nat_lt d n) refl (captured_stands n d all)
  where
    by : (b : Bool) → nat_lt d n ≡ b → (d < n → slice_get (captured_below n all) d ≡ Some (is_captured d all)) → slice_get (captured_below n all ++ is_captured n all ∷ []) d ≡ Some (is_captured d all)
    by true e h = kept_end (captured_below n all) (is_captured n all ∷ []) d (is_captured d all) (h (ltb-true d n e))
    by false e h =
        let k = ltb-false d n e in
        let same : d ≡ n = omega (arith, k, l) in
        ap (slice_get (captured_below n all ++ is_captured n all ∷ [])) (same ∙ sym (captured_length n all)) ∙ at_end (captured_below n all) (is_captured n all) ∙ ap (λ k. Some (is_captured k all)) (sym same)

captured_ahead : (all : List Mark) (d : ℕ) → d < declarations_in all → head_or false (drop d (captured_below (declarations_in all) all)) ≡ is_captured d all
captured_ahead all d l = head_at false (captured_below (declarations_in all) all) d (is_captured d all) (captured_stands (declarations_in all) d all l)

declared_from : (all : List Mark) (texts : List Text) (names : List Use) (sources : List (List Use)) (d : ℕ) (locals : List Local) (b : Ahead) → d + length texts < suc (declarations_in all) →
    Declared texts (record { names = names; captures = drop d (captured_below (declarations_in all) all); sources = sources; declarations = d }) locals b → locals ≡ locals_from all d texts
declared_from all [] names sources d locals b l h = h.0
declared_from all (text ∷ texts) names sources d locals b l h =
    let captures = captured_below (declarations_in all) all in
    let next = subst (λ cs. Declared texts (record { names = names; captures = cs; sources = sources; declarations = suc d }) h.0 b) (drop_one d captures) h.2 in
    let one : d < declarations_in all = omega (arith, l) in
    h.1 ∙ ap (λ c. record { name = text; declaration = Some d; captured = c } ∷ h.0) (captured_ahead all d one)
    ∙ ap (λ others. record { name = text; declaration = Some d; captured = is_captured d all } ∷ others) (declared_from all texts names sources (suc d) h.0 b (omega (arith, l)) next)

-- the locals that names become
pub declared_are : (all : List Mark) (line hidden : ℕ) (texts : List Text) (locals : List Local) (place : Place) (rest : List Mark) (a b : Ahead) → Reached all place ((declares line hidden texts place).marks ++ rest) → a ≡ ahead_at all place ((declares line hidden texts place).marks ++ rest) →
    Declared texts a locals b → locals ≡ locals_from all place.declarations texts
declared_are all line hidden texts locals place rest a b r e h =
    let marks = (declares line hidden texts place).marks in
    let c = (declares_closed line hidden texts place).counted in
    let counted = c.declarations in
    let before = r.declarations in
    let whole : declarations_in all ≡ declarations_in r.before + (declarations_in marks + declarations_in rest) = ap declarations_in r.is ∙ declared_both r.before (marks ++ rest) ∙ ap (λ n. declarations_in r.before + n) (declared_both marks rest) in
    declared_from all texts (uses_among all (marks ++ rest)) (drop place.functions (upvalues_below (functions_in all) all)) place.declarations locals b (omega (arith, counted, before, whole)) (subst (λ x. Declared texts x locals b) e h)

-- ---- functions

upvalues_length : (n : ℕ) (all : List Mark) → length (upvalues_below n all) ≡ n
upvalues_length zero all = refl
upvalues_length (suc n) all = length_end (upvalues_below n all) _ ∙ ap suc (upvalues_length n all)

sources_stand : (n f : ℕ) (all : List Mark) → f < n → slice_get (upvalues_below n all) f ≡ Some (sources_of f all)
sources_stand zero f all l = absurd (omega (arith, l))
sources_stand (suc n) f all l = by (nat_lt f n) refl (sources_stand n f all)
  where
    by : (b : Bool) → nat_lt f n ≡ b → (f < n → slice_get (upvalues_below n all) f ≡ Some (sources_of f all)) → slice_get (upvalues_below n all ++ sources_of n all ∷ []) f ≡ Some (sources_of f all)
    by true e h = kept_end (upvalues_below n all) (sources_of n all ∷ []) f (sources_of f all) (h (ltb-true f n e))
    by false e h =
        let k = ltb-false f n e in
        let same : f ≡ n = omega (arith, k, l) in
        ap (slice_get (upvalues_below n all ++ sources_of n all ∷ [])) (same ∙ sym (upvalues_length n all)) ∙ at_end (upvalues_below n all) (sources_of n all) ∙ ap (λ k. Some (sources_of k all)) (sym same)

outer_length : (marks : List Mark) → functions_in marks ≡ suc (length (outer_functions marks))
outer_length [] = refl
outer_length (opened outer ∷ marks) = ap suc (outer_length marks)
outer_length (mention line name means around ∷ marks) = outer_length marks
outer_length (local_name line reached ∷ marks) = outer_length marks
outer_length (hidden_local line reached ∷ marks) = outer_length marks
outer_length (dots line vararg ∷ marks) = outer_length marks
outer_length (leave line looped ∷ marks) = outer_length marks

outer_here : (before : List Mark) (outer : ℕ) (rest : List Mark) → get_or (outer_functions (before ++ opened outer ∷ rest)) (length (outer_functions before)) 0 ≡ outer
outer_here [] outer rest = refl
outer_here (opened other ∷ marks) outer rest = outer_here marks outer rest
outer_here (mention line name means around ∷ marks) outer rest = outer_here marks outer rest
outer_here (local_name line reached ∷ marks) outer rest = outer_here marks outer rest
outer_here (hidden_local line reached ∷ marks) outer rest = outer_here marks outer rest
outer_here (dots line vararg ∷ marks) outer rest = outer_here marks outer rest
outer_here (leave line looped ∷ marks) outer rest = outer_here marks outer rest

-- the function around the next function to be opened
pub outer_is : (all : List Mark) (place : Place) (outer : ℕ) (rest : List Mark) → Reached all place (opened outer ∷ rest) → outer_of place.functions all ≡ outer
outer_is all place outer rest r =
    let n : place.functions ≡ suc (length (outer_functions r.before)) = sym r.functions ∙ outer_length r.before in
    ap (λ k. outer_of k all) n ∙ ap (λ marks. get_or (outer_functions marks) (length (outer_functions r.before)) 0) r.is ∙ outer_here r.before outer rest

sources_next : (all : List Mark) (place : Place) (rest : List Mark) → Reached all place (opened (innermost place.around) ∷ rest) → head_or [] (drop place.functions (upvalues_below (functions_in all) all)) ≡ sources_at all place
sources_next all place rest r =
    let n = place.functions in
    let before = r.functions in
    let whole = ap functions_in r.is in
    let a = opened_both r.before (opened (innermost place.around) ∷ rest) in
    let b : functions_in (opened (innermost place.around) ∷ rest) ≡ suc (functions_in rest) = refl in
    let c = outer_length rest in
    head_at [] (upvalues_below (functions_in all) all) n (sources_of n all) (sources_stand (functions_in all) n all (omega (arith, before, whole, a, b, c)))
    ∙ ap (λ f. uses_by f all (upvalues_of n all)) (outer_is all place (innermost place.around) rest r)

-- where the upvalues of the next function come from
pub sources_are : (all : List Mark) (method : Bool) (body : FunctionBody) (place : Place) (rest : List Mark) (p : Spot) → Reached all place ((body_part method body place).marks ++ rest) → p.ahead ≡ ahead_at all place ((body_part method body place).marks ++ rest) →
    head_or [] p.ahead.sources ≡ sources_at all place
sources_are all method (function_body params vararg block first last) place rest p r e =
    ap (λ (a : Ahead). head_or [] a.sources) e ∙ sources_next all place _ (record { before = r.before; is = r.is; declarations = r.declarations; functions = r.functions })

-- ---- upvalues

known_front : (d : ℕ) (xs ys : List Binding) → is_known d xs ≡ true → is_known d (xs ++ ys) ≡ true
known_front d [] ys h = absurd (true≢false (sym h))
known_front d (x ∷ xs) ys h = go (d == x.declaration) refl (known_front d xs ys)
  where
    go : (b : Bool) → (d == x.declaration) ≡ b → (is_known d xs ≡ true → is_known d (xs ++ ys) ≡ true) → (d == x.declaration) || is_known d (xs ++ ys) ≡ true
    go true e k = ap (λ b. b || is_known d (xs ++ ys)) e
    go false e k = ap (λ b. b || is_known d (xs ++ ys)) e ∙ k (sym (ap (λ b. b || is_known d xs) e) ∙ h)

known_end : (xs : List Binding) (x : Binding) → is_known x.declaration (xs ++ x ∷ []) ≡ true
known_end [] x = ap (λ b. b || false) (eq-eqb x.declaration x.declaration refl)
known_end (y ∷ xs) x = go (x.declaration == y.declaration) (known_end xs x)
  where
    go : (b : Bool) → is_known x.declaration (xs ++ x ∷ []) ≡ true → b || is_known x.declaration (xs ++ x ∷ []) ≡ true
    go true h = refl
    go false h = h

kept_with : (b : Bool) (d : ℕ) (known : List Binding) (binding : Binding) → is_known d known ≡ true → is_known d (if b then known ++ binding ∷ [] else known) ≡ true
kept_with true d known binding h = known_front d known (binding ∷ []) h
kept_with false d known binding h = h

-- what is known stays known
pub stays_known : (f d : ℕ) (known : List Binding) (marks : List Mark) → is_known d known ≡ true → is_known d (upvalues_behind f known marks) ≡ true
stays_known f d known [] h = h
stays_known f d known (mention line name (Some binding) around ∷ marks) h =
    stays_known f d (with_mention f binding around known) marks (kept_with (is_one_of f (inside_of binding.home around) && not (is_known binding.declaration known)) d known binding h)
stays_known f d known (mention line name None around ∷ marks) h = stays_known f d known marks h
stays_known f d known (local_name line reached ∷ marks) h = stays_known f d known marks h
stays_known f d known (hidden_local line reached ∷ marks) h = stays_known f d known marks h
stays_known f d known (dots line vararg ∷ marks) h = stays_known f d known marks h
stays_known f d known (leave line looped ∷ marks) h = stays_known f d known marks h
stays_known f d known (opened outer ∷ marks) h = stays_known f d known marks h

pub behind_both : (f : ℕ) (known : List Binding) (xs ys : List Mark) → upvalues_behind f known (xs ++ ys) ≡ upvalues_behind f (upvalues_behind f known xs) ys
behind_both f known [] ys = refl
behind_both f known (mention line name (Some binding) around ∷ xs) ys = behind_both f (with_mention f binding around known) xs ys
behind_both f known (mention line name None around ∷ xs) ys = behind_both f known xs ys
behind_both f known (local_name line reached ∷ xs) ys = behind_both f known xs ys
behind_both f known (hidden_local line reached ∷ xs) ys = behind_both f known xs ys
behind_both f known (dots line vararg ∷ xs) ys = behind_both f known xs ys
behind_both f known (leave line looped ∷ xs) ys = behind_both f known xs ys
behind_both f known (opened outer ∷ xs) ys = behind_both f known xs ys

pub mentioned : (f : ℕ) (known : List Binding) (binding : Binding) (around : List ℕ) → is_one_of f (inside_of binding.home around) ≡ true → is_known binding.declaration (with_mention f binding around known) ≡ true
mentioned f known binding around h = go (is_known binding.declaration known) refl
  where
    go : (b : Bool) → is_known binding.declaration known ≡ b → is_known binding.declaration (if is_one_of f (inside_of binding.home around) && not (is_known binding.declaration known) then known ++ binding ∷ [] else known) ≡ true
    go true e = ap (λ b. is_known binding.declaration (if b && not (is_known binding.declaration known) then known ++ binding ∷ [] else known)) h ∙ ap (λ b. is_known binding.declaration (if not b then known ++ binding ∷ [] else known)) e ∙ e
    go false e = ap (λ b. is_known binding.declaration (if b && not (is_known binding.declaration known) then known ++ binding ∷ [] else known)) h ∙ ap (λ b. is_known binding.declaration (if not b then known ++ binding ∷ [] else known)) e ∙ known_end known binding

pub slot_stands : (d : ℕ) (known : List Binding) → is_known d known ≡ true → (k : Binding) × (slice_get known (slot_of d known) ≡ Some k) × (k.declaration ≡ d)
slot_stands d [] h = absurd (true≢false (sym h))
slot_stands d (x ∷ xs) h = go (d == x.declaration) refl (slot_stands d xs)
  where
    go : (b : Bool) → (d == x.declaration) ≡ b → (is_known d xs ≡ true → (k : Binding) × (slice_get xs (slot_of d xs) ≡ Some k) × (k.declaration ≡ d)) →
        (k : Binding) × (slice_get (x ∷ xs) (if d == x.declaration then 0 else suc (slot_of d xs)) ≡ Some k) × (k.declaration ≡ d)
    go true e n = (x, ap (λ b. slice_get (x ∷ xs) (if b then 0 else suc (slot_of d xs))) e, sym (eqb-true d x.declaration e))
    go false e n =
        let k = n (sym (ap (λ b. b || is_known d xs) e) ∙ h) in
        (k.0, ap (λ b. slice_get (x ∷ xs) (if b then 0 else suc (slot_of d xs))) e ∙ k.1, k.2)

-- a binding of a function around, which is mentioned in a function or in one inside it, is an upvalue of it
pub mention_is : (all : List Mark) (place : Place) (line : ℕ) (name : Text) (binding : Binding) (around : List ℕ) (rest : List Mark) (f : ℕ) → Reached all place (mention line name (Some binding) around ∷ rest) → is_one_of f (inside_of binding.home around) ≡ true → UpvalueAt f all binding
mention_is all place line name binding around rest f r h =
    let front = upvalues_behind f [] r.before in
    let whole : upvalues_of f all ≡ upvalues_behind f (with_mention f binding around front) rest = ap (upvalues_behind f []) r.is ∙ behind_both f [] r.before (mention line name (Some binding) around ∷ rest) in
    let known = stays_known f binding.declaration (with_mention f binding around front) rest (mentioned f front binding around h) in
    let k = slot_stands binding.declaration (upvalues_of f all) (ap (is_known binding.declaration) whole ∙ known) in
    record { known = k.0; is = k.1; same = k.2 }

-- so one of a function around is an upvalue of the running one
pub upvalue_is : (all : List Mark) (place : Place) (line : ℕ) (name : Text) (binding : Binding) (f : ℕ) (others : List ℕ) (rest : List Mark) → Reached all place (mention line name (Some binding) place.around ∷ rest) → place.around ≡ f ∷ others → (f == binding.home) ≡ false → UpvalueAt f all binding
upvalue_is all place line name binding f others rest r a h =
    mention_is all place line name binding place.around rest f r (ap (λ around. is_one_of f (inside_of binding.home around)) a ∙ ap (λ b. is_one_of f (if b then [] else f ∷ inside_of binding.home others)) h ∙ ap (λ b. b || is_one_of f (inside_of binding.home others)) (eq-eqb f f refl))
