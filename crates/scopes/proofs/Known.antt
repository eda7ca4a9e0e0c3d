-- What is among the upvalues of a function stays so, in its slot, as marks come behind.
use Rattle.std.proofs.Common.{◌≡◌, ◌==◌, ◌&&◌, ◌||◌, ℕ, suc, Bool, true, false, not, List, [], ◌∷◌, ◌++◌, Some, None, if◌then◌else◌, refl, sym, ap, ◌∙◌, subst, append_assoc, append-nil, arith}
use Rattle.std.proofs.lemmas.Bool.Decides.{nat_tests}
use Rattle.lua_tree.specs.Outline.{Binding, Mark, mention}
use Rattle.lua_tree.specs.Scoping.{inside_of, is_one_of, is_known, with_mention, upvalues_behind, upvalues_of, slot_of, outer_of, local_use, upvalue_use, global_use, use_in, uses_among, uses_by, sources_of}
use Rattle.scopes.specs.Standing.{AreNested, AreWellMade}
use Rattle.scopes.proofs.Marks.{upvalues_both}

-- tests
pub same_number : (n : ℕ) → (n == n) ≡ true
same_number n = grind (arith, nat_tests)

pub turned : (n m : ℕ) (t : Bool) → (n == m) ≡ t → (m == n) ≡ t
turned n m true e = grind (arith, nat_tests)
turned n m false e = grind (arith, nat_tests)

pub equal_numbers : (n m : ℕ) → (n == m) ≡ true → n ≡ m
equal_numbers n m e = grind (arith, nat_tests)

pub or_more : (t one other : Bool) → (one ≡ true → other ≡ true) → t || one ≡ true → t || other ≡ true
or_more true one other go h = refl
or_more false one other go h = go h

pub or_first : (one other : Bool) → one ≡ true → one || other ≡ true
or_first true other h = refl
or_first false other h = cc

pub or_second : (one other : Bool) → other ≡ true → one || other ≡ true
or_second true other h = refl
or_second false other h = h

pub or_other : (one other : Bool) → one || other ≡ true → one ≡ false → other ≡ true
or_other true other h none = cc
or_other false other h none = h

pub and_first : (one other : Bool) → one && other ≡ true → one ≡ true
and_first true other h = refl
and_first false other h = cc

-- what is known stays so, in its slot
pub known_more : (declaration : ℕ) (known more : List Binding) → is_known declaration known ≡ true → is_known declaration (known ++ more) ≡ true
known_more declaration [] more h = cc
known_more declaration (binding ∷ known) more h =
    or_more (declaration == binding.declaration) (is_known declaration known) (is_known declaration (known ++ more)) (known_more declaration known more) h

slot_step : (t known : Bool) (one other : ℕ) → (known ≡ true → one ≡ other) → t || known ≡ true → (if t then 0 else suc one) ≡ (if t then 0 else suc other)
slot_step true known one other go h = refl
slot_step false known one other go h = ap suc (go h)

pub slot_more : (declaration : ℕ) (known more : List Binding) → is_known declaration known ≡ true → slot_of declaration (known ++ more) ≡ slot_of declaration known
slot_more declaration [] more h = cc
slot_more declaration (binding ∷ known) more h =
    slot_step (declaration == binding.declaration) (is_known declaration known) (slot_of declaration (known ++ more)) (slot_of declaration known) (slot_more declaration known more) h

-- upvalues are only appended
pub if_grown : (t : Bool) (known : List Binding) (binding : Binding) → (more : List Binding) × ((if t then known ++ binding ∷ [] else known) ≡ known ++ more)
if_grown true known binding = (binding ∷ [], refl)
if_grown false known binding = ([], sym (append-nil known))

mention_grown : (f : ℕ) (binding : Binding) (around : List ℕ) (known : List Binding) → (more : List Binding) × (with_mention f binding around known ≡ known ++ more)
mention_grown f binding around known = if_grown (is_one_of f (inside_of binding.home around) && not (is_known binding.declaration known)) known binding

pub behind_grown : (f : ℕ) (known : List Binding) (marks : List Mark) → (more : List Binding) × (upvalues_behind f known marks ≡ known ++ more)
behind_grown f known [] = ([], sym (append-nil known))
behind_grown f known (mention line name (Some binding) around ∷ marks) =
    let first : (more : List Binding) × (with_mention f binding around known ≡ known ++ more) = mention_grown f binding around known in
    let rest : (more : List Binding) × (upvalues_behind f (with_mention f binding around known) marks ≡ with_mention f binding around known ++ more) = behind_grown f (with_mention f binding around known) marks in
    (first.0 ++ rest.0, rest.1 ∙ ap (λ x. x ++ rest.0) first.1 ∙ append_assoc known first.0 rest.0)
behind_grown f known (mark ∷ marks) = behind_grown f known marks

pub upvalues_grown : (f : ℕ) (marks more : List Mark) → (added : List Binding) × (upvalues_of f (marks ++ more) ≡ upvalues_of f marks ++ added)
upvalues_grown f marks more =
    let grown : (added : List Binding) × (upvalues_behind f (upvalues_of f marks) more ≡ upvalues_of f marks ++ added) = behind_grown f (upvalues_of f marks) more in
    (grown.0, upvalues_both f [] marks more ∙ grown.1)

-- the upvalues of each function only grow from these marks to others
abbrev pub Grows : (marks others : List Mark) → Type 0
Grows marks others = (f : ℕ) → (added : List Binding) × (upvalues_of f others ≡ upvalues_of f marks ++ added)

pub slot_stays : (f declaration : ℕ) (marks others : List Mark) → Grows marks others → is_known declaration (upvalues_of f marks) ≡ true → slot_of declaration (upvalues_of f others) ≡ slot_of declaration (upvalues_of f marks)
slot_stays f declaration marks others grows h = ap (slot_of declaration) (grows f).1 ∙ slot_more declaration (upvalues_of f marks) (grows f).0 h

-- a mention makes its declaration known in each function inside that of the declaration
known_last : (known : List Binding) (binding : Binding) → is_known binding.declaration (known ++ binding ∷ []) ≡ true
known_last [] binding = or_first (binding.declaration == binding.declaration) false (same_number binding.declaration)
known_last (first ∷ known) binding = or_second (binding.declaration == first.declaration) (is_known binding.declaration (known ++ binding ∷ [])) (known_last known binding)

if_known : (inside known : Bool) (bindings : List Binding) (binding : Binding) → inside ≡ true → known ≡ is_known binding.declaration bindings →
    is_known binding.declaration (if inside && not known then bindings ++ binding ∷ [] else bindings) ≡ true
if_known true true bindings binding h is = sym is
if_known true false bindings binding h is = known_last bindings binding
if_known false known bindings binding h is = cc

pub with_known : (f : ℕ) (binding : Binding) (around : List ℕ) (known : List Binding) → is_one_of f (inside_of binding.home around) ≡ true → is_known binding.declaration (with_mention f binding around known) ≡ true
with_known f binding around known h = if_known (is_one_of f (inside_of binding.home around)) (is_known binding.declaration known) known binding h refl

-- each mention in marks is known at the end of all
abbrev pub AreKnown : List Mark → List Mark → Type 0
AreKnown all [] = Unit {0}
AreKnown all (mention line name (Some binding) around ∷ marks) =
    ((f : ℕ) → is_one_of f (inside_of binding.home around) ≡ true → is_known binding.declaration (upvalues_of f all) ≡ true) × AreKnown all marks
AreKnown all (mark ∷ marks) = AreKnown all marks

known_behind : (f : ℕ) (binding : Binding) (around : List ℕ) (known : List Binding) (marks : List Mark) → is_one_of f (inside_of binding.home around) ≡ true →
    is_known binding.declaration (upvalues_behind f (with_mention f binding around known) marks) ≡ true
known_behind f binding around known marks h =
    let grown : (more : List Binding) × (upvalues_behind f (with_mention f binding around known) marks ≡ with_mention f binding around known ++ more) = behind_grown f (with_mention f binding around known) marks in
    subst (λ x. is_known binding.declaration x ≡ true) (sym grown.1) (known_more binding.declaration (with_mention f binding around known) grown.0 (with_known f binding around known h))

pub are_known : (before marks all : List Mark) → all ≡ before ++ marks → AreKnown all marks
are_known before [] all e = tt
are_known before (mention line name (Some binding) around ∷ marks) all e = (
  λ f h. subst (λ x. is_known binding.declaration x ≡ true) (sym (ap (upvalues_of f) e ∙ upvalues_both f [] before (mention line name (Some binding) around ∷ marks)))
      (known_behind f binding around (upvalues_of f before) marks h),
  are_known (before ++ mention line name (Some binding) around ∷ []) marks all (e ∙ sym (append_assoc before (mention line name (Some binding) around ∷ []) marks)),
)
are_known before (mark ∷ marks) all e = are_known (before ++ mark ∷ []) marks all (e ∙ sym (append_assoc before (mark ∷ []) marks))

-- what was meant stays so
pub use_by_test : (t : Bool) (declaration one other : ℕ) → (t ≡ false → one ≡ other) → (if t then local_use declaration else upvalue_use one) ≡ (if t then local_use declaration else upvalue_use other)
use_by_test true declaration one other go = refl
use_by_test false declaration one other go = ap upvalue_use (go refl)

pub use_stays : (f : ℕ) (binding : Binding) (all others : List Mark) → Grows all others → (binding.home == f) || is_known binding.declaration (upvalues_of f all) ≡ true →
    use_in f others (Some binding) ≡ use_in f all (Some binding)
use_stays f binding all others grows h =
    use_by_test (binding.home == f) binding.declaration (slot_of binding.declaration (upvalues_of f others)) (slot_of binding.declaration (upvalues_of f all))
    (λ not. slot_stays f binding.declaration all others grows (or_other (binding.home == f) (is_known binding.declaration (upvalues_of f all)) h not))

pub inside_first : (home f : ℕ) (around : List ℕ) → (home == f) ≡ false → is_one_of f (inside_of home (f ∷ around)) ≡ true
inside_first home f around h =
    subst (λ t. is_one_of f (if t then [] else f ∷ inside_of home around) ≡ true) (sym (turned home f false h))
    (or_first (f == f) (is_one_of f (inside_of home around)) (same_number f))

first_known : (t known : Bool) → (t ≡ false → known ≡ true) → t || known ≡ true
first_known true known go = refl
first_known false known go = go refl

pub uses_stay : (all others marks : List Mark) → Grows all others → AreWellMade all marks → AreKnown all marks → uses_among others marks ≡ uses_among all marks
uses_stay all others [] grows made known = refl
uses_stay all others (mention line name (Some binding) [] ∷ marks) grows made known = absurd made.1
uses_stay all others (mention line name (Some binding) (f ∷ around) ∷ marks) grows made known =
    ap (λ x. x ∷ uses_among others marks)
    (use_stays f binding all others grows (first_known (binding.home == f) (is_known binding.declaration (upvalues_of f all)) (λ h. known.0 f (inside_first binding.home f around h)))) ∙
    ap (λ x. use_in f all (Some binding) ∷ x) (uses_stay all others marks grows made.2 known.1)
uses_stay all others (mention line name None around ∷ marks) grows made known = ap (λ x. global_use ∷ x) (uses_stay all others marks grows made known)
uses_stay all others (mark ∷ marks) grows made known = uses_stay all others marks grows made known

-- each upvalue is a local or an upvalue of the function around
abbrev pub HaveSources : (outer : ℕ) → List Mark → List Binding → Type 0
HaveSources outer all [] = Unit {0}
HaveSources outer all (binding ∷ bindings) = ((binding.home == outer) || is_known binding.declaration (upvalues_of outer all) ≡ true) × HaveSources outer all bindings

pub sources_stay_by : (outer : ℕ) (all others : List Mark) (bindings : List Binding) → Grows all others → HaveSources outer all bindings → uses_by outer others bindings ≡ uses_by outer all bindings
sources_stay_by outer all others [] grows have = refl
sources_stay_by outer all others (binding ∷ bindings) grows have =
    ap (λ x. x ∷ uses_by outer others bindings) (use_stays outer binding all others grows have.0) ∙
    ap (λ x. use_in outer all (Some binding) ∷ x) (sources_stay_by outer all others bindings grows have.1)

last_source : (t : Bool) (f g home outer : ℕ) → g ≡ 0 → (f ≡ g → outer ≡ 0) → is_one_of f (if t then [] else g ∷ []) ≡ true → (home == outer) || is_one_of outer (if t then [] else g ∷ []) ≡ true
last_source true f g home outer none is h = cc
last_source false f g home outer none is h = grind (arith, nat_tests)

inner_source : (s t : Bool) (f g h home outer : ℕ) (around : List ℕ) → (f == g) ≡ s → (f ≡ g → outer ≡ h) →
    (is_one_of f (inside_of home (h ∷ around)) ≡ true → (home == outer) || is_one_of outer (inside_of home (h ∷ around)) ≡ true) →
    is_one_of f (if t then [] else g ∷ inside_of home (h ∷ around)) ≡ true → (home == outer) || is_one_of outer (if t then [] else g ∷ inside_of home (h ∷ around)) ≡ true
inner_source s true f g h home outer around e is go one = cc
inner_source true false f g h home outer around e is go one =
    subst (λ x. (home == x) || ((x == g) || is_one_of x (inside_of home (h ∷ around))) ≡ true) (sym (is (equal_numbers f g e)))
    (first_known (home == h) ((h == g) || is_one_of h (inside_of home (h ∷ around))) (λ no. or_second (h == g) (is_one_of h (inside_of home (h ∷ around))) (inside_first home h around no)))
inner_source false false f g h home outer around e is go one =
    or_more (home == outer) (is_one_of outer (inside_of home (h ∷ around))) ((outer == g) || is_one_of outer (inside_of home (h ∷ around)))
    (λ y. or_second (outer == g) (is_one_of outer (inside_of home (h ∷ around))) y)
    (go (or_other (f == g) (is_one_of f (inside_of home (h ∷ around))) one e))

pub nested_source : (f home : ℕ) (around : List ℕ) (all : List Mark) → AreNested around all → is_one_of f (inside_of home around) ≡ true →
    (home == outer_of f all) || is_one_of (outer_of f all) (inside_of home around) ≡ true
nested_source f home [] all nested h = absurd nested
nested_source f home (g ∷ []) all nested h = last_source (g == home) f g home (outer_of f all) nested (λ e. ap (λ x. outer_of x all) (e ∙ nested)) h
nested_source f home (g ∷ k ∷ around) all nested h =
    inner_source (f == g) (g == home) f g k home (outer_of f all) around refl (λ e. ap (λ x. outer_of x all) e ∙ nested.2) (nested_source f home (k ∷ around) all nested.3) h

if_sources : (t : Bool) (outer : ℕ) (all : List Mark) (known : List Binding) (binding : Binding) → HaveSources outer all known →
    (t ≡ true → (binding.home == outer) || is_known binding.declaration (upvalues_of outer all) ≡ true) → HaveSources outer all (if t then known ++ binding ∷ [] else known)
if_sources false outer all known binding have go = have
if_sources true outer all [] binding have go = (go refl, tt)
if_sources true outer all (first ∷ known) binding have go = (have.0, if_sources true outer all known binding have.1 go)

pub have_sources : (f : ℕ) (all : List Mark) (known : List Binding) (marks : List Mark) → HaveSources (outer_of f all) all known → AreWellMade all marks → AreKnown all marks →
    HaveSources (outer_of f all) all (upvalues_behind f known marks)
have_sources f all known [] have made are = have
have_sources f all known (mention line name (Some binding) around ∷ marks) have made are =
    have_sources f all (with_mention f binding around known) marks
    (if_sources (is_one_of f (inside_of binding.home around) && not (is_known binding.declaration known)) (outer_of f all) all known binding have
    (λ h. or_more (binding.home == outer_of f all) (is_one_of (outer_of f all) (inside_of binding.home around)) (is_known binding.declaration (upvalues_of (outer_of f all) all))
    (λ one. are.0 (outer_of f all) one)
    (nested_source f binding.home around all made.1 (and_first (is_one_of f (inside_of binding.home around)) (not (is_known binding.declaration known)) h))))
    made.2 are.1
have_sources f all known (mark ∷ marks) have made are = have_sources f all known marks have made are

-- the sources of a function that gets no upvalues stay so
pub have_all : (f : ℕ) (marks : List Mark) → AreWellMade marks marks → HaveSources (outer_of f marks) marks (upvalues_of f marks)
have_all f marks made = have_sources f marks [] marks tt made (are_known [] marks marks refl)

pub sources_stay : (f : ℕ) (marks others : List Mark) → outer_of f others ≡ outer_of f marks → upvalues_of f others ≡ upvalues_of f marks → Grows marks others → AreWellMade marks marks →
    sources_of f others ≡ sources_of f marks
sources_stay f marks others outer same grows made =
    ap (λ x. uses_by (outer_of f others) others x) same ∙
    ap (λ x. uses_by x others (upvalues_of f marks)) outer ∙
    sources_stay_by (outer_of f marks) marks others (upvalues_of f marks) grows (have_all f marks made)
