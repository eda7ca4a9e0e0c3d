-- Marks that mention nothing.
use Rattle.std.proofs.Common.{◌≡◌, ◌==◌, ◌&&◌, ◌||◌, ℕ, zero, suc, ◌+◌, ◌<◌, ◌≤◌, Bool, true, false, List, [], ◌∷◌, ◌++◌, length, replicate, Some, None, if◌then◌else◌, nat_lt, refl, sym, ap, ◌∙◌, subst, append_assoc, append-nil, add-suc, arith}
use Rattle.std.proofs.lemmas.Bool.Decides.{nat_tests}
use Rattle.lua_tree.specs.Outline.{Binding, Mark, mention, local_name, hidden_local, reaching}
use Rattle.std.specs.Option.{option_or}
use Rattle.lua_tree.specs.Scoping.{inside_of, is_one_of, upvalues_behind, upvalues_of, outer_functions, uses_among, uses_of, is_captured, sources_of, Breach, too_many_locals, above, breach_at, first_breach}
use Rattle.lua_tree.specs.Resolved.{declarations_in, functions_in, captured_below, upvalues_below}
use Rattle.scopes.specs.Uses.{uses_of_functions, source_uses}
use Rattle.scopes.specs.Standing.{AreNested, AreWellMade, HaveUpvalues, numbers_of}
use Rattle.scopes.specs.declared.uses.Captures.{Captures}
use Rattle.scopes.proofs.Marks.{upvalues_both, declarations_both, captured_both, uses_both, functions_are, nested_stays, outer_stays}
use Rattle.scopes.proofs.Known.{equal_numbers, and_first, upvalues_grown, are_known, uses_stay, sources_stay}

abbrev pub Quiet : List Mark → Type 0
Quiet [] = Unit {0}
Quiet (mention line name means around ∷ marks) = ⊥
Quiet (mark ∷ marks) = Quiet marks

pub quiet_upvalues : (f : ℕ) (known : List Binding) (marks : List Mark) → Quiet marks → upvalues_behind f known marks ≡ known
quiet_upvalues f known [] quiet = refl
quiet_upvalues f known (mention line name means around ∷ marks) quiet = absurd quiet
quiet_upvalues f known (mark ∷ marks) quiet = quiet_upvalues f known marks quiet

pub quiet_uses : (all marks : List Mark) → Quiet marks → uses_among all marks ≡ []
quiet_uses all [] quiet = refl
quiet_uses all (mention line name means around ∷ marks) quiet = absurd quiet
quiet_uses all (mark ∷ marks) quiet = quiet_uses all marks quiet

pub quiet_captured : (declaration : ℕ) (marks : List Mark) → Quiet marks → is_captured declaration marks ≡ false
quiet_captured declaration [] quiet = refl
quiet_captured declaration (mention line name means around ∷ marks) quiet = absurd quiet
quiet_captured declaration (mark ∷ marks) quiet = quiet_captured declaration marks quiet

pub quiet_made : (all marks : List Mark) → Quiet marks → AreWellMade all marks
quiet_made all [] quiet = tt
quiet_made all (mention line name means around ∷ marks) quiet = absurd quiet
quiet_made all (mark ∷ marks) quiet = quiet_made all marks quiet

pub quiet_both : (one other : List Mark) → Quiet one → Quiet other → Quiet (one ++ other)
quiet_both [] other q r = r
quiet_both (mention line name means around ∷ one) other q r = absurd q
quiet_both (mark ∷ one) other q r = quiet_both one other q r

-- locals that are declared
pub hidden_quiet : (line active count : ℕ) → Quiet (reaching (hidden_local line) active count)
hidden_quiet line active zero = tt
hidden_quiet line active (suc count) = hidden_quiet line (suc active) count

pub names_quiet : (line active count : ℕ) → Quiet (reaching (local_name line) active count)
names_quiet line active zero = tt
names_quiet line active (suc count) = names_quiet line (suc active) count

pub hidden_outer : (line active count : ℕ) → outer_functions (reaching (hidden_local line) active count) ≡ []
hidden_outer line active zero = refl
hidden_outer line active (suc count) = hidden_outer line (suc active) count

pub names_outer : (line active count : ℕ) → outer_functions (reaching (local_name line) active count) ≡ []
names_outer line active zero = refl
names_outer line active (suc count) = names_outer line (suc active) count

pub hidden_declarations : (line active count : ℕ) → declarations_in (reaching (hidden_local line) active count) ≡ 0
hidden_declarations line active zero = refl
hidden_declarations line active (suc count) = hidden_declarations line (suc active) count

pub names_declarations : (line active count : ℕ) → declarations_in (reaching (local_name line) active count) ≡ count
names_declarations line active zero = refl
names_declarations line active (suc count) = ap suc (names_declarations line (suc active) count)

pub none_above : (most reached : ℕ) (breach : Breach) → reached ≤ most → above most reached breach ≡ None
none_above most reached breach within =
    let e : nat_lt most reached ≡ false = grind (arith, nat_tests) in
    ap (λ t. if t then Some breach else None) e

-- marks of locals, as many as a function may have
abbrev pub Reaches : (ℕ → Mark) → ℕ → Type 0
Reaches mark line = (before : List Mark) (n : ℕ) → breach_at before (mark n) ≡ above 200 n (too_many_locals line n)

pub reach_few : (mark : ℕ → Mark) (line : ℕ) → Reaches mark line → (count active : ℕ) (before : List Mark) → active + count ≤ 200 → first_breach before (reaching mark active count) ≡ None
reach_few mark line h zero active before few = refl
reach_few mark line h (suc count) active before few =
    ap (λ breach. option_or breach (first_breach (before ++ mark (suc active) ∷ []) (reaching mark (suc active) count))) (h before (suc active) ∙ none_above 200 (suc active) _ (omega arith))
    ∙ reach_few mark line h count (suc active) _ (omega arith)

-- what marks mention is well made behind others too
pub made_more : (all more marks : List Mark) → AreWellMade all marks → AreWellMade (all ++ more) marks
made_more all more [] made = tt
made_more all more (mention line name (Some binding) around ∷ marks) made =
    (omega (arith, made.0, declarations_both all more), nested_stays around all more made.1, made_more all more marks made.2)
made_more all more (mark ∷ marks) made = made_more all more marks made

pub made_both : (all one other : List Mark) → AreWellMade all one → AreWellMade all other → AreWellMade all (one ++ other)
made_both all [] other made more = more
made_both all (mention line name (Some binding) around ∷ one) other made more = (made.0, made.1, made_both all one other made.2 more)
made_both all (mark ∷ one) other made more = made_both all one other made more

-- functions whose upvalues stay
pub upvalues_kept : (f : ℕ) (functions : List Captures) (marks more : List Mark) → ((g : ℕ) → upvalues_of g more ≡ upvalues_of g marks) → HaveUpvalues f functions marks → HaveUpvalues f functions more
upvalues_kept f [] marks more same have = tt
upvalues_kept f (captures ∷ functions) marks more same have =
    (have.0 ∙ ap numbers_of (sym (same f)), have.1, upvalues_kept (suc f) functions marks more same have.2)

pub sources_kept : (n : ℕ) (marks more : List Mark) → n ≤ functions_in marks → AreWellMade marks marks → ((g : ℕ) → upvalues_of g (marks ++ more) ≡ upvalues_of g marks) →
    upvalues_below n (marks ++ more) ≡ upvalues_below n marks
sources_kept zero marks more within made same = refl
sources_kept (suc n) marks more within made same =
    ap (λ x. x ++ sources_of n (marks ++ more) ∷ []) (sources_kept n marks more (omega arith) made same) ∙
    ap (λ x. upvalues_below n marks ++ x ∷ []) (sources_stay n marks (marks ++ more) (outer_stays n marks more (omega arith)) (same n) (λ f. upvalues_grown f marks more) made)

-- the last function has no upvalues yet
outside : (t : Bool) (f g : ℕ) (rest : List ℕ) → is_one_of f rest ≡ false → g < f → is_one_of f (if t then [] else g ∷ rest) ≡ false
outside true f g rest none below = refl
outside false f g rest none below =
    let e : (f == g) ≡ false = grind (arith, nat_tests) in
    ap (λ t. t || is_one_of f rest) e ∙ none

nested_below : (f home : ℕ) (around : List ℕ) (all : List Mark) → AreNested around all → functions_in all ≤ f → is_one_of f (inside_of home around) ≡ false
nested_below f home [] all nested within = absurd nested
nested_below f home (g ∷ []) all nested within = outside (g == home) f g [] refl (omega (arith, functions_are all))
nested_below f home (g ∷ k ∷ around) all nested within = outside (g == home) f g (inside_of home (k ∷ around)) (nested_below f home (k ∷ around) all nested.3 within) (omega (arith, nested.1))

pub no_upvalues : (f : ℕ) (all marks : List Mark) → AreWellMade all marks → functions_in all ≤ f → upvalues_behind f [] marks ≡ []
no_upvalues f all [] made within = refl
no_upvalues f all (mention line name (Some binding) around ∷ marks) made within =
    ap (λ t. upvalues_behind f (if t && true then binding ∷ [] else []) marks) (nested_below f binding.home around all made.1 within) ∙ no_upvalues f all marks made.2 within
no_upvalues f all (mark ∷ marks) made within = no_upvalues f all marks made within

-- declarations that are captured
uncaptured : (t c : Bool) → (t ≡ true → ⊥) → c ≡ false → (t || c) ≡ false
uncaptured true c differ none = absurd (differ refl)
uncaptured false c differ none = none

pub not_captured : (declaration : ℕ) (all marks : List Mark) → AreWellMade all marks → declarations_in all ≤ declaration → is_captured declaration marks ≡ false
not_captured declaration all [] made within = refl
not_captured declaration all (mention line name (Some binding) around ∷ marks) made within =
    uncaptured _ (is_captured declaration marks)
    (λ h. let e : binding.declaration ≡ declaration = equal_numbers binding.declaration declaration (and_first (binding.declaration == declaration) _ h) in omega (arith, made.0))
    (not_captured declaration all marks made.2 within)
not_captured declaration all (mark ∷ marks) made within = not_captured declaration all marks made within

replicate_last : (count : ℕ) → replicate count false ++ false ∷ [] ≡ false ∷ replicate count false
replicate_last zero = refl
replicate_last (suc count) = ap (λ x. false ∷ x) (replicate_last count)

pub captured_more : (n count : ℕ) (marks : List Mark) → AreWellMade marks marks → declarations_in marks ≡ n → captured_below (n + count) marks ≡ captured_below n marks ++ replicate count false
captured_more n zero marks made is =
    let e : n + 0 ≡ n = omega arith in
    ap (λ x. captured_below x marks) e ∙ sym (append-nil (captured_below n marks))
captured_more n (suc count) marks made is =
    ap (λ x. captured_below x marks) (add-suc n count) ∙
    ap (λ x. captured_below (n + count) marks ++ x ∷ []) (not_captured (n + count) marks marks made (omega arith)) ∙
    ap (λ x. x ++ false ∷ []) (captured_more n count marks made is) ∙
    append_assoc (captured_below n marks) (replicate count false) (false ∷ []) ∙
    ap (λ x. captured_below n marks ++ x) (replicate_last count)

pub or_false : (t : Bool) → (t || false) ≡ t
or_false true = refl
or_false false = refl

pub captured_kept : (n : ℕ) (marks more : List Mark) → Quiet more → captured_below n (marks ++ more) ≡ captured_below n marks
captured_kept zero marks more quiet = refl
captured_kept (suc n) marks more quiet =
    ap (λ x. x ++ is_captured n (marks ++ more) ∷ []) (captured_kept n marks more quiet) ∙
    ap (λ x. captured_below n marks ++ x ∷ []) (captured_both n marks more ∙ ap (λ x. is_captured n marks || x) (quiet_captured n more quiet) ∙ or_false (is_captured n marks))

-- nothing that is mentioned changes
pub upvalues_quiet : (f : ℕ) (marks more : List Mark) → Quiet more → upvalues_of f (marks ++ more) ≡ upvalues_of f marks
upvalues_quiet f marks more quiet = upvalues_both f [] marks more ∙ quiet_upvalues f (upvalues_of f marks) more quiet

pub uses_quiet : (marks more : List Mark) → Quiet more → AreWellMade marks marks → uses_of (marks ++ more) ≡ uses_of marks
uses_quiet marks more quiet made =
    uses_both (marks ++ more) marks more ∙
    ap (λ x. uses_among (marks ++ more) marks ++ x) (quiet_uses (marks ++ more) more quiet) ∙
    append-nil (uses_among (marks ++ more) marks) ∙
    uses_stay marks (marks ++ more) marks (λ f. upvalues_grown f marks more) made (are_known [] marks marks refl)

-- one function more
pub upvalues_opened : (f : ℕ) (functions : List Captures) (empty : Captures) (marks : List Mark) → HaveUpvalues f functions marks → empty.declarations.items ≡ [] → upvalues_of (f + length functions) marks ≡ [] →
    HaveUpvalues f (functions ++ empty ∷ []) marks
upvalues_opened f [] empty marks have none fresh =
    let e : f + 0 ≡ f = omega arith in
    (none ∙ ap numbers_of (sym (subst (λ n. upvalues_of n marks ≡ []) e fresh)), subst (λ (x : List ℕ). length x ≤ 60) (sym none) (omega arith), tt)
upvalues_opened f (captures ∷ functions) empty marks have none fresh =
    let e : f + suc (length functions) ≡ suc f + length functions = omega arith in
    (have.0, have.1, upvalues_opened (suc f) functions empty marks have.2 none (subst (λ n. upvalues_of n marks ≡ []) e fresh))

pub sources_opened : (functions : List Captures) (empty : Captures) → empty.sources.items ≡ [] → uses_of_functions (functions ++ empty ∷ []) ≡ uses_of_functions functions ++ [] ∷ []
sources_opened [] empty none = ap (λ x. source_uses x ∷ []) none
sources_opened (captures ∷ functions) empty none = ap (λ x. source_uses captures.sources.items ∷ x) (sources_opened functions empty none)
