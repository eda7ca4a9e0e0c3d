-- The answers behind a mention.
use Rattle.std.proofs.Common.{◌≡◌, ◌==◌, ◌&&◌, ◌||◌, ℕ, zero, suc, ◌<◌, Bool, true, false, not, List, [], ◌∷◌, ◌++◌, length, reverse, Option, Some, None, if◌then◌else◌, refl, sym, ap, ◌∙◌, subst, length-append, append-nil, arith}
use Rattle.std.proofs.Math.ListN.{set, length-set}
use Rattle.std.proofs.lemmas.Bool.Decides.{nat_tests}
use Rattle.lua_num.specs.Bytes.{Text}
use Rattle.lua_tree.specs.Outline.{Binding, Mark, mention, innermost}
use Rattle.std.specs.Option.{option_or}
use Rattle.lua_tree.specs.Scoping.{inside_of, is_one_of, upvalues_of, slot_of, outer_functions, local_use, upvalue_use, global_use, uses_among, is_captured, first_breach}
use Rattle.lua_tree.specs.Resolved.{declarations_in, functions_in, captured_below, upvalues_below}
use Rattle.scopes.specs.Uses.{use_of, source_use, uses_of_names, uses_of_functions}
use Rattle.scopes.specs.Standing.{binding_of, AreNested, AreWellMade, HaveUpvalues, Answers}
use Rattle.scopes.specs.Capturing.{Reached, name_use, captured_by, Used}
use Rattle.scopes.specs.declared.resolver.Resolver.{Resolver}
use Rattle.scopes.specs.declared.uses.Binding.{Binding as Bound}
use Rattle.scopes.specs.declared.uses.NameUse.{NameUse}
use Rattle.scopes.specs.declared.uses.Source.{Source}
use Rattle.scopes.proofs.Marks.{upvalues_both, outer_both, declarations_both, captured_both, uses_both, functions_are, breach_of_both}
use Rattle.scopes.proofs.Quiet.{made_more, made_both, upvalues_kept, sources_kept, or_false}
use Rattle.scopes.proofs.Known.{upvalues_grown, are_known, uses_stay}
use Rattle.scopes.proofs.States.{all_at, have_upvalues, have_all_sources}
use Rattle.scopes.proofs.Reaching.{mentioned, made_mentioned, Mentioned, reached_is}
use Rattle.scopes.proofs.Overfull.{few_everywhere, no_breach}

-- one name more
pub names_last : (names : List NameUse) (name : NameUse) → uses_of_names (names ++ name ∷ []) ≡ uses_of_names names ++ use_of name ∷ []
names_last [] name = refl
names_last (first ∷ names) name = ap (λ x. use_of first ∷ x) (names_last names name)

pub name_of_source : (source : Source) → use_of (name_use source) ≡ source_use source
name_of_source (Source.Local declaration) = refl
name_of_source (Source.Upvalue slot) = refl

-- one declaration is captured
set_last_zero : (n : ℕ) → (0 == suc n) ≡ false
set_last_zero n = grind (arith, nat_tests)

set_last_suc : (n m : ℕ) (t : Bool) → (n == m) ≡ t → (suc n == suc m) ≡ t
set_last_suc n m true e = grind (arith, nat_tests)
set_last_suc n m false e = grind (arith, nat_tests)

suc_not_zero : (n : ℕ) → (suc n == 0) ≡ false
suc_not_zero n = grind (arith, nat_tests)

set_last : (xs : List Bool) (x : Bool) (d : ℕ) → set (xs ++ x ∷ []) d true ≡ set xs d true ++ (if d == length xs then true else x) ∷ []
set_last [] x zero = refl
set_last [] x (suc d) = ap (λ t. (if t then true else x) ∷ []) (sym (suc_not_zero d))
set_last (y ∷ xs) x zero = ap (λ t. true ∷ xs ++ (if t then true else x) ∷ []) (sym (set_last_zero (length xs)))
set_last (y ∷ xs) x (suc d) =
    ap (λ z. y ∷ z) (set_last xs x d) ∙ ap (λ t. y ∷ set xs d true ++ (if t then true else x) ∷ []) (sym (set_last_suc d (length xs) (d == length xs) refl))

below_length : (n : ℕ) (marks : List Mark) → length (captured_below n marks) ≡ n
below_length zero marks = refl
below_length (suc n) marks = length-append (captured_below n marks) (is_captured n marks ∷ []) ∙ omega (arith, below_length n marks)

not_here : (x : Bool) → ((x && false) || false) ≡ false
not_here true = refl
not_here false = refl

is_here : (p x : Bool) → (p || ((x && true) || false)) ≡ (if x then true else p)
is_here true true = refl
is_here true false = refl
is_here false true = refl
is_here false false = refl

captured_one : (i : ℕ) (marks : List Mark) (line : ℕ) (name : Text) (b : Binding) (around : List ℕ) (t : Bool) → (b.home == innermost around) ≡ t →
    is_captured i (mentioned marks line name b around) ≡ is_captured i marks || (((b.declaration == i) && not t) || false)
captured_one i marks line name b around t e =
    captured_both i marks (mention line name (Some b) around ∷ []) ∙ ap (λ t. is_captured i marks || (((b.declaration == i) && not t) || false)) e

captured_local : (n : ℕ) (marks : List Mark) (line : ℕ) (name : Text) (b : Binding) (around : List ℕ) → (b.home == innermost around) ≡ true → captured_below n (mentioned marks line name b around) ≡ captured_below n marks
captured_local zero marks line name b around e = refl
captured_local (suc n) marks line name b around e =
    ap (λ x. x ++ is_captured n (mentioned marks line name b around) ∷ []) (captured_local n marks line name b around e) ∙
    ap (λ x. captured_below n marks ++ x ∷ []) (captured_one n marks line name b around true e ∙ ap (λ x. is_captured n marks || x) (not_here (b.declaration == n)) ∙ or_false (is_captured n marks))

captured_upvalue : (n : ℕ) (marks : List Mark) (line : ℕ) (name : Text) (b : Binding) (around : List ℕ) → (b.home == innermost around) ≡ false →
    captured_below n (mentioned marks line name b around) ≡ set (captured_below n marks) b.declaration true
captured_upvalue zero marks line name b around e = refl
captured_upvalue (suc n) marks line name b around e =
    ap (λ x. x ++ is_captured n (mentioned marks line name b around) ∷ []) (captured_upvalue n marks line name b around e) ∙
    ap (λ x. set (captured_below n marks) b.declaration true ++ x ∷ []) (captured_one n marks line name b around false e ∙ is_here (is_captured n marks) (b.declaration == n)) ∙
    ap (λ k. set (captured_below n marks) b.declaration true ++ (if b.declaration == k then true else is_captured n marks) ∷ []) (sym (below_length n marks)) ∙
    sym (set_last (captured_below n marks) (is_captured n marks) b.declaration)

captured_source : (n : ℕ) (marks : List Mark) (line : ℕ) (name : Text) (b : Binding) (around : List ℕ) (source : Source) (slot : ℕ) (t : Bool) → (b.home == innermost around) ≡ t →
    source_use source ≡ (if t then local_use b.declaration else upvalue_use slot) → captured_by source b.declaration (captured_below n marks) ≡ captured_below n (mentioned marks line name b around)
captured_source n marks line name b around (Source.Local number) slot true e is = sym (captured_local n marks line name b around e)
captured_source n marks line name b around (Source.Local number) slot false e is = cc
captured_source n marks line name b around (Source.Upvalue number) slot true e is = cc
captured_source n marks line name b around (Source.Upvalue number) slot false e is = sym (captured_upvalue n marks line name b around e)

captured_length : (source : Source) (declaration : ℕ) (captured : List Bool) → length (captured_by source declaration captured) ≡ length captured
captured_length (Source.Local number) declaration captured = refl
captured_length (Source.Upvalue slot) declaration captured = length-set captured declaration true

-- a mention opens and declares nothing
pub functions_mentioned : (marks : List Mark) (line : ℕ) (name : Text) (means : Option Binding) (around : List ℕ) → functions_in (marks ++ mention line name means around ∷ []) ≡ functions_in marks
functions_mentioned marks line name means around =
    functions_are (marks ++ mention line name means around ∷ []) ∙
    ap (λ x. suc (length x)) (outer_both marks (mention line name means around ∷ []) ∙ append-nil (outer_functions marks)) ∙ sym (functions_are marks)

pub declarations_mentioned : (marks : List Mark) (line : ℕ) (name : Text) (means : Option Binding) (around : List ℕ) → declarations_in (marks ++ mention line name means around ∷ []) ≡ declarations_in marks
declarations_mentioned marks line name means around = omega (arith, declarations_both marks (mention line name means around ∷ []))

keeps_one : (marks : List Mark) (mark : Mark) → first_breach [] marks ≡ None → first_breach marks (mark ∷ []) ≡ None → first_breach [] (marks ++ mark ∷ []) ≡ None
keeps_one marks mark keeps fits = breach_of_both [] marks (mark ∷ []) ∙ ap (λ x. option_or x (first_breach marks (mark ∷ []))) keeps ∙ fits

-- a declaration is mentioned
pub answers_mentioned : (old between new : Resolver) (marks : List Mark) (line : ℕ) (name : Text) (b : Bound) (around : List ℕ) (used : NameUse) → Answers old marks → around ≡ reverse old.stack.items → AreNested around marks → is_one_of b.home around ≡ true →
    b.declaration < length old.captured.items → Used b old between used → new.names.items ≡ old.names.items ++ used ∷ [] → new.captured ≡ between.captured → new.functions ≡ between.functions →
    Answers new (mentioned marks line name (binding_of b) around)
answers_mentioned old between new marks line name b around used answers stack nested inside declared is_used names captured functions =
    let all : List Mark = mentioned marks line name (binding_of b) around in
    let low : b.declaration < declarations_in marks = omega (arith, answers.declarations) in
    let is : Mentioned old.functions.items between.functions.items all (innermost around) (binding_of b) is_used.source =
    reached_is marks line name b old.functions.items answers.well_made low answers.functions (all_at old.functions.items marks answers.upvalues answers.sources) around between.functions.items is_used.source nested inside
    (subst (λ x. Reached b x old.functions.items between.functions.items is_used.source) (sym stack) is_used.reached) in
    let made : AreWellMade all all = made_mentioned marks line name (binding_of b) around answers.well_made low nested in
    let count : functions_in all ≡ length between.functions.items = functions_mentioned marks line name (Some (binding_of b)) around ∙ answers.functions ∙ sym is.count in
    let length_is : length between.captured.items ≡ length old.captured.items = ap length is_used.captured ∙ captured_length is_used.source b.declaration old.captured.items in
    record {
      keeps = keeps_one marks (mention line name (Some (binding_of b)) around) answers.keeps
          (ap (λ x. option_or x None) (no_breach line all (inside_of b.home around) (λ f. few_everywhere f between.functions.items all made count is.are)));
      well_made = made;
      declarations = declarations_mentioned marks line name (Some (binding_of b)) around ∙ answers.declarations ∙ sym length_is ∙ ap (λ x. length x.items) (sym captured);
      functions = count ∙ ap (λ x. length x.items) (sym functions);
      names = ap uses_of_names names ∙ names_last old.names.items used ∙
          ap (λ x. x ++ use_of used ∷ []) (answers.names ∙ sym (uses_stay marks all marks (λ f. upvalues_grown f marks (mention line name (Some (binding_of b)) around ∷ [])) answers.well_made (are_known [] marks marks refl))) ∙
          ap (λ x. uses_among all marks ++ x ∷ []) (ap use_of is_used.is ∙ name_of_source is_used.source ∙ is.meant) ∙
          sym (uses_both all marks (mention line name (Some (binding_of b)) around ∷ []));
      captured = subst (λ x. x.items ≡ captured_below (length x.items) all) (sym captured)
          (is_used.captured ∙ ap (captured_by is_used.source b.declaration) answers.captured ∙
          captured_source (length old.captured.items) marks line name (binding_of b) around is_used.source (slot_of b.declaration (upvalues_of (innermost around) all)) (b.home == innermost around) refl is.meant ∙
          ap (λ n. captured_below n all) (sym length_is));
      upvalues = subst (λ x. HaveUpvalues 0 x.items all) (sym functions) (have_upvalues between.functions.items all is.are);
      sources = subst (λ x. uses_of_functions x.items ≡ upvalues_below (length x.items) all) (sym functions) (have_all_sources between.functions.items all is.are);
    }

-- a global is mentioned
captured_global : (n : ℕ) (marks : List Mark) (line : ℕ) (name : Text) (around : List ℕ) → captured_below n (marks ++ mention line name None around ∷ []) ≡ captured_below n marks
captured_global zero marks line name around = refl
captured_global (suc n) marks line name around =
    ap (λ x. x ++ is_captured n (marks ++ mention line name None around ∷ []) ∷ []) (captured_global n marks line name around) ∙
    ap (λ x. captured_below n marks ++ x ∷ []) (captured_both n marks (mention line name None around ∷ []) ∙ or_false (is_captured n marks))

pub answers_global : (old new : Resolver) (marks : List Mark) (line : ℕ) (name : Text) (around : List ℕ) → Answers old marks → new.names.items ≡ old.names.items ++ NameUse.Global ∷ [] → new.captured ≡ old.captured → new.functions ≡ old.functions →
    Answers new (marks ++ mention line name None around ∷ [])
answers_global old new marks line name around answers names captured functions =
    let more : List Mark = mention line name None around ∷ [] in
    record {
      keeps = keeps_one marks (mention line name None around) answers.keeps refl;
      well_made = made_both (marks ++ more) marks more (made_more marks more marks answers.well_made) tt;
      declarations = declarations_mentioned marks line name None around ∙ answers.declarations ∙ ap (λ x. length x.items) (sym captured);
      functions = functions_mentioned marks line name None around ∙ answers.functions ∙ ap (λ x. length x.items) (sym functions);
      names = ap uses_of_names names ∙ names_last old.names.items NameUse.Global ∙
          ap (λ x. x ++ global_use ∷ []) (answers.names ∙ sym (uses_stay marks (marks ++ more) marks (λ f. upvalues_grown f marks more) answers.well_made (are_known [] marks marks refl))) ∙
          sym (uses_both (marks ++ more) marks more);
      captured = subst (λ x. x.items ≡ captured_below (length x.items) (marks ++ more)) (sym captured) (answers.captured ∙ sym (captured_global (length old.captured.items) marks line name around));
      upvalues = subst (λ x. HaveUpvalues 0 x.items (marks ++ more)) (sym functions) (upvalues_kept 0 old.functions.items marks (marks ++ more) (λ g. upvalues_both g [] marks more) answers.upvalues);
      sources = subst (λ x. uses_of_functions x.items ≡ upvalues_below (length x.items) (marks ++ more)) (sym functions)
          (answers.sources ∙ sym (sources_kept (length old.functions.items) marks more (omega (arith, answers.functions)) answers.well_made (λ g. upvalues_both g [] marks more)));
    }
