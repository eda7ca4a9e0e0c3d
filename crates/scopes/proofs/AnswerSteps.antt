-- The answers so far, as marks come behind the marks so far.
use Rattle.std.proofs.Common.{◌≡◌, ℕ, suc, ◌+◌, ◌≤◌, Bool, true, false, List, [], ◌∷◌, ◌++◌, length, replicate, None, refl, sym, ap, ◌∙◌, subst, append-nil, length-append, arith}
use Rattle.std.proofs.lemmas.List.{length-replicate}
use Rattle.lua_tree.specs.Outline.{Mark, local_name, hidden_local, dots, leave, opened, reaching}
use Rattle.std.specs.Option.{option_or}
use Rattle.lua_tree.specs.Scoping.{first_breach, outer_functions, outer_of, upvalues_of, uses_of, uses_by}
use Rattle.lua_tree.specs.Resolved.{functions_in, captured_below, upvalues_below, declarations_in}
use Rattle.scopes.specs.Uses.{uses_of_names, uses_of_functions}
use Rattle.scopes.specs.Standing.{AreWellMade, Answers, HaveUpvalues, Declared, Opened}
use Rattle.scopes.specs.declared.resolver.Resolver.{Resolver}
use Rattle.scopes.proofs.Marks.{breach_of_both, functions_are, outer_both, declarations_both}
use Rattle.scopes.proofs.Quiet.{Quiet, quiet_made, quiet_both, hidden_quiet, names_quiet, hidden_outer, names_outer, hidden_declarations, names_declarations, reach_few, made_more, made_both, upvalues_kept, sources_kept, no_upvalues, captured_more, captured_kept, upvalues_quiet, uses_quiet, upvalues_opened, sources_opened}

-- the answers are those of the lists that hold them
pub answers_same : (old new : Resolver) (marks : List Mark) → Answers old marks → new.names ≡ old.names → new.captured ≡ old.captured → new.functions ≡ old.functions → Answers new marks
answers_same old new marks answers names captured functions = record {
  keeps = answers.keeps;
  well_made = answers.well_made;
  declarations = subst (λ x. declarations_in marks ≡ length x.items) (sym captured) answers.declarations;
  functions = subst (λ x. functions_in marks ≡ length x.items) (sym functions) answers.functions;
  names = subst (λ x. uses_of_names x.items ≡ uses_of marks) (sym names) answers.names;
  captured = subst (λ x. x.items ≡ captured_below (length x.items) marks) (sym captured) answers.captured;
  upvalues = subst (λ x. HaveUpvalues 0 x.items marks) (sym functions) answers.upvalues;
  sources = subst (λ x. uses_of_functions x.items ≡ upvalues_below (length x.items) marks) (sym functions) answers.sources;
}

-- marks that keep the rules come behind
keeps_both : (marks more : List Mark) → first_breach [] marks ≡ None → first_breach marks more ≡ None → first_breach [] (marks ++ more) ≡ None
keeps_both marks more keeps fits = breach_of_both [] marks more ∙ ap (λ x. option_or x (first_breach marks more)) keeps ∙ fits

made_quiet : (marks more : List Mark) → Quiet more → AreWellMade marks marks → AreWellMade (marks ++ more) (marks ++ more)
made_quiet marks more quiet made = made_both (marks ++ more) marks more (made_more marks more marks made) (quiet_made (marks ++ more) more quiet)

-- marks that mention nothing and open no function
answers_quiet : (old new : Resolver) (marks more : List Mark) (count : ℕ) → Answers old marks → Quiet more → outer_functions more ≡ [] → first_breach marks more ≡ None → declarations_in more ≡ count →
    new.captured.items ≡ old.captured.items ++ replicate count false → new.names ≡ old.names → new.functions ≡ old.functions → Answers new (marks ++ more)
answers_quiet old new marks more count answers quiet none fits counted captured names functions =
    let longer : length new.captured.items ≡ length old.captured.items + count = ap length captured ∙ length-append old.captured.items (replicate count false) ∙ ap (λ x. length old.captured.items + x) (length-replicate count false) in
    let same_functions : functions_in (marks ++ more) ≡ functions_in marks =
    functions_are (marks ++ more) ∙ ap (λ x. suc (length x)) (outer_both marks more ∙ ap (λ x. outer_functions marks ++ x) none ∙ append-nil (outer_functions marks)) ∙ sym (functions_are marks) in
    record {
      keeps = keeps_both marks more answers.keeps fits;
      well_made = made_quiet marks more quiet answers.well_made;
      declarations = declarations_both marks more ∙ ap (λ x. x + declarations_in more) answers.declarations ∙ ap (λ x. length old.captured.items + x) counted ∙ sym longer;
      functions = same_functions ∙ answers.functions ∙ ap (λ x. length x.items) (sym functions);
      names = subst (λ x. uses_of_names x.items ≡ uses_of (marks ++ more)) (sym names) (answers.names ∙ sym (uses_quiet marks more quiet answers.well_made));
      captured = captured ∙ ap (λ x. x ++ replicate count false) answers.captured ∙ sym (captured_more (length old.captured.items) count marks answers.well_made answers.declarations) ∙
          sym (captured_kept (length old.captured.items + count) marks more quiet) ∙ ap (λ x. captured_below x (marks ++ more)) (sym longer);
      upvalues = subst (λ x. HaveUpvalues 0 x.items (marks ++ more)) (sym functions) (upvalues_kept 0 old.functions.items marks (marks ++ more) (λ g. upvalues_quiet g marks more quiet) answers.upvalues);
      sources = subst (λ x. uses_of_functions x.items ≡ upvalues_below (length x.items) (marks ++ more)) (sym functions)
          (answers.sources ∙ sym (sources_kept (length old.functions.items) marks more (omega (arith, answers.functions)) answers.well_made (λ g. upvalues_quiet g marks more quiet)));
    }

-- `...`, a break, and locals
pub answers_dots : (r : Resolver) (marks : List Mark) (line : ℕ) → Answers r marks → Answers r (marks ++ dots line true ∷ [])
answers_dots r marks line answers = answers_quiet r r marks (dots line true ∷ []) 0 answers tt refl refl refl (sym (append-nil r.captured.items)) refl refl

pub answers_leave : (r : Resolver) (marks : List Mark) (line : ℕ) → Answers r marks → Answers r (marks ++ leave line true ∷ [])
answers_leave r marks line answers = answers_quiet r r marks (leave line true ∷ []) 0 answers tt refl refl refl (sym (append-nil r.captured.items)) refl refl

pub answers_declared : (old new : Resolver) (marks : List Mark) (line hidden count : ℕ) → Answers old marks → Declared old new count → old.here.active + hidden + count ≤ 200 →
    Answers new (marks ++ (reaching (hidden_local line) old.here.active hidden ++ reaching (local_name line) (old.here.active + hidden) count))
answers_declared old new marks line hidden count answers declared within =
    let first : List Mark = reaching (hidden_local line) old.here.active hidden in
    let second : List Mark = reaching (local_name line) (old.here.active + hidden) count in
    answers_quiet old new marks (first ++ second) count answers
    (quiet_both first second (hidden_quiet line old.here.active hidden) (names_quiet line (old.here.active + hidden) count))
    (outer_both first second ∙ ap (λ x. x ++ outer_functions second) (hidden_outer line old.here.active hidden) ∙ names_outer line (old.here.active + hidden) count)
    (breach_of_both marks first second ∙ ap (λ x. option_or x (first_breach (marks ++ first) second)) (reach_few (hidden_local line) line (λ before n. refl) hidden old.here.active marks (omega arith)) ∙
    reach_few (local_name line) line (λ before n. refl) count (old.here.active + hidden) (marks ++ first) within)
    (declarations_both first second ∙ ap (λ x. x + declarations_in second) (hidden_declarations line old.here.active hidden) ∙ omega (arith, names_declarations line (old.here.active + hidden) count))
    declared.captured declared.names declared.functions

-- a function is opened
pub answers_opened : (old new : Resolver) (marks : List Mark) (extra : Bool) (outer : ℕ) → Answers old marks → Opened old new extra → Answers new (marks ++ opened outer ∷ [])
answers_opened old new marks extra outer answers is =
    let more : List Mark = opened outer ∷ [] in
    let longer : length new.functions.items ≡ suc (length old.functions.items) = omega (arith, ap length is.functions, length-append old.functions.items (is.empty ∷ [])) in
    let one_more : functions_in (marks ++ more) ≡ suc (functions_in marks) =
    functions_are (marks ++ more) ∙ ap suc (omega (arith, ap length (outer_both marks more), length-append (outer_functions marks) (outer ∷ []), functions_are marks)) in
    let start : length old.functions.items ≡ 0 + length old.functions.items = omega arith in
    let fresh : upvalues_of (length old.functions.items) (marks ++ more) ≡ [] =
    upvalues_quiet (length old.functions.items) marks more tt ∙ no_upvalues (length old.functions.items) marks marks answers.well_made (omega (arith, answers.functions)) in
    record {
      keeps = keeps_both marks more answers.keeps refl;
      well_made = made_quiet marks more tt answers.well_made;
      declarations = subst (λ x. declarations_in (marks ++ more) ≡ length x.items) (sym is.captured) (omega (arith, declarations_both marks more, answers.declarations));
      functions = one_more ∙ ap suc answers.functions ∙ sym longer;
      names = subst (λ x. uses_of_names x.items ≡ uses_of (marks ++ more)) (sym is.names) (answers.names ∙ sym (uses_quiet marks more tt answers.well_made));
      captured = subst (λ x. x.items ≡ captured_below (length x.items) (marks ++ more)) (sym is.captured) (answers.captured ∙ sym (captured_kept (length old.captured.items) marks more tt));
      upvalues = subst (λ x. HaveUpvalues 0 x (marks ++ more)) (sym is.functions)
          (upvalues_opened 0 old.functions.items is.empty (marks ++ more) (upvalues_kept 0 old.functions.items marks (marks ++ more) (λ g. upvalues_quiet g marks more tt) answers.upvalues) is.no_declarations
          (subst (λ n. upvalues_of n (marks ++ more) ≡ []) start fresh));
      sources = ap uses_of_functions is.functions ∙ sources_opened old.functions.items is.empty is.no_sources ∙
          ap (λ x. x ++ [] ∷ []) (answers.sources ∙ sym (sources_kept (length old.functions.items) marks more (omega (arith, answers.functions)) answers.well_made (λ g. upvalues_quiet g marks more tt))) ∙
          ap (λ x. upvalues_below (length old.functions.items) (marks ++ more) ++ uses_by (outer_of (length old.functions.items) (marks ++ more)) (marks ++ more) x ∷ []) (sym fresh) ∙
          ap (λ x. upvalues_below x (marks ++ more)) (sym longer);
    }
