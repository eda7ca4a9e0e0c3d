-- A whole tree: where its walk begins, and what its answers are.
use Rattle.std.proofs.Common.{◌≡◌, refl, sym, ap, subst, ◌∙◌, true, List, [], ◌∷◌, ◌++◌, Some, None, Ok, Err, arith}
use Rattle.scopes.specs.declared.fault.ScopeFault.{ScopeFault}
use Rattle.lua_tree.specs.Syntax.{Source}
use Rattle.lua_tree.specs.Outline.{Binding, Mark, beginning, statements_part, outline}
use Rattle.scopes.specs.declared.resolver.Resolver.{Resolver}
use Rattle.scopes.specs.declared.uses.Captures.{Captures}
use Rattle.lua_tree.specs.Resolved.{resolved_by, declarations_in, functions_in, captured_below, upvalues_below}
use Rattle.scopes.specs.Uses.{uses_of_names, uses_of_functions}
use Rattle.scopes.specs.Faults.{StopsBy}
use Rattle.scopes.specs.Standing.{HaveUpvalues, Sound, Answers, Stands, Goes, Opened}

-- nothing was resolved yet
pub record Begins (r : Resolver) : Type 0 where
  pub locals : r.locals.items ≡ []
  pub stack : r.stack.items ≡ []
  pub names : r.names.items ≡ []
  pub captured : r.captured.items ≡ []
  pub functions : r.functions.items ≡ []

no_upvalues : (empty : Captures) → empty.declarations.items ≡ [] → HaveUpvalues 0 (empty ∷ []) []
no_upvalues empty none = (none, rw none (omega arith), tt)

answers_beginning : (old new : Resolver) → Begins old → Opened old new true → Answers new []
answers_beginning old new b o =
    let functions : new.functions.items ≡ o.empty ∷ [] = o.functions ∙ ap (λ x. x ++ o.empty ∷ []) b.functions in
    let captured : new.captured.items ≡ [] = ap (λ v. v.items) o.captured ∙ b.captured in
    record {
      keeps = refl;
      well_made = tt;
      declarations = rw captured refl;
      functions = rw functions refl;
      names = ap uses_of_names (ap (λ v. v.items) o.names ∙ b.names);
      captured = rw captured refl;
      upvalues = subst (λ (all : List Captures). HaveUpvalues 0 all []) (sym functions) (no_upvalues o.empty o.no_declarations);
      sources = rw (functions, o.no_sources) refl;
    }

no_binding : {binding : Binding} → None ≡ Some binding → ⊥
no_binding e = cc

pub stands_beginning : {old new : Resolver} → Begins old → Opened old new true → Stands new [] beginning
stands_beginning {old} {new} b o =
    let functions : new.functions.items ≡ o.empty ∷ [] = o.functions ∙ ap (λ x. x ++ o.empty ∷ []) b.functions in
    let captured : new.captured.items ≡ [] = ap (λ v. v.items) o.captured ∙ b.captured in
    let locals : new.locals.items ≡ [] = ap (λ v. v.items) o.locals ∙ b.locals in
    record {
      answers = answers_beginning old new b o;
      surrounds = record {
        scope = λ name. rw locals refl;
        around = rw (o.stack, b.stack, b.functions) refl;
        nested = refl;
        homes = λ name binding e. absurd (no_binding e);
        vararg = sym o.vararg;
        looped = sym o.looped;
        active = sym o.active;
        declarations = rw captured refl;
        functions = rw functions refl;
      };
    }

-- the answers behind a whole tree
pub answers_resolved : (r : Resolver) (marks : List Mark) → Answers r marks →
    record { names = uses_of_names r.names.items; captured = r.captured.items; upvalues = uses_of_functions r.functions.items } ≡ resolved_by marks
answers_resolved r marks a =
    let captured : r.captured.items ≡ captured_below (declarations_in marks) marks = a.captured ∙ ap (λ n. captured_below n marks) (sym a.declarations) in
    let upvalues : uses_of_functions r.functions.items ≡ upvalues_below (functions_in marks) marks = a.sources ∙ ap (λ n. upvalues_below n marks) (sym a.functions) in
    rw (a.names, captured, upvalues) refl

-- a whole tree that is walked
pub answers_whole : {old new end : Resolver} (source : Source) → Begins old → Opened old new true → Sound new → Goes (statements_part source.body) new end (Ok tt) → Answers end (outline source)
answers_whole source b o sound g = (g.goes [] beginning sound (stands_beginning b o)).answers

pub breach_whole : {old new end : Resolver} {fault : ScopeFault} (source : Source) → Begins old → Opened old new true → Sound new → Goes (statements_part source.body) new end (Err fault) → StopsBy source fault
breach_whole source b o sound g = g.goes [] beginning sound (stands_beginning b o)
