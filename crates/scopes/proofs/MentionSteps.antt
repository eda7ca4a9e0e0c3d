-- What a name means among the names in scope, and a mention of it, from what the program's steps do.
use Rattle.std.proofs.Common.{◌≡◌, ◌⊎◌, inl, inr, ℕ, ◌<◌, Bool, true, false, List, [], ◌∷◌, ◌++◌, length, reverse, Option, Some, None, Result, Ok, Err, if◌then◌else◌, refl, sym, ap, ◌∙◌, subst, arith}
use Rattle.std.specs.Result.{IsErrAnd}
use Rattle.std.specs.Str.{bytes_eq}
use Rattle.std.specs.List.{All}
use Rattle.std.proofs.lemmas.List.Elements.{All-head, All-tail}
use Rattle.lua_num.specs.Bytes.{Text}
use Rattle.lua_tree.specs.Outline.{Binding, Place, Mark, mention, mentions}
use Rattle.std.specs.Option.{option_or}
use Rattle.lua_tree.specs.Scoping.{Breach, too_many_upvalues, first_breach}
use Rattle.scopes.specs.Faults.{IsBreach}
use Rattle.scopes.specs.Standing.{binding_of, later, lookup, Answers, Surrounds, Goes}
use Rattle.scopes.specs.Capturing.{Stuck, Used}
use Rattle.scopes.specs.declared.fault.ScopeFault.{ScopeFault}
use Rattle.scopes.specs.declared.resolver.Local.{Local}
use Rattle.scopes.specs.declared.resolver.Resolver.{Resolver}
use Rattle.scopes.specs.declared.uses.Binding.{Binding as Bound}
use Rattle.scopes.specs.declared.uses.NameUse.{NameUse}
use Rattle.scopes.proofs.Marks.{nested_stays}
use Rattle.scopes.proofs.States.{AreAt, all_at}
use Rattle.scopes.proofs.Reaching.{mentioned}
use Rattle.scopes.proofs.Overfull.{Overfull, stuck_is, overfull_breach}
use Rattle.scopes.proofs.Mentions.{functions_mentioned, declarations_mentioned, answers_mentioned, answers_global}

-- the latest of one name more
later_three : (one other third : Option Binding) → later (later one other) third ≡ later one (later other third)
later_three None other third = refl
later_three (Some binding) other third = refl

pub lookup_last : (locals : List Local) (one : Local) (name : Text) → lookup (locals ++ one ∷ []) name ≡ later (if bytes_eq one.name.now name then Some (binding_of one.binding) else None) (lookup locals name)
lookup_last [] one name = by_test (bytes_eq one.name.now name)
  where
    by_test : (t : Bool) → (if t then Some (binding_of one.binding) else None) ≡ later (if t then Some (binding_of one.binding) else None) None
    by_test true = refl
    by_test false = refl
lookup_last (first ∷ locals) one name =
    ap (λ x. later x (if bytes_eq first.name.now name then Some (binding_of first.binding) else None)) (lookup_last locals one name) ∙
    later_three (if bytes_eq one.name.now name then Some (binding_of one.binding) else None) (lookup locals name) (if bytes_eq first.name.now name then Some (binding_of first.binding) else None)

pub lookup_found : (locals : List Local) (one : Local) (name : Text) → bytes_eq one.name.now name ≡ true → Some (binding_of one.binding) ≡ lookup (locals ++ one ∷ []) name
lookup_found locals one name e =
    sym (lookup_last locals one name ∙ ap (λ t. later (if t then Some (binding_of one.binding) else None) (lookup locals name)) e)

pub lookup_passed : (locals : List Local) (one : Local) (name : Text) → bytes_eq one.name.now name ≡ false → lookup locals name ≡ lookup (locals ++ one ∷ []) name
lookup_passed locals one name e =
    sym (lookup_last locals one name ∙ ap (λ t. later (if t then Some (binding_of one.binding) else None) (lookup locals name)) e)

-- what is found was declared
low_step : (first : Option Binding) (t : Bool) (b own : Binding) (n : ℕ) → (first ≡ Some b → b.declaration < n) → own.declaration < n → later first (if t then Some own else None) ≡ Some b → b.declaration < n
low_step (Some one) t b own n go low e = go e
low_step None true b own n go low e = let same : own ≡ b = cc in subst (λ (x : Binding). x.declaration < n) same low
low_step None false b own n go low e = cc

pub lookup_low : (locals : List Local) (name : Text) (b : Binding) (n : ℕ) → All (λ (l : Local). l.binding.declaration < n) locals → lookup locals name ≡ Some b → b.declaration < n
lookup_low [] name b n low e = cc
lookup_low (one ∷ locals) name b n low e =
    low_step (lookup locals name) (bytes_eq one.name.now name) b (binding_of one.binding) n
    (lookup_low locals name b n (All-tail (λ (l : Local). l.binding.declaration < n) one locals low))
    (All-head (λ (l : Local). l.binding.declaration < n) one locals low) e

-- what is in scope stays so
surrounds_mention : (old new : Resolver) (marks : List Mark) (mark : Mark) (place : Place) → Surrounds old marks place → new.locals ≡ old.locals → new.stack ≡ old.stack → new.here ≡ old.here →
    length new.captured.items ≡ length old.captured.items → length new.functions.items ≡ length old.functions.items → Surrounds new (marks ++ mark ∷ []) place
surrounds_mention old new marks mark place is locals stack here captured functions = record {
  scope = λ name. is.scope name ∙ ap (λ x. lookup x.items name) (sym locals);
  around = is.around ∙ ap (λ x. reverse x.items) (sym stack);
  nested = nested_stays place.around marks (mark ∷ []) is.nested;
  homes = is.homes;
  vararg = is.vararg ∙ ap (λ x. x.vararg) (sym here);
  looped = is.looped ∙ ap (λ x. x.looped) (sym here);
  active = is.active ∙ ap (λ x. x.active) (sym here);
  declarations = is.declarations ∙ sym captured;
  functions = is.functions ∙ sym functions;
}

-- a global, a declaration, and one upvalue too many
pub goes_global : (line : ℕ) (name : Text) (old new : Resolver) → lookup old.locals.items name ≡ None → new.names.items ≡ old.names.items ++ NameUse.Global ∷ [] →
    new.locals ≡ old.locals → new.stack ≡ old.stack → new.here ≡ old.here → new.captured ≡ old.captured → new.functions ≡ old.functions → Goes (mentions line name) old new (Ok tt)
goes_global line name old new means names locals stack here captured functions = record {
  goes = λ marks place sound stands.
      let none : place.scope name ≡ None = stands.surrounds.scope name ∙ means in
      record {
        answers = subst (λ x. Answers new (marks ++ mention line name x place.around ∷ [])) (sym none) (answers_global old new marks line name place.around stands.answers names captured functions);
        surrounds = surrounds_mention old new marks (mention line name (place.scope name) place.around) place stands.surrounds locals stack here (ap (λ x. length x.items) captured) (ap (λ x. length x.items) functions);
      };
}

pub goes_declared : (line : ℕ) (name : Text) (old between new : Resolver) (b : Bound) (used : NameUse) → lookup old.locals.items name ≡ Some (binding_of b) → b.declaration < length old.captured.items → Used b old between used →
    new.names.items ≡ old.names.items ++ used ∷ [] → new.locals ≡ between.locals → new.stack ≡ between.stack → new.here ≡ between.here → new.captured ≡ between.captured → new.functions ≡ between.functions →
    Goes (mentions line name) old new (Ok tt)
goes_declared line name old between new b used means low is names locals stack here captured functions = record {
  goes = λ marks place sound stands.
      let some : place.scope name ≡ Some (binding_of b) = stands.surrounds.scope name ∙ means in
      let answers : Answers new (mentioned marks line name (binding_of b) place.around) =
      answers_mentioned old between new marks line name b place.around used stands.answers stands.surrounds.around stands.surrounds.nested (stands.surrounds.homes name (binding_of b) some) low is names captured functions in
      record {
        answers = subst (λ x. Answers new (marks ++ mention line name x place.around ∷ [])) (sym some) answers;
        surrounds = surrounds_mention old new marks (mention line name (place.scope name) place.around) place stands.surrounds (locals ∙ is.locals) (stack ∙ is.stack) (here ∙ is.here)
            (omega (arith, answers.declarations, stands.answers.declarations, declarations_mentioned marks line name (Some (binding_of b)) place.around))
            (omega (arith, answers.functions, stands.answers.functions, functions_mentioned marks line name (Some (binding_of b)) place.around));
      };
}

breach_told : (breach : Option Breach) (line : ℕ) (fault : ScopeFault) → breach ≡ Some (too_many_upvalues line 61) → fault ≡ ScopeFault.TooManyUpvalues line 61 → IsBreach breach fault
breach_told breach line fault is told = subst (λ x. IsBreach breach x) (sym told) is

pub goes_stuck : (line : ℕ) (name : Text) (old new : Resolver) (b : Bound) (fault : ScopeFault) → lookup old.locals.items name ≡ Some (binding_of b) → b.declaration < length old.captured.items →
    (fault ≡ ScopeFault.OutOfMemory) ⊎ Stuck b line (reverse old.stack.items) old.functions.items fault → Goes (mentions line name) old new (Err fault)
goes_stuck line name old new b fault means low (inl memory) = record { goes = λ marks place sound stands. subst (λ x. IsBreach (first_breach marks (mention line name (place.scope name) place.around ∷ [])) x) (sym memory) tt }
goes_stuck line name old new b fault means low (inr stuck) = record {
  goes = λ marks place sound stands.
      let some : place.scope name ≡ Some (binding_of b) = stands.surrounds.scope name ∙ means in
      let are : AreAt 0 old.functions.items marks = all_at old.functions.items marks stands.answers.upvalues stands.answers.sources in
      let over : Overfull marks line b place.around fault =
      stuck_is marks line name b old.functions.items stands.answers.well_made (omega (arith, stands.answers.declarations)) stands.answers.functions are place.around fault stands.surrounds.nested (stands.surrounds.homes name (binding_of b) some)
      (subst (λ x. Stuck b line x old.functions.items fault) (sym stands.surrounds.around) stuck) in
      subst (λ x. IsBreach (first_breach marks (mention line name x place.around ∷ [])) fault) (sym some)
      (breach_told (first_breach marks (mention line name (Some (binding_of b)) place.around ∷ [])) line fault
      (ap (λ x. option_or x None) (overfull_breach marks line name b old.functions.items place.around fault stands.answers.well_made stands.answers.functions are over)) over.told);
}

pub goes_memory : (line : ℕ) (name : Text) (old new : Resolver) (fault : ScopeFault) → fault ≡ ScopeFault.OutOfMemory → Goes (mentions line name) old new (Err fault)
goes_memory line name old new fault memory = record { goes = λ marks place sound stands. subst (λ x. IsBreach (first_breach marks (mention line name (place.scope name) place.around ∷ [])) x) (sym memory) tt }

pub goes_handed : (line : ℕ) (name : Text) (old new : Resolver) (result : Result (Unit {0}) ScopeFault) (fault : ScopeFault) → IsErrAnd result (λ other. other ≡ fault) → Goes (mentions line name) old new (Err fault) →
    Goes (mentions line name) old new result
goes_handed line name old new (Ok unit) fault is goes = absurd is
goes_handed line name old new (Err other) fault is goes = subst (λ x. Goes (mentions line name) old new (Err x)) (sym is) goes

pub names_after : (between old : Resolver) (used : NameUse) (new : Resolver) → between.names ≡ old.names → new.names.items ≡ between.names.items ++ used ∷ [] → new.names.items ≡ old.names.items ++ used ∷ []
names_after between old used new same names = names ∙ ap (λ x. x.items ++ used ∷ []) same
