-- Parts of a tree that are walked, one after another and one inside another.
use Rattle.std.proofs.Common.{◌≡◌, sym, ap, subst, ◌∙◌, ℕ, List, [], ◌++◌, length, append_assoc, append-nil, Option, Some, None, Result, Ok, Err}
use Rattle.std.specs.Result.{IsErrAnd}
use Rattle.lua_tree.specs.Outline.{Place, Walk, Part, nothing, both, within, Mark}
use Rattle.std.specs.Option.{option_or}
use Rattle.lua_tree.specs.Scoping.{Breach, first_breach}
use Rattle.scopes.specs.declared.fault.ScopeFault.{ScopeFault}
use Rattle.scopes.specs.declared.resolver.Around.{Around}
use Rattle.scopes.specs.declared.resolver.Resolver.{Resolver}
use Rattle.scopes.specs.Faults.{IsBreach}
use Rattle.scopes.specs.Standing.{Sound, Surrounds, Stands, Comes, Goes, Keeps, Left}
use Rattle.scopes.proofs.AnswerSteps.{answers_same}
use Rattle.scopes.proofs.Marks.{nested_stays, breach_of_both}

-- what a breach of two parts is
other_none : (one other : Option Breach) → option_or one other ≡ None → other ≡ None
other_none (Some breach) other e = cc
other_none None other e = e

breach_first : (one other : Option Breach) (fault : ScopeFault) → IsBreach one fault → IsBreach (option_or one other) fault
breach_first one other (ScopeFault.NoLoop line) e = ap (λ breach. option_or breach other) e
breach_first one other (ScopeFault.NoVararg line) e = ap (λ breach. option_or breach other) e
breach_first one other (ScopeFault.TooManyLocals line reached) e = ap (λ breach. option_or breach other) e
breach_first one other (ScopeFault.TooManyUpvalues line reached) e = ap (λ breach. option_or breach other) e
breach_first one other ScopeFault.OutOfMemory e = tt

breach_second : (one other : Option Breach) (fault : ScopeFault) → one ≡ None → IsBreach other fault → IsBreach (option_or one other) fault
breach_second one other fault none e = subst (λ (breach : Option Breach). IsBreach (option_or breach other) fault) (sym none) e

-- the marks behind a part break no rule where it stands
no_breach : (r : Resolver) (marks more : List Mark) (place : Place) → Stands r (marks ++ more) place → first_breach marks more ≡ None
no_breach r marks more place s = other_none (first_breach [] marks) (first_breach marks more) (sym (breach_of_both [] marks more) ∙ s.answers.keeps)

comes_both : (marks : List Mark) (one other : Walk) (c : Resolver) (result : Result (Unit {0}) ScopeFault) → first_breach marks one.marks ≡ None →
    Comes c (marks ++ one.marks) other result → Comes c marks (record { marks = one.marks ++ other.marks; next = other.next }) result
comes_both marks one other c (Ok unit) none s = subst (λ (all : List Mark). Stands c all other.next) (append_assoc marks one.marks other.marks) s
comes_both marks one other c (Err fault) none e =
    subst (λ (breach : Option Breach). IsBreach breach fault) (sym (breach_of_both marks one.marks other.marks)) (breach_second _ _ fault none e)

-- a part that is done
pub goes_nothing : {r : Resolver} → Goes nothing r r (Ok tt)
goes_nothing {r} = record { goes = λ marks place sound s. subst (λ (all : List Mark). Stands r all place) (sym (append-nil marks)) s }

-- a part that is done, and another behind it
pub goes_both : {one other : Part} {a b c : Resolver} {result : Result (Unit {0}) ScopeFault} → Goes one a b (Ok tt) → Sound b → Goes other b c result → Goes (both one other) a c result
goes_both {one} {other} {a} {b} {c} {result} g sound h = record {
  goes = λ marks place sound_a s.
      let stands : Stands b (marks ++ (one place).marks) (one place).next = g.goes marks place sound_a s in
      comes_both marks (one place) (other (one place).next) c result (no_breach b marks (one place).marks (one place).next stands) (h.goes (marks ++ (one place).marks) (one place).next sound stands);
}

-- a part that breaks a rule, and another behind it
pub goes_first : {one : Part} (other : Part) {a c : Resolver} {fault : ScopeFault} → Goes one a c (Err fault) → Goes (both one other) a c (Err fault)
goes_first {one} other {a} {c} {fault} g = record {
  goes = λ marks place sound s.
      subst (λ (breach : Option Breach). IsBreach breach fault) (sym (breach_of_both marks (one place).marks (other (one place).next).marks))
      (breach_first (first_breach marks (one place).marks) (first_breach (marks ++ (one place).marks) (other (one place).next).marks) fault (g.goes marks place sound s));
}

-- a fault that is handed on
pub goes_handed : {part : Part} {a c : Resolver} (result : Result (Unit {0}) ScopeFault) (fault : ScopeFault) → IsErrAnd result (λ other. other ≡ fault) → Goes part a c (Err fault) → Goes part a c result
goes_handed (Ok unit) fault e g = absurd e
goes_handed {part} {a} {c} (Err other) fault e g = subst (λ (x : ScopeFault). Goes part a c (Err x)) (sym e) g

-- a part that is another
pub goes_as : {one other : Part} {a c : Resolver} {result : Result (Unit {0}) ScopeFault} → other ≡ one → Goes one a c result → Goes other a c result
goes_as {one} {other} {a} {c} {result} e g = subst (λ (part : Part). Goes part a c result) (sym e) g

-- a part that is given by how many declarations stand before it
pub goes_numbered : (part : ℕ → Part) {a c : Resolver} {result : Result (Unit {0}) ScopeFault} → Goes (part (length a.captured.items)) a c result → Goes (λ (place : Place). part place.declarations place) a c result
goes_numbered part {a} {c} {result} g = record {
  goes = λ marks place sound s. subst (λ (n : ℕ). Comes c marks (part n place) result) (sym s.surrounds.declarations) (g.goes marks place sound s);
}

-- what is in scope with a block's beginning
pub record Enters (enter : Place → Place) (a b : Resolver) : Type 0 where
  pub enters : (marks : List Mark) (place : Place) → Stands a marks place → Stands b marks (enter place)

-- what a block leaves in scope
pub leaves : (marks more : List Mark) (place end : Place) (a c d : Resolver) (around : Around) → Surrounds a marks place → Surrounds c (marks ++ more) end → Left c around d → Keeps a d →
    Surrounds d (marks ++ more) (record place { declarations = end.declarations; functions = end.functions })
leaves marks more place end a c d around s t left keeps = record {
  scope = λ name. rw keeps.locals (s.scope name);
  around = rw keeps.stack s.around;
  nested = nested_stays place.around marks more s.nested;
  homes = s.homes;
  vararg = rw keeps.here s.vararg;
  looped = rw keeps.here s.looped;
  active = rw keeps.here s.active;
  declarations = rw left.captured t.declarations;
  functions = rw left.functions t.functions;
}

-- a block, with a scope of its own
pub goes_within : {enter : Place → Place} {part : Part} {a b c d : Resolver} {around : Around} → Enters enter a b → Sound b → Goes part b c (Ok tt) → Left c around d → Keeps a d → Goes (within enter part) a d (Ok tt)
goes_within {enter} {part} {a} {b} {c} {d} {around} e sound g left keeps = record {
  goes = λ marks place sound_a s.
      let t : Stands c (marks ++ (part (enter place)).marks) (part (enter place)).next = g.goes marks (enter place) sound (e.enters marks place s) in
      record {
        answers = answers_same c d _ t.answers left.names left.captured left.functions;
        surrounds = leaves marks (part (enter place)).marks place (part (enter place)).next a c d around s.surrounds t.surrounds left keeps;
      };
}

pub goes_within_broken : {enter : Place → Place} {part : Part} {a b c : Resolver} {fault : ScopeFault} → Enters enter a b → Sound b → Goes part b c (Err fault) → Goes (within enter part) a c (Err fault)
goes_within_broken {enter} {part} {a} {b} {c} {fault} e sound g = record { goes = λ marks place sound_a s. g.goes marks (enter place) sound (e.enters marks place s) }

-- what was walked of a whole, and the part that is left of it
pub record Passes (whole rest : Part) (old new : Resolver) : Type 0 where
  pub passes : (end : Resolver) (result : Result (Unit {0}) ScopeFault) → Goes rest new end result → Goes whole old end result
