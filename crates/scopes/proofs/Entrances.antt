-- What comes into scope, and the marks of a walk.
use Rattle.std.proofs.Common.{◌≡◌, refl, sym, ap, subst, ◌∙◌, cond, ◌||◌, ◌==◌, ℕ, zero, suc, ◌+◌, ◌<◌, ◌≤◌, Bool, true, false, List, [], ◌∷◌, ◌++◌, length, take, get_or, reverse, ◌-◌, append_assoc, append-nil, Option, Some, None, Ok, Err, ◌⊎◌, inl, inr, arith}
use Rattle.std.proofs.Math.Seq.{take-suc}
use Rattle.std.proofs.lemmas.List.{length-append, length-replicate, length-take, reverse-append}
use Rattle.std.proofs.lemmas.Bool.{cases_lt}
use Rattle.std.specs.Str.{bytes_eq}
use Rattle.lua_num.specs.Bytes.{Text}
use Rattle.lua_tree.specs.Outline.{Binding, Scope, Place, Walk, Part, Mark, local_name, hidden_local, dots, leave, opened, mention, both, within, innermost, with_name, with_names, with_locals, come, in_loop, in_function, reaching, declares, marked}
use Rattle.std.specs.Option.{option_or}
use Rattle.lua_tree.specs.Scoping.{Breach, too_many_locals, first_breach, is_one_of}
use Rattle.scopes.specs.declared.fault.ScopeFault.{ScopeFault}
use Rattle.scopes.specs.declared.resolver.Around.{Around}
use Rattle.scopes.specs.declared.resolver.Local.{Local}
use Rattle.scopes.specs.declared.resolver.Resolver.{Resolver}
use Rattle.scopes.specs.Standing.{binding_of, later, lookup, AreNested, Sound, Answers, Surrounds, Stands, Comes, Goes, Keeps, Left, Declared, AreNamed, Brought, Opened}
use Rattle.scopes.proofs.AnswerSteps.{answers_declared, answers_opened, answers_dots, answers_leave, answers_same}
use Rattle.scopes.proofs.Marks.{nested_stays, breach_of_both, outer_of_last}
use Rattle.scopes.proofs.Quiet.{none_above, Reaches, reach_few}
use Rattle.scopes.proofs.MentionSteps.{lookup_last}
use Rattle.lua_tree.specs.Resolved.{functions_in}
use Rattle.scopes.proofs.Known.{same_number, or_second}
use Rattle.scopes.proofs.Goings.{Enters, leaves}

-- what stands behind further marks
more_marks : (r : Resolver) (marks more : List Mark) (place : Place) → Surrounds r marks place → Surrounds r (marks ++ more) place
more_marks r marks more place s = record {
  scope = s.scope;
  around = s.around;
  nested = nested_stays place.around marks more s.nested;
  homes = s.homes;
  vararg = s.vararg;
  looped = s.looped;
  active = s.active;
  declarations = s.declarations;
  functions = s.functions;
}

-- `...`, and a break
pub goes_dots : {r : Resolver} (line : ℕ) → r.here.vararg ≡ true → Goes (marked (λ place. dots line place.vararg)) r r (Ok tt)
goes_dots {r} line e = record {
  goes = λ marks place sound s. record {
    answers = subst (λ (v : Bool). Answers r (marks ++ dots line v ∷ [])) (sym (s.surrounds.vararg ∙ e)) (answers_dots r marks line s.answers);
    surrounds = more_marks r marks (dots line place.vararg ∷ []) place s.surrounds;
  };
}

pub goes_leave : {r : Resolver} (line : ℕ) → r.here.looped ≡ true → Goes (marked (λ place. leave line place.looped)) r r (Ok tt)
goes_leave {r} line e = record {
  goes = λ marks place sound s. record {
    answers = subst (λ (v : Bool). Answers r (marks ++ leave line v ∷ [])) (sym (s.surrounds.looped ∙ e)) (answers_leave r marks line s.answers);
    surrounds = more_marks r marks (leave line place.looped ∷ []) place s.surrounds;
  };
}

-- declarations, which are not in scope yet
pub goes_declared : {old new : Resolver} (line hidden : ℕ) (names : List Text) (count : ℕ) → count ≡ length names → Declared old new count → old.here.active + hidden + count ≤ 200 → Goes (declares line hidden names) old new (Ok tt)
goes_declared {old} {new} line hidden names count counted d few = record {
  goes = λ marks place sound s. record {
    answers = subst (λ (active : ℕ). Answers new (marks ++ (reaching (hidden_local line) active hidden ++ reaching (local_name line) (active + hidden) (length names)))) (sym s.surrounds.active)
        (subst (λ (n : ℕ). Answers new (marks ++ (reaching (hidden_local line) old.here.active hidden ++ reaching (local_name line) (old.here.active + hidden) n))) counted
        (answers_declared old new marks line hidden count s.answers d few));
    surrounds = record {
      scope = λ name. rw d.locals (s.surrounds.scope name);
      around = rw d.stack s.surrounds.around;
      nested = nested_stays place.around marks _ s.surrounds.nested;
      homes = s.surrounds.homes;
      vararg = rw d.here s.surrounds.vararg;
      looped = rw d.here s.surrounds.looped;
      active = rw d.here s.surrounds.active;
      declarations = rw (d.captured, length-append, length-replicate, s.surrounds.declarations, counted) refl;
      functions = rw d.functions s.surrounds.functions;
    };
  };
}

-- declarations by which locals reach too many
reach_many : (mark : ℕ → Mark) (line : ℕ) → Reaches mark line → (left count active : ℕ) (before : List Mark) → active + left ≡ 200 → left < count → first_breach before (reaching mark active count) ≡ Some (too_many_locals line 201)
reach_many mark line h left zero active before all many = absurd (omega arith)
reach_many mark line h zero (suc count) active before all many =
    let e : active ≡ 200 = omega arith in
    rw e (ap (λ breach. option_or breach (first_breach (before ++ mark 201 ∷ []) (reaching mark 201 count))) (h before 201))
reach_many mark line h (suc left) (suc count) active before all many =
    ap (λ breach. option_or breach (first_breach (before ++ mark (suc active) ∷ []) (reaching mark (suc active) count))) (h before (suc active) ∙ none_above 200 (suc active) _ (omega arith))
    ∙ reach_many mark line h left count (suc active) _ (omega arith) (omega arith)

first_some : (one other : Option Breach) (breach : Breach) → one ≡ Some breach → option_or one other ≡ Some breach
first_some one other breach e = ap (λ x. option_or x other) e

declared_many : (line hidden active count : ℕ) (marks : List Mark) → active ≤ 200 → 200 < active + hidden + count →
    first_breach marks (reaching (hidden_local line) active hidden ++ reaching (local_name line) (active + hidden) count) ≡ Some (too_many_locals line 201)
declared_many line hidden active count marks low many = breach_of_both marks (reaching (hidden_local line) active hidden) (reaching (local_name line) (active + hidden) count) ∙ go (cases_lt 200 (active + hidden))
  where
    go : ((200 < active + hidden) ⊎ (active + hidden ≤ 200)) → option_or (first_breach marks (reaching (hidden_local line) active hidden)) (first_breach (marks ++ reaching (hidden_local line) active hidden) (reaching (local_name line) (active + hidden) count)) ≡ Some (too_many_locals line 201)
    go (inr e) = ap (λ breach. option_or breach (first_breach (marks ++ reaching (hidden_local line) active hidden) (reaching (local_name line) (active + hidden) count))) (reach_few (hidden_local line) line (λ before n. refl) hidden active marks e)
        ∙ reach_many (local_name line) line (λ before n. refl) (200 - (active + hidden)) count (active + hidden) _ (omega arith) (omega arith)
    go (inl e) = first_some _ _ _ (reach_many (hidden_local line) line (λ before n. refl) (200 - active) hidden active marks (omega arith) (omega arith))

pub goes_many : {old c : Resolver} (line hidden : ℕ) (names : List Text) (count : ℕ) (fault : ScopeFault) → count ≡ length names →
    (fault ≡ ScopeFault.OutOfMemory) ⊎ ((fault ≡ ScopeFault.TooManyLocals line 201) × (200 < old.here.active + hidden + count)) → Goes (declares line hidden names) old c (Err fault)
goes_many {old} {c} line hidden names count fault counted (inl e) = record {
  goes = λ marks place sound s. subst (λ (f : ScopeFault). Comes c marks (declares line hidden names place) (Err f)) (sym e) tt;
}
goes_many {old} {c} line hidden names count fault counted (inr e) = record {
  goes = λ marks place sound s. subst (λ (f : ScopeFault). Comes c marks (declares line hidden names place) (Err f)) (sym e.0)
      (subst (λ (active : ℕ). first_breach marks (reaching (hidden_local line) active hidden ++ reaching (local_name line) (active + hidden) (length names)) ≡ Some (too_many_locals line 201)) (sym s.surrounds.active)
      (subst (λ (n : ℕ). first_breach marks (reaching (hidden_local line) old.here.active hidden ++ reaching (local_name line) (old.here.active + hidden) n) ≡ Some (too_many_locals line 201)) counted
      (declared_many line hidden old.here.active count marks sound.few e.1)));
}

-- names that come into scope
with_name_later : (same : Bool) (binding : Binding) (other : Option Binding) → cond same (Some binding) other ≡ later (cond same (Some binding) None) other
with_name_later true binding other = refl
with_name_later false binding other = refl

named_one : (locals : List Local) (one : Local) (name : Text) (binding : Binding) (scope : Scope) → ((n : Text) → scope n ≡ lookup locals n) → one.name.now ≡ name → binding_of one.binding ≡ binding →
    (n : Text) → with_name name binding scope n ≡ lookup (locals ++ one ∷ []) n
named_one locals one name binding scope same e f n =
    rw (lookup_last locals one n, e, f, ← same n) (with_name_later (bytes_eq name n) binding (scope n))

lookup_named : (names : List Text) (first home : ℕ) (more locals : List Local) (scope : Scope) → AreNamed names first home more → ((n : Text) → scope n ≡ lookup locals n) →
    (n : Text) → with_names names first home scope n ≡ lookup (locals ++ more) n
lookup_named [] first home [] locals scope named same n = rw append-nil (same n)
lookup_named [] first home (one ∷ more) locals scope named same n = absurd named
lookup_named (name ∷ names) first home [] locals scope named same n = absurd named
lookup_named (name ∷ names) first home (one ∷ more) locals scope named same n =
    lookup_named names (suc first) home more (locals ++ one ∷ []) (with_name name (record { declaration = first; home = home }) scope) named.2 (named_one locals one name (record { declaration = first; home = home }) scope same named.0 named.1) n
    ∙ ap (λ x. lookup x n) (append_assoc locals (one ∷ []) more)

-- names that come into scope stand in a function around
home_of : (same : Bool) (binding : Binding) (other : Option Binding) (around : List ℕ) (found : Binding) → is_one_of binding.home around ≡ true → (other ≡ Some found → is_one_of found.home around ≡ true) →
    cond same (Some binding) other ≡ Some found → is_one_of found.home around ≡ true
home_of true binding other around found home h e = let f : binding ≡ found = cc in subst (λ (x : Binding). is_one_of x.home around ≡ true) f home
home_of false binding other around found home h e = h e

homes_named : (names : List Text) (first home : ℕ) (scope : Scope) (around : List ℕ) → is_one_of home around ≡ true → ((name : Text) (binding : Binding) → scope name ≡ Some binding → is_one_of binding.home around ≡ true) →
    (name : Text) (binding : Binding) → with_names names first home scope name ≡ Some binding → is_one_of binding.home around ≡ true
homes_named [] first home scope around inside h = h
homes_named (one ∷ names) first home scope around inside h =
    homes_named names (suc first) home (with_name one (record { declaration = first; home = home }) scope) around inside
    (λ name binding e. home_of (bytes_eq one name) (record { declaration = first; home = home }) (scope name) around binding inside (h name binding) e)

is_innermost : (around : List ℕ) (marks : List Mark) → AreNested around marks → is_one_of (innermost around) around ≡ true
is_innermost [] marks n = absurd n
is_innermost (f ∷ around) marks n = ap (λ same. same || is_one_of f around) (same_number f)

outside : (home f : ℕ) (around : List ℕ) → is_one_of home around ≡ true → (home == f) || is_one_of home around ≡ true
outside home f around e = or_second (home == f) (is_one_of home around) e

-- what is in scope behind names that came into it
scope_brought : (old new : Resolver) (around : List ℕ) (scope : Scope) (names : List Text) (first : ℕ) → around ≡ reverse old.stack.items → ((name : Text) → scope name ≡ lookup old.locals.items name) → Brought old new names first →
    (name : Text) → with_names names first (innermost around) scope name ≡ lookup new.locals.items name
scope_brought old new around scope names first e same b name =
    rw (e, b.locals) (lookup_named names first (innermost (reverse old.stack.items)) b.more old.locals.items scope b.named same name)

pub goes_come : {old new : Resolver} (names : List Text) (first : ℕ) → Brought old new names first → Goes (come 0 names first) old new (Ok tt)
goes_come {old} {new} names first b = record {
  goes = λ marks place sound s. subst (λ (all : List Mark). Stands new all (with_locals 0 names first place)) (sym (append-nil marks)) (record {
    answers = answers_same old new marks s.answers b.names b.captured b.functions;
    surrounds = record {
      scope = scope_brought old new place.around place.scope names first s.surrounds.around s.surrounds.scope b;
      around = rw b.stack s.surrounds.around;
      nested = s.surrounds.nested;
      homes = homes_named names first (innermost place.around) place.scope place.around (is_innermost place.around marks s.surrounds.nested) s.surrounds.homes;
      vararg = rw b.vararg s.surrounds.vararg;
      looped = rw b.looped s.surrounds.looped;
      active = omega (arith, b.active, s.surrounds.active);
      declarations = rw b.captured s.surrounds.declarations;
      functions = rw b.functions s.surrounds.functions;
    };
  });
}

-- names, and another behind them
named_push : (names : List Text) (first second home : ℕ) (more : List Local) (name : Text) (others : List Local) → second ≡ first + length names → AreNamed names first home more → AreNamed (name ∷ []) second home others → AreNamed (names ++ name ∷ []) first home (more ++ others)
named_push [] first second home [] name others e m n = subst (λ (k : ℕ). AreNamed (name ∷ []) k home others) (omega arith) n
named_push [] first second home (one ∷ more) name others e m n = absurd m
named_push (other ∷ names) first second home [] name others e m n = absurd m
named_push (other ∷ names) first second home (one ∷ more) name others e m n = (m.0, m.1, named_push names (suc first) second home more name others (omega arith) m.2 n)

brought_push : {a b c : Resolver} (names : List Text) (name : Text) (first second : ℕ) → second ≡ first + length names → Brought a b names first → Brought b c (name ∷ []) second → Brought a c (names ++ name ∷ []) first
brought_push {a} {b} {c} names name first second e one other = record {
  more = one.more ++ other.more;
  locals = other.locals ∙ ap (λ x. x ++ other.more) one.locals ∙ append_assoc a.locals.items one.more other.more;
  named = named_push names first second (innermost (reverse a.stack.items)) one.more name other.more e one.named
      (subst (λ (x : List ℕ). AreNamed (name ∷ []) second (innermost (reverse x)) other.more) (ap (λ v. v.items) one.stack) other.named);
  stack = other.stack ∙ one.stack;
  vararg = other.vararg ∙ one.vararg;
  looped = other.looped ∙ one.looped;
  active = omega (arith, one.active, other.active, length-append names (name ∷ []));
  names = other.names ∙ one.names;
  captured = other.captured ∙ one.captured;
  functions = other.functions ∙ one.functions;
}

next_names : (names : List Text) (i : ℕ) (name : Text) → i < length names → name ≡ get_or names i name → take i names ++ name ∷ [] ≡ take (i + 1) names
next_names names i name below is =
    let next : suc i ≡ i + 1 = omega arith in
    ap (λ x. take i names ++ x ∷ []) is ∙ sym (take-suc names i name below) ∙ ap (λ n. take n names) next

-- a turn of a loop that brings names
pub brought_turn : {a b c : Resolver} (names : List Text) (i : ℕ) (name text : Text) (first : ℕ) → i < length names → name ≡ get_or names i name → text ≡ name → Brought a b (take i names) first → Brought b c (text ∷ []) (first + i) → Brought a c (take (i + 1) names) first
brought_turn {a} {b} {c} names i name text first below is e one other =
    subst (λ (texts : List Text). Brought a c texts first) (next_names names i name below is)
    (brought_push (take i names) name first (first + i) (ap (λ n. first + n) (sym (length_take_below names i below))) one (subst (λ (x : Text). Brought b c (x ∷ []) (first + i)) e other))
  where
    length_take_below : (xs : List Text) (n : ℕ) → n < length xs → length (take n xs) ≡ n
    length_take_below xs n below_n = grind (arith, length-take)

-- where a loop begins
abbrev pub in_loop_of : Resolver → Resolver
in_loop_of a = record {
  locals = a.locals;
  stack = a.stack;
  here = record { vararg = a.here.vararg; looped = true; active = a.here.active };
  names = a.names;
  captured = a.captured;
  functions = a.functions;
}

-- where hidden locals are active
abbrev pub with_hidden : Resolver → Resolver
with_hidden a = record {
  locals = a.locals;
  stack = a.stack;
  here = record { vararg = a.here.vararg; looped = a.here.looped; active = a.here.active + 3 };
  names = a.names;
  captured = a.captured;
  functions = a.functions;
}

-- what is in scope where a block begins
pub enters_loop : {a : Resolver} → Enters in_loop a (in_loop_of a)
enters_loop {a} = record {
  enters = λ marks place s. record {
    answers = answers_same a (in_loop_of a) marks s.answers refl refl refl;
    surrounds = record {
      scope = s.surrounds.scope;
      around = s.surrounds.around;
      nested = s.surrounds.nested;
      homes = s.surrounds.homes;
      vararg = s.surrounds.vararg;
      looped = refl;
      active = s.surrounds.active;
      declarations = s.surrounds.declarations;
      functions = s.surrounds.functions;
    };
  };
}

pub enters_for : {a b : Resolver} (names : List Text) (first : ℕ) → Brought (with_hidden a) b names first → Enters (λ inside. in_loop (with_locals 3 names first inside)) a (in_loop_of b)
enters_for {a} {b} names first brought = record {
  enters = λ marks place s. record {
    answers = answers_same a (in_loop_of b) marks s.answers brought.names brought.captured brought.functions;
    surrounds = record {
      scope = scope_brought (with_hidden a) b place.around place.scope names first s.surrounds.around s.surrounds.scope brought;
      around = rw brought.stack s.surrounds.around;
      nested = s.surrounds.nested;
      homes = homes_named names first (innermost place.around) place.scope place.around (is_innermost place.around marks s.surrounds.nested) s.surrounds.homes;
      vararg = rw brought.vararg s.surrounds.vararg;
      looped = refl;
      active = omega (arith, brought.active, s.surrounds.active);
      declarations = rw brought.captured s.surrounds.declarations;
      functions = rw brought.functions s.surrounds.functions;
    };
  };
}

-- where a function begins
functions_opened : (marks : List Mark) (outer : ℕ) → functions_in (marks ++ opened outer ∷ []) ≡ suc (functions_in marks)
functions_opened [] outer = refl
functions_opened (mention line name means around ∷ marks) outer = functions_opened marks outer
functions_opened (local_name line reached ∷ marks) outer = functions_opened marks outer
functions_opened (hidden_local line reached ∷ marks) outer = functions_opened marks outer
functions_opened (dots line vararg ∷ marks) outer = functions_opened marks outer
functions_opened (leave line looped ∷ marks) outer = functions_opened marks outer
functions_opened (opened other ∷ marks) outer = ap suc (functions_opened marks outer)

some_function : (marks : List Mark) → 0 < functions_in marks
some_function [] = omega arith
some_function (mention line name means around ∷ marks) = some_function marks
some_function (local_name line reached ∷ marks) = some_function marks
some_function (hidden_local line reached ∷ marks) = some_function marks
some_function (dots line vararg ∷ marks) = some_function marks
some_function (leave line looped ∷ marks) = some_function marks
some_function (opened other ∷ marks) = omega arith

innermost_below : (f : ℕ) (around : List ℕ) (marks : List Mark) → AreNested (f ∷ around) marks → f < functions_in marks
innermost_below f [] marks n = rw n (some_function marks)
innermost_below f (g ∷ around) marks n = n.1

nested_opened : (around : List ℕ) (marks : List Mark) → AreNested around marks → AreNested (functions_in marks ∷ around) (marks ++ opened (innermost around) ∷ [])
nested_opened [] marks n = absurd n
nested_opened (f ∷ around) marks n =
    (innermost_below f around marks n, subst (λ (x : ℕ). functions_in marks < x) (sym (functions_opened marks f)) (omega arith), outer_of_last marks f, nested_stays (f ∷ around) marks (opened f ∷ []) n)

stands_opened : (a b : Resolver) (extra : Bool) (marks : List Mark) (place : Place) → Opened a b extra → Stands a marks place → Stands b (marks ++ opened (innermost place.around) ∷ []) (in_function extra place)
stands_opened a b extra marks place o s = record {
  answers = answers_opened a b marks extra (innermost place.around) s.answers o;
  surrounds = record {
    scope = λ name. rw o.locals (s.surrounds.scope name);
    around = rw (o.stack, reverse-append, s.surrounds.functions, s.surrounds.around) refl;
    nested = subst (λ (f : ℕ). AreNested (f ∷ place.around) (marks ++ opened (innermost place.around) ∷ [])) (s.answers.functions ∙ sym s.surrounds.functions) (nested_opened place.around marks s.surrounds.nested);
    homes = λ name binding e. outside binding.home place.functions place.around (s.surrounds.homes name binding e);
    vararg = sym o.vararg;
    looped = sym o.looped;
    active = sym o.active;
    declarations = rw o.captured s.surrounds.declarations;
    functions = rw (o.functions, length-append) (omega (arith, s.surrounds.functions));
  };
}

-- a function, whose parameters and block are a part
pub goes_function : {part : Part} {a b c d : Resolver} {around : Around} {extra : Bool} → Opened a b extra → Sound b → Goes part b c (Ok tt) → Left c around d → Keeps a d →
    Goes (both (marked (λ place. opened (innermost place.around))) (within (in_function extra) part)) a d (Ok tt)
goes_function {part} {a} {b} {c} {d} {around} {extra} o sound g left keeps = record {
  goes = λ marks place sound_a s.
      let inside : Walk = part (in_function extra place) in
      let t : Stands c ((marks ++ opened (innermost place.around) ∷ []) ++ inside.marks) inside.next = g.goes (marks ++ opened (innermost place.around) ∷ []) (in_function extra place) sound (stands_opened a b extra marks place o s) in
      let u : Stands c (marks ++ opened (innermost place.around) ∷ inside.marks) inside.next = subst (λ (all : List Mark). Stands c all inside.next) (append_assoc marks (opened (innermost place.around) ∷ []) inside.marks) t in
      record {
        answers = answers_same c d (marks ++ opened (innermost place.around) ∷ inside.marks) u.answers left.names left.captured left.functions;
        surrounds = leaves marks (opened (innermost place.around) ∷ inside.marks) place inside.next a c d around s.surrounds u.surrounds left keeps;
      };
}

pub goes_function_broken : {part : Part} {a b c : Resolver} {extra : Bool} {fault : ScopeFault} → Opened a b extra → Sound b → Goes part b c (Err fault) →
    Goes (both (marked (λ place. opened (innermost place.around))) (within (in_function extra) part)) a c (Err fault)
goes_function_broken {part} {a} {b} {c} {extra} {fault} o sound g = record {
  goes = λ marks place sound_a s. g.goes (marks ++ opened (innermost place.around) ∷ []) (in_function extra place) sound (stands_opened a b extra marks place o s);
}
