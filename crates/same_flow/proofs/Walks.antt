-- A walk over the steps of a function: what each declares and mentions, and which locals have left before it; walks follow one another.
use Rattle.std.proofs.Common.{◌≡◌, ◌≤◌, ℕ, zero, suc, ◌+◌, Bool, true, false, List, [], ◌∷◌, ◌++◌, Some, refl, sym, ap, ap₂, ◌∙◌, arith}
use Rattle.std.specs.Prelude.{Option, nat_lt, if◌then◌else◌}
use Rattle.std.proofs.lemmas.Bool.Decides.{nat_tests}
use Rattle.std.proofs.lemmas.List.{append-nil, append_assoc}
use Rattle.lua_num.specs.Bytes.{Text}
use Rattle.lua_tree.specs.Syntax.{Expressions}
use Rattle.lua_tree.specs.Outline as outline
use Rattle.lua_tree.specs.Outline.{Scope, Place, Mark, both, come, declares, expressions_part, expression_part}
use Rattle.recover_expr.specs.Drafts.{Part, statement_part, values_part, condition_part, head_part}
use Rattle.recover_expr.specs.Placing.{Steps}
use Rattle.recover_expr.specs.declared.steps.StepKind.{StepKind}
use Rattle.same_flow.specs.Performed.{kind_at, part_at}
use Rattle.same_flow.specs.SameMarks.{but_breaks}
use Rattle.same_flow.proofs.Breaks.{breaks_append}

-- what stood before some locals came into scope, and the step before which they leave
pub record Entry : Type 0 where
  pub scope : Scope
  pub active : ℕ
  pub end : ℕ

-- a place, and the locals that are active there, the innermost first
pub record State : Type 0 where
  pub place : Place
  pub entries : List Entry

-- no loop is around
abbrev pub loopless : Place → Place
loopless place = record place { looped = false }

abbrev pub state_of : Place → List Entry → State
state_of place entries = record { place = loopless place; entries = entries }

-- a place with the numbers of a later one
abbrev pub passed : (place later : Place) → Place
passed place later = record place { declarations = later.declarations; functions = later.functions }

abbrev pub back_to : Entry → Place → Place
back_to entry place = record place { scope = entry.scope; active = entry.active }

-- the locals have left that end at a step or before it
abbrev pub ended_in : ℕ → Place → List Entry → State
ended_in at place [] = record { place = place; entries = [] }
ended_in at place (entry ∷ entries) = if nat_lt at entry.end then record { place = place; entries = entry ∷ entries } else ended_in at (back_to entry place) entries

abbrev pub ended : ℕ → State → State
ended at state = ended_in at state.place state.entries

-- ---- what a step says

pub record Said : Type 0 where
  pub marks : List Mark
  pub after : State

abbrev pub quiet : State → Said
quiet state = record { marks = []; after = state }

abbrev pub walked : outline.Part → State → Said
walked part state = let walk = part state.place in record { marks = but_breaks walk.marks; after = record { place = walk.next; entries = state.entries } }

-- locals come into scope that end at a step
abbrev pub walked_until : ℕ → outline.Part → State → Said
walked_until end part state =
    let walk = part state.place in
    let entry : Entry = record { scope = state.place.scope; active = state.place.active; end = end } in
    record { marks = but_breaks walk.marks; after = record { place = walk.next; entries = entry ∷ state.entries } }

abbrev pub heads : List Text → Expressions → outline.Part
heads names es place = both (declares 1 3 names) (both (expressions_part es) (come 3 names place.declarations)) place

abbrev pub says : StepKind → Part → State → Said
says StepKind.Act (statement_part s) = walked (outline.statement_part 1 s)
says (StepKind.Declaration end captured) (statement_part s) = walked_until end (outline.statement_part 1 s)
says StepKind.Return (values_part es) = walked (expressions_part es)
says (StepKind.Test when target negated) (condition_part e) = walked (expression_part e)
says (StepKind.Head numeric foot end variables_end captured) (head_part es names) = walked_until variables_end (heads names es)
says kind part = quiet

abbrev pub says_at : Option StepKind → Option Part → State → Said
says_at (Some kind) (Some part) = says kind part
says_at kind part = quiet

abbrev pub said_at : Steps → (at : ℕ) → State → Said
said_at code at = says_at (kind_at code.steps at) (part_at code at)

-- so many steps
abbrev pub run : Steps → (at count : ℕ) → State → Said
run code at zero state = quiet (ended at state)
run code at (suc count) state =
    let now = said_at code at (ended at state) in
    let rest = run code (suc at) count now.after in
    record { marks = now.marks ++ rest.marks; after = rest.after }

-- ---- locals that leave

still_left : (a b end : ℕ) → a ≤ b → nat_lt a end ≡ false → nat_lt b end ≡ false
still_left a b end le is = grind (arith, nat_tests)

pub left_again : (at later : ℕ) → at ≤ later → (place : Place) (entries : List Entry) → ended later (ended_in at place entries) ≡ ended_in later place entries
left_again a b le place [] = refl
left_again a b le place (entry ∷ entries) = by (nat_lt a entry.end) refl (left_again a b le (back_to entry place) entries)
  where
    by : (test : Bool) → nat_lt a entry.end ≡ test → ended b (ended_in a (back_to entry place) entries) ≡ ended_in b (back_to entry place) entries
        → ended b (if test then record { place = place; entries = entry ∷ entries } else ended_in a (back_to entry place) entries) ≡ ended_in b place (entry ∷ entries)
    by true is rest = refl
    by false is rest = rest ∙ ap (λ (test : Bool). if test then record { place = place; entries = entry ∷ entries } else ended_in b (back_to entry place) entries) (sym (still_left a b entry.end le is))

abbrev pub with_numbers : State → Place → State
with_numbers state later = record { place = passed state.place later; entries = state.entries }

pub left_passed : (at : ℕ) (place later : Place) (entries : List Entry) → ended_in at (passed place later) entries ≡ with_numbers (ended_in at place entries) later
left_passed at place later [] = refl
left_passed at place later (entry ∷ entries) = by (nat_lt at entry.end) (left_passed at (back_to entry place) later entries)
  where
    by : (test : Bool) → ended_in at (passed (back_to entry place) later) entries ≡ with_numbers (ended_in at (back_to entry place) entries) later
        → (if test then record { place = passed place later; entries = entry ∷ entries } else ended_in at (back_to entry (passed place later)) entries)
        ≡ with_numbers (if test then record { place = place; entries = entry ∷ entries } else ended_in at (back_to entry place) entries) later
    by true rest = refl
    by false rest = rest

-- ---- walks follow one another

abbrev followed : Said → Said → Said
followed one two = record { marks = one.marks ++ two.marks; after = two.after }

run_again : (code : Steps) (at count : ℕ) (state : State) → run code at count (ended at state) ≡ run code at count state
run_again code at zero state = ap quiet (left_again at at (omega arith) state.place state.entries)
run_again code at (suc count) state = ap (λ (s : State). let now = said_at code at s in followed now (run code (suc at) count now.after)) (left_again at at (omega arith) state.place state.entries)

run_both : (code : Steps) (at count more : ℕ) (state : State) → run code at (count + more) state ≡ (let one = run code at count state in followed one (run code (at + count) more one.after))
run_both code at zero more state =
    let none : zero + more ≡ more = omega arith in
    let there : at ≡ at + zero = omega arith in
    ap (λ n. run code at n state) none ∙ sym (run_again code at more state) ∙ ap (λ n. run code n more (ended at state)) there
run_both code at (suc count) more state =
    let so : suc count + more ≡ suc (count + more) = omega arith in
    let there : suc at + count ≡ at + suc count = omega arith in
    let now = said_at code at (ended at state) in
    let one = run code (suc at) count now.after in
    let two = run code (suc at + count) more one.after in
    ap (λ n. run code at n state) so
    ∙ ap (λ said. followed now said) (run_both code (suc at) count more now.after)
    ∙ ap (λ (marks : List Mark). record { marks = marks; after = two.after }) (sym (append_assoc now.marks one.marks two.marks))
    ∙ ap (λ n. followed (followed now one) (run code n more one.after)) there

-- a walk from one step to another, by what is said and what is left there
pub record Goes (code : Steps) (from to : ℕ) (before : State) (marks : List Mark) (after : State) : Type 0 where
  pub count : ℕ
  pub reaches : from + count ≡ to
  pub says : run code from count before ≡ record { marks = but_breaks marks; after = ended to after }

pub goes_nowhere : (code : Steps) (at : ℕ) (state : State) → Goes code at at state [] state
goes_nowhere code at state = record { count = 0; reaches = omega arith; says = refl }

infixl 20 ◌then◌
pub ◌then◌ : {code : Steps} {from mid to : ℕ} {before between after : State} {one two : List Mark} → Goes code from mid before one between → Goes code mid to between two after → Goes code from to before (one ++ two) after
◌then◌ {code} {from} {mid} {to} {before} {between} {after} {one} {two} a b =
    let reaches : from + (a.count + b.count) ≡ to = let e = a.reaches in let f = b.reaches in omega (arith, e, f) in
    record {
      count = a.count + b.count;
      reaches = reaches;
      says =
          run_both code from a.count b.count before
          ∙ ap (λ (said : Said). followed said (run code (from + a.count) b.count said.after)) a.says
          ∙ ap (λ n. followed (record { marks = but_breaks one; after = ended mid between }) (run code n b.count (ended mid between))) a.reaches
          ∙ ap (followed (record { marks = but_breaks one; after = ended mid between })) (run_again code mid b.count between ∙ b.says)
          ∙ ap (λ (marks : List Mark). record { marks = marks; after = ended to after }) (sym (breaks_append one two));
    }

pub goes_to_equal : {code : Steps} {from to : ℕ} {before after other : State} {marks : List Mark} → ended to after ≡ ended to other → Goes code from to before marks after → Goes code from to before marks other
goes_to_equal {marks = marks} e a =
    record { count = a.count; reaches = a.reaches; says = a.says ∙ ap (λ (state : State). record { marks = but_breaks marks; after = state }) e }

pub goes_by_equal : {code : Steps} {from to : ℕ} {before after : State} {marks others : List Mark} → but_breaks marks ≡ but_breaks others → Goes code from to before marks after → Goes code from to before others after
goes_by_equal {to = to} {after = after} e a =
    record { count = a.count; reaches = a.reaches; says = a.says ∙ ap (λ (marks : List Mark). record { marks = marks; after = ended to after }) e }

-- the steps alone say what is said and left
pub one_way : {code : Steps} {from to : ℕ} {before after other : State} {one two : List Mark} → Goes code from to before one after → Goes code from to before two other →
    (but_breaks one ≡ but_breaks two) × (ended to after ≡ ended to other)
one_way {code} {from} {to} {before} a b =
    let same : a.count ≡ b.count = let e = a.reaches in let f = b.reaches in omega (arith, e, f) in
    let said = sym a.says ∙ ap (λ n. run code from n before) same ∙ b.says in
    (ap (λ (said : Said). said.marks) said, ap (λ (said : Said). said.after) said)

-- ---- single steps

-- where a step says this of the state before it
pub steps : {code : Steps} {at : ℕ} {before after : State} {marks : List Mark} (kind : StepKind) (part : Part) → kind_at code.steps at ≡ Some kind → part_at code at ≡ Some part
    → says kind part (ended at before) ≡ record { marks = but_breaks marks; after = after } → Goes code at (suc at) before marks after
steps {code} {at} {before} {after} {marks} kind part k p said = record {
  count = 1;
  reaches = omega arith;
  says =
      ap₂ (λ kind part. followed (says_at kind part (ended at before)) (quiet (ended (suc at) (says_at kind part (ended at before)).after))) k p
      ∙ ap (λ said. followed said (quiet (ended (suc at) said.after))) said
      ∙ ap (λ (marks : List Mark). record { marks = marks; after = ended (suc at) after }) (append-nil (but_breaks marks));
}
