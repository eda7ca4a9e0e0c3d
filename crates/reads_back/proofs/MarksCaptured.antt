-- The marks of steps that follow one another capture what one of them captures, and all steps of a function say what its statements do.
use Rattle.std.proofs.Common.{◌≡◌, ℕ, zero, suc, ◌+◌, ◌&&◌, Bool, true, false, not, List, [], ◌∷◌, ◌++◌, append_assoc, append-nil, length, refl, sym, ap, ◌∙◌, arith}
use Rattle.std.proofs.Math.Bool.{or_assoc}
use Rattle.std.specs.Prelude.{◌==◌, ◌||◌, None, Option, Some}
use Rattle.lua_num.specs.Bytes.{Text}
use Rattle.lua_tree.specs.Outline.{Mark, Place, mention, local_name, hidden_local, dots, leave, opened, innermost, statements_part}
use Rattle.lua_tree.specs.Scoping.{is_captured}
use Rattle.lua_tree.specs.Syntax.{Statements}
use Rattle.recover_expr.specs.Placing.{Steps}
use Rattle.scheme.specs.Making.{Ahead}
use Rattle.same_flow.specs.SameFlow.{AreLaid}
use Rattle.same_flow.specs.SameMarks.{but_breaks}
use Rattle.same_flow.proofs.MarksSame.{whole_walk}
use Rattle.same_flow.proofs.Walks.{Entry, Said, State, ended_in, run, said_at, state_of}
use Rattle.reads_back.proofs.StepsKnown.{state_before, state_to, ended_keeps}

-- ---- marks one behind the other

-- they capture a declaration where one of them does
pub captured_both : (declaration : ℕ) (one other : List Mark) → is_captured declaration (one ++ other) ≡ (is_captured declaration one || is_captured declaration other)
captured_both declaration [] other = refl
captured_both declaration (mention line name (Some b) around ∷ one) other =
    let here = (b.declaration == declaration) && not (b.home == innermost around) in
    ap (λ rest. here || rest) (captured_both declaration one other) ∙ sym (or_assoc here (is_captured declaration one) (is_captured declaration other))
captured_both declaration (mention line name None around ∷ one) other = captured_both declaration one other
captured_both declaration (local_name line reached ∷ one) other = captured_both declaration one other
captured_both declaration (hidden_local line reached ∷ one) other = captured_both declaration one other
captured_both declaration (dots line vararg ∷ one) other = captured_both declaration one other
captured_both declaration (leave line looped ∷ one) other = captured_both declaration one other
captured_both declaration (opened outer ∷ one) other = captured_both declaration one other

-- breaks capture nothing
pub captured_unbroken : (declaration : ℕ) (marks : List Mark) → is_captured declaration (but_breaks marks) ≡ is_captured declaration marks
captured_unbroken declaration [] = refl
captured_unbroken declaration (mention line name (Some b) around ∷ marks) =
    ap (λ rest. ((b.declaration == declaration) && not (b.home == innermost around)) || rest) (captured_unbroken declaration marks)
captured_unbroken declaration (leave line true ∷ marks) = captured_unbroken declaration marks
captured_unbroken declaration (mark ∷ marks) = captured_unbroken declaration marks

-- a local is captured where its declaration is; a hidden one has none
abbrev pub captured_in : Option ℕ → List Mark → Bool
captured_in None marks = false
captured_in (Some declaration) marks = is_captured declaration marks

pub captured_in_both : (declaration : Option ℕ) (one other : List Mark) → captured_in declaration (one ++ other) ≡ (captured_in declaration one || captured_in declaration other)
captured_in_both None one other = refl
captured_in_both (Some declaration) one other = captured_both declaration one other

-- ---- the marks of steps

-- what so many steps say
abbrev pub marks_to : Steps → State → (at : ℕ) → List Mark
marks_to code first zero = []
marks_to code first (suc at) = marks_to code first at ++ (said_at code at (state_before code first at)).marks

-- a walk over more steps says the rest
pub run_marks : (code : Steps) (first : State) (count at : ℕ) → marks_to code first at ++ (run code at count (state_to code first at)).marks ≡ marks_to code first (at + count)
run_marks code first zero at = append-nil (marks_to code first at) ∙ ap (marks_to code first) (let same : at ≡ at + 0 = omega arith in same)
run_marks code first (suc count) at =
    let here = (said_at code at (state_before code first at)).marks in
    sym (append_assoc (marks_to code first at) here (run code (suc at) count (state_to code first (suc at))).marks)
    ∙ run_marks code first count (suc at)
    ∙ ap (marks_to code first) (let same : suc at + count ≡ at + suc count = omega arith in same)

pub run_place : (code : Steps) (first : State) (count at : ℕ) → (run code at count (state_to code first at)).after ≡ state_before code first (at + count)
run_place code first zero at = ap (state_before code first) (let same : at ≡ at + 0 = omega arith in same)
run_place code first (suc count) at = run_place code first count (suc at) ∙ ap (state_before code first) (let same : suc at + count ≡ at + suc count = omega arith in same)

-- where locals leave, all but what is in scope stands as before
pub declarations_stay : (at : ℕ) (place : Place) (entries : List Entry) → (ended_in at place entries).place.declarations ≡ place.declarations
declarations_stay at place entries = ended_keeps (λ (state : State). state.place.declarations ≡ place.declarations) (λ entry entries place is. is) at place entries refl

pub functions_stay : (at : ℕ) (place : Place) (entries : List Entry) → (ended_in at place entries).place.functions ≡ place.functions
functions_stay at place entries = ended_keeps (λ (state : State). state.place.functions ≡ place.functions) (λ entry entries place is. is) at place entries refl

pub around_ended : (at : ℕ) (place : Place) (entries : List Entry) → (ended_in at place entries).place.around ≡ place.around
around_ended at place entries = ended_keeps (λ (state : State). state.place.around ≡ place.around) (λ entry entries place is. is) at place entries refl

-- ---- all steps of a function

module _ (code : Steps) (params names : List Text) (ahead : Ahead) (block : Statements) (laid : AreLaid code params names ahead block) (place : Place) where
  abbrev first : State
  first = state_of place []

  none : length code.steps ≡ 0 + length code.steps
  none = omega arith

  whole_run : (run code 0 (length code.steps) first).marks ≡ but_breaks (statements_part block place).marks
  whole_run =
      let walk = whole_walk code params names ahead block laid place in
      let reaches = walk.reaches in
      let same : walk.count ≡ length code.steps = omega (arith, reaches) in
      ap (λ n. (run code 0 n first).marks) (sym same) ∙ ap (λ (it : Said). it.marks) walk.says

  -- they say what the statements say, but for breaks
  pub all_marks : marks_to code first (length code.steps) ≡ but_breaks (statements_part block place).marks
  all_marks = ap (marks_to code first) none ∙ sym (run_marks code first (length code.steps) 0) ∙ whole_run

  -- so they capture what the statements capture
  pub all_captured : (declaration : ℕ) → is_captured declaration (marks_to code first (length code.steps)) ≡ is_captured declaration (statements_part block place).marks
  all_captured declaration = ap (is_captured declaration) all_marks ∙ captured_unbroken declaration (statements_part block place).marks

  -- and as many declarations stand before their end
  pub all_declarations : (state_before code first (length code.steps)).place.declarations ≡ (statements_part block place).next.declarations
  all_declarations =
      let walk = whole_walk code params names ahead block laid place in
      let reaches = walk.reaches in
      let same : walk.count ≡ length code.steps = omega (arith, reaches) in
      ap (λ at. (state_before code first at).place.declarations) none
      ∙ sym (ap (λ (state : State). state.place.declarations) (run_place code first (length code.steps) 0))
      ∙ ap (λ n. (run code 0 n first).after.place.declarations) (sym same) ∙ ap (λ (it : Said). it.after.place.declarations) walk.says
