-- Serves a body. What the tables of a function hold of its steps.
use Rattle.std.specs.Prelude.{◌≡◌, ◌<◌, ◌≤◌, ℕ, zero, suc, ◌+◌, ◌-◌, Bool, true, false, nat_le, nat_lt, List, [], ◌∷◌, ◌++◌, length, map, get_or, slice_get, Option, None, Some, option_and_then, if◌then◌else◌}
use Rattle.recover_expr.specs.declared.steps.Step.{Step}
use Rattle.recover_expr.specs.declared.steps.StepKind.{StepKind}
use Rattle.recover_flow.specs.declared.regions.Exit.{Exit}
use Rattle.recover_flow.specs.declared.tables.Run.{Run}
use Rattle.recover_flow.specs.declared.tables.Runs.{Runs}
use Rattle.recover_flow.specs.declared.tables.Span.{Span}
use Rattle.recover_flow.specs.declared.tables.Tables.{Tables}
use Rattle.recover_flow.specs.Asked.{break_exit, ends_there, exit_behind, goes_ahead, goes_back, is_test, is_this, is_unit, kind_at, last_below, number_before}

-- what stands in a table by the number of a step, or by the count of steps
abbrev pub at_place : {X : Type 0} → List Step → (ℕ → X) → (place : ℕ) → Option X
at_place steps held place = if nat_le place (length steps) then Some (held place) else None

-- the numbers below a count that pass a test, in order
abbrev pub places_where : (ℕ → Bool) → (count : ℕ) → List ℕ
places_where holds zero = []
places_where holds (suc n) = places_where holds n ++ (if holds n then n ∷ [] else [])

-- none from a count on passes
abbrev pub NoneFrom : (ℕ → Bool) → (count : ℕ) → Type 0
NoneFrom holds count = (n : ℕ) → count ≤ n → holds n ≡ false

-- these are all that pass a test, in order
pub record AreAll (numbers : List ℕ) (holds : ℕ → Bool) : Type 0 where
  pub count : ℕ
  pub none : NoneFrom holds count
  pub are : numbers ≡ places_where holds count

-- the first so many of these are below an end, and the others are not
pub record IsCut (numbers : List ℕ) (end many : ℕ) : Type 0 where
  pub fits : many ≤ length numbers
  pub below : (place default : ℕ) → place < many → get_or numbers place default < end
  pub behind : (place default : ℕ) → many ≤ place → place < length numbers → end ≤ get_or numbers place default

-- the last one of the first so many
abbrev pub item_before : List ℕ → (many : ℕ) → Option ℕ
item_before numbers many = option_and_then (slice_get numbers) (number_before many)

-- there is a number, below an end
abbrev pub is_before : (to : ℕ) → Option ℕ → Bool
is_before to None = false
is_before to (Some number) = nat_lt number to

-- or from another on
abbrev pub is_from : (from : ℕ) → Option ℕ → Bool
is_from from None = false
is_from from (Some number) = nat_le from number

-- ---- what is noted of a step

-- an item is noted at a place
abbrev pub noted : {X : Type 0} → Option ℕ → X → (place : ℕ) → List X → List X
noted to item place row = row ++ (if is_this to place then item ∷ [] else [])

-- where it goes back to
abbrev pub back_to : (place : ℕ) → Option ℕ → Option ℕ
back_to place None = None
back_to place (Some target) = if nat_le target place then Some target else None

-- and forward
abbrev pub ahead_to : (place : ℕ) → Option ℕ → Option ℕ
ahead_to place None = None
ahead_to place (Some target) = if nat_lt place target then Some target else None

-- where captured locals end that are declared there
abbrev pub captured_end : StepKind → Option ℕ
captured_end (StepKind.Declaration end true) = Some end
captured_end kind = None

-- the last one that ends at a place, where that is noted
abbrev pub last_noted : Option ℕ → (number : ℕ) → (place : ℕ) → Option ℕ → Option ℕ
last_noted to number place before = if is_this to place then Some number else before

-- the declaration that a CLOSE names
abbrev pub declared_of : StepKind → Option ℕ
declared_of (StepKind.Close from declared) = declared
declared_of kind = None

-- ---- runs

-- the steps of a run
abbrev pub is_run : Run → Option StepKind → Bool
is_run Run.Tests kind = is_test kind
is_run Run.TestsAndJumps kind = is_unit kind

-- where those begin that stand side by side up to a place
abbrev pub run_start : (ℕ → Bool) → (place : ℕ) → ℕ
run_start holds zero = 0
run_start holds (suc n) = if holds n then run_start holds n else suc n

-- where those end that stand side by side from a place on, at most so many
abbrev pub run_end : (ℕ → Bool) → (place most : ℕ) → ℕ
run_end holds place zero = place
run_end holds place (suc n) = if holds place then run_end holds (place + 1) n else place

-- up to a place, and from one on
abbrev pub starts_to : (ℕ → Bool) → (place : ℕ) → List ℕ
starts_to holds zero = 0 ∷ []
starts_to holds (suc n) = starts_to holds n ++ run_start holds (suc n) ∷ []

abbrev pub ends_from : (ℕ → Bool) → (place most : ℕ) → List ℕ
ends_from holds place zero = place ∷ []
ends_from holds place (suc n) = run_end holds place (suc n) ∷ ends_from holds (place + 1) n

-- tables of both, by the numbers of steps
pub record AreRuns (steps : List Step) (holds : ℕ → Bool) (runs : Runs) : Type 0 where
  pub starts : (place : ℕ) → slice_get runs.starts.items place ≡ at_place steps (run_start holds) place
  pub ends : (place : ℕ) → slice_get runs.ends.items place ≡ at_place steps (λ at. run_end holds at (length steps - at)) place

-- ---- breaks

-- where the break goes whose CLOSE this is
abbrev pub exit_of : List Step → (close base : ℕ) → StepKind → Option Exit
exit_of steps close base (StepKind.Close from declared) = if nat_lt from base then exit_behind close from (kind_at steps (close + 1)) else None
exit_of steps close base kind = None

abbrev pub span_of : (close : ℕ) → Option Exit → List Span
span_of close None = []
span_of close (Some exit) = record { close = close; exit = exit } ∷ []

-- a break is noted at the declaration that its CLOSE names
abbrev pub break_noted : Option ℕ → (close : ℕ) → Option Exit → (place : ℕ) → List Span → List Span
break_noted to close exit place row = row ++ (if is_this to place then span_of close exit else [])

-- the breaks that name a declaration, whose CLOSEs stand below a count
abbrev pub spans_where : List Step → (declaration count : ℕ) → List Span
spans_where steps declaration zero = []
spans_where steps declaration (suc n) = spans_where steps declaration n ++ span_of n (break_exit steps declaration n)

-- ---- the tables

-- the tests and jumps that go back to a place
abbrev pub all_back : List Step → (place : ℕ) → List ℕ
all_back steps place = places_where (goes_back steps place) (length steps)

-- the jumps forward to it
abbrev pub all_ahead : List Step → (place : ℕ) → List ℕ
all_ahead steps place = places_where (goes_ahead steps place) (length steps)

-- the last declaration of a captured local that ends there
abbrev pub last_ending : List Step → (place : ℕ) → Option ℕ
last_ending steps place = last_below (λ step. ends_there place (kind_at steps step)) (length steps)

-- the breaks that close the locals of a declaration
abbrev pub all_spans : List Step → (declaration : ℕ) → List Span
all_spans steps declaration = spans_where steps declaration (length steps)

-- a value of `Tables` holds the tables of its steps
pub record AreTables (tables : Tables) : Type 0 where
  pub back : (place : ℕ) → slice_get (map (λ row. row.items) tables.back.items) place ≡ at_place tables.steps.now (all_back tables.steps.now) place
  pub ahead : (place : ℕ) → slice_get (map (λ row. row.items) tables.ahead.items) place ≡ at_place tables.steps.now (all_ahead tables.steps.now) place
  pub captured_ends : (place : ℕ) → slice_get tables.captured_ends.items place ≡ at_place tables.steps.now (last_ending tables.steps.now) place
  pub spans : (place : ℕ) → slice_get (map (λ row. row.items) tables.spans.items) place ≡ at_place tables.steps.now (all_spans tables.steps.now) place
  pub tests : AreRuns tables.steps.now (λ step. is_test (kind_at tables.steps.now step)) tables.tests
  pub jumps : AreRuns tables.steps.now (λ step. is_unit (kind_at tables.steps.now step)) tables.jumps

-- what stands at a place of a table of such, if anything
abbrev pub held_there : Option (Option ℕ) → Option ℕ
held_there None = None
held_there (Some number) = number

abbrev pub last_captured : List Step → (end : ℕ) → Option ℕ
last_captured steps end = held_there (at_place steps (last_ending steps) end)
