-- What is known of the source ahead before each step of a function: the words of a step pass the marks of its part.
use Rattle.std.proofs.Common.{◌≡◌, ◌<◌, ℕ, zero, suc, ◌+◌, Bool, true, false, List, [], ◌∷◌, ◌++◌, append_assoc, drop, length, refl, sym, ap, ap₂, ◌∙◌, subst, arith, if◌then◌else◌}
use Rattle.std.specs.Prelude.{None, nat_lt, option_map}
use Rattle.lua_num.specs.Bytes.{Text}
use Rattle.lua_tree.specs.Outline as outline
use Rattle.lua_tree.specs.Outline.{Mark, mention, leave, Place, both, come, declares, nothing, expression_part, expressions_part, statements_part}
use Rattle.lua_tree.specs.Resolved.{captured_below, declarations_in, functions_in, upvalues_below}
use Rattle.lua_tree.specs.Scoping.{Use, use_in, uses_among}
use Rattle.lua_tree.specs.Syntax as syntax
use Rattle.lua_tree.specs.Syntax.{Expressions, no_expressions, Statements, return_statement}
use Rattle.lua_tree.specs.WellFormed.{formed_expressions, formed_statements}
use Rattle.recover_expr.specs.Drafts.{Part, statement_part, values_part, condition_part, head_part}
use Rattle.recover_expr.specs.Placing.{Steps}
use Rattle.recover_expr.specs.declared.steps.Step.{Step}
use Rattle.recover_expr.specs.declared.steps.StepKind.{StepKind}
use Rattle.scheme.specs.Making.{Ahead, Maker, declare}
use Rattle.scheme.specs.declared.making.Active.{Active}
use Rattle.scheme_stands.proofs.Growth.{spot}
use Rattle.scheme_stands.proofs.Lines.{declared}
use Rattle.scheme_stands.proofs.Moving.{chain}
use Rattle.scheme_stands.proofs.Scopes.{all_move, expression_moves, statement_moves}
use Rattle.scheme_stands.proofs.Walks.{adjust_moves, and_left, and_right, declared_moves}
use Rattle.scheme_stands.specs.Places.{Moves, ahead_at}
use Rattle.scheme_stands.specs.Words.{Fn, Spot}
use Rattle.same_flow.specs.Alike.{heads}
use Rattle.same_flow.specs.Listed.{pc_of_step}
use Rattle.same_flow.specs.Performed.{behind_step, ended_before, kind_made, performed_to}
use Rattle.same_flow.specs.SameFlow.{AreLaid, HasPlainParts, begun_of}
use Rattle.same_flow.specs.SameMarks.{but_breaks}
use Rattle.same_flow.specs.Told.{AreCounted, AreTold, PartFits, at_beginning, before_step}
use Rattle.same_flow.proofs.MarksSame.{whole_walk}
use Rattle.same_flow.proofs.StatementsTold.{laid_are_told}
use Rattle.same_flow.proofs.Walks.{Entry, Said, State, back_to, ended, ended_in, run, said_at, says, says_at, state_of}
use Rattle.reads_back.proofs.FormedSteps.{AreFormed, IsFormed, laid_formed}
use Rattle.reads_back.proofs.PlacedCaptures.{element_there}
use Rattle.reads_back.specs.Stepped.{CountedAt, KindAt, StepStands, begun_by}

-- ---- what stands in a step

-- of a kind with a part, as a part of a source
abbrev pub part_said : StepKind → Part → outline.Part
part_said StepKind.Act (statement_part s) = outline.statement_part 1 s
part_said (StepKind.Declaration end captured) (statement_part s) = outline.statement_part 1 s
part_said StepKind.Return (values_part es) = expressions_part es
part_said (StepKind.Test when target negated) (condition_part e) = expression_part e
part_said (StepKind.Head numeric foot end variables_end captured) (head_part values names) = heads names values
part_said kind part = nothing

-- the walk over steps says what the parts say, breaks aside
pub says_part : (kind : StepKind) (part : Part) (state : State) → PartFits kind part → ((says kind part state).marks ≡ but_breaks (part_said kind part state.place).marks) × ((says kind part state).after.place ≡ (part_said kind part state.place).next)
says_part StepKind.Act (statement_part s) state fits = (refl, refl)
says_part (StepKind.Declaration end captured) (statement_part s) state fits = (refl, refl)
says_part StepKind.Return (values_part es) state fits = (refl, refl)
says_part (StepKind.Test when target negated) (condition_part e) state fits = (refl, refl)
says_part (StepKind.Head true foot end variables_end captured) (head_part values names) state fits = (refl, refl)
says_part (StepKind.Head false foot end variables_end captured) (head_part values names) state fits = (refl, refl)
says_part (StepKind.Jump target) part state fits = (refl, refl)
says_part (StepKind.Close from step) part state fits = (refl, refl)
says_part (StepKind.Foot numeric target) part state fits = (refl, refl)
says_part kind part state fits = absurd fits

-- what holds of a state, and goes on to hold where a local leaves, holds where all that have ended have left
pub ended_keeps : (Holds : State → Type 0) → ((entry : Entry) (entries : List Entry) (place : Place) → Holds (record { place = place; entries = entry ∷ entries }) → Holds (record { place = back_to entry place; entries = entries })) →
    (at : ℕ) (place : Place) (entries : List Entry) → Holds (record { place = place; entries = entries }) → Holds (ended_in at place entries)
ended_keeps Holds leaves at place [] holds = holds
ended_keeps Holds leaves at place (entry ∷ entries) holds = by (nat_lt at entry.end) (ended_keeps Holds leaves at (back_to entry place) entries (leaves entry entries place holds))
  where
    by : (test : Bool) → Holds (ended_in at (back_to entry place) entries) → Holds (if test then record { place = place; entries = entry ∷ entries } else ended_in at (back_to entry place) entries)
    by true rest = holds
    by false rest = rest

module _ (all : List Mark) where
  -- breaks mention nothing
  unbroken : (marks rest : List Mark) → uses_among all (but_breaks marks ++ rest) ≡ uses_among all (marks ++ rest)
  unbroken [] rest = refl
  unbroken (mention line name means around ∷ marks) rest = ap (λ uses. use_in (outline.innermost around) all means ∷ uses) (unbroken marks rest)
  unbroken (leave line true ∷ marks) rest = unbroken marks rest
  unbroken (mark ∷ marks) rest = unbroken marks rest

  pub ahead_unbroken : (place : Place) (marks rest : List Mark) → ahead_at all place (but_breaks marks ++ rest) ≡ ahead_at all place (marks ++ rest)
  ahead_unbroken place marks rest = ap (λ (uses : List Use). record {
    names = uses;
    captures = drop place.declarations (captured_below (declarations_in all) all);
    sources = drop place.functions (upvalues_below (functions_in all) all);
    declarations = place.declarations;
  }) (unbroken marks rest)

  moves_unbroken : (part : outline.Part) (p q : Spot) → Moves all part p q → (place : Place) (rest : List Mark) → p.ahead ≡ ahead_at all place (but_breaks (part place).marks ++ rest) → q.ahead ≡ ahead_at all (part place).next rest
  moves_unbroken part p q moves place rest e = moves place rest (e ∙ ahead_unbroken place (part place).marks rest)

  -- where locals leave, nothing more is passed
  numbers_stay : (at : ℕ) (place : Place) (entries : List Entry) (marks : List Mark) → ahead_at all (ended_in at place entries).place marks ≡ ahead_at all place marks
  numbers_stay at place entries marks = ended_keeps (λ (state : State). ahead_at all state.place marks ≡ ahead_at all place marks) (λ entry entries place is. is) at place entries refl

  -- ---- the words of a step

  counted_moves : (g : Fn) (values : Expressions) → AreCounted values → formed_expressions values ≡ true → (active : List Active) (free : ℕ) (p q : Spot) → CountedAt g values active free p q → Moves all (expressions_part values) p q
  counted_moves g (syntax.expression first (syntax.expression last no_expressions)) fits formed active free p q t =
      let a = expression_moves all g first (and_left _ _ formed) in
      let b = expression_moves all g last (and_left _ _ (and_right _ _ formed)) in
      let n = t.second_at in
      let w = n.second_at.word in
      chain all (expression_part first) (expressions_part (syntax.expression last no_expressions)) p t.mid q (a.value.to_reg active free free p t.mid t.first_at)
      (chain all (expression_part last) nothing t.mid n.mid q (b.value.to_reg active (suc free) (suc free) t.mid n.mid n.first_at) (λ place rest e. w.ahead ∙ e))
  counted_moves g (syntax.expression first (syntax.expression last (syntax.expression by no_expressions))) fits formed active free p q t =
      let a = expression_moves all g first (and_left _ _ formed) in
      let b = expression_moves all g last (and_left _ _ (and_right _ _ formed)) in
      let c = expression_moves all g by (and_left _ _ (and_right _ _ (and_right _ _ formed))) in
      let n = t.second_at in
      chain all (expression_part first) (expressions_part (syntax.expression last (syntax.expression by no_expressions))) p t.mid q (a.value.to_reg active free free p t.mid t.first_at)
      (chain all (expression_part last) (expressions_part (syntax.expression by no_expressions)) t.mid n.mid q (b.value.to_reg active (suc free) (suc free) t.mid n.mid n.first_at)
      (chain all (expression_part by) nothing n.mid q q (c.value.to_reg active (suc (suc free)) (suc (suc free)) n.mid q n.second_at) (λ place rest e. e)))
  counted_moves g values fits formed active free p q t = absurd fits

  -- the variables of a loop are declared, its values are made, and the variables come into scope
  head_moves : (values : Expressions) (names : List Text) (m : Maker) (mid q : Spot) → Moves all (expressions_part values) (spot (declare names m).after) mid → q.ahead ≡ mid.ahead → Moves all (heads names values) (spot m) q
  head_moves values names m mid q moves same place rest e =
      let begun = spot (declare names m).after in
      chain all (declares 1 3 names) (both (expressions_part values) (come 3 names place.declarations)) (spot m) begun q (declared_moves all 1 3 names (declare names m).value (spot m) begun (declared names m))
      (chain all (expressions_part values) (come 3 names place.declarations) begun mid q moves (λ place rest e. same ∙ e)) place rest e

  -- the words of a step pass the marks of its part
  kind_moves : (g : Fn) (code : Steps) (pcs : ℕ → ℕ) (kind : StepKind) (part : Part) (before behind : Maker) (q : Spot) → PartFits kind part → IsFormed kind part →
      KindAt g code pcs kind part before behind (spot (begun_by kind part before)) q → Moves all (part_said kind part) (spot before) q
  kind_moves g code pcs StepKind.Act (statement_part s) before behind q fits formed t = statement_moves all g None 1 s formed before.active behind.active (spot before) q t
  kind_moves g code pcs (StepKind.Declaration end captured) (statement_part s) before behind q fits formed t = statement_moves all g None 1 s formed before.active behind.active (spot before) q t
  kind_moves g code pcs StepKind.Return (values_part es) before behind q fits formed t = statement_moves all g None 1 (return_statement es) formed before.active behind.active (spot before) q t
  kind_moves g code pcs (StepKind.Test when target negated) (condition_part x) before behind q fits formed t =
      (expression_moves all g x formed).jump_if before.active (length before.active) when (pcs target) (spot before) q t
  kind_moves g code pcs (StepKind.Head true foot end variables_end captured) (head_part values names) before behind q fits formed t =
      let w = t.second_at in
      head_moves values names before t.mid q (counted_moves g values fits.0 formed before.active before.free (spot (declare names before).after) t.mid t.first_at) w.ahead
  kind_moves g code pcs (StepKind.Head false foot end variables_end captured) (head_part values names) before behind q fits formed t =
      let w = t.second_at in
      head_moves values names before t.mid q (adjust_moves all g values 3 (all_move all g values formed) before.active before.free (spot (declare names before).after) t.mid t.first_at) w.ahead
  kind_moves g code pcs (StepKind.Jump target) part before behind q fits formed t = λ place rest e. t.ahead ∙ e
  kind_moves g code pcs (StepKind.Close from step) part before behind q fits formed t = λ place rest e. t.ahead ∙ e
  kind_moves g code pcs (StepKind.Foot true target) part before behind q fits formed t = λ place rest e. t.ahead ∙ e
  kind_moves g code pcs (StepKind.Foot false target) part before behind q fits formed t = let one = t.first_at in let two = t.second_at in λ place rest e. two.ahead ∙ one.ahead ∙ e
  kind_moves g code pcs kind part before behind q fits formed t = absurd fits

-- ---- along the steps of a function

-- what is known of the source ahead where a step is made: these numbers of declarations and functions stand before it, and these marks come next
abbrev IsKnown : (all : List Mark) → Steps → (params names : List Text) → Ahead → (at : ℕ) → Place → List Mark → Type 0
IsKnown all code params names ahead at place marks = (before_step code params names ahead at).ahead ≡ ahead_at all place marks

-- where the walk over the steps stands behind so many of them
abbrev pub state_to : Steps → State → (at : ℕ) → State
state_to code first zero = first
state_to code first (suc at) = (said_at code at (ended at (state_to code first at))).after

-- before a step the locals have left that end there
abbrev pub state_before : Steps → State → (at : ℕ) → State
state_before code first at = ended at (state_to code first at)

module _ (all : List Mark) (g : Fn) (code : Steps) (params names : List Text) (ahead : Ahead) (stands : (at : ℕ) → StepStands g code params names ahead at) (told : AreTold code params names ahead) (formed : AreFormed code)
    (first : State) (rest : List Mark) where
  -- the marks of so many steps from one on come next
  abbrev ComeNext : (at count : ℕ) → Type 0
  ComeNext at count = IsKnown all code params names ahead at (state_before code first at).place ((run code at count (state_to code first at)).marks ++ rest)

  -- behind a step those of the others do
  next_known : (at count : ℕ) → at < length code.steps → ComeNext at (suc count) → ComeNext (suc at) count
  next_known at count within known =
      let there = element_there code.steps at within in
      let step : Step = there.0 in
      let tells = told at step there.1 in
      let part : Part = tells.part in
      let m = before_step code params names ahead at in
      let now = state_before code first at in
      let said = said_at code at now in
      let others = run code (suc at) count said.after in
      let is : said ≡ says step.kind part now = ap₂ (λ kind part. says_at kind part now) (ap (option_map (λ (it : Step). it.kind)) there.1) tells.there in
      let says = says_part step.kind part now tells.fits in
      let walk = part_said step.kind part now.place in
      let marks : said.marks ≡ but_breaks walk.marks = ap (λ (it : Said). it.marks) is ∙ says.0 in
      let next : said.after.place ≡ walk.next = ap (λ (it : Said). it.after.place) is ∙ says.1 in
      let start : m.ahead ≡ ahead_at all now.place (but_breaks walk.marks ++ (others.marks ++ rest)) =
      known ∙ ap (ahead_at all now.place) (append_assoc said.marks others.marks rest) ∙ ap (λ (marks : List Mark). ahead_at all now.place (marks ++ (others.marks ++ rest))) marks in
      let behind = kind_made code step.kind part m in
      let moves = kind_moves all g code (pc_of_step code params names ahead) step.kind part m behind (spot behind) tells.fits (formed at step part there.1 tells.there) (stands at step part there.1 tells.there) in
      ap₂ (λ kind part. (behind_step code kind part (ended_before at (performed_to code (at_beginning code params names ahead) at))).maker.ahead) (ap (option_map (λ (it : Step). it.kind)) there.1) tells.there
      ∙ moves_unbroken all (part_said step.kind part) (spot m) (spot behind) moves now.place (others.marks ++ rest) start
      ∙ ap (λ (place : Place). ahead_at all place (others.marks ++ rest)) (sym next)
      ∙ sym (numbers_stay all (suc at) said.after.place said.after.entries (others.marks ++ rest))

  -- before each step the marks of the steps from it on come next, where those of all steps do at the beginning
  known_steps : (begun_of params names ahead).ahead ≡ ahead_at all first.place ((run code 0 (length code.steps) first).marks ++ rest) →
      (at count : ℕ) → at + count ≡ length code.steps → IsKnown all code params names ahead at (state_before code first at).place ((run code at count (state_to code first at)).marks ++ rest)
  known_steps begun zero count e =
      let same : length code.steps ≡ count = omega (arith, e) in
      subst (λ n. ComeNext 0 n) same (begun ∙ sym (numbers_stay all 0 first.place first.entries ((run code 0 (length code.steps) first).marks ++ rest)))
  known_steps begun (suc at) count e = next_known at count (omega (arith, e)) (known_steps begun at (suc count) (omega (arith, e)))

-- so it is in a function on whose steps these statements stand, where their marks come next at the beginning
pub known_laid : (all : List Mark) (g : Fn) (code : Steps) → HasPlainParts code → (params names : List Text) (ahead : Ahead) (block : Statements) → AreLaid code params names ahead block → formed_statements block ≡ true →
    ((at : ℕ) → StepStands g code params names ahead at) → (place : Place) (rest : List Mark) → (begun_of params names ahead).ahead ≡ ahead_at all place ((statements_part block place).marks ++ rest) →
    (at count : ℕ) → at + count ≡ length code.steps →
    IsKnown all code params names ahead at (state_before code (state_of place []) at).place ((run code at count (state_to code (state_of place []) at)).marks ++ rest)
known_laid all g code plain params names ahead block laid formed stands place rest begun =
    let first = state_of place [] in
    let marks = (statements_part block place).marks in
    let walk = whole_walk code params names ahead block laid place in
    let reaches = walk.reaches in
    let same : walk.count ≡ length code.steps = omega (arith, reaches) in
    let says : (run code 0 (length code.steps) first).marks ≡ but_breaks marks = ap (λ n. (run code 0 n first).marks) (sym same) ∙ ap (λ (it : Said). it.marks) walk.says in
    known_steps all g code params names ahead stands (laid_are_told code plain params names ahead block laid) (laid_formed code params names ahead block laid formed) first rest
    (begun ∙ sym (ahead_unbroken all place marks rest) ∙ ap (λ (marks : List Mark). ahead_at all place (marks ++ rest)) (sym says))
