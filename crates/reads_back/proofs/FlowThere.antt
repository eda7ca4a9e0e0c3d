-- A function whose statements stand on steps, and these in its words: what is asked of it, and which names its locals have before each step.
use Rattle.std.proofs.Common.{◌≡◌, ◌<◌, ◌≤◌, ℕ, zero, suc, ◌+◌, true, List, ◌++◌, length, is_some, refl, sym, ap, ap₂, ◌∙◌, arith, subst, if◌then◌else◌}
use Rattle.std.proofs.lemmas.List.{length-map, map-append}
use Rattle.std.proofs.lemmas.Option.{none-some, same_Some, slice_get-map, slice_get_within}
use Rattle.std.proofs.lemmas.Slice.Eq.{bytes_eq-Decides}
use Rattle.std.specs.Prelude.{None, Option, Some, option_map, slice_get}
use Rattle.lua_num.specs.Bytes.{Text}
use Rattle.lua_tree.specs.Names.{are_names, are_some_names, is_name}
use Rattle.lua_tree.specs.OneLine.{one_line_expression, one_line_expressions, one_line_statement}
use Rattle.lua_tree.specs.Outline as outline
use Rattle.lua_tree.specs.Syntax.{Expression, Expressions, Statement, Statements, assignment, call_statement, function_statement, local_function, local_statement, return_statement}
use Rattle.lua_tree.specs.WellFormed.{depth_of_expression, depth_of_expressions, formed_statement, has_expressions}
use Rattle.proto.specs.declared.parts.LocVar.{LocVar}
use Rattle.core_expr.specs.Places.{name_of_entry, name_of_local, place}
use Rattle.core_expr.specs.Values.{Inner}
use Rattle.recover_expr.specs.Drafts.{Part, condition_part, head_part, nothing_part, statement_part, values_part}
use Rattle.recover_expr.specs.Placing.{Steps}
use Rattle.opcode.specs.declared.op.Op.{Op}
use Rattle.recover_expr.specs.Situation.{Function, instr_at}
use Rattle.scheme.specs.declared.making.Piece.{Piece}
use Rattle.recover_expr.specs.declared.steps.Step.{Step}
use Rattle.recover_expr.specs.declared.steps.StepKind.{StepKind}
use Rattle.scheme.specs.Making.{Ahead, Maker, Where, active_count, in_globals, in_register, in_upvalue}
use Rattle.scheme.specs.declared.making.Active.{Active}
use Rattle.scheme_stands.proofs.Growth.{Final, spot}
use Rattle.scheme_stands.specs.Words.{Fn, Means, MeansBy, instr_by}
use Rattle.same_flow.specs.Declaring.{ClosesTell}
use Rattle.same_flow.specs.Blocks.{tested_as}
use Rattle.same_flow.specs.Listed.{all_entries, before_place, entries_by, entries_from, entries_of, entries_where, pc_of_step}
use Rattle.same_flow.specs.Performed.{Performance, behind_kind, kind_at, kind_made, part_at, performed_to, still_active}
use Rattle.same_flow.specs.SameFlow.{AreLaid, HasPlainParts}
use Rattle.same_flow.specs.Told.{PartFits, at_beginning}
use Rattle.same_flow.proofs.Followed.{append_again, append_nothing, length_both}
use Rattle.same_flow.proofs.ListedRun.{entries_begin, entries_last, step_there}
use Rattle.same_flow.proofs.LocalsListed.{locals_listed}
use Rattle.same_flow.proofs.StatementsTold.{laid_are_told, laid_tell}
use Rattle.same_flow.proofs.StepsTold.{EndLater}
use Rattle.reads_back.specs.Acted.{IsAct, lean_depth}
use Rattle.reads_back.specs.Assignments.{as_assignment}
use Rattle.reads_back.specs.Cores.{AllHaveCores}
use Rattle.reads_back.specs.Stepped.{KindAt, StepStands, begun_by}
use Rattle.reads_back.proofs.ActiveNames.{HasGoodNames, NamedIn, kind_brings, named_behind, named_longer, named_taken, params_named, texts_in, texts_of_entries}
use Rattle.reads_back.proofs.ListedLocals.{own_named}
use Rattle.reads_back.proofs.LocalsLeave.{listed_of, taken_few}
use Rattle.reads_back.proofs.MadeWhole.{IsMadeWhole, is_certain}
use Rattle.reads_back.proofs.NameReads.{AreListed, IsListed}
use Rattle.reads_back.proofs.PlacedEnds.{length_entries}
use Rattle.reads_back.proofs.PlacedInside.{GoesInside, laid_inside}
use Rattle.reads_back.proofs.PlacedLocals.{kind_adds, step_makes}
use Rattle.reads_back.proofs.Rewriting.{IsMadeBy}
use Rattle.reads_back.proofs.SomeNames.{good_names}
use Rattle.reads_back.proofs.ActsKnown.{AreLeft}
use Rattle.reads_back.proofs.TestedAs.{HasTest}
use Rattle.reads_back.proofs.Tests.{both_hold, first_of_both, second_of_both}

-- ---- parts that are read

-- an act on one line
pub record IsFlowAct (s : Statement) : Type 0 where
  pub is : IsAct s
  pub shallow : lean_depth s ≤ 199
  pub on_line : one_line_statement s ≡ s

-- a statement that is one, or a function statement that stands for one
pub record IsFlowStatement (s : Statement) : Type 0 where
  pub formed : formed_statement s ≡ true
  pub act : IsFlowAct (as_assignment s)

-- the leaf of a condition on one line, with `==` for `~=`
pub record IsFlowTest (e : Expression) : Type 0 where
  pub has : HasTest e
  pub shallow : depth_of_expression e ≤ 200
  pub on_line : one_line_expression e ≡ e
  pub tested : tested_as e ≡ e

-- the values of a loop on one line, and the names of its variables
pub record IsFlowHead (es : Expressions) (names : List Text) : Type 0 where
  pub has : AllHaveCores es
  pub some : has_expressions es ≡ true
  pub good : are_some_names names ≡ true
  pub shallow : depth_of_expressions es ≤ 200
  pub on_line : one_line_expressions es ≡ es

abbrev pub IsFlowPart : Part → Type 0
IsFlowPart nothing_part = Unit {0}
IsFlowPart (statement_part s) = IsFlowStatement s
IsFlowPart (values_part es) = IsFlowAct (return_statement es)
IsFlowPart (condition_part e) = IsFlowTest e
IsFlowPart (head_part es names) = IsFlowHead es names

-- ---- a function

-- its last word returns nothing
abbrev pub ReturnsLast : Function → Type 0
ReturnsLast f = instr_at f f.last ≡ Some (instr_by f.last (Piece.Abc Op.Return 0 1 0))

-- of the functions that are left to it this much is known
pub record IsFlowBy (Left : Type 0) (f : Function) (g : Fn) (z : Maker) (code : Steps) (params names : List Text) (ahead : Ahead) (block : Statements) : Type 0 where
  -- the function that is read is the one that is made in the end
  pub made : IsMadeWhole f g z
  pub left : Left
  -- its statements stand on steps, which have plain parts
  pub plain : HasPlainParts code
  pub laid : AreLaid code params names ahead block
  -- each step stands in its words
  pub stand : (at : ℕ) → StepStands g code params names ahead at
  -- the parts of its steps can be read
  pub flow : (at : ℕ) (part : Part) → part_at code at ≡ Some part → IsFlowPart part
  pub closes : ClosesTell code params names ahead
  -- its parameters have names that a source can write
  pub good : are_names params ≡ true
  -- all locals of the steps are listed
  pub listed : f.of.locals ≡ all_entries code params names ahead
  -- the last word stands behind all steps
  pub last : f.last ≡ pc_of_step code params names ahead (length code.steps)
  pub returns : ReturnsLast f
  -- the locals that are active behind so many steps have registers
  pub room : (at : ℕ) → at ≤ length code.steps → active_count (performed_to code (at_beginning code params names ahead) at).maker ≤ g.size
  -- what the steps make stands in the end
  pub final : Final 0 (performed_to code (at_beginning code params names ahead) (length code.steps)).maker z

-- these functions are left to it, where so many were made
abbrev pub IsFlowFunction : Function → Fn → Maker → (lefts : ℕ → List (Option Inner)) → (parts : ℕ → outline.Part) → Steps → (params names : List Text) → Ahead → Statements → Type 0
IsFlowFunction f g z lefts parts code params names ahead block = IsFlowBy (AreLeft f g lefts parts) f g z code params names ahead block

-- names that a part declares can be written
good_act : (s : Statement) → IsAct (as_assignment s) → HasGoodNames (statement_part s)
good_act (local_statement names es) is = good_names names is.0
good_act (local_function text body) is = both_hold _ _ is.0 refl
good_act (call_statement e) is = refl
good_act (assignment targets es) is = refl
good_act (function_statement path method body) is = refl
good_act (return_statement es) is = refl
good_act s is = absurd is

good_part : (part : Part) → IsFlowPart part → HasGoodNames part
good_part nothing_part is = tt
good_part (statement_part s) is = good_act s is.act.is
good_part (values_part es) is = tt
good_part (condition_part e) is = tt
good_part (head_part es names) is = good_names names is.good

module _ {Left : Type 0} {f : Function} {g : Fn} {z : Maker} {code : Steps} {params names : List Text} {ahead : Ahead} {block : Statements} (of : IsFlowBy Left f g z code params names ahead block) where
  abbrev pub pcs : ℕ → ℕ
  pcs = pc_of_step code params names ahead

  abbrev pub now_at : ℕ → Performance
  now_at at = performed_to code (at_beginning code params names ahead) at

  -- the function that is being made before a step
  abbrev pub before_at : ℕ → Maker
  before_at at = (before_place code params names ahead at).maker

  -- the entries of locals that are listed before a step
  abbrev listed_to : ℕ → List LocVar
  listed_to at = entries_of 0 (pcs (length code.steps)) params ++ entries_from code pcs 0 at

  -- each active local is listed by its name
  named_to : (at : ℕ) → at ≤ length code.steps → NamedIn (texts_in (listed_to at)) (now_at at).maker.active
  named_to zero most =
      subst (λ (texts : List Text). NamedIn texts (now_at 0).maker.active) (sym (ap texts_in (append_nothing (entries_of 0 (pcs (length code.steps)) params)) ∙ texts_of_entries 0 (pcs (length code.steps)) params)) (params_named params names ahead of.good)
  named_to (suc at) most =
      let step = step_there code.steps at (omega (arith, most)) in
      let told = laid_are_told code of.plain params names ahead block of.laid at step.0 step.1 in
      let m = before_at at in
      let made = kind_made code step.0.kind told.part m in
      let makes = step_makes code of.plain params names ahead at step.0 told.part step.1 told.there in
      let before = named_taken (still_active at (now_at at).ends) (texts_in (listed_to at)) (now_at at).maker.active (named_to at (omega (arith, most))) in
      let listed = ((locals_listed code of.plain params names ahead block of.laid).before at (omega (arith, most))).count in
      let parameters = entries_of 0 (pcs (length code.steps)) params in
      let here = entries_by pcs at step.0.kind told.part in
      let where_is = ap₂ (λ (kind : Option StepKind) (part : Option Part). entries_where pcs at kind part) (ap (option_map (λ (it : Step). it.kind)) step.1) told.there in
      let all : listed_to (suc at) ≡ listed_to at ++ here =
      ap (λ (entries : List LocVar). parameters ++ entries) (entries_last code pcs 0 at at (omega arith) ∙ ap (λ (more : List LocVar). entries_from code pcs 0 at ++ more) where_is) ∙ sym (append_again parameters (entries_from code pcs 0 at) here) in
      let count : length (texts_in (listed_to at)) ≡ length m.locals =
      length-map (listed_to at) _ ∙ length_both parameters (entries_from code pcs 0 at) ∙ ap (λ n. n + length (entries_from code pcs 0 at)) (length_entries 0 (pcs (length code.steps)) params) ∙ sym listed in
      subst (λ (active : List Active). NamedIn (texts_in (listed_to (suc at))) active) (sym (ap (λ (now : Performance). now.maker.active) makes))
      (subst (λ (texts : List Text). NamedIn texts made.active) (sym (ap texts_in all ∙ map-append (λ (entry : LocVar). entry.name) (listed_to at) here))
      (named_behind (texts_in (listed_to at)) (texts_in here) m made (kind_brings pcs code at step.0.kind told.part told.fits (good_part told.part (of.flow at told.part told.there)) m)
      (kind_adds code step.0.kind told.part (of.plain at told.part told.there) m) count before))

  -- and so it is in the list of all locals
  pub named_before : (at : ℕ) → at ≤ length code.steps → NamedIn (texts_in (all_entries code params names ahead)) (before_at at).active
  named_before at most =
      let parameters = entries_of 0 (pcs (length code.steps)) params in
      let rest = entries_begin code pcs 0 at (length code.steps) most in
      let all : all_entries code params names ahead ≡ listed_to at ++ rest.0 = ap (λ (entries : List LocVar). parameters ++ entries) rest.1 ∙ sym (append_again parameters (entries_from code pcs 0 at) rest.0) in
      subst (λ (texts : List Text). NamedIn texts (before_at at).active) (sym (ap texts_in all ∙ map-append (λ (entry : LocVar). entry.name) (listed_to at) rest.0))
      (named_longer (texts_in (listed_to at)) (texts_in rest.0) (before_at at).active (named_taken (still_active at (now_at at).ends) (texts_in (listed_to at)) (now_at at).maker.active (named_to at most)))

  -- ---- what names mean there

  -- the entry of a name
  name_in : (entries : List LocVar) (place : ℕ) (text : Text) → slice_get (texts_in entries) place ≡ Some text → is_name text ≡ true → name_of_local (slice_get entries place) ≡ Some text
  name_in entries place text there good = by (slice_get entries place) (sym (slice_get-map (λ (entry : LocVar). entry.name) entries place) ∙ there)
    where
      by : (found : Option LocVar) → option_map (λ (entry : LocVar). entry.name) found ≡ Some text → name_of_local found ≡ Some text
      by None none = absurd (none-some text none)
      by (Some entry) is =
          let same : entry.name ≡ text = same_Some entry.name text is in
          ap (λ name. if is_name name then Some name else None) same ∙ ap (λ good. if good then Some text else None) good

  module _ (active : List Active) (named : NamedIn (texts_in (all_entries code params names ahead)) active) where
    named_there : (text : Text) (w : Where) → MeansBy of.made.names active text w → IsListed f (length active) (listed_of active) text w
    named_there text (in_register r) means =
        let found = own_named text active r means in
        let both = named r found.local found.there in
        let name : text ≡ found.local.local.name = (bytes_eq-Decides text found.local.local.name).0 (second_of_both (is_some found.local.local.declaration) _ found.named) in
        let good = both.1 (first_of_both (is_some found.local.local.declaration) _ found.named) in (
          slice_get_within active r found.local found.there,
          ap (name_of_entry (place f.of (listed_of active) f.short)) (slice_get-map (λ (one : Active). one.listed) active r ∙ ap (option_map (λ (one : Active). one.listed)) found.there)
              ∙ ap (λ (entries : List LocVar). name_of_local (slice_get entries found.local.listed)) of.listed
              ∙ name_in (all_entries code params names ahead) found.local.listed found.local.local.name both.0 good
              ∙ ap Some (sym name),
        )
    named_there text (in_upvalue slot) means = of.made.named text slot means.1
    named_there text in_globals means = tt

    pub are_listed : length active ≤ 250 → AreListed f g active (listed_of active)
    are_listed few = record { listed_as = λ text w means. named_there text w (subst (λ law. Means law active text w) of.made.law means); few = few }

    are_made : length active ≤ 250 → IsMadeBy f g active (listed_of active) z
    are_made few = record {
      is_function = of.made.is_function;
      all = are_listed few;
      constants = of.made.constants;
      few = of.made.few;
      certain = is_certain g of.made.names of.made.known active of.made.law;
    }

  -- so few locals are active
  pub few_now : (at : ℕ) → at ≤ length code.steps → length (now_at at).maker.active ≤ 250
  few_now at most = omega (arith, of.room at most, of.made.is_function.few)

  pub few_before : (at : ℕ) → at ≤ length code.steps → length (before_at at).active ≤ 250
  few_before at most = let all = few_now at most in omega (arith, all, taken_few (still_active at (now_at at).ends) (now_at at).maker.active)

  -- before a step the function is made as it is in the end
  pub made_before : (at : ℕ) → at ≤ length code.steps → IsMadeBy f g (before_at at).active (listed_of (before_at at).active) z
  made_before at most = are_made (before_at at).active (named_before at most) (few_before at most)

  -- ---- one step

  -- what a step of a kind makes with its part
  abbrev pub made_at : (at : ℕ) → StepKind → Part → Maker
  made_at at kind part = kind_made code kind part (before_at at)

  -- the step of a number is of a kind and has a part, with which it stands in its words
  pub record StepIs (at : ℕ) (kind : StepKind) (part : Part) : Type 0 where
    pub within : at < length code.steps
    pub there : kind_at code.steps at ≡ Some kind
    pub part_there : part_at code at ≡ Some part
    pub fits : PartFits kind part
    pub flow : IsFlowPart part
    pub later : EndLater at kind
    pub inside : GoesInside (length code.steps) kind
    pub stands : KindAt g code pcs kind part (before_at at) (made_at at kind part) (spot (begun_by kind part (before_at at))) (spot (made_at at kind part))
    pub makes : now_at (suc at) ≡ behind_kind code kind part (before_place code params names ahead at)

  pub step_is : (at : ℕ) → at < length code.steps → (kind : StepKind) × (part : Part) × StepIs at kind part
  step_is at less =
      let step = step_there code.steps at less in
      let told = laid_are_told code of.plain params names ahead block of.laid at step.0 step.1 in
      let tell = (laid_tell code of.plain params names ahead block of.laid).each at step.0 (omega arith) less step.1 in (
        step.0.kind,
        told.part,
        record {
          within = less;
          there = ap (option_map (λ (it : Step). it.kind)) step.1;
          part_there = told.there;
          fits = told.fits;
          flow = of.flow at told.part told.there;
          later = tell.later;
          inside = laid_inside code params names ahead block of.laid at step.0 step.1;
          stands = of.stand at step.0 told.part step.1 told.there;
          makes = step_makes code of.plain params names ahead at step.0 told.part step.1 told.there;
        },
      )
