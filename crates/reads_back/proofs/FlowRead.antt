-- What is known before a step is read, and what is read of it.
use Rattle.std.proofs.Common.{◌≡◌, ◌<◌, ◌≤◌, ℕ, suc, ◌+◌, Bool, List, [], length, sym, ap, ◌∙◌, arith, subst}
use Rattle.std.proofs.lemmas.List.{length-map}
use Rattle.std.specs.Prelude.{Option, Some}
use Rattle.lua_num.specs.Bytes.{Text}
use Rattle.lua_tree.specs.Outline as outline
use Rattle.lua_tree.specs.Syntax.{Expression, Expressions, Statement, Statements, return_statement}
use Rattle.core_expr.specs.Counting.{one_more}
use Rattle.core_expr.specs.Places.{Place, place}
use Rattle.core_expr.specs.Values.{Inner}
use Rattle.recover_expr.specs.Drafts.{Drafted, Part, condition_part, head_part, nothing_part, statement_part, values_part}
use Rattle.recover_expr.specs.Entries.{Listed}
use Rattle.recover_expr.specs.Locals.{Scope, declaring_step}
use Rattle.recover_expr.specs.Placing.{Steps}
use Rattle.recover_expr.specs.Reading.{words_from}
use Rattle.recover_expr.specs.Situation.{Function, Situation}
use Rattle.recover_expr.specs.Testing.{TestedValue, negated_levels}
use Rattle.recover_expr.specs.declared.draft.DraftKind.{DraftKind}
use Rattle.recover_expr.specs.declared.steps.StepKind.{StepKind}
use Rattle.scheme.specs.Making.{Ahead, Maker, active_count}
use Rattle.scheme.specs.declared.making.Active.{Active}
use Rattle.scheme_stands.proofs.Growth.{Final, before, before_free, later}
use Rattle.scheme_stands.specs.Words.{Fn}
use Rattle.same_flow.specs.Listed.{entries_by}
use Rattle.same_flow.specs.Performed.{Performance}
use Rattle.reads_back.specs.Acted.{Acted, IsActed, act_levels, act_statement}
use Rattle.reads_back.specs.Assignments.{as_assignment}
use Rattle.reads_back.specs.Placed.{IsDraftKind, listed_before}
use Rattle.reads_back.specs.ReadAs.{part_of}
use Rattle.reads_back.proofs.ActsRead.{Declares}
use Rattle.reads_back.proofs.BehindWords.{HasLocals}
use Rattle.reads_back.proofs.FlowThere.{IsFlowBy, IsFlowFunction, StepIs, before_at, made_at, now_at, pcs}
use Rattle.reads_back.proofs.HeadValues.{IsHeaded, head_wording}
use Rattle.reads_back.proofs.LocalsLeave.{listed_of}
use Rattle.reads_back.proofs.StartingLocals.{StartFrom}
use Rattle.reads_back.proofs.StepsGrow.{pcs_grow, steps_grow}
use Rattle.reads_back.proofs.TestedAs.{IsTested, condition_word}

-- ---- the part of a step

module _ (f : Function) (g : Fn) (lefts : ℕ → List (Option Inner)) (m : Maker) where
  -- where its values are written
  abbrev pub writing : Place
  writing = place f.of (listed_of m.active) f.short

  -- so many constants were taken before it
  abbrev pub taken : ℕ
  taken = length m.constants

  -- these functions are left before it
  abbrev pub left : List (Option Inner)
  left = lefts (length m.functions)

  -- an act that the statement is, and so it is written
  pub record ActPart (s : Statement) (behind : ℕ) (draft : Drafted) : Type 0 where
    pub acted : Acted
    pub is : IsActed g m.active s (length m.functions) behind acted
    pub part : draft.part ≡ part_of (act_statement writing taken left acted)
    pub levels : draft.levels ≡ act_levels writing taken left acted

  -- a test of what the leaf is tested as, and so it is written
  pub record TestPart (when : Bool) (label : ℕ) (e : Expression) (behind : ℕ) (draft : Drafted) : Type 0 where
    pub tested : TestedValue
    pub is : IsTested g m.active e (length m.functions) behind tested
    pub part : draft.part ≡ condition_part (condition_word writing taken left tested).words
    pub levels : draft.levels ≡ (condition_word writing taken left tested).levels
    pub negated : draft.kind ≡ DraftKind.Test when label (negated_levels (condition_word writing taken left tested).words (condition_word writing taken left tested).levels)

  -- a head with these values and variables, and so it is written
  pub record HeadPart (numeric : Bool) (es : Expressions) (names : List Text) (behind : ℕ) (draft : Drafted) : Type 0 where
    pub headed : Listed
    pub is : IsHeaded g m.active numeric es (length m.functions) behind headed
    pub part : draft.part ≡ head_part (head_wording numeric writing taken left headed).words names
    pub levels : draft.levels ≡ one_more (head_wording numeric writing taken left headed).levels

  -- nothing is written
  pub record LonePart (draft : Drafted) : Type 0 where
    pub part : draft.part ≡ nothing_part
    pub levels : draft.levels ≡ 1

  -- what is written of a step, behind which so many functions were made; a function statement is read as the assignment that it stands for
  abbrev pub PartRead : (pcs : ℕ → ℕ) → StepKind → Part → (behind : ℕ) → Drafted → Type 0
  PartRead pcs StepKind.Act (statement_part s) behind draft = ActPart (as_assignment s) behind draft
  PartRead pcs (StepKind.Declaration end captured) (statement_part s) behind draft = ActPart (as_assignment s) behind draft
  PartRead pcs StepKind.Return (values_part es) behind draft = ActPart (return_statement es) behind draft
  PartRead pcs (StepKind.Test when target negated) (condition_part e) behind draft = TestPart when (pcs target) e behind draft
  PartRead pcs (StepKind.Jump target) part behind draft = LonePart draft
  PartRead pcs (StepKind.Close from declared) part behind draft = LonePart draft
  PartRead pcs (StepKind.Head numeric foot end variables_end captured) (head_part es names) behind draft = HeadPart numeric es names behind draft
  PartRead pcs (StepKind.Foot numeric target) part behind draft = LonePart draft
  PartRead pcs kind part behind draft = ⊥

-- a CLOSE names the step that the scope has for its first local
abbrev pub kind_in : Scope → StepKind → StepKind
kind_in scope (StepKind.Close from declared) = StepKind.Close from (declaring_step from scope)
kind_in scope kind = kind

module _ {Left : Type 0} {f : Function} {g : Fn} {z : Maker} {code : Steps} {params names : List Text} {ahead : Ahead} {block : Statements} (of : IsFlowBy Left f g z code params names ahead block) where
  module _ {at : ℕ} {kind : StepKind} {part : Part} (is : StepIs of at kind part) where
    -- the pc behind its words
    pub last_is : pcs of (suc at) ≡ length (made_at of at kind part).items
    last_is = ap (λ (now : Performance). length now.maker.items) is.makes

    -- no words stand behind the last one
    pub within_last : pcs of (suc at) ≤ f.last
    within_last = let less = is.within in omega (arith, of.last, pcs_grow code params names ahead (suc at) (length code.steps) (omega (arith, less)))

    pub final_here : Final (length (before_at of at).labels) (made_at of at kind part) z
    final_here =
        let less = is.within in
        let made = made_at of at kind part in
        let all : Final 0 (now_at of (suc at)).maker z = before (steps_grow code params names ahead (suc at) (length code.steps) (omega (arith, less))) of.final in
        later (omega arith) (before_free (active_count made) made (subst (λ m. Final 0 m z) (ap (λ (now : Performance). now.maker) is.makes) all))

    pub upvalues_here : (before_at of at).upvalue_names ≡ g.upvalue_names
    upvalues_here =
        let less = is.within in
        sym (steps_grow code params names ahead at (length code.steps) (omega (arith, less))).upvalues ∙ sym of.final.upvalues ∙ sym of.made.upvalues

  pub as_many : (at : ℕ) → length (listed_of (before_at of at).active) ≡ length (before_at of at).active
  as_many at = length-map (before_at of at).active (λ (one : Active). one.listed)

module _ {f : Function} {g : Fn} {z : Maker} {lefts : ℕ → List (Option Inner)} {parts : ℕ → outline.Part} {code : Steps} {params names : List Text} {ahead : Ahead} {block : Statements} (of : IsFlowFunction f g z lefts parts code params names ahead block) where
  -- what is known where a step begins
  pub record Begins (at : ℕ) (s : Situation) : Type 0 where
    pub declared : length s.scope.declared ≡ listed_before code params names ahead at
    pub active : s.scope.active ≡ listed_of (before_at of at).active
    pub base : s.base ≡ length (before_at of at).active
    pub left : s.left ≡ lefts (length (before_at of at).functions)
    pub seen : s.seen ≡ length (before_at of at).constants
    pub taken : s.taken ≡ s.seen
    pub entries : s.entries ≡ []
    pub pc : s.pc ≡ pcs of at

  pub has_locals : {at : ℕ} {s : Situation} → Begins at s → HasLocals (before_at of at).active (listed_of (before_at of at).active) s
  has_locals begins = record { base = begins.base; places = begins.active }

  -- its words are read as one step
  pub record KindRead (at : ℕ) (kind : StepKind) (part : Part) (s : Situation) : Type 0 where
    pub draft : Drafted
    pub behind : Situation
    pub reads : (count : ℕ) → pcs of (suc at) < count + pcs of at → words_from f count (pcs of at) s ≡ Some (draft, behind)
    pub kind_is : IsDraftKind (pcs of) (listed_before code params names ahead at) (length (entries_by (pcs of) at kind part)) (kind_in s.scope kind) draft.kind
    pub next : draft.next ≡ pcs of (suc at)
    pub declares : Declares (length (entries_by (pcs of) at kind part)) s.scope behind.scope
    pub left : behind.left ≡ lefts (length (made_at of at kind part).functions)
    pub seen : behind.seen ≡ length (made_at of at kind part).constants
    pub later : pcs of at < pcs of (suc at)
    -- none of its locals starts with its first word
    pub own_later : StartFrom (suc (pcs of at)) (entries_by (pcs of) at kind part)
    pub part_read : PartRead f g lefts (before_at of at) (pcs of) kind part (length (made_at of at kind part).functions) draft
