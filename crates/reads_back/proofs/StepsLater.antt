-- Each step of a function has a word or more, and no local of the steps from one on starts with its first word.
use Rattle.std.proofs.Common.{◌≡◌, ◌<◌, ◌≤◌, ℕ, zero, suc, ◌+◌, ◌-◌, Bool, true, false, List, length, None, refl, sym, ap, arith, subst}
use Rattle.lua_num.specs.Bytes.{Text}
use Rattle.lua_tree.specs.Syntax as syntax
use Rattle.lua_tree.specs.Syntax.{Expressions, Statement, Statements, no_expressions, return_statement}
use Rattle.recover_expr.specs.Drafts.{Part, condition_part, head_part, statement_part, values_part}
use Rattle.recover_expr.specs.Placing.{Steps}
use Rattle.recover_expr.specs.Situation.{Function}
use Rattle.recover_expr.specs.declared.steps.StepKind.{StepKind}
use Rattle.scheme.specs.Making.{Ahead, Maker, declare}
use Rattle.scheme.specs.declared.making.Active.{Active}
use Rattle.scheme.specs.declared.making.Item.{Item}
use Rattle.scheme_stands.proofs.Growth.{spot}
use Rattle.scheme_stands.proofs.Lines.{declare_items}
use Rattle.scheme_stands.specs.Relation.{StatementAt}
use Rattle.scheme_stands.specs.Words.{Fn, Spot}
use Rattle.same_flow.specs.Listed.{entries_by, entries_from, names_declared}
use Rattle.same_flow.specs.Performed.{Performance}
use Rattle.same_flow.specs.Told.{AreCounted}
use Rattle.reads_back.specs.Assignments.{as_assignment}
use Rattle.reads_back.specs.Cores.{AllHaveCores}
use Rattle.reads_back.specs.Stepped.{CountedAt}
use Rattle.reads_back.proofs.FlowStarts.{from_at, from_next, head_from, own_entries, row_from}
use Rattle.reads_back.proofs.FlowThere.{IsFlowBy, StepIs, are_listed, before_at, few_before, made_at, named_before, pcs, step_is}
use Rattle.reads_back.proofs.LocalsLeave.{listed_of}
use Rattle.reads_back.proofs.NameReads.{AreListed}
use Rattle.reads_back.proofs.SameStatements.{assigned_stands}
use Rattle.reads_back.proofs.StartingLocals.{StartFrom, start_both, start_later}
use Rattle.reads_back.proofs.StatementsForward.{act_later, test_later}
use Rattle.reads_back.proofs.WordsForward.{adjust_later, value_forward}
use Rattle.reads_back.proofs.WordsRead.{IsFunction}

module _ {f : Function} {g : Fn} {active : List Active} {listed : List ℕ} (is_function : IsFunction f g) (all : AreListed f g active listed) where
  -- the values of a loop over numbers
  counted_later : (es : Expressions) → AreCounted es → AllHaveCores es → (free : ℕ) (p q : Spot) → CountedAt g es active free p q → p.pc < q.pc
  counted_later (syntax.expression first (syntax.expression last no_expressions)) counted has free p q at =
      let others = at.second_at in
      omega (
        arith,
        (value_forward is_function all first has.0).value free free p at.mid at.first_at,
        (value_forward is_function all last has.1.0).value (suc free) (suc free) at.mid others.mid others.first_at,
        others.second_at.word.next,
      )
  counted_later (syntax.expression first (syntax.expression last (syntax.expression by no_expressions))) counted has free p q at =
      let others = at.second_at in
      omega (
        arith,
        (value_forward is_function all first has.0).value free free p at.mid at.first_at,
        (value_forward is_function all last has.1.0).value (suc free) (suc free) at.mid others.mid others.first_at,
        (value_forward is_function all by has.1.1.0).value (suc (suc free)) (suc (suc free)) others.mid q others.second_at,
      )
  counted_later es counted has free p q at = absurd counted

module _ {Left : Type 0} {f : Function} {g : Fn} {z : Maker} {code : Steps} {params names : List Text} {ahead : Ahead} {block : Statements} (of : IsFlowBy Left f g z code params names ahead block) where
  -- what names mean before a step is listed
  pub listed_at : (at : ℕ) → at ≤ length code.steps → AreListed f g (before_at of at).active (listed_of (before_at of at).active)
  listed_at at most = are_listed of (before_at of at).active (named_before of at most) (few_before of at most)

  module _ {at : ℕ} {kind : StepKind} {part : Part} (is : StepIs of at kind part) where
    -- the pc behind its words
    pub behind_pc : pcs of (suc at) ≡ length (made_at of at kind part).items
    behind_pc = ap (λ (now : Performance). length now.maker.items) is.makes

    pub listed_here : AreListed f g (before_at of at).active (listed_of (before_at of at).active)
    listed_here = let less = is.within in listed_at at (omega (arith, less))

  -- a statement as it is read
  pub statement_at : {at : ℕ} {kind : StepKind} {s : Statement} (is : StepIs of at kind (statement_part s)) →
      StatementAt g None s (before_at of at).active (made_at of at kind (statement_part s)).active (spot (before_at of at)) (spot (made_at of at kind (statement_part s))) →
      StatementAt g None (as_assignment s) (before_at of at).active (made_at of at kind (statement_part s)).active (spot (before_at of at)) (spot (made_at of at kind (statement_part s)))
  statement_at {at} {kind} {s} is stands = let m = before_at of at in let made = made_at of at kind (statement_part s) in assigned_stands g s is.flow.formed m.active made.active (spot m) (spot made) stands

  -- the head of a loop has two words or more
  pub record HasLast (at : ℕ) : Type 0 where
    pub pc : ℕ
    pub later : pcs of at < pc
    pub behind : pcs of (suc at) ≡ suc pc

  pub head_last : {at : ℕ} (numeric : Bool) {foot end variables_end : ℕ} {captured : Bool} {es : Expressions} {texts : List Text} → StepIs of at (StepKind.Head numeric foot end variables_end captured) (head_part es texts) → HasLast at
  head_last {at} true {foot} {end} {variables_end} {captured} {es} {texts} is =
      let m = before_at of at in
      let declared = (declare texts m).after in
      let same : length declared.items ≡ length m.items = ap (λ (items : List Item). length items) (declare_items texts m) in
      let values = counted_later of.made.is_function (listed_here is) es is.fits.0 is.flow.has m.free (spot declared) is.stands.mid is.stands.first_at in
      let here : pcs of at ≡ length m.items = refl in
      record { pc = is.stands.mid.pc; later = omega (arith, same, values, here); behind = omega (arith, behind_pc is, is.stands.second_at.next) }
  head_last {at} false {foot} {end} {variables_end} {captured} {es} {texts} is =
      let m = before_at of at in
      let declared = (declare texts m).after in
      let same : length declared.items ≡ length m.items = ap (λ (items : List Item). length items) (declare_items texts m) in
      let values = adjust_later of.made.is_function (listed_here is) es is.flow.has 3 m.free (spot declared) is.stands.mid (omega arith) is.stands.first_at in
      let here : pcs of at ≡ length m.items = refl in
      record { pc = is.stands.mid.pc; later = omega (arith, same, values, here); behind = omega (arith, behind_pc is, is.stands.second_at.next) }

  -- ---- a step of any kind

  pub step_later : {at : ℕ} (kind : StepKind) (part : Part) → StepIs of at kind part → pcs of at < pcs of (suc at)
  step_later {at} StepKind.Act (statement_part s) is =
      let m = before_at of at in
      let made = made_at of at StepKind.Act (statement_part s) in
      let here : pcs of at ≡ length m.items = refl in
      omega (arith, act_later of.made.is_function (listed_here is) (as_assignment s) is.flow.act.is made.active (spot m) (spot made) (statement_at is is.stands), behind_pc is, here)
  step_later {at} (StepKind.Declaration end captured) (statement_part s) is =
      let m = before_at of at in
      let made = made_at of at (StepKind.Declaration end captured) (statement_part s) in
      let here : pcs of at ≡ length m.items = refl in
      omega (arith, act_later of.made.is_function (listed_here is) (as_assignment s) is.flow.act.is made.active (spot m) (spot made) (statement_at is is.stands), behind_pc is, here)
  step_later {at} StepKind.Return (values_part es) is =
      let m = before_at of at in
      let made = made_at of at StepKind.Return (values_part es) in
      let here : pcs of at ≡ length m.items = refl in
      omega (arith, act_later of.made.is_function (listed_here is) (return_statement es) is.flow.is made.active (spot m) (spot made) is.stands, behind_pc is, here)
  step_later {at} (StepKind.Test when target negated) (condition_part e) is =
      let m = before_at of at in
      let made = made_at of at (StepKind.Test when target negated) (condition_part e) in
      let here : pcs of at ≡ length m.items = refl in
      omega (arith, test_later of.made.is_function (listed_here is) (length m.active) when (pcs of target) (spot m) (spot made) e is.flow.has is.stands, behind_pc is, here)
  step_later {at} (StepKind.Jump target) part is = let here : pcs of at ≡ length (before_at of at).items = refl in omega (arith, is.stands.next, behind_pc is, here)
  step_later {at} (StepKind.Close from declared) part is = let here : pcs of at ≡ length (before_at of at).items = refl in omega (arith, is.stands.next, behind_pc is, here)
  step_later (StepKind.Head true foot end variables_end captured) (head_part es texts) is = let last = head_last true is in omega (arith, last.later, last.behind)
  step_later (StepKind.Head false foot end variables_end captured) (head_part es texts) is = let last = head_last false is in omega (arith, last.later, last.behind)
  step_later {at} (StepKind.Foot true target) part is = let here : pcs of at ≡ length (before_at of at).items = refl in omega (arith, is.stands.next, behind_pc is, here)
  step_later {at} (StepKind.Foot false target) part is =
      let stands = is.stands in
      let call = stands.first_at in
      let jump = stands.second_at in
      let here : pcs of at ≡ length (before_at of at).items = refl in
      omega (arith, call.next, jump.next, behind_pc is, here)
  step_later kind part is = absurd is.fits

  -- none of its locals starts with its first word
  own_later : {at : ℕ} (kind : StepKind) (part : Part) → StepIs of at kind part → StartFrom (suc (pcs of at)) (entries_by (pcs of) at kind part)
  own_later {at} (StepKind.Declaration end captured) part is = row_from (suc (pcs of at)) (pcs of (suc at)) (pcs of end) (names_declared part) (omega (arith, step_later (StepKind.Declaration end captured) part is))
  own_later {at} (StepKind.Head numeric foot end variables_end captured) (head_part es texts) is =
      let last = head_last numeric is in
      let kind = StepKind.Head numeric foot end variables_end captured in
      start_later (suc (pcs of at)) last.pc (own_entries of at kind (head_part es texts) is) (omega (arith, last.later)) (head_from of at numeric foot end variables_end captured es texts is is.flow.good last.pc last.behind)
  own_later kind part is = tt

  later_from : (count at : ℕ) → length code.steps ≡ count + at → StartFrom (suc (pcs of at)) (from_at of at)
  later_from zero at is = let none : 0 ≡ length code.steps - at = omega (arith, is) in subst (λ count. StartFrom (suc (pcs of at)) (entries_from code (pcs of) at count)) none tt
  later_from (suc count) at is =
      let rest = later_from count (suc at) (omega (arith, is)) in
      let step = step_is of at (omega (arith, is)) in
      let later = step_later step.0 step.1 step.2 in
      subst (StartFrom (suc (pcs of at))) (sym (from_next of at step.0 step.1 step.2))
      (start_both (suc (pcs of at)) (own_entries of at step.0 step.1 step.2) (from_at of (suc at)) (own_later step.0 step.1 step.2) (start_later (suc (pcs of at)) (suc (pcs of (suc at))) (from_at of (suc at)) (omega (arith, later)) rest))

  -- no local of the steps from one on starts with its first word
  pub none_starts : (at : ℕ) → at ≤ length code.steps → StartFrom (suc (pcs of at)) (from_at of at)
  none_starts at most = later_from (length code.steps - at) at (omega (arith, most))
