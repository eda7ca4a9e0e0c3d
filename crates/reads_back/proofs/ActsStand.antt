-- The steps of acts, declarations, returns and breaks stand where these do.
use Rattle.std.proofs.Common.{◌≡◌, ℕ, suc, true, false, inl, inr, List, [], drop, refl, sym, ap, ◌∙◌, subst, arith}
use Rattle.std.specs.Prelude.{Option, Some, None}
use Rattle.lua_tree.specs.Syntax.{Expressions, Statement, break_statement, return_statement}
use Rattle.opcode.specs.declared.op.Op.{Op}
use Rattle.recover_expr.specs.Drafts.{statement_part, values_part}
use Rattle.recover_expr.specs.declared.steps.StepKind.{StepKind}
use Rattle.scheme.specs.Making.{Maker, active_count, any_captured, captured_from}
use Rattle.scheme.specs.Scheme.{statement_made}
use Rattle.scheme.specs.Shapes.{plain_statement}
use Rattle.scheme.specs.Statements.{Loop}
use Rattle.scheme.specs.declared.making.Active.{Active}
use Rattle.scheme.specs.declared.making.Piece.{Piece}
use Rattle.scheme_stands.proofs.Growth.{spot}
use Rattle.scheme_stands.specs.Functions.{Step}
use Rattle.scheme_stands.specs.Relation.{StatementAt}
use Rattle.scheme_stands.specs.Statements.{CloseAt}
use Rattle.scheme_stands.specs.Words.{Fn, Spot, WordAt}
use Rattle.same_flow.specs.Laid.{ActLaid, DeclarationLaid, Exit, HasStep, LeavesTo}
use Rattle.same_flow.specs.Renaming.{IsOneStep, StatementsRename}
use Rattle.same_flow.specs.SameFlow.{HasPlainParts}
use Rattle.same_flow.proofs.BlocksFollowed.{Matches, close_step, outer_of}
use Rattle.same_flow.proofs.Endings.{numbered}
use Rattle.same_flow.proofs.Followed.{Follows, LastTo, Outer, Run, followed, last_weaker, nought, pc_of}
use Rattle.same_flow.proofs.StepsTold.{before, before_same}
use Rattle.reads_back.proofs.EachStored.{same_spot}
use Rattle.reads_back.proofs.StepsStand.{Standing, close_stands, jump_stands, spot_of_same, stands_both, stands_to, step_stands, word_between, word_end}
use Rattle.reads_back.specs.Through.{loop_at, pc_of_label}

-- a stretch by other names of its ends
moved : (step : Step) {a b c d : List Active} {p q r s : Spot} → a ≡ c → b ≡ d → p ≡ r → q ≡ s → step a b p q → step c d r s
moved step {b = b} {c = c} {d = d} {p = p} {q = q} {r = r} e f h k at =
    subst (λ x. step c d r x) k (subst (λ x. step c d x q) h (subst (λ x. step c x p q) f (subst (λ x. step x b p q) e at)))

module _ (g : Fn) (run : Run) (renames : StatementsRename) where
  -- a statement that is one step stands in the run where it stands
  one_stands : (s : Statement) → IsOneStep s → plain_statement s ≡ true → (m : Maker) (ends : List ℕ) (p : ℕ) → Follows run nought nought m ends p → LastTo (suc p) ends →
      StatementAt g None s m.active (statement_made s 1 None m).active (spot m) (spot (statement_made s 1 None m)) →
      StatementAt g None s (before run p).active (statement_made s 1 None (before run p)).active (spot (before run p)) (spot (statement_made s 1 None (before run p)))
  one_stands s one is m ends p follows l at =
      let made = statement_made s 1 None in
      let now = before run p in
      let equal = before_same follows l in
      let renamed = renames.statements nought [] s 1 None one is in
      let same : numbered nought (made m) ≡ numbered nought (made now) = renamed.same m ∙ ap made equal ∙ sym (renamed.same now) in
      moved (StatementAt g None s) (ap (λ (x : Maker). x.active) equal) (ap (λ (x : Maker). x.active) same) (spot_of_same nought nought m now equal) (spot_of_same nought nought (made m) (made now) same) at

  module _ (plain : HasPlainParts run.code) where
    -- acts, declarations and returns are one step each
    pub act_stands : (s : Statement) (m : Maker) (ends : List ℕ) (from to : ℕ) → Follows run nought nought m ends from → ActLaid run.code m s from to → LastTo to ends →
        StatementAt g None s m.active (statement_made s 1 None m).active (spot m) (spot (statement_made s 1 None m)) → Standing g run from to
    act_stands s m ends from to follows (has, t) l at =
        let is = plain from (statement_part s) has.1 in
        stands_to t (step_stands StepKind.Act (statement_part s) has (one_stands s is.0 is.1 m ends from follows (subst (λ x. LastTo x ends) t l) at))

    pub declaration_stands : (s : Statement) (m : Maker) (ends : List ℕ) (stop from to : ℕ) → Follows run nought nought m ends from → DeclarationLaid run.code m stop s from to → LastTo to ends →
        StatementAt g None s m.active (statement_made s 1 None m).active (spot m) (spot (statement_made s 1 None m)) → Standing g run from to
    declaration_stands s m ends stop from to follows (has, t) l at =
        let is = plain from (statement_part s) has.1 in
        stands_to t (step_stands (StepKind.Declaration stop (captured_from (active_count m) (statement_made s 1 None m))) (statement_part s) has
        (one_stands s is.0 is.1 m ends from follows (subst (λ x. LastTo x ends) t l) at))

    pub return_stands : (es : Expressions) (m : Maker) (ends : List ℕ) (from to : ℕ) → Follows run nought nought m ends from →
        HasStep run.code m.active from StepKind.Return (values_part es) × (to ≡ suc from) → LastTo to ends →
        StatementAt g None (return_statement es) m.active (statement_made (return_statement es) 1 None m).active (spot m) (spot (statement_made (return_statement es) 1 None m)) → Standing g run from to
    return_stands es m ends from to follows (has, t) l at =
        stands_to t (step_stands StepKind.Return (values_part es) has (one_stands (return_statement es) tt (plain from (values_part es) has.1) m ends from follows (subst (λ x. LastTo x ends) t l) at))

-- a jump out of a loop, behind a CLOSE where a local of it is captured
pub break_stands : (g : Fn) (z : Maker) (run : Run) (loop : Option Loop) (exit : Option Exit) (m : Maker) (ends : List ℕ) (from to : ℕ) → Follows run nought nought m ends from → Matches loop exit →
    LeavesTo run.code exit m from to → LastTo to ends → Outer (pc_of_label z) (pc_of run) (outer_of loop exit) →
    StatementAt g (loop_at z loop) break_statement m.active (statement_made break_statement 1 loop m).active (spot m) (spot (statement_made break_statement 1 loop m)) → Standing g run from to
break_stands g z run loop None m ends from to follows e has l o at = absurd has
break_stands g z run None (Some exit) m ends from to follows e has l o at = absurd e
break_stands g z run (Some loop) (Some exit) m ends from to follows e (inl (c, jump, t)) l o at =
    let words = at.part_at in
    let none : any_captured (drop loop.before m.active) ≡ false = ap (λ n. captured_from n m) e ∙ c in
    let same = subst (λ b. CloseAt b g loop.before (spot m) words.mid) none words.first_at in
    stands_to t (jump_stands follows jump o.0 (word_between (same_spot same) refl words.second_at))
break_stands g z run (Some loop) (Some exit) m ends from to follows e (inr (c, close, jump, t)) l o at =
    let words = at.part_at in
    let last = subst (λ x. LastTo x ends) t l in
    let some : any_captured (drop loop.before m.active) ≡ true = ap (λ n. captured_from n m) e ∙ c in
    let closed = subst (λ n. WordAt g (Piece.Abc Op.Close n 0 0) (spot m) words.mid) e (subst (λ b. CloseAt b g loop.before (spot m) words.mid) some words.first_at) in
    let first = last_weaker (suc from) (suc (suc from)) ends (omega arith) last in
    stands_to t (stands_both g run from (suc from) (suc (suc from)) (close_stands follows close closed)
    (jump_stands (followed (close_step m ends from exit.locals close first) follows) jump o.0 (word_between (word_end 1 (Piece.Abc Op.Close exit.locals 0 0) m closed) refl words.second_at)))
