-- The pieces of a statement stand on the steps that they make: acts, jumps out of loops, the ends of blocks and arms, and the steps of loops.
use Rattle.std.proofs.Common.{◌≡◌, ℕ, suc, ◌+◌, Bool, true, false, inl, inr, List, refl, subst, arith}
use Rattle.std.proofs.lemmas.Bool.{false≢true}
use Rattle.std.specs.Prelude.{Option, Some, None}
use Rattle.lua_tree.specs.Syntax.{Statement}
use Rattle.recover_expr.specs.Drafts.{Part, nothing_part, statement_part}
use Rattle.recover_expr.specs.Placing.{Steps}
use Rattle.recover_expr.specs.declared.steps.StepKind.{StepKind}
use Rattle.scheme.specs.Making.{Maker, captured_from, active_count}
use Rattle.scheme.specs.Scheme.{statement_made}
use Rattle.scheme.specs.declared.making.Active.{Active}
use Rattle.same_flow.specs.Laid.{Exit, LeavesTo, IsBlock, IsClose, IsJump, ActLaid, DeclarationLaid, VariablesEnd, IsFor, ArmEnds}
use Rattle.same_flow.proofs.Laying.{Lays, laid_by, both, no_steps, one_step, jump_lays, close_lays, foot_lays}

-- where a statement stands: the place behind the loop around, and the place where the block's own locals end
pub record Around : Type 0 where
  pub place : ℕ
  pub ends : ℕ

-- the loop around, if there is one
abbrev pub exit_at : (looped : Bool) → (locals place : ℕ) → Option Exit
exit_at true locals place = Some (record { place = place; locals = locals })
exit_at false locals place = None

module _ (P : Part → Type 0) where
  pub act_lays : (m : Maker) (s : Statement) → P (statement_part s) → Lays P Around (λ around code from to. ActLaid code m s from to)
  act_lays m s h = laid_by (λ around from to. StepKind.Act) (λ code around from to le is. is) (one_step m.active (statement_part s) h)

  pub declaration_lays : (m : Maker) (s : Statement) → P (statement_part s) → Lays P Around (λ around code from to. DeclarationLaid code m around.ends s from to)
  declaration_lays m s h =
      laid_by (λ around from to. StepKind.Declaration around.ends (captured_from (active_count m) (statement_made s 1 None m))) (λ code around from to le is. is) (one_step m.active (statement_part s) h)

  module _ (nothing_holds : P nothing_part) where
    leaves_lays : (m : Maker) (locals : ℕ) (captured : Bool) → captured_from locals m ≡ captured → Lays P Around (λ around code from to. LeavesTo code (exit_at true locals around.place) m from to)
    leaves_lays m locals false e = laid_by (λ around from to. around.place) (λ code around from to le is. inl (e, is.0, is.1)) (jump_lays nothing_holds m.active)
    leaves_lays m locals true e =
        let steps : Lays P Around _ = both (λ around from mid to. tt) (λ around from mid to. around.place) (close_lays nothing_holds m.active locals) (jump_lays nothing_holds m.active) in
        laid_by (λ around from to. around)
        (λ code around from to le (mid, a, b, (C, s), (J, t)). inr (e, C, subst (λ (x : ℕ). IsJump code m.active x around.place) s J, (omega (arith, s, t)))) steps

    pub break_lays : (m : Maker) (locals : ℕ) (looped : Bool) → looped ≡ true → Lays P Around (λ around code from to. LeavesTo code (exit_at looped locals around.place) m from to)
    break_lays m locals true h = leaves_lays m locals (captured_from locals m) refl
    break_lays m locals false h = absurd (false≢true h)

    -- a block, where its statements stand
    pub block_lays : (active : List Active) (n : ℕ) (captured : Bool) {L : Around → Steps → (from to : ℕ) → Type 0} → Lays P Around L →
        Lays P ℕ (λ place code from to. IsBlock code active n captured (λ ends end. L (record { place = place; ends = ends }) code from end) from to)
    block_lays active n false A = laid_by (λ place from to. record { place = place; ends = to }) (λ code place from to le is. is) A
    block_lays active n true A =
        let steps : Lays P ℕ _ = both (λ place from mid to. record { place = place; ends = mid }) (λ place from mid to. tt) A (close_lays nothing_holds active n) in
        laid_by (λ place from to. place) (λ code place from to le (mid, a, b, B, (C, t)). (mid, t, a, C, B)) steps

    pub arm_end_lays : (active : List Active) (more : Bool) → Lays P ℕ (λ end code from to. ArmEnds code active more from end to)
    arm_end_lays active true = jump_lays nothing_holds active
    arm_end_lays active false = no_steps

    variables_lay : (active : List Active) (n : ℕ) (captured : Bool) → Lays P (Unit {0}) (λ none code from to. VariablesEnd code active n captured from to)
    variables_lay active n false = no_steps
    variables_lay active n true = laid_by (λ none from to. none) (λ code none from to le is. (is.1, is.0)) (close_lays nothing_holds active n)

    -- what follows the test of a `repeat` with captured locals: both ways close them
    pub record Again (code : Steps) (inside active : List Active) (n to from : ℕ) (end : ℕ) : Type 0 where
      pub close : IsClose code inside from n
      pub out : IsJump code inside (from + 1) end
      pub close_again : IsClose code active (from + 2) n
      pub back : IsJump code active (from + 3) to
      pub ends : end ≡ from + 4

    pub again_lays : (inside active : List Active) (n : ℕ) → Lays P ℕ (λ start code from to. Again code inside active n start from to)
    again_lays inside active n =
        let first : Lays P ℕ _ = both (λ end from mid to. tt) (λ end from mid to. end) (close_lays nothing_holds inside n) (jump_lays nothing_holds inside) in
        let last : Lays P ℕ _ = both (λ start from mid to. tt) (λ start from mid to. start) (close_lays nothing_holds active n) (jump_lays nothing_holds active) in
        let steps : Lays P ℕ _ = both (λ start from mid to. to) (λ start from mid to. start) first last in
        laid_by (λ start from to. start)
        (λ code start from to le (mid, a, b, (p, c, d, (C, s), (J, t)), (q, e, f, (K, u), (B, v))).
        let one : p ≡ from + 1 = omega (arith, s) in
        let two : mid ≡ from + 2 = omega (arith, s, t) in
        let three : q ≡ from + 3 = omega (arith, s, t, u) in
        record {
          close = C;
          out = subst (λ (x : ℕ). IsJump code inside x to) one J;
          close_again = subst (λ (x : ℕ). IsClose code active x n) two K;
          back = subst (λ (x : ℕ). IsJump code active x start) three B;
          ends = omega (arith, s, t, u, v);
        }) steps

    -- a `for`, where its block stands
    pub for_lays : (numeric : Bool) (part : Part) → P part → (active hidden : List Active) (n : ℕ) (captured : Bool) {L : ℕ → Steps → (from to : ℕ) → Type 0} → Lays P ℕ L →
        Lays P Around (λ around code from to. IsFor code numeric part active hidden n captured (L to code) from to)
    for_lays numeric part h active hidden n captured {L} A =
        let head : Lays P (StepKind × ℕ) _ = both (λ (d : StepKind × ℕ) from mid to. d.0) (λ (d : StepKind × ℕ) from mid to. d.1) (one_step active part h) A in
        let lasting : Lays P (ℕ × ℕ) _ =
        both (λ (d : ℕ × ℕ) from mid to. (StepKind.Head numeric d.0 d.1 mid captured, d.1)) (λ (d : ℕ × ℕ) from mid to. tt) head (variables_lay hidden (n + 3) captured) in
        let steps : Lays P Around _ = both (λ around from mid to. (mid, to)) (λ around from mid to. suc from) lasting (foot_lays nothing_holds hidden numeric) in
        laid_by (λ around from to. around)
        (λ code around from to le (foot, a, b, (variables_end, c, d, (start, e, f, (H, s), B), V), (K, t)).
        (foot, variables_end, H, (omega (arith, s, f)), subst (λ (x : ℕ). L to code x variables_end) s B, V, K, t)) steps
