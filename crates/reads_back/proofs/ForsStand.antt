-- The heads and the feet of `for` loops stand, and the ends of their variables.
use Rattle.std.proofs.Common.{◌≡◌, ◌≤◌, ◌<◌, ℕ, suc, ◌+◌, ◌-◌, Bool, true, false, List, [], ◌∷◌, length, drop, refl, sym, ap, ◌∙◌, subst, arith}
use Rattle.std.specs.Prelude.{Some, replicate}
use Rattle.lua_num.specs.Bytes.{Text}
use Rattle.lua_tree.specs.Syntax.{Expression, Expressions, ForStep, by_step, no_step}
use Rattle.opcode.specs.declared.op.Op.{Op}
use Rattle.recover_expr.specs.Drafts.{head_part}
use Rattle.recover_expr.specs.declared.steps.StepKind.{StepKind}
use Rattle.scheme.specs.Expressions.{next_reg}
use Rattle.scheme.specs.Lists.{adjust}
use Rattle.scheme.specs.Making.{Maker, active_count, any_captured, captured_from, declare, jump_to, place, put, used}
use Rattle.scheme.specs.Scheme.{all_coded, coded, step_coded}
use Rattle.scheme.specs.Statements.{end_block, step_part}
use Rattle.scheme.specs.declared.making.Active.{Active}
use Rattle.scheme.specs.declared.making.Piece.{Piece}
use Rattle.scheme_stands.proofs.Growth.{spot}
use Rattle.scheme_stands.proofs.Lines.{activate_spot}
use Rattle.scheme_stands.specs.Lists.{AdjustAt}
use Rattle.scheme_stands.specs.Relation.{StepAt, all_related, related}
use Rattle.scheme_stands.specs.Statements.{CloseAt}
use Rattle.scheme_stands.specs.Words.{Fn, Spot, WordAt}
use Rattle.same_flow.specs.Laid.{HasKind, HasStep, VariablesEnd, generic_begun, generic_valued, head_values, label_of, numeric_begun, numeric_valued, with_new_labels}
use Rattle.same_flow.specs.Performed.{kind_made, names_in, part_at}
use Rattle.same_flow.specs.SameFlow.{HasPlainParts}
use Rattle.same_flow.proofs.BlocksFollowed.{replicate_ends}
use Rattle.same_flow.proofs.Endings.{alike_declare}
use Rattle.same_flow.proofs.Followed.{Follows, LastTo, Run, append_again, followed, nought, pc_of}
use Rattle.same_flow.proofs.ForStatements.{names_there, variables_go}
use Rattle.same_flow.proofs.ForsFollowed.{for_ends, hidden_to}
use Rattle.same_flow.proofs.ForsTold.{hidden_count, hidden_lasts}
use Rattle.same_flow.proofs.FreeValues.{next_free}
use Rattle.same_flow.proofs.HeadsFollowed.{declared_free}
use Rattle.same_flow.proofs.RunKeeps.{declared_active}
use Rattle.same_flow.proofs.StepsTold.{before, before_active, before_same, same_active}
use Rattle.reads_back.proofs.StepsStand.{Standing, at_spot, behind_spot, close_stands, spot_of_same, stands_nowhere, stands_to, step_stands, word_between, word_end, word_put}
use Rattle.reads_back.specs.Stepped.{CountedAt}
use Rattle.reads_back.specs.Through.{Between, NumericHead, WordThrough, pc_of_label}

-- ---- heads

-- the values of a loop over numbers, one register behind the other
counted_stand : (g : Fn) (by : ForStep) (first last : Expression) (active : List Active) (free one two : ℕ) (p q r s : Spot) → (related g first).to_reg active free free p q → (related g last).to_reg active one one q r →
    StepAt g by active two r s → one ≡ suc free → two ≡ suc (suc free) → CountedAt g (head_values first last by) active free p s
counted_stand g no_step first last active free one two p q r s a b c e h =
    record { mid = q; first_at = a; second_at = record { mid = r; first_at = subst (λ x. (related g last).to_reg active x x q r) e b; second_at = subst (λ x. StepAt g no_step active x r s) h c } }
counted_stand g (by_step x) first last active free one two p q r s a b c e h =
    record { mid = q; first_at = a; second_at = record { mid = r; first_at = subst (λ x. (related g last).to_reg active x x q r) e b; second_at = subst (λ y. StepAt g (by_step x) active y r s) h c } }

module _ (g : Fn) (z : Maker) (run : Run) where
  -- where the names are declared
  declared_spot : (names : List Text) (m : Maker) (ends : List ℕ) (p : ℕ) → Follows run nought nought m ends p → LastTo (suc p) ends → spot (declare names m).after ≡ spot (declare names (before run p)).after
  declared_spot names m ends p follows l = spot_of_same nought nought (declare names m).after (declare names (before run p)).after ((alike_declare nought nought names).alike m (before run p) (before_same follows l))

  -- the values, and the jump to the foot
  pub numeric_head_stands : (name : Text) (first last : Expression) (by : ForStep) (m : Maker) (ends others : List ℕ) (from foot to variables_end : ℕ) (some : Bool) →
      HasStep run.code m.active from (StepKind.Head true foot to variables_end some) (head_part (head_values first last by) (name ∷ [])) → Follows run nought nought m ends from → LastTo (suc from) ends →
      Follows run nought nought (numeric_begun 1 name first last by m) others (suc from) → NumericHead g 1 first last by (declare (name ∷ []) m).after →
      WordThrough g z Op.ForPrep m.free (suc (label_of (numeric_valued 1 name first last by m))) 1 (with_new_labels 3 (numeric_valued 1 name first last by m)) →
      pc_of_label z (suc (label_of (numeric_valued 1 name first last by m))) ≡ pc_of run foot → Standing g run from (suc from)
  numeric_head_stands name first last by m ends others from foot to variables_end some has follows l reached (first_there, last_there, step_there) word pc =
      let now = before run from in
      let values = head_values first last by in
      let declared = (declare (name ∷ []) m).after in
      let one = next_reg (coded first) declared in
      let two = next_reg (coded last) one in
      let three = step_part 1 (step_coded by) two in
      let a = next_free first declared in
      let b = next_free last one in
      let free : m.free ≡ now.free = ap (λ (x : Maker). x.free) (before_same follows l) in
      let start = declared_spot (name ∷ []) m ends from follows l in
      let counted = counted_stand g by first last m.active m.free one.free two.free (spot declared) (spot one) (spot two) (spot three) first_there last_there step_there (omega arith) (omega arith) in
      let values_at = subst (λ p. CountedAt g values now.active now.free p (spot three)) start
      (subst (λ x. CountedAt g values now.active x (spot declared) (spot three)) free
      (subst (λ (x : List Active). CountedAt g values x m.free (spot declared) (spot three)) (sym (before_active follows l)) counted)) in
      let q = spot (kind_made run.code (StepKind.Head true foot to variables_end some) (head_part values (name ∷ [])) now) in
      step_stands (StepKind.Head true foot to variables_end some) (head_part values (name ∷ [])) has (record {
        mid = spot three;
        first_at = values_at;
        second_at = subst (λ x. WordAt g (Piece.Jump Op.ForPrep x (pc_of run foot)) (spot three) q) free
            (subst (λ x. WordAt g (Piece.Jump Op.ForPrep m.free x) (spot three) q) pc (word_between refl (behind_spot has reached) word));
      })

  pub generic_head_stands : (names : List Text) (es : Expressions) (m : Maker) (ends others : List ℕ) (from foot to variables_end : ℕ) (some : Bool) →
      HasStep run.code m.active from (StepKind.Head false foot to variables_end some) (head_part es names) → Follows run nought nought m ends from → LastTo (suc from) ends →
      Follows run nought nought (generic_begun 1 names es m) others (suc from) →
      Between (AdjustAt g (all_related g es) 3 (declare names m).after.active (declare names m).after.free) (declare names m).after (adjust 1 (all_coded es) 3 (declare names m).after) →
      WordThrough g z Op.Jmp 0 (suc (label_of (generic_valued 1 names es m))) 1 (with_new_labels 3 (generic_valued 1 names es m)) →
      pc_of_label z (suc (label_of (generic_valued 1 names es m))) ≡ pc_of run foot → Standing g run from (suc from)
  generic_head_stands names es m ends others from foot to variables_end some has follows l reached values_there word pc =
      let now = before run from in
      let declared = (declare names m).after in
      let three = adjust 1 (all_coded es) 3 declared in
      let valued = generic_valued 1 names es m in
      let free : declared.free ≡ now.free = declared_free names m ∙ ap (λ (x : Maker). x.free) (before_same follows l) in
      let active : declared.active ≡ now.active = declared_active names m ∙ sym (before_active follows l) in
      let start = declared_spot names m ends from follows l in
      let behind = activate_spot (declare names m).value (used (m.free + 6) (place (label_of valued) (jump_to 1 (suc (label_of valued)) (with_new_labels 3 valued)))) in
      let values_at = subst (λ p. AdjustAt g (all_related g es) 3 now.active now.free p (spot three)) start
      (subst (λ x. AdjustAt g (all_related g es) 3 now.active x (spot declared) (spot three)) free
      (subst (λ (x : List Active). AdjustAt g (all_related g es) 3 x declared.free (spot declared) (spot three)) active values_there)) in
      let q = spot (kind_made run.code (StepKind.Head false foot to variables_end some) (head_part es names) now) in
      step_stands (StepKind.Head false foot to variables_end some) (head_part es names) has (record {
        mid = spot three;
        first_at = values_at;
        second_at = subst (λ x. WordAt g (Piece.Jump Op.Jmp 0 x) (spot three) q) pc (word_between refl (sym behind ∙ behind_spot has reached) word);
      })

  -- ---- feet

  -- the hidden locals are the last that are active
  base_there : (m : Maker) (ends : List ℕ) (base foot : ℕ) → Follows run nought nought m ends foot → LastTo (suc foot) ends → length ends ≡ base + 3 → base ≡ active_count (before run foot) - 3
  base_there m ends base foot follows l e = let a = follows.count in let b : active_count (before run foot) ≡ active_count m = ap (λ (x : List Active). length x) (before_active follows l) in omega arith

  -- the word that goes back
  pub numeric_foot_stands : (hidden : List Active) (m : Maker) (ends : List ℕ) (base foot from pc : ℕ) (q : Spot) → Follows run nought nought m ends foot → LastTo (suc foot) ends → length ends ≡ base + 3 →
      HasKind run.code hidden foot (StepKind.Foot true (suc from)) → pc ≡ pc_of run (suc from) → WordAt g (Piece.Jump Op.ForLoop base pc) (spot m) q → Standing g run foot (suc foot)
  numeric_foot_stands hidden m ends base foot from pc q follows l e has same word =
      let now = before run foot in
      step_stands (StepKind.Foot true (suc from)) has.0 has.1
      (word_put 1 (Piece.Jump Op.ForLoop (active_count now - 3) (suc from)) now (at_spot follows)
      (subst (λ x. WordAt g (Piece.Jump Op.ForLoop x (pc_of run (suc from))) (spot m) q) (base_there m ends base foot follows l e)
      (subst (λ x. WordAt g (Piece.Jump Op.ForLoop base x) (spot m) q) same word)))

  -- the call, and the jump back
  pub generic_foot_stands : (hidden : List Active) (es : Expressions) (names : List Text) (m : Maker) (ends : List ℕ) (base foot from pc : ℕ) (q r : Spot) → Follows run nought nought m ends foot → LastTo (suc foot) ends →
      length ends ≡ base + 3 → part_at run.code from ≡ Some (head_part es names) → HasKind run.code hidden foot (StepKind.Foot false (suc from)) → pc ≡ pc_of run (suc from) →
      WordAt g (Piece.Abc Op.TForLoop base 0 (length names)) (spot m) q → WordAt g (Piece.Jump Op.Jmp 0 pc) q r → Standing g run foot (suc foot)
  generic_foot_stands hidden es names m ends base foot from pc q r follows l e head_there has same word jump =
      let now = before run foot in
      let count = names_in (part_at run.code (suc from - 1)) in
      let piece = Piece.Abc Op.TForLoop (active_count now - 3) 0 count in
      let moved = subst (λ p. WordAt g piece p q) (at_spot follows)
      (subst (λ x. WordAt g (Piece.Abc Op.TForLoop (active_count now - 3) 0 x) (spot m) q) (names_there run es names from head_there)
      (subst (λ x. WordAt g (Piece.Abc Op.TForLoop x 0 (length names)) (spot m) q) (base_there m ends base foot follows l e) word)) in
      step_stands (StepKind.Foot false (suc from)) has.0 has.1 (record {
        mid = spot (put 1 piece now);
        first_at = word_put 1 piece now refl moved;
        second_at = word_put 1 (Piece.Jump Op.Jmp 0 (suc from)) (put 1 piece now) (word_end 1 piece now moved) (subst (λ x. WordAt g (Piece.Jump Op.Jmp 0 x) q r) same jump);
      })

  -- ---- the variables

  -- a CLOSE where one is captured
  pub variables_stand : (hidden : List Active) (m : Maker) (ends : List ℕ) (n base : ℕ) (b : Bool) (end foot : ℕ) (q : Spot) → Follows run nought nought m ends end → VariablesEnd run.code hidden (n + 3) b end foot →
      base ≡ n → captured_from (n + 3) m ≡ b → CloseAt (captured_from (base + 3) m) g (base + 3) (spot m) q → Standing g run end foot
  variables_stand hidden m ends n base b end foot q follows laid e c at = by b laid (subst (λ x. CloseAt x g (n + 3) (spot m) q) c (subst (λ x. CloseAt (captured_from (x + 3) m) g (x + 3) (spot m) q) e at))
    where
      by : (b : Bool) → VariablesEnd run.code hidden (n + 3) b end foot → CloseAt b g (n + 3) (spot m) q → Standing g run end foot
      by false laid at = stands_nowhere g run end foot laid
      by true (t, close) at = stands_to t (close_stands follows close at)

-- ---- behind the variables

pub record Turned (run : Run) (begun turned : Maker) (ends : List ℕ) (n base foot to : ℕ) : Type 0 where
  pub captured : captured_from (n + 3) turned ≡ captured_from (n + 3) begun
  pub follows : Follows run nought nought (end_block 1 (base + 3) turned) (hidden_to ends to) foot
  pub lasts : LastTo (suc foot) (hidden_to ends to)
  pub count : length (hidden_to ends to) ≡ base + 3

pub for_turned : {run : Run} → HasPlainParts run.code → (hidden : List Active) (begun turned : Maker) (ends : List ℕ) (n base k from foot to variables_end : ℕ) → base ≡ n → length ends ≡ n →
    Follows run nought nought begun (for_ends ends to k variables_end) (suc from) → Follows run nought nought turned (for_ends ends to k variables_end) variables_end → from < variables_end →
    LastTo variables_end (for_ends ends to k variables_end) → VariablesEnd run.code hidden (n + 3) (captured_from (n + 3) begun) variables_end foot → to ≡ suc foot → LastTo to ends →
    Turned run begun turned ends n base foot to
for_turned {run} plain hidden begun turned ends n base k from foot to variables_end e c follows reached less all laid t l =
    let variables = replicate k variables_end in
    let order : suc from ≤ variables_end = omega (arith, less) in
    let same = same_active plain follows reached order all in
    let captured : captured_from (n + 3) turned ≡ captured_from (n + 3) begun = ap (λ (active : List Active). any_captured (drop (n + 3) active)) same in
    let rest = variables_go {run = run} hidden turned (hidden_to ends to) variables (n + 3) (captured_from (n + 3) begun) variables_end foot captured (hidden_count ends to n c)
    (replicate_ends k variables_end) (hidden_lasts ends foot to (omega arith) l) laid in
    record {
      captured = captured;
      follows = subst (λ x. Follows run nought nought (end_block 1 (x + 3) turned) (hidden_to ends to) foot) (sym e)
          (followed rest (subst (λ (es : List ℕ). Follows run nought nought turned es variables_end) (sym (append_again ends (replicate 3 to) variables)) reached));
      lasts = hidden_lasts ends (suc foot) to (omega arith) l;
      count = let d = hidden_count ends to n c in omega arith;
    }
