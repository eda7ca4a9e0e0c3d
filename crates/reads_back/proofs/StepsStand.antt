-- Each step between two places of a run stands among the words: what this is, single words, and how it is put together.
use Rattle.std.proofs.Common.{◌≡◌, ◌≤◌, ◌<◌, ℕ, suc, Bool, true, false, List, length, refl, sym, ap, ap₂, ◌∙◌, subst, arith}
use Rattle.std.proofs.lemmas.Bool.Decides.{nat_tests}
use Rattle.std.proofs.lemmas.Option.{same_Some}
use Rattle.std.specs.Prelude.{Some, slice_get, nat_lt}
use Rattle.opcode.specs.declared.op.Op.{Op}
use Rattle.recover_expr.specs.Drafts.{Part}
use Rattle.recover_expr.specs.declared.steps.Step.{Step}
use Rattle.recover_expr.specs.declared.steps.StepKind.{StepKind}
use Rattle.scheme.specs.Making.{Maker, active_count, end_locals, put}
use Rattle.scheme.specs.Statements.{settle}
use Rattle.scheme.specs.declared.making.Active.{Active}
use Rattle.scheme.specs.declared.making.Piece.{Piece}
use Rattle.scheme_stands.proofs.Growth.{length_end, spot}
use Rattle.scheme_stands.specs.Words.{Fn, Spot, WordAt}
use Rattle.same_flow.specs.Laid.{HasStep, IsClose, IsJump}
use Rattle.same_flow.specs.Performed.{behind_step, ended_before, kind_made}
use Rattle.same_flow.proofs.Endings.{items_length, numbered}
use Rattle.same_flow.proofs.Followed.{Follows, Run, at_step, pc_of}
use Rattle.same_flow.proofs.StepsTold.{before}
use Rattle.same_flow.proofs.TestsFollowed.{kind_there}
use Rattle.reads_back.proofs.EachStored.{same_spot}
use Rattle.reads_back.specs.Stepped.{KindAt, begun_by}

-- a step of this kind and with this part stands there in a run
abbrev KindStands : Fn → Run → (at : ℕ) → StepKind → Part → Type 0
KindStands g run at kind part =
    let now = before run at in
    let behind = kind_made run.code kind part now in
    KindAt g run.code (pc_of run) kind part now behind (spot (begun_by kind part now)) (spot behind)

-- each step from one place to another stands
pub record Standing (g : Fn) (run : Run) (from to : ℕ) : Type 0 where
  pub each : (at : ℕ) (step : Step) (part : Part) → from ≤ at → at < to → slice_get run.code.steps at ≡ Some step → slice_get run.code.parts at ≡ Some part → KindStands g run at step.kind part

-- there are no steps between
pub stands_nowhere : (g : Fn) (run : Run) (from to : ℕ) → to ≡ from → Standing g run from to
stands_nowhere g run from to e = record { each = λ at step part h l s t. absurd (omega arith) }

-- steps, and others behind them
pub stands_both : (g : Fn) (run : Run) (from mid to : ℕ) → Standing g run from mid → Standing g run mid to → Standing g run from to
stands_both g run from mid to one two = record { each = λ at step part h l s t. by at step part h l s t (nat_lt at mid) refl }
  where
    by : (at : ℕ) (step : Step) (part : Part) → from ≤ at → at < to → slice_get run.code.steps at ≡ Some step → slice_get run.code.parts at ≡ Some part → (b : Bool) → nat_lt at mid ≡ b → KindStands g run at step.kind part
    by at step part h l s t true e = one.each at step part h (grind (arith, nat_tests)) s t
    by at step part h l s t false e = two.each at step part (grind (arith, nat_tests)) l s t

pub stands_to : {g : Fn} {run : Run} {from mid to : ℕ} → to ≡ mid → Standing g run from mid → Standing g run from to
stands_to {g} {run} {from} e standing = subst (λ x. Standing g run from x) (sym e) standing

-- one step
pub step_stands : {g : Fn} {run : Run} {active : List Active} {p : ℕ} (kind : StepKind) (part : Part) → HasStep run.code active p kind part → KindStands g run p kind part → Standing g run p (suc p)
step_stands {g} {run} {active} {p} kind part has is = record {
  each = λ at step other h l s t.
      subst (λ x. slice_get run.code.steps x ≡ Some step → slice_get run.code.parts x ≡ Some other → KindStands g run x step.kind other) (omega arith)
      (λ there also.
      let k : kind ≡ step.kind = sym has.0.is ∙ ap (λ (it : Step). it.kind) (same_Some has.0.step step (sym has.0.there ∙ there)) in
      let o : part ≡ other = same_Some part other (sym has.1 ∙ also) in
      subst (λ it. KindStands g run p step.kind it) o (subst (λ it. KindStands g run p it part) k is)) s t;
}

-- ---- spots

abbrev spot_by : (pc : ℕ) → Maker → Spot
spot_by pc m = record { pc = pc; ahead = m.ahead; functions = length m.functions }

-- the names of labels are not seen
pub spot_of_same : (f h : ℕ → ℕ) (m n : Maker) → numbered f m ≡ numbered h n → spot m ≡ spot n
spot_of_same f h m n e = ap (λ pc. spot_by pc m) (items_length f m) ∙ ap (λ (x : Maker). spot x) e ∙ ap (λ pc. spot_by pc n) (sym (items_length h n))

-- what follows a run stands where the run does
pub at_spot : {run : Run} {f h : ℕ → ℕ} {m : Maker} {ends : List ℕ} {p : ℕ} → Follows run f h m ends p → spot m ≡ spot (before run p)
at_spot {run} {f} {h} {m} {p = p} follows = spot_of_same f h m (settle (end_locals (active_count m) (at_step run p).maker)) follows.same

-- behind a step that is made
pub behind_spot : {run : Run} {f h : ℕ → ℕ} {active : List Active} {made : Maker} {ends : List ℕ} {p : ℕ} {kind : StepKind} {part : Part} → HasStep run.code active p kind part → Follows run f h made ends (suc p) →
    spot made ≡ spot (kind_made run.code kind part (before run p))
behind_spot {run} {p = p} has follows = at_spot follows ∙ ap₂ (λ a b. spot (behind_step run.code a b (ended_before p (at_step run p))).maker) (kind_there has.0) has.1

-- ---- words

-- by other names of its ends
pub word_between : {g : Fn} {w : Piece} {p q r s : Spot} → p ≡ r → q ≡ s → WordAt g w p q → WordAt g w r s
word_between {g} {w} {q = q} {r = r} a b word = subst (λ x. WordAt g w r x) b (subst (λ x. WordAt g w x q) a word)

-- a word stands where one is put
pub word_put : {g : Fn} {w : Piece} {p q : Spot} (line : ℕ) (piece : Piece) (n : Maker) → p ≡ spot n → WordAt g w p q → WordAt g w (spot n) (spot (put line piece n))
word_put {g} {w} {q = q} line piece n e word =
    let here = subst (λ x. WordAt g w x q) e word in
    record { has = here.has; near = here.near; reads = here.reads; next = length_end n.items (record { line = line; piece = piece }); ahead = refl; functions = refl }

-- a jump goes to the pc of its target
pub jump_stands : {g : Fn} {run : Run} {f h : ℕ → ℕ} {active : List Active} {m : Maker} {ends : List ℕ} {p target pc : ℕ} {q : Spot} → Follows run f h m ends p → IsJump run.code active p target →
    pc ≡ pc_of run target → WordAt g (Piece.Jump Op.Jmp 0 pc) (spot m) q → Standing g run p (suc p)
jump_stands {g} {run} {m = m} {p = p} {target = target} {q = q} follows jump e word =
    step_stands (StepKind.Jump target) jump.0 jump.1
    (word_put 1 (Piece.Jump Op.Jmp 0 target) (before run p) (at_spot follows) (subst (λ x. WordAt g (Piece.Jump Op.Jmp 0 x) (spot m) q) e word))

pub close_stands : {g : Fn} {run : Run} {f h : ℕ → ℕ} {active : List Active} {m : Maker} {ends : List ℕ} {p n : ℕ} {q : Spot} → Follows run f h m ends p → IsClose run.code active p n →
    WordAt g (Piece.Abc Op.Close n 0 0) (spot m) q → Standing g run p (suc p)
close_stands {g} {run} {p = p} {n = n} follows close word =
    step_stands (StepKind.Close n close.0) close.1.0 close.1.1 (word_put 1 (Piece.Abc Op.Close n 0 0) (before run p) (at_spot follows) word)

-- behind a word is where one is put
pub word_end : {g : Fn} {w : Piece} {q : Spot} (line : ℕ) (piece : Piece) (n : Maker) → WordAt g w (spot n) q → q ≡ spot (put line piece n)
word_end line piece n word =
    same_spot (record { pc = word.next ∙ sym (length_end n.items (record { line = line; piece = piece })); ahead = word.ahead; functions = word.functions })
