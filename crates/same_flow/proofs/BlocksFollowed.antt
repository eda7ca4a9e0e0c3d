-- Steps of one statement, the ends of blocks, and jumps out of loops follow the steps that they stand on.
use Rattle.std.proofs.Common.{◌≡◌, ℕ, zero, suc, ◌+◌, ◌≤◌, Bool, true, false, inl, inr, List, [], ◌∷◌, ◌++◌, length, refl, sym, ap, ◌∙◌, arith, subst}
use Rattle.std.specs.Prelude.{Option, Some, None, replicate}
use Rattle.lua_tree.specs.Syntax.{Statement, return_statement, break_statement, Expressions}
use Rattle.opcode.specs.declared.op.Op.{Op}
use Rattle.recover_expr.specs.Drafts.{Part, statement_part, values_part}
use Rattle.recover_expr.specs.declared.steps.StepKind.{StepKind}
use Rattle.scheme.specs.Making.{Maker, jump_to, captured_from, end_locals, free_from, active_count, when}
use Rattle.scheme.specs.Statements.{Loop, close_from, end_block, settle, break_part}
use Rattle.scheme.specs.Scheme.{all_coded, statement_made}
use Rattle.scheme.specs.Shapes.{plain_statement}
use Rattle.scheme.specs.declared.making.Piece.{Piece}
use Rattle.scheme.specs.declared.making.Active.{Active}
use Rattle.same_flow.specs.Laid.{HasStep, IsClose, Exit, LeavesTo, IsBlock, ActLaid, DeclarationLaid}
use Rattle.same_flow.specs.Performed.{kind_at, part_at, kind_made, ends_of}
use Rattle.same_flow.specs.Renaming.{IsOneStep, StatementsRename}
use Rattle.same_flow.specs.SameFlow.{HasPlainParts}
use Rattle.same_flow.proofs.KeptActive.{active_kept, all_kept, return_kept}
use Rattle.same_flow.proofs.Endings.{numbered, alike_put, labels_kept}
use Rattle.same_flow.proofs.Followed.{Run, Goes, OneStep, EndBy, LastTo, last_weaker, append_nothing, settle_same, ◌onward◌, within, made_as, ends_as, at_place, settling, one_step, ended}
use Rattle.same_flow.proofs.TestsFollowed.{kind_there, none_new, plain_step, jump_step}
use Rattle.same_flow.proofs.RunKeeps.{extends_count, one_step_extends}

-- the loop around, by its label and by its place
abbrev pub outer_of : Option Loop → Option Exit → List (ℕ × ℕ)
outer_of (Some loop) (Some exit) = (loop.exit, exit.place) ∷ []
outer_of loop exit = []

-- both count the same locals before the loop
abbrev pub Matches : Option Loop → Option Exit → Type 0
Matches (Some loop) (Some exit) = loop.before ≡ exit.locals
Matches None (Some exit) = ⊥
Matches loop None = Unit {0}

-- what leads on, and brings locals into scope that end at a place
pub record Grows (run : Run) (outer : List (ℕ × ℕ)) (m : Maker) (ends : List ℕ) (stop p : ℕ) (made : Maker) (q : ℕ) : Type 0 where
  pub new : List ℕ
  pub ends_by : EndBy stop new
  pub lasts : LastTo stop new
  pub goes : Goes run outer m ends p made (ends ++ new) q

pub no_growth : {run : Run} {outer : List (ℕ × ℕ)} {m made : Maker} {ends : List ℕ} {p q : ℕ} (stop : ℕ) → Goes run outer m ends p made ends q → Grows run outer m ends stop p made q
no_growth {ends = ends} stop G = record { new = []; ends_by = tt; lasts = tt; goes = ends_as (sym (append_nothing ends)) G }

pub close_step : {run : Run} {active : List Active} (m : Maker) (ends : List ℕ) (from n : ℕ) → IsClose run.code active from n → LastTo (suc from) ends →
    Goes run [] m ends from (close_from 1 n m) ends (suc from)
close_step {run} m ends from n C l = plain_step (record {
  kind = StepKind.Close n C.0;
  part = C.1.0;
  kind_is = kind_there C.1.1.0;
  part_is = C.1.1.1;
  makes = λ f g o k e h. (alike_put f g 1 (Piece.Abc Op.Close n 0 0) (Piece.Abc Op.Close n 0 0) refl).alike m k h ∙ ap (numbered g) (sym (settle_same (close_from 1 n k) e));
  labels = refl;
  count = none_new (active_count m);
  new_ends = refl;
}) l

-- whatever labels are around
pub anywhere : {run : Run} {outer : List (ℕ × ℕ)} {m made : Maker} {ends others : List ℕ} {p q : ℕ} → Goes run [] m ends p made others q → Goes run outer m ends p made others q
anywhere = within (λ f g o. tt)

-- ---- blocks

pub end_plain : (n : ℕ) (m : Maker) → captured_from n m ≡ false → free_from n (end_locals n m) ≡ end_block 1 n m
end_plain n m e = ap (λ b. free_from n (when b (close_from 1 n) (end_locals n m))) (sym e)

pub end_captured : (n : ℕ) (m : Maker) → captured_from n m ≡ true → close_from 1 n (free_from n (end_locals n m)) ≡ end_block 1 n m
end_captured n m e = ap (λ b. free_from n (when b (close_from 1 n) (end_locals n m))) (sym e)

pub block_ends : {run : Run} {outer : List (ℕ × ℕ)} {m inside : Maker} {ends : List ℕ} {from : ℕ} (active : List Active) (n : ℕ) (b : Bool) → captured_from n inside ≡ b → length ends ≡ n →
    (laid : ℕ → ℕ → Type 0) (to : ℕ) →
    LastTo to ends → ((stop : ℕ) → stop ≤ to → laid stop stop → Grows run outer m ends stop from inside stop) → IsBlock run.code active n b laid from to →
    Goes run outer m ends from (end_block 1 n inside) ends to
block_ends {inside = inside} active n false c e laid to l body B = let G = body to (omega arith) B in made_as (end_plain n inside c) (G.goes onward ended n G.new e G.ends_by)
block_ends {inside = inside} {ends = ends} active n true c e laid to l body (stop, t, h, C, B) =
    let G = body stop (omega arith) B in
    at_place (sym t) (made_as (end_captured n inside c) (G.goes onward ended n G.new e G.ends_by onward anywhere (close_step _ ends stop n C (subst (λ x. LastTo x ends) t l))))

-- ---- one step

pub replicated : (n x : ℕ) → length (replicate n x) ≡ n
replicated zero x = refl
replicated (suc n) x = ap suc (replicated n x)

pub replicate_ends : (n x : ℕ) → EndBy x (replicate n x)
replicate_ends zero x = tt
replicate_ends (suc n) x = (omega arith, replicate_ends n x)

pub replicate_lasts : (n x : ℕ) → LastTo x (replicate n x)
replicate_lasts zero x = tt
replicate_lasts (suc n) x = (omega arith, replicate_lasts n x)

-- what a statement makes, whatever loop is around
abbrev SameAnywhere : Statement → Option Loop → Type 0
SameAnywhere s loop = (n : Maker) → statement_made s 1 loop n ≡ statement_made s 1 None n

module _ (run : Run) (renames : StatementsRename) where
  act_one : {outer : List (ℕ × ℕ)} {new : List ℕ} (s : Statement) → IsOneStep s → plain_statement s ≡ true → (loop : Option Loop) → SameAnywhere s loop →
      (m : Maker) (from : ℕ) (kind : StepKind) (part : Part) →
      kind_at run.code.steps from ≡ Some kind → part_at run.code from ≡ Some part → ((n : Maker) → kind_made run.code kind part n ≡ statement_made s 1 None n) →
      active_count (statement_made s 1 loop m) ≡ active_count m + length new → ends_of kind (length new) ≡ new → OneStep run outer m from (settle (statement_made s 1 loop m)) new
  act_one s one plain loop anyhow m from kind part k p makes count new = record {
    kind = kind;
    part = part;
    kind_is = k;
    part_is = p;
    makes = λ f g o n free h.
        ap settle ((renames.statements f [] s 1 loop one plain).same m ∙ anyhow (numbered f m) ∙ ap (statement_made s 1 None) h ∙ sym ((renames.statements g [] s 1 None one plain).same n)
        ∙ ap (numbered g) (sym (makes n)));
    labels = labels_kept (statement_made s 1 loop) m (renames.statements (λ n. n) m.labels s 1 loop one plain);
    count = count;
    new_ends = new;
  }

  act_step : {outer : List (ℕ × ℕ)} {m made : Maker} {ends new : List ℕ} {from to : ℕ} → OneStep run outer m from made new → to ≡ suc from → LastTo to ends →
      Goes run outer m ends from made (ends ++ new) to
  act_step {outer} {m} {made} {ends} {new} {from} {to} S t l =
      subst (λ x. Goes run outer m ends from made (ends ++ new) x) (sym t) (one_step S (subst (λ x. LastTo x ends) t l))

  module _ (plain : HasPlainParts run.code) where
    -- a statement that leaves the locals as they are
    pub act_goes : {outer : List (ℕ × ℕ)} (s : Statement) (loop : Option Loop) → SameAnywhere s loop → (m : Maker) (ends : List ℕ) (stop from to : ℕ) →
        (statement_made s 1 loop m).active ≡ m.active → ActLaid run.code m s from to → LastTo to ends → Grows run outer m ends stop from (settle (statement_made s 1 loop m)) to
    act_goes s loop anyhow m ends stop from to same (H, t) l =
        let is = plain from (statement_part s) H.1 in
        record {
          new = [];
          ends_by = tt;
          lasts = tt;
          goes = act_step (act_one s is.0 is.1 loop anyhow m from StepKind.Act (statement_part s) (kind_there H.0) H.1 (λ n. refl)
              (ap (λ (a : List Active). length a) same ∙ none_new (active_count m)) refl) t l;
        }

    pub return_goes : {outer : List (ℕ × ℕ)} (es : Expressions) (loop : Option Loop) (m : Maker) (ends : List ℕ) (stop from to : ℕ) →
        HasStep run.code m.active from StepKind.Return (values_part es) × (to ≡ suc from) → LastTo to ends →
        Grows run outer m ends stop from (settle (statement_made (return_statement es) 1 loop m)) to
    return_goes es loop m ends stop from to (H, t) l = record {
      new = [];
      ends_by = tt;
      lasts = tt;
      goes = act_step (act_one (return_statement es) tt (plain from (values_part es) H.1) loop (λ n. refl) m from StepKind.Return (values_part es) (kind_there H.0) H.1 (λ n. refl)
          (ap (λ (a : List Active). length a) (active_kept (return_kept 1 (all_coded es) (all_kept es)) m) ∙ none_new (active_count m)) refl) t l;
    }

    -- a declaration, whose locals end at a place
    pub declaration_goes : {outer : List (ℕ × ℕ)} (s : Statement) (loop : Option Loop) → SameAnywhere s loop → (m : Maker) (ends : List ℕ) (stop from to : ℕ) →
        DeclarationLaid run.code m stop s from to → LastTo to ends → Grows run outer m ends stop from (settle (statement_made s 1 loop m)) to
    declaration_goes s loop anyhow m ends stop from to (H, t) l =
        let is = plain from (statement_part s) H.1 in
        let x = one_step_extends s is.0 1 loop m in
        let n = length x.0 in
        record {
          new = replicate n stop;
          ends_by = replicate_ends n stop;
          lasts = replicate_lasts n stop;
          goes = act_step (act_one s is.0 is.1 loop anyhow m from (StepKind.Declaration stop (captured_from (active_count m) (statement_made s 1 None m))) (statement_part s) (kind_there H.0) H.1 (λ k. refl)
              (extends_count m (statement_made s 1 loop m) x ∙ ap (λ k. active_count m + k) (sym (replicated n stop))) (ap (λ k. replicate k stop) (replicated n stop))) t l;
        }

-- ---- break

leaves_plain : (loop : Loop) (exit : Exit) (m : Maker) → loop.before ≡ exit.locals → captured_from exit.locals m ≡ false → jump_to 1 loop.exit m ≡ break_part 1 (Some loop) m
leaves_plain loop exit m e c = ap (λ b. jump_to 1 loop.exit (when b (close_from 1 loop.before) m)) (sym (ap (λ n. captured_from n m) e ∙ c))

leaves_captured : (loop : Loop) (exit : Exit) (m : Maker) → loop.before ≡ exit.locals → captured_from exit.locals m ≡ true →
    jump_to 1 loop.exit (close_from 1 exit.locals m) ≡ break_part 1 (Some loop) m
leaves_captured loop exit m e c = ap (λ n. jump_to 1 loop.exit (close_from 1 n m)) (sym e) ∙ ap (λ b. jump_to 1 loop.exit (when b (close_from 1 loop.before) m)) (sym (ap (λ n. captured_from n m) e ∙ c))

pub break_goes : {run : Run} (loop : Option Loop) (exit : Option Exit) (m : Maker) (ends : List ℕ) (from to : ℕ) → Matches loop exit → LeavesTo run.code exit m from to → LastTo to ends →
    Goes run (outer_of loop exit) m ends from (settle (statement_made break_statement 1 loop m)) ends to
break_goes loop None m ends from to e H l = absurd H
break_goes None (Some exit) m ends from to e H l = absurd e
break_goes {run} (Some loop) (Some exit) m ends from to e (inl (c, J, t)) l =
    settling (made_as (leaves_plain loop exit m e c) (at_place (sym t) (jump_step m ends from loop.exit exit.place J (subst (λ x. LastTo x ends) t l))))
break_goes (Some loop) (Some exit) m ends from to e (inr (c, C, J, t)) l =
    let last = subst (λ x. LastTo x ends) t l in
    settling (made_as (leaves_captured loop exit m e c) (at_place (sym t)
    (anywhere (close_step m ends from exit.locals C (last_weaker (suc from) (suc (suc from)) ends (omega arith) last)) onward jump_step _ ends (suc from) loop.exit exit.place J last)))
