-- `while` and `repeat` follow the steps that they stand on, where their conditions and blocks do.
use Rattle.std.proofs.Common.{◌≡◌, ℕ, suc, ◌+◌, ◌≤◌, true, false, cond, List, [], ◌∷◌, ◌++◌, length, sym, ap, ◌∙◌, arith, subst}
use Rattle.std.specs.Prelude.{Option}
use Rattle.lua_tree.specs.Syntax.{Statements, while_loop, repeat_loop, Expression}
use Rattle.scheme.specs.Making.{Maker, new_label, place, jump_to, captured_from, end_locals, free_from, active_count}
use Rattle.scheme.specs.Statements.{Loop, close_from, block_part, settle, repeat_plain, repeat_captured}
use Rattle.scheme.specs.Scheme.{coded, statement_made, statements_made}
use Rattle.scheme.specs.declared.making.Active.{Active}
use Rattle.same_flow.specs.Laid.{IsJump, IsClose, TestLaid, label_of, with_new_labels, while_begun, repeat_begun, loop_of}
use Rattle.same_flow.specs.Renaming.{StatementsRename}
use Rattle.same_flow.specs.SameFlow.{HasPlainParts}
use Rattle.same_flow.proofs.Followed.{Run, Goes, LastTo, Outer, last_weaker, last_both, next_label, ◌onward◌, within, made_as, at_place, settling, label_ends, label_starts, ended}
use Rattle.same_flow.proofs.TestsFollowed.{jump_step, test_goes}
use Rattle.same_flow.proofs.BlocksFollowed.{Grows, close_step, anywhere}

-- with a label for the exit and one for the start
abbrev labelled : Maker → Maker
labelled m = (new_label (new_label m).after).after

-- a `while` whose start has this label
abbrev looped : Expression → Statements → Maker → (start : ℕ) → Maker
looped e block m start = jump_to 1 start (block_part 1 (statements_made block (loop_of m)) ((coded e).jump_if false (label_of m) (place start (labelled m))))

pub while_goes : {run : Run} {outer : List (ℕ × ℕ)} (active : List Active) (e : Expression) (block : Statements) (loop : Option Loop) (m : Maker) (ends : List ℕ) (from to start back : ℕ) →
    Goes run ((label_of m, to) ∷ []) (place (suc (label_of m)) (with_new_labels 2 m)) ends from (while_begun e m) ends start →
    Goes run ((label_of m, to) ∷ []) (while_begun e m) ends start (block_part 1 (statements_made block (loop_of m)) (while_begun e m)) ends back →
    IsJump run.code active back from → to ≡ suc back → LastTo to ends → Goes run outer m ends from (settle (statement_made (while_loop e block) 1 loop m)) ends to
while_goes {run} active e block loop m ends from to start back T B J t l =
    let exit = label_of m in
    let around : (f g : ℕ → ℕ) → Outer f g ((suc exit, from) ∷ (exit, to) ∷ []) → Outer f g ((exit, to) ∷ []) = λ f g o. o.1 in
    let whole : Goes run ((suc exit, from) ∷ (exit, to) ∷ []) (place (suc exit) (labelled m)) ends from (looped e block m (suc exit)) ends to =
    at_place (sym t) (within around (T onward B) onward within (λ f g o. (o.0, tt)) (jump_step _ ends back (suc exit) from J (subst (λ x. LastTo x ends) t l))) in
    anywhere (settling (label_ends (label_starts (subst (λ s. Goes run ((s, from) ∷ (exit, to) ∷ []) (place s (labelled m)) ends from (looped e block m s) ends to) (sym (next_label m)) whole))))

-- ---- repeat

-- a `repeat` whose start has this label
abbrev repeated : Expression → Statements → Maker → (start : ℕ) → Maker
repeated e block m start =
    let inside = statements_made block (loop_of m) (place start (labelled m)) in
    cond (captured_from (active_count m) inside) (repeat_captured 1 start (label_of m) (active_count m) (coded e)) (repeat_plain start (active_count m) (coded e)) inside

repeat_ends : {run : Run} {outer : List (ℕ × ℕ)} (e : Expression) (block : Statements) (loop : Option Loop) (m : Maker) (ends : List ℕ) (from to : ℕ) →
    Goes run ((suc (label_of m), from) ∷ (label_of m, to) ∷ []) (place (suc (label_of m)) (labelled m)) ends from (free_from (active_count m) (repeated e block m (suc (label_of m)))) ends to →
    Goes run outer m ends from (settle (statement_made (repeat_loop block e) 1 loop m)) ends to
repeat_ends {run} e block loop m ends from to whole =
    let exit = label_of m in
    let n = active_count m in
    anywhere (settling (label_ends (label_starts
    (subst (λ s. Goes run ((s, from) ∷ (exit, to) ∷ []) (place s (labelled m)) ends from (free_from n (repeated e block m s)) ends to) (sym (next_label m)) whole))))

next_one : (n : ℕ) → suc n ≡ n + 1
next_one n = omega arith

next_two : (n : ℕ) → suc (n + 1) ≡ n + 2
next_two n = omega arith

next_three : (n : ℕ) → suc (n + 2) ≡ n + 3
next_three n = omega arith

next_four : (n : ℕ) → suc (n + 3) ≡ n + 4
next_four n = omega arith

by_equal : {n k : ℕ} → n ≡ k → n ≤ k
by_equal e = omega arith

third : (n to : ℕ) → to ≡ n + 4 → suc (n + 2) ≤ to
third n to e = omega arith

module _ (run : Run) (renames : StatementsRename) (plain : HasPlainParts run.code) where
  pub plain_repeat_goes : {outer : List (ℕ × ℕ)} (active : List Active) (e : Expression) (block : Statements) (loop : Option Loop) (m : Maker) (ends : List ℕ) (from to start : ℕ) →
      captured_from (active_count m) (statements_made block (loop_of m) (repeat_begun m)) ≡ false → length ends ≡ active_count m →
      Grows run ((label_of m, to) ∷ []) (repeat_begun m) ends to from (statements_made block (loop_of m) (repeat_begun m)) start → TestLaid run.code active e false from start to → LastTo to ends →
      Goes run outer m ends from (settle (statement_made (repeat_loop block e) 1 loop m)) ends to
  plain_repeat_goes active e block loop m ends from to start c n G T l =
      let exit = label_of m in
      let inside = statements_made block (loop_of m) (repeat_begun m) in
      let test = test_goes run renames plain active inside (ends ++ G.new) e false (suc exit) from start to T (last_both to ends G.new l G.lasts) in
      repeat_ends e block loop m ends from to
      (made_as (ap (λ b. free_from (active_count m) (cond b (repeat_captured 1 (suc exit) exit (active_count m) (coded e)) (repeat_plain (suc exit) (active_count m) (coded e)) inside)) (sym c))
      (within (λ f g o. o.1) G.goes onward within (λ f g o. (o.0, tt)) test onward ended (active_count m) G.new n G.ends_by))

  pub captured_repeat_goes : {outer : List (ℕ × ℕ)} (active others : List Active) (e : Expression) (block : Statements) (loop : Option Loop) (m : Maker) (ends : List ℕ) (from to start tested : ℕ) →
      captured_from (active_count m) (statements_made block (loop_of m) (repeat_begun m)) ≡ true → length ends ≡ active_count m →
      Grows run ((label_of m, to) ∷ []) (repeat_begun m) ends (tested + 2) from (statements_made block (loop_of m) (repeat_begun m)) start →
      TestLaid run.code active e false (tested + 2) start tested →
      IsClose run.code active tested (active_count m) → IsJump run.code active (tested + 1) to → IsClose run.code others (tested + 2) (active_count m) → IsJump run.code others (tested + 3) from →
      to ≡ tested + 4 → LastTo to ends → Goes run outer m ends from (settle (statement_made (repeat_loop block e) 1 loop m)) ends to
  captured_repeat_goes active others e block loop m ends from to start tested c n G T C J D K t l =
      let exit = label_of m in
      let count = active_count m in
      let inside = statements_made block (loop_of m) (repeat_begun m) in
      let again = label_of inside in
      let all = ends ++ G.new in
      let last : LastTo (tested + 2) all = last_both (tested + 2) ends G.new (last_weaker (tested + 2) to ends (omega arith) l) G.lasts in
      let test = test_goes run renames plain active (new_label inside).after all e false again (tested + 2) start tested T (last_weaker tested (tested + 2) all (omega arith) last) in
      let close = at_place (next_one tested) (close_step ((coded e).jump_if false again (new_label inside).after) all tested count C (last_weaker (suc tested) (tested + 2) all (omega arith) last)) in
      let jump = at_place (next_two tested) (jump_step (close_from 1 count ((coded e).jump_if false again (new_label inside).after)) all (tested + 1) exit to J
      (last_weaker (suc (tested + 1)) (tested + 2) all (by_equal (next_two tested)) last)) in
      let leave : Goes run ((suc exit, from) ∷ (exit, to) ∷ []) inside all start (place again (jump_to 1 exit (close_from 1 count ((coded e).jump_if false again (new_label inside).after)))) all
      (tested + 2) =
      label_ends (within (λ f g o. (o.0, tt)) test onward anywhere close onward within (λ f g o. (o.1.1.0, tt)) jump) in
      let end = at_place (next_three tested) (close_step (free_from count (end_locals count (place again (jump_to 1 exit
      (close_from 1 count ((coded e).jump_if false again (new_label inside).after)))))) ends (tested + 2) count D (last_weaker (suc (tested + 2)) to ends (third tested to t) l)) in
      let back = at_place (next_four tested ∙ sym t) (jump_step _ ends (tested + 3) (suc exit) from K (last_weaker (suc (tested + 3)) to ends (by_equal (next_four tested ∙ sym t)) l)) in
      repeat_ends e block loop m ends from to
      (made_as (ap (λ b. free_from count (cond b (repeat_captured 1 (suc exit) exit count (coded e)) (repeat_plain (suc exit) count (coded e)) inside)) (sym c))
      (within (λ f g o. o.1) G.goes onward leave onward ended count G.new n G.ends_by onward anywhere end onward within (λ f g o. (o.0, tt)) back))
