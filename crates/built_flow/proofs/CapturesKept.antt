-- Statements but declarations bring no locals into scope, the locals before a statement stay, and which of them are captured.
use Rattle.std.proofs.Common.{◌≡◌, ℕ, zero, suc, ◌+◌, ◌≤◌, ◌<◌, Bool, true, false, cond, List, [], ◌∷◌, ◌++◌, length, take, drop, refl, sym, ap, ap₂, ◌∙◌, arith, subst}
use Rattle.std.proofs.lemmas.Bool.Decides.{nat_tests}
use Rattle.std.proofs.lemmas.List.{take-append-drop, drop-append-le}
use Rattle.std.proofs.lemmas.List.Folds.{list_any-append}
use Rattle.std.specs.Prelude.{Option, None, Some, ◌||◌, nat_lt}
use Rattle.opcode.specs.declared.op.Op.{Op}
use Rattle.lua_tree.specs.Syntax.{Statement, assignment, call_statement, do_block, while_loop, repeat_loop, if_statement, numeric_for, generic_for, function_statement, local_function, local_statement, return_statement, break_statement, Branches, no_branches, branch, Otherwise, no_otherwise, otherwise, Expression}
use Rattle.scheme.specs.Making.{Maker, any_captured, captured_from, active_count, end_locals, when, declare, place, jump_to}
use Rattle.scheme.specs.Scheme.{coded, all_coded, has_branch, has_otherwise, statement_made, statements_made, branches_made, otherwise_made}
use Rattle.scheme.specs.Statements.{Loop, end_block, close_from, arm_part, break_part, repeat_captured, repeat_plain}
use Rattle.scheme.specs.declared.making.Active.{Active}
use Rattle.same_flow.specs.Laid.{highest_captured, label_of, with_new_labels, while_begun, arm_begun, loop_of}
use Rattle.same_flow.specs.SameFlow.{HasPlainParts}
use Rattle.same_flow.specs.Told.{IsDeclarationPart}
use Rattle.same_flow.proofs.Endings.{take_less}
use Rattle.same_flow.proofs.Followed.{Run, at_step, Follows, nought, LastTo, length_both, next_label}
use Rattle.same_flow.proofs.KeptActive.{active_kept, all_kept, assignment_kept, function_statement_kept, kept, return_kept}
use Rattle.same_flow.proofs.RunKeeps.{Begins, keeps, declared_active}

-- ---- the locals before stay

pub kept_front : (run : Run) → HasPlainParts run.code → (m n : Maker) (ends new : List ℕ) (p q : ℕ) → Follows run nought nought m ends p → Follows run nought nought n (ends ++ new) q → p ≤ q →
    LastTo q ends →
    take (active_count m) n.active ≡ m.active
kept_front run plain m n ends new p q found_there growth h l =
    let before : Begins run plain m.active ends (at_step run p) = record {
      behind = found_there.behind;
      all_ends = found_there.all_ends;
      same = ap (λ k. take k (at_step run p).maker.active) found_there.count ∙ ap (λ (x : Maker). x.active) (sym found_there.same);
      count = sym found_there.count;
    } in
    let after = keeps run plain m.active ends p q h l before in
    let enough : active_count m ≤ active_count n = (let a = found_there.count in let b = growth.count in let c = length_both ends new in omega arith) in
    ap (λ (x : Maker). take (active_count m) x.active) growth.same ∙ take_less (active_count m) (active_count n) (at_step run q).maker.active enough
    ∙ ap (λ k. take k (at_step run q).maker.active) (sym found_there.count) ∙ after.same

-- ---- how many locals

take_most : (n : ℕ) (xs : List Active) → length (take n xs) ≤ n
take_most zero xs = omega arith
take_most (suc n) [] = omega arith
take_most (suc n) (x ∷ xs) = let a = take_most n xs in let c = length (take n xs) in omega arith

closed_active : (b : Bool) (n : ℕ) (m : Maker) → (when b (close_from 1 n) m).active ≡ m.active
closed_active true n m = refl
closed_active false n m = refl

block_most : (n : ℕ) (m : Maker) → active_count (end_block 1 n m) ≤ n
block_most n m =
    subst (λ (a : List Active). length a ≤ n) (sym (closed_active (captured_from n m) n (end_locals n m))) (take_most n m.active)

jumped_active : (more : Bool) (label : ℕ) (m : Maker) → (when more (jump_to 1 label) m).active ≡ m.active
jumped_active true label m = refl
jumped_active false label m = refl

by_active : {n : ℕ} {one other : List Active} → one ≡ other → length other ≤ n → length one ≤ n
by_active e h = let d = ap (λ (a : List Active). length a) e in omega arith

arms_most : (branches : Branches) (loop : Option Loop) (label : ℕ) (more : Bool) (m : Maker) → active_count (branches_made branches 1 loop label more m) ≤ active_count m
arms_most no_branches loop label more m = omega arith
arms_most (branch e block rest) loop label more m =
    let further = has_branch rest || more in
    let inside = statements_made block loop (arm_begun e m) in
    let here : active_count (arm_part 1 label further (coded e) (statements_made block loop) m) ≤ active_count (arm_begun e m) =
    by_active (jumped_active further label (end_block 1 (active_count (arm_begun e m)) inside)) (block_most (active_count (arm_begun e m)) inside) in
    let before : active_count (arm_begun e m) ≡ active_count m = ap (λ (a : List Active). length a) (active_kept ((kept e).jump_if false (label_of m)) (with_new_labels 1 m)) in
    let behind = arms_most rest loop label more (arm_part 1 label further (coded e) (statements_made block loop) m) in
    omega arith

other_most : (other : Otherwise) (loop : Option Loop) (m : Maker) → active_count (otherwise_made other 1 loop m) ≤ active_count m
other_most no_otherwise loop m = omega arith
other_most (otherwise block) loop m = block_most (active_count m) (statements_made block loop m)

repeated_most : (b : Bool) (start exit n : ℕ) (e : Expression) (m : Maker) → active_count (cond b (repeat_captured 1 start exit n (coded e)) (repeat_plain start n (coded e)) m) ≤ n
repeated_most true start exit n e m = take_most n _
repeated_most false start exit n e m = take_most n _

break_most : (loop : Option Loop) (m : Maker) → active_count (break_part 1 loop m) ≤ active_count m
break_most None m = omega arith
break_most (Some loop) m = by_active (closed_active (captured_from loop.before m) loop.before m) (omega arith)

-- a statement that declares no locals
pub quiet : (s : Statement) → (IsDeclarationPart s → ⊥) → (loop : Option Loop) (m : Maker) → active_count (statement_made s 1 loop m) ≤ active_count m
quiet (assignment targets es) undeclared loop m = by_active (active_kept (assignment_kept 1 targets es) m) (omega arith)
quiet (call_statement e) undeclared loop m = by_active (active_kept ((kept e).multi Op.Call (Some 0)) m) (omega arith)
quiet (function_statement path method body) undeclared loop m = by_active (active_kept (function_statement_kept 1 path method body) m) (omega arith)
quiet (local_function name body) undeclared loop m = absurd (undeclared tt)
quiet (local_statement names es) undeclared loop m = absurd (undeclared tt)
quiet (return_statement es) undeclared loop m = by_active (active_kept (return_kept 1 (all_coded es) (all_kept es)) m) (omega arith)
quiet break_statement undeclared loop m = break_most loop m
quiet (do_block block) undeclared loop m = block_most (active_count m) (statements_made block loop m)
quiet (while_loop e block) undeclared loop m =
    let before : active_count (while_begun e m) ≡ active_count m = ap (λ (a : List Active). length a) (active_kept ((kept e).jump_if false (label_of m)) (place (suc (label_of m)) (with_new_labels 2 m))) in
    let most = block_most (active_count (while_begun e m)) (statements_made block (loop_of m) (while_begun e m)) in
    let same : active_count (statement_made (while_loop e block) 1 loop m) ≡ active_count (end_block 1 (active_count (while_begun e m)) (statements_made block (loop_of m) (while_begun e m))) = while_same in
    omega arith
  where
    while_same : active_count (statement_made (while_loop e block) 1 loop m) ≡ active_count (end_block 1 (active_count (while_begun e m)) (statements_made block (loop_of m) (while_begun e m)))
    while_same = ap (λ s. active_count (end_block 1 (active_count ((coded e).jump_if false (label_of m) (place s (with_new_labels 2 m))))
        (statements_made block (loop_of m) ((coded e).jump_if false (label_of m) (place s (with_new_labels 2 m)))))) (next_label m)
quiet (repeat_loop block e) undeclared loop m =
    let start = label_of (with_new_labels 1 m) in
    let inside = statements_made block (loop_of m) (place start (with_new_labels 2 m)) in
    repeated_most (captured_from (active_count m) inside) start (label_of m) (active_count m) e inside
quiet (if_statement branches last) undeclared loop m =
    let arms = arms_most branches loop (label_of m) (has_otherwise last) (with_new_labels 1 m) in
    let rest = other_most last loop (branches_made branches 1 loop (label_of m) (has_otherwise last) (with_new_labels 1 m)) in
    omega arith
quiet (numeric_for name first last by block) undeclared loop m =
    let count : active_count (declare (name ∷ []) m).after ≡ active_count m = ap (λ (a : List Active). length a) (declared_active (name ∷ []) m) in
    subst (λ n. active_count (statement_made (numeric_for name first last by block) 1 loop m) ≤ n) count (take_most (active_count (declare (name ∷ []) m).after) _)
quiet (generic_for names es block) undeclared loop m =
    let count : active_count (declare names m).after ≡ active_count m = ap (λ (a : List Active). length a) (declared_active names m) in
    subst (λ n. active_count (statement_made (generic_for names es block) 1 loop m) ≤ n) count (take_most (active_count (declare names m).after) _)

-- ---- captured locals

drop_all : (n : ℕ) (xs : List Active) → length xs ≤ n → drop n xs ≡ []
drop_all zero [] h = refl
drop_all (suc n) [] h = refl
drop_all zero (x ∷ xs) h = absurd (omega arith)
drop_all (suc n) (x ∷ xs) h = drop_all n xs (omega arith)

pub none_captured : (n : ℕ) (m : Maker) → active_count m ≤ n → captured_from n m ≡ false
none_captured n m h = ap any_captured (drop_all n m.active h)

-- of locals that stay, and others behind them
pub captured_more : (k : ℕ) (m n : Maker) → k ≤ active_count m → take (active_count m) n.active ≡ m.active → captured_from k n ≡ (captured_from k m || captured_from (active_count m) n)
captured_more k m n h e =
    let rest = drop (active_count m) n.active in
    let whole : n.active ≡ m.active ++ rest = sym (take-append-drop (active_count m) n.active) ∙ ap (λ (a : List Active). a ++ rest) e in
    ap (λ (a : List Active). any_captured (drop k a)) whole ∙ ap any_captured (drop-append-le k m.active rest h) ∙ list_any-append (λ (one : Active). one.local.captured) (drop k m.active) rest

-- the highest captured local is below a place, or one from there on is captured
highest_none : (below : ℕ) (xs : List Active) → any_captured xs ≡ false → highest_captured below xs ≡ 0
highest_none below [] e = refl
highest_none below (x ∷ xs) e = ap (λ b. cond b (cond (any_captured xs) (highest_captured (suc below) xs) (suc below)) 0) e

highest_above : (below : ℕ) (xs : List Active) → any_captured xs ≡ true → below < highest_captured below xs
highest_above below [] e = cc
highest_above below (x ∷ xs) e =
    subst (λ b. below < cond b (cond (any_captured xs) (highest_captured (suc below) xs) (suc below)) 0) (sym e) (by (any_captured xs) (λ h. highest_above (suc below) xs h) refl)
  where
    by : (b : Bool) → (any_captured xs ≡ true → suc below < highest_captured (suc below) xs) → any_captured xs ≡ b → below < cond b (highest_captured (suc below) xs) (suc below)
    by true again h = let a = again h in let n = highest_captured (suc below) xs in omega arith
    by false again h = omega arith

or_true : (b : Bool) → (b || true) ≡ true
or_true true = refl
or_true false = refl

deeper : (below : ℕ) (x : Active) (xs : List Active) → any_captured xs ≡ true → highest_captured below (x ∷ xs) ≡ highest_captured (suc below) xs
deeper below x xs e =
    ap₂ (λ a b. cond a (cond b (highest_captured (suc below) xs) (suc below)) 0) (ap (λ b. x.local.captured || b) e ∙ or_true x.local.captured) e

shallow : (below : ℕ) (x : Active) (xs : List Active) → any_captured xs ≡ false → highest_captured below (x ∷ xs) ≤ suc below
shallow below x xs e = by (any_captured (x ∷ xs)) (any_captured xs) e
  where
    by : (a b : Bool) → b ≡ false → cond a (cond b (highest_captured (suc below) xs) (suc below)) 0 ≤ suc below
    by true false h = omega arith
    by false b h = omega arith
    by true true h = cc

pub captured_low : (n below : ℕ) (xs : List Active) → highest_captured below xs ≤ below + n → any_captured (drop n xs) ≡ false
captured_low zero below xs h = by (any_captured xs) refl
  where
    by : (b : Bool) → any_captured xs ≡ b → b ≡ false
    by true e = let a = highest_above below xs e in absurd (omega arith)
    by false e = refl
captured_low (suc n) below [] h = refl
captured_low (suc n) below (x ∷ xs) h = captured_low n (suc below) xs (by (any_captured xs) refl)
  where
    by : (b : Bool) → any_captured xs ≡ b → highest_captured (suc below) xs ≤ suc below + n
    by true e = let d = deeper below x xs e in omega arith
    by false e = let d = highest_none (suc below) xs e in omega arith

pub captured_high : (n below : ℕ) (xs : List Active) → below + n < highest_captured below xs → any_captured (drop n xs) ≡ true
captured_high zero below xs h = by (any_captured xs) refl
  where
    by : (b : Bool) → any_captured xs ≡ b → b ≡ true
    by true e = refl
    by false e = let a = highest_none below xs e in absurd (omega arith)
captured_high (suc n) below [] h = absurd (omega arith)
captured_high (suc n) below (x ∷ xs) h = captured_high n (suc below) xs (by (any_captured xs) refl)
  where
    by : (b : Bool) → any_captured xs ≡ b → suc below + n < highest_captured (suc below) xs
    by true e = let d = deeper below x xs e in omega arith
    by false e = let d = shallow below x xs e in absurd (omega arith)

-- ---- the highest captured local

-- it is one of the active ones
pub highest_most : (below : ℕ) (xs : List Active) → highest_captured below xs ≤ below + length xs
highest_most below [] = omega arith
highest_most below (x ∷ xs) = by (any_captured (x ∷ xs)) (any_captured xs) (highest_most (suc below) xs)
  where
    by : (a b : Bool) → highest_captured (suc below) xs ≤ suc below + length xs → cond a (cond b (highest_captured (suc below) xs) (suc below)) 0 ≤ below + suc (length xs)
    by true true h = let n = length xs in let k = highest_captured (suc below) xs in omega arith
    by true false h = let n = length xs in omega arith
    by false b h = omega arith

pub or_false : (b : Bool) → (b || false) ≡ b
or_false true = refl
or_false false = refl

-- behind others of which none is captured it stays
pub highest_stays : (below : ℕ) (xs ys : List Active) → any_captured ys ≡ false → highest_captured below (xs ++ ys) ≡ highest_captured below xs
highest_stays below [] ys h = highest_none below ys h
highest_stays below (x ∷ xs) ys h =
    let one : any_captured (xs ++ ys) ≡ any_captured xs = list_any-append (λ (one : Active). one.local.captured) xs ys ∙ ap (λ b. any_captured xs || b) h ∙ or_false (any_captured xs) in
    ap₂ (λ b n. cond (x.local.captured || b) (cond b n (suc below)) 0) one (highest_stays (suc below) xs ys h)

-- where none from a place on is captured, the highest is below it
pub highest_low : (n : ℕ) (xs : List Active) → any_captured (drop n xs) ≡ false → highest_captured 0 xs ≤ n
highest_low n xs h = by (nat_lt n (highest_captured 0 xs)) refl
  where
    by : (b : Bool) → nat_lt n (highest_captured 0 xs) ≡ b → highest_captured 0 xs ≤ n
    by true e =
        let less : 0 + n < highest_captured 0 xs = grind (arith, nat_tests) in
        let some = captured_high n 0 xs less in
        let both : true ≡ false = sym some ∙ h in
        cc
    by false e = grind (arith, nat_tests)

-- and where one is, the highest is not
pub highest_high : (n : ℕ) (xs : List Active) → any_captured (drop n xs) ≡ true → n < highest_captured 0 xs
highest_high n xs h = by (nat_lt n (highest_captured 0 xs)) refl
  where
    by : (b : Bool) → nat_lt n (highest_captured 0 xs) ≡ b → n < highest_captured 0 xs
    by true e = grind (arith, nat_tests)
    by false e =
        let less : highest_captured 0 xs ≤ 0 + n = grind (arith, nat_tests) in
        let none = captured_low n 0 xs less in
        let both : true ≡ false = sym h ∙ none in
        cc
