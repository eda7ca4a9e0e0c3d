-- The feet of `for` loops, the ends of their variables, and so whole loops follow the steps that they stand on.
use Rattle.std.proofs.Common.{◌≡◌, ℕ, suc, ◌+◌, ◌-◌, ◌≤◌, ◌<◌, Bool, true, false, List, [], ◌∷◌, ◌++◌, length, take, drop, refl, sym, ap, ap₂, ◌∙◌, arith, subst}
use Rattle.std.specs.Prelude.{Option, Some, replicate}
use Rattle.lua_num.specs.Bytes.{Text}
use Rattle.lua_tree.specs.Syntax.{Statements, numeric_for, generic_for, Expressions, Expression, ForStep}
use Rattle.opcode.specs.declared.op.Op.{Op}
use Rattle.recover_expr.specs.Drafts.{head_part}
use Rattle.recover_expr.specs.declared.steps.StepKind.{StepKind}
use Rattle.scheme.specs.Making as making
use Rattle.scheme.specs.Making.{Maker, new_label, place, put, jump_to, take_registers, used, declare, activate, captured_from, end_locals, active_count}
use Rattle.scheme.specs.Statements.{Loop, end_block, block_part, settle}
use Rattle.scheme.specs.Scheme.{statement_made, statements_made}
use Rattle.scheme.specs.declared.making.Piece.{Piece}
use Rattle.scheme.specs.declared.making.Active.{Active}
use Rattle.same_flow.specs.Laid.{HasKind, VariablesEnd, label_of, with_new_labels, numeric_valued, numeric_begun, generic_valued, generic_begun, for_loop_of}
use Rattle.same_flow.specs.Performed.{part_at, names_in}
use Rattle.same_flow.specs.SameFlow.{HasPlainParts}
use Rattle.same_flow.proofs.Endings.{numbered, alike_put}
use Rattle.same_flow.proofs.Followed.{Run, at_step, Follows, nought, Goes, OneStep, EndBy, LastTo, last_weaker, last_both, append_again, length_both, settled, next_label, settle_same, ◌onward◌, made_as, ends_as, at_place, followed, ended}
use Rattle.same_flow.proofs.TestsFollowed.{kind_there, none_new}
use Rattle.same_flow.proofs.RunKeeps.{Begins, keeps, declared_active}
use Rattle.same_flow.proofs.BlocksFollowed.{end_plain, end_captured, replicate_ends, replicate_lasts, close_step, anywhere}
use Rattle.same_flow.proofs.HeadsFollowed.{Head, declared_free}
use Rattle.same_flow.proofs.ForsFollowed.{for_ends, hidden_to, at_begun, for_goes}

-- locals that last are the same before and behind
kept_active : (run : Run) → HasPlainParts run.code → (m n : Maker) (ends : List ℕ) (p q : ℕ) → Follows run nought nought m ends p → Follows run nought nought n ends q → p ≤ q → LastTo q ends →
    n.active ≡ m.active
kept_active run plain m n ends p q F G h l =
    let before : Begins run plain m.active ends (at_step run p) = record {
      behind = F.behind;
      all_ends = F.all_ends;
      same = ap (λ k. take k (at_step run p).maker.active) F.count ∙ ap (λ (x : Maker). x.active) (sym F.same);
      count = sym F.count;
    } in
    let after = keeps run plain m.active ends p q h l before in
    ap (λ (x : Maker). x.active) G.same ∙ ap (λ k. take k (at_step run q).maker.active) (sym G.count) ∙ after.same

-- the variables end
pub variables_go : {run : Run} (hidden : List Active) (n : Maker) (ends variables : List ℕ) (count : ℕ) (b : Bool) (end foot : ℕ) → captured_from count n ≡ b → length ends ≡ count → EndBy end variables →
    LastTo foot ends →
    VariablesEnd run.code hidden count b end foot → Goes run [] n (ends ++ variables) end (end_block 1 count n) ends foot
variables_go hidden n ends variables count false end foot c e h l V = at_place (sym V) (made_as (end_plain count n c) (ended count variables e h))
variables_go hidden n ends variables count true end foot c e h l V =
    at_place (sym V.0) (made_as (end_captured count n c) (ended count variables e h onward anywhere (close_step _ ends end count V.1 (subst (λ x. LastTo x ends) V.0 l))))

before_foot : (run : Run) (hidden : List Active) (count : ℕ) (b : Bool) (end foot : ℕ) → VariablesEnd run.code hidden count b end foot → end ≤ foot
before_foot run hidden count false end foot V = omega arith
before_foot run hidden count true end foot V = let e = V.0 in omega arith

hidden_count : (ends : List ℕ) (to n : ℕ) → length ends ≡ n → length (hidden_to ends to) ≡ n + 3
hidden_count ends to n e = length_both ends (replicate 3 to) ∙ (let d : length (replicate 3 to) ≡ 3 = refl in omega arith)

hidden_lasts : (ends : List ℕ) (p to : ℕ) → p ≤ to → LastTo p ends → LastTo p (hidden_to ends to)
hidden_lasts ends p to h l = last_both p ends (replicate 3 to) l (h, (h, (h, tt)))

-- the locals before a loop last through it, and all locals of its block's begin last through its block
pub for_last : (run : Run) (hidden : List Active) (count : ℕ) (b : Bool) (from end foot to : ℕ) (ends : List ℕ) → VariablesEnd run.code hidden count b end foot → from < end → to ≡ suc foot →
    LastTo to ends →
    LastTo (suc from) ends × ((variables : ℕ) → LastTo end (for_ends ends to variables end))
for_last run hidden count b from end foot to ends V less t l =
    let behind = before_foot run hidden count b end foot V in (
      last_weaker (suc from) to ends (omega arith) l,
      λ n. last_both end ends (replicate 3 to ++ replicate n end) (last_weaker end to ends (omega arith) l) (last_both end (replicate 3 to) (replicate n end) (hidden_lasts [] end to (omega arith) tt)
          (replicate_lasts n end)),
    )

-- the block of a loop, and the end of its variables
inner_goes : {run : Run} (plain : HasPlainParts run.code) {outer : List (ℕ × ℕ)} {m begun inner : Maker} {from label foot to variables_end : ℕ} (hidden : List Active) (ends : List ℕ) (n base : ℕ)
    (H : Head run m from label foot to variables_end begun) →
    n ≡ base → Follows run nought nought m ends from → n ≡ active_count m → from < variables_end → to ≡ suc foot → LastTo to ends →
    Goes run outer begun (for_ends ends to H.variables variables_end) (suc from) inner (for_ends ends to H.variables variables_end) variables_end →
    VariablesEnd run.code hidden (n + 3) (captured_from (n + 3) begun) variables_end foot →
    Goes run outer begun (for_ends ends to H.variables variables_end) (suc from) (end_block 1 (base + 3) inner) (hidden_to ends to) foot
inner_goes {run} plain {outer} {m} {begun} {inner} {from} {label} {foot} {to} {variables_end} hidden ends n base H e F c less t l B V =
    let variables = replicate H.variables variables_end in
    let behind = before_foot run hidden (n + 3) _ variables_end foot V in
    let count : length ends ≡ n = F.count ∙ sym c in
    let start = at_begun H (for_last run hidden (n + 3) _ from variables_end foot to ends V less t l).0 nought nought refl F in
    let all_last = (for_last run hidden (n + 3) _ from variables_end foot to ends V less t l).1 H.variables in
    let same = kept_active run plain begun inner (for_ends ends to H.variables variables_end) (suc from) variables_end start (followed B start) (omega arith) all_last in
    let captured : captured_from (n + 3) inner ≡ captured_from (n + 3) begun = ap (λ (active : List Active). making.any_captured (drop (n + 3) active)) same in
    let last = hidden_lasts ends foot to (omega arith) (last_weaker foot to ends (omega arith) l) in
    let rest = variables_go {run = run} hidden inner (hidden_to ends to) variables (n + 3) (captured_from (n + 3) begun) variables_end foot captured (hidden_count ends to n count)
    (replicate_ends H.variables variables_end) last V in
    made_as (ap (λ x. end_block 1 (x + 3) inner) e) (ends_as (sym (append_again ends (replicate 3 to) variables)) B onward anywhere rest)

-- ---- feet

numeric_foot : {run : Run} (hidden : List Active) (inside : Maker) (label base foot from : ℕ) → active_count inside ≡ base + 3 → HasKind run.code hidden foot (StepKind.Foot true (suc from)) →
    OneStep run ((label, suc from) ∷ []) inside foot (put 1 (Piece.Jump Op.ForLoop base label) inside) []
numeric_foot {run} hidden inside label base foot from c K = record {
  kind = StepKind.Foot true (suc from);
  part = K.0;
  kind_is = kind_there K.1.0;
  part_is = K.1.1;
  makes = λ f g o n free h.
      let same : active_count inside ≡ active_count n = ap (λ (x : Maker). active_count x) h in
      let register : base ≡ active_count n - 3 = omega arith in
      (alike_put f g 1 (Piece.Jump Op.ForLoop base label) (Piece.Jump Op.ForLoop (active_count n - 3) (suc from)) (ap₂ (λ x y. Piece.Jump Op.ForLoop x y) register o.0)).alike inside n h
      ∙ ap (numbered g) (sym (settle_same (put 1 (Piece.Jump Op.ForLoop (active_count n - 3) (suc from)) n) free));
  labels = refl;
  count = none_new (active_count inside);
  new_ends = refl;
}

pub names_there : (run : Run) (es : Expressions) (names : List Text) (from : ℕ) → part_at run.code from ≡ Some (head_part es names) → length names ≡ names_in (part_at run.code (suc from - 1))
names_there run es names from p = let e : from ≡ suc from - 1 = omega arith in sym (ap names_in p) ∙ ap (λ x. names_in (part_at run.code x)) e

generic_foot : {run : Run} (hidden : List Active) (inside : Maker) (es : Expressions) (names : List Text) (label base foot from : ℕ) → active_count inside ≡ base + 3 →
    part_at run.code from ≡ Some (head_part es names) →
    HasKind run.code hidden foot (StepKind.Foot false (suc from)) → OneStep run ((label, suc from) ∷ []) inside foot (jump_to 1 label (put 1 (Piece.Abc Op.TForLoop base 0 (length names)) inside)) []
generic_foot {run} hidden inside es names label base foot from c p K = record {
  kind = StepKind.Foot false (suc from);
  part = K.0;
  kind_is = kind_there K.1.0;
  part_is = K.1.1;
  makes = λ f g o n free h.
      let count = names_in (part_at run.code (suc from - 1)) in
      let word = put 1 (Piece.Abc Op.TForLoop (active_count n - 3) 0 count) n in
      let same : active_count inside ≡ active_count n = ap (λ (x : Maker). active_count x) h in
      let register : base ≡ active_count n - 3 = omega arith in
      let one = (alike_put f g 1 (Piece.Abc Op.TForLoop base 0 (length names)) (Piece.Abc Op.TForLoop (active_count n - 3) 0 count)
      (ap₂ (λ x y. Piece.Abc Op.TForLoop x 0 y) register (names_there run es names from p))).alike inside n h in
      (alike_put f g 1 (Piece.Jump Op.Jmp 0 label) (Piece.Jump Op.Jmp 0 (suc from)) (ap (λ x. Piece.Jump Op.Jmp 0 x) o.0)).alike (put 1 (Piece.Abc Op.TForLoop base 0 (length names)) inside) word one
      ∙ ap (numbered g) (sym (settle_same (jump_to 1 (suc from) word) free));
  labels = refl;
  count = none_new (active_count inside);
  new_ends = refl;
}

-- ---- whole loops

-- a loop over numbers whose foot and exit have these labels
abbrev numeric_at : Text → (first last : Expression) → ForStep → Statements → Maker → (foot exit : ℕ) → Maker
numeric_at name first last by block m foot exit =
    let valued = numeric_valued 1 name first last by m in
    let variables = (declare (name ∷ []) m).value in
    let begun = take_registers (length variables) (activate variables (place (label_of valued) (put 1 (Piece.Jump Op.ForPrep m.free foot) (with_new_labels 3 valued)))) in
    let inside = end_block 1 (m.free + 3) (block_part 1 (statements_made block (Some (record { exit = exit; before = active_count m }))) begun) in
    end_locals (active_count m) (place exit (put 1 (Piece.Jump Op.ForLoop m.free (label_of valued)) (place foot inside)))

numeric_is : (name : Text) (first last : Expression) (by : ForStep) (block : Statements) (loop : Option Loop) (m : Maker) →
    numeric_at name first last by block m (suc (label_of (numeric_valued 1 name first last by m))) (suc (suc (label_of (numeric_valued 1 name first last by m))))
    ≡ statement_made (numeric_for name first last by block) 1 loop m
numeric_is name first last by block loop m =
    let valued = numeric_valued 1 name first last by m in
    let one = next_label valued in
    let two = next_label (new_label valued).after in
    ap₂ (numeric_at name first last by block m) (sym one) (sym (two ∙ ap suc one))

pub numeric_goes : {run : Run} (plain : HasPlainParts run.code) {outer : List (ℕ × ℕ)} (hidden : List Active) (name : Text) (first last : Expression) (by : ForStep) (block : Statements)
    (loop : Option Loop) (m : Maker) (ends : List ℕ) (from to foot variables_end : ℕ)
    (H : Head run m from (label_of (numeric_valued 1 name first last by m)) foot to variables_end (numeric_begun 1 name first last by m)) →
    Follows run nought nought m ends from → from < variables_end →
    Goes run ((suc (suc (label_of (numeric_valued 1 name first last by m))), to) ∷ []) (numeric_begun 1 name first last by m) (for_ends ends to H.variables variables_end) (suc from)
    (block_part 1 (statements_made block (for_loop_of (active_count m) (numeric_valued 1 name first last by m))) (numeric_begun 1 name first last by m))
    (for_ends ends to H.variables variables_end) variables_end →
    VariablesEnd run.code hidden (active_count m + 3) (captured_from (active_count m + 3) (numeric_begun 1 name first last by m)) variables_end foot →
    HasKind run.code hidden foot (StepKind.Foot true (suc from)) →
    to ≡ suc foot → LastTo to ends → Goes run outer m ends from (settle (statement_made (numeric_for name first last by block) 1 loop m)) ends to
numeric_goes {run} plain hidden name first last by block loop m ends from to foot variables_end H F less B V K t l =
    let label = label_of (numeric_valued 1 name first last by m) in
    let begun = numeric_begun 1 name first last by m in
    let n = active_count m in
    let e = settled F in
    let behind = before_foot run hidden (n + 3) _ variables_end foot V in
    let inside = end_block 1 (m.free + 3) (block_part 1 (statements_made block (for_loop_of n (numeric_valued 1 name first last by m))) begun) in
    let G = inner_goes plain hidden ends n m.free H (sym e) F refl less t l B V in
    let start = at_begun H (last_weaker (suc from) to ends (omega arith) l) nought nought refl F in
    let count : active_count inside ≡ m.free + 3 = sym (followed G start).count ∙ hidden_count ends to m.free (F.count ∙ sym e) in
    made_as (ap settle (numeric_is name first last by block loop m))
    (for_goes m begun inside (λ k. put 1 (Piece.Jump Op.ForLoop m.free label) k) ends n from label foot to variables_end H G
    (numeric_foot hidden (place (suc label) inside) label m.free foot from count K) t (omega arith) l F.count)

-- a loop over values whose foot and exit have these labels
abbrev generic_at : List Text → Expressions → Statements → Maker → (n base foot exit : ℕ) → Maker
generic_at names es block m n base foot exit =
    let valued = generic_valued 1 names es m in
    let variables = (declare names m).value in
    let begun = take_registers (length variables) (activate variables (used (base + 6) (place (label_of valued) (jump_to 1 foot (with_new_labels 3 valued))))) in
    let inside = end_block 1 (base + 3) (block_part 1 (statements_made block (Some (record { exit = exit; before = n }))) begun) in
    end_locals n (place exit (jump_to 1 (label_of valued) (put 1 (Piece.Abc Op.TForLoop base 0 (length names)) (place foot inside))))

generic_is : (names : List Text) (es : Expressions) (block : Statements) (loop : Option Loop) (m : Maker) →
    generic_at names es block m (active_count m) m.free (suc (label_of (generic_valued 1 names es m))) (suc (suc (label_of (generic_valued 1 names es m))))
    ≡ statement_made (generic_for names es block) 1 loop m
generic_is names es block loop m =
    let valued = generic_valued 1 names es m in
    let one = next_label valued in
    let two = next_label (new_label valued).after in
    let declared = (declare names m).after in
    ap₂ (generic_at names es block m (active_count m) m.free) (sym one) (sym (two ∙ ap suc one))
    ∙ ap₂ (λ n base. generic_at names es block m n base (label_of (new_label valued).after) (label_of (new_label (new_label valued).after).after))
    (ap (λ (active : List Active). length active) (sym (declared_active names m))) (sym (declared_free names m))

pub generic_goes : {run : Run} (plain : HasPlainParts run.code) {outer : List (ℕ × ℕ)} (hidden : List Active) (names : List Text) (es : Expressions) (block : Statements) (loop : Option Loop)
    (m : Maker) (ends : List ℕ) (from to foot variables_end : ℕ)
    (H : Head run m from (label_of (generic_valued 1 names es m)) foot to variables_end (generic_begun 1 names es m)) →
    Follows run nought nought m ends from → from < variables_end →
    Goes run ((suc (suc (label_of (generic_valued 1 names es m))), to) ∷ []) (generic_begun 1 names es m) (for_ends ends to H.variables variables_end) (suc from)
    (block_part 1 (statements_made block (for_loop_of (active_count m) (generic_valued 1 names es m))) (generic_begun 1 names es m)) (for_ends ends to H.variables variables_end) variables_end →
    VariablesEnd run.code hidden (active_count m + 3) (captured_from (active_count m + 3) (generic_begun 1 names es m)) variables_end foot → part_at run.code from ≡ Some (head_part es names) →
    HasKind run.code hidden foot (StepKind.Foot false (suc from)) → to ≡ suc foot → LastTo to ends → Goes run outer m ends from (settle (statement_made (generic_for names es block) 1 loop m)) ends to
generic_goes {run} plain hidden names es block loop m ends from to foot variables_end H F less B V p K t l =
    let label = label_of (generic_valued 1 names es m) in
    let begun = generic_begun 1 names es m in
    let n = active_count m in
    let e = settled F in
    let behind = before_foot run hidden (n + 3) _ variables_end foot V in
    let inside = end_block 1 (m.free + 3) (block_part 1 (statements_made block (for_loop_of n (generic_valued 1 names es m))) begun) in
    let G = inner_goes plain hidden ends n m.free H (sym e) F refl less t l B V in
    let start = at_begun H (last_weaker (suc from) to ends (omega arith) l) nought nought refl F in
    let count : active_count inside ≡ m.free + 3 = sym (followed G start).count ∙ hidden_count ends to m.free (F.count ∙ sym e) in
    made_as (ap settle (generic_is names es block loop m))
    (for_goes m begun inside (λ k. jump_to 1 label (put 1 (Piece.Abc Op.TForLoop m.free 0 (length names)) k)) ends n from label foot to variables_end H G
    (generic_foot hidden (place (suc label) inside) es names label m.free foot from count p K) t (omega arith) l F.count)
