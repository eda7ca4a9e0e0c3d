-- What a step makes of the list of locals: those that it brings into scope are listed behind the others, and no other step changes the list.
use Rattle.std.proofs.Common.{◌≡◌, ℕ, suc, ◌+◌, ◌-◌, Bool, true, false, List, [], ◌∷◌, ◌++◌, length, set, refl, sym, ap, ap₂, ◌∙◌, arith, subst}
use Rattle.std.specs.Prelude.{None, Some, replicate}
use Rattle.lua_num.specs.Bytes.{Text}
use Rattle.lua_tree.specs.Syntax.{Statement, assignment, call_statement, function_statement, local_function, local_statement, FunctionBody, Expressions, no_expressions, expression}
use Rattle.opcode.specs.declared.op.Op.{Op}
use Rattle.proto.specs.declared.parts.LocVar.{LocVar}
use Rattle.recover_expr.specs.Drafts.{Part, statement_part, values_part, condition_part, head_part}
use Rattle.recover_expr.specs.Placing.{Steps}
use Rattle.recover_expr.specs.declared.steps.StepKind.{StepKind}
use Rattle.scheme.specs.Functions.{closure}
use Rattle.scheme.specs.Lists.{adjust}
use Rattle.scheme.specs.Making as making
use Rattle.scheme.specs.Making.{Maker, declare, activate, put, jump_to, take_registers, used, entry_at, active_count}
use Rattle.scheme.specs.Scheme.{all_coded, inner, statement_made}
use Rattle.scheme.specs.Statements.{numeric_names, generic_names}
use Rattle.scheme.specs.declared.making.Local.{Local}
use Rattle.scheme.specs.declared.making.Active.{Active}
use Rattle.scheme.specs.declared.making.Piece.{Piece}
use Rattle.same_flow.specs.Listed.{entries_of, texts_of, entries_by}
use Rattle.same_flow.specs.Performed.{counted_values, kind_made, ends_of}
use Rattle.same_flow.specs.Told.{IsActPart, IsDeclarationPart, PartFits}
use Rattle.same_flow.proofs.KeptActive.{Keeps, active_kept, locals_kept, kept, all_kept, next_kept, adjust_kept, closure_kept, assignment_kept, function_statement_kept, return_kept}
use Rattle.same_flow.proofs.Followed.{append_nothing, append_again, length_both}
use Rattle.same_flow.proofs.HeadsFollowed.{activated_count, activated_items}
use Rattle.same_flow.proofs.ListedLocals.{ComesTo, comes_one_more, comes_activated}
use Rattle.same_flow.proofs.RunKeeps.{declared_active, counted_kept}

-- ---- declarations and values

pub declared_locals : (texts : List Text) (m : Maker) → (declare texts m).after.locals ≡ m.locals
declared_locals [] m = refl
declared_locals (text ∷ texts) m = declared_locals texts _

pub declared_texts : (texts : List Text) (m : Maker) → texts_of (declare texts m).value ≡ texts
declared_texts [] m = refl
declared_texts (text ∷ texts) m = ap (λ (ts : List Text). text ∷ ts) (declared_texts texts _)

pub counted_locals : (es : Expressions) (m : Maker) → (counted_values es m).locals ≡ m.locals
counted_locals (expression first (expression last no_expressions)) m = locals_kept (next_kept (kept last)) _ ∙ locals_kept (next_kept (kept first)) m
counted_locals (expression first (expression last (expression by rest))) m = locals_kept (next_kept (kept by)) _ ∙ locals_kept (next_kept (kept last)) _ ∙ locals_kept (next_kept (kept first)) m
counted_locals no_expressions m = refl
counted_locals (expression first no_expressions) m = refl

-- the last entry starts here
start_last : (here : ℕ) (xs : List LocVar) (x : LocVar) →
    set (xs ++ x ∷ []) (length xs) (record { name = (entry_at (xs ++ x ∷ []) (length xs)).name; start = here; end = here }) ≡ xs ++ record { name = x.name; start = here; end = here } ∷ []
start_last here [] x = refl
start_last here (y ∷ xs) x = ap (λ (l : List LocVar). y ∷ l) (start_last here xs x)

module _ (pcs : ℕ → ℕ) where
  comes_same : (m made : Maker) {ends : List ℕ} {list : List LocVar} → made.active ≡ m.active → made.locals ≡ m.locals → ComesTo pcs m.active ends m.locals list →
      ComesTo pcs made.active ends made.locals list
  comes_same m made {ends} {list} a l c =
      subst (λ (active : List Active). ComesTo pcs active ends made.locals list) (sym a) (subst (λ (locals : List LocVar). ComesTo pcs m.active ends locals list) (sym l) c)

  -- no local comes into scope
  comes_unchanged : (m made : Maker) {ends : List ℕ} {list : List LocVar} → ComesTo pcs m.active ends m.locals list → made.active ≡ m.active → made.locals ≡ m.locals →
      ComesTo pcs made.active (ends ++ []) made.locals (list ++ [])
  comes_unchanged m made {ends} {list} c a l =
      subst (λ (es : List ℕ). ComesTo pcs made.active es made.locals (list ++ [])) (sym (append_nothing ends))
      (subst (λ (entries : List LocVar). ComesTo pcs made.active ends made.locals entries) (sym (append_nothing list)) (comes_same m made a l c))

  comes_kept : {part : making.Part} → Keeps part → (m : Maker) {ends : List ℕ} {list : List LocVar} → ComesTo pcs m.active ends m.locals list →
      ComesTo pcs (part m).active (ends ++ []) (part m).locals (list ++ [])
  comes_kept {part} keeps m c = comes_unchanged m (part m) c (active_kept keeps m) (locals_kept keeps m)

  -- ---- local statements

  comes_local_statement : (names : List Text) (es : Expressions) (m : Maker) (ends : List ℕ) (list : List LocVar) (start end : ℕ) →
      start ≡ length (statement_made (local_statement names es) 1 None m).items →
      ComesTo pcs m.active ends m.locals list →
      ComesTo pcs (statement_made (local_statement names es) 1 None m).active
      (ends ++ replicate (active_count (statement_made (local_statement names es) 1 None m) - active_count m) end)
      (statement_made (local_statement names es) 1 None m).locals (list ++ entries_of start (pcs end) names)
  comes_local_statement names es m ends list start end h c =
      let declared = (declare names m).after in
      let locals = (declare names m).value in
      let valued = adjust 1 (all_coded es) (length names) declared in
      let made = activate locals valued in
      let keeps = adjust_kept 1 (all_coded es) (all_kept es) (length names) in
      let same : valued.active ≡ m.active = active_kept keeps declared ∙ declared_active names m in
      let all = comes_activated pcs locals valued ends list end (comes_same m valued same (locals_kept keeps declared ∙ declared_locals names m) c) in
      let grown = activated_count locals valued in
      let was : active_count valued ≡ active_count m = ap (λ (l : List Active). length l) same in
      let count : length locals ≡ active_count made - active_count m = omega arith in
      let place : length valued.items ≡ start = ap (λ (l : List _). length l) (sym (activated_items locals valued)) ∙ sym h in
      subst (λ n. ComesTo pcs made.active (ends ++ replicate n end) made.locals (list ++ entries_of start (pcs end) names)) count
      (subst (λ (l : List LocVar). ComesTo pcs made.active (ends ++ replicate (length locals) end) made.locals (list ++ l))
      (ap₂ (λ n (texts : List Text). entries_of n (pcs end) texts) place (declared_texts names m)) all)

  -- a local function counts as active behind its closure
  comes_local_function : (text : Text) (body : FunctionBody) (m : Maker) (ends : List ℕ) (list : List LocVar) (start end : ℕ) →
      start ≡ length (statement_made (local_function text body) 1 None m).items →
      ComesTo pcs m.active ends m.locals list →
      ComesTo pcs (statement_made (local_function text body) 1 None m).active
      (ends ++ replicate (active_count (statement_made (local_function text body) 1 None m) - active_count m) end)
      (statement_made (local_function text body) 1 None m).locals (list ++ entries_of start (pcs end) (text ∷ []))
  comes_local_function text body m ends list start end h c =
      let taken = take_registers 1 (declare (text ∷ []) m).after in
      let first = activate (declare (text ∷ []) m).value taken in
      let closed = closure 1 (inner body false) m.free first in
      let made = statement_made (local_function text body) 1 None m in
      let here = length closed.items in
      let listed = length m.locals in
      let local : Local = record { name = text; declaration = Some m.ahead.declarations; captured = _ } in
      let entry : LocVar = record { name = text; start = length m.items; end = length m.items } in
      let keeps = closure_kept 1 (inner body false) m.free in
      let active : made.active ≡ m.active ++ record { local = local; listed = listed } ∷ [] = active_kept keeps first in
      let locals : made.locals ≡ m.locals ++ record { name = text; start = here; end = here } ∷ [] =
      ap (λ (l : List LocVar). set l listed (record { name = (entry_at l listed).name; start = here; end = here })) (locals_kept keeps first) ∙ start_last here m.locals entry in
      let one = comes_one_more pcs local here here end c in
      let grown = ap (λ (l : List Active). length l) active ∙ length_both m.active (record { local = local; listed = listed } ∷ []) in
      let count : 1 ≡ active_count made - active_count m = omega (arith, grown) in
      subst (λ n. ComesTo pcs made.active (ends ++ replicate n end) made.locals (list ++ entries_of start (pcs end) (text ∷ []))) count
      (subst (λ n. ComesTo pcs made.active (ends ++ end ∷ []) made.locals (list ++ entries_of n (pcs end) (text ∷ []))) (sym h)
      (subst (λ (l : List LocVar). ComesTo pcs made.active (ends ++ end ∷ []) l (list ++ entries_of here (pcs end) (text ∷ []))) (sym locals)
      (subst (λ (a : List Active). ComesTo pcs a (ends ++ end ∷ []) (m.locals ++ record { name = text; start = here; end = here } ∷ []) (list ++ entries_of here (pcs end) (text ∷ []))) (sym active) one)))

  -- ---- heads of loops

  -- three hidden locals, a word, and the variables
  comes_head : (hidden variables : List Local) (names : List Text) (m valued next : Maker) (ends : List ℕ) (list : List LocVar) (start end variables_end : ℕ) → length hidden ≡ 3 →
      texts_of variables ≡ names →
      valued.active ≡ m.active → valued.locals ≡ m.locals → next.active ≡ (activate hidden valued).active → next.locals ≡ (activate hidden valued).locals →
      length next.items ≡ length (activate hidden valued).items + 1 → start ≡ length (activate variables next).items → ComesTo pcs m.active ends m.locals list →
      ComesTo pcs (activate variables next).active
      (ends ++ (replicate 3 end ++ replicate ((active_count (activate variables next) - active_count m) - 3) variables_end)) (activate variables next).locals
      (list ++ (entries_of (start - 1) (pcs end) (texts_of hidden) ++ entries_of start (pcs variables_end) names))
  comes_head hidden variables names m valued next ends list start end variables_end three texts active locals behind_active behind_locals word h c =
      let made = activate variables next in
      let here = length valued.items in
      let first = entries_of here (pcs end) (texts_of hidden) in
      let one = comes_same (activate hidden valued) next behind_active behind_locals (comes_activated pcs hidden valued ends list end (comes_same m valued active locals c)) in
      let two = comes_activated pcs variables next (ends ++ replicate (length hidden) end) (list ++ first) variables_end one in
      let grown = activated_count variables next in
      let also = activated_count hidden valued in
      let was : active_count valued ≡ active_count m = ap (λ (l : List Active). length l) active in
      let is : active_count next ≡ active_count (activate hidden valued) = ap (λ (l : List Active). length l) behind_active in
      let count : length variables ≡ (active_count made - active_count m) - 3 = omega arith in
      let second : length next.items ≡ start = ap (λ (l : List _). length l) (sym (activated_items variables next)) ∙ sym h in
      let items : length (activate hidden valued).items ≡ here = ap (λ (l : List _). length l) (activated_items hidden valued) in
      let place : here ≡ start - 1 = omega arith in
      subst (λ (es : List ℕ). ComesTo pcs made.active es made.locals (list ++ (entries_of (start - 1) (pcs end) (texts_of hidden) ++ entries_of start (pcs variables_end) names)))
      (append_again ends (replicate (length hidden) end) (replicate (length variables) variables_end) ∙ ap₂ (λ n k. ends ++ (replicate n end ++ replicate k variables_end)) three count)
      (subst (λ (l : List LocVar). ComesTo pcs made.active ((ends ++ replicate (length hidden) end) ++ replicate (length variables) variables_end) made.locals l)
      (append_again list first (entries_of (length next.items) (pcs variables_end) (texts_of variables))
      ∙ ap₂ (λ (xs ys : List LocVar). list ++ (xs ++ ys)) (ap (λ n. entries_of n (pcs end) (texts_of hidden)) place)
      (ap₂ (λ n (ts : List Text). entries_of n (pcs variables_end) ts) second texts)) two)

  -- ---- all kinds of steps

  abbrev pub Lists : Steps → (at : ℕ) → StepKind → Part → Type 0
  Lists code at kind part =
      (m : Maker) (ends : List ℕ) (list : List LocVar) → pcs (suc at) ≡ length (kind_made code kind part m).items → ComesTo pcs m.active ends m.locals list →
      ComesTo pcs (kind_made code kind part m).active (ends ++ ends_of kind (active_count (kind_made code kind part m) - active_count m)) (kind_made code kind part m).locals
      (list ++ entries_by pcs at kind part)

  module _ (code : Steps) (at : ℕ) where
    act_lists : (s : Statement) → IsActPart s → Lists code at StepKind.Act (statement_part s)
    act_lists (assignment targets es) fits m ends list h c = comes_kept (assignment_kept 1 targets es) m c
    act_lists (call_statement e) fits m ends list h c = comes_kept ((kept e).multi Op.Call (Some 0)) m c
    act_lists (function_statement path method body) fits m ends list h c = comes_kept (function_statement_kept 1 path method body) m c
    act_lists s fits m ends list h c = absurd fits

    declaration_lists : (s : Statement) → IsDeclarationPart s → (end : ℕ) (captured : Bool) → Lists code at (StepKind.Declaration end captured) (statement_part s)
    declaration_lists (local_statement names es) fits end captured m ends list h c = comes_local_statement names es m ends list (pcs (suc at)) end h c
    declaration_lists (local_function text body) fits end captured m ends list h c = comes_local_function text body m ends list (pcs (suc at)) end h c
    declaration_lists s fits end captured m ends list h c = absurd fits

    head_lists : (numeric : Bool) (foot end variables_end : ℕ) (captured : Bool) (part : Part) → PartFits (StepKind.Head numeric foot end variables_end captured) part →
        Lists code at (StepKind.Head numeric foot end variables_end captured) part
    head_lists true foot end variables_end captured (head_part values names) fits m ends list h c =
        let declared = (declare names m).after in
        let valued = counted_values values declared in
        let next = put 1 (Piece.Jump Op.ForPrep declared.free foot) (activate numeric_names valued) in
        comes_head numeric_names (declare names m).value names m valued next ends list (pcs (suc at)) end variables_end refl (declared_texts names m)
        (counted_kept values declared ∙ declared_active names m) (counted_locals values declared ∙ declared_locals names m) refl refl (length_both (activate numeric_names valued).items _) h c
    head_lists false foot end variables_end captured (head_part values names) fits m ends list h c =
        let declared = (declare names m).after in
        let valued = adjust 1 (all_coded values) 3 declared in
        let keeps = adjust_kept 1 (all_coded values) (all_kept values) 3 in
        let next = used (declared.free + 6) (jump_to 1 foot (activate generic_names valued)) in
        comes_head generic_names (declare names m).value names m valued next ends list (pcs (suc at)) end variables_end refl (declared_texts names m)
        (active_kept keeps declared ∙ declared_active names m) (locals_kept keeps declared ∙ declared_locals names m) refl refl (length_both (activate generic_names valued).items _) h c
    head_lists true foot end variables_end captured part fits m ends list h c = absurd fits
    head_lists false foot end variables_end captured part fits m ends list h c = absurd fits

    pub step_lists : (kind : StepKind) (part : Part) → PartFits kind part → Lists code at kind part
    step_lists StepKind.Act (statement_part s) fits m ends list h c = act_lists s fits m ends list h c
    step_lists (StepKind.Declaration end captured) (statement_part s) fits m ends list h c = declaration_lists s fits end captured m ends list h c
    step_lists StepKind.Return (values_part es) fits m ends list h c = comes_kept (return_kept 1 (all_coded es) (all_kept es)) m c
    step_lists (StepKind.Test when target levels) (condition_part e) fits m ends list h c = comes_kept ((kept e).jump_if when target) m c
    step_lists (StepKind.Head numeric foot end variables_end captured) part fits m ends list h c = head_lists numeric foot end variables_end captured part fits m ends list h c
    step_lists (StepKind.Jump target) part fits m ends list h c = comes_unchanged m (kind_made code (StepKind.Jump target) part m) c refl refl
    step_lists (StepKind.Close register declared) part fits m ends list h c = comes_unchanged m (kind_made code (StepKind.Close register declared) part m) c refl refl
    step_lists (StepKind.Foot true target) part fits m ends list h c = comes_unchanged m (kind_made code (StepKind.Foot true target) part m) c refl refl
    step_lists (StepKind.Foot false target) part fits m ends list h c = comes_unchanged m (kind_made code (StepKind.Foot false target) part m) c refl refl
    step_lists kind part fits m ends list h c = absurd fits
