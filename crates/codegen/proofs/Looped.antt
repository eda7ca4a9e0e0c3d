-- Loops behind their values, and returned lists.
use Rattle.std.proofs.Common.{◌≡◌, ℕ, ◌+◌, ◌≤◌, List, [], ◌∷◌, length, refl, ap, ◌∙◌, arith}
use Rattle.std.specs.Prelude.{Option, Some}
use Rattle.lua_tree.specs.TreeLists.{expressions_of}
use Rattle.lua_tree.specs.declared.tree.Exp.{Exp}
use Rattle.opcode.specs.declared.op.Op.{Op}
use Rattle.scheme.specs.declared.making.Local.{Local}
use Rattle.scheme.specs.declared.making.Piece.{Piece}
use Rattle.scheme.specs.Making.{Maker, Part, put, new_label, place, jump_to, used, activate, end_locals}
use Rattle.scheme.specs.Statements.{Loop, turn, numeric_names, generic_names, return_list, return_part}
use Rattle.scheme.specs.Scheme.{all_coded}
use Rattle.codegen.specs.Loops.{numeric_made, generic_counted}

-- what is made with three new labels, behind active locals
abbrev labelled : (ℕ → ℕ → ℕ → Part) → List Local → Part
labelled from names m =
    let begin = new_label (activate names m) in
    let end = new_label begin.after in
    let exit = new_label end.after in
    from begin.value end.value exit.value exit.after

labels : (from : ℕ → ℕ → ℕ → Part) (names : List Local) (m a m1 m2 m3 : Maker) (begin end exit : ℕ) →
    a ≡ activate names m → begin ≡ (new_label a).value → m1 ≡ (new_label a).after → end ≡ (new_label m1).value → m2 ≡ (new_label m1).after →
    exit ≡ (new_label m2).value → m3 ≡ (new_label m2).after → from begin end exit m3 ≡ labelled from names m
labels from names m a m1 m2 m3 begin end exit aE beginE m1E endE m2E exitE m3E =
    ap (from begin end exit) m3E ∙ ap (λ x. from begin end x (new_label m2).after) exitE
    ∙ ap (λ x. from begin end (new_label x).value (new_label x).after) m2E
    ∙ ap (λ x. let exit = new_label (new_label m1).after in from begin x exit.value exit.after) endE
    ∙ ap (λ x. let end = new_label x in let exit = new_label end.after in from begin end.value exit.value exit.after) m1E
    ∙ ap (λ x. let end = new_label (new_label a).after in let exit = new_label end.after in from x end.value exit.value exit.after) beginE
    ∙ ap (λ x. let begin = new_label x in let end = new_label begin.after in let exit = new_label end.after in from begin.value end.value exit.value exit.after) aE

abbrev pub body_at : (before : ℕ) → (Option Loop → Part) → (exit : ℕ) → Part
body_at before body exit = body (Some (record { exit = exit; before = before }))

abbrev numeric_from : (line base before : ℕ) → List Local → (Option Loop → Part) → (begin end exit : ℕ) → Part
numeric_from line base before variables body begin end exit m =
    end_locals before (place exit (put line (Piece.Jump Op.ForLoop base begin) (place end (turn line base variables (body_at before body exit) (place begin (put line (Piece.Jump Op.ForPrep base end) m))))))

-- the steps of a numeric `for`
pub numeric_steps : (line base before : ℕ) (variables : List Local) (body : Option Loop → Part) (m a m1 m2 m3 m4 m5 m6 m7 m8 m9 : Maker) (begin end exit : ℕ) →
    a ≡ activate numeric_names m → begin ≡ (new_label a).value → m1 ≡ (new_label a).after → end ≡ (new_label m1).value → m2 ≡ (new_label m1).after →
    exit ≡ (new_label m2).value → m3 ≡ (new_label m2).after → m4 ≡ put line (Piece.Jump Op.ForPrep base end) m3 → m5 ≡ place begin m4 →
    m6 ≡ turn line base variables (body_at before body exit) m5 → m7 ≡ place end m6 → m8 ≡ put line (Piece.Jump Op.ForLoop base begin) m7 → m9 ≡ place exit m8 →
    end_locals before m9 ≡ numeric_made line base before variables body m
numeric_steps line base before variables body m a m1 m2 m3 m4 m5 m6 m7 m8 m9 begin end exit aE beginE m1E endE m2E exitE m3E m4E m5E m6E m7E m8E m9E =
    ap (end_locals before) (m9E ∙ ap (place exit) (m8E ∙ ap (put line (Piece.Jump Op.ForLoop base begin)) (m7E ∙ ap (place end)
    (m6E ∙ ap (turn line base variables (body_at before body exit)) (m5E ∙ ap (place begin) m4E)))))
    ∙ labels (numeric_from line base before variables body) numeric_names m a m1 m2 m3 begin end exit aE beginE m1E endE m2E exitE m3E

abbrev generic_from : (line base before : ℕ) → List Local → (count : ℕ) → (Option Loop → Part) → (begin end exit : ℕ) → Part
generic_from line base before variables count body begin end exit m =
    end_locals before (place exit (jump_to line begin (put line (Piece.Abc Op.TForLoop base 0 count) (place end (turn line base variables (body_at before body exit) (used (base + 6) (place begin (jump_to line end m))))))))

-- the steps of any other `for`
pub generic_steps : (line base before : ℕ) (variables : List Local) (count : ℕ) (body : Option Loop → Part) (m a m1 m2 m3 m4 m5 m6 m7 m8 m9 m10 m11 : Maker) (begin end exit six : ℕ) →
    a ≡ activate generic_names m → begin ≡ (new_label a).value → m1 ≡ (new_label a).after → end ≡ (new_label m1).value → m2 ≡ (new_label m1).after →
    exit ≡ (new_label m2).value → m3 ≡ (new_label m2).after → m4 ≡ jump_to line end m3 → m5 ≡ place begin m4 → six ≡ base + 6 → m6 ≡ used six m5 →
    m7 ≡ turn line base variables (body_at before body exit) m6 → m8 ≡ place end m7 → m9 ≡ put line (Piece.Abc Op.TForLoop base 0 count) m8 → m10 ≡ jump_to line begin m9 → m11 ≡ place exit m10 →
    end_locals before m11 ≡ generic_counted line base before variables count body m
generic_steps line base before variables count body m a m1 m2 m3 m4 m5 m6 m7 m8 m9 m10 m11 begin end exit six aE beginE m1E endE m2E exitE m3E m4E m5E sixE m6E m7E m8E m9E m10E m11E =
    ap (end_locals before) (m11E ∙ ap (place exit) (m10E ∙ ap (jump_to line begin) (m9E ∙ ap (put line (Piece.Abc Op.TForLoop base 0 count)) (m8E ∙ ap (place end)
    (m7E ∙ ap (turn line base variables (body_at before body exit)) (m6E ∙ ap (λ n. used n m5) sixE ∙ ap (used (base + 6)) (m5E ∙ ap (place begin) m4E)))))))
    ∙ labels (generic_from line base before variables count body) generic_names m a m1 m2 m3 begin end exit aE beginE m1E endE m2E exitE m3E

-- several values are returned as a list
pub return_part-list : (line : ℕ) (list : List Exp) (m : Maker) → 2 ≤ length list → return_list line (all_coded (expressions_of list)) m ≡ return_part line (all_coded (expressions_of list)) m
return_part-list line [] m h = absurd (omega (arith, h))
return_part-list line (e ∷ []) m h = absurd (omega (arith, h))
return_part-list line (e ∷ other ∷ list) m h = refl
