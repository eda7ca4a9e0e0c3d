-- Lists by what is last in them.
use Rattle.std.proofs.Common.{◌≡◌, ◌+◌, ◌-◌, ◌≤◌, List, [], ◌∷◌, ◌++◌, length, take, get_or, sym, ap, ◌∙◌, arith}
use Rattle.std.proofs.lemmas.List.{take_more, take_all}
use Rattle.lua_tree.specs.View.{view_exp}
use Rattle.lua_tree.specs.TreeLists.{expressions_of}
use Rattle.lua_tree.specs.declared.tree.Exp.{Exp}
use Rattle.scheme.specs.Expressions.{is_multiple}
use Rattle.scheme.specs.Lists.{ends_open}
use Rattle.scheme.specs.Scheme.{all_coded}
use Rattle.codegen.proofs.Parts.{coded_e}

-- a list is its front and its last element
pub split_last : {A : Type 0} (xs : List A) (d : A) → 1 ≤ length xs → take (length xs - 1) xs ++ get_or xs (length xs - 1) d ∷ [] ≡ xs
split_last xs d h =
    let more = take_more xs (length xs - 1) d (omega (arith, h)) in
    let whole : length xs - 1 + 1 ≡ length xs = omega (arith, h) in
    sym more ∙ ap (λ n. take n xs) whole ∙ take_all (length xs) xs (omega arith)

-- the last expression of a list decides whether it is open
ends_open-last : (front : List Exp) (e : Exp) → ends_open (all_coded (expressions_of (front ++ e ∷ []))) ≡ is_multiple (view_exp e)
ends_open-last [] e = ap is_multiple (coded_e (view_exp e))
ends_open-last (one ∷ []) e = ap is_multiple (coded_e (view_exp e))
ends_open-last (one ∷ two ∷ front) e = ends_open-last (two ∷ front) e

pub ends_open-by_last : (list : List Exp) (e : Exp) → 1 ≤ length list → e ≡ get_or list (length list - 1) e → ends_open (all_coded (expressions_of list)) ≡ is_multiple (view_exp e)
ends_open-by_last list e h same =
    sym (ap (λ xs. ends_open (all_coded (expressions_of xs))) (ap (λ x. take (length list - 1) list ++ x ∷ []) same ∙ split_last list e h))
    ∙ ends_open-last (take (length list - 1) list) e
