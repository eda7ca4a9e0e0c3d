-- What is made of a list from a place on, by what stands there.
use Rattle.std.proofs.Common.{◌≡◌, ◌≢◌, ℕ, suc, ◌+◌, ◌-◌, ◌≤◌, ◌<◌, Bool, true, false, List, [], ◌∷◌, length, drop, get_or, refl, sym, ap, ◌∙◌, arith, drop-cons, length-drop}
use Rattle.std.specs.Prelude.{◌||◌, Option}
use Rattle.std.proofs.Math.Seq.{drop-length}
use Rattle.lua_num.specs.Bytes.{Text}
use Rattle.lua_tree.specs.View.{view_exp, view_arm}
use Rattle.lua_tree.specs.TreeLists.{expressions_of, branches_of}
use Rattle.lua_tree.specs.declared.tree.Exp.{Exp}
use Rattle.lua_tree.specs.declared.tree.Arm.{Arm, Arm'}
use Rattle.opcode.specs.declared.op.Op.{Op}
use Rattle.scheme.specs.Making.{Maker, declare}
use Rattle.scheme.specs.Expressions.{Want, next_reg}
use Rattle.scheme.specs.Lists.{all_multi}
use Rattle.scheme.specs.Statements.{Loop}
use Rattle.scheme.specs.Scheme.{coded, all_coded, branches_made, has_branch}
use Rattle.codegen.specs.Loops.{arm_made}

-- a list from a place on
pub from_place : {A : Type 0} (xs : List A) (i : ℕ) (x d : A) → i < length xs → x ≡ get_or xs i d → drop i xs ≡ x ∷ drop (i + 1) xs
from_place xs i x d h same =
    let next : suc i ≡ i + 1 = omega arith in
    drop-cons xs i d h ∙ ap (λ y. y ∷ drop (suc i) xs) (sym same) ∙ ap (λ n. x ∷ drop n xs) next

pub at_end : {A : Type 0} (xs : List A) (i : ℕ) → i + 1 ≡ length xs → drop (i + 1) xs ≡ []
at_end xs i e = ap (λ n. drop n xs) e ∙ drop-length xs

-- ---- lists of which the last expression gives several values

pub all_multi-end : (op : Op) (want : Want) (list : List Exp) (i : ℕ) (e d : Exp) (m : Maker) → i + 1 ≡ length list → e ≡ get_or list i d →
    all_multi op want (all_coded (expressions_of (drop i list))) m ≡ (coded (view_exp e)).multi op want m
all_multi-end op want list i e d m last same =
    ap (λ xs. all_multi op want (all_coded (expressions_of xs)) m) (from_place list i e d (omega (arith, last)) same ∙ ap (λ xs. e ∷ xs) (at_end list i last))

pub all_multi-past : (op : Op) (want : Want) (list : List Exp) (i : ℕ) (m : Maker) → i + 1 ≡ length list → all_multi op want (all_coded (expressions_of (drop (i + 1) list))) m ≡ m
all_multi-past op want list i m last = ap (λ xs. all_multi op want (all_coded (expressions_of xs)) m) (at_end list i last)

followed : (op : Op) (want : Want) (e : Exp) (rest : List Exp) (m : Maker) → 1 ≤ length rest →
    all_multi op want (all_coded (expressions_of (e ∷ rest))) m ≡ all_multi op want (all_coded (expressions_of rest)) (next_reg (coded (view_exp e)) m)
followed op want e [] m h = absurd (omega (arith, h))
followed op want e (other ∷ rest) m h = refl

pub all_multi-next : (op : Op) (want : Want) (list : List Exp) (i : ℕ) (e d : Exp) (m : Maker) → i < length list → i + 1 ≢ length list → e ≡ get_or list i d →
    all_multi op want (all_coded (expressions_of (drop i list))) m ≡ all_multi op want (all_coded (expressions_of (drop (i + 1) list))) (next_reg (coded (view_exp e)) m)
all_multi-next op want list i e d m h more same =
    ap (λ xs. all_multi op want (all_coded (expressions_of xs)) m) (from_place list i e d h same)
    ∙ followed op want e (drop (i + 1) list) m (omega (arith, length-drop (i + 1) list, h, more))

-- ---- arms

-- whether there is an arm
abbrev pub has_arm : List Arm → Bool
has_arm [] = false
has_arm (arm ∷ arms) = true

has_branch-arms : (arms : List Arm) → has_branch (branches_of arms) ≡ has_arm arms
has_branch-arms [] = refl
has_branch-arms (arm ∷ arms) = of_arm arm
  where
    of_arm : (arm : Arm) → has_branch (view_arm arm (branches_of arms)) ≡ true
    of_arm (Arm' l k block) = refl

one_more : (arm : Arm) (arms : List Arm) (line : ℕ) (loop : Option Loop) (end : ℕ) (more : Bool) (m : Maker) →
    branches_made (branches_of (arm ∷ arms)) line loop end more m ≡ branches_made (branches_of arms) line loop end more (arm_made line end (has_arm arms || more) arm loop m)
one_more arm arms line loop end more m = of_arm arm ∙ ap (λ b. branches_made (branches_of arms) line loop end more (arm_made line end (b || more) arm loop m)) (has_branch-arms arms)
  where
    of_arm : (arm : Arm) → branches_made (view_arm arm (branches_of arms)) line loop end more m
        ≡ branches_made (branches_of arms) line loop end more (arm_made line end (has_branch (branches_of arms) || more) arm loop m)
    of_arm (Arm' l k block) = refl

-- an arm that another follows, and the last one
pub branches_made-next : (arms : List Arm) (i : ℕ) (arm d : Arm) (line : ℕ) (loop : Option Loop) (end : ℕ) (more b : Bool) (m : Maker) →
    i < length arms → arm ≡ get_or arms i d → (i + 1 < length arms → b ≡ true) → (length arms ≤ i + 1 → b ≡ more) →
    branches_made (branches_of (drop i arms)) line loop end more m ≡ branches_made (branches_of (drop (i + 1) arms)) line loop end more (arm_made line end b arm loop m)
branches_made-next arms i arm d line loop end more b m h same follows last =
    ap (λ xs. branches_made (branches_of xs) line loop end more m) (from_place arms i arm d h same)
    ∙ one_more arm (drop (i + 1) arms) line loop end more m
    ∙ ap (λ b. branches_made (branches_of (drop (i + 1) arms)) line loop end more (arm_made line end b arm loop m)) (by_rest (drop (i + 1) arms) (length-drop (i + 1) arms))
  where
    by_rest : (rest : List Arm) → length rest ≡ length arms - (i + 1) → (has_arm rest || more) ≡ b
    by_rest [] e = sym (last (omega (arith, e)))
    by_rest (other ∷ rest) e = sym (follows (omega (arith, e)))

-- ---- names that are declared

pub declare-length : (names : List Text) (m : Maker) → length (declare names m).value ≡ length names
declare-length [] m = refl
declare-length (name ∷ names) m = ap suc (declare-length names _)

pub coded-length : (list : List Exp) → length (all_coded (expressions_of list)) ≡ length list
coded-length [] = refl
coded-length (e ∷ list) = ap suc (coded-length list)
