-- Turns of the loops over a tree's lists.
use Rattle.std.proofs.Common.{◌≡◌, refl, sym, ap, ◌∙◌, ℕ, suc, ◌+◌, ◌<◌, ◌≤◌, List, ◌∷◌, ◌++◌, length, drop, get_or, append_assoc, arith, Ok, Err}
use Rattle.std.proofs.Math.Seq.{drop-cons}
use Rattle.std.proofs.lemmas.List.{drop_all}
use Rattle.lua_tree.specs.Outline.{Part, both, within, stay, statements_part, statement_part, branches_part, expressions_part, expression_part, fields_part}
use Rattle.lua_tree.specs.View.{view_block, view_exp, view_statement, view_item, view_arm}
use Rattle.lua_tree.specs.TreeLists.{statements_of, branches_of, expressions_of, fields_of}
use Rattle.lua_tree.specs.declared.tree.Exp.{Exp}
use Rattle.lua_tree.specs.declared.tree.Stat.{Stat}
use Rattle.lua_tree.specs.declared.tree.Arm.{Arm, Arm', out-Arm}
use Rattle.lua_tree.specs.Syntax.{Branches, branch, Fields}
use Rattle.lua_tree.specs.declared.tree.Item.{Item}
use Rattle.lua_tree.specs.declared.tree.ItemKind.{ItemKind, Positional', Named', Keyed'}
use Rattle.lua_tree.specs.declared.tree.Separator.{Separator}
use Rattle.scopes.specs.declared.fault.ScopeFault.{ScopeFault}
use Rattle.scopes.specs.declared.resolver.Resolver.{Resolver}
use Rattle.scopes.specs.Standing.{Sound, Goes, Extends, Keeps, item_part}
use Rattle.scopes.proofs.Goings.{Passes, goes_as, goes_both, goes_first, goes_nothing}

-- what is left of a list, by its first item
left_of : {A : Type 0} (items : List A) (i : ℕ) (item : A) → i < length items → item ≡ get_or items i item → drop i items ≡ item ∷ drop (i + 1) items
left_of items i item below is =
    let next : suc i ≡ i + 1 = omega arith in
    drop-cons items i item below ∙ ap (λ first. first ∷ drop (suc i) items) (sym is) ∙ ap (λ n. item ∷ drop n items) next

-- statements
statements_left : (items : List Stat) (i : ℕ) (item : Stat) → i < length items → item ≡ get_or items i item →
    statements_part (statements_of (drop i items)) ≡ both (statement_part item.line (view_statement item.kind)) (statements_part (statements_of (drop (i + 1) items)))
statements_left items i item below is = ap (λ left. statements_part (statements_of left)) (left_of items i item below is)

pub statements_turn : {whole : Part} {a b c : Resolver} (items : List Stat) (i : ℕ) (item : Stat) → i < length items → item ≡ get_or items i item →
    Passes whole (statements_part (statements_of (drop i items))) a b → Goes (statement_part item.line (view_statement item.kind)) b c (Ok tt) → Sound c →
    Passes whole (statements_part (statements_of (drop (i + 1) items))) a c
statements_turn items i item below is p g sound = record { passes = λ end result h. p.passes end result (goes_as (statements_left items i item below is) (goes_both g sound h)) }

pub statements_break : {whole : Part} {a b c : Resolver} {fault : ScopeFault} (items : List Stat) (i : ℕ) (item : Stat) → i < length items → item ≡ get_or items i item →
    Passes whole (statements_part (statements_of (drop i items))) a b → Goes (statement_part item.line (view_statement item.kind)) b c (Err fault) → Goes whole a c (Err fault)
statements_break {fault} items i item below is p g = p.passes _ (Err fault) (goes_as (statements_left items i item below is) (goes_first (statements_part (statements_of (drop (i + 1) items))) g))

pub statements_end : {whole : Part} {a b : Resolver} (items : List Stat) (i : ℕ) → length items ≤ i → Passes whole (statements_part (statements_of (drop i items))) a b → Goes whole a b (Ok tt)
statements_end items i done p = p.passes _ (Ok tt) (goes_as (ap (λ left. statements_part (statements_of left)) (drop_all i items done)) goes_nothing)

-- expressions
expressions_left : (items : List Exp) (i : ℕ) (item : Exp) → i < length items → item ≡ get_or items i item →
    expressions_part (expressions_of (drop i items)) ≡ both (expression_part (view_exp item)) (expressions_part (expressions_of (drop (i + 1) items)))
expressions_left items i item below is = ap (λ left. expressions_part (expressions_of left)) (left_of items i item below is)

pub expressions_turn : {whole : Part} {a b c : Resolver} (items : List Exp) (i : ℕ) (item : Exp) → i < length items → item ≡ get_or items i item →
    Passes whole (expressions_part (expressions_of (drop i items))) a b → Goes (expression_part (view_exp item)) b c (Ok tt) → Sound c →
    Passes whole (expressions_part (expressions_of (drop (i + 1) items))) a c
expressions_turn items i item below is p g sound = record { passes = λ end result h. p.passes end result (goes_as (expressions_left items i item below is) (goes_both g sound h)) }

pub expressions_break : {whole : Part} {a b c : Resolver} {fault : ScopeFault} (items : List Exp) (i : ℕ) (item : Exp) → i < length items → item ≡ get_or items i item →
    Passes whole (expressions_part (expressions_of (drop i items))) a b → Goes (expression_part (view_exp item)) b c (Err fault) → Goes whole a c (Err fault)
expressions_break {fault} items i item below is p g = p.passes _ (Err fault) (goes_as (expressions_left items i item below is) (goes_first (expressions_part (expressions_of (drop (i + 1) items))) g))

pub expressions_end : {whole : Part} {a b : Resolver} (items : List Exp) (i : ℕ) → length items ≤ i → Passes whole (expressions_part (expressions_of (drop i items))) a b → Goes whole a b (Ok tt)
expressions_end items i done p = p.passes _ (Ok tt) (goes_as (ap (λ left. expressions_part (expressions_of left)) (drop_all i items done)) goes_nothing)

-- the arms of an `if`
view_arm_parts : (arm : Arm) (rest : Branches) → view_arm arm rest ≡ branch (view_exp (out-Arm arm).cond) (view_block (out-Arm arm).body) rest
unfolding out-Arm denote.Hole.Carrier.out
view_arm_parts (Arm' l k b) rest = refl

branches_left : (items : List Arm) (i : ℕ) (item : Arm) → i < length items → item ≡ get_or items i item →
    branches_part (branches_of (drop i items)) ≡ both (expression_part (view_exp (out-Arm item).cond)) (both (within stay (statements_part (view_block (out-Arm item).body))) (branches_part (branches_of (drop (i + 1) items))))
branches_left items i item below is =
    ap (λ left. branches_part (branches_of left)) (left_of items i item below is) ∙ ap branches_part (view_arm_parts item (branches_of (drop (i + 1) items)))

pub branches_turn : {whole : Part} {a b c d : Resolver} (items : List Arm) (i : ℕ) (item : Arm) → i < length items → item ≡ get_or items i item →
    Passes whole (branches_part (branches_of (drop i items))) a b → Goes (expression_part (view_exp (out-Arm item).cond)) b c (Ok tt) → Sound c → Goes (within stay (statements_part (view_block (out-Arm item).body))) c d (Ok tt) → Sound d →
    Passes whole (branches_part (branches_of (drop (i + 1) items))) a d
branches_turn items i item below is p g sound_c h sound_d = record { passes = λ end result k. p.passes end result (goes_as (branches_left items i item below is) (goes_both g sound_c (goes_both h sound_d k))) }

pub branches_break : {whole : Part} {a b c : Resolver} {fault : ScopeFault} (items : List Arm) (i : ℕ) (item : Arm) → i < length items → item ≡ get_or items i item →
    Passes whole (branches_part (branches_of (drop i items))) a b → Goes (expression_part (view_exp (out-Arm item).cond)) b c (Err fault) → Goes whole a c (Err fault)
branches_break {fault} items i item below is p g = p.passes _ (Err fault) (goes_as (branches_left items i item below is) (goes_first (both (within stay (statements_part (view_block (out-Arm item).body))) (branches_part (branches_of (drop (i + 1) items)))) g))

pub branches_broken : {whole : Part} {a b c d : Resolver} {fault : ScopeFault} (items : List Arm) (i : ℕ) (item : Arm) → i < length items → item ≡ get_or items i item →
    Passes whole (branches_part (branches_of (drop i items))) a b → Goes (expression_part (view_exp (out-Arm item).cond)) b c (Ok tt) → Sound c → Goes (within stay (statements_part (view_block (out-Arm item).body))) c d (Err fault) → Goes whole a d (Err fault)
branches_broken {fault} items i item below is p g sound h = p.passes _ (Err fault) (goes_as (branches_left items i item below is) (goes_both g sound (goes_first (branches_part (branches_of (drop (i + 1) items))) h)))

pub branches_end : {whole : Part} {a b : Resolver} (items : List Arm) (i : ℕ) → length items ≤ i → Passes whole (branches_part (branches_of (drop i items))) a b → Goes whole a b (Ok tt)
branches_end items i done p = p.passes _ (Ok tt) (goes_as (ap (λ left. branches_part (branches_of left)) (drop_all i items done)) goes_nothing)

-- the items of a constructor
fields_item : (kind : ItemKind) (separator : Separator) (rest : Fields) → fields_part (view_item kind separator rest) ≡ both (item_part kind) (fields_part rest)
fields_item (Positional' line kind) separator rest = refl
fields_item (Named' name line kind) separator rest = refl
fields_item (Keyed' line kind line' kind') separator rest = refl

fields_left : (items : List Item) (i : ℕ) (item : Item) → i < length items → item ≡ get_or items i item →
    fields_part (fields_of (drop i items)) ≡ both (item_part item.kind) (fields_part (fields_of (drop (i + 1) items)))
fields_left items i item below is = ap (λ left. fields_part (fields_of left)) (left_of items i item below is) ∙ fields_item item.kind item.sep (fields_of (drop (i + 1) items))

pub fields_turn : {whole : Part} {a b c : Resolver} (items : List Item) (i : ℕ) (item : Item) → i < length items → item ≡ get_or items i item →
    Passes whole (fields_part (fields_of (drop i items))) a b → Goes (item_part item.kind) b c (Ok tt) → Sound c →
    Passes whole (fields_part (fields_of (drop (i + 1) items))) a c
fields_turn items i item below is p g sound = record { passes = λ end result h. p.passes end result (goes_as (fields_left items i item below is) (goes_both g sound h)) }

pub fields_break : {whole : Part} {a b c : Resolver} {fault : ScopeFault} (items : List Item) (i : ℕ) (item : Item) → i < length items → item ≡ get_or items i item →
    Passes whole (fields_part (fields_of (drop i items))) a b → Goes (item_part item.kind) b c (Err fault) → Goes whole a c (Err fault)
fields_break {fault} items i item below is p g = p.passes _ (Err fault) (goes_as (fields_left items i item below is) (goes_first (fields_part (fields_of (drop (i + 1) items))) g))

pub fields_end : {whole : Part} {a b : Resolver} (items : List Item) (i : ℕ) → length items ≤ i → Passes whole (fields_part (fields_of (drop i items))) a b → Goes whole a b (Ok tt)
fields_end items i done p = p.passes _ (Ok tt) (goes_as (ap (λ left. fields_part (fields_of left)) (drop_all i items done)) goes_nothing)

-- what stays in scope through two parts
pub extends_both : {a b c : Resolver} → Extends a b → Extends b c → Extends a c
extends_both {a} {b} {c} one other = record {
  more = one.more ++ other.more;
  locals = other.locals ∙ ap (λ x. x ++ other.more) one.locals ∙ append_assoc a.locals.items one.more other.more;
  stack = other.stack ∙ one.stack;
  grown = omega (arith, one.grown, other.grown);
}

pub keeps_both : {a b c : Resolver} → Keeps a b → Keeps b c → Keeps a c
keeps_both one other = record { locals = other.locals ∙ one.locals; stack = other.stack ∙ one.stack; here = other.here ∙ one.here; grown = omega (arith, one.grown, other.grown) }
