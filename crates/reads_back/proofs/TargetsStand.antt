-- How many targets stand, and what the copies of locals leave.
use Rattle.std.proofs.Common.{◌≡◌, ℕ, zero, suc, Bool, true, false, List, length, ap, ◌∙◌, [], ◌∷◌, refl}
use Rattle.lua_tree.specs.Syntax as syntax
use Rattle.lua_tree.specs.Syntax.{Expressions, no_expressions}
use Rattle.scheme.specs.Expressions.{Target}
use Rattle.scheme.specs.Statements.{clashes, with_copy}
use Rattle.scheme.specs.declared.making.Active.{Active}
use Rattle.scheme_stands.specs.Relation.{all_related}
use Rattle.scheme_stands.specs.Statements.{CopiesAt, CopyBy, TargetsAt}
use Rattle.scheme_stands.specs.Words.{Fn, Spot}
use Rattle.reads_back.specs.Coming.{Coming}
use Rattle.reads_back.proofs.MentionsMeant.{Keeps, same_keeps, word_keeps}

pub targets_count : (g : Fn) (active : List Active) (targets : Expressions) (to : List Target) (free free1 : ℕ) (p q : Spot) → TargetsAt (all_related g targets) active to free free1 p q → length to ≡ length (all_related g targets)
targets_count g active no_expressions to free free1 p q at = ap length at.is
targets_count g active (syntax.expression e targets) to free free1 p q at = ap length at.is ∙ ap suc (targets_count g active targets at.others at.free1 free1 at.mid q at.others_at)

-- as many places as targets
with_copy_count : (x copy : ℕ) (targets : List Target) → length (with_copy x copy targets) ≡ length targets
with_copy_count x copy [] = refl
with_copy_count x copy (target ∷ targets) = ap suc (with_copy_count x copy targets)

-- so it is with copies; the words mention nothing
copy_stands : (clash : Bool) (g : Fn) (x : ℕ) (targets places : List Target) (free free1 : ℕ) (p q : Spot) → CopyBy clash g x targets places free free1 p q → (length places ≡ length targets) × Keeps p q
copy_stands true g x targets places free free1 p q at = (ap length at.is ∙ with_copy_count x free targets, word_keeps at.word)
copy_stands false g x targets places free free1 p q at = (ap length at.is, same_keeps at.same)

pub copies_stand : (g : Fn) (count : ℕ) (targets places : List Target) (free free1 : ℕ) (p q : Spot) → CopiesAt g count targets places free free1 p q → (length places ≡ length targets) × Keeps p q
copies_stand g zero targets places free free1 p q at = (ap length at.is, same_keeps at.same)
copies_stand g (suc x) targets places free free1 p q at =
    let before = copies_stand g x targets at.between free at.free1 p at.mid at.earlier_at in
    let behind = copy_stands (clashes x targets) g x at.between places at.free1 free1 at.mid q at.later_at in
    (behind.0 ∙ before.0, behind.1 ∙ before.1)

-- so they make no function
pub copies_keep : (g : Fn) (count : ℕ) (targets places : List Target) (free free1 : ℕ) (p q : Spot) → CopiesAt g count targets places free free1 p q → q.functions ≡ p.functions
copies_keep g count targets places free free1 p q at = ap (λ (c : Coming). c.functions) (copies_stand g count targets places free free1 p q at).1
