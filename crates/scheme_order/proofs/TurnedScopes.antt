-- A turned source has the scopes of the source: what is captured, all upvalues, the first break of a rule, and what each name means, but for the order of two.
use Rattle.std.proofs.Common.{◌≡◌, true, List, [], sym, ap, ◌∙◌}
use Rattle.lua_num.specs.Bytes.{Text}
use Rattle.lua_tree.specs.Outline.{Mark, Place, statements_part, beginning, outline}
use Rattle.lua_tree.specs.Resolved.{resolved, declarations_in, functions_in, captured_below, upvalues_below}
use Rattle.lua_tree.specs.Scoping.{use_in, uses_among, first_breach, breach_of}
use Rattle.lua_tree.specs.Syntax.{Statements, Source}
use Rattle.lua_tree.specs.WellFormed.{WellFormed, formed_statements}
use Rattle.scheme_order.specs.Own.{but_own, IsOwn, SameUse}
use Rattle.scheme_order.specs.Permuted.{BlockUses}
use Rattle.scheme_order.specs.Turned.{turned_block, turned}
use Rattle.scheme_order.proofs.OwnMarks.{use_same, declarations_same, count_same, captured_below_same, upvalues_below_same, breach_same}
use Rattle.scheme_order.proofs.OwnNames.{no_own}
use Rattle.scheme_order.proofs.TurnedMarks.{block_kept}

-- ---- a block at a place

-- the same marks but for mentions of locals, and the same place behind
pub turned_marks : (own : List Text) (block : Statements) (place : Place) → IsOwn own place
    → (but_own (statements_part (turned_block own block) place).marks ≡ but_own (statements_part block place).marks)
    × ((statements_part (turned_block own block) place).next ≡ (statements_part block place).next)
turned_marks own block place o =
    let one = (block_kept own block).at place o in
    (one.marks, one.next)

-- what its names mean, in order
pub turned_uses : (own : List Text) (block : Statements) → formed_statements block ≡ true → (place : Place) → IsOwn own place → (all other : List Mark) → SameUse all other
    → BlockUses own block (uses_among all (statements_part block place).marks) (uses_among other (statements_part (turned_block own block) place).marks)
turned_uses own block formed place o all other same = ((block_kept own block).at place o).meant formed all other same

-- ---- marks that are the same but for mentions of locals of the innermost function

-- what does not see such mentions is the same
same_of {ℓ} : {A : Type ℓ} (f : List Mark → A) → ((marks : List Mark) → f (but_own marks) ≡ f marks)
    → (marks other : List Mark) → but_own other ≡ but_own marks → f other ≡ f marks
same_of f blind marks other e = sym (blind other) ∙ ap f e ∙ blind marks

-- what is captured of all declarations, and the upvalues of all functions
captured_all : (marks : List Mark) → captured_below (declarations_in (but_own marks)) (but_own marks) ≡ captured_below (declarations_in marks) marks
captured_all marks = ap (λ n. captured_below n (but_own marks)) (declarations_same marks) ∙ captured_below_same (declarations_in marks) marks

upvalues_all : (marks : List Mark) → upvalues_below (functions_in (but_own marks)) (but_own marks) ≡ upvalues_below (functions_in marks) marks
upvalues_all marks = ap (λ n. upvalues_below n (but_own marks)) (count_same marks) ∙ upvalues_below_same (functions_in marks) marks

-- ---- a source

-- what both declare and mention
outline_same : (source : Source) → but_own (outline (turned source)) ≡ but_own (outline source)
outline_same source = (turned_marks [] source.body beginning (no_own beginning)).0

-- all scopes of both
pub turned_resolved : (source : Source) → WellFormed source
    → ((resolved (turned source)).captured ≡ (resolved source).captured) × ((resolved (turned source)).upvalues ≡ (resolved source).upvalues)
    × (breach_of (turned source) ≡ breach_of source)
    × BlockUses [] source.body (resolved source).names (resolved (turned source)).names
turned_resolved source formed =
    let marks = outline source in
    let other = outline (turned source) in (
      same_of (λ all. captured_below (declarations_in all) all) captured_all marks other (outline_same source),
      same_of (λ all. upvalues_below (functions_in all) all) upvalues_all marks other (outline_same source),
      same_of (first_breach []) breach_same marks other (outline_same source),
      turned_uses [] source.body formed.formed beginning (no_own beginning) marks other
          (λ f means. sym (same_of (λ all. use_in f all means) (λ all. use_same f all means) marks other (outline_same source))),
    )
