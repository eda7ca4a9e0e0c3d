-- Serves the laws. Statements that stand on the same steps declare and mention the same, in the same order: breaks aside, their outlines are one.
use Rattle.std.specs.Prelude.{◌≡◌, true, List, [], ◌∷◌}
use Rattle.lua_num.specs.Bytes.{Text}
use Rattle.lua_tree.specs.Outline.{Mark, leave, Place, statements_part}
use Rattle.lua_tree.specs.Resolved.{resolved_by}
use Rattle.lua_tree.specs.Scoping.{first_breach}
use Rattle.lua_tree.specs.Syntax.{Statements}
use Rattle.recover_expr.specs.Placing.{Steps}
use Rattle.scheme.specs.Making.{Ahead}
use Rattle.same_flow.specs.SameFlow.{AreLaid}

-- marks but for the breaks that stand in a loop
abbrev pub but_breaks : List Mark → List Mark
but_breaks [] = []
but_breaks (leave line true ∷ marks) = but_breaks marks
but_breaks (mark ∷ marks) = mark ∷ but_breaks marks

-- at each place of a source
abbrev pub SameMarks : Type 0
SameMarks =
    (code : Steps) (params names : List Text) (ahead : Ahead) (block other : Statements) → AreLaid code params names ahead block → AreLaid code params names ahead other
    → (place : Place)
    → (but_breaks (statements_part block place).marks ≡ but_breaks (statements_part other place).marks)
    × ((statements_part block place).next.declarations ≡ (statements_part other place).next.declarations)
    × ((statements_part block place).next.functions ≡ (statements_part other place).next.functions)

-- breaks that stand in a loop say nothing of what names mean, and break no rule
abbrev pub BreaksSayNothing : Type 0
BreaksSayNothing = (marks : List Mark) → (resolved_by (but_breaks marks) ≡ resolved_by marks) × (first_breach [] (but_breaks marks) ≡ first_breach [] marks)
