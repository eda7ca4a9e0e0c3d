-- In a source that keeps the rules of scoping each break stands in a loop.
use Rattle.std.proofs.Common.{◌≡◌, true, List, [], ◌∷◌, ◌++◌, refl, sym, ◌∙◌, append_assoc}
use Rattle.lua_tree.specs.Outline.{Mark, leave, outline}
use Rattle.lua_tree.specs.Scoping.{Scoped}
use Rattle.lua_tree.specs.Syntax.{Source}
use Rattle.scheme_stands.specs.Placed.{RulesKept}
use Rattle.scheme_stands.proofs.Few.{kept}

-- each break among some marks stands in a loop
abbrev pub InLoops : List Mark → Type 0
InLoops [] = Unit {0}
InLoops (leave line looped ∷ marks) = (looped ≡ true) × InLoops marks
InLoops (mark ∷ marks) = InLoops marks

-- and so do those of two parts of them
pub in_both : (one other : List Mark) → InLoops (one ++ other) → InLoops one × InLoops other
in_both [] other are = (tt, are)
in_both (leave line looped ∷ one) other are = let rest = in_both one other are.1 in ((are.0, rest.0), rest.1)
in_both (mark ∷ one) other are = in_both one other are

-- three parts, the last two joined or the first two
pub in_three : (one two more : List Mark) → InLoops (one ++ (two ++ more)) → InLoops one × InLoops two × InLoops more
in_three one two more are = let first = in_both one (two ++ more) are in let rest = in_both two more first.1 in (first.0, rest.0, rest.1)

pub in_joined : (one two more : List Mark) → InLoops ((one ++ two) ++ more) → InLoops one × InLoops two × InLoops more
in_joined one two more are = let joined = in_both (one ++ two) more are in let parts = in_both one two joined.0 in (parts.0, parts.1, joined.1)

-- the marks behind others
behind : (all before marks : List Mark) → RulesKept all → all ≡ before ++ marks → InLoops marks
behind all before [] rules is = tt
behind all before (leave line looped ∷ marks) rules is =
    (rules.in_loop before line looped marks is, behind all (before ++ leave line looped ∷ []) marks rules (is ∙ sym (append_assoc before (leave line looped ∷ []) marks)))
behind all before (mark ∷ marks) rules is = behind all (before ++ mark ∷ []) marks rules (is ∙ sym (append_assoc before (mark ∷ []) marks))

-- the marks of the source
pub breaks_in_loops : (source : Source) → Scoped source → InLoops (outline source)
breaks_in_loops source scoped = behind (outline source) [] (outline source) (kept source scoped) refl
