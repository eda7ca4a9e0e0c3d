-- Statements with one more, and with a semicolon behind the last one.
use Rattle.std.proofs.Common.{◌≡◌, ◌+◌, ℕ, zero, suc, Bool, true, false, List, [], ◌∷◌, ◌++◌, length, get_or, refl, ap, ◌∙◌, arith}
use Rattle.std.specs.Prelude.{slice_set, if◌then◌else◌}
use Rattle.lua_tree.specs.Joins.{join_statements}
use Rattle.lua_tree.specs.Syntax.{Statements, no_statements, statement, Statement}
use Rattle.lua_tree.specs.TreeLists.{statements_of}
use Rattle.lua_tree.specs.View.{view_statement}
use Rattle.lua_tree.specs.declared.tree.Stat.{Stat}
use Rattle.recover_flow.specs.Parts.{begins_open, separated, appended}

-- a statement alone
abbrev alone : Stat → Statements
alone stat = statement stat.line stat.semi (view_statement stat.kind) no_statements

one_behind : (stats : List Stat) (stat : Stat) → statements_of (stats ++ stat ∷ []) ≡ join_statements (statements_of stats) (alone stat)
one_behind [] stat = refl
one_behind (first ∷ stats) stat = ap (statement first.line first.semi (view_statement first.kind)) (one_behind stats stat)

pub appended_behind : (old between after : List Stat) (stat : Stat) (kind : Statement) (begins : Bool) → begins ≡ begins_open kind → statements_of between ≡ (if begins then separated (statements_of old) else statements_of old) → after ≡ between ++ stat ∷ [] → alone stat ≡ statement 1 false kind no_statements → statements_of after ≡ appended (statements_of old) kind
appended_behind old between after stat kind begins b is pushed one = rw pushed (rw (one_behind between stat) (rw is (rw one (rw b refl))))

marked : (first stat : Stat) → stat.line ≡ first.line → stat.semi ≡ true → stat.kind ≡ first.kind → alone stat ≡ separated (alone first)
marked first stat line semicolon kind = rw line (rw semicolon (rw kind refl))

pub last_marked : (stats : List Stat) (number : ℕ) (last stat : Stat) → number + 1 ≡ length stats → last ≡ get_or stats number last → stat.line ≡ last.line → stat.semi ≡ true → stat.kind ≡ last.kind → statements_of (slice_set stats number stat) ≡ separated (statements_of stats)
last_marked [] number last stat count is line semicolon kind = absurd (omega (arith, count))
last_marked (first ∷ []) zero last stat count is line semicolon kind = marked first stat (line ∙ ap (λ (s : Stat). s.line) is) semicolon (kind ∙ ap (λ (s : Stat). s.kind) is)
last_marked (first ∷ []) (suc number) last stat count is line semicolon kind = absurd (omega (arith, count))
last_marked (first ∷ next ∷ stats) zero last stat count is line semicolon kind = absurd (omega (arith, count))
last_marked (first ∷ next ∷ stats) (suc number) last stat count is line semicolon kind =
    ap (statement first.line first.semi (view_statement first.kind)) (last_marked (next ∷ stats) number last stat (omega (arith, count)) is line semicolon kind)
