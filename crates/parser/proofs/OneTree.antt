-- Tokens spell one well-formed tree at most.
use Rattle.std.proofs.Common.{◌≡◌, List, [], ap, ◌∙◌}
use Rattle.lua_tree.specs.Syntax.{Source}
use Rattle.lua_tree.specs.Spelled.{block_phrase}
use Rattle.lua_tree.specs.declared.token.Token.{Token}
use Rattle.lua_tree.specs.Trees.{IsTreeOf}
use Rattle.parser.specs.Laws.{TreesAreOne}
use Rattle.parser.specs.Program.{reads, main_chunk}
use Rattle.parser.specs.Runs.{Runs, End, done}
use Rattle.parser.proofs.Ends.{one_end}
use Rattle.parser.proofs.Found.{main_found}

-- the run that finds a tree of tokens
pub found_run : (tokens : List Token) (source : Source) → IsTreeOf tokens source → Runs 200 block_phrase (reads main_chunk) 1 tokens (done source.body source.last_line [])
found_run tokens source t = main_found 200 source tokens t.well_formed.formed t.well_formed.shallow t.spelled

same_source : (one other : Source) → one.body ≡ other.body → one.last_line ≡ other.last_line → one ≡ other
same_source one other b l = ap {B = Source} (λ x. record { body = x; last_line = one.last_line }) b ∙ ap {B = Source} (λ y. record { body = other.body; last_line = y }) l

abbrev end_of : Source → End block_phrase
end_of source = done source.body source.last_line []

pub one_tree : TreesAreOne
one_tree tokens one other a b =
    let e : end_of one ≡ end_of other = one_end (found_run tokens one a) (found_run tokens other b) in
    let body : one.body ≡ other.body = cc in
    let last : one.last_line ≡ other.last_line = cc in
    same_source one other body last
