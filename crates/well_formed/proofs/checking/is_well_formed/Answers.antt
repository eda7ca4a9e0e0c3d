use Rattle.std.proofs.Common.{rules, IsTrue, ◌≡◌, sym, ◌∙◌, ◌≤◌, Bool, true, ◌&&◌, nat_le, arith}
use Rattle.std.proofs.lemmas.Bool.Decides.{nat_tests}
use Rattle.lua_tree.specs.View.{view_tree}
use Rattle.lua_tree.specs.Syntax.{Source}
use Rattle.lua_tree.specs.WellFormed.{WellFormed, is_formed, depth_of_statements}
use Rattle.well_formed.specs.Within.{statements_within}
use Rattle.well_formed.proofs.Shallow.{of_statements}
use Rattle.well_formed.proofs.checking.is_well_formed.Goals as goal

sound : (source : Source) → statements_within 200 source.body ≡ true → WellFormed source
sound source test =
    let is : (is_formed source && nat_le (depth_of_statements source.body) 200) ≡ true = sym (of_statements source.body 200).is ∙ test in
    record { formed = grind (arith, nat_tests); shallow = grind (arith, nat_tests) }

true_of : {b : Bool} → IsTrue b → b ≡ true
true_of {b} test = search rules

of_true : {b : Bool} → b ≡ true → IsTrue b
of_true {b} is = search rules

complete : (source : Source) → WellFormed source → statements_within 200 source.body ≡ true
complete source well =
    let formed : is_formed source ≡ true = well.formed in
    let shallow : depth_of_statements source.body ≤ 200 = well.shallow in
    (of_statements source.body 200).is ∙ grind (arith, nat_tests)

pub returns : goal.returns
returns c =
    let source = view_tree c.args.tree.now in
    let is : c.are_statements.result ≡ statements_within 200 source.body = c.are_statements.ensures in
    (λ test. sound source (sym is ∙ true_of test), λ well. of_true (is ∙ complete source well))
