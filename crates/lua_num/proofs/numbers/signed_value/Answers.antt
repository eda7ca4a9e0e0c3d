use Rattle.std.proofs.Common.{◌≡◌, ◌≢◌, ℕ, List, ◌++◌, Option, None, Some, Bor}
use Rattle.std.specs.Prelude.{codes}
use Rattle.std.specs.Result.{result_ok}
use Rattle.std.proofs.lemmas.Bool.Decides.{Decides-eqb}
use Rattle.std.proofs.lemmas.Slice.Eq.{strip_prefix_is}
use Rattle.lua_num.proofs.Numerals.{some_if_ok}
use Rattle.lua_num.proofs.NumberTexts.{minus_read, minus_none, plain_read, plain_none}
use Rattle.lua_num.proofs.numbers.signed_value.Goals as goal

pub returns-in_err-word_value-in-Some-clause-none :
    goal.returns-in_err-word_value-in-Some-clause-none
returns-in_err-word_value-in-Some-clause-none c =
    let minus : c.args.text.now ≡ codes "-" ++ c.in-Some.rest.now = strip_prefix_is Decides-eqb c.args.text.now (codes "-") (Some c.in-Some.rest) c.in-Some.ensures.cases in
    rw c.from_residual.ensures (λ n. minus_none c.args.text.now c.in-Some.rest.now n minus c.in_err-word_value-in-Some.ensures.none)

pub returns-in_err-word_value-in-None-clause-none :
    goal.returns-in_err-word_value-in-None-clause-none
returns-in_err-word_value-in-None-clause-none c =
    let nothing : Option (Bor (List ℕ)) = None in
    let other : (other : List ℕ) → c.args.text.now ≢ codes "-" ++ other = strip_prefix_is Decides-eqb c.args.text.now (codes "-") nothing c.in-None.ensures.cases in
    rw c.from_residual-in_err-word_value-in-None.ensures (λ n. plain_none c.args.text.now c.after_plus.result.now n other c.after_plus.ensures c.in_err-word_value-in-None.ensures.none)

pub returns-in_ok-word_value-in-Some-clause-value :
    goal.returns-in_ok-word_value-in-Some-clause-value
returns-in_ok-word_value-in-Some-clause-value c =
    let minus : c.args.text.now ≡ codes "-" ++ c.in-Some.rest.now = strip_prefix_is Decides-eqb c.args.text.now (codes "-") (Some c.in-Some.rest) c.in-Some.ensures.cases in
    (minus_read c.args.text.now c.in-Some.rest.now c.in_ok-word_value-in-Some.field-0 c.checked_sub_unsigned.result minus c.in_ok-word_value-in-Some.ensures.value c.checked_sub_unsigned.ensures).value

pub returns-in_ok-word_value-in-Some-clause-none :
    goal.returns-in_ok-word_value-in-Some-clause-none
returns-in_ok-word_value-in-Some-clause-none c =
    let minus : c.args.text.now ≡ codes "-" ++ c.in-Some.rest.now = strip_prefix_is Decides-eqb c.args.text.now (codes "-") (Some c.in-Some.rest) c.in-Some.ensures.cases in
    (minus_read c.args.text.now c.in-Some.rest.now c.in_ok-word_value-in-Some.field-0 c.checked_sub_unsigned.result minus c.in_ok-word_value-in-Some.ensures.value c.checked_sub_unsigned.ensures).none

pub returns-in_ok-word_value-in-None-clause-value :
    goal.returns-in_ok-word_value-in-None-clause-value
returns-in_ok-word_value-in-None-clause-value c =
    let nothing : Option (Bor (List ℕ)) = None in
    let other : (other : List ℕ) → c.args.text.now ≢ codes "-" ++ other = strip_prefix_is Decides-eqb c.args.text.now (codes "-") nothing c.in-None.ensures.cases in
    rw c.ok.ensures.value (plain_read c.args.text.now c.after_plus.result.now c.in_ok-word_value-in-None.field-0 (result_ok c.try_from.result) other c.after_plus.ensures c.in_ok-word_value-in-None.ensures.value (some_if_ok _ _ c.try_from.result c.try_from.ensures)).value

pub returns-in_ok-word_value-in-None-clause-none :
    goal.returns-in_ok-word_value-in-None-clause-none
returns-in_ok-word_value-in-None-clause-none c =
    let nothing : Option (Bor (List ℕ)) = None in
    let other : (other : List ℕ) → c.args.text.now ≢ codes "-" ++ other = strip_prefix_is Decides-eqb c.args.text.now (codes "-") nothing c.in-None.ensures.cases in
    rw c.ok.ensures.value (plain_read c.args.text.now c.after_plus.result.now c.in_ok-word_value-in-None.field-0 (result_ok c.try_from.result) other c.after_plus.ensures c.in_ok-word_value-in-None.ensures.value (some_if_ok _ _ c.try_from.result c.try_from.ensures)).none
