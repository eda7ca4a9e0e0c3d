use Rattle.std.proofs.Common.{◌≡◌, ◌+◌, List, ℕ, Option, drop, take, subst, Err, rules}
use Rattle.lua_tree.specs.declared.token.TokenKind.{TokenKind}
use Rattle.lexer.specs.Pieces.{TokenFront, FaultAt}
use Rattle.std.proofs.lemmas.List.{take_rest}
use Rattle.lexer.proofs.LineLemmas.{a_line}
use Rattle.lexer.proofs.LexLemmas.{turn_within, turn_lexing, turn_fault, turns_end}
use Rattle.lexer.proofs.tokenize.check.Goals as goal

pub returns-in_err-length-clause-fault : goal.returns-in_err-length-clause-fault
returns-in_err-length-clause-fault c =
    let bytes : List ℕ = c.args.bytes.now in
    let at : ℕ = c.loop-at.at in
    let same : c.from_residual.result ≡ Err c.in_err-length.field-0.0 = search rules in
    let fault : FaultAt at (drop at bytes) c.in_err-length.field-0.0 = subst (λ t. FaultAt at t c.in_err-length.field-0.0) (take_rest bytes at) c.in_err-length.ensures.fault in
    rw same (turn_fault bytes at c.loop-at.invariant.lexing.0 c.in_err-length.field-0.0 c.loop-at.invariant.within fault c.loop-at.invariant.lexing.1)

pub loop-at-preserved : goal.loop-at-preserved
loop-at-preserved c =
    let bytes : List ℕ = c.args.bytes.now in
    let at : ℕ = c.loop-at.at in
    let n : ℕ = c.in_ok-length.length in
    let front : (token : Option TokenKind) × TokenFront at n (drop at bytes) token = subst (λ t. (token : Option TokenKind) × TokenFront at n t token) (take_rest bytes at) c.in_ok-length.ensures.token in
    let line = a_line (take (at + n) bytes) in
    record {
      within = turn_within bytes at n front.0 c.loop-at.invariant.within front.1;
      lexing = (_, turn_lexing bytes at n line.0 c.loop-at.invariant.lexing.0 front.0 front.1 line.1 c.loop-at.invariant.lexing.1);
    }

pub returns-clause-tokens : goal.returns-clause-tokens
returns-clause-tokens c = (c.loop-at.invariant.lexing.0, turns_end c.args.bytes.now c.loop-at.at c.loop-at.invariant.lexing.0 c.loop-at-test.false c.loop-at.invariant.lexing.1)
