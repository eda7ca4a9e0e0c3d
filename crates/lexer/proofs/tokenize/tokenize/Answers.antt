use Rattle.std.proofs.Common.{◌≡◌, ◌++◌, ◌+◌, List, ℕ, take, drop, subst, sym, Err, rules}
use Rattle.lexer.specs.Lines.{IsCounted}
use Rattle.lexer.specs.Pieces.{TokenFront, FaultAt, listed}
use Rattle.std.proofs.lemmas.List.{take_rest}
use Rattle.lexer.proofs.LexLemmas.{Lexing, turn_within, turn_lexing, turn_counted, turn_fault, stops_by, turns_end}
use Rattle.lexer.proofs.tokenize.tokenize.Goals as goal

pub returns-in_err-piece-clause-fault : goal.returns-in_err-piece-clause-fault
returns-in_err-piece-clause-fault c =
    let bytes : List ℕ = c.args.bytes.now in
    let at : ℕ = c.loop-at.at in
    let same : c.from_residual.result ≡ Err c.in_err-piece.field-0.0 = search rules in
    let fault : FaultAt at (drop at bytes) c.in_err-piece.field-0.0 = subst (λ t. FaultAt at t c.in_err-piece.field-0.0) (take_rest bytes at) c.in_err-piece.ensures.fault in
    rw same (stops_by bytes c.in_err-piece.field-0.0 (turn_fault bytes at c.loop-at.tokens c.in_err-piece.field-0.0 c.loop-at.invariant.within fault c.loop-at.invariant.lexing))

pub loop-at-preserved : goal.loop-at-preserved
loop-at-preserved c =
    let bytes : List ℕ = c.args.bytes.now in
    let at : ℕ = c.loop-at.at in
    let n : ℕ = c.in_ok-piece.piece.length in
    let front : TokenFront at n (drop at bytes) c.in_ok-kind.kind = subst (λ t. TokenFront at n t c.in_ok-kind.kind) (take_rest bytes at) c.in_ok-kind.ensures in
    let more : IsCounted (take at bytes ++ take n (drop at bytes)) c.advance.new.self = subst (λ t. IsCounted (take at bytes ++ take n t) c.advance.new.self) (take_rest bytes at) (c.advance.ensures (take at bytes) c.loop-at.invariant.counted) in
    let counted : IsCounted (take (at + n) bytes) c.advance.new.self = turn_counted bytes at n c.advance.new.self more in
    let pushed : c.push_token.new.tokens ≡ c.loop-at.tokens ++ listed c.in_ok-kind.kind at c.line.result = c.in_ok-push_token.ensures in
    let lexing : Lexing bytes (drop (at + n) bytes) (at + n) (c.loop-at.tokens ++ listed c.in_ok-kind.kind at c.line.result) = turn_lexing bytes at n c.line.result c.loop-at.tokens c.in_ok-kind.kind front (c.line.ensures (take (at + n) bytes) counted) c.loop-at.invariant.lexing in
    record {
      within = turn_within bytes at n c.in_ok-kind.kind c.loop-at.invariant.within front;
      lexing = subst (Lexing bytes (drop (at + n) bytes) (at + n)) (sym pushed) lexing;
      counted = counted;
    }

pub returns-clause-tokens : goal.returns-clause-tokens
returns-clause-tokens c = turns_end c.args.bytes.now c.loop-at.at c.loop-at.tokens c.loop-at-test.false c.loop-at.invariant.lexing
