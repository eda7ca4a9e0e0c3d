-- Steps of runs at a token whose kind is known.
use Rattle.std.proofs.Common.{◌≡◌, ℕ, List, ◌∷◌, Option, Some, sym, ◌∙◌, ap, subst}
use Rattle.lua_tree.specs.Spelled.{Phrase}
use Rattle.lua_tree.specs.declared.token.Token.{Token}
use Rattle.lua_tree.specs.declared.token.TokenKind.{TokenKind}
use Rattle.parser.specs.Program.{Goal, Program, look, choose, reads, become}
use Rattle.parser.specs.Runs.{kind_of, line_of, End, done, fault, Runs, gives, looks, chooses, passes, calls, fails}

-- a look at tokens whose first is known
pub look_on : {most : ℕ} {answer : Phrase} {then : ℕ → Option TokenKind → ℕ → Program answer} {before : ℕ} {tokens : List Token} {end : End answer} {next : Option TokenKind} →
    kind_of tokens ≡ next → Runs most answer (then before next (line_of tokens)) before tokens end → Runs most answer (look then) before tokens end
look_on {most} {answer} {then} {before} {tokens} {end} e r = looks (subst (λ x. Runs most answer (then before x (line_of tokens)) before tokens end) (sym e) r)

pub look_at : {most : ℕ} {answer : Phrase} {then : ℕ → Option TokenKind → ℕ → Program answer} {before : ℕ} {token : Token} {tokens : List Token} {end : End answer} {kind : TokenKind} →
    token.kind ≡ kind → Runs most answer (then before (Some kind) token.line) before (token ∷ tokens) end → Runs most answer (look then) before (token ∷ tokens) end
look_at e r = look_on (ap Some e) r

pub choose_at : {most : ℕ} {answer : Phrase} {kind : TokenKind} {yes no : Program answer} {before : ℕ} {token : Token} {tokens : List Token} {end : End answer} →
    token.kind ≡ kind → Runs most answer yes before (token ∷ tokens) end → Runs most answer (choose kind yes no) before (token ∷ tokens) end
choose_at e r = chooses (ap Some e) r

pub pass_on : {most : ℕ} {answer : Phrase} {kind : TokenKind} {yes no : Program answer} {before : ℕ} {tokens : List Token} {end : End answer} {next : Option TokenKind} →
    kind_of tokens ≡ next → (next ≡ Some kind → ⊥) → Runs most answer no before tokens end → Runs most answer (choose kind yes no) before tokens end
pass_on e d r = passes (λ q. d (sym e ∙ q)) r

pub pass_at : {most : ℕ} {answer : Phrase} {kind : TokenKind} {yes no : Program answer} {before : ℕ} {token : Token} {tokens : List Token} {end : End answer} {other : TokenKind} →
    token.kind ≡ other → (Some other ≡ Some kind → ⊥) → Runs most answer no before (token ∷ tokens) end → Runs most answer (choose kind yes no) before (token ∷ tokens) end
pass_at e d r = pass_on (ap Some e) d r

-- the last part of a program is another goal
pub tail : {most : ℕ} {answer : Phrase} {goal : Goal answer} {before : ℕ} {tokens : List Token} {end : End answer} →
    Runs most answer (reads goal) before tokens end → Runs most answer (become goal) before tokens end
tail {most} {answer} {goal} {before} {tokens} {end} r = by end r
  where
    by : (end : End answer) → Runs most answer (reads goal) before tokens end → Runs most answer (become goal) before tokens end
    by (done meant last rest) r = calls r gives
    by (fault why rest) r = fails r
