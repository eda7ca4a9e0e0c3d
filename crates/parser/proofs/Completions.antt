-- What completes the tokens that a program begins with: other tokens, and an answer.
use Rattle.std.proofs.Common.{◌≡◌, ℕ, ◌+◌, ◌≤◌, ◌||◌, Bool, true, false, List, [], ◌∷◌, ◌++◌, Option, Some, None, refl, sym, ◌∙◌, ap, subst, append_assoc}
use Rattle.lua_tree.specs.Syntax.{Expression}
use Rattle.lua_tree.specs.WellFormed.{is_target, is_call}
use Rattle.lua_tree.specs.Spelled.{Phrase, Meant}
use Rattle.lua_tree.specs.declared.token.Token.{Token}
use Rattle.lua_tree.specs.declared.token.TokenKind.{TokenKind}
use Rattle.parser.specs.Classes.{Role, is_block_end}
use Rattle.parser.specs.Program.{Goal, Program, give, stop, look, skip, want, choose, call, reads, become, main_chunk, block, semicolon, one_statement, if_of, while_of, do_of, for_of, repeat_of, function_of, local_of, return_of, break_of, numeric_of, generic_of, local_function_of, local_names_of, expression_statement, branches, step, method_name, values, results, targets, parameters, first_parameter, more_parameters, more_names_by, expressions_at, more_expressions_at, whole, climb, simple, prefix, suffix, field_of, index_of, method_of, call_of, listed, fields, one_field, keyed_of, named_of, separator}
use Rattle.parser.specs.Runs.{kind_of, done, Runs, gives, looks, skips, wants, chooses, passes, calls}
use Rattle.parser.proofs.Begins.{Begins, looked, skipped_last, skipped, wanted_last, wanted, chosen, passed, inside, behind}
use Rattle.parser.proofs.Depths.{Fits, fits}

-- tokens behind which nothing is left to read
abbrev pub is_last : Option TokenKind → Bool
is_last None = true
is_last (Some kind) = false

-- tokens at which an expression stops
abbrev pub ends_expression : Option TokenKind → Bool
ends_expression None = true
ends_expression (Some TokenKind.End) = true
ends_expression (Some TokenKind.Else) = true
ends_expression (Some TokenKind.Elseif) = true
ends_expression (Some TokenKind.Until) = true
ends_expression (Some TokenKind.Do) = true
ends_expression (Some TokenKind.Then) = true
ends_expression (Some TokenKind.Comma) = true
ends_expression (Some TokenKind.Equal) = true
ends_expression (Some TokenKind.CloseParen) = true
ends_expression (Some TokenKind.CloseBracket) = true
ends_expression (Some TokenKind.CloseBrace) = true
ends_expression (Some kind) = false

-- tokens at which a list stops
abbrev pub ends_list : Option TokenKind → Bool
ends_list None = true
ends_list (Some TokenKind.End) = true
ends_list (Some TokenKind.Else) = true
ends_list (Some TokenKind.Elseif) = true
ends_list (Some TokenKind.Until) = true
ends_list (Some TokenKind.Do) = true
ends_list (Some TokenKind.CloseParen) = true
ends_list (Some kind) = false

-- tokens at which the branches of an `if` stop
abbrev pub ends_branches : Option TokenKind → Bool
ends_branches None = true
ends_branches (Some TokenKind.End) = true
ends_branches (Some TokenKind.Until) = true
ends_branches (Some kind) = false

-- tokens at which names stop
abbrev pub ends_names : TokenKind → Option TokenKind → Bool
ends_names TokenKind.Comma (Some TokenKind.In) = true
ends_names TokenKind.Comma (Some TokenKind.Equal) = true
ends_names TokenKind.Comma k = is_block_end k
ends_names TokenKind.Dot (Some TokenKind.OpenParen) = true
ends_names TokenKind.Dot k = is_last k
ends_names mark k = is_last k

abbrev pub opens_paren : Option TokenKind → Bool
opens_paren None = true
opens_paren (Some TokenKind.OpenParen) = true
opens_paren (Some kind) = false

abbrev pub closes_paren : Option TokenKind → Bool
closes_paren (Some TokenKind.CloseParen) = true
closes_paren kind = false

abbrev pub closes_brace : Option TokenKind → Bool
closes_brace (Some TokenKind.CloseBrace) = true
closes_brace kind = false

abbrev pub sets : Option TokenKind → Bool
sets (Some TokenKind.Equal) = true
sets kind = false

abbrev pub any_token : Option TokenKind → Bool
any_token kind = true

-- tokens at which a goal stops, once it is completed
abbrev pub stop_of : {answer : Phrase} → Goal answer → Option TokenKind → Bool
stop_of main_chunk = is_last
stop_of (block d) = is_block_end
stop_of semicolon = is_block_end
stop_of (one_statement d) = is_block_end
stop_of (if_of d) = is_block_end
stop_of (while_of d) = is_block_end
stop_of (do_of d) = is_block_end
stop_of (for_of d) = is_block_end
stop_of (repeat_of d) = is_block_end
stop_of (function_of d) = is_block_end
stop_of (local_of d) = is_block_end
stop_of (return_of d) = is_block_end
stop_of (break_of d) = is_block_end
stop_of (numeric_of d name) = is_block_end
stop_of (generic_of d name) = is_block_end
stop_of (local_function_of d) = is_block_end
stop_of (local_names_of d) = is_block_end
stop_of (expression_statement d) = is_block_end
stop_of (branches d) = ends_branches
stop_of (step d) = ends_list
stop_of method_name = opens_paren
stop_of (values d) = is_block_end
stop_of (results d) = is_block_end
stop_of (targets d e) = sets
stop_of (more_names_by mark) = ends_names mark
stop_of first_parameter = ends_list
stop_of more_parameters = ends_list
stop_of parameters = ends_list
stop_of (expressions_at d) = ends_list
stop_of (more_expressions_at d) = ends_list
stop_of (whole d limit) = ends_expression
stop_of (climb d limit start left) = ends_expression
stop_of (simple d) = ends_expression
stop_of (prefix d role) = ends_expression
stop_of (suffix d role on) = ends_expression
stop_of (one_field d) = closes_brace
stop_of (keyed_of d) = closes_brace
stop_of (named_of d start name) = closes_brace
stop_of (listed d) = closes_paren
stop_of (fields d) = closes_brace
stop_of separator = closes_brace
stop_of goal = any_token

-- what may stand where a prefix expression is read for a role
abbrev pub suits : Role → Expression → Bool
suits Role.Operand e = true
suits Role.Statement e = is_call e || is_target e
suits Role.Target e = is_target e

-- what a goal's completed answer is
abbrev pub good_of : {answer : Phrase} → Goal answer → Meant answer → Bool
good_of (prefix d role) e = suits role e
good_of (suffix d role on) e = suits role e
good_of (field_of d on) e = is_target e
good_of (index_of d on) e = is_target e
good_of (method_of d role on) e = is_call e
good_of (call_of d role on) e = is_call e
good_of goal meant = true

-- tokens with which a program comes to an answer, from where it is
pub record Ends (most : ℕ) {answer : Phrase} (stop first : Option TokenKind → Bool) (good : Meant answer → Bool) (program : Program answer) (before : ℕ) : Type 0 where
  pub new : List Token
  pub meant : Meant answer
  pub last : ℕ
  pub fine : good meant ≡ true
  pub starts : (rest : List Token) → stop (kind_of rest) ≡ true → first (kind_of (new ++ rest)) ≡ true
  pub run : (rest : List Token) → stop (kind_of rest) ≡ true → Runs most answer program before (new ++ rest) (done meant last rest)

-- and with which it does so behind some tokens
pub record Completed (most : ℕ) {answer : Phrase} (stop : Option TokenKind → Bool) (good : Meant answer → Bool) (program : Program answer) (before : ℕ) (front : List Token) : Type 0 where
  pub new : List Token
  pub meant : Meant answer
  pub last : ℕ
  pub fine : good meant ≡ true
  pub run : (rest : List Token) → stop (kind_of rest) ≡ true → Runs most answer program before (front ++ (new ++ rest)) (done meant last rest)

-- what a goal needs for that
abbrev pub Ready : ℕ → {answer : Phrase} → Goal answer → Type 0
Ready most (generic_of d name) = d + 1 ≤ most
Ready most goal = Unit {0}

-- behind each token that it takes a program can end, by what holds of its calls
abbrev pub Opens : ℕ → {answer : Phrase} → (Option TokenKind → Bool) → (Meant answer → Bool) → Program answer → ℕ → Type 0
Opens most ending good (give meant) before = Unit {0}
Opens most ending good stop before = Unit {0}
Opens most ending good (look after) before = (kind : TokenKind) (line : ℕ) → Opens most ending good (after before (Some kind) line) before
Opens most ending good (skip depth after) before = depth ≤ most → (line : ℕ) → Ends most ending any_token good after line × Opens most ending good after line
Opens most ending good (want kind after) before = (line : ℕ) → Ends most ending any_token good after line × Opens most ending good after line
Opens most ending good (choose kind this other) before = Opens most ending good this before × Opens most ending good other before
Opens most {answer} ending good (call {inner} goal after) before =
    Ready most goal
    × ((meant : Meant inner) (last : ℕ) → good_of goal meant ≡ true → Fits most goal meant → Ends most ending (stop_of goal) good (after meant) last)
    × ((meant : Meant inner) (last : ℕ) → Fits most goal meant → Opens most ending good (after meant) last)

abbrev pub AllOpen : ℕ → Type 0
AllOpen most = (answer : Phrase) (goal : Goal answer) (before : ℕ) → Ready most goal → Opens most (stop_of goal) (good_of goal) (reads goal) before

-- tokens at which a goal stops
pub record Witness (ending : Option TokenKind → Bool) : Type 0 where
  pub tokens : List Token
  pub ends : ending (kind_of tokens) ≡ true

abbrev pub mark : TokenKind → Token
mark kind = record { kind = kind; at = 0; line = 0 }

ends_names_last : (kind : TokenKind) → ends_names kind None ≡ true
ends_names_last TokenKind.Comma = refl
ends_names_last TokenKind.Dot = refl
ends_names_last kind = refl

witness : {answer : Phrase} (goal : Goal answer) → Witness (stop_of goal)
witness (targets d e) = record { tokens = mark TokenKind.Equal ∷ []; ends = refl }
witness (listed d) = record { tokens = mark TokenKind.CloseParen ∷ []; ends = refl }
witness (fields d) = record { tokens = mark TokenKind.CloseBrace ∷ []; ends = refl }
witness (one_field d) = record { tokens = mark TokenKind.CloseBrace ∷ []; ends = refl }
witness (keyed_of d) = record { tokens = mark TokenKind.CloseBrace ∷ []; ends = refl }
witness (named_of d start name) = record { tokens = mark TokenKind.CloseBrace ∷ []; ends = refl }
witness separator = record { tokens = mark TokenKind.CloseBrace ∷ []; ends = refl }
witness (more_names_by kind) = record { tokens = []; ends = ends_names_last kind }
witness goal = record { tokens = []; ends = refl }

-- what begins can be completed
pub completes : {most : ℕ} {answer : Phrase} {program : Program answer} {before : ℕ} {front : List Token} (ending : Option TokenKind → Bool) (good : Meant answer → Bool) → AllOpen most →
    Begins most answer program before front → Opens most ending good program before → Completed most ending good program before front
completes ending good all (looked {token} a) o =
    let c = completes ending good all a (o token.kind token.line) in
    record { new = c.new; meant = c.meant; last = c.last; fine = c.fine; run = λ rest s. looks (c.run rest s) }
completes ending good all (skipped_last {token} h) o =
    let e = (o h token.line).0 in
    record { new = e.new; meant = e.meant; last = e.last; fine = e.fine; run = λ rest s. skips h (e.run rest s) }
completes ending good all (skipped {token} h a) o =
    let c = completes ending good all a (o h token.line).1 in
    record { new = c.new; meant = c.meant; last = c.last; fine = c.fine; run = λ rest s. skips h (c.run rest s) }
completes ending good all (wanted_last {token} h) o =
    let e = (o token.line).0 in
    record { new = e.new; meant = e.meant; last = e.last; fine = e.fine; run = λ rest s. wants h (e.run rest s) }
completes ending good all (wanted {token} h a) o =
    let c = completes ending good all a (o token.line).1 in
    record { new = c.new; meant = c.meant; last = c.last; fine = c.fine; run = λ rest s. wants h (c.run rest s) }
completes ending good all (chosen h a) o =
    let c = completes ending good all a o.0 in
    record { new = c.new; meant = c.meant; last = c.last; fine = c.fine; run = λ rest s. chooses h (c.run rest s) }
completes ending good all (passed h a) o =
    let c = completes ending good all a o.1 in
    record { new = c.new; meant = c.meant; last = c.last; fine = c.fine; run = λ rest s. passes h (c.run rest s) }
completes {most} {answer} {before} {front} ending good all (inside {inner} {goal} {then = after} a) o =
    let c = completes (stop_of goal) (good_of goal) all a (all inner goal before o.0) in
    let w = witness goal in
    let e = o.1 c.meant c.last c.fine (fits goal (c.run w.tokens w.ends)) in
    record {
      new = c.new ++ e.new;
      meant = e.meant;
      last = e.last;
      fine = e.fine;
      run = λ rest s. subst (λ x. Runs most answer (call goal after) before (front ++ x) (done e.meant e.last rest)) (sym (append_assoc c.new e.new rest)) (calls (c.run (e.new ++ rest) (e.starts rest s)) (e.run rest s));
    }
completes {most} {answer} {before} ending good all (behind {goal} {then = after} {last} {meant} {front} {all = whole_front} {token} first again a cut) o =
    let c = completes ending good all a (o.2 meant last (fits goal (again []))) in
    record {
      new = c.new;
      meant = c.meant;
      last = c.last;
      fine = c.fine;
      run = λ rest s. subst (λ x. Runs most answer (call goal after) before x (done c.meant c.last rest)) (sym (ap (λ x. x ++ (c.new ++ rest)) cut ∙ append_assoc first (token ∷ front) (c.new ++ rest))) (calls (again (front ++ (c.new ++ rest))) (c.run rest s));
    }

-- both: a program can end where it is, and behind each token that it takes
pub record Full (most : ℕ) {answer : Phrase} (ending first : Option TokenKind → Bool) (good : Meant answer → Bool) (program : Program answer) (before : ℕ) : Type 0 where
  pub ends : Ends most ending first good program before
  pub opens : Opens most ending good program before

-- one test on the next token is stronger than another
abbrev pub Within : (Option TokenKind → Bool) → (Option TokenKind → Bool) → Type 0
Within ending first = (kind : Option TokenKind) → ending kind ≡ true → first kind ≡ true

pub same_test : (ending : Option TokenKind → Bool) → Within ending ending
same_test ending kind s = s

-- ends of programs by ends of their parts
pub end_give : {most : ℕ} {answer : Phrase} {ending first : Option TokenKind → Bool} {good : Meant answer → Bool} {meant : Meant answer} {before : ℕ} →
    good meant ≡ true → Within ending first → Ends most ending first good (give meant) before
end_give {meant} {before} fine within = record { new = []; meant = meant; last = before; fine = fine; starts = λ rest s. within (kind_of rest) s; run = λ rest s. gives }

pub end_want : {most : ℕ} {answer : Phrase} {ending first : Option TokenKind → Bool} {good : Meant answer → Bool} {kind : TokenKind} {after : Program answer} {before : ℕ} →
    first (Some kind) ≡ true → Ends most ending any_token good after 0 → Ends most ending first good (want kind after) before
end_want {kind} h e = record { new = mark kind ∷ e.new; meant = e.meant; last = e.last; fine = e.fine; starts = λ rest s. h; run = λ rest s. wants refl (e.run rest s) }

pub end_call : {most : ℕ} {answer inner : Phrase} {ending first : Option TokenKind → Bool} {good : Meant answer → Bool} {goal : Goal inner} {after : Meant inner → Program answer} {before : ℕ} →
    Ends most (stop_of goal) first (good_of goal) (reads goal) before →
    ((meant : Meant inner) (last : ℕ) → good_of goal meant ≡ true → Fits most goal meant → Ends most ending (stop_of goal) good (after meant) last) →
    Ends most ending first good (call goal after) before
end_call {most} {answer} {first} {goal} {after} {before} c f =
    let w = witness goal in
    let e = f c.meant c.last c.fine (fits goal (c.run w.tokens w.ends)) in
    record {
      new = c.new ++ e.new;
      meant = e.meant;
      last = e.last;
      fine = e.fine;
      starts = λ rest s. subst (λ x. first (kind_of x) ≡ true) (sym (append_assoc c.new e.new rest)) (c.starts (e.new ++ rest) (e.starts rest s));
      run = λ rest s. subst (λ x. Runs most answer (call goal after) before x (done e.meant e.last rest)) (sym (append_assoc c.new e.new rest)) (calls (c.run (e.new ++ rest) (e.starts rest s)) (e.run rest s));
    }

pub end_become : {most : ℕ} {answer : Phrase} {ending first : Option TokenKind → Bool} {good : Meant answer → Bool} {goal : Goal answer} {before : ℕ} →
    Ends most (stop_of goal) first (good_of goal) (reads goal) before → ((meant : Meant answer) → good_of goal meant ≡ true → good meant ≡ true) → Within ending (stop_of goal) →
    Ends most ending first good (become goal) before
end_become e good_in within = end_call e (λ meant last fine fit. end_give (good_in meant fine) within)

-- and the same of both
pub full_give : {most : ℕ} {answer : Phrase} {ending first : Option TokenKind → Bool} {good : Meant answer → Bool} {meant : Meant answer} {before : ℕ} →
    good meant ≡ true → Within ending first → Full most ending first good (give meant) before
full_give fine within = record { ends = end_give fine within; opens = tt }

pub full_want : {most : ℕ} {answer : Phrase} {ending first : Option TokenKind → Bool} {good : Meant answer → Bool} {kind : TokenKind} {after : Program answer} {before : ℕ} →
    first (Some kind) ≡ true → ((line : ℕ) → Full most ending any_token good after line) → Full most ending first good (want kind after) before
full_want h f = record { ends = end_want h (f 0).ends; opens = λ line. let r = f line in (r.ends, r.opens) }

pub opens_call : {most : ℕ} {answer inner : Phrase} {ending : Option TokenKind → Bool} {good : Meant answer → Bool} (goal : Goal inner) {after : Meant inner → Program answer} → Ready most goal →
    ((meant : Meant inner) (last : ℕ) → Fits most goal meant → Full most ending (stop_of goal) good (after meant) last) → Opens most ending good (call goal after) 0
opens_call goal ready f = (ready, λ meant last fine fit. let r = f meant last fit in r.ends, λ meant last fit. let r = f meant last fit in r.opens)

pub full_call : {most : ℕ} {answer inner : Phrase} {ending first : Option TokenKind → Bool} {good : Meant answer → Bool} {goal : Goal inner} {after : Meant inner → Program answer} {before : ℕ} →
    Ready most goal → Ends most (stop_of goal) first (good_of goal) (reads goal) before →
    ((meant : Meant inner) (last : ℕ) → Fits most goal meant → Full most ending (stop_of goal) good (after meant) last) → Full most ending first good (call goal after) before
full_call {goal} ready e f = record { ends = end_call e (λ meant last fine fit. let r = f meant last fit in r.ends); opens = opens_call goal ready f }

pub opens_become : {most : ℕ} {answer : Phrase} {ending : Option TokenKind → Bool} {good : Meant answer → Bool} (goal : Goal answer) → Ready most goal →
    ((meant : Meant answer) → good_of goal meant ≡ true → good meant ≡ true) → Within ending (stop_of goal) → Opens most ending good (become goal) 0
opens_become goal ready good_in within = (ready, λ meant last fine fit. end_give (good_in meant fine) within, λ meant last fit. tt)

pub full_become : {most : ℕ} {answer : Phrase} {ending first : Option TokenKind → Bool} {good : Meant answer → Bool} {goal : Goal answer} {before : ℕ} →
    Ready most goal → Ends most (stop_of goal) first (good_of goal) (reads goal) before → ((meant : Meant answer) → good_of goal meant ≡ true → good meant ≡ true) → Within ending (stop_of goal) →
    Full most ending first good (become goal) before
full_become {goal} ready e good_in within = record { ends = end_become e good_in within; opens = opens_become goal ready good_in within }

pub opens_skip : {most : ℕ} {answer : Phrase} {ending : Option TokenKind → Bool} {good : Meant answer → Bool} {depth : ℕ} {after : Program answer} →
    (depth ≤ most → (line : ℕ) → Full most ending any_token good after line) → Opens most ending good (skip depth after) 0
opens_skip f = λ h line. let r = f h line in (r.ends, r.opens)
