-- Steps of a run, from what the parser's functions answer.
use Rattle.std.proofs.Common.{cond, ◌≡◌, ℕ, ◌≤◌, Bool, true, false, List, [], ◌∷◌, Option, Some, refl, sym, subst, ap, arith}
use Rattle.lua_num.specs.Bytes.{Text}
use Rattle.lua_tree.specs.Spelled.{Phrase, names_phrase, more_names_phrase, Meant}
use Rattle.lua_tree.specs.declared.token.Token.{Token}
use Rattle.lua_tree.specs.declared.token.TokenKind.{TokenKind}
use Rattle.parser.specs.declared.cursor.Halt.{Halt}
use Rattle.parser.specs.Program.{Goal, Program, give, stop, look, skip, want, choose, call, become, more_names_by, reads}
use Rattle.parser.specs.Runs.{Why, unexpected, too_deep, kind_of, line_of, End, done, fault, Runs, gives, stops, looks, skips, deep, ends, wants, misses, chooses, passes, calls, fails}
use Rattle.parser.proofs.Ends.{one_end}
use Rattle.parser.proofs.RunSteps.{tail}
use Rattle.parser.specs.Finds.{Accepts, Takes, Tests, TakesNot, IsNoNext, Wants, WantsNot, Outcome, found, halted, Means, Leads, Finds, Refuses, FindsNames, RefusesNames}
use Rattle.parser.specs.Loops.{names_with}

pub finds : {answer : Phrase} {goal : Goal answer} {before last : ℕ} {tokens rest : List Token} {meant : Meant answer} →
    Leads (reads goal) before tokens (found meant last rest) → Finds goal before tokens meant last rest
finds r = record { leads = r }

pub refuses : {answer : Phrase} {goal : Goal answer} {before : ℕ} {tokens rest : List Token} {halt : Halt} →
    Leads (reads goal) before tokens (halted halt rest) → Refuses goal before tokens rest halt
refuses r = record { leads = r }

pub finds_names : {mark : TokenKind} {first : Text} {before last : ℕ} {tokens rest : List Token} {names : List Text} →
    Leads (names_with mark (first ∷ [])) before tokens (found names last rest) → FindsNames mark first before tokens names last rest
finds_names r = record { leads = r }

pub refuses_names : {mark : TokenKind} {first : Text} {before : ℕ} {tokens rest : List Token} {halt : Halt} →
    Leads (names_with mark (first ∷ [])) before tokens (halted halt rest) → RefusesNames mark first before tokens rest halt
refuses_names r = record { leads = r }

-- a run to a known end
lead_to : {answer : Phrase} {program : Program answer} {before last : ℕ} {tokens rest : List Token} {meant : Meant answer} →
    Runs 200 answer program before tokens (done meant last rest) → Leads program before tokens (found meant last rest)
lead_to {answer} {program} {before} {last} {tokens} {rest} {meant} r = record { run = λ end m. subst (λ x. Runs 200 answer program before tokens x) (sym m) r }

pub lead_give : {answer : Phrase} {meant : Meant answer} {before : ℕ} {tokens : List Token} → Leads (give meant) before tokens (found meant before tokens)
lead_give = lead_to gives

pub lead_answer : {answer : Phrase} {meant other : Meant answer} {before : ℕ} {tokens : List Token} → other ≡ meant → Leads (give meant) before tokens (found other before tokens)
lead_answer {answer} {meant} {other} {before} {tokens} e = subst (λ x. Leads (give meant) before tokens (found x before tokens)) (sym e) lead_give

pub lead_stop : {answer : Phrase} {before : ℕ} {tokens : List Token} → Leads {answer = answer} stop before tokens (halted Halt.Unexpected tokens)
lead_stop {answer} {before} {tokens} = record { run = λ end m. subst (λ x. Runs 200 answer stop before tokens x) (sym m) stops }

pub lead_memory : {answer : Phrase} {program : Program answer} {before : ℕ} {tokens rest : List Token} → Leads program before tokens (halted Halt.OutOfMemory rest)
lead_memory = record { run = λ end m. absurd m }

pub lead_look : {answer : Phrase} {then : ℕ → Option TokenKind → ℕ → Program answer} {before : ℕ} {tokens : List Token} {outcome : Outcome answer} →
    Leads (then before (kind_of tokens) (line_of tokens)) before tokens outcome → Leads (look then) before tokens outcome
lead_look l = record { run = λ end m. looks (l.run end m) }

pub lead_skip : {answer : Phrase} {depth needed : ℕ} {then : Program answer} {before line : ℕ} {tokens rest : List Token} {outcome : Outcome answer} →
    Takes depth tokens line rest → needed ≡ depth → Leads then line rest outcome → Leads (skip needed then) before tokens outcome
lead_skip {answer} {depth} {needed} {then} {before} {line} {tokens} {rest} {outcome} t n l = record {
  run = λ end m.
      subst (λ x. Runs 200 answer (skip needed then) before x end) (sym t.first) (skips (subst (λ x. x ≤ 200) (sym n) t.low) (subst (λ x. Runs 200 answer then x rest end) t.on (l.run end m)));
}

take_fault : {answer : Phrase} {depth : ℕ} {then : Program answer} {before : ℕ} (tokens : List Token) (halt : Halt) → IsNoNext depth tokens halt →
    (end : End answer) → Means {answer = answer} (halted halt tokens) end → Runs 200 answer (skip depth then) before tokens end
take_fault {answer} {depth} {then} {before} [] halt w end m =
    let f : Means {answer = answer} (halted Halt.Unexpected []) end = subst (λ x. Means {answer = answer} (halted x []) end) w m in
    subst (λ x. Runs 200 answer (skip depth then) before [] x) (sym f) ends
take_fault {answer} {depth} {then} {before} (token ∷ tokens) halt w end m =
    let f : Means {answer = answer} (halted Halt.TooDeep (token ∷ tokens)) end = subst (λ x. Means {answer = answer} (halted x (token ∷ tokens)) end) w.0 m in
    subst (λ x. Runs 200 answer (skip depth then) before (token ∷ tokens) x) (sym f) (deep w.1)

pub lead_skip_not : {answer : Phrase} {depth needed : ℕ} {then : Program answer} {before : ℕ} {tokens rest : List Token} {halt : Halt} →
    TakesNot depth tokens rest halt → needed ≡ depth → Leads (skip needed then) before tokens (halted halt rest)
lead_skip_not {answer} {depth} {needed} {then} {before} {tokens} {rest} {halt} t n =
    subst (λ x. Leads (skip x then) before tokens (halted halt rest)) (sym n)
    (subst (λ x. Leads (skip depth then) before tokens (halted halt x)) (sym t.left) (record { run = take_fault tokens halt t.why }))

pub lead_want : {answer : Phrase} {kind : TokenKind} {then : Program answer} {before line : ℕ} {tokens rest : List Token} {outcome : Outcome answer} →
    Wants kind tokens line rest → Leads then line rest outcome → Leads (want kind then) before tokens outcome
lead_want {answer} {kind} {then} {before} {line} {tokens} {rest} {outcome} t l = record {
  run = λ end m.
      subst (λ x. Runs 200 answer (want kind then) before x end) (sym t.first) (wants t.is (subst (λ x. Runs 200 answer then x rest end) t.on (l.run end m)));
}

pub lead_want_not : {answer : Phrase} {kind : TokenKind} {then : Program answer} {before : ℕ} {tokens rest : List Token} {halt : Halt} →
    WantsNot kind tokens rest halt → Leads (want kind then) before tokens (halted halt rest)
lead_want_not {answer} {kind} {then} {before} {tokens} {rest} {halt} w =
    subst (λ x. Leads (want kind then) before tokens (halted halt x)) (sym w.left)
    (subst (λ x. Leads (want kind then) before tokens (halted x tokens)) (sym w.why)
    (record { run = λ end m. subst (λ x. Runs 200 answer (want kind then) before tokens x) (sym m) (misses w.not) }))

pub lead_yes : {answer : Phrase} {next : Bool} {kind : TokenKind} {yes no : Program answer} {before : ℕ} {tokens : List Token} {outcome : Outcome answer} →
    Tests kind tokens next → next ≡ true → Leads yes before tokens outcome → Leads (choose kind yes no) before tokens outcome
lead_yes t n l = record { run = λ end m. chooses (t.yes n) (l.run end m) }

pub lead_no : {answer : Phrase} {next : Bool} {kind : TokenKind} {yes no : Program answer} {before : ℕ} {tokens : List Token} {outcome : Outcome answer} →
    Tests kind tokens next → next ≡ false → Leads no before tokens outcome → Leads (choose kind yes no) before tokens outcome
lead_no t n l = record { run = λ end m. passes (t.no n) (l.run end m) }

-- a mark that is taken where it is next
pub lead_accept : {answer : Phrase} {next : Bool} {kind : TokenKind} {yes no : Program answer} {before line : ℕ} {tokens rest : List Token} {outcome : Outcome answer} →
    Accepts kind before tokens line rest next → next ≡ true → Leads yes line rest outcome → Leads (choose kind (skip 0 yes) no) before tokens outcome
lead_accept {answer} {kind} {yes} {no} {before} {rest} {outcome} a n l =
    let w = a.yes n in
    let low : 0 ≤ 200 = omega arith in
    record { run = λ end m. subst (λ x. Runs 200 answer (choose kind (skip 0 yes) no) before x end) (sym w.first) (chooses (ap (λ x. Some x) w.is) (skips low (subst (λ x. Runs 200 answer yes x rest end) w.on (l.run end m)))) }

pub lead_leave : {answer : Phrase} {next : Bool} {kind : TokenKind} {yes no : Program answer} {before line : ℕ} {tokens rest : List Token} {outcome : Outcome answer} →
    Accepts kind before tokens line rest next → next ≡ false → Leads no line rest outcome → Leads (choose kind yes no) before tokens outcome
lead_leave {answer} {no} {line} {tokens} a n l =
    let w = a.no n in
    record { run = λ end m. passes w.not (subst (λ x. Runs 200 answer no x tokens end) w.on (subst (λ x. Runs 200 answer no line x end) w.left (l.run end m))) }

pub lead_call : {answer inner : Phrase} {goal : Goal inner} {then : Meant inner → Program answer} {before last : ℕ} {tokens rest : List Token} {meant : Meant inner} {outcome : Outcome answer} →
    Finds goal before tokens meant last rest → Leads (then meant) last rest outcome → Leads (call goal then) before tokens outcome
lead_call f l = record { run = λ end m. calls (f.leads.run _ refl) (l.run end m) }

call_fault : {answer inner : Phrase} {goal : Goal inner} {then : Meant inner → Program answer} {before : ℕ} {tokens rest : List Token} (halt : Halt) →
    Refuses goal before tokens rest halt → (end : End answer) → Means {answer = answer} (halted halt rest) end → Runs 200 answer (call goal then) before tokens end
call_fault {answer} {inner} {goal} {then} {before} {tokens} Halt.Unexpected r end m =
    subst (λ x. Runs 200 answer (call goal then) before tokens x) (sym m) (fails (r.leads.run _ refl))
call_fault {answer} {inner} {goal} {then} {before} {tokens} Halt.TooDeep r end m =
    subst (λ x. Runs 200 answer (call goal then) before tokens x) (sym m) (fails (r.leads.run _ refl))
call_fault Halt.OutOfMemory r end m = absurd m

pub lead_call_not : {answer inner : Phrase} {goal : Goal inner} {then : Meant inner → Program answer} {before : ℕ} {tokens rest : List Token} {halt : Halt} →
    Refuses goal before tokens rest halt → Leads (call goal then) before tokens (halted halt rest)
lead_call_not {halt} r = record { run = call_fault halt r }

pub lead_then : {answer : Phrase} {before : ℕ} {tokens : List Token} {outcome : Outcome answer} (test : Bool) (one other : Program answer) → test ≡ true → Leads one before tokens outcome → Leads (cond test one other) before tokens outcome
lead_then {before} {tokens} {outcome} test one other e l = subst (λ x. Leads (cond x one other) before tokens outcome) (sym e) l

pub lead_else : {answer : Phrase} {before : ℕ} {tokens : List Token} {outcome : Outcome answer} (test : Bool) (one other : Program answer) → test ≡ false → Leads other before tokens outcome → Leads (cond test one other) before tokens outcome
lead_else {before} {tokens} {outcome} test one other e l = subst (λ x. Leads (cond x one other) before tokens outcome) (sym e) l

pub lead_become : {answer : Phrase} {goal : Goal answer} {before : ℕ} {tokens : List Token} {outcome : Outcome answer} → Leads (reads goal) before tokens outcome → Leads (become goal) before tokens outcome
lead_become l = record { run = λ end m. tail (l.run end m) }

out_of : {answer : Phrase} {goal : Goal answer} {before : ℕ} {tokens : List Token} (end : End answer) → Runs 200 answer (become goal) before tokens end → Runs 200 answer (reads goal) before tokens end
out_of {answer} {goal} {before} {tokens} end (calls r s) = subst (λ x. Runs 200 answer (reads goal) before tokens x) (one_end gives s) r
out_of (fault why rest) (fails r) = r

pub lead_open : {answer : Phrase} {goal : Goal answer} {before : ℕ} {tokens : List Token} {outcome : Outcome answer} → Leads (become goal) before tokens outcome → Leads (reads goal) before tokens outcome
lead_open l = record { run = λ end m. out_of end (l.run end m) }

-- a goal whose items follow one another: what the rest answers, with the first before it, is the answer
pub lead_more : {answer inner outer : Phrase} {goal : Goal outer} {next : Goal inner} {then : Meant outer → Program answer} {before line : ℕ} {tokens rest : List Token} {outcome : Outcome answer} (add : Meant inner → Meant outer) →
    ((all : Outcome outer) → Leads (call next (λ meant. give (add meant))) line rest all → Leads (reads goal) before tokens all) →
    Leads (call next (λ meant. then (add meant))) line rest outcome → Leads (call goal then) before tokens outcome
lead_more {answer} {inner} {outer} {goal} {next} {then} {before} {line} {tokens} {rest} {outcome} add step l = record { run = λ end m. go end (l.run end m) }
  where
    go : (end : End answer) → Runs 200 answer (call next (λ meant. then (add meant))) line rest end → Runs 200 answer (call goal then) before tokens end
    go end (calls {last} {rest = left} {meant} r s) = calls ((step (found (add meant) last left) (record { run = λ e m. subst (λ x. Runs 200 outer (call next (λ meant. give (add meant))) line rest x) (sym m) (calls r gives) })).run _ refl) s
    go end (fails {rest = left} {why = unexpected} r) = fails ((step (halted Halt.Unexpected left) (record { run = λ e m. subst (λ x. Runs 200 outer (call next (λ meant. give (add meant))) line rest x) (sym m) (fails r) })).run _ refl)
    go end (fails {rest = left} {why = too_deep} r) = fails ((step (halted Halt.TooDeep left) (record { run = λ e m. subst (λ x. Runs 200 outer (call next (λ meant. give (add meant))) line rest x) (sym m) (fails r) })).run _ refl)

-- what follows an end
abbrev After : {answer outer : Phrase} → (Meant outer → Program answer) → End outer → End answer → Type 0
After {answer} then (done meant last rest) end = Runs 200 answer (then meant) last rest end
After then (fault why rest) end = Unit {0}

through : {answer inner outer : Phrase} {goal : Goal inner} (then : Meant outer → Program answer) {before last : ℕ} {tokens rest : List Token} {meant : Meant outer} {end : End answer} (made : Meant inner → Meant outer) →
    Runs 200 outer (call goal (λ part. give (made part))) before tokens (done meant last rest) → Runs 200 answer (then meant) last rest end → Runs 200 answer (call goal (λ part. then (made part))) before tokens end
through then {end} made (calls r s) k = calls r (subst (λ x. After then x end) (one_end s gives) k)

-- what follows an answer that was made of what a call answers
pub lead_through : {answer inner outer : Phrase} {goal : Goal inner} (then : Meant outer → Program answer) {before last : ℕ} {tokens rest : List Token} {meant : Meant outer} {outcome : Outcome answer} (made : Meant inner → Meant outer) →
    Leads {answer = outer} (call goal (λ part. give (made part))) before tokens (found meant last rest) → Leads (then meant) last rest outcome → Leads (call goal (λ part. then (made part))) before tokens outcome
lead_through then made l k = record { run = λ end m. through then made (l.run _ refl) (k.run end m) }

-- names that are refused are refused whatever was to follow them
names_fault : {answer : Phrase} {mark : TokenKind} {then : Meant (more_names_phrase mark) → Program answer} (read : List Text) {before : ℕ} {tokens rest : List Token} {why : Why} →
    Runs 200 (names_phrase mark) (names_with mark read) before tokens (fault why rest) → Runs 200 answer (call (more_names_by mark) then) before tokens (fault why rest)
names_fault read (calls r s) = let e = one_end gives s in cc
names_fault read (fails r) = fails r

refused_names : {answer : Phrase} {mark : TokenKind} {then : Meant (more_names_phrase mark) → Program answer} {first : Text} {before : ℕ} {tokens rest : List Token} (halt : Halt) → RefusesNames mark first before tokens rest halt →
    (end : End answer) → Means {answer = answer} (halted halt rest) end → Runs 200 answer (call (more_names_by mark) then) before tokens end
refused_names {answer} {mark} {then} {first} {before} {tokens} {rest} Halt.Unexpected r end m = subst (λ x. Runs 200 answer (call (more_names_by mark) then) before tokens x) (sym m) (names_fault (first ∷ []) (r.leads.run _ refl))
refused_names {answer} {mark} {then} {first} {before} {tokens} {rest} Halt.TooDeep r end m = subst (λ x. Runs 200 answer (call (more_names_by mark) then) before tokens x) (sym m) (names_fault (first ∷ []) (r.leads.run _ refl))
refused_names Halt.OutOfMemory r end m = absurd m

pub lead_names_not : {answer : Phrase} {mark : TokenKind} {then : Meant (more_names_phrase mark) → Program answer} {first : Text} {before : ℕ} {tokens rest : List Token} {halt : Halt} →
    RefusesNames mark first before tokens rest halt → Leads (call (more_names_by mark) then) before tokens (halted halt rest)
lead_names_not {halt} r = record { run = refused_names halt r }

pub ruleset steps = (finds, refuses, finds_names, refuses_names, lead_give, lead_stop, lead_memory, lead_look, lead_skip, lead_skip_not, lead_want, lead_want_not, lead_yes, lead_no, lead_accept, lead_leave, lead_call, lead_call_not)
