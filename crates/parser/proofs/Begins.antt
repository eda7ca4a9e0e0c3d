-- The tokens that a program takes, where it comes to no fault on the way.
use Rattle.std.proofs.Common.{◌≡◌, ℕ, ◌≤◌, List, [], ◌∷◌, ◌++◌, Option, Some, refl, sym, ◌∙◌, ap, subst, arith, append_assoc}
use Rattle.lua_tree.specs.Spelled.{Phrase, Meant}
use Rattle.lua_tree.specs.declared.token.Token.{Token}
use Rattle.lua_tree.specs.declared.token.TokenKind.{TokenKind}
use Rattle.parser.specs.Program.{Goal, Program, look, skip, want, choose, call, reads}
use Rattle.parser.specs.Runs.{unexpected, too_deep, kind_of, line_of, End, done, fault, Runs, gives, stops, looks, skips, deep, ends, wants, misses, chooses, passes, calls, fails}
use Rattle.parser.proofs.Ends.{left, SameNext, Local, local, raise}

-- some tokens can be taken, all of them: `front` is never empty
pub data Begins (most : ℕ) : (answer : Phrase) → Program answer → ℕ → List Token → Type 0 where
  looked : {answer : Phrase} {then : ℕ → Option TokenKind → ℕ → Program answer} {before : ℕ} {token : Token} {front : List Token} →
      Begins most answer (then before (Some token.kind) token.line) before (token ∷ front) → Begins most answer (look then) before (token ∷ front)
  skipped_last : {answer : Phrase} {depth : ℕ} {then : Program answer} {before : ℕ} {token : Token} →
      depth ≤ most → Begins most answer (skip depth then) before (token ∷ [])
  skipped : {answer : Phrase} {depth : ℕ} {then : Program answer} {before : ℕ} {token : Token} {front : List Token} →
      depth ≤ most → Begins most answer then token.line front → Begins most answer (skip depth then) before (token ∷ front)
  wanted_last : {answer : Phrase} {kind : TokenKind} {then : Program answer} {before : ℕ} {token : Token} →
      token.kind ≡ kind → Begins most answer (want kind then) before (token ∷ [])
  wanted : {answer : Phrase} {kind : TokenKind} {then : Program answer} {before : ℕ} {token : Token} {front : List Token} →
      token.kind ≡ kind → Begins most answer then token.line front → Begins most answer (want kind then) before (token ∷ front)
  chosen : {answer : Phrase} {kind : TokenKind} {yes no : Program answer} {before : ℕ} {token : Token} {front : List Token} →
      Some token.kind ≡ Some kind → Begins most answer yes before (token ∷ front) → Begins most answer (choose kind yes no) before (token ∷ front)
  passed : {answer : Phrase} {kind : TokenKind} {yes no : Program answer} {before : ℕ} {token : Token} {front : List Token} →
      (Some token.kind ≡ Some kind → ⊥) → Begins most answer no before (token ∷ front) → Begins most answer (choose kind yes no) before (token ∷ front)
  inside : {answer inner : Phrase} {goal : Goal inner} {then : Meant inner → Program answer} {before : ℕ} {front : List Token} →
      Begins most inner (reads goal) before front → Begins most answer (call goal then) before front
  -- the callee reads what stands before `token`, whatever follows that
  behind : {answer inner : Phrase} {goal : Goal inner} {then : Meant inner → Program answer} {before last : ℕ} {meant : Meant inner} {front all : List Token} {token : Token} (first : List Token) →
      ((other : List Token) → Runs most inner (reads goal) before (first ++ token ∷ other) (done meant last (token ∷ other))) →
      Begins most answer (then meant) last (token ∷ front) → all ≡ first ++ token ∷ front → Begins most answer (call goal then) before all

-- no tokens, or some that a program begins with
abbrev pub Took : ℕ → {answer : Phrase} → Program answer → ℕ → List Token → Type 0
Took most program before [] = Unit {0}
Took most {answer} program before (token ∷ front) = Begins most answer program before (token ∷ front)

-- the tokens before an end
pub record Taken (most : ℕ) {answer : Phrase} (program : Program answer) (before : ℕ) (tokens rest : List Token) : Type 0 where
  pub front : List Token
  pub cut : tokens ≡ front ++ rest
  pub took : Took most program before front

-- what a step takes besides what its program goes on with
took_skip : {most : ℕ} {answer : Phrase} {depth : ℕ} {then : Program answer} (before : ℕ) (token : Token) (front : List Token) → depth ≤ most → Took most then token.line front → Begins most answer (skip depth then) before (token ∷ front)
took_skip before token [] h t = skipped_last h
took_skip before token (next ∷ front) h t = skipped h t

took_want : {most : ℕ} {answer : Phrase} {kind : TokenKind} {then : Program answer} (before : ℕ) (token : Token) (front : List Token) → token.kind ≡ kind → Took most then token.line front → Begins most answer (want kind then) before (token ∷ front)
took_want before token [] h t = wanted_last h
took_want before token (next ∷ front) h t = wanted h t

took_inside : (most : ℕ) {answer inner : Phrase} (goal : Goal inner) (then : Meant inner → Program answer) (before : ℕ) (front : List Token) → Took most (reads goal) before front → Took most (call goal then) before front
took_inside most goal then before [] t = tt
took_inside most goal then before (token ∷ front) t = inside t

-- a callee's run, whatever follows the first token left
again_behind : {most : ℕ} {answer : Phrase} {program : Program answer} {before last : ℕ} {tokens rest : List Token} {meant : Meant answer} (token : Token) (left : List Token) →
    rest ≡ token ∷ left → (r : Local most program before tokens (done meant last rest)) →
    (other : List Token) → Runs most answer program before (r.front ++ token ∷ other) (done meant last (token ∷ other))
again_behind {rest} token left e r other = r.again (token ∷ other) (subst (λ x. SameNext (token ∷ other) x) (sym e) (record { kind = refl; line = refl }))

took_look : (most : ℕ) {answer : Phrase} (then : ℕ → Option TokenKind → ℕ → Program answer) (before : ℕ) (tokens front rest : List Token) → tokens ≡ front ++ rest →
    Took most (then before (kind_of tokens) (line_of tokens)) before front → Took most (look then) before front
took_look most then before tokens [] rest e t = tt
took_look most {answer} then before tokens (token ∷ front) rest e t =
    looked (subst (λ x. Begins most answer (then before (kind_of x) (line_of x)) before (token ∷ front)) e t)

took_yes : (most : ℕ) {answer : Phrase} (kind : TokenKind) (yes no : Program answer) (before : ℕ) (tokens front rest : List Token) → tokens ≡ front ++ rest → kind_of tokens ≡ Some kind →
    Took most yes before front → Took most (choose kind yes no) before front
took_yes most kind p q before tokens [] rest e h t = tt
took_yes most kind p q before tokens (token ∷ front) rest e h t = chosen (ap kind_of (sym e) ∙ h) t

took_no : (most : ℕ) {answer : Phrase} (kind : TokenKind) (yes no : Program answer) (before : ℕ) (tokens front rest : List Token) → tokens ≡ front ++ rest → (kind_of tokens ≡ Some kind → ⊥) →
    Took most no before front → Took most (choose kind yes no) before front
took_no most kind p q before tokens [] rest e h t = tt
took_no most kind p q before tokens (token ∷ front) rest e h t = passed (λ k. h (ap kind_of e ∙ k)) t

-- what a callee and its caller take
took_behind : {most : ℕ} {answer inner : Phrase} {goal : Goal inner} {then : Meant inner → Program answer} {before last : ℕ} {tokens middle : List Token} {meant : Meant inner} (rest : List Token) →
    Runs most inner (reads goal) before tokens (done meant last middle) → Taken most (reads goal) before tokens middle → Taken most (then meant) last middle rest →
    Taken most (call goal then) before tokens rest
took_behind {most} {answer} {inner} {goal} {then} {before} {last} {tokens} {middle} {meant} rest a t u = go u.front u.cut u.took
  where
    go : (front : List Token) → middle ≡ front ++ rest → Took most (then meant) last front → Taken most (call goal then) before tokens rest
    go [] c w = record { front = t.front; cut = t.cut ∙ ap (λ x. t.front ++ x) c; took = took_inside most goal then before t.front t.took }
    go (token ∷ front) c w = some r.front refl
      where
        r : Local most (reads goal) before tokens (done meant last middle)
        r = local a

        all : tokens ≡ (r.front ++ token ∷ front) ++ rest
        all = r.cut ∙ ap (λ x. r.front ++ x) c ∙ sym (append_assoc r.front (token ∷ front) rest)

        found : Begins most answer (call goal then) before (r.front ++ token ∷ front)
        found = behind r.front (again_behind token (front ++ rest) c r) w refl

        some : (xs : List Token) → r.front ≡ xs → Taken most (call goal then) before tokens rest
        some [] e = record { front = token ∷ front; cut = subst (λ x. tokens ≡ (x ++ token ∷ front) ++ rest) e all; took = subst (λ x. Begins most answer (call goal then) before (x ++ token ∷ front)) e found }
        some (x ∷ xs) e = record { front = x ∷ (xs ++ token ∷ front); cut = subst (λ x. tokens ≡ (x ++ token ∷ front) ++ rest) e all; took = subst (λ x. Begins most answer (call goal then) before (x ++ token ∷ front)) e found }

-- a program begins with the tokens that it took before its end
pub taken : {most : ℕ} {answer : Phrase} {program : Program answer} {before : ℕ} {tokens : List Token} {end : End answer} →
    Runs most answer program before tokens end → Taken most program before tokens (left end)
taken gives = record { front = []; cut = refl; took = tt }
taken stops = record { front = []; cut = refl; took = tt }
taken {most} {before} {tokens} {end} (looks {then} a) =
    let t = taken a in
    record { front = t.front; cut = t.cut; took = took_look most then before tokens t.front (left end) t.cut t.took }
taken {before} (skips {token} h a) =
    let t = taken a in
    record { front = token ∷ t.front; cut = ap (λ x. token ∷ x) t.cut; took = took_skip before token t.front h t.took }
taken (deep h) = record { front = []; cut = refl; took = tt }
taken ends = record { front = []; cut = refl; took = tt }
taken {before} (wants {token} h a) =
    let t = taken a in
    record { front = token ∷ t.front; cut = ap (λ x. token ∷ x) t.cut; took = took_want before token t.front h t.took }
taken (misses h) = record { front = []; cut = refl; took = tt }
taken {most} {before} {tokens} {end} (chooses {kind} {yes = p} {no = q} h a) =
    let t = taken a in
    record { front = t.front; cut = t.cut; took = took_yes most kind p q before tokens t.front (left end) t.cut h t.took }
taken {most} {before} {tokens} {end} (passes {kind} {yes = p} {no = q} h a) =
    let t = taken a in
    record { front = t.front; cut = t.cut; took = took_no most kind p q before tokens t.front (left end) t.cut h t.took }
taken {end} (calls a b) = took_behind (left end) a (taken a) (taken b)
taken {most} {before} (fails {goal} {then} a) =
    let t = taken a in
    record { front = t.front; cut = t.cut; took = took_inside most goal then before t.front t.took }

-- the tokens up to one that was too deep, within a greater depth
pub record Deeper (most : ℕ) {answer : Phrase} (program : Program answer) (before : ℕ) (tokens : List Token) (token : Token) (rest : List Token) : Type 0 where
  pub front : List Token
  pub cut : tokens ≡ front ++ token ∷ rest
  pub more : ℕ
  pub above : most ≤ more
  pub begins : Begins more answer program before (front ++ token ∷ [])

-- the same steps, up to a token that was too deep
deeper_behind : {most : ℕ} {answer inner : Phrase} {goal : Goal inner} {then : Meant inner → Program answer} {before last : ℕ} {tokens middle : List Token} {meant : Meant inner} {token : Token} {rest : List Token} →
    Runs most inner (reads goal) before tokens (done meant last middle) → Deeper most (then meant) last middle token rest → Deeper most (call goal then) before tokens token rest
deeper_behind {most} {answer} {inner} {goal} {then} {before} {last} {tokens} {middle} {meant} {token} {rest} a u = go u.front u.cut u.begins
  where
    r : Local most (reads goal) before tokens (done meant last middle)
    r = local a

    raised : (next : Token) (left : List Token) → middle ≡ next ∷ left → (other : List Token) → Runs u.more inner (reads goal) before (r.front ++ next ∷ other) (done meant last (next ∷ other))
    raised next left e other = raise u.above tt (again_behind next left e r other)

    go : (front : List Token) → middle ≡ front ++ token ∷ rest → Begins u.more answer (then meant) last (front ++ token ∷ []) → Deeper most (call goal then) before tokens token rest
    go [] c b = record { front = r.front; cut = r.cut ∙ ap (λ x. r.front ++ x) c; more = u.more; above = u.above; begins = behind r.front (raised token rest c) b refl }
    go (next ∷ front) c b = record {
      front = r.front ++ next ∷ front;
      cut = r.cut ∙ ap (λ x. r.front ++ x) c ∙ sym (append_assoc r.front (next ∷ front) (token ∷ rest));
      more = u.more;
      above = u.above;
      begins = behind r.front (raised next (front ++ token ∷ rest) c) b (append_assoc r.front (next ∷ front) (token ∷ []));
    }

deeper_look : {most : ℕ} {answer : Phrase} {then : ℕ → Option TokenKind → ℕ → Program answer} (before : ℕ) (tokens : List Token) (token : Token) (rest : List Token) →
    Deeper most (then before (kind_of tokens) (line_of tokens)) before tokens token rest → Deeper most (look then) before tokens token rest
deeper_look {most} {answer} {then} before tokens token rest u = go u.front u.cut u.begins
  where
    go : (front : List Token) → tokens ≡ front ++ token ∷ rest → Begins u.more answer (then before (kind_of tokens) (line_of tokens)) before (front ++ token ∷ []) → Deeper most (look then) before tokens token rest
    go [] c b = record { front = []; cut = c; more = u.more; above = u.above; begins = looked (subst (λ x. Begins u.more answer (then before (kind_of x) (line_of x)) before (token ∷ [])) c b) }
    go (next ∷ front) c b = record { front = next ∷ front; cut = c; more = u.more; above = u.above; begins = looked (subst (λ x. Begins u.more answer (then before (kind_of x) (line_of x)) before (next ∷ front ++ token ∷ [])) c b) }

deeper_yes : {most : ℕ} {answer : Phrase} {kind : TokenKind} {yes no : Program answer} (before : ℕ) (tokens : List Token) (token : Token) (rest : List Token) → kind_of tokens ≡ Some kind →
    Deeper most yes before tokens token rest → Deeper most (choose kind yes no) before tokens token rest
deeper_yes {most} {answer} {kind} {yes} {no} before tokens token rest h u = go u.front u.cut u.begins
  where
    go : (front : List Token) → tokens ≡ front ++ token ∷ rest → Begins u.more answer yes before (front ++ token ∷ []) → Deeper most (choose kind yes no) before tokens token rest
    go [] c b = record { front = []; cut = c; more = u.more; above = u.above; begins = chosen (ap kind_of (sym c) ∙ h) b }
    go (next ∷ front) c b = record { front = next ∷ front; cut = c; more = u.more; above = u.above; begins = chosen (ap kind_of (sym c) ∙ h) b }

deeper_no : {most : ℕ} {answer : Phrase} {kind : TokenKind} {yes no : Program answer} (before : ℕ) (tokens : List Token) (token : Token) (rest : List Token) → (kind_of tokens ≡ Some kind → ⊥) →
    Deeper most no before tokens token rest → Deeper most (choose kind yes no) before tokens token rest
deeper_no {most} {answer} {kind} {yes} {no} before tokens token rest h u = go u.front u.cut u.begins
  where
    go : (front : List Token) → tokens ≡ front ++ token ∷ rest → Begins u.more answer no before (front ++ token ∷ []) → Deeper most (choose kind yes no) before tokens token rest
    go [] c b = record { front = []; cut = c; more = u.more; above = u.above; begins = passed (λ k. h (ap kind_of c ∙ k)) b }
    go (next ∷ front) c b = record { front = next ∷ front; cut = c; more = u.more; above = u.above; begins = passed (λ k. h (ap kind_of c ∙ k)) b }

not_deep : {answer : Phrase} {left right : List Token} (end other : End answer) → end ≡ fault unexpected left → other ≡ fault too_deep right → end ≡ other → ⊥
not_deep end other a b q = cc

abbrev as_fault : {answer : Phrase} (inner : Phrase) → End answer → End inner
as_fault inner (done meant last rest) = fault unexpected rest
as_fault inner (fault why rest) = fault why rest

-- where a token was too deep, a program begins with the tokens up to it within a greater depth
pub deeper_end : {most : ℕ} {answer : Phrase} {program : Program answer} {before : ℕ} {tokens : List Token} {end : End answer} →
    Runs most answer program before tokens end → (token : Token) (rest : List Token) → end ≡ fault too_deep (token ∷ rest) → Deeper most program before tokens token rest
deeper_end {most} (gives {answer} {meant} {before} {tokens}) token rest e = let q : done meant before tokens ≡ fault too_deep (token ∷ rest) = e in cc
deeper_end stops token rest e = absurd (not_deep _ _ refl refl e)
deeper_end {before} {tokens} (looks a) token rest e = deeper_look before tokens token rest (deeper_end a token rest e)
deeper_end (skips {token = next} h a) token rest e =
    let u = deeper_end a token rest e in
    record { front = next ∷ u.front; cut = ap (λ x. next ∷ x) u.cut; more = u.more; above = u.above; begins = skipped (let a = u.above in omega arith) u.begins }
deeper_end (deep {depth} {token = next} {tokens} h) token rest e =
    let q : next ∷ tokens ≡ token ∷ rest = ap left e in
    record { front = []; cut = q; more = depth; above = omega arith; begins = skipped_last (omega arith) }
deeper_end ends token rest e = absurd (not_deep _ _ refl refl e)
deeper_end (wants {token = next} h a) token rest e =
    let u = deeper_end a token rest e in
    record { front = next ∷ u.front; cut = ap (λ x. next ∷ x) u.cut; more = u.more; above = u.above; begins = wanted h u.begins }
deeper_end (misses h) token rest e = absurd (not_deep _ _ refl refl e)
deeper_end {before} {tokens} (chooses h a) token rest e = deeper_yes before tokens token rest h (deeper_end a token rest e)
deeper_end {before} {tokens} (passes h a) token rest e = deeper_no before tokens token rest h (deeper_end a token rest e)
deeper_end (calls a b) token rest e = deeper_behind a (deeper_end b token rest e)
deeper_end (fails {inner} {rest = rest'} {why} a) token rest e =
    let u = deeper_end a token rest (ap (λ x. as_fault inner x) e) in
    record { front = u.front; cut = u.cut; more = u.more; above = u.above; begins = inside u.begins }
