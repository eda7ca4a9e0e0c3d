-- A program has one end; it comes from the tokens up to its place, and a greater depth changes only faults of depth.
use Rattle.std.proofs.Common.{◌≡◌, ℕ, ◌<◌, ◌≤◌, List, [], ◌∷◌, ◌++◌, Some, refl, sym, ◌∙◌, ap, subst, arith, append_assoc}
use Rattle.lua_tree.specs.Spelled.{Phrase, Meant}
use Rattle.lua_tree.specs.declared.token.Token.{Token}
use Rattle.parser.specs.Program.{Program, skip}
use Rattle.parser.specs.Runs.{unexpected, too_deep, kind_of, line_of, End, done, fault, Runs, gives, stops, looks, skips, deep, ends, wants, misses, chooses, passes, calls, fails}

-- what is left to run after an end
abbrev After : ℕ → {answer inner : Phrase} → (Meant inner → Program answer) → End inner → End answer → Type 0
After most {answer} then (done meant last rest) end = Runs most answer (then meant) last rest end
After most then (fault why rest) end = end ≡ fault why rest

pub one_end : {most : ℕ} {answer : Phrase} {program : Program answer} {before : ℕ} {tokens : List Token} {end other : End answer} →
    Runs most answer program before tokens end → Runs most answer program before tokens other → end ≡ other
one_end gives gives = refl
one_end stops stops = refl
one_end (looks a) (looks b) = one_end a b
one_end (skips h a) (skips i b) = one_end a b
one_end (skips h a) (deep i) = absurd (omega arith)
one_end (deep h) (skips i b) = absurd (omega arith)
one_end (deep h) (deep i) = refl
one_end ends ends = refl
one_end (wants h a) (wants i b) = one_end a b
one_end (wants h a) (misses i) = absurd (i (ap Some h))
one_end (misses h) (wants i b) = absurd (h (ap Some i))
one_end (misses h) (misses i) = refl
one_end (chooses h a) (chooses i b) = one_end a b
one_end (chooses h a) (passes i b) = absurd (i h)
one_end (passes h a) (chooses i b) = absurd (h i)
one_end (passes h a) (passes i b) = one_end a b
one_end {most} {other} (calls {then} {last} {rest} {meant} a b) (calls {last = last'} {rest = rest'} {meant = meant'} c d) =
    one_end b (subst (λ x. After most then x other) (sym (one_end a c)) d)
one_end (calls {last} {rest} {meant} a b) (fails {rest = rest'} {why} c) =
    let q : done meant last rest ≡ fault why rest' = one_end a c in cc
one_end (fails a) (calls c d) = let q = one_end a c in cc
one_end (fails {answer} a) (fails c) = let q = one_end a c in cc

-- the tokens left at an end
abbrev pub left : {answer : Phrase} → End answer → List Token
left (done meant last rest) = rest
left (fault why rest) = rest

-- the end with other tokens left
abbrev pub with_left : {answer : Phrase} → End answer → List Token → End answer
with_left (done meant last rest) other = done meant last other
with_left (fault why rest) other = fault why other

-- the next token is of the same kind, and on the same line
pub record SameNext (tokens other : List Token) : Type 0 where
  pub kind : kind_of tokens ≡ kind_of other
  pub line : line_of tokens ≡ line_of other

-- the tokens before an end: a run over them is the same whatever stands behind the first token left
pub record Local (most : ℕ) {answer : Phrase} (program : Program answer) (before : ℕ) (tokens : List Token) (end : End answer) : Type 0 where
  pub front : List Token
  pub cut : tokens ≡ front ++ left end
  pub again : (other : List Token) → SameNext other (left end) → Runs most answer program before (front ++ other) (with_left end other)

same_behind : (front other old : List Token) → SameNext other old → SameNext (front ++ other) (front ++ old)
same_behind [] other old s = s
same_behind (token ∷ front) other old s = record { kind = refl; line = refl }

same_cut : (front : List Token) {other old tokens : List Token} → tokens ≡ front ++ old → SameNext other old → SameNext (front ++ other) tokens
same_cut front {other} {old} {tokens} c s = subst (λ x. SameNext (front ++ other) x) (sym c) (same_behind front other old s)

ends_again : {most : ℕ} {answer : Phrase} {depth : ℕ} {then : Program answer} {before : ℕ} (other : List Token) → SameNext other [] → Runs most answer (skip depth then) before other (fault unexpected other)
ends_again [] s = ends
ends_again (token ∷ other) s = let k = s.kind in cc

deep_again : {most : ℕ} {answer : Phrase} {depth : ℕ} {then : Program answer} {before : ℕ} (token : Token) (tokens other : List Token) → most < depth → SameNext other (token ∷ tokens) → Runs most answer (skip depth then) before other (fault too_deep other)
deep_again token tokens [] h s = let k = s.kind in cc
deep_again token tokens (next ∷ other) h s = deep h

pub local : {most : ℕ} {answer : Phrase} {program : Program answer} {before : ℕ} {tokens : List Token} {end : End answer} →
    Runs most answer program before tokens end → Local most program before tokens end
local gives = record { front = []; cut = refl; again = λ other s. gives }
local stops = record { front = []; cut = refl; again = λ other s. stops }
local {most} {answer} {before} {tokens} {end} (looks {then} a) =
    let r = local a in
    record {
      front = r.front;
      cut = r.cut;
      again = λ other s.
          let n : SameNext (r.front ++ other) tokens = same_cut r.front r.cut s in
          looks (subst (λ x. Runs most answer (then before x (line_of (r.front ++ other))) before (r.front ++ other) (with_left end other)) (sym n.kind)
          (subst (λ x. Runs most answer (then before (kind_of tokens) x) before (r.front ++ other) (with_left end other)) (sym n.line) (r.again other s)));
    }
local (skips {token} h a) =
    let r = local a in
    record { front = token ∷ r.front; cut = ap (λ x. token ∷ x) r.cut; again = λ other s. skips h (r.again other s) }
local (deep {token} {tokens} h) = record { front = []; cut = refl; again = λ other s. deep_again token tokens other h s }
local ends = record { front = []; cut = refl; again = λ other s. ends_again other s }
local (wants {token} h a) =
    let r = local a in
    record { front = token ∷ r.front; cut = ap (λ x. token ∷ x) r.cut; again = λ other s. wants h (r.again other s) }
local (misses h) = record { front = []; cut = refl; again = λ other s. misses (λ k. h (sym s.kind ∙ k)) }
local (chooses h a) =
    let r = local a in
    record { front = r.front; cut = r.cut; again = λ other s. let n = same_cut r.front r.cut s in chooses (n.kind ∙ h) (r.again other s) }
local (passes h a) =
    let r = local a in
    record { front = r.front; cut = r.cut; again = λ other s. let n = same_cut r.front r.cut s in passes (λ k. h (sym n.kind ∙ k)) (r.again other s) }
local {end} (calls a b) =
    let r = local a in
    let q = local b in
    record {
      front = r.front ++ q.front;
      cut = r.cut ∙ ap (λ x. r.front ++ x) q.cut ∙ sym (append_assoc r.front q.front (left end));
      again = λ other s.
          rw append_assoc (calls (r.again (q.front ++ other) (same_cut q.front q.cut s)) (q.again other s));
    }
local (fails a) =
    let r = local a in
    record { front = r.front; cut = r.cut; again = λ other s. fails (r.again other s) }

-- an end that is no fault of depth
abbrev pub IsNotDeep : {answer : Phrase} → End answer → Type 0
IsNotDeep (done meant last rest) = Unit {0}
IsNotDeep (fault unexpected rest) = Unit {0}
IsNotDeep (fault too_deep rest) = ⊥

-- it stays the end where more depth is allowed
pub raise : {most more : ℕ} {answer : Phrase} {program : Program answer} {before : ℕ} {tokens : List Token} {end : End answer} →
    most ≤ more → IsNotDeep end → Runs most answer program before tokens end → Runs more answer program before tokens end
raise m n gives = gives
raise m n stops = stops
raise m n (looks a) = looks (raise m n a)
raise m n (skips h a) = skips (omega arith) (raise m n a)
raise m n (deep h) = absurd n
raise m n ends = ends
raise m n (wants h a) = wants h (raise m n a)
raise m n (misses h) = misses h
raise m n (chooses h a) = chooses h (raise m n a)
raise m n (passes h a) = passes h (raise m n a)
raise m n (calls a b) = calls (raise m tt a) (raise m n b)
raise m n (fails {why = unexpected} a) = fails (raise m tt a)
raise m n (fails {why = too_deep} a) = absurd n
