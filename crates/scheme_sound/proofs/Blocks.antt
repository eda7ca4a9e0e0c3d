-- Blocks keep the invariant: locals that end are closed where one of them is captured.
use Rattle.std.proofs.Common.{◌≡◌, ◌≤◌, ◌<◌, ℕ, zero, suc, Bool, true, false, List, [], ◌∷◌, length, refl, sym, ap, ◌∙◌, arith, ◌++◌, take, drop, subst, length-append, true≢false, append_assoc, append-nil}
use Rattle.std.specs.Prelude.{Option, None, Some, ◌||◌}
use Rattle.std.proofs.Math.Seq.{take-append_seam}
use Rattle.std.proofs.lemmas.List.{take-append-le, length-take}
use Rattle.scheme.specs.Making.{Maker, Ahead, Part, when, any_captured, captured_from, end_locals}
use Rattle.scheme.specs.Statements.{Loop, close_from, end_block, block_part, settle}
use Rattle.scheme.specs.declared.making.Local.{Local}
use Rattle.scheme.specs.declared.making.Active.{Active}
use Rattle.scheme_sound.proofs.Ghosts.{locals_of, kind_at, captured_at, IsLoop, Below, ClosedBelow, Ghost}
use Rattle.scheme_sound.proofs.States.{State, Onward, onward_then, Leads, with_note, state_with_note, free_leads}
use Rattle.scheme_sound.proofs.Words.{next_ghost, put_close}
use Rattle.scheme_sound.proofs.Fitting.{Fitting, FittingStep, Block}
use Rattle.scheme_sound.proofs.Operands.{context}

-- ---- the first of the active locals

kind_take : (n : ℕ) (xs : List Active) (r k : ℕ) → kind_at (locals_of (take n xs)) r ≡ suc k → kind_at (locals_of xs) r ≡ suc k
kind_take zero xs r k e = cc
kind_take (suc n) [] r k e = cc
kind_take (suc n) (x ∷ xs) zero k e = e
kind_take (suc n) (x ∷ xs) (suc r) k e = kind_take n xs r k e

captured_take : (n : ℕ) (xs : List Active) (r : ℕ) → captured_at (locals_of xs) r ≡ true → r < n → captured_at (locals_of (take n xs)) r ≡ true
captured_take zero xs r e l = absurd (omega arith)
captured_take (suc n) [] r e l = e
captured_take (suc n) (x ∷ xs) zero e l = e
captured_take (suc n) (x ∷ xs) (suc r) e l = captured_take n xs r e (omega arith)

loop_take : (n : ℕ) (xs : List Active) (r : ℕ) → IsLoop (locals_of (take n xs)) r → IsLoop (locals_of xs) r
loop_take n xs r l = record { index = kind_take n xs r 0 l.index; limit = kind_take n xs (suc r) 1 l.limit; step = kind_take n xs (suc (suc r)) 2 l.step }

closed_take : (n : ℕ) (xs : List Active) → ClosedBelow n (locals_of xs) (locals_of (take n xs))
closed_take n xs = record { captured = λ r e l. captured_take n xs r e l; loops = λ r l. loop_take n xs r l }

-- where none is captured from the n-th on
captured_none : (n : ℕ) (xs : List Active) (r : ℕ) → any_captured (drop n xs) ≡ false → captured_at (locals_of xs) r ≡ true → r < n
captured_none zero [] r e c = cc
captured_none zero (x ∷ xs) zero e c = absurd (or_cc x.local.captured (any_captured xs) e c)
  where
    or_cc : (a b : Bool) → (a || b) ≡ false → a ≡ true → ⊥
    or_cc true b e c = true≢false e
    or_cc false b e c = true≢false (sym c)
captured_none zero (x ∷ xs) (suc r) e c = absurd (let h = captured_none zero xs r (or_tail x.local.captured (any_captured xs) e) c in omega (arith, h))
  where
    or_tail : (a b : Bool) → (a || b) ≡ false → b ≡ false
    or_tail true b e = absurd (true≢false e)
    or_tail false b e = e
captured_none (suc n) [] r e c = cc
captured_none (suc n) (x ∷ xs) zero e c = omega arith
captured_none (suc n) (x ∷ xs) (suc r) e c = let h = captured_none n xs r e c in omega (arith, h)

pub below_take : (n : ℕ) (xs : List Active) → any_captured (drop n xs) ≡ false → Below (locals_of xs) (locals_of (take n xs))
below_take n xs e = record { captured = λ r c. captured_take n xs r c (captured_none n xs r e c); loops = λ r l. loop_take n xs r l }

pub captured_behind : (n : ℕ) (xs : List Active) → any_captured (drop n xs) ≡ true → n < length xs
captured_behind zero [] e = cc
captured_behind zero (x ∷ xs) e = omega arith
captured_behind (suc n) [] e = cc
captured_behind (suc n) (x ∷ xs) e = let h = captured_behind n xs e in omega (arith, h)

-- ---- statements

-- a statement leads to a state in which more locals may be active
pub record Brings (m : Maker) (g : Ghost) (n : Maker) (after : List Local) (b : Ahead) : Type 0 where
  pub ghost : Ghost
  pub state : State n ghost None
  pub onward : Onward m g n ghost
  pub unplaced : ghost.unplaced ≡ g.unplaced
  pub more : List Active
  pub grown : n.active ≡ m.active ++ more
  pub locals : locals_of n.active ≡ after
  pub ahead : n.ahead ≡ b

abbrev pub brings_none : {m n : Maker} {g : Ghost} {b : Ahead} → Leads m g n None b → Brings m g n (locals_of m.active) b
brings_none {m} {n} d = record { ghost = d.ghost; state = d.state; onward = d.onward; unplaced = d.unplaced; more = []; grown = d.active ∙ sym (append-nil m.active); locals = ap locals_of d.active; ahead = d.ahead }

abbrev pub brings_then : {m n z : Maker} {g : Ghost} {xs ys : List Local} {a b : Ahead} → (r : Brings m g n xs a) → Brings n r.ghost z ys b → Brings m g z ys b
brings_then {m} {n} {z} r t = record { ghost = t.ghost; state = t.state; onward = onward_then r.onward t.onward; unplaced = t.unplaced ∙ r.unplaced; more = r.more ++ t.more; grown = t.grown ∙ ap (λ xs. xs ++ t.more) r.grown ∙ append_assoc m.active r.more t.more; locals = t.locals; ahead = t.ahead }

-- what stands ahead fits behind statements too
pub carry_brought : {m n : Maker} {g : Ghost} {xs : List Local} {a : Ahead} (i : Fitting) (b : Ahead) → (r : Brings m g n xs a) → i (record (context m g) { locals = xs }) a b → i (context n r.ghost) n.ahead b
carry_brought {m} {n} {g} {xs} {a} i b r x =
    let one : context n r.ghost ≡ record (context m g) { locals = xs } = ap (λ ls. record { locals = ls; upvalues = length n.upvalue_names; vararg = r.ghost.vararg }) r.locals
    ∙ ap (λ u. record { locals = xs; upvalues = length u; vararg = r.ghost.vararg }) r.onward.upvalues
    ∙ ap (λ v. record { locals = xs; upvalues = length m.upvalue_names; vararg = v }) r.onward.vararg in
    subst (λ c. i c n.ahead b) (sym one) (subst (λ y. i (record (context m g) { locals = xs }) y b) (sym r.ahead) x)

-- the loop around: its label for the exit is there, and asks for no more than the locals around it
abbrev pub LoopAround : Maker → Ghost → Option Loop → Type 0
LoopAround m g None = Unit {0}
LoopAround m g (Some loop) = (loop.exit < length m.labels) × (loop.before ≤ length m.active) × Below (locals_of (take loop.before m.active)) (g.need loop.exit)

pub loop_around_on : {m n : Maker} {g h : Ghost} (loop : Option Loop) → Onward m g n h → n.active ≡ m.active → LoopAround m g loop → LoopAround n h loop
loop_around_on None a e k = tt
loop_around_on {m} {n} {g} {h} (Some loop) a e k =
    let q = a.labels in
    (omega (arith, q, k.0), omega (arith, k.1, ap length e), subst (λ us. Below (locals_of (take loop.before us)) (h.need loop.exit)) (sym e) (subst (λ us. Below (locals_of (take loop.before m.active)) us) (sym (a.need loop.exit k.0)) k.2))

pub loop_around_later : {m n : Maker} {g : Ghost} {xs : List Local} {b : Ahead} (loop : Option Loop) → (r : Brings m g n xs b) → LoopAround m g loop → LoopAround n r.ghost loop
loop_around_later None r k = tt
loop_around_later {m} {n} {g} (Some loop) r k =
    let q = r.onward.labels in (
      omega (arith, q, k.0),
      omega (arith, k.1, ap length r.grown, length-append m.active r.more),
      subst (λ ys. Below (locals_of ys) (r.ghost.need loop.exit)) (sym (ap (take loop.before) r.grown ∙ take-append-le loop.before m.active r.more k.1))
          (subst (λ ys. Below (locals_of (take loop.before m.active)) ys) (sym (r.onward.need loop.exit k.0)) k.2),
    )

-- no register is taken but those of the active locals
abbrev pub Settled : Maker → Type 0
Settled m = m.free ≡ length m.active

-- a statement or a block leads on as its step says, inside a loop or not
abbrev pub StepKeeps : (Option Loop → Part) → FittingStep → Type 0
StepKeeps part step = (loop : Option Loop) (m : Maker) (g : Ghost) (after : List Local) (b : Ahead) → State m g None → Settled m → LoopAround m g loop → step (context m g) after m.ahead b → Brings m g (part loop m) after b

-- ---- the end of locals

-- locals from the n-th on end, and are closed where one of them is captured
pub record Ends (m : Maker) (g : Ghost) (n : Maker) : Type 0 where
  pub ghost : Ghost
  pub state : State n ghost None
  pub onward : Onward m g n ghost
  pub unplaced : ghost.unplaced ≡ g.unplaced

pub end_plain : (k : ℕ) (m : Maker) (g : Ghost) → State m g None → any_captured (drop k m.active) ≡ false → Ends m g (end_locals k m)
end_plain k m g s e =
    let short = length-take k m.active in
    let held = s.held in
    let room = s.room in
    record {
      ghost = with_note g (length m.items) (locals_of (take k m.active));
      state = state_with_note s (record { items = refl; labels = refl; constants = refl; functions = refl; upvalues = refl; misfits = refl }) (below_take k m.active e) (omega (arith, short, held)) (omega (arith, short, room));
      onward = record { need = λ l x. refl; labels = omega arith; high = omega arith; count = omega arith; upvalues = refl; larger = omega arith; size = omega arith; vararg = refl };
      unplaced = refl;
    }

pub end_closed : (line k : ℕ) (m : Maker) (g : Ghost) → State m g None → any_captured (drop k m.active) ≡ true → Ends m g (close_from line k (end_locals k m))
end_closed line k m g s e =
    let short = length-take k m.active in
    let held = s.held in
    let room = s.room in
    let behind = captured_behind k m.active e in
    record {
      ghost = next_ghost g (length m.items) (locals_of (take k m.active)) None;
      state = put_close line k m (end_locals k m) g s (omega (arith, behind, held)) (record { items = refl; labels = refl; constants = refl; functions = refl; upvalues = refl; misfits = refl }) (closed_take k m.active) (omega (arith, short, held)) (omega (arith, short, room));
      onward = record { need = λ l x. refl; labels = omega arith; high = omega arith; count = omega arith; upvalues = refl; larger = omega arith; size = omega arith; vararg = refl };
      unplaced = refl;
    }

pub ends_when : (line k : ℕ) (m : Maker) (g : Ghost) → State m g None → Ends m g (when (captured_from k m) (close_from line k) (end_locals k m))
ends_when line k m g s = go (any_captured (drop k m.active)) refl
  where
    go : (c : Bool) → any_captured (drop k m.active) ≡ c → Ends m g (when c (close_from line k) (end_locals k m))
    go true is = end_closed line k m g s is
    go false is = end_plain k m g s is

when_active : (c : Bool) (line k : ℕ) (m : Maker) → (when c (close_from line k) m).active ≡ m.active
when_active true line k m = refl
when_active false line k m = refl

when_ahead : (c : Bool) (line k : ℕ) (m : Maker) → (when c (close_from line k) m).ahead ≡ m.ahead
when_ahead true line k m = refl
when_ahead false line k m = refl

-- ---- blocks

-- the end of a block
pub block_ends : (line : ℕ) (m : Maker) (g : Ghost) (n : Maker) (xs : List Local) (b : Ahead) → (r : Brings m g n xs b) → Leads m g (end_block line (length m.active) n) None b
block_ends line m g n xs b r =
    let k = length m.active in
    let e = ends_when line k n r.ghost r.state in
    let z = when (captured_from k n) (close_from line k) (end_locals k n) in
    let same : z.active ≡ m.active = when_active (captured_from k n) line k (end_locals k n) ∙ ap (take k) r.grown ∙ take-append_seam m.active r.more in
    let f = free_leads k (omega (arith, ap length same)) e.state in
    record { ghost = f.ghost; state = f.state; onward = onward_then r.onward (onward_then e.onward f.onward); unplaced = f.unplaced ∙ e.unplaced ∙ r.unplaced; active = f.active ∙ same; ahead = f.ahead ∙ when_ahead (captured_from k n) line k (end_locals k n) ∙ r.ahead }

pub block_leads : (line : ℕ) (body : Option Loop → Part) (step : FittingStep) → StepKeeps body step → (loop : Option Loop) (m : Maker) (g : Ghost) (b : Ahead) → State m g None → Settled m → LoopAround m g loop → Block step (context m g) m.ahead b → Leads m g (block_part line (body loop) m) None b
block_leads line body step f loop m g b s t k x = block_ends line m g (body loop m) x.inner b (f loop m g x.inner b s t k x.body_fits)

pub settle_brings : {m n : Maker} {g : Ghost} {xs : List Local} {b : Ahead} → Brings m g n xs b → Brings m g (settle n) xs b
settle_brings {m} {n} r = let f = free_leads (length n.active) (omega arith) r.state in record { ghost = f.ghost; state = f.state; onward = onward_then r.onward f.onward; unplaced = f.unplaced ∙ r.unplaced; more = r.more; grown = r.grown; locals = r.locals; ahead = r.ahead }
