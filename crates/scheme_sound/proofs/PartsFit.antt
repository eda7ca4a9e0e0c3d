-- What stands ahead of a part of the source fits it, wherever the part stands: parts in a row, blocks, mentions and marks.
use Rattle.std.proofs.Common.{◌≡◌, ℕ, Bool, true, false, List, [], ◌∷◌, refl, sym, ap, ◌∙◌, cond, eqb-true, ◌++◌, subst, append_assoc}
use Rattle.std.specs.Prelude.{Option, None, ◌==◌, Some}
use Rattle.lua_num.specs.Bytes.{Text}
use Rattle.lua_tree.specs.Outline.{Part, Binding, Place, Mark, mention, dots, leave, innermost, both, within, in_loop, nothing, stay, mentions, marked}
use Rattle.lua_tree.specs.Scoping.{local_use, upvalue_use, use_in, upvalues_of, slot_of}
use Rattle.scheme.specs.declared.making.Local.{Local}
use Rattle.scheme_stands.specs.Places.{Closed, ScopeAt, ahead_at, Reached, Between, Counted}
use Rattle.scheme_stands.proofs.Counting.{closed_inner, closed_still, closed_row, counted_row, marked_closed, mentions_closed}
use Rattle.scheme_stands.proofs.Locals.{closed_scope}
use Rattle.scheme_stands.proofs.Names.{upvalue_is}
use Rattle.scheme_stands.proofs.Origins.{walked_inner, between_within, Start, Walked, Walks, bare, bare_start, passes_by, walked_row, walked_still, mentions_walked, marked_walked, start_loop, between_first, between_second}
use Rattle.scheme_sound.proofs.Fitting.{Context, Fitting, UseFits, Nothing, NameAt, Both, FittingStep, Stays, Then, Block, Until}
use Rattle.scheme_sound.proofs.Contexts.{Knows, knows_behind, slot_within, other_way}

-- ---- `...` stands in vararg functions alone

-- a mark of `...` stands in a vararg function
abbrev pub DotsMark : Mark → Type 0
DotsMark (dots line v) = v ≡ true
DotsMark mark = Unit {0}

abbrev pub AllDots : List Mark → Type 0
AllDots [] = Unit {0}
AllDots (x ∷ xs) = DotsMark x × AllDots xs

dots_behind : (xs ys : List Mark) → AllDots (xs ++ ys) → AllDots ys
dots_behind [] ys a = a
dots_behind (x ∷ xs) ys a = dots_behind xs ys a.1

-- ---- the walk comes to a part

-- the walk through the source comes to a part
pub record Comes (all : List Mark) (part : Part) (place : Place) (rest : List Mark) (c : Context) : Type 0 where
  pub between : Between all part place rest
  pub scope : ScopeAt place
  pub knows : Knows all place c
  pub dots : AllDots all

-- a part is walked through, wherever it stands
abbrev pub AnyWalk : Part → Type 0
AnyWalk part = (base place : Place) → base.declarations ≡ 0 → Start base place → Walked base part place

pub walk_from : (part : Part) → AnyWalk part → (place : Place) → Walks part place
walk_from part w place low = passes_by part place (w (bare place) place refl (bare_start place low))

pub both_walked : (one other : Part) → AnyWalk one → AnyWalk other → AnyWalk (both one other)
both_walked one other v w base place z s = (let x = v base place z s in walked_row base one other place x (w base (one place).next z (x.derived, x.around)))

pub comes_first : (all : List Mark) (one other : Part) (place : Place) (rest : List Mark) (c : Context) → AnyWalk one → AnyWalk other → Comes all (both one other) place rest c → Comes all one place ((other (one place).next).marks ++ rest) c
comes_first all one other place rest c v w t = record { between = between_first all one other place rest (walk_from one v place) (walk_from other w (one place).next) t.between; scope = t.scope; knows = t.knows; dots = t.dots }

-- behind the first part, with what that brought into scope
pub comes_second : (all : List Mark) (one other : Part) (place : Place) (rest : List Mark) (c d : Context) → AnyWalk one → Counted one place → ScopeAt (one place).next → Knows all (one place).next d → Comes all (both one other) place rest c → Comes all other (one place).next rest d
comes_second all one other place rest c d v n s k t = record { between = between_second all one other place rest n (walk_from one v place) t.between; scope = s; knows = k; dots = t.dots }

-- which may be nothing
pub comes_behind : (all : List Mark) (one other : Part) (place : Place) (rest : List Mark) (c : Context) → AnyWalk one → Closed one place → Comes all (both one other) place rest c → Comes all other (one place).next rest c
comes_behind all one other place rest c v w t = comes_second all one other place rest c c v w.counted (closed_scope one place w t.scope) (knows_behind all one place c w t.knows) t

-- ---- parts that bring nothing into scope

-- what is ahead of a part fits, wherever the part stands, and the part brings nothing into scope
pub record PartFits (part : Part) (i : Fitting) : Type 0 where
  pub closed : (place : Place) → Closed part place
  pub walked : AnyWalk part
  pub fits : (all : List Mark) (place : Place) (rest : List Mark) (c : Context) → Comes all part place rest c → i c (ahead_at all place ((part place).marks ++ rest)) (ahead_at all (part place).next rest)

pub nothing_fits : PartFits nothing Nothing
nothing_fits = record { closed = closed_still; walked = λ base place z s. walked_still base place s; fits = λ all place rest c t. refl }

pub both_fit : {one other : Part} {i j : Fitting} → PartFits one i → PartFits other j → PartFits (both one other) (Both i j)
both_fit {one} {other} {i} {j} r s = record {
  closed = λ place. closed_row one other place (r.closed place) (s.closed (one place).next);
  walked = both_walked one other r.walked s.walked;
  fits = λ all place rest c t. (
      let p = (one place).next in
      let m1 = (one place).marks in
      let m2 = (other p).marks in
      subst (λ xs. Both i j c (ahead_at all place xs) (ahead_at all (other p).next rest)) (sym (append_assoc m1 m2 rest)) (record {
        mid = ahead_at all p (m2 ++ rest);
        first = r.fits all place (m2 ++ rest) c (comes_first all one other place rest c r.walked s.walked t);
        second = s.fits all p rest c (comes_behind all one other place rest c r.walked (r.closed place) t);
      }));
}

-- ---- statements, which may bring locals into scope

-- the locals behind a statement, and what is known of them
pub record StepBehind (all : List Mark) (part : Part) (place : Place) (rest : List Mark) (c : Context) (step : FittingStep) : Type 0 where
  pub after : List Local
  pub fits : step c after (ahead_at all place ((part place).marks ++ rest)) (ahead_at all (part place).next rest)
  pub knows : Knows all (part place).next (record c { locals = after })

-- what is ahead of a statement fits, wherever it stands
pub record StepFits (part : Part) (step : FittingStep) : Type 0 where
  pub counted : (place : Place) → Counted part place
  pub walked : AnyWalk part
  pub scope : (place : Place) → ScopeAt place → ScopeAt (part place).next
  pub steps : (all : List Mark) (place : Place) (rest : List Mark) (c : Context) → Comes all part place rest c → StepBehind all part place rest c step

pub step_stays : {part : Part} {i : Fitting} → PartFits part i → StepFits part (Stays i)
step_stays {part} {i} r = record {
  counted = λ place. (r.closed place).counted;
  walked = r.walked;
  scope = λ place s. closed_scope part place (r.closed place) s;
  steps = λ all place rest c t. record { after = c.locals; fits = record { stays = refl; part_fits = r.fits all place rest c t }; knows = knows_behind all part place c (r.closed place) t.knows };
}

pub step_then : {one other : Part} {i j : FittingStep} → StepFits one i → StepFits other j → StepFits (both one other) (Then i j)
step_then {one} {other} {i} {j} r s = record {
  counted = λ place. counted_row one other place (r.counted place) (s.counted (one place).next);
  walked = both_walked one other r.walked s.walked;
  scope = λ place h. s.scope (one place).next (r.scope place h);
  steps = λ all place rest c t. (
      let p = (one place).next in
      let m1 = (one place).marks in
      let m2 = (other p).marks in
      let a = r.steps all place (m2 ++ rest) c (comes_first all one other place rest c r.walked s.walked t) in
      let d : Context = record c { locals = a.after } in
      let b = s.steps all p rest d (comes_second all one other place rest c d r.walked (r.counted place) (r.scope place t.scope) a.knows t) in
      record {
        after = b.after;
        fits = subst (λ xs. Then i j c b.after (ahead_at all place xs) (ahead_at all (other p).next rest)) (sym (append_assoc m1 m2 rest)) (record { between = a.after; mid = ahead_at all p (m2 ++ rest); first_fits = a.fits; rest_fits = b.fits });
        knows = b.knows;
      });
}

-- ---- blocks

pub block_fits : {part : Part} {step : FittingStep} → StepFits part step → PartFits (within stay part) (Block step)
block_fits {part} {step} s = record {
  closed = λ place. closed_inner stay part place refl refl (s.counted place);
  walked = λ base place z h. walked_inner base stay part place refl refl h (s.walked base place z h);
  fits = λ all place rest c t. (
      let a = s.steps all place rest c (record { between = between_within all stay part place rest refl refl refl (walk_from part s.walked place) t.between; scope = t.scope; knows = t.knows; dots = t.dots }) in
      record { inner = a.after; body_fits = a.fits });
}

-- at a place where a loop is around
loop_walked : (part : Part) → AnyWalk part → AnyWalk (within in_loop part)
loop_walked part w base place z s = walked_inner base in_loop part place refl refl s (w base (in_loop place) z (start_loop base place s))

pub knows_looped : {all : List Mark} {place : Place} {c : Context} → Knows all place c → Knows all (in_loop place) c
knows_looped k = record { own = k.own; marked = k.marked; upvalues = k.upvalues; vararg = k.vararg }

pub scope_looped : {place : Place} → ScopeAt place → ScopeAt (in_loop place)
scope_looped s = record { function = s.function; others = s.others; is = s.is; homes = s.homes; declared = s.declared }

comes_looped : (all : List Mark) (part : Part) (place : Place) (rest : List Mark) (c : Context) → AnyWalk part → Comes all (within in_loop part) place rest c → Comes all part (in_loop place) rest c
comes_looped all part place rest c w t = record { between = between_within all in_loop part place rest refl refl refl (walk_from part w (in_loop place)) t.between; scope = scope_looped t.scope; knows = knows_looped t.knows; dots = t.dots }

pub loop_fits : {part : Part} {step : FittingStep} → StepFits part step → PartFits (within in_loop part) (Block step)
loop_fits {part} {step} s = record {
  closed = λ place. closed_inner in_loop part place refl refl (s.counted (in_loop place));
  walked = loop_walked part s.walked;
  fits = λ all place rest c t. (let a = s.steps all (in_loop place) rest c (comes_looped all part place rest c s.walked t) in record { inner = a.after; body_fits = a.fits });
}

-- the block of a `repeat`, whose locals its condition sees
pub until_fits : {block test : Part} {step : FittingStep} {i : Fitting} → StepFits block step → PartFits test i → PartFits (within in_loop (both block test)) (Until step i)
until_fits {block} {test} {step} {i} s r = record {
  closed = λ place. closed_inner in_loop (both block test) place refl refl (counted_row block test (in_loop place) (s.counted (in_loop place)) (r.closed (block (in_loop place)).next).counted);
  walked = loop_walked (both block test) (both_walked block test s.walked r.walked);
  fits = λ all place rest c t. (
      let inside = in_loop place in
      let p = (block inside).next in
      let m1 = (block inside).marks in
      let m2 = (test p).marks in
      let h = comes_looped all (both block test) place rest c (both_walked block test s.walked r.walked) t in
      let a = s.steps all inside (m2 ++ rest) c (comes_first all block test inside rest c s.walked r.walked h) in
      let d : Context = record c { locals = a.after } in
      record {
        inner = a.after;
        mid = ahead_at all p (m2 ++ rest);
        body_fits = subst (λ xs. step c a.after (ahead_at all inside xs) (ahead_at all p (m2 ++ rest))) (sym (append_assoc m1 m2 rest)) a.fits;
        test_fits = r.fits all p rest d (comes_second all block test inside rest c d s.walked (s.counted inside) (s.scope inside h.scope) a.knows h);
      });
}

-- ---- single marks

pub mention_fits : (line : ℕ) (name : Text) → PartFits (mentions line name) NameAt
mention_fits line name = record {
  closed = mentions_closed line name;
  walked = λ base place z s. mentions_walked base line name place s;
  fits = λ all place rest c t. record { use_fits = use_good all place rest c t; passed = refl };
}
  where
    use_good : (all : List Mark) (place : Place) (rest : List Mark) (c : Context) → Comes all (mentions line name) place rest c → UseFits c (use_in (innermost place.around) all (place.scope name))
    use_good all place rest c t = by_scope (place.scope name) refl
      where
        f : ℕ
        f = innermost place.around

        by_home : (b : Binding) → place.scope name ≡ Some b → (own : Bool) → (b.home == f) ≡ own → UseFits c (cond own (local_use b.declaration) (upvalue_use (slot_of b.declaration (upvalues_of f all))))
        by_home b is true e = (t.knows).own name b is (eqb-true b.home f e)
        by_home b is false e =
            let s = t.scope in
            let r = (t.between).reached in
            let around : place.around ≡ f ∷ s.others = s.is ∙ ap (λ n. n ∷ s.others) (sym (ap innermost s.is)) in
            let reached : Reached all place (mention line name (Some b) place.around ∷ rest) = record { before = r.before; is = r.is ∙ ap (λ o. r.before ++ mention line name o place.around ∷ rest) is; declarations = r.declarations; functions = r.functions } in
            slot_within all place c name b t.knows s is e (upvalue_is all place line name b f s.others rest reached around (other_way b.home f e))

        by_scope : (o : Option Binding) → place.scope name ≡ o → UseFits c (use_in f all o)
        by_scope None is = tt
        by_scope (Some b) is = by_home b is (b.home == f) refl

pub dots_fit : (line : ℕ) → PartFits (marked (λ place. dots line place.vararg)) (λ c a b. (c.vararg ≡ true) × (b ≡ a))
dots_fit line = record {
  closed = λ place. marked_closed (λ place. dots line place.vararg) place refl refl;
  walked = λ base place z s. marked_walked base (λ place. dots line place.vararg) place tt tt s;
  fits = λ all place rest c t. (let r = (t.between).reached in let k = t.knows in (k.vararg ∙ (dots_behind r.before (dots line place.vararg ∷ rest) (subst AllDots r.is t.dots)).0, refl));
}

pub leave_fits : (line : ℕ) → PartFits (marked (λ place. leave line place.looped)) Nothing
leave_fits line = record {
  closed = λ place. marked_closed (λ place. leave line place.looped) place refl refl;
  walked = λ base place z s. marked_walked base (λ place. leave line place.looped) place tt tt s;
  fits = λ all place rest c t. refl;
}
