-- `if` and `break` keep the invariant.
use Rattle.std.proofs.Common.{◌≡◌, ◌≤◌, ◌<◌, ℕ, Bool, true, false, [], ◌∷◌, length, refl, sym, ap, ◌∙◌, arith, take, subst, length-append, append-nil}
use Rattle.std.specs.Prelude.{Option, None, Some}
use Rattle.lua_tree.specs.Syntax.{if_statement, Branches, Otherwise}
use Rattle.scheme.specs.Making.{Maker, Ahead, Part, when, captured_from, end_locals, new_label, jump_to}
use Rattle.scheme.specs.Expressions.{Coded}
use Rattle.scheme.specs.Statements.{Loop, close_from, block_part, arm_part, break_part}
use Rattle.scheme.specs.Scheme.{statement_made, branches_made, otherwise_made, has_otherwise}
use Rattle.scheme_sound.proofs.Ghosts.{locals_of, Below, Ghost, IsIn}
use Rattle.scheme_sound.proofs.States.{updated_same, updated_other, State, Onward, onward_then, Leads, leads_self, leads_then, leads_on, SameMade}
use Rattle.scheme_sound.proofs.Words.{next_ghost, put_jump, jump_apart}
use Rattle.scheme_sound.proofs.Labels.{with_need, new_label_state, new_label_onward, with_unplaced, placed_state, placed_onward, below_is, to_need, from_need}
use Rattle.scheme_sound.proofs.Fitting.{Fitting, Both, FittingStep, Block, BranchesFit, OtherwiseFits}
use Rattle.scheme_sound.proofs.Operands.{context, carry}
use Rattle.scheme_sound.proofs.Expressions.{Keeps}
use Rattle.scheme_sound.proofs.Blocks.{Brings, brings_none, LoopAround, loop_around_on, Settled, StepKeeps, ends_when, block_leads}

-- ---- an arm

-- an arm leads on, and leaves no register taken
pub record ArmLeads (m : Maker) (g : Ghost) (n : Maker) (b : Ahead) : Type 0 where
  pub leads : Leads m g n None b
  pub settled : Settled n

pub arm_leads : (line end : ℕ) (more : Bool) (test : Coded) (i : Fitting) → Keeps test i → (body : Option Loop → Part) (step : FittingStep) → StepKeeps body step → (loop : Option Loop) (m : Maker) (g : Ghost) (b : Ahead) → State m g None → Settled m → LoopAround m g loop → end < length m.labels → g.need end ≡ locals_of m.active → Both i (Block step) (context m g) m.ahead b → ArmLeads m g (arm_part line end more test (body loop) m) b
arm_leads line end more test i f body step h loop m g b s t k l w x =
    let xs = locals_of m.active in
    let label = length m.labels in
    let m1 = (new_label m).after in
    let g1 = with_need g label xs in
    let own : label < length m1.labels = omega (arith, length-append m.labels (0 ∷ [])) in
    let d = f.jump_if false label m1 g1 x.mid (new_label_state xs s) x.first own (below_is xs (g1.need label) (updated_same g.need label xs)) in
    let n = test.jump_if false label m1 in
    let first : Onward m g n d.ghost = onward_then (new_label_onward m g xs) d.onward in
    let e = block_leads line body step h loop n d.ghost b d.state (f.jump_free false label m1 ∙ t ∙ ap length (sym d.active)) (loop_around_on loop first d.active k) (carry (Block step) b d x.second) in
    let n2 = block_part line (body loop) n in
    let both = leads_then d e in
    let q = both.onward.labels in
    let old : both.ghost.need end ≡ xs = both.onward.need end (omega (arith, l, own)) ∙ updated_other g.need label xs end (λ y. omega (arith, y, l)) ∙ w in
    let j = leave n2 both.ghost both.state (omega (arith, q, l, own)) (to_need _ m.active both.ghost end both.active old) more in
    let n3 = when more (jump_to line end) n2 in
    let all = leads_on both j in
    record {
      leads = record {
        ghost = with_unplaced all.ghost g.unplaced;
        state = placed_state label g.unplaced all.state (from_need _ m.active all.ghost label all.active (all.onward.need label own ∙ updated_same g.need label xs)) (λ y z. subst (λ os. IsIn y os) all.unplaced z);
        onward = onward_then (onward_then (new_label_onward m g xs) all.onward) (placed_onward label n3 all.ghost g.unplaced);
        unplaced = refl;
        active = all.active;
        ahead = all.ahead;
      };
      settled = leaves n2 more ∙ ap length d.active ∙ sym (ap length all.active);
    }
  where
    leaves : (n : Maker) (c : Bool) → (when c (jump_to line end) n).free ≡ n.free
    leaves n true = refl
    leaves n false = refl

    leave : (n : Maker) (h : Ghost) → State n h None → end < length n.labels → Below (locals_of n.active) (h.need end) → (c : Bool) → Leads n h (when c (jump_to line end) n) None n.ahead
    leave n h s l w true = put_jump line end n h s l w
    leave n h s l w false = leads_self s

-- ---- `if`

-- what is known of branches, and of an `else`
abbrev pub BranchesKeep : Branches → Type 0
BranchesKeep branches = (line : ℕ) (loop : Option Loop) (end : ℕ) (more : Bool) (m : Maker) (g : Ghost) (b : Ahead) → State m g None → Settled m → LoopAround m g loop → end < length m.labels → g.need end ≡ locals_of m.active → BranchesFit branches (context m g) m.ahead b → ArmLeads m g (branches_made branches line loop end more m) b

abbrev pub OtherwiseKeeps : Otherwise → Type 0
OtherwiseKeeps last = (line : ℕ) (loop : Option Loop) (m : Maker) (g : Ghost) (b : Ahead) → State m g None → Settled m → LoopAround m g loop → OtherwiseFits last (context m g) m.ahead b → Leads m g (otherwise_made last line loop m) None b

pub if_leads : (branches : Branches) (last : Otherwise) → BranchesKeep branches → OtherwiseKeeps last → (line : ℕ) (loop : Option Loop) (m : Maker) (g : Ghost) (b : Ahead) → State m g None → Settled m → LoopAround m g loop → Both (BranchesFit branches) (OtherwiseFits last) (context m g) m.ahead b → Leads m g (statement_made (if_statement branches last) line loop m) None b
if_leads branches last f h line loop m g b s t k x =
    let end = length m.labels in
    let xs = locals_of m.active in
    let m1 = (new_label m).after in
    let g1 = with_need g end xs in
    let own : end < length m1.labels = omega (arith, length-append m.labels (0 ∷ [])) in
    let a = f line loop end (has_otherwise last) m1 g1 x.mid (new_label_state xs s) t (loop_around_on loop (new_label_onward m g xs) refl k) own (updated_same g.need end xs) x.first in
    let d = a.leads in
    let n = branches_made branches line loop end (has_otherwise last) m1 in
    let e = h line loop n d.ghost b d.state a.settled (loop_around_on loop d.onward d.active (loop_around_on loop (new_label_onward m g xs) refl k)) (carry (OtherwiseFits last) b d x.second) in
    let both = leads_then d e in
    let n2 = otherwise_made last line loop n in
    record {
      ghost = with_unplaced both.ghost g.unplaced;
      state = placed_state end g.unplaced both.state (from_need _ m.active both.ghost end both.active (both.onward.need end own ∙ updated_same g.need end xs)) (λ l i. subst (λ os. IsIn l os) both.unplaced i);
      onward = onward_then (onward_then (new_label_onward m g xs) both.onward) (placed_onward end n2 both.ghost g.unplaced);
      unplaced = refl;
      active = both.active;
      ahead = both.ahead;
    }

-- ---- `break`

pub break_brings : (line : ℕ) (loop : Option Loop) (m : Maker) (g : Ghost) → State m g None → LoopAround m g loop → Brings m g (break_part line loop m) (locals_of m.active) m.ahead
break_brings line None m g s k = brings_none (leads_self s)
break_brings line (Some loop) m g s k =
    let e = ends_when line loop.before m g s in
    let v = when (captured_from loop.before m) (close_from line loop.before) (end_locals loop.before m) in
    let r = when (captured_from loop.before m) (close_from line loop.before) m in
    let w = alike (captured_from loop.before m) in
    let q = e.onward.labels in
    let held = s.held in
    let room = s.room in
    let lar = e.onward.larger in
    let state = jump_apart line loop.exit v r e.ghost e.state w.0 (omega (arith, q, k.0)) (subst (λ us. Below (locals_of us) (e.ghost.need loop.exit)) (sym w.2) (subst (λ us. Below (locals_of (take loop.before m.active)) us) (sym (e.onward.need loop.exit k.0)) k.2))
    (omega (arith, ap length w.1, held, lar)) (omega (arith, ap length w.1, w.3, room)) in
    record {
      ghost = next_ghost e.ghost (length v.items) (locals_of r.active) None;
      state = state;
      onward = (let a = e.onward in record { need = a.need; labels = omega (arith, q, ap length w.0.labels); high = w.4; count = (let c = a.count in omega (arith, c, ap length w.0.constants)); upvalues = w.0.upvalues ∙ a.upvalues; larger = lar; size = (let c = a.size in omega (arith, c, w.5)); vararg = a.vararg });
      unplaced = e.unplaced;
      more = [];
      grown = w.1 ∙ sym (append-nil m.active);
      locals = ap locals_of w.1;
      ahead = w.6;
    }
  where
    alike : (c : Bool) → SameMade (when c (close_from line loop.before) (end_locals loop.before m)) (when c (close_from line loop.before) m)
        × ((when c (close_from line loop.before) m).active ≡ m.active)
        × ((when c (close_from line loop.before) (end_locals loop.before m)).active ≡ take loop.before m.active)
        × ((when c (close_from line loop.before) m).free ≡ m.free)
        × (m.high ≤ (when c (close_from line loop.before) m).high)
        × ((when c (close_from line loop.before) (end_locals loop.before m)).high ≤ (when c (close_from line loop.before) m).high)
        × ((when c (close_from line loop.before) m).ahead ≡ m.ahead)
    alike true = (record { items = refl; labels = refl; constants = refl; functions = refl; upvalues = refl; misfits = refl }, refl, refl, refl, omega arith, omega arith, refl)
    alike false = (record { items = refl; labels = refl; constants = refl; functions = refl; upvalues = refl; misfits = refl }, refl, refl, refl, omega arith, omega arith, refl)
