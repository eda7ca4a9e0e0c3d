-- `while` and `repeat` keep the invariant.
use Rattle.std.proofs.Common.{◌≡◌, ◌<◌, ℕ, suc, Bool, true, false, List, [], ◌∷◌, length, refl, sym, ap, ◌∙◌, arith, cond, take, drop, subst, length-append}
use Rattle.std.specs.Prelude.{Option, None, Some}
use Rattle.std.proofs.Math.Seq.{take-append_seam, take-length}
use Rattle.scheme.specs.Making.{Maker, Ahead, Part, any_captured, captured_from, end_locals, new_label, place, jump_to}
use Rattle.scheme.specs.declared.making.Local.{Local}
use Rattle.scheme.specs.Expressions.{Coded}
use Rattle.scheme.specs.Statements.{Loop, close_from, block_part, while_part, repeat_plain, repeat_captured, repeat_part}
use Rattle.scheme_sound.proofs.Ghosts.{locals_of, Below, Ghost, IsIn}
use Rattle.scheme_sound.proofs.States.{updated_same, updated_other, State, Onward, onward_then, onward_self, Leads, leads_then, leads_on}
use Rattle.scheme_sound.proofs.Words.{next_ghost, put_jump, jump_apart}
use Rattle.scheme_sound.proofs.Labels.{with_need, new_label_state, new_label_onward, with_unplaced, placed_state, placed_onward, below_is, to_need, from_need}
use Rattle.scheme_sound.proofs.Fitting.{Fitting, Both, FittingStep, Block, Until}
use Rattle.scheme_sound.proofs.Operands.{context, carry}
use Rattle.scheme_sound.proofs.Expressions.{Keeps}
use Rattle.scheme_sound.proofs.Blocks.{below_take, Brings, carry_brought, LoopAround, Settled, StepKeeps, end_plain, end_closed, block_leads}

-- ---- the labels of a loop

-- a label behind a part, and one before it
module _ (m : Maker) (g : Ghost) (s : State m g None) where
  abbrev exit_label : ℕ
  exit_label = length m.labels

  abbrev xs : List Local
  xs = locals_of m.active

  abbrev m1 : Maker
  m1 = (new_label m).after

  abbrev g1 : Ghost
  g1 = with_need g exit_label xs

  abbrev start_label : ℕ
  start_label = length m1.labels

  abbrev m2 : Maker
  m2 = (new_label m1).after

  abbrev g2 : Ghost
  g2 = with_need g1 start_label xs

  abbrev begun : Maker
  begun = place start_label m2

  abbrev begun_ghost : Ghost
  begun_ghost = with_unplaced g2 (exit_label ∷ g.unplaced)

  one_more : start_label ≡ suc exit_label
  one_more = omega (arith, length-append m.labels (0 ∷ []))

  loop_state : State begun begun_ghost None
  loop_state = placed_state start_label {m = m2} {g = g2} (exit_label ∷ g.unplaced) (new_label_state xs (new_label_state xs s)) (below_is (g2.need start_label) xs (sym (updated_same g1.need start_label xs))) (λ k y. y)

  loop_onward : Onward m g begun begun_ghost
  loop_onward = onward_then (new_label_onward m g xs) (onward_then (new_label_onward m1 g1 xs) (placed_onward start_label m2 g2 (exit_label ∷ g.unplaced)))

  exit_there : exit_label < length begun.labels
  exit_there = let q = (onward_then (new_label_onward m1 g1 xs) (placed_onward start_label m2 g2 (exit_label ∷ g.unplaced))).labels in omega (arith, q, one_more)

  start_there : start_label < length begun.labels
  start_there = let q = (placed_onward start_label m2 g2 (exit_label ∷ g.unplaced)).labels in omega (arith, q, length-append m1.labels (0 ∷ []))

  exit_asked : begun_ghost.need exit_label ≡ xs
  exit_asked = updated_other g1.need start_label xs exit_label (λ e. omega (arith, e, one_more)) ∙ updated_same g.need exit_label xs

  start_asked : begun_ghost.need start_label ≡ xs
  start_asked = updated_same g1.need start_label xs

  -- the loop's exit stands behind it
  loop_ends : (n : Maker) (b : Ahead) → (d : Leads begun begun_ghost n None b) → Leads m g (place exit_label n) None b
  loop_ends n b d =
      let q = d.onward.labels in
      record {
        ghost = with_unplaced d.ghost g.unplaced;
        state = placed_state exit_label g.unplaced d.state (from_need _ m.active d.ghost exit_label d.active (d.onward.need exit_label exit_there ∙ exit_asked)) (λ k y. subst (λ os. IsIn k os) d.unplaced y);
        onward = onward_then (onward_then loop_onward d.onward) (placed_onward exit_label n d.ghost g.unplaced);
        unplaced = refl;
        active = d.active;
        ahead = d.ahead;
      }

  own_loop_around : (n : Maker) (h : Ghost) → Onward begun begun_ghost n h → n.active ≡ m.active → LoopAround n h (Some (record { exit = exit_label; before = length m.active }))
  own_loop_around n h a e =
      let q = a.labels in (
        omega (arith, q, exit_there),
        omega (arith, ap length e),
        below_is (locals_of (take (length m.active) n.active)) (h.need exit_label) (a.need exit_label exit_there ∙ exit_asked ∙ ap locals_of (sym (ap (take (length m.active)) e ∙ take-length m.active))),
      )

-- ---- `while`

pub while_leads : (line : ℕ) (test : Coded) (i : Fitting) → Keeps test i → (body : Option Loop → Part) (step : FittingStep) → StepKeeps body step → (m : Maker) (g : Ghost) (b : Ahead) → State m g None → Settled m → Both i (Block step) (context m g) m.ahead b → Leads m g (while_part line test body m) None b
while_leads line test i f body step h m g b s t x =
    let n3 = begun m g s in
    let labels_ghost = begun_ghost m g s in
    let s3 = loop_state m g s in
    let out = exit_label m g s in
    let first = start_label m g s in
    let d = f.jump_if false out n3 labels_ghost x.mid s3 x.first (exit_there m g s) (below_is (locals_of m.active) (labels_ghost.need out) (exit_asked m g s)) in
    let n4 = test.jump_if false out n3 in
    let e = block_leads line body step h (Some (record { exit = out; before = length m.active })) n4 d.ghost b d.state (f.jump_free false out n3 ∙ t ∙ ap length (sym d.active)) (own_loop_around m g s n4 d.ghost d.onward d.active) (carry (Block step) b d x.second) in
    let both = leads_then d e in
    let n5 = block_part line (body (Some (record { exit = out; before = length m.active }))) n4 in
    let q = both.onward.labels in
    let there = start_there m g s in
    let j = put_jump line first n5 both.ghost both.state (omega (arith, q, there)) (to_need _ m.active both.ghost first both.active (both.onward.need first there ∙ start_asked m g s)) in
    loop_ends m g s (jump_to line first n5) b (leads_on both j)

-- ---- `repeat`

module _ (line : ℕ) (test : Coded) (i : Fitting) (f : Keeps test i) (m : Maker) (g : Ghost) (s : State m g None) where
  abbrev out : ℕ
  out = exit_label m g s

  abbrev first : ℕ
  first = start_label m g s

  abbrev k : ℕ
  k = length m.active

  plain_leads : (z : Maker) (inner : List Local) (mid b : Ahead) (r : Brings (begun m g s) (begun_ghost m g s) z inner mid) → any_captured (drop k z.active) ≡ false → i (context z r.ghost) z.ahead b → Leads (begun m g s) (begun_ghost m g s) (repeat_plain first k test z) None b
  plain_leads z inner mid b r e x =
      let q = r.onward.labels in
      let there = start_there m g s in
      let asked : r.ghost.need first ≡ locals_of m.active = r.onward.need first there ∙ start_asked m g s in
      let cut : take k z.active ≡ m.active = ap (take k) r.grown ∙ take-append_seam m.active r.more in
      let d = f.jump_if false first z r.ghost b r.state x (omega (arith, q, there)) (subst (λ ys. Below (locals_of z.active) ys) (ap locals_of cut ∙ sym asked) (below_take k z.active e)) in
      let n = test.jump_if false first z in
      let w = end_plain k n d.ghost d.state (ap (λ ys. any_captured (drop k ys)) d.active ∙ e) in
      record { ghost = w.ghost; state = w.state; onward = onward_then r.onward (onward_then d.onward w.onward); unplaced = w.unplaced ∙ d.unplaced ∙ r.unplaced; active = ap (take k) d.active ∙ cut; ahead = d.ahead }

  captured_leads : (z : Maker) (inner : List Local) (mid b : Ahead) (r : Brings (begun m g s) (begun_ghost m g s) z inner mid) → any_captured (drop k z.active) ≡ true → i (context z r.ghost) z.ahead b → Leads (begun m g s) (begun_ghost m g s) (repeat_captured line first out k test z) None b
  captured_leads z inner mid b r e x =
      let ys = locals_of z.active in
      let cut : take k z.active ≡ m.active = ap (take k) r.grown ∙ take-append_seam m.active r.more in
      let q0 = r.onward.labels in
      let again = length z.labels in
      let z1 = (new_label z).after in
      let h1 = with_need r.ghost again ys in
      let own : again < length z1.labels = omega (arith, length-append z.labels (0 ∷ [])) in
      let d = f.jump_if false again z1 h1 b (new_label_state ys r.state) x own (below_is ys (h1.need again) (updated_same r.ghost.need again ys)) in
      let z2 = test.jump_if false again z1 in
      let yes2 : any_captured (drop k z2.active) ≡ true = ap (λ us. any_captured (drop k us)) d.active ∙ e in
      let c1 = end_closed line k z2 d.ghost d.state yes2 in
      let v3 = close_from line k (end_locals k z2) in
      let r3 = close_from line k z2 in
      let cut2 : take k z2.active ≡ m.active = ap (take k) d.active ∙ cut in
      let all2 = onward_then r.onward (onward_then (new_label_onward z r.ghost ys) d.onward) in
      let all3 = onward_then all2 c1.onward in
      let q3 = all3.labels in
      let out_need : c1.ghost.need out ≡ locals_of m.active = all3.need out (exit_there m g s) ∙ exit_asked m g s in
      let held = d.state.held in
      let room = d.state.room in
      let lar = c1.onward.larger in
      let out_there = exit_there m g s in
      let h4 = next_ghost c1.ghost (length v3.items) (locals_of r3.active) None in
      let s4 = jump_apart line out v3 r3 c1.ghost c1.state (record { items = refl; labels = refl; constants = refl; functions = refl; upvalues = refl; misfits = refl }) (omega (arith, q3, out_there)) (to_need _ m.active c1.ghost out cut2 out_need) (omega (arith, held, lar)) room in
      let r4 = jump_to line out r3 in
      let q2 = d.onward.labels in
      let again_need : h4.need again ≡ ys = c1.onward.need again (omega (arith, q2, own)) ∙ d.onward.need again own ∙ updated_same r.ghost.need again ys in
      let s5 = placed_state again (begun_ghost m g s).unplaced s4 (below_is (h4.need again) (locals_of r4.active) (ap locals_of d.active ∙ sym again_need)) (λ l y. subst (λ os. IsIn l os) (c1.unplaced ∙ d.unplaced ∙ ap (λ os. again ∷ os) r.unplaced) y) in
      let h5 = with_unplaced h4 (begun_ghost m g s).unplaced in
      let r5 = place again r4 in
      let c2 = end_closed line k r5 h5 s5 yes2 in
      let r6 = close_from line k (end_locals k r5) in
      let go4 : Onward (begun m g s) (begun_ghost m g s) r4 h4 = onward_then all2 (record { need = c1.onward.need; labels = omega arith; high = omega arith; count = omega arith; upvalues = refl; larger = c1.onward.larger; size = (let w = c1.onward.size in omega (arith, w)); vararg = c1.onward.vararg }) in
      let go6 = onward_then go4 (onward_then (placed_onward again r4 h4 (begun_ghost m g s).unplaced) c2.onward) in
      let q6 = go6.labels in
      let there = start_there m g s in
      let j = put_jump line first r6 c2.ghost c2.state (omega (arith, q6, there)) (to_need _ m.active c2.ghost first cut2 (go6.need first there ∙ start_asked m g s)) in
      record { ghost = j.ghost; state = j.state; onward = onward_then go6 j.onward; unplaced = j.unplaced ∙ c2.unplaced; active = j.active ∙ cut2; ahead = j.ahead ∙ d.ahead }

  pub repeat_leads : (body : Option Loop → Part) (step : FittingStep) → StepKeeps body step → (b : Ahead) → Settled m → Until step i (context m g) m.ahead b → Leads m g (repeat_part line body test m) None b
  repeat_leads body step h b t x =
      let n3 = begun m g s in
      let labels_ghost = begun_ghost m g s in
      let loop : Option Loop = Some (record { exit = out; before = k }) in
      let r = h loop n3 labels_ghost x.inner x.mid (loop_state m g s) t (own_loop_around m g s n3 labels_ghost (onward_self n3 labels_ghost) refl) x.body_fits in
      let z = body loop n3 in
      let w = carry_brought i b r x.test_fits in
      loop_ends m g s (cond (captured_from k z) (repeat_captured line first out k test) (repeat_plain first k test) z) b (go z r w (any_captured (drop k z.active)) refl)
    where
      go : (z : Maker) (r : Brings (begun m g s) (begun_ghost m g s) z x.inner x.mid) → i (context z r.ghost) z.ahead b → (c : Bool) → any_captured (drop k z.active) ≡ c → Leads (begun m g s) (begun_ghost m g s) (cond c (repeat_captured line first out k test) (repeat_plain first k test) z) None b
      go z r w true is = captured_leads z x.inner x.mid b r is w
      go z r w false is = plain_leads z x.inner x.mid b r is w
