-- What is common to both `for`s: a turn, in which the variables are active, and the three labels.
use Rattle.std.proofs.Common.{◌≡◌, ◌≤◌, ℕ, suc, Bool, true, false, List, [], ◌∷◌, length, refl, sym, ap, ◌∙◌, arith, inl, ◌+◌, ◌⊎◌, ◌++◌, subst, length-append, append_assoc, inr}
use Rattle.std.specs.Prelude.{Option, None, ◌||◌}
use Rattle.std.specs.List.{list_any}
use Rattle.std.proofs.lemmas.List.{length-map}
use Rattle.lua_num.specs.Bytes.{Text}
use Rattle.scheme.specs.Making.{Maker, Ahead, take_registers, Part, when, any_captured, captured_from, end_locals, free_from, activate, new_label}
use Rattle.scheme.specs.Statements.{Loop, close_from, end_block, block_part, turn}
use Rattle.scheme.specs.declared.making.Local.{Local}
use Rattle.scheme.specs.declared.making.Active.{Active}
use Rattle.scheme_sound.proofs.Ghosts.{locals_of, Ghost, IsIn}
use Rattle.scheme_sound.proofs.States.{updated_same, updated_other, State, Onward, onward_then, Leads, take_leads}
use Rattle.scheme_sound.proofs.Labels.{with_need, new_label_state, new_label_onward}
use Rattle.scheme_sound.proofs.Fitting.{declared_locals, more_locals, FittingStep, Block}
use Rattle.scheme_sound.proofs.Operands.{context}
use Rattle.scheme_sound.proofs.Blocks.{Brings, brings_none, brings_then, carry_brought, LoopAround, loop_around_later, StepKeeps, block_ends, block_leads}
use Rattle.scheme_sound.proofs.Locals.{declared_length, activated, activate_brings}

-- ---- a turn

-- the variables' registers may be taken before they become active
pub take_activate : (k : ℕ) (ls : List Local) (m : Maker) → take_registers k (activate ls m) ≡ activate ls (take_registers k m)
take_activate k [] m = refl
take_activate k (one ∷ ls) m = take_activate k ls _

-- a turn leads on, and so many registers were taken in it
pub record TurnLeads (m : Maker) (g : Ghost) (n : Maker) (b : Ahead) (top : ℕ) : Type 0 where
  pub leads : Leads m g n None b
  pub high : top ≤ n.high

end_high : (line k : ℕ) (n : Maker) → n.high ≤ (end_block line k n).high
end_high line k n = go (captured_from k n)
  where
    go : (c : Bool) → n.high ≤ (free_from k (when c (close_from line k) (end_locals k n))).high
    go true = omega arith
    go false = omega arith

pub turn_leads : (line base : ℕ) (texts : List Text) (a : Ahead) (body : Option Loop → Part) (step : FittingStep) → StepKeeps body step → (loop : Option Loop) (m : Maker) (g : Ghost) (b : Ahead) → State m g None → length m.active ≡ base + 3 → m.free ≡ base + 3 → LoopAround m g loop
    → Block step (more_locals (context m g) (declared_locals texts a)) m.ahead b → TurnLeads m g (turn line base (declared_locals texts a) (body loop) m) b (base + 3 + length texts)
turn_leads line base texts a body step f loop m g b s e t k x =
    let ls = declared_locals texts a in
    let w = length texts in
    let many : length ls ≡ w = declared_length texts a in
    let m1 = take_registers w m in
    let d = take_leads w s in
    let r = activate_brings texts a m1 d.ghost d.state (omega (arith, e, t)) (omega (arith, e, t)) in
    let m2 = activate ls m1 in
    let c : Brings m g m2 (locals_of m.active ++ ls) m.ahead = brings_then (brings_none d) r in
    let x2 = carry_brought (Block step) b c x in
    let free2 : m2.free ≡ length m2.active = (activated ls m1).free ∙ (let q = ap length (activated ls m1).grown ∙ length-append m.active (activated ls m1).more in let p = sym (length-map (activated ls m1).more (λ one. one.local)) ∙ ap length (activated ls m1).are ∙ many in omega (arith, q, p, e, t)) in
    let v = block_leads line body step f loop m2 c.ghost b c.state free2 (loop_around_later loop c k) x2 in
    let m3 = block_part line (body loop) m2 in
    let z = block_ends line m g m3 _ b (brings_then c (brings_none v)) in
    let high2 = (activated ls m1).high in
    let high3 = v.onward.high in
    let high4 = end_high line (base + 3) m3 in
    let ended : TurnLeads m g (end_block line (base + 3) m3) b (base + 3 + length texts) = record { leads = subst (λ y. Leads m g (end_block line y m3) None b) e z; high = omega (arith, high2, high3, high4, t) } in
    let same : take_registers (length ls) (activate ls m) ≡ m2 = ap (λ y. take_registers y (activate ls m)) many ∙ take_activate w ls m in
    subst (λ y. TurnLeads m g (end_block line (base + 3) (block_part line (body loop) y)) b (base + 3 + length texts)) (sym same) ended

-- ---- the labels

-- three labels: one where a turn begins, one at the loop's own word, and one behind the loop
module _ (m : Maker) (g : Ghost) (s : State m g None) (ys : List Local) where
  abbrev pub begin_of : ℕ
  begin_of = length m.labels

  abbrev l1 : Maker
  l1 = (new_label m).after

  abbrev pub end_of : ℕ
  end_of = length l1.labels

  abbrev l2 : Maker
  l2 = (new_label l1).after

  abbrev pub exit_of : ℕ
  exit_of = length l2.labels

  abbrev pub labels_made : Maker
  labels_made = (new_label l2).after

  abbrev k1 : Ghost
  k1 = with_need g begin_of ys

  abbrev k2 : Ghost
  k2 = with_need k1 end_of ys

  abbrev pub labels_ghost : Ghost
  labels_ghost = with_need k2 exit_of (locals_of m.active)

  pub end_is : end_of ≡ suc begin_of
  end_is = omega (arith, length-append m.labels (0 ∷ []))

  pub exit_is : exit_of ≡ suc (suc begin_of)
  exit_is = omega (arith, end_is, length-append l1.labels (0 ∷ []))

  pub labels_count : length labels_made.labels ≡ suc (suc (suc begin_of))
  labels_count = omega (arith, exit_is, length-append l2.labels (0 ∷ []))

  pub labels_state : State labels_made labels_ghost None
  labels_state = new_label_state (locals_of m.active) (new_label_state ys (new_label_state ys s))

  pub labels_onward : Onward m g labels_made labels_ghost
  labels_onward = onward_then (new_label_onward m g ys) (onward_then (new_label_onward l1 k1 ys) (new_label_onward l2 k2 (locals_of m.active)))

  pub begin_asks : labels_ghost.need begin_of ≡ ys
  begin_asks = updated_other k2.need exit_of (locals_of m.active) begin_of (λ e. omega (arith, e, exit_is)) ∙ updated_other k1.need end_of ys begin_of (λ e. omega (arith, e, end_is)) ∙ updated_same g.need begin_of ys

  pub end_asks : labels_ghost.need end_of ≡ ys
  end_asks = updated_other k2.need exit_of (locals_of m.active) end_of (λ e. omega (arith, e, exit_is, end_is)) ∙ updated_same k1.need end_of ys

  pub exit_asks : labels_ghost.need exit_of ≡ locals_of m.active
  exit_asks = updated_same k2.need exit_of (locals_of m.active)

  pub begin_unplaced : (k : ℕ) → IsIn k labels_ghost.unplaced → (k ≡ begin_of) ⊎ IsIn k (exit_of ∷ end_of ∷ g.unplaced)
  begin_unplaced k (inl e) = inr (inl e)
  begin_unplaced k (inr (inl e)) = inr (inr (inl e))
  begin_unplaced k (inr (inr (inl e))) = inl e
  begin_unplaced k (inr (inr (inr i))) = inr (inr (inr i))

  pub end_unplaced : (k : ℕ) → IsIn k (exit_of ∷ end_of ∷ g.unplaced) → (k ≡ end_of) ⊎ IsIn k (exit_of ∷ g.unplaced)
  end_unplaced k (inl e) = inr (inl e)
  end_unplaced k (inr (inl e)) = inl e
  end_unplaced k (inr (inr i)) = inr (inr i)

-- ---- the block behind hidden locals

pub none_hidden : (xs : List Active) (ls : List Local) → locals_of xs ≡ ls → any_captured xs ≡ list_any (λ one. one.captured) ls
none_hidden [] ls e = ap (list_any (λ one. one.captured)) e
none_hidden (x ∷ xs) ls e = ap (λ r. x.local.captured || r) (none_hidden xs (locals_of xs) refl) ∙ ap (list_any (λ one. one.captured)) e

-- a block behind hidden locals and the variables
pub block_moved : (m n : Maker) (g h : Ghost) (hidden : List Local) (texts : List Text) (a0 mid b : Ahead) (step : FittingStep) → locals_of n.active ≡ locals_of m.active ++ hidden → n.upvalue_names ≡ m.upvalue_names → h.vararg ≡ g.vararg → n.ahead ≡ mid
    → Block step (more_locals (context m g) (hidden ++ declared_locals texts a0)) mid b → Block step (more_locals (context n h) (declared_locals texts a0)) n.ahead b
block_moved m n g h hidden texts a0 mid b step e u v w x =
    let ds = declared_locals texts a0 in
    let one : more_locals (context n h) ds ≡ more_locals (context m g) (hidden ++ ds) = ap (λ ls. record { locals = ls ++ ds; upvalues = length n.upvalue_names; vararg = h.vararg }) e
    ∙ ap (λ ls. record { locals = ls; upvalues = length n.upvalue_names; vararg = h.vararg }) (append_assoc (locals_of m.active) hidden ds)
    ∙ ap (λ k. record { locals = locals_of m.active ++ (hidden ++ ds); upvalues = length k; vararg = h.vararg }) u
    ∙ ap (λ k. record { locals = locals_of m.active ++ (hidden ++ ds); upvalues = length m.upvalue_names; vararg = k }) v in
    subst (λ c. Block step c n.ahead b) (sym one) (subst (λ y. Block step (more_locals (context m g) (hidden ++ ds)) y b) (sym w) x)
