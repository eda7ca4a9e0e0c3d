-- No local of the running function is one of its upvalues: the field `apart` of `ActFine`, kept by what changes a frame.
use Rattle.std.proofs.Common.{◌≡◌, ◌<◌, ℕ, ◌⊎◌, inl, inr, List, [], ◌∷◌, ◌++◌, length, Some, ap, ◌∙◌, arith}
use Rattle.std.specs.Prelude.{slice_get}
use Rattle.lua_num.specs.Bytes.{Text}
use Rattle.scheme.specs.declared.making.Active.{Active}
use Rattle.lua_model.specs.Datum.{Datum}
use Rattle.source_meaning.specs.State.{Closure as Function}
use Rattle.agrees.proofs.Lists.{get_snoc, get_app}
use Rattle.agrees.proofs.Picture.{Setup, Slot, of_cell, holds, Act, Waiter, Ghost, Apart, Fine}
use Rattle.agrees.proofs.PictureChanges.{same_cell}
use Rattle.agrees.proofs.Cells.{carry_get}

abbrev pub add_local : Act → Text → ℕ → Active → Act
add_local a name c one = record a { own = (name, c) ∷ a.own; active = a.active ++ one ∷ []; slots = a.slots ++ of_cell c ∷ [] }

abbrev pub add_hidden : Act → Datum → Active → Act
add_hidden a v one = record a { active = a.active ++ one ∷ []; slots = a.slots ++ holds v ∷ [] }

-- upvalues are cells that are there
pub upvalue_old : (z : Setup) (n : ℕ) (fs : List Function) (g : Ghost) (h : Waiter) (gs : List Waiter) → Fine z n fs g (h ∷ gs) → (i c : ℕ) → slice_get h.act.source_cells i ≡ Some c → c < n
upvalue_old z n fs g h gs fine i c u = let k = carry_get g.owner h.act.machine_cells h.act.source_cells i c fine.acts.0.carry u in fine.owned k.0 c k.2

-- a new local has a new cell
pub apart_declare : (a : Act) (name : Text) (n : ℕ) (one : Active) → ((i c : ℕ) → slice_get a.source_cells i ≡ Some c → c < n) → Apart a → Apart (add_local a name n one)
apart_declare a name n one old h i r c u s = by (get_snoc a.slots (of_cell n) r (of_cell c) s)
  where
    by : (slice_get a.slots r ≡ Some (of_cell c)) ⊎ ((r ≡ length a.slots) × (of_cell c ≡ of_cell n)) → ⊥
    by (inl q) = h i r c u q
    by (inr q) = let l = old i c u in let e = same_cell c n q.1 in absurd (omega (arith, l, e))

pub apart_hide : (a : Act) (v : Datum) (one : Active) → Apart a → Apart (add_hidden a v one)
apart_hide a v one h i r c u s = by (get_snoc a.slots (holds v) r (of_cell c) s)
  where
    by : (slice_get a.slots r ≡ Some (of_cell c)) ⊎ ((r ≡ length a.slots) × (of_cell c ≡ holds v)) → ⊥
    by (inl q) = h i r c u q
    by (inr q) = let e = q.1 in cc

-- fewer locals
pub apart_cut : (a b : Act) (more : List Slot) → b.source_cells ≡ a.source_cells → b.slots ≡ a.slots ++ more → Apart b → Apart a
apart_cut a b more eu es h i r c u s = h i r c (ap (λ l. slice_get l i) eu ∙ u) (ap (λ l. slice_get l r) es ∙ get_app a.slots more r (of_cell c) s)
