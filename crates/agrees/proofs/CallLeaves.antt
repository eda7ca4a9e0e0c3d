-- Returns and failures leave frames: results land in the frame below, a failure in the topmost one with protections.
use Rattle.std.proofs.Common.{◌≡◌, ℕ, zero, suc, List, [], ◌∷◌, map, length, Option, None, refl, ap, ◌∙◌}
use Rattle.lua_model.specs.Datum.{Datum}
use Rattle.lua_model.specs.Store.{Outside}
use Rattle.lua_model.specs.Endings.{IsPrefix}
use Rattle.source_meaning.specs.State.{State as SourceState}
use Rattle.rules.specs.State.{State, OpenResults, Fails}
use Rattle.rules.specs.Cells.{close_one, close_from}
use Rattle.rules.specs.Calls.{worked, broke, land, leave, give_to}
use Rattle.rules.specs.Run.{step, after, unwind}
use Rattle.agrees.proofs.Posts.{Lands, Caught, Backs, fail_of}
use Rattle.agrees.proofs.CallFails.{taken, by_protections}
use Rattle.agrees.proofs.Lists.{length_map}
use Rattle.agrees.proofs.Accounts.{Soon}
use Rattle.agrees.proofs.Picture.{Setup, Waiter, Ghost, Site, registers, frame_of, pic, waits, cell_at, Fine, Ok}
use Rattle.agrees.proofs.PictureChanges.{shuts, cells_close, fine_leave}

-- a frame on top, at any place and with any open results
abbrev pub on_top : Waiter → List Waiter → Site
on_top h gs = record { a = h.act; below = gs; high = h.high }

abbrev pub topped : SourceState → Outside → Ghost → Waiter → List Waiter → ℕ → Option OpenResults → State
topped s o g h gs pc results = pic s o g (on_top h gs) pc (registers s.cells h.act h.high) results

module _ (z : Setup) where
  pub cells_gone : (s : SourceState) (g : Ghost) (h : Waiter) (gs : List Waiter) → Fine z (length s.cells) s.closures g (h ∷ gs) → map (close_one (length (map (frame_of s.cells) gs)) 0 (registers s.cells h.act h.high)) (map (cell_at s.cells g.home) g.owner) ≡ map (cell_at s.cells (shuts g (length gs) 0).home) g.owner
  cells_gone s g h gs fine =
      ap (λ n. map (close_one n 0 (registers s.cells h.act h.high)) (map (cell_at s.cells g.home) g.owner)) (length_map (frame_of s.cells) gs)
      ∙ cells_close z (length s.cells) s.closures s.cells g h gs 0 fine

  -- results of the topmost frame go to its landing in the frames below
  goes_below : (s : SourceState) (o : Outside) (g : Ghost) (h : Waiter) (gs : List Waiter) (pc : ℕ) (results : Option OpenResults) (vs : List Datum) (m : State) → Fine z (length s.cells) s.closures g (h ∷ gs) → step m ≡ after m (give_to (map (frame_of s.cells) gs) (close_from (topped s o g h gs pc results) 0) h.act.landing vs) → Lands z h.act.landing gs vs s o m
  goes_below s o g h [] pc results vs m fine e = e
  goes_below s o g h (k ∷ ks) pc results vs m fine e = record {
    g = shuts g (length (k ∷ ks)) 0;
    is = e ∙ ap (λ cs. after m (land h.act.landing (record { top = frame_of s.cells k; below = map (frame_of s.cells) ks; cells = cs; closures = g.closures; store = s.store; outside = o }) vs)) (cells_gone s g h (k ∷ ks) fine);
    fine = fine_leave z (length s.cells) s.closures g h (k ∷ ks) fine;
  }

  -- a return
  pub leaves : (s : SourceState) (o : Outside) (g : Ghost) (h : Waiter) (gs : List Waiter) (pc : ℕ) (results : Option OpenResults) (vs : List Datum) (m : State) → Fine z (length s.cells) s.closures g (h ∷ gs) → step m ≡ after m (leave (topped s o g h gs pc results) vs) → Lands z h.act.landing gs (worked h.act.protections vs) s o m
  leaves s o g h gs pc results vs m fine e = goes_below s o g h gs pc results (worked h.act.protections vs) m fine e

  -- a failure
  pub caught : (gs : List Waiter) (h : Waiter) (s : SourceState) (o : Outside) (g : Ghost) (pc : ℕ) (results : Option OpenResults) (v : Datum) (m : State) → Fine z (length s.cells) s.closures g (h ∷ gs) → step m ≡ after m (Fails (topped s o g h gs pc results) v) → Caught z h.act.landing h.act.protections gs v s o m
  caught [] h s o g pc results v m fine e = by h.act.protections refl
    where
      by : (p : ℕ) → h.act.protections ≡ p → Caught z h.act.landing p [] v s o m
      by zero q = e ∙ ap (by_protections m (topped s o g h [] pc results) v) q
      by (suc p) q = e ∙ taken m (topped s o g h [] pc results) p v (broke p v) q refl
  caught (k ∷ ks) h s o g pc results v m fine e = by h.act.protections refl (caught ks k s o (shuts g (length (k ∷ ks)) 0) k.pc None v m (fine_leave z (length s.cells) s.closures g h (k ∷ ks) fine))
    where
      g1 : Ghost
      g1 = shuts g (length (k ∷ ks)) 0

      by : (p : ℕ) → h.act.protections ≡ p → (step m ≡ after m (Fails (topped s o (shuts g (length (k ∷ ks)) 0) k ks k.pc None) v) → Caught z k.act.landing k.act.protections ks v s o m) → Caught z h.act.landing p (k ∷ ks) v s o m
      by zero q ih =
          ih (e ∙ ap (by_protections m (topped s o g h (k ∷ ks) pc results) v) q
          ∙ ap (λ cs. unwind m (frame_of s.cells k ∷ map (frame_of s.cells) ks) (record { top = frame_of s.cells k; below = map (frame_of s.cells) ks; cells = cs; closures = g.closures; store = s.store; outside = o }) v) (cells_gone s g h (k ∷ ks) fine))
      by (suc p) q ih =
          goes_below s o g h (k ∷ ks) pc results (broke p v) m fine (e ∙ taken m (topped s o g h (k ∷ ks) pc results) p v (broke p v) q refl)

  -- a step that fails in the running frame
  pub fails_at : (s : SourceState) (o : Outside) (g : Ghost) (x : Site) (pc : ℕ) (results : Option OpenResults) (v : Datum) (m : State) → Ok z s g x → IsPrefix m.outside.events o.events → step m ≡ after m (Fails (pic s o g x pc (registers s.cells x.a x.high) results) v) → fail_of z x v s o (Soon m)
  fails_at s o g x pc results v m ok before e = record {
    m = m;
    at_m = refl;
    before = before;
    is = caught x.below (waits x 0) s o g pc results v m ok e;
  }

  -- a step that returns from the running frame
  pub backs_at : (s : SourceState) (o : Outside) (g : Ghost) (x : Site) (pc : ℕ) (results : Option OpenResults) (vs : List Datum) (m : State) → Ok z s g x → IsPrefix m.outside.events o.events → step m ≡ after m (leave (pic s o g x pc (registers s.cells x.a x.high) results) vs) → Backs z x.a.landing x.a.protections x.below vs s o (Soon m)
  backs_at s o g x pc results vs m ok before e = record {
    m = m;
    at_m = refl;
    before = before;
    is = leaves s o g (waits x 0) x.below pc results vs m ok e;
  }
