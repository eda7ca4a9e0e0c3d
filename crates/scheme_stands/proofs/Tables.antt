-- Constructors stand as the relation says, if the items in them do: one lemma for each kind of item.
use Rattle.std.proofs.Common.{◌≡◌, ℕ, suc, ◌+◌, ◌-◌, ◌<◌, Bool, true, false, cond, List, length, refl, ◌∙◌, subst, arith}
use Rattle.std.specs.Prelude.{None, ◌==◌, ◌/◌, nat_le}
use Rattle.opcode.specs.declared.op.Op.{Op}
use Rattle.scheme.specs.Making.{Maker, Part, Asks, put, take_registers, freeing, when}
use Rattle.scheme.specs.Expressions.{Coded, next_reg, rk}
use Rattle.scheme.specs.Lists.{Entry, set_list, small_block, large_block, open_entry, keyed_item, full_end, pending_after, entries_from, table_at, positional_count, other_count, size_hint}
use Rattle.scheme.specs.declared.making.Piece.{Piece}
use Rattle.scheme.specs.declared.making.Active.{Active}
use Rattle.scheme_stands.specs.Words.{Stretch, WordAt}
use Rattle.scheme_stands.specs.Expressions.{Rel, RkAt, TwoAt}
use Rattle.scheme_stands.specs.Lists.{SetListBy, SetListAt, SetListIf, ItemBy, KeyedAt, TableAt}
use Rattle.scheme_stands.proofs.Growth.{calm, Grown, on_part, on_put, on_free, Final, before, later, spot, fn_of, put_at, before_put, before_take, before_free, room_at}
use Rattle.scheme_stands.proofs.Parts.{Grows, grows_when, grows_next, grows_rk, grows_set_list}
use Rattle.scheme_stands.proofs.Links.{Links, AsksAt, two_parts, rk_at, next_at}

-- an item, which keeps what is made and F as it is counted
abbrev pub ItemGrows : Part → Type 0
ItemGrows part = (m : Maker) → Grown calm m (part m)

after_free : (b : Bool) (line t done pending : ℕ) (m : Maker) → m.free ≡ t + suc pending → (when b (set_list line t 50 done) m).free ≡ t + suc (cond b 0 pending)
after_free true line t done pending m e = refl
after_free false line t done pending m e = e

module _ (z : Maker) where
  set_list_by : (b : Bool) (line t n block : ℕ) (m : Maker) {k : ℕ} → Final k (cond b (small_block line t n block) (large_block line t n block) m) z →
      SetListBy b (fn_of z) t n block (spot m) (spot (cond b (small_block line t n block) (large_block line t n block) m))
  set_list_by true line t n block m f = put_at line _ m f
  set_list_by false line t n block m f =
      let m1 = put line (Piece.Abc Op.SetList t n 0) m in
      record { mid = spot m1; first_at = put_at line (Piece.Abc Op.SetList t n 0) m (before_put line (Piece.Bare block) m1 f); second_at = put_at line (Piece.Bare block) m1 f }

  pub set_list_at : (line t n done : ℕ) (m : Maker) {k : ℕ} → Final k (set_list line t n done m) z → SetListAt (fn_of z) t n done (spot m) (spot (set_list line t n done m))
  set_list_at line t n done m f =
      let block = (done - 1) / 50 + 1 in
      set_list_by (nat_le block 511) line t n block m (before_free (t + 1) (cond (nat_le block 511) (small_block line t n block) (large_block line t n block) m) f)

  pub set_list_if : (b : Bool) (line t n done : ℕ) (m : Maker) {k : ℕ} → Final k (when b (set_list line t n done) m) z → SetListIf b (fn_of z) t n done (spot m) (spot (when b (set_list line t n done) m))
  set_list_if true line t n done m f = set_list_at line t n done m f
  set_list_if false line t n done m f = record { pc = refl; ahead = refl; functions = refl }

  -- the rest of the items, behind one
  abbrev pub RestAt : Part → (List Active → Stretch) → (t pending : ℕ) → Type 0
  RestAt rest rel t pending = (m : Maker) → m.free ≡ t + suc pending → Final (length m.labels) (rest m) z → rel m.active (spot m) (spot (rest m))

  module _ (line t done pending : ℕ) (c : Coded) (e : Rel) (g : Grows calm c) (l : Links z c e) (rest : Part) (rel : List Active → Stretch) (h : ItemGrows rest) (k : RestAt rest rel t (pending_after (suc pending))) where
    abbrev pub closed_item : Part
    closed_item m = rest (full_end line t (suc done) (suc pending) (next_reg c m))

    pub item_at : (b : Bool) (m : Maker) → m.free ≡ t + suc pending → Final (length m.labels) (cond b (open_entry line t done c) closed_item m) z →
        ItemBy b (fn_of z) e m.active t done pending (rel m.active) (spot m) (spot (cond b (open_entry line t done c) closed_item m))
    item_at true m s f =
        let m1 = c.multi Op.Call None m in
        record {
          mid = spot m1;
          first_at = subst (λ n. e.multi m.active n Op.Call None (spot m) (spot m1)) s (l.multi Op.Call None m (before (grows_set_list {v = calm} line t 0 (suc done) m1) f));
          second_at = set_list_at line t 0 (suc done) m1 f;
        }
    item_at false m s f =
        let m1 = next_reg c m in
        let full = suc pending == 50 in
        let m2 = when full (set_list line t 50 (suc done)) m1 in
        let m3 = rest m2 in
        let g1 = grows_next c g m in
        let g2 : Grown calm m1 m2 = grows_when full (set_list line t 50 (suc done)) m1 (grows_set_list line t 50 (suc done) m1) in
        let f2 = before (h m2) f in
        let n = next_at z c e l.to m (before g2 f2) in
        let s1 : m1.free ≡ t + suc (suc pending) = n.at_free ∙ omega (arith, s) in
        let s2 = after_free full line t (suc done) (suc pending) m1 s1 in
        record {
          mid = spot m1;
          room = subst (λ x. x < (fn_of z).size) s n.room;
          first = subst (λ x. e.to_reg m.active x x (spot m) (spot m1)) s n.value_at;
          others = record {
            mid = spot m2;
            first_at = set_list_if full line t 50 (suc done) m1 f2;
            second_at = subst (λ a. rel a (spot m2) (spot m3)) (g2.active ∙ g1.active) (k m2 s2 (later (omega (arith, g1.more, g2.more)) f));
          };
        }

  module _ (line t pending : ℕ) (key : Asks ℕ) (d : List Active → (free x free1 : ℕ) → Stretch) (c : Coded) (e : Rel) (kg : (m : Maker) → Grown calm m (key m).after) (kl : AsksAt z key d) (g : Grows calm c) (l : Links z c e) where
    pub keyed_grows : ItemGrows (freeing (keyed_item line t key c))
    keyed_grows m = on_free m.free (on_put _ _ (on_part (grows_rk c g _) (kg m)))

    pub keyed_at : (m : Maker) → m.free ≡ t + suc pending → Final (length m.labels) (freeing (keyed_item line t key c) m) z →
        KeyedAt (fn_of z) (d m.active) e m.active t pending (spot m) (spot (freeing (keyed_item line t key c) m))
    keyed_at m s f =
        let m1 = (key m).after in
        let m2 = (rk c m1).after in
        let word = Piece.Abc Op.SetTable t (key m).value (rk c m1).value in
        let f3 = before_free m.free (put line word m2) f in
        subst (λ n. TwoAt (d m.active) (RkAt (fn_of z) m.active e) n (λ k v. WordAt (fn_of z) (Piece.Abc Op.SetTable t k v)) (spot m) (spot (put line word m2))) s
        (two_parts z key (rk c) d (λ a. RkAt (fn_of z) a e) kg (grows_rk c g) kl (rk_at z c e g l.to) m _ _ (before_put line word m2 f3) (put_at line word m2 f3))

  pub table_stands : (line : ℕ) (items : List Entry) (rel : List Active → (t : ℕ) → Stretch) → ((t : ℕ) → ItemGrows (entries_from line t 0 0 items)) → ((t : ℕ) → RestAt (entries_from line t 0 0 items) (λ active. rel active t) t 0) →
      (m : Maker) → Final (length m.labels) (table_at line items m) z → TableAt (fn_of z) (rel m.active) m.free (spot m) (spot (table_at line items m))
  table_stands line items rel g l m f =
      let t = m.free in
      let array = size_hint (positional_count items) in
      let hash = size_hint (other_count items) in
      let word = Piece.Abc Op.NewTable t array hash in
      let m1 = put line word m in
      let m2 = take_registers 1 m1 in
      let m3 = entries_from line t 0 0 items m2 in
      let f3 = before_free (t + 1) m3 f in
      let f2 = before (g t m2) f3 in
      record {
        array = array;
        hash = hash;
        mid = spot m1;
        room = room_at m1 f2;
        word = put_at line word m (before_take 1 m1 f2);
        items_at = l t m2 refl f3;
      }
