-- Frames that are made: their registers, the table of their further arguments, and how they begin.
use Rattle.std.proofs.Common.{◌≡◌, ℕ, zero, suc, ◌-◌, ◌<◌, ◌≤◌, ◌==◌, Bool, List, [], ◌∷◌, ◌++◌, length, take, drop, true, false, codes, refl, sym, ap, subst, ◌∙◌, arith}
use Rattle.std.specs.Prelude.{pos, not, replicate, slice_set, if◌then◌else◌}
use Rattle.std.proofs.lemmas.Bool.{le-leb, eq-eqb, ne_eqb}
use Rattle.std.proofs.lemmas.List.{length-append, length-map}
use Rattle.std.proofs.lemmas.List.Elements.{All-replicate}
use Rattle.std.proofs.Math.Seq.{take-nil}
use Rattle.proto.specs.Chunk.{own}
use Rattle.lua_model.specs.declared.TableId.{TableId}
use Rattle.lua_model.specs.declared.Value.{Value}
use Rattle.lua_model.specs.declared.Value.TheVariants.{Nil}
use Rattle.lua_model.specs.Datum.{Datum, nil, text, number, table, adjusted, extra_of}
use Rattle.lua_model.specs.Store.{Store, Host, no_table, new_table, raw_set}
use Rattle.lua_heap.specs.State.{HeapState, datum, IsOf, AreOf, own_store, store_of, with_store as put_store}
use Rattle.lua_heap.proofs.Callers.{keeps_itself}
use Rattle.rules.specs.Words.{is_vararg, has_arg_table}
use Rattle.rules.specs.State.{State, Effect, Goes, check, set, spliced, with_registers, with_store}
use Rattle.rules.specs.Calls.{begin, with_arg_table}
use Rattle.upvalue.specs.State.{StackState, top, below, with_top, in_a_row, size, cells_of, with_row, fitted}
use Rattle.upvalue.specs.Shared.{Shares, KeepsShares}
use Rattle.machine.specs.Frames.{data_of, showing}
use Rattle.machine.proofs.Rows.{adjusted_none}
use Rattle.machine.proofs.Items.{with_items_beside}
use Rattle.machine.proofs.Showing.{set_is}
use Rattle.machine.proofs.LentRegisters.{part_is, row_is, left_frames, left_shares}
use Rattle.machine.proofs.SeenStates.{cells_with_top}

-- ---- the arguments behind the parameters

pub extra_kept : (flags params : ℕ) (args : List Datum) → (flags ≡ 0 → ⊥) → extra_of (is_vararg flags) params args ≡ drop params args
extra_kept flags params args other = ap (λ b. extra_of b params args) (ap not (ne_eqb flags 0 other))

-- ---- registers

spliced_behind : (d : Datum) (ds : List Datum) (a : ℕ) (vs : List Datum) → spliced (d ∷ ds) (suc a) vs ≡ d ∷ spliced ds a vs
spliced_behind d ds a [] = refl
spliced_behind d ds a (v ∷ vs) = spliced_behind d (slice_set ds a v) (suc a) vs

-- parameters set in registers that are all nil
pub spliced_nils : (n p : ℕ) (vs : List Datum) → p ≤ n → spliced (replicate n nil) 0 (adjusted p vs) ≡ adjusted n (take p vs)
spliced_nils n zero vs room = sym (adjusted_none n)
spliced_nils zero (suc p) vs room = absurd (omega (arith, room))
spliced_nils (suc n) (suc p) [] room = spliced_behind nil (replicate n nil) 0 (adjusted p []) ∙ ap (λ ds. nil ∷ ds) (spliced_nils n p [] (omega (arith, room)) ∙ ap (adjusted n) (take-nil p))
spliced_nils (suc n) (suc p) (v ∷ vs) room = spliced_behind v (replicate n nil) 0 (adjusted p vs) ∙ ap (λ ds. v ∷ ds) (spliced_nils n p vs (omega (arith, room)))

nils_are : (h : HeapState) (n : ℕ) → data_of h (replicate n Nil) ≡ replicate n nil
nils_are h zero = refl
nils_are h (suc n) = ap (λ ds. nil ∷ ds) (nils_are h n)

-- what is left in the stack when these are left in the registers of a frame that was put above
module _ (old pushed : StackState) (n base : ℕ) (row now : List Value) (is : pushed ≡ record old { frames = replicate n Nil ∷ old.frames }) (b : base ≡ size (below pushed.frames)) (r : row ≡ in_a_row pushed.frames) (long : length now ≡ length (take (length row - base) (drop base row))) where
  abbrev left : List (List Value)
  left = with_row pushed.frames (fitted pushed.frames (take base row ++ (now ++ drop (length row - base) (drop base row))))

  frames_are : pushed.frames ≡ replicate n Nil ∷ old.frames
  frames_are = ap (λ (s : StackState). s.frames) is

  lent : take (length row - base) (drop base row) ≡ replicate n Nil
  lent = part_is pushed.frames base row b r ∙ ap top frames_are

  long_top : length now ≡ length (top pushed.frames)
  long_top = long ∙ ap length (part_is pushed.frames base row b r)

  left_is : left ≡ with_top pushed.frames now
  left_is = ap (λ vs. with_row pushed.frames (fitted pushed.frames vs)) (row_is pushed.frames base row now b r) ∙ left_frames pushed.frames now long_top

  made : left ≡ now ∷ old.frames
  made = left_is ∙ ap (λ fs. with_top fs now) frames_are

  pub made_above : left ≡ top left ∷ old.frames
  made_above = made ∙ ap (λ vs. vs ∷ old.frames) (sym (ap top made))

  pub made_registers : (h : HeapState) (p : ℕ) (args : List Datum) → p ≤ n → data_of h now ≡ spliced (data_of h (take (length row - base) (drop base row))) 0 (adjusted p args) → data_of h (top left) ≡ adjusted n (take p args)
  made_registers h p args room put =
      ap (λ fs. data_of h (top fs)) made
      ∙ put
      ∙ ap (λ vs. spliced (data_of h vs) 0 (adjusted p args)) lent
      ∙ ap (λ ds. spliced ds 0 (adjusted p args)) (nils_are h n)
      ∙ spliced_nils n p args room

  pub made_shares : KeepsShares old pushed → (h : HeapState) → (AreOf h (take (length row - base) (drop base row)) → AreOf h now) → Shares old h → Shares (record pushed { frames = left }) h × (cells_of left h ≡ cells_of old.frames h)
  made_shares keeps h known shares =
      let on = keeps h shares in
      let nils : AreOf h (take (length row - base) (drop base row)) = subst (AreOf h) (sym lent) (All-replicate (IsOf h) n Nil tt) in (
        subst (λ (vs : List Value). Shares (record pushed { frames = with_row pushed.frames (fitted pushed.frames vs) }) h) (sym (row_is pushed.frames base row now b r)) (left_shares pushed h h now (keeps_itself h) refl long_top (known nils) on.0),
        ap (λ fs. cells_of fs h) left_is ∙ cells_with_top pushed.frames now h ∙ on.1,
      )

-- ---- the table of further arguments

pub new_table_known : (old new : HeapState) (t : TableId) → t.index ≡ length old.tables → new ≡ put_store old (new_table (own_store old)) → IsOf new (Value.Table t)
new_table_known old new t last is =
    let tables : new.tables ≡ old.tables ++ no_table ∷ [] = ap (λ (h : HeapState). h.tables) is in
    omega (arith, last, ap length tables, length-append old.tables (no_table ∷ []))

pub with_arg_table_beside : (hosts : List Host) (s : Store) (extra : List Datum) → with_arg_table (record s { hosts = hosts }) extra ≡ record (with_arg_table s extra) { hosts = hosts }
with_arg_table_beside hosts s extra =
    let t = length s.tables in
    ap (λ w. raw_set w t (text (codes "n")) (number (pos (length extra)))) (with_items_beside hosts (new_table s) t (pos 1) extra)

-- ---- how a frame begins

module _ (m : State) (flags : ℕ) (same : (own m.top.function).flags ≡ flags) (room : (own m.top.function).params ≤ length m.top.registers) where
  abbrev with_table : Effect
  with_table = set (with_store m (with_arg_table m.store m.top.extra)) (own m.top.function).params (table (length m.store.tables))

  begins_as : (b : Bool) → (flags == 7) ≡ b → begin m ≡ (if b then with_table else Goes m)
  begins_as b is =
      ap (λ there. check there (if has_arg_table (own m.top.function).flags then with_table else Goes m)) (le-leb (own m.top.function).params (length m.top.registers) room)
      ∙ ap (λ n. if n == 7 then with_table else Goes m) same
      ∙ ap (λ t. if t then with_table else Goes m) is

-- its registers are those of a new frame, and the store is a heap's
abbrev pub begun : State → HeapState → List Datum → State
begun m h registers = with_store (with_registers m registers) (store_of h m.store.hosts)

-- with no table
pub begins_plain : (m : State) (h : HeapState) (ds : List Datum) (registers : List Value) (flags : ℕ) → (own m.top.function).flags ≡ flags → (own m.top.function).params ≤ length ds → (flags ≡ 7 → ⊥) → data_of h registers ≡ ds → begin (begun m h ds) ≡ Goes (showing m h registers)
begins_plain m h ds registers flags same room other is =
    begins_as (begun m h ds) flags same room false (ne_eqb flags 7 other) ∙ ap (λ rs. Goes (begun m h rs)) (sym is)

-- with the table in the register behind the parameters
pub begins_table : (m : State) (old new : HeapState) (ds : List Datum) (extra registers : List Value) (flags p : ℕ) (v : Value) → (own m.top.function).flags ≡ flags → (own m.top.function).params ≡ p → m.top.extra ≡ data_of old extra → flags ≡ 7 → p < length registers → data_of new registers ≡ ds → datum new v ≡ table (length old.tables) → own_store new ≡ with_arg_table (own_store old) (data_of old extra) → begin (begun m old ds) ≡ Goes (showing m new (slice_set registers p v))
begins_table m old new ds extra registers flags p v same params further seven room is made stored =
    let hosts = m.store.hosts in
    let long : length (data_of new registers) ≡ length registers = length-map registers (datum new) in
    let store : with_arg_table (store_of old hosts) (data_of old extra) ≡ store_of new hosts =
    with_arg_table_beside hosts (own_store old) (data_of old extra) ∙ ap (λ (w : Store). record w { hosts = hosts }) (sym stored) in
    begins_as (begun m old ds) flags same (omega (arith, room, params, long, ap length is)) true (eq-eqb flags 7 seven)
    ∙ (λ i. set (with_store (with_registers m (sym is i)) (with_arg_table (store_of old hosts) (further i))) (params i) (sym made i))
    ∙ ap (λ w. set (with_store (with_registers m (data_of new registers)) w) p (datum new v)) store
    ∙ set_is m new registers p v room
