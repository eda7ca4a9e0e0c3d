-- Steps with other globals: a step that sets no global does with other globals what it does, with those globals, where what it gets is the same.
use Rattle.std.proofs.Common.{◌≡◌, ℕ, zero, suc, false, List, [], ◌∷◌, Some, refl, sym, ap, subst, true≢false}
use Rattle.opcode.specs.declared.op.Op.{Op}
use Rattle.opcode.specs.declared.word.Instr.{Instr}
use Rattle.proto.specs.Chunk.{Chunk, functions, function_at}
use Rattle.lua_num.specs.Bytes.{Text}
use Rattle.lua_model.specs.Datum.{Datum}
use Rattle.lua_model.specs.Store.{global}
use Rattle.rules.specs.State.{Frame, State, Effect, Goes, Fails, Ends, Waits, IsStuck, global_name, set}
use Rattle.rules.specs.Cells.{close_from}
use Rattle.rules.specs.Calls.{broke, give_to}
use Rattle.rules.specs.Step.{effect}
use Rattle.rules.specs.Run.{Conf, Going, Ended, Failed, Waiting, Stuck, settled, unwind, after}
use Rattle.global_use.specs.Uses.{is_set}
use Rattle.global_use.specs.Runs.{Globals, value_in}
use Rattle.global_use.proofs.Stores.{with_globals}
use Rattle.global_use.proofs.Walking.{AllIn, ClosuresIn, Holds, state_with, Does, need_does, set_does, give_to_does}
use Rattle.global_use.proofs.Words.{effect_does}

module _ (P : Chunk → Type 0) (g : Globals) where
  -- what an effect comes to, of a run
  abbrev pub DoesRun : Conf → Conf → Type 0
  DoesRun (Going m) c = (c ≡ Going (state_with g m)) × Holds P m
  DoesRun (Ended store outside) c = c ≡ Ended (with_globals store g) outside
  DoesRun (Failed t store outside) c = c ≡ Failed t (with_globals store g) outside
  DoesRun (Waiting m) c = c ≡ Waiting (state_with g m)
  DoesRun Stuck c = c ≡ Stuck

  settled_does : (m : State) (fail fail1 : State → Datum → Conf) (e e1 : Effect) → Does P g e e1 → ((at : State) (v : Datum) → Holds P at → DoesRun (fail at v) (fail1 (state_with g at) v)) → DoesRun (settled m fail e) (settled (state_with g m) fail1 e1)
  settled_does m fail fail1 (Goes next) e1 does fails = (ap (settled (state_with g m) fail1) does.0, does.1)
  settled_does m fail fail1 (Fails at v) e1 does fails = subst (λ e. DoesRun (fail at v) (settled (state_with g m) fail1 e)) (sym does.0) (fails at v does.1)
  settled_does m fail fail1 (Ends at) e1 does fails = ap (settled (state_with g m) fail1) does
  settled_does m fail fail1 Waits e1 does fails = ap (settled (state_with g m) fail1) does
  settled_does m fail fail1 IsStuck e1 does fails = ap (settled (state_with g m) fail1) does

  unwind_does : (m : State) (frames : List Frame) (at : State) (v : Datum) → AllIn P frames → ClosuresIn P at.closures → DoesRun (unwind m frames at v) (unwind (state_with g m) frames (state_with g at) v)
  unwind_does m [] at v all closures = refl
  unwind_does m (x ∷ below) at v all closures =
      let left : State = close_from (record at { top = x; below = below }) 0 in
      elim x.protections as (λ q. DoesRun
      (elim q [ zero ↦ unwind m below left v | suc p ↦ settled m (λ at1 v1. unwind m below (record left { store = at1.store; outside = at1.outside }) v1) (give_to below left x.landing (broke p v)) ])
      (elim q [ zero ↦ unwind (state_with g m) below (state_with g left) v | suc p ↦ settled (state_with g m) (λ at1 v1. unwind (state_with g m) below (record (state_with g left) { store = at1.store; outside = at1.outside }) v1) (give_to below (state_with g left) x.landing (broke p v)) ])) [
        | zero ↦ unwind_does m below left v all.1 closures
        | suc p ↦ settled_does m _ _ _ _ (give_to_does P g below left x.landing (broke p v) all.1 closures) (λ at1 v1 holds1. unwind_does m below (record left { store = at1.store; outside = at1.outside }) v1 all.1 closures)
      ]

  pub after_does : (m : State) (e e1 : Effect) → Does P g e e1 → DoesRun (after m e) (after (state_with g m) e1)
  after_does m e e1 does = settled_does m _ _ e e1 does (λ at v holds. unwind_does m (at.top ∷ at.below) at v (holds.0, holds.1) holds.2)

-- the globals that a run has come to are these
abbrev pub HasGlobals : Globals → Conf → Type 0
HasGlobals g (Going m) = m.store.globals ≡ g
HasGlobals g (Ended store outside) = store.globals ≡ g
HasGlobals g (Failed t store outside) = store.globals ≡ g
HasGlobals g (Waiting m) = m.store.globals ≡ g
HasGlobals g Stuck = Unit {0}

abbrev globals_or : Globals → Conf → Globals
globals_or g (Going m) = m.store.globals
globals_or g (Ended store outside) = store.globals
globals_or g (Failed t store outside) = store.globals
globals_or g (Waiting m) = m.store.globals
globals_or g Stuck = g

-- what with its own globals is what it is has them still
pub has_globals : (P : Chunk → Type 0) (g : Globals) (c : Conf) → DoesRun P g c c → HasGlobals g c
has_globals P g (Going m) does = ap (globals_or g) does.0
has_globals P g (Ended store outside) does = ap (globals_or g) does
has_globals P g (Failed t store outside) does = ap (globals_or g) does
has_globals P g (Waiting m) does = ap (globals_or g) does
has_globals P g Stuck does = tt

-- the functions of what a run goes on with
abbrev pub RunHolds : (Chunk → Type 0) → Conf → Type 0
RunHolds P (Going m) = Holds P m
RunHolds P _ = Unit {0}

pub run_holds : (P : Chunk → Type 0) (g : Globals) (c c1 : Conf) → DoesRun P g c c1 → RunHolds P c
run_holds P g (Going m) c1 does = does.1
run_holds P g (Ended store outside) c1 does = tt
run_holds P g (Failed t store outside) c1 does = tt
run_holds P g (Waiting m) c1 does = tt
run_holds P g Stuck c1 does = tt

module _ (P : Chunk → Type 0) (inner : (f : Chunk) (n : ℕ) (c : Chunk) → P f → function_at (functions f) n ≡ Some c → P c) (g : Globals) where
  -- a word that sets no global
  pub word_does : (op : Op) (m : State) (i : Instr) → is_set op ≡ false → (op ≡ Op.GetGlobal → (name : Text) → global_name m i.bx ≡ Some name → global m.store name ≡ value_in g name) → Holds P m → Does P g (effect op m i) (effect op (state_with g m) i)
  word_does Op.GetGlobal m i no_set same holds =
      need_does P g (global_name m i.bx) _ _ (λ name is.
      subst (λ v. Does P g (set m i.a (global m.store name)) (set (state_with g m) i.a v)) (same refl name is) (set_does P g m i.a (global m.store name) holds))
  word_does Op.SetGlobal m i no_set same holds = absurd (true≢false no_set)
  word_does op m i no_set same holds = effect_does P inner g op m i refl no_set holds
