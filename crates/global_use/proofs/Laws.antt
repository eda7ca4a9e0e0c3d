-- Of the globals that a run begins with those that the chunk gets are all that matter, and those that it sets are all that it changes.
use Rattle.std.proofs.Common.{◌≡◌, ℕ, zero, suc, ◌≤◌, Bool, true, false, cond, List, None, Some, refl, sym, ap, ◌∙◌, subst, arith}
use Rattle.std.specs.Prelude.{Option, slice_get, IfSome}
use Rattle.std.specs.Str.{bytes_eq}
use Rattle.std.proofs.lemmas.Bool.{false_from_ne_true}
use Rattle.std.proofs.lemmas.Slice.Eq.{bytes_eq-Decides}
use Rattle.opcode.specs.declared.op.Op.{Op}
use Rattle.opcode.specs.declared.word.Instr.{Instr}
use Rattle.proto.specs.Chunk.{Chunk, own, functions, function_at}
use Rattle.lua_num.specs.Bytes.{Text}
use Rattle.lua_model.specs.Datum.{Datum}
use Rattle.lua_model.specs.Store.{Store, Reply, with_global}
use Rattle.rules.specs.Words.{instr_at}
use Rattle.rules.specs.Places.{is_further}
use Rattle.rules.specs.State.{State, Goes, need, at_pc, with_store, global_name, register}
use Rattle.rules.specs.Calls.{begin}
use Rattle.rules.specs.Step.{effect}
use Rattle.rules.specs.Run.{Conf, Going, Ended, Failed, Waiting, Stuck, after, current, step, run, first_state, start, course}
use Rattle.rules.proofs.Lists.{none_some}
use Rattle.global_use.specs.Uses.{is_get, is_set, uses, gets, sets}
use Rattle.global_use.specs.Runs.{Globals, value_in, store_with, GetsAloneMatter, globals_of, SetsAloneChange}
use Rattle.global_use.proofs.Stores.{with_globals}
use Rattle.global_use.proofs.Walking.{Holds, state_with, begin_does}
use Rattle.global_use.proofs.Values.{set_in, set_in_both, set_in_other}
use Rattle.global_use.proofs.Standing.{named, uses_some, uses_inner}
use Rattle.global_use.proofs.Steps.{DoesRun, after_does, HasGlobals, has_globals, RunHolds, run_holds, word_does}

-- what is done next stands there
shown : {A : Type 0} (b : Bool) (o : Option A) (x : A) → cond b None o ≡ Some x → (b ≡ false) × (o ≡ Some x)
shown true o x e = none_some x e
shown false o x e = (refl, e)

-- what the words of a function use, the chunk uses
abbrev Within : Chunk → Chunk → Type 0
Within chunk f = (does : Op → Bool) (name : Text) → uses does name f ≤ uses does name chunk

within_inner : (chunk f : Chunk) (n : ℕ) (c : Chunk) → Within chunk f → function_at (functions f) n ≡ Some c → Within chunk c
within_inner chunk f n c within is does name =
    let whole : uses does name f ≤ uses does name chunk = within does name in
    let part : uses does name c ≤ uses does name f = uses_inner does name f n c is in
    omega arith

-- a word that is done, of a function of the chunk, counts in the chunk
counts : (chunk : Chunk) (does : Op → Bool) (m : State) (i : Instr) (name : Text) → Within chunk m.top.function → current m ≡ Some i → does i.op ≡ true → global_name m i.bx ≡ Some name → 1 ≤ uses does name chunk
counts chunk does m i name within here done is =
    let stands = shown (is_further m.top.function m.top.pc) (instr_at m.top.function m.top.pc) i here in
    let one : 1 ≤ uses does name m.top.function = uses_some does name m.top.function m.top.pc i stands.0 stands.1 done (named name (slice_get (own m.top.function).constants i.bx) is) in
    let whole : uses does name m.top.function ≤ uses does name chunk = within does name in
    omega arith

module _ (chunk : Chunk) where
  abbrev P : Chunk → Type 0
  P f = Within chunk f

  -- ---- a step that sets no global

  abbrev after_word : State → Op → Instr → Conf
  after_word m op i = after m (effect op (at_pc m (suc m.top.pc)) i)

  step_does : (m : State) (g : Globals) (op : Op) (i : Instr) → is_set op ≡ false → (op ≡ Op.GetGlobal → (name : Text) → global_name m i.bx ≡ Some name → value_in m.store.globals name ≡ value_in g name) → Holds P m → DoesRun P g (after_word m op i) (after_word (state_with g m) op i)
  step_does m g op i no_set same holds = after_does P g m _ _ (word_does P (within_inner chunk) g op (at_pc m (suc m.top.pc)) i no_set same holds)

  step_has_globals : (m : State) (op : Op) (i : Instr) → is_set op ≡ false → Holds P m → HasGlobals m.store.globals (after_word m op i)
  step_has_globals m op i no_set holds =
      let itself : state_with m.store.globals m ≡ m = refl in
      has_globals P m.store.globals (after_word m op i)
      (subst (λ s. DoesRun P m.store.globals (after_word m op i) (after_word s op i)) itself (step_does m m.store.globals op i no_set (λ is name called. refl) holds))

  -- ---- which globals matter

  abbrev Agree : Globals → Globals → Type 0
  Agree one other = (name : Text) → 1 ≤ gets chunk name → value_in one name ≡ value_in other name

  -- the second run is the first with globals that agree with its own
  abbrev Twins : Conf → Conf → Type 0
  Twins (Going m) c = (h : Globals) × (c ≡ Going (state_with h m)) × Agree m.store.globals h × Holds P m
  Twins (Ended store outside) c = (h : Globals) × (c ≡ Ended (with_globals store h) outside)
  Twins (Failed t store outside) c = (h : Globals) × (c ≡ Failed t (with_globals store h) outside)
  Twins (Waiting m) c = (h : Globals) × (c ≡ Waiting (state_with h m))
  Twins Stuck c = c ≡ Stuck

  to_twins : (g h : Globals) (c c1 : Conf) → Agree g h → HasGlobals g c → DoesRun P h c c1 → Twins c c1
  to_twins g h (Going m) c1 agree has does = (h, does.0, subst (λ k. Agree k h) (sym has) agree, does.1)
  to_twins g h (Ended store outside) c1 agree has does = (h, does)
  to_twins g h (Failed t store outside) c1 agree has does = (h, does)
  to_twins g h (Waiting m) c1 agree has does = (h, does)
  to_twins g h Stuck c1 agree has does = does

  plain_twins : (m : State) (h : Globals) (op : Op) (i : Instr) → is_set op ≡ false → i.op ≡ op → current m ≡ Some i → Agree m.store.globals h → Holds P m → Twins (after_word m op i) (after_word (state_with h m) op i)
  plain_twins m h op i no_set is here agree holds =
      to_twins m.store.globals h _ _ agree (step_has_globals m op i no_set holds)
      (step_does m h op i no_set (λ get name called. agree name (counts chunk is_get m i name holds.0 here (ap is_get (is ∙ get)) called)) holds)

  set_twins : (m : State) (h : Globals) (i : Instr) → Agree m.store.globals h → Holds P m → Twins (after_word m Op.SetGlobal i) (after_word (state_with h m) Op.SetGlobal i)
  set_twins m h i agree holds = go (global_name m i.bx) (register m i.a)
    where
      go : (o : Option Text) (v : Option Datum) →
          Twins (after m (need o (λ name. need v (λ x. Goes (with_store (at_pc m (suc m.top.pc)) (with_global m.store name x))))))
          (after (state_with h m) (need o (λ name. need v (λ x. Goes (with_store (at_pc (state_with h m) (suc m.top.pc)) (with_global (with_globals m.store h) name x))))))
      go None v = refl
      go (Some name) None = refl
      go (Some name) (Some x) = (set_in h name x, refl, (λ q called. set_in_both m.store.globals h name q x (agree q called)), holds)

  word_twins : (m : State) (h : Globals) (op : Op) (i : Instr) → i.op ≡ op → current m ≡ Some i → Agree m.store.globals h → Holds P m → Twins (after_word m op i) (after_word (state_with h m) op i)
  word_twins m h Op.SetGlobal i is here agree holds = set_twins m h i agree holds
  word_twins m h op i is here agree holds = plain_twins m h op i refl is here agree holds

  step_twins : (m : State) (h : Globals) → Agree m.store.globals h → Holds P m → Twins (step m) (step (state_with h m))
  step_twins m h agree holds = go (current m) refl
    where
      go : (o : Option Instr) → current m ≡ o → Twins (after m (need o (λ i. effect i.op (at_pc m (suc m.top.pc)) i))) (after (state_with h m) (need o (λ i. effect i.op (at_pc (state_with h m) (suc m.top.pc)) i)))
      go None is = refl
      go (Some i) is = word_twins m h i.op i refl is agree holds

  run_twins : (n : ℕ) (c c1 : Conf) → Twins c c1 → Twins (run n c) (run n c1)
  run_twins zero c c1 twins = twins
  run_twins (suc n) (Going m) c1 twins = subst (λ d. Twins (run n (step m)) (run (suc n) d)) (sym twins.1) (run_twins n (step m) (step (state_with twins.0 m)) (step_twins m twins.0 twins.2 twins.3))
  run_twins (suc n) (Ended store outside) c1 twins = (twins.0, ap (run (suc n)) twins.1)
  run_twins (suc n) (Failed t store outside) c1 twins = (twins.0, ap (run (suc n)) twins.1)
  run_twins (suc n) (Waiting m) c1 twins = (twins.0, ap (run (suc n)) twins.1)
  run_twins (suc n) Stuck c1 twins = ap (run (suc n)) twins

  course_twins : (c c1 : Conf) → Twins c c1 → course c ≡ course c1
  course_twins (Going m) c1 twins = sym (ap course twins.1)
  course_twins (Ended store outside) c1 twins = sym (ap course twins.1)
  course_twins (Failed t store outside) c1 twins = sym (ap course twins.1)
  course_twins (Waiting m) c1 twins = sym (ap course twins.1)
  course_twins Stuck c1 twins = sym (ap course twins)

  -- ---- the start

  first_holds : (store : Store) (replies : List Reply) → Holds P (first_state chunk store replies)
  first_holds store replies = ((λ does name. omega arith), tt, (λ n c is. none_some c is))

  start_does : (store : Store) (replies : List Reply) (g : Globals) → DoesRun P g (start chunk store replies) (start chunk (with_globals store g) replies)
  start_does store replies g =
      let m = first_state chunk store replies in
      after_does P g m (begin m) (begin (state_with g m)) (begin_does P g m (first_holds store replies))

  start_has_globals : (store : Store) (replies : List Reply) → HasGlobals store.globals (start chunk store replies)
  start_has_globals store replies =
      let itself : with_globals store store.globals ≡ store = refl in
      has_globals P store.globals (start chunk store replies) (subst (λ s. DoesRun P store.globals (start chunk store replies) (start chunk s replies)) itself (start_does store replies store.globals))

  pub gets_alone_matter : GetsAloneMatter chunk
  gets_alone_matter one other hosts replies n agree =
      course_twins _ _ (run_twins n (start chunk (store_with one hosts) replies) (start chunk (store_with other hosts) replies)
      (to_twins one other _ _ agree (start_has_globals (store_with one hosts) replies) (start_does (store_with one hosts) replies other)))

  -- ---- which globals change

  module _ (q : Text) (unset : sets chunk q ≡ 0) where
    -- the run has this value of the global
    abbrev Keeps : Datum → Conf → Type 0
    Keeps v (Going m) = (value_in m.store.globals q ≡ v) × Holds P m
    Keeps v (Ended store outside) = value_in store.globals q ≡ v
    Keeps v (Failed t store outside) = value_in store.globals q ≡ v
    Keeps v (Waiting m) = value_in m.store.globals q ≡ v
    Keeps v Stuck = Unit {0}

    to_keeps : (g : Globals) (v : Datum) (c : Conf) → value_in g q ≡ v → HasGlobals g c → RunHolds P c → Keeps v c
    to_keeps g v (Going m) is has holds = (ap (λ k. value_in k q) has ∙ is, holds)
    to_keeps g v (Ended store outside) is has holds = ap (λ k. value_in k q) has ∙ is
    to_keeps g v (Failed t store outside) is has holds = ap (λ k. value_in k q) has ∙ is
    to_keeps g v (Waiting m) is has holds = ap (λ k. value_in k q) has ∙ is
    to_keeps g v Stuck is has holds = tt

    plain_keeps : (v : Datum) (m : State) (op : Op) (i : Instr) → is_set op ≡ false → value_in m.store.globals q ≡ v → Holds P m → Keeps v (after_word m op i)
    plain_keeps v m op i no_set is holds =
        to_keeps m.store.globals v _ is (step_has_globals m op i no_set holds) (run_holds P m.store.globals _ _ (step_does m m.store.globals op i no_set (λ get name called. refl) holds))

    -- a name that is set is another one
    is_other : (m : State) (i : Instr) (name : Text) → Within chunk m.top.function → current m ≡ Some i → i.op ≡ Op.SetGlobal → global_name m i.bx ≡ Some name → bytes_eq q name ≡ false
    is_other m i name within here is called =
        false_from_ne_true (bytes_eq q name) (λ same.
        let one : 1 ≤ sets chunk name = counts chunk is_set m i name within here (ap is_set is) called in
        let here1 : 1 ≤ sets chunk q = subst (λ t. 1 ≤ sets chunk t) (sym ((bytes_eq-Decides q name).0 same)) one in
        omega arith)

    set_keeps : (v : Datum) (m : State) (i : Instr) → i.op ≡ Op.SetGlobal → current m ≡ Some i → value_in m.store.globals q ≡ v → Holds P m → Keeps v (after_word m Op.SetGlobal i)
    set_keeps v m i op here is holds = go (global_name m i.bx) refl (register m i.a)
      where
        go : (o : Option Text) → global_name m i.bx ≡ o → (r : Option Datum) → Keeps v (after m (need o (λ name. need r (λ x. Goes (with_store (at_pc m (suc m.top.pc)) (with_global m.store name x))))))
        go None called r = tt
        go (Some name) called None = tt
        go (Some name) called (Some x) = (set_in_other m.store.globals name q x (is_other m i name holds.0 here op called) ∙ is, holds)

    word_keeps : (v : Datum) (m : State) (op : Op) (i : Instr) → i.op ≡ op → current m ≡ Some i → value_in m.store.globals q ≡ v → Holds P m → Keeps v (after_word m op i)
    word_keeps v m Op.SetGlobal i op here is holds = set_keeps v m i op here is holds
    word_keeps v m op i same here is holds = plain_keeps v m op i refl is holds

    step_keeps : (v : Datum) (m : State) → value_in m.store.globals q ≡ v → Holds P m → Keeps v (step m)
    step_keeps v m is holds = go (current m) refl
      where
        go : (o : Option Instr) → current m ≡ o → Keeps v (after m (need o (λ i. effect i.op (at_pc m (suc m.top.pc)) i)))
        go None here = tt
        go (Some i) here = word_keeps v m i.op i refl here is holds

    run_keeps : (v : Datum) (n : ℕ) (c : Conf) → Keeps v c → Keeps v (run n c)
    run_keeps v zero c keeps = keeps
    run_keeps v (suc n) (Going m) keeps = run_keeps v n (step m) (step_keeps v m keeps.0 keeps.1)
    run_keeps v (suc n) (Ended store outside) keeps = keeps
    run_keeps v (suc n) (Failed t store outside) keeps = keeps
    run_keeps v (suc n) (Waiting m) keeps = keeps
    run_keeps v (suc n) Stuck keeps = tt

    kept : (v : Datum) (c : Conf) → Keeps v c → IfSome (globals_of c) (λ now. value_in now q ≡ v)
    kept v (Going m) keeps = keeps.0
    kept v (Ended store outside) keeps = keeps
    kept v (Failed t store outside) keeps = keeps
    kept v (Waiting m) keeps = keeps
    kept v Stuck keeps = tt

  pub sets_alone_change : SetsAloneChange chunk
  sets_alone_change globals hosts replies n q unset =
      let store = store_with globals hosts in
      kept q unset (value_in globals q) _ (run_keeps q unset (value_in globals q) n (start chunk store replies)
      (to_keeps q unset globals (value_in globals q) _ refl (start_has_globals store replies) (run_holds P globals _ _ (start_does store replies globals))))
