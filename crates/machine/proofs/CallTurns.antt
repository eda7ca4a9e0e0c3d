-- Calls, turn by turn: where they go, what a turn comes to, and what protected calls leave.
use Rattle.std.proofs.Common.{◌≡◌, ℕ, zero, suc, ◌≤◌, Bool, true, false, List, [], ◌∷◌, ◌++◌, map, refl, sym, ap, subst, ◌∙◌}
use Rattle.std.specs.Prelude.{if◌then◌else◌, codes}
use Rattle.std.proofs.lemmas.List.{append-nil}
use Rattle.std.proofs.lemmas.List.Elements.{All-cons, All-nil}
use Rattle.lua_num.specs.Bytes.{Text}
use Rattle.proto.specs.Chunk.{Chunk}
use Rattle.lua_model.specs.declared.Value.{Value}
use Rattle.lua_model.specs.declared.Value.TheVariants.{Bool as Boolean}
use Rattle.lua_model.specs.Datum.{Datum, text, is_function, kind_name}
use Rattle.lua_model.specs.Store.{Store, Event, Reply}
use Rattle.lua_model.specs.Acts as model
use Rattle.lua_model.specs.Operators.{callee, handler, with_called, stack_overflow}
use Rattle.lua_heap.specs.State.{HeapState, datum, IsOf, AreOf, OnlyTexts, OnlyTables, store_of, own_store}
use Rattle.lua_heap.specs.Grown.{Grown}
use Rattle.lua_heap.proofs.Callers.{keeps_both, data_are_kept, values_are_kept}
use Rattle.meta_ops.specs.declared.act.Callee.{Callee}
use Rattle.meta_ops.specs.Acts.{callee_of, IsCalleeOf}
use Rattle.meta_ops.proofs.Tries.{texts_both, grown_itself, grown_both}
use Rattle.host.specs.Hosts.{HostSetState}
use Rattle.rules.specs.State.{State, Effect}
use Rattle.rules.specs.Calls.{failed_in, apply, apply_to, call_within, call_by}
use Rattle.machine.specs.declared.calling.Applied.{Applied}
use Rattle.machine.specs.declared.calling.Called.{Called}
use Rattle.machine.specs.declared.calling.invoking.Target.{Target}
use Rattle.machine.specs.declared.calling.invoking.Turn.{Turn}
use Rattle.machine.specs.Frames.{data_of}
use Rattle.machine.specs.Seen.{Around, closure_seen}
use Rattle.machine.specs.Outside.{AreNamed, around, pieces_in, calls_in, replies_in, hosts_behind, Happened}
use Rattle.machine.specs.Called.{Enters, Lands, beside, applied_as, IsAppliedOf, NothingHappened, Applies, called_as, IsCalledOf, Invokes, failed_with, asked_to, GoesTo, turn_of, turned_as, IsTurnOf, NothingTurned, Turns, ahead, Protected}
use Rattle.machine.proofs.Beside.{callee_beside}
use Rattle.machine.proofs.WorkedValues.{worked_is, worked_known}

-- ---- states beside heaps of which only texts differ

same_state : (m : State) (old new : HeapState) (a : Around) → OnlyTexts old new → beside m new a ≡ beside m old a
same_state m old new a only i = record m { store = store_of (only i) a.hosts; outside = a.outside }

pub same_closures : (c : Chunk) (m : State) (old new : HeapState) → OnlyTexts old new → m.closures ≡ map (closure_seen c) old.closures → m.closures ≡ map (closure_seen c) new.closures
same_closures c m old new only is = is ∙ sym (ap (λ (h : HeapState). map (closure_seen c) h.closures) only)

tables_behind : (s t u : HeapState) → OnlyTexts s t → OnlyTables t u → OnlyTables s u
tables_behind s t u a b = b ∙ ap (λ (h : HeapState). record h { texts = u.texts; tables = u.tables }) a

texts_alone : (s t : HeapState) → OnlyTexts s t → OnlyTables s t
texts_alone s t a = a ∙ (λ i. record s { texts = t.texts; tables = sym (ap (λ (h : HeapState). h.tables) a) i })

-- ---- where a call goes

abbrev IsFunctionOf : model.Callee → Type 0
IsFunctionOf (model.plain f) = is_function f ≡ true
IsFunctionOf (model.through f) = is_function f ≡ true
IsFunctionOf (model.no_function v) = Unit {0}

functions_are_called : (s : Store) (f : Datum) → IsFunctionOf (callee s f)
functions_are_called s f = by_tests (is_function f) (is_function called) refl refl
  where
    called : Datum
    called = handler s f (codes "__call")

    by_tests : (b c : Bool) → is_function f ≡ b → is_function called ≡ c → IsFunctionOf (if b then model.plain f else (if c then model.through called else model.no_function (text (codes "attempt to call a " ++ kind_name f ++ codes " value"))))
    by_tests true c e e2 = e
    by_tests false true e e2 = e2
    by_tests false false e e2 = tt

module _ {old new : HeapState} (f : Value) (args : List Value) (r : Callee) (is : callee_of new r ≡ callee (own_store old) (datum old f)) (r_known : IsCalleeOf new r) (grown : Grown old new) (f_known : IsOf old f) (args_known : AreOf old args) where
  asked_is : (x : Callee) → r ≡ x → (enters : Enters) (lands : Lands) (p : ℕ) (again : Datum → List Datum → Effect) (m : State) (a : Around) → asked_to enters lands p again (beside m old a) (datum old f) (data_of old args) ≡ apply_to enters lands p again (beside m new a) (callee_of new x) (with_called (callee_of new x) (datum new f) (data_of new args))
  asked_is x e enters lands p again m a i =
      let goes : callee (store_of old a.hosts) (datum old f) ≡ callee_of new x = callee_beside old a.hosts (datum old f) ∙ sym is ∙ ap (callee_of new) e in
      apply_to enters lands p again (sym (same_state m old new a grown.only_texts) i) (goes i) (with_called (goes i) (sym (grown.keeps f f_known).1 i) (sym (data_are_kept old new grown.keeps args args_known) i))

  is_function_now : (x : Callee) → r ≡ x → IsFunctionOf (callee_of new x)
  is_function_now x e = subst IsFunctionOf (sym is ∙ ap (callee_of new) e) (functions_are_called (own_store old) (datum old f))

  pub goes_to_itself : (g : Value) → r ≡ Callee.Plain g → GoesTo f args old new (Target.Calls g args)
  goes_to_itself g e = record {
    is = asked_is (Callee.Plain g) e;
    known = (subst (IsCalleeOf new) e r_known, is_function_now (Callee.Plain g) e, values_are_kept old new grown.keeps args args_known);
    grown = grown;
  }

  pub goes_through : (g : Value) (all : List Value) → r ≡ Callee.Through g → all ≡ f ∷ args → GoesTo f args old new (Target.Calls g all)
  goes_through g all e all_are = record {
    is = λ enters lands p again m a. asked_is (Callee.Through g) e enters lands p again m a ∙ ap (λ (vs : List Value). apply enters lands p again (beside m new a) (datum new g) (data_of new vs)) (sym all_are);
    known = (
      subst (IsCalleeOf new) e r_known,
      is_function_now (Callee.Through g) e,
      subst (AreOf new) (sym all_are) (All-cons (IsOf new) f args (grown.keeps f f_known).0 (values_are_kept old new grown.keeps args args_known)),
    );
    grown = grown;
  }

  pub goes_nowhere : (v : Value) → r ≡ Callee.Fail v → GoesTo f args old new (Target.Fails v)
  goes_nowhere v e = record { is = asked_is (Callee.Fail v) e; known = subst (IsCalleeOf new) e r_known; grown = grown }

-- ---- what a turn comes to

failed_is : (c : Chunk) (h : HeapState) (enters : Enters) (lands : Lands) (p : ℕ) (v : Value) (m : State) → called_as c h enters lands (failed_with p v) m ≡ failed_in lands p m (datum h v)
failed_is c h enters lands zero v m = refl
failed_is c h enters lands (suc p) v m = ap (lands m) (sym (worked_is h p (Boolean false ∷ v ∷ [])))

failed_known : (h : HeapState) (p : ℕ) (v : Value) → IsOf h v → IsCalledOf h (failed_with p v)
failed_known h zero v known = known
failed_known h (suc p) v known =
    worked_known h p (Boolean false ∷ v ∷ []) (All-cons (IsOf h) (Boolean false) (v ∷ []) tt (All-cons (IsOf h) v [] known (All-nil (IsOf h))))

turn_is : (c : Chunk) (h : HeapState) (enters : Enters) (lands : Lands) (p : ℕ) (again : Datum → List Datum → Effect) (args : List Value) (applied : Applied) (m : State) → turned_as c h enters lands again (turn_of p args applied) m ≡ applied_as c h enters lands p again args applied m
turn_is c h enters lands p again args (Applied.Results vs) m = ap (lands m) (sym (worked_is h p vs))
turn_is c h enters lands p again args (Applied.Enters id) m = refl
turn_is c h enters lands p again args (Applied.Fails v) m = failed_is c h enters lands p v m
turn_is c h enters lands p again args (Applied.Protects f xs) m = refl

turn_known : (h : HeapState) (p : ℕ) (args : List Value) (applied : Applied) → p ≤ 200 → AreOf h args → IsAppliedOf h applied → IsTurnOf h (turn_of p args applied)
turn_known h p args (Applied.Results vs) few args_known known = worked_known h p vs known
turn_known h p args (Applied.Enters id) few args_known known = (known, args_known, few)
turn_known h p args (Applied.Fails v) few args_known known = failed_known h p v known
turn_known h p args (Applied.Protects f xs) few args_known known = known

turn_nothing : (es : List Event) (old between new : HeapState) (before behind : HostSetState) (p : ℕ) (args : List Value) (applied : Applied) → OnlyTexts old between → NothingHappened es between new before behind applied → NothingTurned es old new before behind (turn_of p args applied)
turn_nothing es old between new before behind p args (Applied.Results vs) only nothing = tt
turn_nothing es old between new before behind p args (Applied.Enters id) only nothing = tt
turn_nothing es old between new before behind p args (Applied.Fails v) only nothing = tt
turn_nothing es old between new before behind p args (Applied.Protects f xs) only nothing = (nothing.0, texts_both old between new only nothing.1, nothing.2)

pub turns_by : {f g : Value} {args xs items : List Value} {p : ℕ} {old between new : HeapState} {pieces_before pieces_behind : List Text} {before behind : HostSetState} {target : Target} {applied : Applied} {turn : Turn} → p ≤ 200 → target ≡ Target.Calls g xs → GoesTo f args old between target → items ≡ xs → Applies g items between new pieces_before pieces_behind before behind applied → turn ≡ turn_of p xs applied → Turns f args p old new pieces_before pieces_behind before behind turn
turns_by {f} {g} {args} {xs} {items} {p} {old} {between} {new} {pieces_before} {pieces_behind} {before} {behind} {target} {applied} {turn} few calls gone same items_apply e =
    let goes = subst (GoesTo f args old between) calls gone in
    let applies = subst (λ (vs : List Value). Applies g vs between new pieces_before pieces_behind before behind applied) same items_apply in
    subst (Turns f args p old new pieces_before pieces_behind before behind) (sym e) (record {
      es = applies.es;
      happened = applies.happened;
      is = λ c enters lands again m events left closures.
          goes.is enters lands p again m (around before events (replies_in applies.es ++ left))
          ∙ applies.is c enters lands p again m events left (same_closures c m old between goes.grown.only_texts closures)
          ∙ sym (turn_is c new enters lands p again xs applied (beside m new (around behind (events ++ applies.es) left)));
      nothing = turn_nothing applies.es old between new before behind p xs applied goes.grown.only_texts applies.protects;
      known = turn_known new p xs applied few (values_are_kept between new applies.keeps xs goes.known.2) applies.known;
      only_tables = tables_behind old between new goes.grown.only_texts applies.only_tables;
      keeps = keeps_both old between new goes.grown.keeps applies.keeps;
    })

nothing_happened : (pieces : List Text) (set : HostSetState) → Happened [] pieces pieces set set
nothing_happened pieces set = record { pieces = sym (append-nil pieces); log = sym (append-nil set.log); names = refl; closes = refl }

no_events : (set : HostSetState) (events : List Event) (left : List Reply) → around set events left ≡ around set (events ++ []) left
no_events set events left = ap (λ es. around set es left) (sym (append-nil events))

pub turns_failed : {f v : Value} {args : List Value} {p : ℕ} {old new : HeapState} {pieces : List Text} {set : HostSetState} {target : Target} {called : Called} → target ≡ Target.Fails v → GoesTo f args old new target → called ≡ failed_with p v → Turns f args p old new pieces pieces set set (Turn.Done called)
turns_failed {f} {v} {args} {p} {old} {new} {pieces} {set} {target} {called} fails gone e =
    let goes = subst (GoesTo f args old new) fails gone in
    record {
      es = [];
      happened = nothing_happened pieces set;
      is = λ c enters lands again m events left closures.
          goes.is enters lands p again m (around set events left)
          ∙ ap (λ a. failed_in lands p (beside m new a) (datum new v)) (no_events set events left)
          ∙ sym (failed_is c new enters lands p v (beside m new (around set (events ++ []) left)))
          ∙ ap (λ (r : Called). called_as c new enters lands r (beside m new (around set (events ++ []) left))) (sym e);
      nothing = tt;
      known = subst (IsCalledOf new) (sym e) (failed_known new p v goes.known);
      only_tables = texts_alone old new goes.grown.only_texts;
      keeps = goes.grown.keeps;
    }

-- ---- protected calls, one after another

happened_both : (es : List Event) (first between last : List Text) (before middle behind : HostSetState) → Happened [] first between before middle → Happened es between last middle behind → Happened es first last before behind
happened_both es first between last before middle behind a b = record {
  pieces = b.pieces ∙ ap (λ (ps : List Text). ps ++ pieces_in es) (a.pieces ∙ append-nil first);
  log = b.log ∙ ap (λ log. log ++ calls_in es) (a.log ∙ append-nil before.log);
  names = b.names ∙ a.names;
  closes = b.closes ∙ ap (hosts_behind es) a.closes;
}

ahead_turn : (enters : Enters) (lands : Lands) (left p : ℕ) (m : State) (f : Datum) (args : List Datum) → ahead enters lands (suc left) p m f args ≡ asked_to enters lands p (λ g xs. ahead enters lands left (suc p) m g xs) m f args
ahead_turn enters lands zero p m f args = refl
ahead_turn enters lands (suc left) p m f args = refl

-- a call of the rules may have so many protected calls around it
abbrev pub IsCallBy : ℕ → Type 0
IsCallBy limit = (enters : Enters) (lands : Lands) (s : State) (d : Datum) (ds : List Datum) → call_by enters lands s d ds ≡ call_within enters lands limit 0 s d ds

pub protected_start : {limit : ℕ} {f : Value} {args : List Value} {h : HeapState} {pieces : List Text} {set : HostSetState} → IsOf h f → AreOf h args → Protected limit f args h h pieces pieces set set (suc limit) 0 f args
protected_start {limit} {f} {args} {h} {pieces} {set} f_known args_known = record {
  happened = nothing_happened pieces set;
  grown = grown_itself h;
  callee_known = f_known;
  args_known = args_known;
  leaves = λ c enters lands m events replies closures. refl;
}

module _ {limit left p : ℕ} {f g : Value} {args xs : List Value} {old now : HeapState} {pieces_before pieces_now : List Text} {before middle : HostSetState} (protected : Protected limit f args old now pieces_before pieces_now before middle left p g xs) where
  pub named_now : AreNamed old before → AreNamed now middle
  named_now named = ap (λ (h : HeapState). h.host_names) protected.grown.only_texts ∙ named ∙ sym protected.happened.names

  -- the state beside the present heap
  abbrev present : State → List Event → List Reply → State
  present m events replies = beside m now (around middle events replies)

  -- what the next turn makes of a state, of those that are left
  abbrev next_in : ℕ → Enters → Lands → State → Datum → List Datum → Effect
  next_in n enters lands s d ds = ahead enters lands n (suc p) s d ds

  pub one_turn : (n : ℕ) → left ≡ suc n → (c : Chunk) (enters : Enters) (lands : Lands) (m : State) (events : List Event) (replies : List Reply) → m.closures ≡ map (closure_seen c) old.closures → call_within enters lands limit 0 (beside m old (around before events replies)) (datum old f) (data_of old args) ≡ asked_to enters lands p (next_in n enters lands (present m events replies)) (present m events replies) (datum now g) (data_of now xs)
  one_turn n is_left c enters lands m events replies closures =
      protected.leaves c enters lands m events replies closures
      ∙ (λ i. ahead enters lands (is_left i) p (present m events replies) (datum now g) (data_of now xs))
      ∙ ahead_turn enters lands n p (present m events replies) (datum now g) (data_of now xs)

  module _ {n : ℕ} {new : HeapState} {pieces_behind : List Text} {behind : HostSetState} (is_left : left ≡ suc n) where
    pub protected_next : {q : ℕ} {turn : Turn} {next : Value} {next_args : List Value} → q ≡ suc p → turn ≡ Turn.Again next next_args → Turns g xs p now new pieces_now pieces_behind middle behind turn → Protected limit f args old new pieces_before pieces_behind before behind n q next next_args
    protected_next {q} {turn} {next} {next_args} is_next goes_on turned =
        let turns = subst (Turns g xs p now new pieces_now pieces_behind middle behind) goes_on turned in
        record {
          happened = happened_both [] pieces_before pieces_now pieces_behind before middle behind protected.happened (subst (λ es. Happened es pieces_now pieces_behind middle behind) turns.nothing.0 turns.happened);
          grown = grown_both old now new protected.grown (record { only_texts = turns.nothing.1; keeps = turns.keeps });
          callee_known = turns.known.0;
          args_known = turns.known.1;
          leaves = λ c enters lands m events replies closures.
              let again = next_in n enters lands (present m events replies) in
              one_turn n is_left c enters lands m events replies closures
              ∙ (λ i. asked_to enters lands p again (present m events (replies_in (sym turns.nothing.0 i) ++ replies)) (datum now g) (data_of now xs))
              ∙ turns.is c enters lands again m events replies (same_closures c m old now protected.grown.only_texts closures)
              ∙ (λ i. ahead enters lands n (sym is_next i) (record m { store = store_of (sym turns.nothing.1 i) (sym turns.nothing.2 i); outside = (around middle events replies).outside }) (datum new next) (data_of new next_args));
        }

    pub protected_done : {turn : Turn} {called : Called} → IsCallBy limit → turn ≡ Turn.Done called → Turns g xs p now new pieces_now pieces_behind middle behind turn → Invokes f args old new pieces_before pieces_behind before behind called
    protected_done {turn} {called} by is_done turned =
        let turns = subst (Turns g xs p now new pieces_now pieces_behind middle behind) is_done turned in
        record {
          es = turns.es;
          happened = happened_both turns.es pieces_before pieces_now pieces_behind before middle behind protected.happened turns.happened;
          is = λ c enters lands m events left_replies closures.
              let replies = replies_in turns.es ++ left_replies in
              by enters lands (beside m old (around before events replies)) (datum old f) (data_of old args)
              ∙ one_turn n is_left c enters lands m events replies closures
              ∙ turns.is c enters lands (next_in n enters lands (present m events replies)) m events left_replies (same_closures c m old now protected.grown.only_texts closures);
          known = turns.known;
          only_tables = tables_behind old now new protected.grown.only_texts turns.only_tables;
          keeps = keeps_both old now new protected.grown.keeps turns.keeps;
        }

-- where so many protected calls were made that no more may be
pub protected_over : {limit left p q : ℕ} {f g : Value} {args xs : List Value} {old now new : HeapState} {pieces_before pieces_now : List Text} {before middle : HostSetState} {called : Called} (v : Value) → Protected limit f args old now pieces_before pieces_now before middle left p g xs → left ≡ 0 → p ≡ suc q → IsCallBy limit → Grown now new → datum new v ≡ stack_overflow → IsOf new v → called ≡ failed_with q v → Invokes f args old new pieces_before pieces_now before middle called
protected_over {limit} {left} {p} {q} {f} {g} {args} {xs} {old} {now} {new} {pieces_before} {pieces_now} {before} {middle} {called} v protected none is_next by grown v_is v_known called_is =
    let all = grown_both old now new protected.grown grown in
    record {
      es = [];
      happened = protected.happened;
      is = λ c enters lands m events replies closures.
          let s = beside m old (around before events replies) in
          let t = beside m new (around middle (events ++ []) replies) in
          by enters lands s (datum old f) (data_of old args)
          ∙ protected.leaves c enters lands m events replies closures
          ∙ (λ i. ahead enters lands (none i) (is_next i) (beside m now (around middle events replies)) (datum now g) (data_of now xs))
          ∙ (λ i. failed_in lands q (beside m (record now { texts = new.texts }) (no_events middle events replies i)) stack_overflow)
          ∙ (λ i. failed_in lands q (sym (same_state m now new (around middle (events ++ []) replies) grown.only_texts) i) (sym v_is i))
          ∙ sym (failed_is c new enters lands q v t)
          ∙ ap (λ (r : Called). called_as c new enters lands r t) (sym called_is);
      known = subst (IsCalledOf new) (sym called_is) (failed_known new q v v_known);
      only_tables = texts_alone old new all.only_texts;
      keeps = all.keeps;
    }
