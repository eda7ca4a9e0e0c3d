-- Where memory ran out within a call: the call tells first what had happened.
use Rattle.std.proofs.Common.{◌≡◌, ℕ, zero, suc, Bool, true, List, [], ◌∷◌, ◌++◌, sym, ap, subst, ◌∙◌, append-nil}
use Rattle.lua_num.specs.Bytes.{Text}
use Rattle.proto.specs.Chunk.{Chunk}
use Rattle.lua_model.specs.declared.Value.{Value}
use Rattle.lua_model.specs.declared.plain.Plain.{Plain}
use Rattle.lua_model.specs.declared.plain.Reply.{Reply as HostReply}
use Rattle.lua_model.specs.Datum.{Datum, boolean}
use Rattle.lua_model.specs.Store.{Event, Reply, replies_values, replies_failure, asked}
use Rattle.lua_model.specs.Operators.{callee, with_called}
use Rattle.lua_model.specs.Builtins.{native}
use Rattle.lua_heap.specs.State.{HeapState, datum, store_of}
use Rattle.host.specs.Hosts.{HostSetState, is_live_at, called}
use Rattle.natives.specs.declared.native_act.NativeAct.{NativeAct}
use Rattle.natives.specs.declared.hosts.HostAct.{HostAct}
use Rattle.natives.specs.Answers.{Answers, closing}
use Rattle.natives.specs.HostAnswers.{HostAnswers}
use Rattle.rules.specs.State.{State, Effect}
use Rattle.rules.specs.Calls.{given, answered, apply}
use Rattle.machine.specs.declared.calling.Applied.{Applied}
use Rattle.machine.specs.declared.calling.Called.{Called}
use Rattle.machine.specs.declared.calling.invoking.Target.{Target}
use Rattle.machine.specs.Frames.{data_of}
use Rattle.machine.specs.Outside.{around, hosts_of, logged, replies_in, AreNamed}
use Rattle.machine.specs.Called.{Enters, Lands, beside, applied_as, NothingHappened, Applies, Closes, called_as, Invokes, GoesTo, ahead, Protected}
use Rattle.machine.specs.Begun.{BeginsState, BeginsEffect, KeepFirst, KeepsAgain, BrokeOff, BeginsApply, BeginsTurn, BeginsCall}
use Rattle.machine.proofs.BrokenOff.{first_none, nothing_broke, broke_behind, broke_as, broke_later}
use Rattle.machine.proofs.CallTurns.{IsCallBy, same_closures, one_turn}
use Rattle.machine.proofs.EventsGrow.{first_itself, failed_begins, heard_begins, apply_begins, apply_to_begins, call_within_begins, call_by_begins}
use Rattle.machine.proofs.HostsBeside.{names_are, hosts_called}
use Rattle.machine.proofs.Outcomes.{asked_once, host_is_live}

-- ---- one function

no_more : (events : List Event) (again : Datum → List Datum → Effect) → KeepsAgain events again → KeepsAgain (events ++ []) again
no_more events again on = subst (λ (es : List Event). KeepsAgain es again) (sym (append-nil events)) on

not_applied : (f : Value) (args : List Value) (h : HeapState) (set : HostSetState) → BeginsApply f args h set []
not_applied f args h set enters lands p again m events left keep on =
    apply_begins (events ++ []) enters lands (keep (events ++ [])) p again (no_more events again on) (beside m h (around set events left)) (datum h f) (data_of h args) (first_none events)

-- nothing had happened
pub no_apply : (f : Value) (args : List Value) (h : HeapState) (set : HostSetState) → BrokeOff (BeginsApply f args h set) set set
no_apply f args h set = nothing_broke (not_applied f args h set)

pub no_apply_as : (f : Value) (args : List Value) (h : HeapState) (set behind : HostSetState) → behind ≡ set → BrokeOff (BeginsApply f args h set) set behind
no_apply_as f args h set behind same = subst (BrokeOff (BeginsApply f args h set) set) (sym same) (no_apply f args h set)

-- a host was closed, where its name was that of a live one
pub closing_broke : (old new : HeapState) (n : ℕ) (args : List Value) (pieces : List Text) (set behind : HostSetState) (name asked_for : Text) (was_live : Bool) → AreNamed old set → Answers (native n) old new args (NativeAct.CloseHost asked_for) → Closes name set behind was_live → name ≡ asked_for → BrokeOff (BeginsApply (Value.Native n) args old set) set behind
closing_broke old new n args pieces set behind name asked_for was_live named answers closes same =
    broke_behind (closes.happened pieces) (λ enters lands p again m events left keep on.
    let s = beside m old (around set events (replies_in closes.es ++ left)) in
    let there = beside m new (around behind (events ++ closes.es) left) in
    let comes : apply enters lands p again s (datum old (Value.Native n)) (data_of old args) ≡ given enters lands p there (boolean was_live ∷ []) =
    ap (answered enters lands p again s) (answers (hosts_of set) (names_are old set named))
    ∙ ap (λ t. answered enters lands p again s (closing t (store_of new (hosts_of set)))) (sym same)
    ∙ closes.is enters lands p again m old new events left
    in
    subst (BeginsEffect (events ++ closes.es)) (sym comes) ((keep (events ++ closes.es)).landing there _ (first_itself (events ++ closes.es))))

-- a host was asked, and had replied
replied_broke : (old now : HeapState) (k : ℕ) (plain : List Plain) (args : List Value) (set behind : HostSetState) (reply : Reply) → AreNamed old set → is_live_at set.hosts k ≡ true → HostAnswers old now k true args (HostAct.Ask plain) → behind ≡ called set k plain (logged reply) → BrokeOff (BeginsApply (Value.Host k) args old set) set behind
replied_broke old now k plain args set behind reply named live answers is =
    broke_behind (asked_once [] set behind k plain reply is) (λ enters lands p again m events left keep on.
    let es = asked k plain reply ∷ [] in
    let s = beside m old (around set events (reply ∷ left)) in
    let comes = ap (answered enters lands p again s) (answers (hosts_of set) (names_are old set named) (host_is_live old set k true live)) in
    subst (BeginsEffect (events ++ es)) (sym comes) (heard_begins (events ++ es) enters lands (keep (events ++ es)) p _ reply (first_itself (events ++ es))))

pub values_broke : (old now : HeapState) (k : ℕ) (plain : List Plain) (args : List Value) (set behind : HostSetState) (last : HostReply) (values : List Plain) → AreNamed old set → is_live_at set.hosts k ≡ true → HostAnswers old now k true args (HostAct.Ask plain) → behind ≡ called set k plain last → last ≡ HostReply.Values values → BrokeOff (BeginsApply (Value.Host k) args old set) set behind
values_broke old now k plain args set behind last values named live answers is reply =
    replied_broke old now k plain args set behind (replies_values values) named live answers (is ∙ ap (called set k plain) reply)

pub failure_broke : (old now : HeapState) (k : ℕ) (plain : List Plain) (args : List Value) (set behind : HostSetState) (last : HostReply) (t : Text) → AreNamed old set → is_live_at set.hosts k ≡ true → HostAnswers old now k true args (HostAct.Ask plain) → behind ≡ called set k plain last → last ≡ HostReply.Fail t → BrokeOff (BeginsApply (Value.Host k) args old set) set behind
failure_broke old now k plain args set behind last t named live answers is reply =
    replied_broke old now k plain args set behind (replies_failure t) named live answers (is ∙ ap (called set k plain) reply)

-- a host was asked, and found no memory
pub unanswered_broke : (old : HeapState) (k : ℕ) (plain : List Plain) (args : List Value) (set behind : HostSetState) (last : HostReply) → behind ≡ called set k plain last → last ≡ HostReply.OutOfMemory → BrokeOff (BeginsApply (Value.Host k) args old set) set behind
unanswered_broke old k plain args set behind last is none = record {
  begun = [];
  begins = not_applied (Value.Host k) args old set;
  closes = ap hosts_of is ∙ hosts_called set k plain last;
  unanswered = record { host = k; args = plain; reply = last } ∷ [];
  no_reply = none;
  log = ap (λ (s : HostSetState). s.log) is ∙ ap (λ log. log ++ record { host = k; args = plain; reply = last } ∷ []) (sym (append-nil set.log));
}

-- ---- one turn

not_turned : (f : Value) (args : List Value) (p : ℕ) (h : HeapState) (set : HostSetState) → BeginsTurn f args p h set []
not_turned f args p h set c enters lands again m events left closures keep on =
    let s = beside m h (around set events left) in
    apply_to_begins (events ++ []) enters lands (keep (events ++ [])) p again (no_more events again on) s (callee s.store (datum h f)) (with_called (callee s.store (datum h f)) (datum h f) (data_of h args)) (first_none events)

pub no_turn : (f : Value) (args : List Value) (p : ℕ) (h : HeapState) (set : HostSetState) → BrokeOff (BeginsTurn f args p h set) set set
no_turn f args p h set = nothing_broke (not_turned f args p h set)

-- its function was called
pub turn_broke : {f g : Value} {args xs items : List Value} (p : ℕ) {old between : HeapState} {before behind : HostSetState} {target : Target} → target ≡ Target.Calls g xs → GoesTo f args old between target → items ≡ xs → BrokeOff (BeginsApply g items between before) before behind → BrokeOff (BeginsTurn f args p old before) before behind
turn_broke {f} {g} {args} {xs} {items} p {old} {between} {before} {behind} {target} calls gone same broke =
    let goes = subst (GoesTo f args old between) calls gone in
    let Next = BeginsApply g xs between before in
    broke_as {First = BeginsTurn f args p old before} {Next = Next} (λ begun begins c enters lands again m events left closures keep on.
    subst (BeginsEffect (events ++ begun)) (sym (goes.is enters lands p again m (around before events (replies_in begun ++ left)))) (begins enters lands p again m events left keep on)) (subst (λ (vs : List Value). BrokeOff (BeginsApply g vs between before) before behind) same broke)

applied_begins : (events es : List Event) (c : Chunk) (old new : HeapState) (before behind : HostSetState) (enters : Enters) (lands : Lands) (p : ℕ) (again : Datum → List Datum → Effect) (args : List Value) → KeepFirst (events ++ es) enters lands → KeepsAgain events again → (applied : Applied) (m : State) → NothingHappened es old new before behind applied → BeginsState (events ++ es) m → BeginsEffect (events ++ es) (applied_as c new enters lands p again args applied m)
applied_begins events es c old new before behind enters lands p again args keep on (Applied.Results vs) m nothing so = keep.landing m _ so
applied_begins events es c old new before behind enters lands p again args keep on (Applied.Enters id) m nothing so = keep.entering p m _ _ so
applied_begins events es c old new before behind enters lands p again args keep on (Applied.Fails v) m nothing so = failed_begins (events ++ es) enters lands keep p m (datum new v) so
applied_begins events es c old new before behind enters lands p again args keep on (Applied.Protects f xs) m nothing so =
    subst (λ (fs : List Event). KeepsAgain (events ++ fs) again) (sym nothing.0) (no_more events again on) (datum new f) (data_of new xs)

-- its function was done
pub turn_broke_behind : {f g : Value} {args xs items : List Value} (p : ℕ) {old between new : HeapState} {pieces_before pieces_behind : List Text} {before behind : HostSetState} {target : Target} {applied : Applied} → target ≡ Target.Calls g xs → GoesTo f args old between target → items ≡ xs → Applies g items between new pieces_before pieces_behind before behind applied → BrokeOff (BeginsTurn f args p old before) before behind
turn_broke_behind {f} {g} {args} {xs} {items} p {old} {between} {new} {pieces_before} {pieces_behind} {before} {behind} {target} {applied} calls gone same items_apply =
    let goes = subst (GoesTo f args old between) calls gone in
    let applies = subst (λ (vs : List Value). Applies g vs between new pieces_before pieces_behind before behind applied) same items_apply in
    broke_behind applies.happened (λ c enters lands again m events left closures keep on.
    let all = events ++ applies.es in
    let comes =
    goes.is enters lands p again m (around before events (replies_in applies.es ++ left))
    ∙ applies.is c enters lands p again m events left (same_closures c m old between goes.grown.only_texts closures)
    in
    subst (BeginsEffect all) (sym comes) (applied_begins events applies.es c between new before behind enters lands p again xs (keep all) on applied (beside m new (around behind all left)) applies.protects (first_itself all)))

-- ---- a whole call

no_call : (f : Value) (args : List Value) (h : HeapState) (set : HostSetState) → BeginsCall f args h set []
no_call f args h set c enters lands m events left closures keep =
    call_by_begins (events ++ []) enters lands (keep (events ++ [])) (beside m h (around set events left)) (datum h f) (data_of h args) (first_none events)

ahead_begins : (es : List Event) (enters : Enters) (lands : Lands) → KeepFirst es enters lands → (left p : ℕ) (m : State) (f : Datum) (args : List Datum) → BeginsState es m → BeginsEffect es (ahead enters lands left p m f args)
ahead_begins es enters lands keep (suc left) p m f args so = call_within_begins es enters lands keep left p m f args so
ahead_begins es enters lands keep zero (suc p) m f args so = failed_begins es enters lands keep p m _ so
ahead_begins es enters lands keep zero zero m f args so = so

module _ {limit left p : ℕ} {f g : Value} {args xs : List Value} {old now : HeapState} {pieces_before pieces_now : List Text} {before middle : HostSetState} (protected : Protected limit f args old now pieces_before pieces_now before middle left p g xs) where
  -- a turn of it broke off
  pub protected_broke : {n : ℕ} {behind : HostSetState} → left ≡ suc n → IsCallBy limit → BrokeOff (BeginsTurn g xs p now middle) middle behind → BrokeOff (BeginsCall f args old before) before behind
  protected_broke {n} {behind} is_left by broke =
      broke_later {First = BeginsCall f args old before} {Next = BeginsTurn g xs p now middle} protected.happened (λ begun begins c enters lands m events left_replies closures keep.
      let replies = replies_in begun ++ left_replies in
      let again = λ (d : Datum) (ds : List Datum). ahead enters lands n (suc p) (beside m now (around middle events replies)) d ds in
      let comes =
      by enters lands (beside m old (around before events replies)) (datum old f) (data_of old args)
      ∙ one_turn protected n is_left c enters lands m events replies closures
      in
      subst (BeginsEffect (events ++ begun)) (sym comes)
      (begins c enters lands again m events left_replies (same_closures c m old now protected.grown.only_texts closures) keep (λ d ds. ahead_begins events enters lands (keep events) n (suc p) (beside m now (around middle events replies)) d ds (first_itself events)))) broke

  -- no more of it was done
  pub protected_broke_here : BrokeOff (BeginsCall f args old before) before middle
  protected_broke_here = broke_behind protected.happened (no_call f args old before)

called_begins : (es : List Event) (c : Chunk) (h : HeapState) (enters : Enters) (lands : Lands) → KeepFirst es enters lands → (called : Called) (m : State) → BeginsState es m → BeginsEffect es (called_as c h enters lands called m)
called_begins es c h enters lands keep (Called.Results vs) m so = keep.landing m _ so
called_begins es c h enters lands keep (Called.Enters id args p) m so = keep.entering p m _ _ so
called_begins es c h enters lands keep (Called.Fails v) m so = so

-- it was done, but not what follows it
pub call_broke_behind : {f : Value} {args : List Value} {old new : HeapState} {pieces_before pieces_behind : List Text} {before behind : HostSetState} {called : Called} → Invokes f args old new pieces_before pieces_behind before behind called → BrokeOff (BeginsCall f args old before) before behind
call_broke_behind {f} {args} {old} {new} {pieces_before} {pieces_behind} {before} {behind} {called} invokes =
    broke_behind invokes.happened (λ c enters lands m events left closures keep.
    let all = events ++ invokes.es in
    subst (BeginsEffect all) (sym (invokes.is c enters lands m events left closures)) (called_begins all c new enters lands (keep all) called (beside m new (around behind all left)) (first_itself all)))
