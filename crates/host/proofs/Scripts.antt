-- What a script has heard after one call more.
use Rattle.std.proofs.Common.{◌≡◌, inl, inr, refl, ap, sym, ◌∙◌, List, [], ◌∷◌, ◌++◌, length, drop, append_assoc, length-append}
use Rattle.std.proofs.Math.Seq.{drop-nil}
use Rattle.std.proofs.lemmas.List.{append-nil, drop-drop}
use Rattle.lua_model.specs.declared.plain.Plain.{Plain}
use Rattle.lua_model.specs.declared.plain.Reply.{Reply}
use Rattle.lua_model.specs.declared.plain.Reply.TheVariants.{Values, Fail, OutOfMemory}
use Rattle.host.specs.Heard.{Exchange, heard_after, answered}
use Rattle.host.specs.Script.{ScriptState, next_reply, heard_of, script_state, script_after, ScriptAnswers}

-- a call is heard behind what was heard before
heard_after-append : (first second : List Exchange) (args : List Plain) (reply : Reply) → heard_after (first ++ second) args reply ≡ first ++ heard_after second args reply
heard_after-append first second args (Values values) = append_assoc first second _
heard_after-append first second args (Fail text) = append_assoc first second _
heard_after-append first second args OutOfMemory = refl

-- one call more is heard with the reply that comes next
pub heard_of-more : (replies : List Reply) (asked : List (List Plain)) (args : List Plain)
    → heard_of replies (asked ++ args ∷ []) ≡ heard_after (heard_of replies asked) args (next_reply (drop (length asked) replies))
heard_of-more replies [] args = append-nil _
heard_of-more [] (first ∷ asked) args =
    ap (λ heard. heard_after [] first (next_reply []) ++ heard) (heard_of-more [] asked args ∙ ap (λ left. heard_after (heard_of [] asked) args (next_reply left)) (drop-nil (length asked)))
    ∙ sym (heard_after-append (heard_after [] first (next_reply [])) (heard_of [] asked) args (next_reply []))
heard_of-more (reply ∷ replies) (first ∷ asked) args =
    ap (λ heard. heard_after [] first reply ++ heard) (heard_of-more replies asked args)
    ∙ sym (heard_after-append (heard_after [] first reply) (heard_of replies asked) args (next_reply (drop (length asked) replies)))

-- and so the state is that after the call
pub script_state-more : (replies : List Reply) (asked : List (List Plain)) (args : List Plain) → script_state replies (asked ++ args ∷ []) ≡ script_after (script_state replies asked) args
script_state-more replies asked args =
    let shorter : drop (length (asked ++ args ∷ [])) replies ≡ drop 1 (drop (length asked) replies) =
    ap (λ n. drop n replies) (length-append asked (args ∷ [])) ∙ sym (drop-drop 1 (length asked) replies) in
    let state : List Reply → List Exchange → ScriptState = λ left heard. record { left = left; heard = heard } in
    ap (λ left. state left (heard_of replies (asked ++ args ∷ []))) shorter
    ∙ ap (λ heard. state (drop 1 (drop (length asked) replies)) heard) (heard_of-more replies asked args)

-- exchanges with one more are what was heard before and behind that call
answered-more : (before : List Exchange) (args : List Plain) (reply : Reply) → answered (before ++ record { args = args; reply = reply } ∷ []) ≡ heard_after (answered before) args reply
answered-more [] args reply = append-nil _
answered-more (exchange ∷ before) args reply =
    ap (λ heard. heard_after [] exchange.args exchange.reply ++ heard) (answered-more before args reply)
    ∙ sym (heard_after-append (heard_after [] exchange.args exchange.reply) (answered before) args reply)

pub script_hears : (old new : ScriptState) (args : List Plain) (reply : Reply) (before : List Exchange) → ScriptAnswers old args reply new → old.heard ≡ answered before
    → new.heard ≡ answered (before ++ record { args = args; reply = reply } ∷ [])
script_hears old new args reply before (inl given) heard =
    ap (λ state. state.heard) given.1 ∙ ap (heard_after old.heard args) (sym given.0) ∙ ap (λ heard. heard_after heard args reply) heard ∙ sym (answered-more before args reply)
script_hears old new args reply before (inr none) heard =
    ap (λ state. state.heard) none.1 ∙ heard ∙ ap (heard_after (answered before) args) (sym none.0) ∙ sym (answered-more before args reply)
