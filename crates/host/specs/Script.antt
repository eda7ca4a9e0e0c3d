-- To be believed. A host that gives the replies of a list in turn.
use Rattle.std.specs.Prelude.{◌≡◌, List, [], ◌∷◌, ◌++◌, ◌⊎◌, drop, length, codes}
use Rattle.lua_model.specs.declared.plain.Plain.{Plain}
use Rattle.lua_model.specs.declared.plain.Reply.{Reply}
use Rattle.lua_model.specs.declared.plain.Reply.TheVariants.{Fail, OutOfMemory}
use Rattle.host.specs.Heard.{Exchange, heard_after}

-- the replies that are left, and the calls so far with their replies
pub record ScriptState : Type 0 where
  pub left : List Reply
  pub heard : List Exchange

-- the reply that comes next: behind the last one a failure
abbrev pub next_reply : List Reply → Reply
next_reply [] = Fail (codes "no more replies")
next_reply (reply ∷ left) = reply

-- the state after the reply that comes next was given
abbrev pub script_after : ScriptState → List Plain → ScriptState
script_after state args = record { left = drop 1 state.left; heard = heard_after state.heard args (next_reply state.left) }

-- what a call answers and leaves: the reply that comes next, or want of memory, which leaves the state as it was
abbrev pub ScriptAnswers : ScriptState → List Plain → Reply → ScriptState → Type 0
ScriptAnswers old args reply new =
    ((reply ≡ next_reply old.left) × (new ≡ script_after old args)) ⊎ ((reply ≡ OutOfMemory) × (new ≡ old))

-- what calls with these arguments have heard
abbrev pub heard_of : List Reply → List (List Plain) → List Exchange
heard_of replies [] = []
heard_of replies (args ∷ asked) = heard_after [] args (next_reply replies) ++ heard_of (drop 1 replies) asked

-- the state of a script of these replies after calls with these arguments
abbrev pub script_state : List Reply → List (List Plain) → ScriptState
script_state replies asked = record { left = drop (length asked) replies; heard = heard_of replies asked }
