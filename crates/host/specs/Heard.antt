-- To be believed. What a host has heard: the calls that it answered, with their replies.
use Rattle.std.specs.Prelude.{List, [], ◌∷◌, ◌++◌}
use Rattle.lua_model.specs.declared.plain.Plain.{Plain}
use Rattle.lua_model.specs.declared.plain.Reply.{Reply}
use Rattle.lua_model.specs.declared.plain.Reply.TheVariants.{Values, Fail, OutOfMemory}

-- a call of a host and its reply
pub record Exchange : Type 0 where
  pub args : List Plain
  pub reply : Reply

-- what a host has heard after a call: a reply that finds no memory leaves it
abbrev pub heard_after : List Exchange → List Plain → Reply → List Exchange
heard_after heard args (Values values) = heard ++ record { args = args; reply = Values values } ∷ []
heard_after heard args (Fail text) = heard ++ record { args = args; reply = Fail text } ∷ []
heard_after heard args OutOfMemory = heard

-- what a host has heard that answered these exchanges from its start: those that found memory for a reply
abbrev pub answered : List Exchange → List Exchange
answered [] = []
answered (exchange ∷ exchanges) = heard_after [] exchange.args exchange.reply ++ answered exchanges
