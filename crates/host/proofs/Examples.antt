-- What is replied of a few bytes, computed.
use Rattle.std.proofs.Common.{◌≡◌, [], ◌∷◌, ◌++◌, refl, codes}
use Rattle.lua_model.specs.declared.plain.Plain.TheVariants.{Nil, Text}
use Rattle.lua_model.specs.declared.plain.Reply.TheVariants.{Values}
use Rattle.host.specs.Lines.{line_reply}

two_lines : line_reply (codes "ab" ++ 10 ∷ codes "c") ≡ Values (Text (codes "ab") ∷ [])
two_lines = refl

no_line_end : line_reply (codes "c") ≡ Values (Text (codes "c") ∷ [])
no_line_end = refl

empty_line : line_reply (10 ∷ []) ≡ Values (Text [] ∷ [])
empty_line = refl

at_the_end : line_reply [] ≡ Values (Nil ∷ [])
at_the_end = refl
