use Rattle.std.proofs.Common.{◌≡◌, drop}
use Rattle.lua_tree.specs.Bytes.{is_word}
use Rattle.std.specs.List.{list_all}
use Rattle.lua_tree.proofs.word.are_words.Given as goal

-- what is left decides
abbrev pub invariant-loop-byte : goal.invariant-loop-byte
invariant-loop-byte l = list_all is_word l.text ≡ list_all is_word (drop l.byte-index l.text)
