-- To be believed. What holds of the bytes of a source and their chunk: both are one, no bytes have a chunk and a fault, and the chunk is sound and does what
-- the source means.
use Rattle.std.specs.Prelude.{◌≡◌, ℕ, List}
use Rattle.lua_num.specs.Bytes.{Text}
use Rattle.lua_tree.specs.Syntax.{Source}
use Rattle.proto.specs.Chunk.{Chunk}
use Rattle.lua_model.specs.Store.{Host, Reply}
use Rattle.rules.specs.Sound.{Sound}
use Rattle.scheme.specs.Accepts.{Accepts}
use Rattle.agrees.specs.Doing.{DoesSo}
use Rattle.front.specs.declared.fault.Fault.{Fault}
use Rattle.front.specs.Sources.{IsRead, IsCompiled, IsFaultIn}

abbrev pub SourcesAreOne : Type 0
SourcesAreOne = (bytes : List ℕ) (one other : Source) → IsRead bytes one → IsRead bytes other → one ≡ other

abbrev pub ChunksAreOne : Type 0
ChunksAreOne = (name : Text) (bytes : List ℕ) (c d : Chunk) → IsCompiled name bytes c → IsCompiled name bytes d → c ≡ d

abbrev pub NeverBoth : Type 0
NeverBoth = (name : Text) (bytes : List ℕ) (c : Chunk) (fault : Fault) → IsCompiled name bytes c → IsFaultIn bytes fault → ⊥

abbrev pub CompiledIsSound : Type 0
CompiledIsSound = (name : Text) (bytes : List ℕ) (c : Chunk) → IsCompiled name bytes c → Sound c

abbrev pub CompiledDoes : Type 0
CompiledDoes = (name : Text) (bytes : List ℕ) (source : Source) (c : Chunk) → Accepts bytes source → IsCompiled name bytes c → (hosts : List Host) (replies : List Reply) (steps : ℕ) → DoesSo source c hosts replies steps
