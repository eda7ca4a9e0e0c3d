-- To be believed. The chunk of the bytes of a source, and what is wrong with them.
use Rattle.std.specs.Prelude.{◌≡◌, ℕ, List, length, slice_get, Option, Some, None}
use Rattle.lua_tree.specs.Syntax.{Source}
use Rattle.lua_tree.specs.Trees.{IsTreeOf}
use Rattle.lua_tree.specs.Scoping.{Scoped}
use Rattle.lua_tree.specs.declared.token.Token.{Token}
use Rattle.lua_tree.specs.Tiling.{Lexes}
use Rattle.lexer.specs.Faults.{IsFaultOf}
use Rattle.parser.specs.Places.{IsUnexpectedAt, IsTooDeepAt}
use Rattle.scopes.specs.declared.fault.ScopeFault.{ScopeFault}
use Rattle.scopes.specs.Faults as scoping
use Rattle.code_builder.specs.declared.fault.CodeFault.{CodeFault}
use Rattle.codegen.specs.Compiled.{StopsBy}
use Rattle.lua_num.specs.Bytes.{Text}
use Rattle.proto.specs.Chunk.{Chunk}
use Rattle.scheme.specs.Scheme.{scheme}
use Rattle.scheme.specs.Accepts.{Accepts}
use Rattle.front.specs.declared.fault.Fault.{Fault}

-- the chunk of the source that the bytes are, under a source name
pub record IsCompiled (name : Text) (bytes : List ℕ) (chunk : Chunk) : Type 0 where
  pub source : Source
  pub accepts : Accepts bytes source
  pub is : chunk ≡ scheme source name

-- the bytes have this tree
pub record IsRead (bytes : List ℕ) (whole : Source) : Type 0 where
  pub tokens : List Token
  pub lexed : Lexes bytes tokens
  pub parsed : IsTreeOf tokens whole

-- the offset of a token, or the length of the bytes, where there is none
abbrev pub offset_of : ℕ → Option Token → ℕ
offset_of total (Some token) = token.at
offset_of total None = total

-- the bytes have tokens that are no tree, at the one with this offset
pub record HasNoTree (IsFault : List Token → ℕ → Type 0) (bytes : List ℕ) (offset : ℕ) : Type 0 where
  pub tokens : List Token
  pub lexed : Lexes bytes tokens
  pub at : ℕ
  pub fault : IsFault tokens at
  pub offset_is : offset ≡ offset_of (length bytes) (slice_get tokens at)

-- the bytes have a tree that breaks a rule of scoping, first by this fault
pub record HasNoScopes (bytes : List ℕ) (fault : ScopeFault) : Type 0 where
  pub tokens : List Token
  pub lexed : Lexes bytes tokens
  pub whole : Source
  pub parsed : IsTreeOf tokens whole
  pub fault_is : scoping.IsFaultOf whole fault

-- the limit is one that the chunk of the source does not keep; want of memory is none
abbrev pub IsLimitOf : Source → CodeFault → Type 0
IsLimitOf whole CodeFault.OutOfMemory = ⊥
IsLimitOf whole fault = StopsBy whole fault

-- the bytes have a tree that keeps the rules of scoping
pub record IsGoodSource (bytes : List ℕ) (whole : Source) : Type 0 where
  pub tokens : List Token
  pub lexed : Lexes bytes tokens
  pub parsed : IsTreeOf tokens whole
  pub scoped : Scoped whole

-- and its chunk does not keep this limit
pub record HasNoChunk (bytes : List ℕ) (fault : CodeFault) : Type 0 where
  pub whole : Source
  pub good : IsGoodSource bytes whole
  pub fault_is : IsLimitOf whole fault

-- a fault of the bytes of a source: one of lexing, else one of syntax, else one of scoping, else a limit that its chunk does not keep
abbrev pub IsFaultIn : List ℕ → Fault → Type 0
IsFaultIn bytes (Fault.Lexical fault) = IsFaultOf bytes fault
IsFaultIn bytes (Fault.Unexpected offset) = HasNoTree IsUnexpectedAt bytes offset
IsFaultIn bytes (Fault.TooDeep offset) = HasNoTree IsTooDeepAt bytes offset
IsFaultIn bytes (Fault.Scoping fault) = HasNoScopes bytes fault
IsFaultIn bytes (Fault.Code fault) = HasNoChunk bytes fault
