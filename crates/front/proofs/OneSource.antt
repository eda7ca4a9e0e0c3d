-- Bytes are read as one source, which has one chunk or a fault.
use Rattle.std.proofs.Common.{◌≡◌, ℕ, List, [], Some, Contains, sym, ap, subst, ◌∙◌, arith}
use Rattle.lua_tree.specs.declared.token.Token.{Token}
use Rattle.lua_tree.specs.Syntax.{Source}
use Rattle.lua_tree.specs.Scoping.{Scoped, no_loop, no_vararg, too_many_locals, too_many_upvalues, breach_of}
use Rattle.lua_tree.specs.Tiling.{Cause, Lexes, Stops}
use Rattle.lua_tree.specs.Trees.{IsTreeOf}
use Rattle.lexer.specs.declared.fault.LexFault.{LexFault}
use Rattle.lexer.specs.Faults as lexical
use Rattle.parser.specs.declared.fault.SyntaxFault.{SyntaxFault}
use Rattle.parser.specs.Places as syntax
use Rattle.parser.specs.Laws.{TreesAreOne, NeverBoth}
use Rattle.scopes.specs.declared.fault.ScopeFault.{ScopeFault}
use Rattle.scopes.specs.Faults as scoping
use Rattle.scheme.specs.Scheme.{scheme, Fits}
use Rattle.scheme.specs.Accepts.{Accepts}
use Rattle.scheme.specs.Making.{too_many_registers, too_many_constants, jump_too_far, too_many_functions}
use Rattle.code_builder.specs.declared.fault.CodeFault.{CodeFault}
use Rattle.front.specs.declared.fault.Fault.{Fault}
use Rattle.front.specs.Sources.{IsRead, IsFaultIn, IsLimitOf, HasNoChunk}
use Rattle.front.specs.Reading.{IsScopingFault}
use Rattle.front.specs.Laws as laws_of_sources

abbrev pub TokensAreOne : Type 0
TokensAreOne = (bytes : List ℕ) (tokens others : List Token) → Lexes bytes tokens → Lexes bytes others → tokens ≡ others

abbrev pub TokensOrFault : Type 0
TokensOrFault = (bytes : List ℕ) (tokens : List Token) (cause : Cause) (at : ℕ) → Lexes bytes tokens → Stops bytes cause at → ⊥

-- bytes have tokens or a fault, tokens have a tree or a fault, and each is one
record Laws : Type 0 where
  tokens_are_one : TokensAreOne
  tokens_or_fault : TokensOrFault
  trees_are_one : TreesAreOne
  tree_or_fault : NeverBoth

pub one_source : TokensAreOne → TreesAreOne → laws_of_sources.SourcesAreOne
one_source tokens_one trees_one bytes one other read read_too =
    let same : read_too.tokens ≡ read.tokens = tokens_one bytes read_too.tokens read.tokens read_too.lexed read.lexed in
    trees_one read.tokens one other read.parsed (subst (λ t. IsTreeOf t other) same read_too.parsed)

pub read_by : (bytes : List ℕ) (source : Source) → Accepts bytes source → IsRead bytes source
read_by bytes source accepts = record { tokens = accepts.tokens; lexed = accepts.lexed; parsed = accepts.parsed }

pub one_chunk : laws_of_sources.SourcesAreOne → laws_of_sources.ChunksAreOne
one_chunk sources_one name bytes c d one other =
    let same : one.source ≡ other.source = sources_one bytes one.source other.source (read_by bytes one.source one.accepts) (read_by bytes other.source other.accepts) in
    one.is ∙ ap (λ s. scheme s name) same ∙ sym other.is

-- tokens and a fault of one text never stand together, for each fault
no_lexical_fault : TokensOrFault → (bytes : List ℕ) (tokens : List Token) (fault : LexFault) → Lexes bytes tokens → lexical.IsFaultOf bytes fault → ⊥
no_lexical_fault never bytes tokens (LexFault.BadByte at) lexed is = never bytes tokens _ at lexed is
no_lexical_fault never bytes tokens (LexFault.UnfinishedString at) lexed is = never bytes tokens _ at lexed is
no_lexical_fault never bytes tokens (LexFault.UnfinishedLong at) lexed is = never bytes tokens _ at lexed is
no_lexical_fault never bytes tokens (LexFault.BadLongOpen at) lexed is = never bytes tokens _ at lexed is
no_lexical_fault never bytes tokens (LexFault.EscapeTooLarge at) lexed is = never bytes tokens _ at lexed is
no_lexical_fault never bytes tokens (LexFault.BadNumber at) lexed is = never bytes tokens _ at lexed is
no_lexical_fault never bytes tokens LexFault.OutOfMemory lexed is = is

no_syntax_fault : Laws → (bytes : List ℕ) (tokens others : List Token) (whole : Source) (fault : SyntaxFault) → Lexes bytes tokens → IsTreeOf tokens whole → Lexes bytes others → syntax.IsFaultOf others fault → ⊥
no_syntax_fault laws bytes tokens others whole fault lexed parsed lexed_too is =
    laws.tree_or_fault others whole fault (subst (λ t. IsTreeOf t whole) (laws.tokens_are_one bytes tokens others lexed lexed_too) parsed) is

no_scope_fault : (whole : Source) (fault : ScopeFault) → Scoped whole → scoping.IsFaultOf whole fault → ⊥
no_scope_fault whole (ScopeFault.NoLoop line) keeps is = let some : breach_of whole ≡ Some (no_loop line) = is in cc
no_scope_fault whole (ScopeFault.NoVararg line) keeps is = let some : breach_of whole ≡ Some (no_vararg line) = is in cc
no_scope_fault whole (ScopeFault.TooManyLocals line reached) keeps is = let some : breach_of whole ≡ Some (too_many_locals line reached) = is in cc
no_scope_fault whole (ScopeFault.TooManyUpvalues line reached) keeps is = let some : breach_of whole ≡ Some (too_many_upvalues line reached) = is in cc
no_scope_fault whole ScopeFault.OutOfMemory keeps is = is

-- nor do a tree that keeps the rules of scoping and a fault that is told before the chunk is made
abbrev IsEarlyFaultIn : List ℕ → Fault → Type 0
IsEarlyFaultIn bytes (Fault.Code fault) = ⊥
IsEarlyFaultIn bytes fault = IsFaultIn bytes fault

no_early_fault : Laws → (bytes : List ℕ) (tokens : List Token) (whole : Source) (fault : Fault) → Lexes bytes tokens → IsTreeOf tokens whole → Scoped whole → IsEarlyFaultIn bytes fault → ⊥
no_early_fault laws bytes tokens whole (Fault.Scoping fault) lexed parsed keeps is =
    let same_tokens : is.tokens ≡ tokens = laws.tokens_are_one bytes is.tokens tokens is.lexed lexed in
    let same : whole ≡ is.whole = laws.trees_are_one tokens whole is.whole parsed (subst (λ t. IsTreeOf t is.whole) same_tokens is.parsed) in
    no_scope_fault is.whole fault (subst Scoped same keeps) is.fault_is
no_early_fault laws bytes tokens whole (Fault.Lexical fault) lexed parsed keeps is =
    no_lexical_fault laws.tokens_or_fault bytes tokens fault lexed is
no_early_fault laws bytes tokens whole (Fault.Unexpected offset) lexed parsed keeps is =
    no_syntax_fault laws bytes tokens is.tokens whole (SyntaxFault.Unexpected is.at) lexed parsed is.lexed is.fault
no_early_fault laws bytes tokens whole (Fault.TooDeep offset) lexed parsed keeps is =
    no_syntax_fault laws bytes tokens is.tokens whole (SyntaxFault.TooDeep is.at) lexed parsed is.lexed is.fault
no_early_fault laws bytes tokens whole (Fault.Code fault) lexed parsed keeps is = is

-- a chunk that keeps the limits breaks none
no_limit : (whole : Source) (fault : CodeFault) → Fits whole → IsLimitOf whole fault → ⊥
no_limit whole (CodeFault.TooManyRegisters line reached) fits is = let none : Contains [] (too_many_registers line reached) = subst (λ m. Contains m (too_many_registers line reached)) fits is in absurd (omega (arith, none.1))
no_limit whole (CodeFault.TooManyConstants line reached) fits is = let none : Contains [] (too_many_constants line reached) = subst (λ m. Contains m (too_many_constants line reached)) fits is in absurd (omega (arith, none.1))
no_limit whole (CodeFault.JumpTooFar line reached) fits is = let none : Contains [] (jump_too_far line reached) = subst (λ m. Contains m (jump_too_far line reached)) fits is in absurd (omega (arith, none.1))
no_limit whole (CodeFault.TooManyFunctions line reached) fits is = let none : Contains [] (too_many_functions line reached) = subst (λ m. Contains m (too_many_functions line reached)) fits is in absurd (omega (arith, none.1))
no_limit whole CodeFault.OutOfMemory fits is = is

-- an accepted source has no fault
no_code_fault : Laws → (bytes : List ℕ) (source : Source) (fault : CodeFault) → Accepts bytes source → HasNoChunk bytes fault → ⊥
no_code_fault laws bytes source fault accepts has =
    let same = one_source laws.tokens_are_one laws.trees_are_one bytes source has.whole (read_by bytes source accepts) (record { tokens = has.good.tokens; lexed = has.good.lexed; parsed = has.good.parsed }) in
    no_limit has.whole fault (subst Fits same accepts.fits) has.fault_is

no_fault : Laws → (bytes : List ℕ) (source : Source) (fault : Fault) → Accepts bytes source → IsFaultIn bytes fault → ⊥
no_fault laws bytes source (Fault.Code fault) accepts is = no_code_fault laws bytes source fault accepts is
no_fault laws bytes source (Fault.Scoping fault) accepts is = no_early_fault laws bytes accepts.tokens source (Fault.Scoping fault) accepts.lexed accepts.parsed accepts.scoped is
no_fault laws bytes source (Fault.Lexical fault) accepts is = no_early_fault laws bytes accepts.tokens source (Fault.Lexical fault) accepts.lexed accepts.parsed accepts.scoped is
no_fault laws bytes source (Fault.Unexpected offset) accepts is = no_early_fault laws bytes accepts.tokens source (Fault.Unexpected offset) accepts.lexed accepts.parsed accepts.scoped is
no_fault laws bytes source (Fault.TooDeep offset) accepts is = no_early_fault laws bytes accepts.tokens source (Fault.TooDeep offset) accepts.lexed accepts.parsed accepts.scoped is

pub chunk_or_fault : TokensAreOne → TokensOrFault → TreesAreOne → NeverBoth → laws_of_sources.NeverBoth
chunk_or_fault tokens_one tokens_never trees_one trees_never name bytes c fault compiled is =
    no_fault (record { tokens_are_one = tokens_one; tokens_or_fault = tokens_never; trees_are_one = trees_one; tree_or_fault = trees_never }) bytes compiled.source fault compiled.accepts is

-- a fault of scoping in the tree is one of the bytes
pub scoping_bad : (bytes : List ℕ) (whole : Source) (fault : Fault) → IsRead bytes whole → IsScopingFault whole fault → IsFaultIn bytes fault
scoping_bad bytes whole (Fault.Scoping fault) read is =
    record { tokens = read.tokens; lexed = read.lexed; whole = whole; parsed = read.parsed; fault_is = is }
scoping_bad bytes whole (Fault.Lexical fault) read is = absurd is
scoping_bad bytes whole (Fault.Unexpected offset) read is = absurd is
scoping_bad bytes whole (Fault.TooDeep offset) read is = absurd is
scoping_bad bytes whole (Fault.Code fault) read is = absurd is
