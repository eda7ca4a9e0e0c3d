-- Serves the bodies. The draft of a source.
use Rattle.std.specs.Prelude.{◌≡◌}
use Rattle.lua_num.specs.Bytes.{Text}
use Rattle.lua_tree.specs.Syntax.{Source}
use Rattle.scheme.specs.Scheme.{scheme_of}
use Rattle.code_builder.specs.declared.draft.Draft.{Draft}
use Rattle.code_builder.specs.Drafts.{draft_chunk, draft_misfits}

-- it has the chunk of the scheme, and does not keep the limits that the scheme does not keep
pub record IsDraftOf (source : Source) (name : Text) (draft : Draft) : Type 0 where
  pub chunk : draft_chunk draft ≡ (scheme_of source name).chunk
  pub misfits : draft_misfits draft ≡ (scheme_of source name).misfits
