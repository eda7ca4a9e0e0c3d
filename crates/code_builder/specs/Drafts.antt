-- To be believed. What a draft of a function says, in the words of the definitions.
use Rattle.std.specs.Prelude.{List, [], ◌∷◌, ◌++◌}
use Rattle.proto.specs.Chunk.{Chunk}
use Rattle.scheme.specs.Making.{Ahead, Misfit, Maker}
use Rattle.scheme.specs.Functions as functions
use Rattle.scheme.specs.Functions.{Finished, chunk_of, misfits_of}
use Rattle.code_builder.specs.declared.draft.Heading.{Heading}
use Rattle.code_builder.specs.declared.draft.OwnDraft.{OwnDraft}
use Rattle.code_builder.specs.declared.draft.Draft.{Draft, Draft', Row_of-Draft, end_of-Draft, more_of-Draft}

abbrev pub heading_of : Heading → functions.Heading
heading_of h = record { source = h.source; first_line = h.first_line; last_line = h.last_line; params = h.params; vararg = h.vararg }

-- what is left of a function that is being made, once it is
abbrev pub maker_at_end : OwnDraft → List Chunk → Maker
maker_at_end own functions = record {
  items = own.items.items;
  labels = own.labels.items;
  constants = own.constants;
  functions = functions;
  free = 0;
  high = own.high;
  active = [];
  locals = own.locals.items;
  upvalue_names = own.upvalue_names;
  ahead = record { names = []; captures = []; sources = []; declarations = 0 };
  misfits = [];
}

abbrev pub own_chunk : OwnDraft → List Chunk → Chunk
own_chunk own functions = chunk_of (heading_of own.heading) (maker_at_end own functions)

abbrev pub own_misfits : OwnDraft → List Chunk → List Misfit
own_misfits own functions = misfits_of own.heading.first_line (maker_at_end own functions)

-- the chunk of a draft, and the limits that it does not keep
abbrev mutual
  pub draft_chunk : Draft → Chunk
  draft_chunk (Draft' own m row) = own_chunk own (row_chunks row)

  pub row_chunks : {m : _} → Row_of-Draft m → List Chunk
  row_chunks end_of-Draft = []
  row_chunks (more_of-Draft draft rest) = draft_chunk draft ∷ row_chunks rest

abbrev mutual
  pub draft_misfits : Draft → List Misfit
  draft_misfits (Draft' own m row) = row_misfits row ++ own_misfits own (row_chunks row)

  pub row_misfits : {m : _} → Row_of-Draft m → List Misfit
  row_misfits end_of-Draft = []
  row_misfits (more_of-Draft draft rest) = draft_misfits draft ++ row_misfits rest

abbrev pub all_misfits : List Draft → List Misfit
all_misfits [] = []
all_misfits (draft ∷ drafts) = draft_misfits draft ++ all_misfits drafts

abbrev pub finished_draft : Draft → Ahead → Finished
finished_draft draft ahead = record { chunk = draft_chunk draft; ahead = ahead; misfits = draft_misfits draft }
