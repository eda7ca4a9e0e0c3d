-- Drafts that are encoded, and the limits that they do not keep.
use Rattle.std.proofs.Common.{◌≡◌, List, [], ◌∷◌, ◌++◌, length, map, sym, ap, ◌∙◌, subst}
use Rattle.std.proofs.lemmas.List.{length-map, map_push}
use Rattle.std.proofs.lemmas.List.Elements.{Contains-append_left, Contains-append_right}
use Rattle.proto.specs.Chunk.{Chunk}
use Rattle.proto.specs.View.{view_proto}
use Rattle.proto.specs.declared.proto.Proto.{Proto}
use Rattle.scheme.specs.Making.{Misfit}
use Rattle.code_builder.specs.declared.draft.Draft.{Draft, out-Draft}
use Rattle.code_builder.specs.declared.fault.CodeFault.{CodeFault}
use Rattle.code_builder.specs.Drafts.{own_chunk, own_misfits, draft_chunk, draft_misfits, all_misfits}
use Rattle.code_builder.specs.Faults.{IsMisfitAmong}
use Rattle.code_builder.proofs.DraftLists.{draft_chunk_fields, draft_misfits_fields, misfits-append}

pub among_first : (fault : CodeFault) (misfits more : List Misfit) → IsMisfitAmong fault misfits → IsMisfitAmong fault (misfits ++ more)
among_first (CodeFault.TooManyRegisters line reached) misfits more h = Contains-append_left misfits more _ h
among_first (CodeFault.TooManyConstants line reached) misfits more h = Contains-append_left misfits more _ h
among_first (CodeFault.JumpTooFar line reached) misfits more h = Contains-append_left misfits more _ h
among_first (CodeFault.TooManyFunctions line reached) misfits more h = Contains-append_left misfits more _ h
among_first CodeFault.OutOfMemory misfits more h = tt

pub among_last : (fault : CodeFault) (misfits more : List Misfit) → IsMisfitAmong fault more → IsMisfitAmong fault (misfits ++ more)
among_last (CodeFault.TooManyRegisters line reached) misfits more h = Contains-append_right misfits more _ h
among_last (CodeFault.TooManyConstants line reached) misfits more h = Contains-append_right misfits more _ h
among_last (CodeFault.JumpTooFar line reached) misfits more h = Contains-append_right misfits more _ h
among_last (CodeFault.TooManyFunctions line reached) misfits more h = Contains-append_right misfits more _ h
among_last CodeFault.OutOfMemory misfits more h = tt

-- ---- a draft

pub inner_fault : (d : Draft) (fault : CodeFault) → IsMisfitAmong fault (all_misfits (out-Draft d).functions.items) → IsMisfitAmong fault (draft_misfits d)
inner_fault d fault h = subst (IsMisfitAmong fault) (sym (draft_misfits_fields d)) (among_first fault _ _ h)

pub own_fault : (d : Draft) (fault : CodeFault) → IsMisfitAmong fault (own_misfits (out-Draft d).own (map draft_chunk (out-Draft d).functions.items)) → IsMisfitAmong fault (draft_misfits d)
own_fault d fault h = subst (IsMisfitAmong fault) (sym (draft_misfits_fields d)) (among_last fault (all_misfits (out-Draft d).functions.items) _ h)

pub draft_fits : (d : Draft) → all_misfits (out-Draft d).functions.items ≡ [] → own_misfits (out-Draft d).own (map draft_chunk (out-Draft d).functions.items) ≡ [] → draft_misfits d ≡ []
draft_fits d inner own =
    draft_misfits_fields d ∙ ap (λ ms. ms ++ own_misfits (out-Draft d).own (map draft_chunk (out-Draft d).functions.items)) inner ∙ own

pub draft_encoded : (d : Draft) (protos : List Proto) (chunk : Chunk) → map view_proto protos ≡ map draft_chunk (out-Draft d).functions.items
    → chunk ≡ own_chunk (out-Draft d).own (map view_proto protos) → chunk ≡ draft_chunk d
draft_encoded d protos chunk inner own = own ∙ ap (own_chunk (out-Draft d).own) inner ∙ sym (draft_chunk_fields d)

-- as many functions as drafts
pub encoded_length : (drafts : List Draft) (protos : List Proto) → map view_proto protos ≡ map draft_chunk drafts → length (map draft_chunk drafts) ≡ length protos
encoded_length drafts protos e = sym (ap length e) ∙ length-map protos view_proto

-- ---- drafts one behind the other

pub next_encoded : (drafts : List Draft) (draft : Draft) (protos more : List Proto) (proto : Proto) → more ≡ protos ++ proto ∷ [] → map view_proto protos ≡ map draft_chunk drafts
    → view_proto proto ≡ draft_chunk draft → map view_proto more ≡ map draft_chunk (drafts ++ draft ∷ [])
next_encoded drafts draft protos more proto e so_far is =
    ap (map view_proto) e ∙ map_push view_proto protos proto ∙ ap (λ cs. cs ++ view_proto proto ∷ []) so_far ∙ ap (λ c. map draft_chunk drafts ++ c ∷ []) is ∙ sym (map_push draft_chunk drafts draft)

pub next_fits : (drafts : List Draft) (draft : Draft) → all_misfits drafts ≡ [] → draft_misfits draft ≡ [] → all_misfits (drafts ++ draft ∷ []) ≡ []
next_fits drafts draft so_far is = misfits-append drafts draft ∙ ap (λ ms. ms ++ draft_misfits draft) so_far ∙ is

-- what is left, behind a draft that keeps the limits
pub left_next : (draft : Draft) (left more : List Draft) (all : List Misfit) → left ≡ draft ∷ more → draft_misfits draft ≡ [] → all_misfits left ≡ all → all_misfits more ≡ all
left_next draft left more all e is so_far = sym (ap (λ ms. ms ++ all_misfits more) is) ∙ sym (ap all_misfits e) ∙ so_far

pub left_fault : (draft : Draft) (left more : List Draft) (all : List Misfit) (fault : CodeFault) → left ≡ draft ∷ more → all_misfits left ≡ all → IsMisfitAmong fault (draft_misfits draft) → IsMisfitAmong fault all
left_fault draft left more all fault e so_far h = subst (IsMisfitAmong fault) (sym (ap all_misfits e) ∙ so_far) (among_first fault (draft_misfits draft) (all_misfits more) h)
