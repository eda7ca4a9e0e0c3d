-- Drafts one behind the other.
use Rattle.std.proofs.Common.{◌≡◌, List, [], ◌∷◌, ◌++◌, refl, sym, ap, ◌∙◌, append_assoc, append-nil}
use Rattle.std.specs.Prelude.{map}
use Rattle.scheme.specs.Making.{Ahead, Maker}
use Rattle.scheme.specs.Functions.{with_function}
use Rattle.code_builder.specs.Drafts.{draft_chunk, row_chunks, own_chunk, draft_misfits, row_misfits, own_misfits, all_misfits, finished_draft}
use Rattle.code_builder.specs.declared.draft.OwnDraft.{OwnDraft}
use Rattle.code_builder.specs.declared.draft.Draft.{Draft, Draft', Row_of-Draft, end_of-Draft, more_of-Draft, out-Draft, roll-Draft, out-roll-Draft, items-the_row-Draft, items_shown-the_row-Draft-0}

chunks-append : (drafts : List Draft) (draft : Draft) → map draft_chunk (drafts ++ draft ∷ []) ≡ map draft_chunk drafts ++ draft_chunk draft ∷ []
chunks-append [] draft = refl
chunks-append (one ∷ drafts) draft = ap (λ cs. draft_chunk one ∷ cs) (chunks-append drafts draft)

pub misfits-append : (drafts : List Draft) (draft : Draft) → all_misfits (drafts ++ draft ∷ []) ≡ all_misfits drafts ++ draft_misfits draft
misfits-append [] draft = append-nil (draft_misfits draft)
misfits-append (one ∷ drafts) draft =
    ap (λ ms. draft_misfits one ++ ms) (misfits-append drafts draft) ∙ sym (append_assoc (draft_misfits one) (all_misfits drafts) (draft_misfits draft))

pub with_draft : (m : Maker) (drafts more : List Draft) (draft : Draft) (ahead : Ahead) → more ≡ drafts ++ draft ∷ [] →
    record m { functions = map draft_chunk more; ahead = ahead; misfits = all_misfits more }
    ≡ with_function (finished_draft draft ahead) (record m { functions = map draft_chunk drafts; misfits = all_misfits drafts })
with_draft m drafts more draft ahead e =
    ap (λ ds. record m { functions = map draft_chunk ds; ahead = ahead; misfits = all_misfits ds }) e
    ∙ ap (λ cs. record m { functions = cs; ahead = ahead; misfits = all_misfits (drafts ++ draft ∷ []) }) (chunks-append drafts draft)
    ∙ ap (λ ms. record m { functions = map draft_chunk drafts ++ draft_chunk draft ∷ []; ahead = ahead; misfits = ms }) (misfits-append drafts draft)

row_chunks_items : (m : _) (row : Row_of-Draft m) → row_chunks row ≡ map draft_chunk (items-the_row-Draft m row)
row_chunks_items m end_of-Draft = refl
row_chunks_items m (more_of-Draft draft rest) = ap (λ cs. draft_chunk draft ∷ cs) (row_chunks_items _ rest)

row_misfits_items : (m : _) (row : Row_of-Draft m) → row_misfits row ≡ all_misfits (items-the_row-Draft m row)
row_misfits_items m end_of-Draft = refl
row_misfits_items m (more_of-Draft draft rest) = ap (λ ms. draft_misfits draft ++ ms) (row_misfits_items _ rest)

-- a draft by its fields
pub draft_chunk_fields : (d : Draft) → draft_chunk d ≡ own_chunk (out-Draft d).own (map draft_chunk (out-Draft d).functions.items)
unfolding out-Draft denote.Hole.Carrier.out
draft_chunk_fields (Draft' own m row) = ap (own_chunk own) (row_chunks_items _ row ∙ ap (map draft_chunk) (sym (items_shown-the_row-Draft-0 m row)))

pub draft_misfits_fields : (d : Draft) → draft_misfits d ≡ all_misfits (out-Draft d).functions.items ++ own_misfits (out-Draft d).own (map draft_chunk (out-Draft d).functions.items)
unfolding out-Draft denote.Hole.Carrier.out
draft_misfits_fields (Draft' own m row) =
    ap (λ ms. ms ++ own_misfits own (row_chunks row)) (row_misfits_items _ row ∙ ap all_misfits (sym (items_shown-the_row-Draft-0 m row)))
    ∙ ap (λ cs. all_misfits (out-Draft (Draft' own m row)).functions.items ++ own_misfits own cs) (row_chunks_items _ row ∙ ap (map draft_chunk) (sym (items_shown-the_row-Draft-0 m row)))

pub finished_made : (own : OwnDraft) (functions : _) (ahead : Ahead) →
    finished_draft (roll-Draft (record { own = own; functions = functions })) ahead
    ≡ record { chunk = own_chunk own (map draft_chunk functions.items); ahead = ahead; misfits = all_misfits functions.items ++ own_misfits own (map draft_chunk functions.items) }
finished_made own functions ahead = rw (draft_chunk_fields, draft_misfits_fields, out-roll-Draft) refl
