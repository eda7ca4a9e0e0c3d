-- The words of the head of a loop are read as one step, with what is written of its values.
use Rattle.std.proofs.Common.{◌≡◌, ℕ, suc, Bool, true, false, List, [], ◌++◌, length, refl, sym, ap, ap₂, ◌∙◌, arith, subst}
use Rattle.std.specs.Prelude.{Option}
use Rattle.lua_num.specs.Bytes.{Text}
use Rattle.lua_tree.specs.OneLine.{one_line_expressions}
use Rattle.lua_tree.specs.Outline as outline
use Rattle.lua_tree.specs.Syntax as syntax
use Rattle.lua_tree.specs.Syntax.{Expressions, Statements, no_expressions}
use Rattle.core_expr.specs.Counting.{left_by_values, one_more, taken_behind_values}
use Rattle.core_expr.specs.Places.{place}
use Rattle.core_expr.specs.Values.{Inner}
use Rattle.recover_expr.specs.Drafts.{head_part}
use Rattle.recover_expr.specs.Entries.{Listed}
use Rattle.recover_expr.specs.Placing.{Steps}
use Rattle.recover_expr.specs.Situation.{Function, Situation}
use Rattle.recover_expr.specs.declared.draft.DraftKind.{DraftKind}
use Rattle.recover_expr.specs.declared.steps.StepKind.{StepKind}
use Rattle.scheme.specs.Making.{Ahead, Maker, declare}
use Rattle.scheme.specs.declared.making.Active.{Active}
use Rattle.scheme.specs.declared.making.Item.{Item}
use Rattle.proto.specs.Chunk.{Chunk}
use Rattle.scheme_stands.proofs.Growth.{Final, spot}
use Rattle.scheme_stands.proofs.Lines.{declare_functions, declare_items}
use Rattle.scheme_stands.specs.Words.{Fn}
use Rattle.same_flow.specs.Performed.{kind_made}
use Rattle.same_flow.specs.Told as told
use Rattle.reads_back.specs.Cores.{AllHaveCores}
use Rattle.reads_back.specs.Stepped.{CountedAt}
use Rattle.reads_back.proofs.ActsRead.{Declares}
use Rattle.reads_back.proofs.FlowLones.{target_within}
use Rattle.reads_back.proofs.FlowRead.{Begins, KindRead, final_here, has_locals, last_is, upvalues_here, within_last}
use Rattle.reads_back.proofs.FlowStarts.{from_at, head_count, head_from, head_starts, own_entries, quiet_to}
use Rattle.reads_back.proofs.FlowThere.{IsFlowFunction, StepIs, before_at, made_at, made_before, pcs}
use Rattle.reads_back.proofs.HeadValues.{IsHeaded, counted_list, head_wording}
use Rattle.reads_back.proofs.HeadsRead.{CanHead, HeadRead, LoopStarts, generic_head_read, numeric_head_read}
use Rattle.reads_back.proofs.HeadsSame.{AreCounted, AreOfHead, RewrittenHead, head_can_be_written, head_rewritten, head_taken, mentions_of_head, mentions_of_loop}
use Rattle.reads_back.proofs.LocalsLeave.{listed_of}
use Rattle.reads_back.proofs.Mentions.{AreMeant, IsAhead, coming, mentions_in, mentions_in_all, declare_passes}
use Rattle.reads_back.proofs.MentionsMeant.{Meant, adjust_meant, each_meant, meant_none, meant_then, mentions_meant, word_keeps}
use Rattle.reads_back.proofs.Rewriting.{IsMadeBy}
use Rattle.reads_back.proofs.SomeNames.{some_names}
use Rattle.reads_back.proofs.StartingLocals.{StartFrom, start_later}
use Rattle.reads_back.proofs.ActsKnown.{all_written}
use Rattle.reads_back.proofs.WordsRead.{IsQuiet}

-- ---- what the values of a head mean

pub counted_of : (es : Expressions) → told.AreCounted es → AreCounted es
counted_of (syntax.expression first (syntax.expression last no_expressions)) counted = tt
counted_of (syntax.expression first (syntax.expression last (syntax.expression by no_expressions))) counted = tt
counted_of es counted = absurd counted

pub counted_meant : (g : Fn) (active : List Active) (free : ℕ) (es : Expressions) → AreCounted es → AllHaveCores es → Meant g active (mentions_in_all (counted_list es)) (CountedAt g es active free)
counted_meant g active free (syntax.expression first (syntax.expression last no_expressions)) counted has p q at =
    let others = at.second_at in
    meant_then (mentions_in first) (mentions_in last ++ []) ((mentions_meant g active first has.0).to_reg free free p at.mid at.first_at)
    (meant_then (mentions_in last) [] ((mentions_meant g active last has.1.0).to_reg (suc free) (suc free) at.mid others.mid others.first_at) (meant_none (word_keeps others.second_at.word)))
counted_meant g active free (syntax.expression first (syntax.expression last (syntax.expression by no_expressions))) counted has p q at =
    let others = at.second_at in
    meant_then (mentions_in first) (mentions_in last ++ (mentions_in by ++ [])) ((mentions_meant g active first has.0).to_reg free free p at.mid at.first_at)
    (meant_then (mentions_in last) (mentions_in by ++ []) ((mentions_meant g active last has.1.0).to_reg (suc free) (suc free) at.mid others.mid others.first_at)
    (meant_then (mentions_in by) [] ((mentions_meant g active by has.1.1.0).to_reg (suc (suc free)) (suc (suc free)) others.mid q others.second_at) (meant_none refl)))
counted_meant g active free es counted has p q at = absurd counted

module _ {f : Function} {g : Fn} {z : Maker} {lefts : ℕ → List (Option Inner)} {parts : ℕ → outline.Part} {code : Steps} {params names : List Text} {ahead : Ahead} {block : Statements} (of : IsFlowFunction f g z lefts parts code params names ahead block) where
  module _ (at foot end variables_end : ℕ) (captured : Bool) (es : Expressions) (texts : List Text) where
    abbrev m : Maker
    m = before_at of at

    -- its variables are declared before its values are made
    abbrev declared : Maker
    declared = (declare texts m).after

    abbrev made : Bool → Maker
    made numeric = made_at of at (StepKind.Head numeric foot end variables_end captured) (head_part es texts)

    abbrev IsHead : Bool → Type 0
    IsHead numeric = StepIs of at (StepKind.Head numeric foot end variables_end captured) (head_part es texts)

    pub here : {numeric : Bool} → IsHead numeric → IsMadeBy f g m.active (listed_of m.active) z
    here is = let less = is.within in made_before of at (omega (arith, less))

    pub of_head : (numeric : Bool) → IsHead numeric → AreOfHead numeric es
    of_head true is = counted_of es is.fits.0
    of_head false is = is.flow.some

    -- what it mentions means what the scope finds by it
    values_meant : (numeric : Bool) → IsHead numeric → AreMeant g m.active (mentions_of_head numeric es) (coming declared)
    values_meant true is = (counted_meant g m.active m.free es (counted_of es is.fits.0) is.flow.has (spot declared) is.stands.mid is.stands.first_at).meant
    values_meant false is = (adjust_meant es 3 (each_meant g m.active es is.flow.has) m.free (spot declared) is.stands.mid is.stands.first_at).meant

    pub comes : (numeric : Bool) → IsHead numeric → IsAhead g m.active (length m.functions) (mentions_of_loop numeric es texts) m
    comes numeric is = record { active_are = refl; upvalues_are = upvalues_here of is; made_are = refl; meant = (tt, subst (AreMeant g m.active (mentions_of_head numeric es)) (declare_passes texts m).behind (values_meant numeric is)) }

    -- made of its values as they stand, and in the end
    pub head_made_here : (numeric : Bool) → IsHead numeric → kind_made code (StepKind.Head numeric foot end variables_end captured) (head_part (one_line_expressions es) texts) m ≡ made numeric
    head_made_here numeric is = ap (λ es. kind_made code (StepKind.Head numeric foot end variables_end captured) (head_part es texts) m) is.flow.on_line

    pub head_final : (numeric : Bool) → IsHead numeric → Final (length m.labels) (kind_made code (StepKind.Head numeric foot end variables_end captured) (head_part (one_line_expressions es) texts) m) z
    head_final numeric is = subst (λ n. Final (length m.labels) n z) (sym (head_made_here numeric is)) (final_here of is)

    pub rewritten : (numeric : Bool) (is : IsHead numeric) (headed : Listed) → IsHeaded g m.active numeric es (length m.functions) (length (made numeric).functions) headed →
        RewrittenHead f g m.active (listed_of m.active) z lefts (length m.functions) (length (made numeric).functions) numeric es headed
    rewritten numeric is headed headed_is = head_rewritten lefts (here is) 200 numeric es (length m.functions) (length (made numeric).functions) headed (all_written (here is) of.left 200 (omega arith)) is.flow.shallow is.flow.has (of_head numeric is) headed_is

    module _ (now : Situation) (begins : Begins of at now) (rest : StartFrom (suc (pcs of (suc at))) (from_at of (suc at))) where
      -- it is read so
      abbrev ReadHere : Bool → Type 0
      ReadHere numeric = HeadRead f g m.active numeric es texts (length declared.functions) (length (made numeric).functions) now (pcs of foot) (length declared.items) (length (made numeric).items)

      same_functions : length declared.functions ≡ length m.functions
      same_functions = ap (λ (functions : List Chunk). length functions) (declare_functions texts m)

      same_items : length declared.items ≡ length m.items
      same_items = ap (λ (items : List Item). length items) (declare_items texts m)

      can : (numeric : Bool) (is : IsHead numeric) → AreOfHead numeric es → CanHead f g m.active (listed_of m.active) lefts numeric es
      can numeric is are = head_can_be_written lefts (here is) 200 numeric es (all_written (here is) of.left 200 (omega arith)) is.flow.shallow is.flow.has are

      -- where its last word is at a pc
      module _ (numeric : Bool) (is : IsHead numeric) (pc : ℕ) (behind_last : pcs of (suc at) ≡ suc pc) where
        starts : LoopStarts f numeric now.scope texts pc
        starts = head_starts of at numeric foot end variables_end captured es texts is is.flow.good pc behind_last rest now.scope begins.declared begins.active

        quiet : IsQuiet f now.scope (length declared.items) pc
        quiet =
            let kind = StepKind.Head numeric foot end variables_end captured in
            let within = within_last of is in
            subst (λ first. IsQuiet f now.scope first pc) (sym same_items)
            (quiet_to of at kind (head_part es texts) is (pcs of at) pc now.scope begins.declared begins.active (omega (arith, behind_last)) (head_from of at numeric foot end variables_end captured es texts is is.flow.good pc behind_last)
            (start_later pc (suc (pcs of (suc at))) (from_at of (suc at)) (omega (arith, behind_last)) rest) (omega (arith, within, behind_last)))

      -- of a loop over numbers
      numeric_here : (is : IsHead true) → ReadHere true
      numeric_here is =
          let pc = is.stands.mid.pc in
          let behind_last : pcs of (suc at) ≡ suc pc = last_is of is ∙ is.stands.second_at.next in
          let within = within_last of is in
          numeric_head_read of.made.is_function (here is).all es texts is.flow.has is.flow.shallow m.free (pcs of foot) pc (spot declared) (spot (made true)) now (has_locals of begins) (begins.left ∙ ap lefts (sym same_functions)) begins.entries refl is.stands.second_at.next
          (omega (arith, within, last_is of is)) (target_within of foot is.inside.0) (quiet true is pc behind_last) is.fits.1 (can true is (counted_of es is.fits.0)) (starts true is pc behind_last) is.stands

      -- of any other
      generic_here : (is : IsHead false) → ReadHere false
      generic_here is =
          let pc = is.stands.mid.pc in
          let behind_last : pcs of (suc at) ≡ suc pc = last_is of is ∙ is.stands.second_at.next in
          let within = within_last of is in
          generic_head_read of.made.is_function (here is).all es texts is.flow.has is.flow.shallow m.free (pcs of foot) pc (spot declared) (spot (made false)) now (has_locals of begins) (begins.left ∙ ap lefts (sym same_functions)) begins.entries refl is.stands.second_at.next
          (omega (arith, within, last_is of is)) (target_within of foot is.inside.0) (quiet false is pc behind_last) is.flow.some (can false is is.flow.some) (starts false is pc behind_last) is.stands

      head_here : (numeric : Bool) → IsHead numeric → ReadHere numeric
      head_here true is = numeric_here is
      head_here false is = generic_here is

      last_word : (numeric : Bool) → IsHead numeric → (pc : ℕ) × (pcs of (suc at) ≡ suc pc)
      last_word true is = (is.stands.mid.pc, last_is of is ∙ is.stands.second_at.next)
      last_word false is = (is.stands.mid.pc, last_is of is ∙ is.stands.second_at.next)

      pub head_step_read : (numeric : Bool) → IsHead numeric → KindRead of at (StepKind.Head numeric foot end variables_end captured) (head_part es texts) now
      head_step_read numeric is =
          let kind = StepKind.Head numeric foot end variables_end captured in
          let behind_last = last_word numeric is in
          let listed = listed_of m.active in
          let read : HeadRead f g m.active numeric es texts (length m.functions) (length (made numeric).functions) now (pcs of foot) (length m.items) (length (made numeric).items) =
          subst (λ first. HeadRead f g m.active numeric es texts (length m.functions) (length (made numeric).functions) now (pcs of foot) first (length (made numeric).items)) same_items
          (subst (λ functions. HeadRead f g m.active numeric es texts functions (length (made numeric).functions) now (pcs of foot) (length declared.items) (length (made numeric).items)) same_functions (head_here numeric is)) in
          let headed = read.headed in
          let written = rewritten numeric is headed read.is in
          let taken = head_taken written code foot end variables_end captured texts m (comes numeric is) (head_final numeric is) in
          let count = head_count of at numeric foot end variables_end captured es texts is is.flow.good behind_last.0 behind_last.1 in
          let as_taken = begins.taken ∙ begins.seen in
          let two = read.two in
          record {
            draft = read.draft;
            behind = read.behind;
            reads = λ n few. read.reads n (omega (arith, few, last_is of is));
            kind_is = (length texts, read.kind ∙ ap (λ first. DraftKind.Head numeric (pcs of foot) first (length texts)) begins.declared, count, some_names texts is.flow.good);
            next = read.next ∙ sym (last_is of is);
            declares = subst (λ n. Declares n now.scope read.behind.scope) (sym count) read.declares;
            left = read.left ∙ ap (left_by_values headed.values) begins.left ∙ written.leaves;
            seen = read.seen ∙ ap (taken_behind_values headed.values) begins.seen ∙ sym taken ∙ ap (λ (n : Maker). length n.constants) (head_made_here numeric is);
            later = omega (arith, two, last_is of is);
            own_later = start_later (suc (pcs of at)) behind_last.0 (own_entries of at kind (head_part es texts) is) (omega (arith, two, last_is of is, behind_last.1)) (head_from of at numeric foot end variables_end captured es texts is is.flow.good behind_last.0 behind_last.1);
            part_read = record {
              headed = headed;
              is = read.is;
              part =
                  read.part
                  ∙ ap₂ (λ (listed : List ℕ) (left : List (Option Inner)). head_part (head_wording numeric (place f.of listed f.short) now.taken left headed).words texts) begins.active begins.left
                  ∙ ap (λ (taken : ℕ). head_part (head_wording numeric (place f.of listed f.short) taken (lefts (length m.functions)) headed).words texts) as_taken;
              levels =
                  read.levels
                  ∙ ap₂ (λ (listed : List ℕ) (left : List (Option Inner)). one_more (head_wording numeric (place f.of listed f.short) now.taken left headed).levels) begins.active begins.left
                  ∙ ap (λ (taken : ℕ). one_more (head_wording numeric (place f.of listed f.short) taken (lefts (length m.functions)) headed).levels) as_taken;
            };
          }
