-- The parts of a generic `for` stand, with their law, where those of its block do.
use Rattle.std.proofs.Common.{◌≡◌, ◌≤◌, ℕ, suc, ◌+◌, true, List, length, refl, sym, ap, ◌∙◌, subst, arith}
use Rattle.std.specs.Prelude.{Option, Some}
use Rattle.lua_num.specs.Bytes.{Text}
use Rattle.lua_tree.specs.Names.{are_some_names}
use Rattle.lua_tree.specs.Outline.{Mark, Place, declares, expressions_part, statement_part, statements_part, within}
use Rattle.lua_tree.specs.Syntax.{Expressions, Statements, generic_for}
use Rattle.lua_tree.specs.WellFormed.{formed_expressions, formed_statement, formed_statements, has_expressions}
use Rattle.opcode.specs.declared.op.Op.{Op}
use Rattle.scheme.specs.Lists.{adjust}
use Rattle.scheme.specs.Making.{Maker, active_count, declare, end_locals, jump_to, place, put, used}
use Rattle.scheme.specs.Scheme.{all_coded, statement_made, statements_made}
use Rattle.scheme.specs.Statements.{Loop, end_block, generic_names, turn}
use Rattle.scheme.specs.declared.making.Local.{Local}
use Rattle.scheme.specs.declared.making.Piece.{Piece}
use Rattle.scheme_stands.specs.Functions.{Activated}
use Rattle.scheme_stands.specs.Placed.{RulesKept}
use Rattle.scheme_stands.specs.Relation.{all_related}
use Rattle.scheme_stands.specs.Words.{Names, Plain, asking}
use Rattle.scheme_stands.proofs.Blocks.{Settled, before_end}
use Rattle.scheme_stands.proofs.Counting.{expressions_closed}
use Rattle.scheme_stands.proofs.Every.{links_all}
use Rattle.scheme_stands.proofs.Fors.{turn_grows}
use Rattle.scheme_stands.proofs.Growth.{Final, Grown, before, before_put, before_used, calm, fn_of, later, length_set, loose, on_new, on_part, on_place, on_put, on_used, put_at, spot, start, unplaced, unplaced_below}
use Rattle.scheme_stands.proofs.Here.{here_as, tame_expressions, tame_statements, tame_turn, turn_in}
use Rattle.scheme_stands.proofs.Lifting.{adjust_lifts}
use Rattle.scheme_stands.proofs.Lifts.{Stands, stands_first_by}
use Rattle.scheme_stands.proofs.Lines.{activate_free, activate_length, activate_spot, activated, adjust_at, adjust_free, declare_active, declare_free, declare_items, declare_length, declared, grows_activate, grows_adjust, grows_declare}
use Rattle.scheme_stands.proofs.Parts.{grow_all}
use Rattle.scheme_stands.proofs.Scopes.{all_move}
use Rattle.scheme_stands.proofs.Small.{Setting, field_a, field_b}
use Rattle.scheme_stands.proofs.Statements.{grow_statements}
use Rattle.scheme_stands.proofs.Walks.{adjust_moves, and_left, and_right}
use Rattle.scheme_stands.proofs.Words.{abc_lift, alone}
use Rattle.same_flow.specs.Laid.{for_loop_of, generic_begun, generic_valued, with_new_labels}
use Rattle.reads_back.proofs.ExpressionsLawful.{all_lift}
use Rattle.reads_back.proofs.ThroughNumeric.{second_label, third_label, three_labels}
use Rattle.reads_back.proofs.ThroughParts.{IsThrough, jump_lifted}
use Rattle.reads_back.proofs.ThroughTests.{stands_made}
use Rattle.reads_back.proofs.ThroughTurns.{before_turn, before_variables, loop_part, place_in, turn_lifted, turn_settled, turn_stands, values_stand}
use Rattle.reads_back.specs.Through.{StatementThrough, turn_made}

module _ (line : ℕ) (names : List Text) (es : Expressions) (block : Statements) (m : Maker) where
  abbrev begun_with : Maker
  begun_with = (declare names m).after

  abbrev variables : List Local
  variables = (declare names m).value

  abbrev with_three : Maker
  with_three = adjust line (all_coded es) 3 begun_with

  abbrev valued : Maker
  valued = generic_valued line names es m

  abbrev loop_begun : (base end : ℕ) → Maker
  loop_begun base end = used (base + 6) (place (length valued.labels) (jump_to line end (with_new_labels 3 valued)))

  abbrev generic_from : (base count end exit : ℕ) → Maker
  generic_from base count end exit =
      end_locals count (place exit (jump_to line (length valued.labels) (put line (Piece.Abc Op.TForLoop base 0 (length names)) (place end (turn line base variables (statements_made block (Some (record { exit = exit; before = count }))) (loop_begun base end))))))

  pub generic_laid : (loop : Option Loop) → statement_made (generic_for names es block) line loop m ≡ generic_from m.free (active_count m) (suc (length valued.labels)) (suc (suc (length valued.labels)))
  generic_laid loop =
      let end = length (with_new_labels 1 valued).labels in
      let exit = length (with_new_labels 2 valued).labels in
      ap (λ base. generic_from base (active_count begun_with) end exit) (declare_free names m) ∙ ap (λ count. generic_from m.free count end exit) (ap length (declare_active names m))
      ∙ ap (λ end. generic_from m.free (active_count m) end exit) (second_label valued) ∙ ap (λ exit. generic_from m.free (active_count m) (suc (length valued.labels)) exit) (third_label valued)

  -- what its parts keep
  three_grown : Grown calm m with_three
  three_grown = on_part (grows_adjust calm line (all_coded es) (grow_all calm es) 3 begun_with) (grows_declare calm names m)

  hidden_grown : Grown loose with_three valued
  hidden_grown = grows_activate generic_names with_three

  loop_active : (base end : ℕ) → length (loop_begun base end).active ≡ length m.active + 3
  loop_active base end = let a = activate_length generic_names with_three in let b = three_grown in omega (arith, a, ap length b.active)

  loop_settled : (base end : ℕ) → Settled m → Settled (loop_begun base end)
  loop_settled base end settled =
      let a = activate_free generic_names with_three in
      let b = adjust_free line (all_coded es) (grow_all calm es) 3 begun_with in
      omega (arith, a, b, declare_free names m, loop_active base end, settled)

module _ (all : List Mark) (rules : RulesKept all) (n : Names) (z : Maker) (setting : Setting n (fn_of z)) where
  module _ (line : ℕ) (names : List Text) (es : Expressions) (block : Statements) (loop : Option Loop) (m : Maker) (settled : Settled m) (final : Final (length m.labels) (statement_made (generic_for names es block) line loop m) z) where
    abbrev begin : ℕ
    begin = length (generic_valued line names es m).labels

    abbrev inner : Option Loop
    inner = for_loop_of (active_count m) (generic_valued line names es m)

    abbrev ready : Maker
    ready = with_new_labels 3 (generic_valued line names es m)

    abbrev prepared : Maker
    prepared = jump_to line (suc begin) ready

    abbrev turning : Maker
    turning = used (m.free + 6) (place begin prepared)

    abbrev ended : Maker
    ended = end_block line (m.free + 3) (turn_made line block inner (generic_begun line names es m))

    abbrev foot : Maker
    foot = place (suc begin) ended

    abbrev called : Maker
    called = put line (Piece.Abc Op.TForLoop m.free 0 (length names)) foot

    abbrev back : Maker
    back = jump_to line begin called

    labels_more : length m.labels ≤ begin
    labels_more = let a = three_grown line names es block m in let b = hidden_grown line names es block m in omega (arith, a.more, b.more)

    turning_settled : Settled turning
    turning_settled = loop_settled line names es block m m.free (suc begin) settled

    turning_active : length turning.active ≡ m.free + 3
    turning_active = loop_active line names es block m m.free (suc begin) ∙ ap (λ k. k + 3) (sym settled)

    whole_final : Final (length m.labels) (place (suc (suc begin)) back) z
    whole_final = before_end (active_count m) (place (suc (suc begin)) back) (subst (λ o. Final (length m.labels) o z) (generic_laid line names es block m loop) final)

    back_final : Final (suc (suc (suc begin))) back z
    back_final = unplaced {n = back} (suc (suc begin)) (omega (arith, labels_more)) whole_final

    called_final : Final (suc (suc (suc begin))) called z
    called_final = before_put line (Piece.Jump Op.Jmp 0 begin) called back_final

    ended_final : Final (suc (suc (suc begin))) ended z
    ended_final = unplaced_below {n = ended} (suc begin) (omega arith) (before_put line (Piece.Abc Op.TForLoop m.free 0 (length names)) foot called_final)

    begun_final : Final (suc (suc (suc begin))) (generic_begun line names es m) z
    begun_final = before_turn line (m.free + 3) block inner (variables line names es block m) turning turning_settled ended_final

    prepared_final : Final (suc (suc (suc begin))) prepared z
    prepared_final = unplaced_below {n = prepared} begin (omega arith) (before_used (m.free + 6) (place begin prepared) (before_variables (variables line names es block m) turning begun_final))

    three_final : Final (length m.labels) (with_three line names es block m) z
    three_final =
        let at = valued line names es block m in
        let turned = turn_grows line (variables line names es block m) (statements_made block inner) (grow_statements block inner) m.free turning turning_active turning_settled in
        let grown : Grown calm at (place (suc (suc begin)) back) =
        on_place {m = at} {n = back} (suc (suc begin)) (omega arith) (on_put line (Piece.Jump Op.Jmp 0 begin) (on_put line (Piece.Abc Op.TForLoop m.free 0 (length names)) (on_place {m = at} {n = ended} (suc begin) (omega arith)
        (on_part turned (on_used (m.free + 6) (on_place {n = prepared} begin (omega arith) (on_put line (Piece.Jump Op.Jmp 0 (suc begin)) (on_new (on_new (on_new (start at))))))))))) in
        before (hidden_grown line names es block m) (before grown whole_final)

    pub generic_through : IsThrough all rules n z setting block → (at : Place) (rest : List Mark) → formed_statement (generic_for names es block) ≡ true → Stands all n (fn_of z) (statement_part line (generic_for names es block)) at rest m.active (spot m) →
        StatementThrough (asking n (fn_of z)) z line loop (generic_for names es block) m
    generic_through through at rest formed stands =
        let f = fn_of z in
        let h1 = and_right (are_some_names names) _ formed in
        let h2 = and_right (has_expressions es) _ h1 in
        let fe = and_left (formed_expressions es) (formed_statements block) h2 in
        let fb = and_right (formed_expressions es) (formed_statements block) h2 in
        let active = m.active in
        let vs = variables line names es block m in
        let m1 = begun_with line names es block m in
        let m4 = with_three line names es block m in
        let m5 = generic_valued line names es m in
        let begun = generic_begun line names es m in
        let values = expressions_part es in
        let turned_part = within (turn_in names at.declarations) (statements_part block) in
        let tame = tame_expressions es in
        let p1 = (declares line 3 names at).next in
        let closed = expressions_closed es p1 in
        let whole : Stands all n f (loop_part line names values block at.declarations) at rest active (spot m) = record {
          here = here_as all (statement_part line (generic_for names es block)) (loop_part line names values block at.declarations) at rest (spot m) refl stands.here;
          active_at = stands.active_at;
          named = stands.named;
          room = stands.room;
          plain = stands.plain;
        } in
        let behind_names = values_stand all n f line names values block at rest tame closed active (spot m) (spot m1) vs (declared names m) whole (subst (Plain f) (sym (ap length (declare_items names m))) stands.plain) in
        let first = stands_made all rules n z setting values p1 _ active m1.active (spot m1) (declare_active names m) (stands_first_by all n f values turned_part p1 rest active (spot m1) (omega arith) tame (tame_turn names at.declarations (statements_part block) (tame_statements block)) behind_names) in
        let declared_grown = grows_declare calm names m in
        let moved = all_move all f es fe in
        let words = adjust_at z line (all_coded es) (all_related f es) (links_all z es) 3 m1 (later declared_grown.more three_final) in
        let three = adjust_lifts all n f setting 3 es moved (all_lift all rules n f setting es fe) m1.active m1.free p1 _ (spot m1) (spot m4) first words in
        let moves = adjust_moves all f es 3 moved m1.active m1.free (spot m1) (spot m4) words in
        let enter = jump_lifted all rules n z setting line (suc begin) ready prepared_final three.plain in
        let room = stands.room in
        let base = field_a n f m.free setting (omega (arith, settled, room)) in
        let made = begun_final in
        let high = made.high in
        let settled_begun = turn_settled vs turning turning_settled in
        let inner_room : length begun.active ≤ f.size = omega (arith, high, settled_begun) in
        let grown = three_grown line names es block m in
        let at_turn = turn_stands all n f line names values block at rest tame closed active (spot m) (spot m1) vs (declared names m) whole generic_names refl (refl, (refl, (refl, tt))) m5.active begun.active
        (subst (λ active. Activated generic_names active m5.active) grown.active (activated generic_names m4)) (activated vs turning) (spot turning) moves inner_room enter.plain in
        let inside = subst (λ p. Stands all n f (statements_part block) (place_in line names values at) rest begun.active p) (sym (activate_spot vs turning)) at_turn in
        let count : length turning.labels ≡ suc (suc (suc begin)) = length_set ready.labels begin (length prepared.items) ∙ three_labels m5 in
        let turned = turn_lifted all rules n z setting line (m.free + 3) block through inner vs turning (place_in line names values at) rest fb turning_active turning_settled (later (omega (arith, count)) ended_final) refl inside in
        let more = activate_length vs turning in
        let as_many = declare_length names m in
        let call = abc_lift n f Op.TForLoop m.free 0 (length names) (alone Op.TForLoop refl) base (omega arith) (field_b n f (length names) setting (omega (arith, more, as_many, inner_room))) (spot foot) (spot called) turned.plain (put_at line (Piece.Abc Op.TForLoop m.free 0 (length names)) foot called_final) in
        let word = jump_lifted all rules n z setting line begin called back_final call.plain in
        (three.is, enter.is, turned.is.0, turned.is.1, turned.is.2, call.is, word.is)
