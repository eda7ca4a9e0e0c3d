-- The turn of a `for`: its block stands where its variables are active behind the hidden locals, and with it the ends of both.
use Rattle.std.proofs.Common.{◌≡◌, ◌≤◌, ℕ, true, List, length, sym, ap, ◌∙◌, subst, arith, append_assoc, ◌+◌}
use Rattle.std.specs.Prelude.{Option, is_some}
use Rattle.lua_num.specs.Bytes.{Text}
use Rattle.lua_tree.specs.Outline as outline
use Rattle.lua_tree.specs.Outline.{Mark, Place, both, declares, innermost, statements_part, with_locals, within}
use Rattle.lua_tree.specs.Syntax.{Statements}
use Rattle.lua_tree.specs.WellFormed.{formed_statements}
use Rattle.scheme.specs.Making.{Maker, active_count, activate, take_registers}
use Rattle.scheme.specs.Scheme.{statements_made}
use Rattle.scheme.specs.Statements.{Loop, end_block}
use Rattle.scheme.specs.declared.making.Active.{Active}
use Rattle.scheme.specs.declared.making.Local.{Local}
use Rattle.scheme_stands.specs.Functions.{Activated, Declared}
use Rattle.scheme_stands.specs.Placed.{NamedAt, RulesKept}
use Rattle.scheme_stands.specs.Places.{ActiveAt, Closed, Moves, locals_from, ahead_at}
use Rattle.scheme_stands.specs.Words.{Fn, Names, Plain, Spot, asking}
use Rattle.scheme_stands.proofs.Blocks.{Settled, block_grows}
use Rattle.scheme_stands.proofs.Counting.{declares_closed}
use Rattle.scheme_stands.proofs.Entering.{looped}
use Rattle.scheme_stands.proofs.Environment.{named_hidden, named_locals, named_still}
use Rattle.scheme_stands.proofs.Growth.{Final, Grown, before, fn_of, later, loose, on_take, spot}
use Rattle.scheme_stands.proofs.Here.{Tame, here_behind, here_turn, tame_both, tame_declares, tame_statements, tame_turn, turn_in, TameBy, tame_more, walks}
use Rattle.scheme_stands.proofs.Lifts.{Stands}
use Rattle.scheme_stands.proofs.Lines.{activate_free, activate_length, grows_activate}
use Rattle.scheme_stands.proofs.Locals.{AllHidden, closed_active, locals_active}
use Rattle.scheme_stands.proofs.Names.{declared_are}
use Rattle.scheme_stands.proofs.Small.{Setting}
use Rattle.scheme_stands.proofs.Statements.{grow_statements}
use Rattle.scheme_stands.proofs.Walks.{declared_moves}
use Rattle.scheme_stands.proofs.Words.{Lifted}
use Rattle.scheme_stands.proofs.Origins.{between_first}
use Rattle.reads_back.proofs.ThroughParts.{IsThrough, before_ends, block_lifted, ends_lifted}
use Rattle.reads_back.specs.Through.{BodyThrough, EndsThrough, turn_made}

-- a `for` without its line: names that are declared, values, and a block
abbrev pub loop_part : (line : ℕ) → List Text → (values : outline.Part) → Statements → (number : ℕ) → outline.Part
loop_part line names values block number = both (declares line 3 names) (both values (within (turn_in names number) (statements_part block)))

-- the place of its block
abbrev pub place_in : (line : ℕ) → List Text → (values : outline.Part) → Place → Place
place_in line names values at = turn_in names at.declarations (values (declares line 3 names at).next).next

module _ (all : List Mark) (n : Names) (f : Fn) (line : ℕ) (names : List Text) (values : outline.Part) (block : Statements) (at : Place) (rest : List Mark) (tame : Tame values) (closed : Closed values (declares line 3 names at).next) (active : List Active) (p q : Spot) (variables : List Local)
    (declared : Declared names p.ahead variables q.ahead) (stands : Stands all n f (loop_part line names values block at.declarations) at rest active p) where
  abbrev turn : outline.Part
  turn = within (turn_in names at.declarations) (statements_part block)

  tame_turned : TameBy (at.declarations + length names) turn
  tame_turned = tame_turn names at.declarations (statements_part block) (tame_statements block)

  -- its values, behind the names
  pub values_stand : Plain f q.pc → Stands all n f (both values turn) (declares line 3 names at).next rest active q
  values_stand plain = record {
    here = here_behind all (declares line 3 names) (both values turn) at rest p q (tame_declares line 3 names) (declares_closed line 3 names at) (declared_moves all line 3 names variables p q declared) stands.here;
    active_at = closed_active (declares line 3 names) at active (declares_closed line 3 names at) stands.active_at;
    named = stands.named;
    room = stands.room;
    plain = plain;
  }

  variables_are : variables ≡ locals_from all at.declarations names
  variables_are =
      let x = declares line 3 names at in
      let here = stands.here in
      let between = between_first all (declares line 3 names) (both values turn) at rest (walks (declares line 3 names) at (tame_declares line 3 names)) (walks (both values turn) x.next (tame_both values turn (tame_more tame) tame_turned)) here.between in
      declared_are all line 3 names variables at _ p.ahead q.ahead between.reached (here.ahead ∙ ap (ahead_at all at) (append_assoc x.marks (both values turn x.next).marks rest)) declared

  -- its block, behind the values
  module _ (hiddens : List Local) (three : length hiddens ≡ 3) (hidden : AllHidden hiddens) (around inner : List Active) (behind_hidden : Activated hiddens active around) (behind_variables : Activated variables around inner) where
    shown : Activated (locals_from all at.declarations names) around inner
    shown = subst (λ locals. Activated locals around inner) variables_are behind_variables

    inner_active : ActiveAt (place_in line names values at) inner
    inner_active =
        let later = (values (declares line 3 names at).next).next in
        let counted = closed.counted in
        let d = counted.declarations in
        looped (with_locals 3 names at.declarations later) inner
        (subst (λ k. ActiveAt (with_locals k names at.declarations later) inner) three
        (locals_active all hiddens names at later active around inner hidden behind_hidden shown closed.scope counted.around closed.active (omega (arith, d)) stands.active_at))

    inner_named : NamedAt all (place_in line names values at) inner n
    inner_named =
        let first = (declares line 3 names at).next in
        let later = (values first).next in
        let here = stands.here in
        let scope = here.scope in
        let counted = closed.counted in
        named_locals all (innermost later.around) at.declarations n names around inner later.scope (λ other b found. scope.declared other b (sym (ap (λ (s : outline.Scope). s other) closed.scope) ∙ found)) shown
        (named_hidden all (innermost later.around) n hiddens active around later.scope hidden behind_hidden (named_still all first later active n closed.scope counted.around stands.named))

    pub turn_stands : (r : Spot) → Moves all values q r → length inner ≤ f.size → Plain f r.pc → Stands all n f (statements_part block) (place_in line names values at) rest inner r
    turn_stands r moves room plain =
        let counted = closed.counted in
        let d = counted.declarations in
        let first = here_behind all (declares line 3 names) (both values turn) at rest p q (tame_declares line 3 names) (declares_closed line 3 names at) (declared_moves all line 3 names variables p q declared) stands.here in
        record {
          here = here_turn all names at.declarations (statements_part block) (values (declares line 3 names at).next).next rest r (tame_statements block) (omega (arith, d)) (here_behind all values turn (declares line 3 names at).next rest q r tame closed moves first);
          active_at = inner_active;
          named = inner_named;
          room = room;
          plain = plain;
        }

-- ---- a turn that is made

abbrev turn_begun : List Local → Maker → Maker
turn_begun variables m = take_registers (length variables) (activate variables m)

pub turn_settled : (variables : List Local) (m : Maker) → Settled m → Settled (turn_begun variables m)
turn_settled variables m settled = let a = activate_length variables m in let b = activate_free variables m in omega (arith, a, b, settled)

turn_grown : (variables : List Local) (m : Maker) → Grown loose m (turn_begun variables m)
turn_grown variables m = on_take (length variables) (grows_activate variables m)

pub before_turn : {k : ℕ} {z : Maker} (line first : ℕ) (block : Statements) (loop : Option Loop) (variables : List Local) (m : Maker) → Settled m → Final k (end_block line first (turn_made line block loop (turn_begun variables m))) z → Final k (turn_begun variables m) z
before_turn line first block loop variables m settled final =
    let begun = turn_begun variables m in
    before (block_grows line (statements_made block loop) begun (grow_statements block loop begun (turn_settled variables m settled))) (before_ends line first (turn_made line block loop begun) final)

pub before_variables : {k : ℕ} {z : Maker} (variables : List Local) (m : Maker) → Final k (turn_begun variables m) z → Final k m z
before_variables variables m final = before (turn_grown variables m) final

module _ (all : List Mark) (rules : RulesKept all) (n : Names) (z : Maker) (setting : Setting n (fn_of z)) where
  pub turn_lifted : (line first : ℕ) (block : Statements) → IsThrough all rules n z setting block → (loop : Option Loop) (variables : List Local) (m : Maker) (at : Place) (rest : List Mark) → formed_statements block ≡ true → length m.active ≡ first → Settled m →
      Final (length m.labels) (end_block line first (turn_made line block loop (turn_begun variables m))) z → is_some loop ≡ at.looped → Stands all n (fn_of z) (statements_part block) at rest (turn_begun variables m).active (spot (turn_begun variables m)) →
      Lifted (fn_of z)
      (BodyThrough (asking n (fn_of z)) z loop block (turn_begun variables m) × EndsThrough (asking n (fn_of z)) line (active_count (turn_begun variables m)) (statements_made block loop (turn_begun variables m)) × EndsThrough (asking n (fn_of z)) line first (turn_made line block loop (turn_begun variables m)))
      (spot (end_block line first (turn_made line block loop (turn_begun variables m))))
  turn_lifted line first block through loop variables m at rest formed counted settled final some stands =
      let begun = turn_begun variables m in
      let turned = turn_made line block loop begun in
      let grown = turn_grown variables m in
      let more = activate_length variables m in
      let room = stands.room in
      let inside = block_lifted all rules n z setting line block through loop begun at rest formed (turn_settled variables m settled) (later grown.more (before_ends line first turned final)) some stands in
      let ends = ends_lifted all rules n z setting line first turned (omega (arith, counted, more, room)) final inside.plain in
      record { is = (inside.is.0, inside.is.1, ends.is); plain = ends.plain }
