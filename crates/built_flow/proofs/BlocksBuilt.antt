-- Statements that are built one behind the other stand on steps, and so do the blocks that they make.
use Rattle.std.proofs.Common.{◌≡◌, ℕ, suc, ◌≤◌, Bool, true, false, inl, inr, List, ◌++◌, refl, sym, ap, ap₂, ◌∙◌, arith, subst}
use Rattle.std.specs.Prelude.{◌||◌, Option, None, Some, if◌then◌else◌}
use Rattle.lua_num.specs.Bytes.{Text}
use Rattle.lua_tree.specs.Joins.{join_statements}
use Rattle.lua_tree.specs.Syntax.{Statements, no_statements, statement, Statement}
use Rattle.recover_expr.specs.Drafts.{Part}
use Rattle.recover_expr.specs.Placing.{Steps}
use Rattle.recover_flow.specs.Asked.{closes}
use Rattle.recover_flow.specs.Lying as lying
use Rattle.recover_flow.specs.Parts.{separated, begins_open, appended}
use Rattle.recover_flow.specs.declared.regions.Exit as region
use Rattle.scheme.specs.Making.{Ahead, Maker, active_count, captured_from, free_from, end_locals}
use Rattle.scheme.specs.Scheme.{statement_made, statements_made}
use Rattle.scheme.specs.Statements.{Loop, end_block, block_part, settle}
use Rattle.same_flow.specs.Laid.{Exit, IsClose, IsBlock, BodyLaid, StatementLaid}
use Rattle.same_flow.specs.SameFlow.{HasPlainParts}
use Rattle.same_flow.specs.Told.{AreTold}
use Rattle.same_flow.proofs.BlocksFollowed.{outer_of, Matches, Grows, close_step, end_plain, end_captured}
use Rattle.same_flow.proofs.Followed.{Run, Follows, nought, LastTo, last_weaker, last_both, length_both, followed, ◌onward◌, ended}
use Rattle.same_flow.proofs.RenamedStatements.{statements_rename}
use Rattle.same_flow.proofs.StatementsFollowed.{body_goes}
use Rattle.built_flow.proofs.CapturesKept.{kept_front, captured_more}
use Rattle.built_flow.proofs.PartsTaken.{AreOf}
use Rattle.built_flow.proofs.StepsTold.{run_of, Here, step_tells, has_close}

abbrev pub as_laid : Option region.Exit → Option Exit
as_laid None = None
as_laid (Some exit) = Some (record { place = exit.place; locals = exit.locals })

-- a block that begins on a step, and the function in the making there
pub record Block (run : Run) : Type 0 where
  pub exit : Option region.Exit
  pub stop : ℕ
  pub loop : Option Loop
  pub maker : Maker
  pub ends : List ℕ
  pub from : ℕ
  pub follows : Follows run nought nought maker ends from
  pub matches : Matches loop (as_laid exit)
  pub lasts : LastTo stop ends

-- its own locals end elsewhere
abbrev pub with_stop : {run : Run} (own_block : Block run) (stop : ℕ) → LastTo stop own_block.ends → Block run
with_stop own_block stop l = record { exit = own_block.exit; stop = stop; loop = own_block.loop; maker = own_block.maker; ends = own_block.ends; from = own_block.from; follows = own_block.follows; matches = own_block.matches; lasts = l }

-- ---- statements that are appended

module _ (code : Steps) (exit : Option Exit) (stop : ℕ) (loop : Option Loop) where
  join_laid : (block : Statements) (s : Statement) (m : Maker) (from mid to : ℕ) → mid ≤ to → BodyLaid code exit stop block loop m from mid →
      StatementLaid code exit stop s loop (statements_made block loop m) mid to → BodyLaid code exit stop (join_statements block (statement 1 false s no_statements)) loop m from to
  join_laid no_statements s m from mid to h own_block whole_standing = (refl, to, omega arith, omega arith, subst (λ p. StatementLaid code exit stop s loop m p to) own_block whole_standing, refl)
  join_laid (statement line semi x rest) s m from mid to h (one, p, a, b, extra_there, rest_lying) whole_standing = (
    one,
    p,
    a,
    omega arith,
    extra_there,
    join_laid rest s (settle (statement_made x 1 loop m)) p mid to h rest_lying
        (subst (λ l. StatementLaid code exit stop s loop (statements_made rest loop (settle (statement_made x l loop m))) mid to) one whole_standing),
  )

  join_made : (block : Statements) (s : Statement) (m : Maker) →
      statements_made (join_statements block (statement 1 false s no_statements)) loop m ≡ settle (statement_made s 1 loop (statements_made block loop m))
  join_made no_statements s m = refl
  join_made (statement line semi x rest) s m = join_made rest s (settle (statement_made x line loop m))

  separated_laid : (block : Statements) (m : Maker) (from to : ℕ) → BodyLaid code exit stop block loop m from to → BodyLaid code exit stop (separated block) loop m from to
  separated_laid no_statements m from to own_block = own_block
  separated_laid (statement line semi x no_statements) m from to own_block = own_block
  separated_laid (statement line semi x (statement next semis y rest)) m from to (one, p, a, b, extra_there, rest_lying) =
      (one, p, a, b, extra_there, separated_laid (statement next semis y rest) (settle (statement_made x 1 loop m)) p to rest_lying)

  separated_made : (block : Statements) (m : Maker) → statements_made (separated block) loop m ≡ statements_made block loop m
  separated_made no_statements m = refl
  separated_made (statement line semi x no_statements) m = refl
  separated_made (statement line semi x (statement next semis y rest)) m = separated_made (statement next semis y rest) (settle (statement_made x line loop m))

  appended_laid : (block : Statements) (s : Statement) (m : Maker) (from mid to : ℕ) → mid ≤ to → BodyLaid code exit stop block loop m from mid →
      StatementLaid code exit stop s loop (statements_made block loop m) mid to → BodyLaid code exit stop (appended block s) loop m from to
  appended_laid block s m from mid to h own_block whole_standing = by (begins_open s)
    where
      by : (first : Bool) → BodyLaid code exit stop (join_statements (if first then separated block else block) (statement 1 false s no_statements)) loop m from to
      by true = join_laid (separated block) s m from mid to h (separated_laid block m from mid own_block) (subst (λ n. StatementLaid code exit stop s loop n mid to) (sym (separated_made block m)) whole_standing)
      by false = join_laid block s m from mid to h own_block whole_standing

  appended_made : (block : Statements) (s : Statement) (m : Maker) → statements_made (appended block s) loop m ≡ settle (statement_made s 1 loop (statements_made block loop m))
  appended_made block s m = by (begins_open s)
    where
      by : (first : Bool) →
          statements_made (join_statements (if first then separated block else block) (statement 1 false s no_statements)) loop m ≡ settle (statement_made s 1 loop (statements_made block loop m))
      by true = join_made (separated block) s m ∙ ap (λ n. settle (statement_made s 1 loop n)) (separated_made block m)
      by false = join_made block s m

either : {a b c d : Bool} → a ≡ b → c ≡ d → (a || c) ≡ (b || d)
either e f = ap₂ (λ x y. x || y) e f

module _ (code : Steps) (params names : List Text) (ahead : Ahead) (told : AreTold code params names ahead) (plain : HasPlainParts code) where
  abbrev run : Run
  run = run_of code params names ahead

  -- statements of a block stand up to a step; whether a local of the block's own is captured
  pub record Built (own_block : Block run) (block : Statements) (at : ℕ) (captured : Bool) (parts : List Part) : Type 0 where
    pub laid : BodyLaid code (as_laid own_block.exit) own_block.stop block own_block.loop own_block.maker own_block.from at
    pub captures : captured_from (active_count own_block.maker) (statements_made block own_block.loop own_block.maker) ≡ captured
    pub left : AreOf code.parts parts
    pub order : own_block.from ≤ at

  -- a statement stands where a block begins
  pub record Stands (own_block : Block run) (s : Statement) (to : ℕ) (captured : Bool) (parts : List Part) : Type 0 where
    pub laid : StatementLaid code (as_laid own_block.exit) own_block.stop s own_block.loop own_block.maker own_block.from to
    pub captures : captured_from (active_count own_block.maker) (statement_made s 1 own_block.loop own_block.maker) ≡ captured
    pub left : AreOf code.parts parts

  pub grown : (own_block : Block run) (block : Statements) (at : ℕ) → at ≤ own_block.stop → BodyLaid code (as_laid own_block.exit) own_block.stop block own_block.loop own_block.maker own_block.from at →
      Grows run (outer_of own_block.loop (as_laid own_block.exit)) own_block.maker own_block.ends own_block.stop own_block.from (statements_made block own_block.loop own_block.maker) at
  grown own_block block at h laid = body_goes run statements_rename plain block (as_laid own_block.exit) own_block.stop own_block.loop own_block.maker own_block.ends own_block.from at own_block.follows own_block.matches own_block.lasts h laid

  -- the block from there on
  abbrev pub onwards : (own_block : Block run) (block : Statements) (at : ℕ) → at ≤ own_block.stop → BodyLaid code (as_laid own_block.exit) own_block.stop block own_block.loop own_block.maker own_block.from at → Block run
  onwards own_block block at h laid =
      let growth = grown own_block block at h laid in
      record {
        exit = own_block.exit;
        stop = own_block.stop;
        loop = own_block.loop;
        maker = statements_made block own_block.loop own_block.maker;
        ends = own_block.ends ++ growth.new;
        from = at;
        follows = followed growth.goes own_block.follows;
        matches = own_block.matches;
        lasts = last_both own_block.stop own_block.ends growth.new own_block.lasts growth.lasts;
      }

  pub append_built : (own_block : Block run) (block : Statements) (s : Statement) (at to : ℕ) (captured more : Bool) (parts others : List Part) → (b : Built own_block block at captured parts) → (h : at ≤ own_block.stop) →
      at ≤ to → to ≤ own_block.stop →
      Stands (onwards own_block block at h b.laid) s to more others → Built own_block (appended block s) to (captured || more) others
  append_built own_block block s at to captured more parts others b h order k whole_standing =
      let around_block = onwards own_block block at h b.laid in
      let exit = as_laid own_block.exit in
      let growth = grown around_block (statement 1 false s no_statements) to k (refl, to, order, omega arith, whole_standing.laid, refl) in
      let made = settle (statement_made s 1 own_block.loop around_block.maker) in
      let front = kept_front run plain around_block.maker made around_block.ends growth.new at to around_block.follows (followed growth.goes around_block.follows) order (last_weaker to own_block.stop around_block.ends k around_block.lasts) in
      let fewer : active_count own_block.maker ≤ active_count around_block.maker = (let a = own_block.follows.count in let c = around_block.follows.count in let d = length_both own_block.ends (grown own_block block at h b.laid).new in omega arith) in
      let before = b.order in
      record {
        laid = appended_laid code exit own_block.stop own_block.loop block s own_block.maker own_block.from at to order b.laid whole_standing.laid;
        captures = ap (captured_from (active_count own_block.maker)) (appended_made code exit own_block.stop own_block.loop block s own_block.maker) ∙ captured_more (active_count own_block.maker) around_block.maker made fewer front ∙ either b.captures whole_standing.captures;
        left = whole_standing.left;
        order = omega arith;
      }

  -- ---- blocks

  pub record BlockStands (own_block : Block run) (block : Statements) (parts : List Part) : Type 0 where
    pub is : IsBlock code own_block.maker.active (active_count own_block.maker) (captured_from (active_count own_block.maker) (statements_made block own_block.loop own_block.maker))
        (λ ends end. BodyLaid code (as_laid own_block.exit) ends block own_block.loop own_block.maker own_block.from end) own_block.from own_block.stop
    pub left : AreOf code.parts parts
    pub behind : Follows run nought nought (block_part 1 (statements_made block own_block.loop) own_block.maker) own_block.ends own_block.stop
    pub kept : (block_part 1 (statements_made block own_block.loop) own_block.maker).active ≡ own_block.maker.active
    pub order : own_block.from ≤ own_block.stop

  abbrev pub ends_here : (own_block : Block run) (block : Statements) → BodyLaid code (as_laid own_block.exit) own_block.stop block own_block.loop own_block.maker own_block.from own_block.stop → own_block.from ≤ own_block.stop → Here run own_block.maker.active own_block.ends own_block.stop
  ends_here own_block block laid h =
      let growth = grown own_block block own_block.stop (omega arith) laid in
      let n = active_count own_block.maker in
      let inside = statements_made block own_block.loop own_block.maker in
      record {
        maker = free_from n (end_locals n inside);
        follows = followed (growth.goes onward ended n growth.new own_block.follows.count growth.ends_by) own_block.follows;
        same = kept_front run plain own_block.maker inside own_block.ends growth.new own_block.from own_block.stop own_block.follows (followed growth.goes own_block.follows) h own_block.lasts;
      }

  closes_block : (own_block : Block run) (end : ℕ) → LastTo (suc end) own_block.ends → own_block.from ≤ end → Here run own_block.maker.active own_block.ends end → lying.ClosesBlock code.steps own_block.from end →
      IsClose code own_block.maker.active end (active_count own_block.maker)
  closes_block own_block end l h standing (inl (step, there, c)) =
      let t = step_tells code params names ahead told own_block.maker.active own_block.ends own_block.from (record { maker = own_block.maker; follows = own_block.follows; same = refl }) (last_weaker (suc own_block.from) (suc end) own_block.ends (omega arith) l) step there in
      has_close code params names ahead told own_block.maker.active own_block.ends end standing l (active_count own_block.maker) (subst (λ n. closes code.steps end n ≡ true) t.base c)
  closes_block own_block end l h standing (inr (step, there, c)) =
      let t = step_tells code params names ahead told own_block.maker.active own_block.ends end standing l step there in
      has_close code params names ahead told own_block.maker.active own_block.ends end standing l (active_count own_block.maker) (subst (λ n. closes code.steps end n ≡ true) t.base c)

  pub block_stands : (own_block : Block run) (captured : Bool) (lies : ℕ → ℕ → Type 0) (block : Statements) (parts : List Part) →
      ((stop : ℕ) (l : LastTo stop own_block.ends) → lies stop stop → Built (with_stop own_block stop l) block stop captured parts) → lying.IsBlock code.steps captured lies own_block.from own_block.stop → BlockStands own_block block parts
  block_stands own_block captured lies block parts built (inl (c, lies_there)) =
      let b = built own_block.stop own_block.lasts lies_there in
      let laid = λ (ends end : ℕ). BodyLaid code (as_laid own_block.exit) ends block own_block.loop own_block.maker own_block.from end in
      let standing = ends_here (with_stop own_block own_block.stop own_block.lasts) block b.laid b.order in
      let whole = end_plain (active_count own_block.maker) (statements_made block own_block.loop own_block.maker) (b.captures ∙ c) in
      record {
        is = subst (λ flag. IsBlock code own_block.maker.active (active_count own_block.maker) flag laid own_block.from own_block.stop) (sym (b.captures ∙ c)) b.laid;
        left = b.left;
        behind = subst (λ n. Follows run nought nought n own_block.ends own_block.stop) whole standing.follows;
        kept = ap (λ (n : Maker). n.active) (sym whole) ∙ standing.same;
        order = b.order;
      }
  block_stands own_block captured lies block parts built (inr (end, t, h, c, closing_there, lies_there)) =
      let l = subst (λ x. LastTo x own_block.ends) t own_block.lasts in
      let until = last_weaker end (suc end) own_block.ends (omega arith) l in
      let b = built end until lies_there in
      let laid = λ (ends end : ℕ). BodyLaid code (as_laid own_block.exit) ends block own_block.loop own_block.maker own_block.from end in
      let standing = ends_here (with_stop own_block end until) block b.laid h in
      let inside = statements_made block own_block.loop own_block.maker in
      let close = closes_block own_block end l h (record { maker = standing.maker; follows = standing.follows; same = standing.same }) closing_there in
      let whole = end_captured (active_count own_block.maker) inside (b.captures ∙ c) in
      record {
        is = subst (λ flag. IsBlock code own_block.maker.active (active_count own_block.maker) flag laid own_block.from own_block.stop) (sym (b.captures ∙ c)) (end, t, h, close, b.laid);
        left = b.left;
        behind = subst (λ x. Follows run nought nought (end_block 1 (active_count own_block.maker) inside) own_block.ends x) (sym t)
            (subst (λ n. Follows run nought nought n own_block.ends (suc end)) whole (followed (close_step standing.maker own_block.ends end (active_count own_block.maker) close l) standing.follows));
        kept = ap (λ (n : Maker). n.active) (sym whole) ∙ standing.same;
        order = omega arith;
      }
