-- Where the words of an assignment stand: behind what is evaluated of its targets the values, and for each target the word of its store, the last one first.
use Rattle.std.proofs.Common.{◌≡◌, ◌∙◌, ℕ, suc, ◌+◌, ◌<◌, List, [], ◌∷◌, ◌++◌, length, refl, sym, ap, ap₂, subst, subst₂, arith}
use Rattle.lua_tree.specs.Syntax as syntax
use Rattle.lua_tree.specs.Syntax.{Expression, Expressions, no_expressions}
use Rattle.opcode.specs.declared.op.Op.{Op}
use Rattle.proto.specs.Constants.{constant_number}
use Rattle.proto.specs.declared.parts.Constant.{Constant}
use Rattle.core_expr.specs.Values.{OperandValue, Values}
use Rattle.scheme.specs.Expressions.{Target, name_target, part_target}
use Rattle.scheme.specs.Making.{Ahead, in_globals, in_register, in_upvalue}
use Rattle.scheme.specs.declared.making.Active.{Active}
use Rattle.scheme.specs.declared.making.Piece.{Piece}
use Rattle.scheme_stands.specs.Relation.{all_related, related}
use Rattle.scheme_stands.specs.Statements.{EachStoredAt, StoreAt, StoreRegisterAt, StoredFromAt}
use Rattle.scheme_stands.specs.Words.{Fn, Same, Spot, WordAt}
use Rattle.reads_back.specs.Acted.{EndWithOperand}
use Rattle.reads_back.specs.Cores.{AllHaveCores, AreCores, HasCore, IsOperand}
use Rattle.reads_back.proofs.HeldOperands.{in_word}
use Rattle.reads_back.proofs.LastOfList.{FrontAndLast, last_alone, last_behind}
use Rattle.reads_back.proofs.StoredTargets.{Destination, StoreWordAt, StoreWordsAt, to_global, to_local, to_part, to_upvalue}
use Rattle.reads_back.proofs.TargetsCome.{AllFit, AreSaid, Fits, IsSaid}

-- ---- where a target goes

module _ (g : Fn) where
  -- as the words of any store say it
  abbrev destination_of : Target → Destination
  destination_of (name_target text (in_register x)) = to_local x
  destination_of (name_target text (in_upvalue slot)) = to_upvalue slot
  destination_of (name_target text in_globals) = to_global (constant_number (Constant.Text text) g.constants)
  destination_of (part_target on key on_local key_local) = to_part (in_word 0) (in_word 0) on key

  abbrev pub destinations_of : List Target → List Destination
  destinations_of [] = []
  destinations_of (place ∷ places) = destination_of place ∷ destinations_of places

  pub is_said : (place : Target) → IsSaid g place (destination_of place)
  is_said (name_target text (in_register x)) r p q at = at
  is_said (name_target text (in_upvalue slot)) r p q at = at
  is_said (name_target text in_globals) r p q at = subst (λ (number : ℕ). WordAt g (Piece.Abx Op.SetGlobal r number) p q) (sym at.first) at.word
  is_said (part_target on key on_local key_local) r p q at = at

  fits : (place : Target) → Fits place (destination_of place)
  fits (name_target text (in_register x)) = refl
  fits (name_target text (in_upvalue slot)) = (refl, λ r same. cc)
  fits (name_target text in_globals) = (refl, λ r same. cc)
  fits (part_target on key on_local key_local) = refl

  pub all_said : (places : List Target) → AreSaid g places (destinations_of places)
  all_said [] = tt
  all_said (place ∷ places) = (is_said place, all_said places)

  pub all_fit : (places : List Target) → AllFit places (destinations_of places)
  all_fit [] = tt
  all_fit (place ∷ places) = (fits place, all_fit places)

-- ---- the words

pub same_spot : {p q : Spot} → Same p q → q ≡ p
same_spot {p} {q} same =
    ap₂ (λ (pc : ℕ) (ahead : Ahead). record { pc = pc; ahead = ahead; functions = q.functions }) same.pc same.ahead
    ∙ ap (λ (made : ℕ). record { pc = p.pc; ahead = p.ahead; functions = made }) same.functions

-- every target gets what is in its register, from r on: the last one first, then the others
pub record AllStored (g : Fn) (ds : List Destination) (r : ℕ) (p q : Spot) : Type 0 where
  pub front : List Destination
  pub last : Destination
  pub is : ds ≡ front ++ last ∷ []
  pub mid : Spot
  pub first_at : StoreWordAt g last (r + length front) p mid
  pub others_at : StoreWordsAt g r front mid q

-- The last value goes to its target by its own words. The values before it stand in registers from the first free one on, and the words behind take them to the other targets.
pub record EachAt (g : Fn) (active : List Active) (ds : List Destination) (es : Expressions) (free : ℕ) (p q : Spot) : Type 0 where
  pub front : Expressions
  pub last : Expression
  pub place : Target
  pub to : Destination
  pub vs : List Destination
  pub is : ds ≡ vs ++ to ∷ []
  pub said : IsSaid g place to
  pub fits : Fits place to
  pub mid : Spot
  pub stored : Spot
  pub parts : FrontAndLast g active es free p mid front last
  pub last_at : StoreAt g place (related g last) active (free + length (all_related g front)) mid stored
  pub others_at : StoreWordsAt g free vs stored q
  pub counts : length (all_related g front) ≡ length vs
  pub operand : (before between behind : ℕ) (values : Values) (o : OperandValue) → AreCores g active front before between values → IsOperand g active last between behind o → EndWithOperand g active es o before behind values

-- a value and its store around the others
each_more : (g : Fn) (active : List Active) (place : Target) (d : Destination) → IsSaid g place d → (e e2 : Expression) (es : Expressions) → HasCore e → (free : ℕ) (p mid stored q : Spot) → free < g.size → (related g e).to_reg active free free p mid → StoreRegisterAt g place free stored q →
    (ds : List Destination) → EachAt g active ds (syntax.expression e2 es) (free + 1) mid stored → EachAt g active (d ∷ ds) (syntax.expression e (syntax.expression e2 es)) free p q
each_more g active place d said e e2 es has free p mid stored q room first at ds rest =
    let next : free + 1 + length (all_related g rest.front) ≡ free + suc (length (all_related g rest.front)) = omega arith in
    let above : free + 1 ≡ suc free = omega arith in
    record {
      front = syntax.expression e rest.front;
      last = rest.last;
      place = rest.place;
      to = rest.to;
      vs = d ∷ rest.vs;
      is = ap (λ (ds : List Destination). d ∷ ds) rest.is;
      said = rest.said;
      fits = rest.fits;
      mid = rest.mid;
      stored = rest.stored;
      parts = last_behind g active e has free p (syntax.expression e2 es) rest.front rest.last mid rest.mid room first rest.parts;
      last_at = subst (λ (free : ℕ). StoreAt g rest.place (related g rest.last) active free rest.mid rest.stored) next rest.last_at;
      others_at = record { mid = stored; first_at = subst (λ (r : ℕ). StoreWordsAt g r rest.vs rest.stored stored) above rest.others_at; second_at = said free stored q at };
      counts = ap suc rest.counts;
      operand = λ before between behind values o are is. let on = are.1 in (are.0, (on.0, on.1, on.2, rest.operand are.0 between behind on.1 o on.3 is, on.4));
    }

module _ (g : Fn) where
  pub all_stored : (places : List Target) (ds : List Destination) → AreSaid g places ds → 0 < length places → (r : ℕ) (p q : Spot) → StoredFromAt g r places p q → AllStored g ds r p q
  all_stored (place ∷ []) (d ∷ []) said some r p q at =
      let here : r ≡ r + 0 = omega arith in
      record {
        front = [];
        last = d;
        is = refl;
        mid = q;
        first_at = subst₂ (λ (r : ℕ) (p : Spot). StoreWordAt g d r p q) here (same_spot at.first_at) (said.0 r at.mid q at.second_at);
        others_at = record { pc = refl; ahead = refl; functions = refl };
      }
  all_stored (place ∷ other ∷ places) (d ∷ b ∷ ds) said some r p q at =
      let rest = all_stored (other ∷ places) (b ∷ ds) said.1 (omega arith) (suc r) p at.mid at.first_at in
      let next : suc r + length rest.front ≡ r + suc (length rest.front) = omega arith in
      record {
        front = d ∷ rest.front;
        last = rest.last;
        is = ap (λ (ds : List Destination). d ∷ ds) rest.is;
        mid = rest.mid;
        first_at = subst (λ (r : ℕ). StoreWordAt g rest.last r p rest.mid) next rest.first_at;
        others_at = record { mid = at.mid; first_at = rest.others_at; second_at = said.0 r at.mid q at.second_at };
      }
  all_stored [] ds said some r p q at = absurd (omega (arith, some))
  all_stored (place ∷ places) [] said some r p q at = absurd said
  all_stored (place ∷ []) (d ∷ b ∷ ds) said some r p q at = absurd said.1
  all_stored (place ∷ other ∷ places) (d ∷ []) said some r p q at = absurd said.1

  pub each_at : (active : List Active) (places : List Target) (ds : List Destination) (es : Expressions) → AreSaid g places ds → AllFit places ds → AllHaveCores es → 0 < length places → length (all_related g es) ≡ length places → (free : ℕ) (p q : Spot) →
      EachStoredAt g places (all_related g es) active free p q → EachAt g active ds es free p q
  each_at active (place ∷ []) (d ∷ []) (syntax.expression e no_expressions) said fit has some same free p q at =
      let here : free ≡ free + 0 = omega arith in
      record {
        front = no_expressions;
        last = e;
        place = place;
        to = d;
        vs = [];
        is = refl;
        said = said.0;
        fits = fit.0;
        mid = p;
        stored = q;
        parts = last_alone g active e has.0 free p;
        last_at = subst (λ (free : ℕ). StoreAt g place (related g e) active free p q) here at;
        others_at = record { pc = refl; ahead = refl; functions = refl };
        counts = refl;
        operand = λ before between behind values o are is. (are.1, subst (λ (before : ℕ). IsOperand g active e before behind o) are.0 is);
      }
  each_at active (place ∷ other ∷ places) (d ∷ b ∷ ds) (syntax.expression e (syntax.expression e2 es)) said fit has some same free p q at =
      let words = at.others in
      each_more g active place d said.0 e e2 es has.0 free p at.mid words.mid q at.room at.first words.second_at (b ∷ ds)
      (each_at active (other ∷ places) (b ∷ ds) (syntax.expression e2 es) said.1 fit.1 has.1 (omega arith) (omega (arith, same)) (free + 1) at.mid words.mid words.first_at)
  each_at active [] ds es said fit has some same free p q at = absurd (omega (arith, some))
  each_at active (place ∷ places) [] es said fit has some same free p q at = absurd said
  each_at active (place ∷ []) (d ∷ b ∷ ds) es said fit has some same free p q at = absurd said.1
  each_at active (place ∷ other ∷ places) (d ∷ []) es said fit has some same free p q at = absurd said.1
  each_at active (place ∷ places) ds no_expressions said fit has some same free p q at = absurd (omega (arith, same))
  each_at active (place ∷ []) ds (syntax.expression e (syntax.expression e2 es)) said fit has some same free p q at = absurd (omega (arith, same))
  each_at active (place ∷ other ∷ places) ds (syntax.expression e no_expressions) said fit has some same free p q at = absurd (omega (arith, same))
