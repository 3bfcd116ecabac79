-- What lines are derived from, over a table that has grown.
use Rattle.std.proofs.Common.{◌≡◌, ◌∙◌, ℕ, ◌<◌, List, [], ◌∷◌, Contains, Some, ap, arith, length, map, refl, slice_get, subst, sym}
use Rattle.std.proofs.lemmas.List.{length-map}
use Rattle.swreq_machine.proofs.swreq_lemmas.{Elements.{contains_get, get_contains}, Members.{contains_of_map, first_member, later_member}}
use Rattle.swreq_machine.proofs.{swreq_lowering.Growing.{requirement_stays}, swreq_symbols.Growing.{text_stays, world_stays}}
use Rattle.swreq_machine.proofs.swreq_symbols.OfText.{are_facts, facts_are, requirements_placed, signature_is}
use Rattle.swreq_machine.specs.swreq_param.{declared.ids.{ProtoId.{ProtoId}, ParamId.{ParamId}}, Tables.{Extends}, Terms.{Term}}
use Rattle.swreq_machine.specs.swreq_derive.declared.{lines.Line.{Line}, requirements.Requirement.{Requirement, TheVariants.{Conf, Layout}}}
use Rattle.swreq_machine.specs.swreq_derive.{declared.requirements.Requirement.TheVariants.{Same}, Derivation.{TermFacts, TermRequirement}}
use Rattle.swreq_machine.specs.swreq_derive.{Derivation.TermRequirement.{Conforms}, Facts.{IdFacts, IsRequirementOver, generic_params}}
use Rattle.swreq_machine.specs.swreq_derive.{Facts.{requirement_of}, Instances.{IsDerivation}, Lines.{AreDerived, AreLinesOf, line_of}}
use Rattle.swreq_machine.specs.swreq_lowering.{declared.ids.FuncId.{FuncId}, Requirements.{PlacedRequirement}}
use Rattle.swreq_machine.specs.{swreq_correspondence.Symbols.{Symbols, left_side, right_side}, swreq_lexicon.Views.{LexiconView}}
use Rattle.swreq_machine.specs.swreq_symbols.{Known.{IsRequirementIn, IsTextOver}, Meaning.{symbols_of}, Overs.{source_by}}
use Rattle.swreq_machine.specs.{swreq_valid.{Flags.{chosen}, Protocols.{ProtocolsView}}, swreq_world.ByTable.{IsOverTable, signature_by}}
use Rattle.swreq_machine.specs.swreq_world.{ByTable.{world_by}, FactsAt.{facts_at, facts_of, written_list}, Worlds.{IdWorld, SignatureOver}}
use Rattle.swreq_machine.specs.swreq_world.Worlds.{TextWorld, signature_at}
use Rattle.swreq_derivation.specs.UnderWay.{AllIn, AreIdsIn, Assumptions, ContinuesFrom, IsDerivedFrom}
use Rattle.swreq_derivation.specs.declared.derivation.Derivation.{Derivation}
use Rattle.swreq_births.specs.{declared.history.{History.{History}, Equation.{Equation}, System.{System}}, Systems.{FitsHistory}}
use Rattle.swreq_explain.specs.{declared.{numbered.Numbered.{Numbered}, history.TextHistory.{TextHistory}}, Histories.{IsHistoryFor}}
use Rattle.swreq_explain.specs.{Histories.{IsTextHistory, assumptions_of, protocols_origin}, Numbering.{AreEquationsOf, AreNumberedIn}}
use Rattle.swreq_explain.specs.{Numbering.{IsEquationOf}, Rounds.{IsSystemOf}, Uses.{Origin}, Written.{AreWritten, IsAssumptionsOver}}
use Rattle.swreq_explain.proofs.{NumberingLemmas.{protocols_in_text, required_in_text}, RoundLemmas.{chosen_of}, TextLines.{lines_are_of}}

module _ (old new : List Term) (w : IdWorld) (f : FuncId) where
  list_over : (terms : List Term) → written_list (signature_at (world_by terms w) f) ≡ map (requirement_of terms) (facts_at w f).written
  list_over terms = ap written_list (signature_is w terms f) ∙ sym (requirements_placed terms (signature_at w f).requirements)

  pub assumptions_over : Extends old new → IsOverTable old w → IsAssumptionsOver new (facts_at w f) (assumptions_of (world_by old w) f)
  assumptions_over more over =
      let same : world_by new w ≡ world_by old w = world_stays old new more w over in
      record {
        facts = sym (facts_are w new f ∙ ap facts_of same);
        params = ap (λ (g : SignatureOver PlacedRequirement). generic_params g.params) (signature_is w old f);
        written = sym (ap (λ (z : TextWorld). written_list (signature_at z f)) same) ∙ list_over new;
      }

module _ (terms : List Term) (w : IdWorld) (f : FuncId) (text : IsTextOver terms w) (signature : f.place < length w.signatures) where
  listed : (t : Term) (p : ProtoId) → Contains (map (requirement_of terms) (facts_at w f).written) (Conforms t p)
      → p.rank < length w.lexicon.protocols
  listed t p c =
      let (r, in_list, same) = contains_of_map (requirement_of terms) (facts_at w f).written (Conforms t p) c in
      by r ((are_facts w terms text f signature).list r in_list) same
    where
      by : (r : Requirement) → IsRequirementOver terms (facts_at w f) r → Conforms t p ≡ requirement_of terms r
          → p.rank < length w.lexicon.protocols
      by (Conf u q) h e = let same : p ≡ q = cc in subst (λ (z : ProtoId). z.rank < length w.lexicon.protocols) (sym same) h.1
      by (Layout u) h e = cc
      by (Same u v) h e = cc

  pub lines_of_text : (ls : List Line) → AreDerived terms (facts_at w f) ls
      → ((k : ℕ) (l : Line) → slice_get ls k ≡ Some l → AreIdsIn terms l.statement)
      → AreLinesOf terms (facts_at w f) ls
  lines_of_text ls d ids =
      let m : IdFacts = facts_at w f in
      lines_are_of (world_by terms w) text.closed m refl refl (generic_params m.params)
      (map (requirement_of terms) m.written) listed terms ls
      (subst (λ (z : TermFacts). IsDerivation z (generic_params m.params) (map (requirement_of terms) m.written) (map (line_of terms) ls))
      (facts_are w terms f) d) ids

-- What is written by a history for a signature is a derivation over its facts, and each line is one of the text.
module _ (old new : List Term) (w : IdWorld) (f : FuncId) (b : History) (ls : List Line) (text : IsTextOver old w)
    (is : IsHistoryFor (world_by old w) f b) (written : AreWritten old new b ls) where
  pub written_derived : AreDerived new (facts_at w f) ls
  written_derived = written.derived (assumptions_of (world_by old w) f) (facts_at w f) is.fits
      (assumptions_over old new w f written.extends text.table)

  pub written_lines : AreLinesOf new (facts_at w f) ls
  written_lines =
      let e = length-map w.signatures (signature_by old) in
      let l = is.signature in
      lines_of_text new w f (text_stays old new written.extends w text) (omega (arith, l, e)) ls written_derived written.ids

-- The history still answers for the signature over a table that has grown.
pub history_stays : (old new : List Term) (w : IdWorld) (f : FuncId) (b : History) → Extends old new → IsOverTable old w
    → IsHistoryFor (world_by old w) f b
    → IsHistoryFor (world_by new w) f b
history_stays old new w f b more over h = subst (λ (z : TextWorld). IsHistoryFor z f b) (sym (world_stays old new more w over)) h

-- ---- the history of a text

module _ (old new : List Term) (more : Extends old new) where
  module _ (m : Symbols) (x : LexiconView) where
    equation_stays : (n : Numbered) (shown : ℕ) (e : Equation) → IsRequirementIn old x n.requirement → IsEquationOf m old n shown e
        → IsEquationOf m new n shown e
    equation_stays n shown e known is =
        let same : requirement_of old n.requirement ≡ requirement_of new n.requirement
        = sym (requirement_stays old new n.requirement more known.0) in
        record {
          left = is.left ∙ ap (left_side m (source_by n.owner)) same;
          right = is.right ∙ ap (right_side m (source_by n.owner)) same;
          reason = record { requirement = is.reason.requirement; stands = is.reason.stands ∙ same; is = is.reason.is };
        }

    equations_stay : (c : Origin) (k : ℕ) (xs : List Numbered) (es : List Equation) → AreNumberedIn old x xs
        → AreEquationsOf m old c k xs es → AreEquationsOf m new c k xs es
    equations_stay c k [] [] known h = h
    equations_stay c k [] (e ∷ es) known h = absurd h
    equations_stay c k (n ∷ xs) [] known h = absurd h
    equations_stay c k (n ∷ xs) (e ∷ es) known ((shown, by, is), rest) = (
      (shown, by, equation_stays n shown e (known n (first_member n xs)) is),
      equations_stay c k xs es (λ q i. known q (later_member n q xs i)) rest,
    )

    system_stays : (o : Origin) (k : ℕ) (v : System) → AreNumberedIn old x o.all → IsSystemOf m old o k v → IsSystemOf m new o k v
    system_stays o k v known is = record {
      round = is.round;
      there = is.there;
      base = is.base;
      below = is.below;
      rules = is.rules;
      few = is.few;
      given = record {
        basic = is.given.basic;
        more = is.given.more;
        given_are = is.given.given_are;
        sides = is.given.sides;
        are_basic = is.given.are_basic;
        are_of = equations_stay o k used is.given.more known_used is.given.are_of;
      };
    }
      where
        used : List Numbered
        used = chosen o.all is.round.used

        known_used : AreNumberedIn old x used
        known_used n i =
            let (j, at) = contains_get used n i in
            let (place, there) = chosen_of o.all is.round.used j n at in
            known n (get_contains o.all place n there)

  -- What all histories of a text have in common stays so over a table that has grown.
  pub text_history_stays : (w : IdWorld) (p : ProtocolsView) (b : TextHistory) → IsTextOver old w → IsTextHistory old w p b → IsTextHistory
      new w p b
  text_history_stays w p b text h =
      let o : Origin = protocols_origin w p.rounds in
      let known : AreNumberedIn old w.lexicon o.all = protocols_in_text old w text w.lexicon.written_order in
      record {
        world = h.world;
        self_id = λ q k t o at.
            let stays = more.stands t (required_in_text old w text q k _ at).0 in
            let is = h.self_id q k t o at in ((λ e. is.0 (sym stays ∙ e)), λ e. stays ∙ is.1 e);
        systems = record {
          count_is = h.systems.count_is;
          each = λ k v e. system_stays (symbols_of w.lexicon) w.lexicon o k v known (h.systems.each k v e);
        };
      }

-- What is written in a derivation that had no lines over the old table, and now has the new one, is written over the new table.
pub written_over : (old new : List Term) (s0 s : Derivation) (history : History) (ls : List Line) → s0 ≡ record { table = old; lines = [] }
    → new ≡ s.table → ContinuesFrom (FitsHistory history) s0 s
    → ((m : IdFacts) → AreDerived s.table m s.lines → AreDerived s.table m ls) → AllIn s.table ls → AreWritten old new history ls
written_over old new s0 s history ls begin end continues part ids =
    subst (λ (z : List Term). AreWritten old z history ls) (sym end) (record {
      extends = subst (λ (v : Derivation). Extends v.table s.table) begin continues.grows.extends;
      derived = λ b m fits over. part m (of b m over (continues.derives b fits (first b)));
      ids = ids;
    })
  where
    first : (b : Assumptions) → IsDerivedFrom b s0
    first b = subst (IsDerivedFrom b) (sym begin) (λ k l e. cc)

    of : (b : Assumptions) (m : IdFacts) → IsAssumptionsOver s.table m b → IsDerivedFrom b s → AreDerived s.table m s.lines
    of b m over d =
        subst (λ (z : TermFacts).
        IsDerivation z (generic_params m.params) (map (requirement_of s.table) m.written) (map (line_of s.table) s.lines)) over.facts
        (subst (λ (z : List ParamId). IsDerivation b.facts z (map (requirement_of s.table) m.written) (map (line_of s.table) s.lines))
        over.params
        (subst (λ (z : List TermRequirement). IsDerivation b.facts b.params z (map (line_of s.table) s.lines)) over.written d))
