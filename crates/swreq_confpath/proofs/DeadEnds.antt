-- Places whose words have parted for good from the word of the place that is sought.
use Rattle.std.proofs.Common.{◌≡◌, ℕ, List, [], ◌∷◌, ◌++◌, sym, subst, ◌∙◌, append_assoc}
use Rattle.std.proofs.lemmas.List.{append-nil}
use Rattle.swreq_machine.specs.swreq_param.declared.ids.ProtoId.{ProtoId}
use Rattle.swreq_machine.specs.swreq_param.Terms.{Term}
use Rattle.swreq_machine.specs.swreq_derive.Derivation.{Source, for_self}
use Rattle.swreq_machine.specs.swreq_derive.Derivation.TermRequirement.{Equals}
use Rattle.swreq_machine.proofs.swreq_derive.Substitution.{valid_sides}
use Rattle.swreq_print.proofs.swreq_word.Chains.{linked_back, linked_on}
use Rattle.swreq_print.specs.swreq_rule.declared.rules.Rule.{Rule}
use Rattle.swreq_print.proofs.swreq_rule.Context.{Linked-after}
use Rattle.swreq_machine.specs.swreq_correspondence.Symbols.{Symbols, Word, steps, word_of}
use Rattle.swreq_machine.proofs.swreq_correspondence.Spelling.{spell-append, spell-for_self}
use Rattle.swreq_machine.specs.swreq_symbols.Meaning.{symbols_of}
use Rattle.swreq_machine.specs.swreq_symbols.Vanishing.{Links}
use Rattle.swreq_machine.specs.swreq_valid.Rounds.{last_rules}
use Rattle.swreq_machine.proofs.Answering.{by_sides}
use Rattle.swreq_confpath.specs.declared.places.Place.{Place}
use Rattle.swreq_confpath.specs.declared.places.Place.TheVariants as places
use Rattle.swreq_confpath.specs.declared.sought.Sought.{Sought}
use Rattle.swreq_confpath.specs.Routes.{TermPlace, AreAlike, LeadTo}
use Rattle.swreq_confpath.specs.Routes.TermPlace.{Start, Conformance}
use Rattle.swreq_confpath.specs.Searches.{HasParted, IsKnown, StandsFor, facts_in, list_in, params_in, sought_in, source_in, world_in}
use Rattle.swreq_confpath.specs.Tried.{IsDeadEnd}
use Rattle.swreq_machine.specs.swreq_symbols.Texts.{term_of}
use Rattle.swreq_machine.proofs.swreq_symbols.OfTexts.{text_over}
use Rattle.swreq_confpath.proofs.Spared.{no_word, stays_apart}

module _ (s : Sought) where
  abbrev m : Symbols
  m = symbols_of s.text.world.now.lexicon

  abbrev S : Source
  S = source_in s

  abbrev rules : List Rule
  rules = last_rules s.machine.now.rounds

  -- The place is a conformance, and the rules link the word of its subject to this one with more after it.
  record IsBehind (w : Word) (e : TermPlace) : Type 0 where
    pub subject : Term
    pub proto : ProtoId
    pub tail : Word
    pub is : e ≡ Conformance subject proto
    pub links : Links rules (word_of m S subject) (w ++ tail)

  -- where numbers lead on to is after the word of the place from which they do
  behind : (ns : List ℕ) (u : Term) (q : ProtoId) (w : Word) (e : TermPlace) → Links rules (word_of m S u) w
      → LeadTo (facts_in s) (list_in s) (Conformance u q) ns e → IsBehind w e
  behind [] u q w e l h = record {
    subject = u;
    proto = q;
    tail = [];
    is = sym h;
    links = subst (Links rules (word_of m S u)) (sym (append-nil w)) l;
  }
  behind (n ∷ ns) u q w e l h =
      let t = h.1.0 in
      let spelled : word_of m S u ++ steps m t [] ≡ word_of m S (for_self u t) =
      spell-append m S u [] (steps m t []) ∙ sym (spell-for_self m S u t []) in
      let next : Links rules (word_of m S (for_self u t)) (w ++ steps m t []) =
      subst (λ z. Links rules z (w ++ steps m t [])) spelled (Linked-after (steps m t []) l) in
      let rest = behind ns (for_self u t) h.1.1 (w ++ steps m t []) e next
      (subst (λ z. LeadTo (facts_in s) (list_in s) z ns e) h.1.3 h.2) in
      record {
        subject = rest.subject;
        proto = rest.proto;
        tail = steps m t [] ++ rest.tail;
        is = rest.is;
        links = subst (Links rules (word_of m S rest.subject)) (append_assoc w (steps m t []) rest.tail) rest.links;
      }

  module _ (known : IsKnown s) where
    -- what is like the place that is sought has a word that the rules link to its word
    links_sought : (t : Term) (p : ProtoId) → AreAlike (facts_in s) S (Conformance t p) (sought_in s)
        → Links rules (word_of m S t) (word_of m S (term_of s.text s.subject))
    links_sought t p like =
        let u = term_of s.text s.subject in
        (by_sides (world_in s) (text_over s.text).closed s.machine.now (list_in s) known.machine (Equals t u)
        (valid_sides (facts_in s) S (Equals t u) like.1)).0 like.1

    -- From a place that has parted no numbers lead on to the place that is sought.
    pub dead_end : (target place : Place) (d : TermPlace) → StandsFor s target (sought_in s) → StandsFor s place d
        → HasParted s target place
        → IsDeadEnd (facts_in s) (params_in s) (list_in s) (sought_in s) d
    dead_end target places.Start d h k parted ns e leads like = no_word parted.front parted.rest parted.spared parted.cut
    dead_end places.Start (places.Conformance w q) d h k parted ns e leads like = absurd h
    dead_end (places.Conformance v r) (places.Conformance w q) Start h k parted ns e leads like = absurd k
    dead_end (places.Conformance v r) (places.Conformance w q) (Conformance t p) h k parted ns e leads like =
        let b = behind ns t p w e k.1.1 leads in
        let linked = links_sought b.subject b.proto (subst (λ z. AreAlike (facts_in s) S z (sought_in s)) b.is like) in
        stays_apart rules known.complete v w b.tail h.1.0 k.1.0 parted (linked_on (linked_back b.links) (linked_on linked h.1.1))
