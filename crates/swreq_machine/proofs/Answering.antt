-- From what rules show to what is derivable.
use Rattle.std.proofs.Common.{◌≡◌, ◌↔◌, sym, subst, Bool, true, false, List, [], ◌∷◌}
use Rattle.std.specs.Bool.{Decides, OnTrue}
use Rattle.swreq_valid.specs.swreq_param.declared.ids.ProtoId.{ProtoId}
use Rattle.swreq_valid.specs.swreq_param.Terms.{Term}
use Rattle.swreq_map.specs.swreq_word.declared.symbols.Symbol.{Symbol}
use Rattle.swreq_map.specs.swreq_word.declared.symbols.Symbol.TheVariants.{Proto, Layout}
use Rattle.swreq_map.proofs.swreq_word.Chains.{linked_back}
use Rattle.swreq_valid.specs.swreq_derive.Derivation.{Source, TermFacts, TermRequirement}
use Rattle.swreq_valid.specs.swreq_derive.Derivation.TermRequirement.{Conforms, IsAnyObject, Equals}
use Rattle.swreq_valid.specs.swreq_derive.Derivation.TermStatement.{IsValid, Requires}
use Rattle.swreq_valid.specs.swreq_derive.Derivation.Source.{Written}
use Rattle.swreq_valid.specs.swreq_derive.Facts.{generic_params}
use Rattle.swreq_valid.specs.swreq_derive.WellFormed.{HasValidSides}
use Rattle.swreq_valid.proofs.swreq_derive.Substitution.{valid_sides}
use Rattle.swreq_map.specs.swreq_rule.declared.rules.Rule.{Rule}
use Rattle.swreq_valid.specs.swreq_correspondence.Equations.{AreCongruent}
use Rattle.swreq_valid.specs.swreq_correspondence.Shown.{ShowsValid}
use Rattle.swreq_valid.specs.swreq_correspondence.Symbols.{Symbols, Word, left_side, right_side, word_of}
use Rattle.swreq_valid.proofs.swreq_correspondence.Correspondence.{conforming_words, equal_words, layout_words}
use Rattle.swreq_valid.proofs.swreq_correspondence.Shown.{shown_by_params}
use Rattle.swreq_valid.proofs.swreq_correspondence.Spelling.{spell-append}
use Rattle.swreq_valid.specs.swreq_symbols.Meaning.{facts_of, symbols_of}
use Rattle.swreq_valid.specs.swreq_symbols.Overs.{source_over}
use Rattle.swreq_valid.specs.swreq_symbols.declared.over.Over.TheVariants.{Signature}
use Rattle.swreq_map.specs.Properties.{Vanishes}
use Rattle.swreq_valid.specs.swreq_symbols.Vanishing.{IsLeastBy, Links}
use Rattle.swreq_valid.proofs.swreq_symbols.Symbols.{symbols_law, text_law}
use Rattle.swreq_valid.proofs.swreq_symbols.Walking.{vanishes_same}
use Rattle.swreq_valid.specs.swreq_world.Closed.{IsClosed}
use Rattle.swreq_valid.specs.swreq_world.Worlds.{TextWorld}
use Rattle.swreq_machine.specs.Asked.{IsBehind, IsDerivable}
use Rattle.swreq_machine.specs.Machines.{IsMachineOf, MachineView}
use Rattle.swreq_valid.specs.Rounds.{last_rules}
use Rattle.swreq_machine.proofs.Shown.{list_derivable, list_shown}
use Rattle.swreq_valid.proofs.Linking.{linked_by_least}

pub on_true : {P Q : Type 0} (b : Bool) → (P → Q) → OnTrue b P → OnTrue b Q
on_true true f h = f h
on_true false f h = tt

module _ (w : TextWorld) (closed : IsClosed w) (machine : MachineView) (list : List TermRequirement) (is : IsMachineOf w list machine) where
  abbrev m : Symbols
  m = symbols_of w.lexicon

  abbrev f : TermFacts
  f = facts_of w

  abbrev s : Source
  s = Written (generic_params machine.params) list

  abbrev rules : List Rule
  rules = last_rules machine.rounds

  -- the rules show it valid
  abbrev Shown : Term → Type 0
  Shown t = ShowsValid m f (source_over (Signature machine.params)) (Links rules) t

  pub shown_derivable : (t : Term) → Shown t → IsDerivable w machine list (IsValid t)
  shown_derivable t h =
      list_derivable w closed machine list is t (shown_by_params m f (generic_params machine.params) [] list (Links rules) t h)

  pub derivable_shown : (t : Term) → IsDerivable w machine list (IsValid t) → Shown t
  derivable_shown t e =
      shown_by_params m f (generic_params machine.params) list [] (Links rules) t (list_shown w closed machine list is t e)

  pub valid_answer : (t : Term) (r : Bool) → Decides r (Shown t) → Decides r (IsDerivable w machine list (IsValid t))
  valid_answer t r d = ((λ h. shown_derivable t (d.0 h)), λ e. d.1 (derivable_shown t e))

  -- of valid type parameters it is derivable where the two sides of its equation are linked
  pub by_sides : (r : TermRequirement) → HasValidSides f s r
      → IsDerivable w machine list (Requires r) ↔ Links rules (left_side m s r) (right_side m s r)
  by_sides r v = let both = is.rules (left_side m s r) (right_side m s r) in let law = congruent r v in
      ((λ e. both.1 (law.0 e)), λ l. law.1 (both.0 l))
    where
      congruent : (r : TermRequirement) → HasValidSides f s r
          → IsDerivable w machine list (Requires r) ↔ AreCongruent m f s (left_side m s r) (right_side m s r)
      congruent (Conforms t p) v = conforming_words m f (symbols_law w closed) s (text_law w closed) is.in_text t p v
      congruent (IsAnyObject t) v = layout_words m f (symbols_law w closed) s (text_law w closed) is.in_text t v
      congruent (Equals t u) v = equal_words m f (symbols_law w closed) s (text_law w closed) is.in_text t u v.0 v.1

  pub conforms_answer : (t : Term) (p : ProtoId) (r : Bool) → Decides r (IsBehind w machine t (Proto p.rank))
      → Decides r (IsDerivable w machine list (Requires (Conforms t p)))
  conforms_answer t p r d = (
    (λ h. let b = d.0 h in
        (by_sides (Conforms t p) (shown_derivable t b.0)).1
        (subst (λ z. Links rules z (word_of m s t)) (spell-append m s t [] (Proto p.rank ∷ [])) b.1)),
    λ e.
        let v = valid_sides f s (Conforms t p) e in
        d.1 (
          derivable_shown t v,
          subst (λ z. Links rules z (word_of m s t)) (sym (spell-append m s t [] (Proto p.rank ∷ []))) ((by_sides (Conforms t p) v).0 e),
        ),
  )

  pub layout_answer : (t : Term) (r : Bool) → Decides r (IsBehind w machine t Layout)
      → Decides r (IsDerivable w machine list (Requires (IsAnyObject t)))
  layout_answer t r d = (
    (λ h. let b = d.0 h in
        (by_sides (IsAnyObject t) (shown_derivable t b.0)).1
        (subst (λ z. Links rules z (word_of m s t)) (spell-append m s t [] (Layout ∷ [])) b.1)),
    λ e.
        let v = valid_sides f s (IsAnyObject t) e in
        d.1 (
          derivable_shown t v,
          subst (λ z. Links rules z (word_of m s t)) (sym (spell-append m s t [] (Layout ∷ []))) ((by_sides (IsAnyObject t) v).0 e),
        ),
  )

  -- the least words of the two sides tell
  pub equal_answer : (t u : Term) (a b : Word) (r : Bool) → Shown t → Shown u → IsLeastBy rules a → IsLeastBy rules b
      → Links rules (word_of m s t) a → Links rules (word_of m s u) b → Decides r (a ≡ b)
      → Decides r (IsDerivable w machine list (Requires (Equals t u)))
  equal_answer t u a b r h k l n p q d =
      let law = by_sides (Equals t u) (shown_derivable t h, shown_derivable u k) in
      let links = linked_by_least rules (word_of m s t) (word_of m s u) a b r p q l n d in
      ((λ e. law.1 (links.0 e)), λ e. links.1 (law.0 e))

-- what the test after the least word tells
pub behind_answer : (w : TextWorld) (machine : MachineView) (t : Term) (x : Symbol) (v seen : Word) (r : Bool)
    → ShowsValid (symbols_of w.lexicon) (facts_of w) (source_over (Signature machine.params)) (Links (last_rules machine.rounds)) t
    → Links (last_rules machine.rounds) (word_of (symbols_of w.lexicon) (source_over (Signature machine.params)) t) v → seen ≡ v
    → Decides r (Vanishes (last_rules machine.rounds) seen x) → Decides r (IsBehind w machine t x)
behind_answer w machine t x v seen r h l e d =
    let rules = last_rules machine.rounds in
    let k : Decides r (Vanishes rules v x) = subst (λ z. Decides r (Vanishes rules z x)) e d in
    let u = word_of (symbols_of w.lexicon) (source_over (Signature machine.params)) t in (
      (λ q. (h, vanishes_same rules v u x (linked_back l) (k.0 q))),
      λ q. k.1 (vanishes_same rules u v x l q.1),
    )
