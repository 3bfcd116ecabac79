-- Places of the code, and the places over type parameters for which they stand.
use Rattle.std.proofs.Common.{◌≡◌, ℕ, suc, ◌+◌, inl, inr, List, [], ◌∷◌, ◌++◌, map, take, slice_get, None, Some, Result, Ok, Err, IfOk, refl, sym, ap, ap₂, subst, ◌∙◌, append_assoc, arith}
use Rattle.std.proofs.lemmas.Result.{IfOk-weaker}
use Rattle.swreq_machine.specs.swreq_param.declared.ids.ProtoId.{ProtoId}
use Rattle.swreq_machine.specs.swreq_param.Terms.{Term, head}
use Rattle.swreq_machine.specs.swreq_derive.Derivation.{Derivable, Source, TermFacts, TermRequirement, for_self}
use Rattle.swreq_machine.specs.swreq_derive.Derivation.Source.{SelfOf}
use Rattle.swreq_machine.specs.swreq_derive.Derivation.TermRequirement.{Conforms, Equals, IsAnyObject}
use Rattle.swreq_machine.specs.swreq_derive.Derivation.TermStatement.{IsValid, Requires}
use Rattle.swreq_machine.specs.swreq_derive.Facts.{requirement_of}
use Rattle.swreq_machine.proofs.swreq_derive.Substitution.{valid_sides}
use Rattle.swreq_print.specs.swreq_word.declared.symbols.Symbol.{Symbol}
use Rattle.swreq_print.proofs.swreq_word.Chains.{linked_back, linked_on}
use Rattle.swreq_print.proofs.swreq_word.Comparing.{by_length}
use Rattle.swreq_print.proofs.swreq_lemmas.Elements.{take_one}
use Rattle.swreq_print.specs.swreq_rule.declared.rules.Rule.{Rule}
use Rattle.swreq_print.proofs.swreq_rule.Context.{Linked-after}
use Rattle.swreq_machine.specs.swreq_correspondence.Symbols.{Symbols, Word, right_side, start, steps, word_of}
use Rattle.swreq_machine.proofs.swreq_correspondence.Spelling.{spell-append, spell-for_self}
use Rattle.swreq_machine.specs.swreq_world.Worlds.{TextWorld}
use Rattle.swreq_machine.specs.swreq_symbols.Meaning.{symbols_of}
use Rattle.swreq_machine.specs.swreq_symbols.Overs.{source_by}
use Rattle.swreq_machine.specs.swreq_symbols.Vanishing.{IsLeastBy, Links}
use Rattle.swreq_machine.proofs.swreq_symbols.OfText.{own_requirements}
use Rattle.swreq_machine.proofs.swreq_symbols.Walking.{one_least}
use Rattle.swreq_machine.specs.Asked.{IsLeastWord}
use Rattle.swreq_machine.specs.Machines.{MachineView}
use Rattle.swreq_machine.specs.swreq_valid.Rounds.{last_rules}
use Rattle.swreq_machine.proofs.Answering.{by_sides}
use Rattle.swreq_confpath.specs.declared.places.Place.{Place}
use Rattle.swreq_confpath.specs.declared.places.Place.TheVariants as places
use Rattle.swreq_confpath.specs.declared.sought.Sought.{Sought}
use Rattle.swreq_confpath.specs.Routes.{TermPlace, AreAlike, gone_on, requirements_at}
use Rattle.swreq_confpath.specs.Routes.TermPlace.{Start, Conformance}
use Rattle.swreq_machine.proofs.swreq_symbols.OfTexts.{text_over}
use Rattle.swreq_confpath.specs.Searches.{HasLeastWord, IsKnown, StandsFor, facts_in, list_in, required_at, source_in, world_in}

-- ---- least words

-- the empty word is the least of its class
pub none_less : (used : List Rule) → IsLeastBy used []
none_less used [] l = inl refl
none_less used (x ∷ v) l = inr (by_length [] (x ∷ v) (omega arith))

-- one symbol more after a word, of which some are taken
pub linked_more : (used : List Rule) (front rest w v : Word) (k : ℕ) (x : Symbol) → Links used (front ++ take k rest) w
    → slice_get rest k ≡ Some x
    → Links used (w ++ x ∷ []) v → Links used (front ++ take (k + 1) rest) v
linked_more used front rest w v k x l is next =
    let e : k + 1 ≡ suc k = omega arith in
    let whole : front ++ take (k + 1) rest ≡ (front ++ take k rest) ++ x ∷ []
    = ap (λ z. front ++ z) (ap (λ n. take n rest) e ∙ take_one rest k x is) ∙ sym (append_assoc front (take k rest) (x ∷ [])) in
    subst (λ z. Links used z v) (sym whole) (linked_on (Linked-after (x ∷ []) l) next)

module _ (s : Sought) where
  abbrev W : TextWorld
  W = world_in s

  abbrev M : MachineView
  M = s.machine.now

  abbrev m : Symbols
  m = symbols_of s.text.world.now.lexicon

  abbrev F : TermFacts
  F = facts_in s

  abbrev L : List TermRequirement
  L = list_in s

  abbrev S : Source
  S = source_in s

  abbrev rules : List Rule
  rules = last_rules s.machine.now.rounds

  -- ---- words

  -- of a type parameter of the signature
  pub first_word : {E : Type 0} (t : Term) (word front : Word) (used : List Rule) (r : Result Word E)
      → word ≡ right_side m (source_by None) (IsAnyObject t)
      → front ≡ [] → used ≡ rules → IfOk r (Links used (front ++ word)) → IfOk r (IsLeastBy used) → IfOk r (IsLeastWord W M t)
  first_word t word front used (Err e) is none same l n = tt
  first_word t word front used (Ok u) is none same l n = (
    subst (λ z. IsLeastBy z u) same n,
    subst (λ z. Links rules z u) (ap (λ z. z ++ word) none ∙ is) (subst (λ z. Links z (front ++ word) u) same l),
  )

  -- of one of a protocol, after the word of that which is put for `Self`
  next_linked : (q : ProtoId) (u t : Term) (word rest base v : Word) → word ≡ right_side m (source_by (Some q)) (IsAnyObject t)
      → ((x : Symbol) (ys : Word) → word ≡ x ∷ ys → rest ≡ ys) → IsLeastWord W M u base → Links rules (base ++ rest) v
      → Links rules (word_of m S (for_self u t)) v
  next_linked q u t word rest base v is tail h l =
      let own : rest ≡ steps m t [] = tail (start (SelfOf q) (head t)) (steps m t []) is in
      let whole : Links rules (word_of m S u ++ steps m t []) v
      = linked_on (Linked-after (steps m t []) h.1) (subst (λ z. Links rules (base ++ z) v) own l) in
      let spelled : word_of m S u ++ steps m t [] ≡ word_of m S (for_self u t) =
      spell-append m S u [] (steps m t []) ∙ sym (spell-for_self m S u t []) in
      subst (λ z. Links rules z v) spelled whole

  pub next_word : {E : Type 0} (q : ProtoId) (u t : Term) (word rest base front : Word) (used : List Rule) (r : Result Word E)
      → word ≡ right_side m (source_by (Some q)) (IsAnyObject t) → ((x : Symbol) (ys : Word) → word ≡ x ∷ ys → rest ≡ ys)
      → front ≡ base → used ≡ rules → IfOk r (Links used (front ++ rest)) → IfOk r (IsLeastBy used) → IsLeastWord W M u base
      → IfOk r (IsLeastWord W M (for_self u t))
  next_word q u t word rest base front used (Err e) is tail begins same l n h = tt
  next_word q u t word rest base front used (Ok v) is tail begins same l n h = (
    subst (λ z. IsLeastBy z v) same n,
    next_linked q u t word rest base v is tail h
        (subst (λ z. Links rules (z ++ rest) v) begins (subst (λ z. Links z (front ++ rest) v) same l)),
  )

  -- ---- where one goes on

  pub from_start : (a : TermPlace) → StandsFor s places.Start a → (t : Term) (p : ProtoId) (u : Word) → IsLeastWord W M t u
      → StandsFor s (places.Conformance u p) (gone_on a t p)
  from_start Start h t p u l = (refl, l)
  from_start (Conformance r q) h t p u l = absurd h

  pub from_next : {E : Type 0} (base : Word) (q : ProtoId) (a : TermPlace) → StandsFor s (places.Conformance base q) a
      → (t : Term) (p : ProtoId) (r : Result Word E)
      → ((u : Term) → IsLeastWord W M u base → IfOk r (IsLeastWord W M (for_self u t)))
      → IfOk r (λ v. StandsFor s (places.Conformance v p) (gone_on a t p))
  from_next base q Start h t p r of = absurd h
  from_next base q (Conformance u x) h t p r of = IfOk-weaker r (IsLeastWord W M (for_self u t)) _ (λ v l. (refl, l)) (of u h.1)

  -- the word of a place that stands for one is least
  pub place_least : (p : Place) (a : TermPlace) → StandsFor s p a → HasLeastWord s p
  place_least places.Start a h = none_less rules
  place_least (places.Conformance u q) Start h = absurd h
  place_least (places.Conformance u q) (Conformance t r) h = h.1.0

  -- the requirements of the code at a place stand for those over type parameters
  pub same_requirements : (p : Place) (a : TermPlace) → StandsFor s p a
      → requirements_at F L a ≡ map (requirement_of s.text.table.now) (required_at s.text.world.now s.list.now p)
  same_requirements places.Start Start h = refl
  same_requirements places.Start (Conformance t q) h = absurd h
  same_requirements (places.Conformance u q) Start h = absurd h
  same_requirements (places.Conformance u q) (Conformance t r) h =
      ap F.of_protocol (sym h.0) ∙ own_requirements s.text.world.now s.text.table.now q

  -- ---- places that are alike

  module _ (known : IsKnown s) where
    one_word : (t u : Term) (a b : Word) → IsLeastWord W M t a → IsLeastWord W M u b → Derivable F S (Requires (Equals t u)) → a ≡ b
    one_word t u a b h k e =
        let links = (by_sides W (text_over s.text).closed M L known.machine (Equals t u) (valid_sides F S (Equals t u) e)).0 e in
        one_least rules a b h.0 k.0 (linked_on (linked_back h.1) (linked_on links k.1))

    equal_by_word : (t u : Term) (a : Word) → IsLeastWord W M t a → IsLeastWord W M u a → Derivable F S (IsValid t)
        → Derivable F S (IsValid u)
        → Derivable F S (Requires (Equals t u))
    equal_by_word t u a h k v w =
        (by_sides W (text_over s.text).closed M L known.machine (Equals t u) (v, w)).1 (linked_on h.1 (linked_back k.1))

    -- Places over type parameters for which one place stands are alike,
    pub alike_by_place : (p : Place) (a b : TermPlace) → StandsFor s p a → StandsFor s p b → AreAlike F S a a
        → AreAlike F S b b → AreAlike F S a b
    alike_by_place places.Start Start Start h k i j = tt
    alike_by_place places.Start Start (Conformance u r) h k i j = absurd k
    alike_by_place places.Start (Conformance t q) b h k i j = absurd h
    alike_by_place (places.Conformance w p) Start b h k i j = absurd h
    alike_by_place (places.Conformance w p) (Conformance t q) Start h k i j = absurd k
    alike_by_place (places.Conformance w p) (Conformance t q) (Conformance u r) h k i j =
        (sym h.0 ∙ k.0, equal_by_word t u w h.1 k.1 (valid_sides F S (Conforms t q) i.2) (valid_sides F S (Conforms u r) j.2), j.2)

    -- and for places that are alike one place stands.
    pub place_by_alike : (p q : Place) (a b : TermPlace) → StandsFor s p a → StandsFor s q b → AreAlike F S a b → p ≡ q
    place_by_alike places.Start places.Start a b h k like = refl
    place_by_alike places.Start (places.Conformance v y) Start Start h k like = absurd k
    place_by_alike places.Start (places.Conformance v y) Start (Conformance u r) h k like = absurd like
    place_by_alike places.Start (places.Conformance v y) (Conformance t q) b h k like = absurd h
    place_by_alike (places.Conformance w x) places.Start Start b h k like = absurd h
    place_by_alike (places.Conformance w x) places.Start (Conformance t q) Start h k like = absurd like
    place_by_alike (places.Conformance w x) places.Start (Conformance t q) (Conformance u r) h k like = absurd k
    place_by_alike (places.Conformance w x) (places.Conformance v y) Start b h k like = absurd h
    place_by_alike (places.Conformance w x) (places.Conformance v y) (Conformance t q) Start h k like = absurd k
    place_by_alike (places.Conformance w x) (places.Conformance v y) (Conformance t q) (Conformance u r) h k like =
        ap₂ places.Conformance (one_word t u w v h.1 k.1 like.1) (h.0 ∙ like.0 ∙ sym k.0)
