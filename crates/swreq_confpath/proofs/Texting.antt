-- The texts of paths, conformance by conformance.
use Rattle.std.proofs.Common.{◌≡◌, ℕ, zero, suc, ◌+◌, ◌-◌, ◌<◌, List, [], ◌∷◌, ◌++◌, length, map, get_or, drop, Some, Contains, slice_get, sym, ap, ap₂, subst, ◌∙◌, arith, append_assoc, drop-cons}
use Rattle.std.proofs.lemmas.List.{length-map}
use Rattle.std.proofs.lemmas.List.Elements.{Contains-get_or}
use Rattle.std.proofs.lemmas.Option.{slice_get_within, get_or_from_slice_get}
use Rattle.swreq_machine.specs.swreq_param.declared.ids.ParamId.{ParamId}
use Rattle.swreq_machine.specs.swreq_param.declared.ids.ProtoId.{ProtoId}
use Rattle.swreq_machine.specs.swreq_param.Terms.{Term, self}
use Rattle.swreq_machine.specs.swreq_derive.declared.requirements.Requirement.{Requirement}
use Rattle.swreq_machine.specs.swreq_derive.Derivation.{TermFacts, TermRequirement, for_self}
use Rattle.swreq_machine.specs.swreq_derive.Derivation.TermRequirement.{Conforms}
use Rattle.swreq_machine.specs.swreq_derive.Facts.{requirement_of}
use Rattle.swreq_machine.specs.swreq_derive.Instances.{HasNumber}
use Rattle.swreq_machine.specs.swreq_derive.Paths.{IsConformancePath, LeadsOn}
use Rattle.swreq_print.specs.Names.{Text}
use Rattle.swreq_print.specs.Signatures.{requirement_text, self_text}
use Rattle.swreq_machine.specs.swreq_lexicon.Views.{LexiconView, IsProtocol}
use Rattle.swreq_machine.specs.swreq_world.Closed.{IsRequirementOf}
use Rattle.swreq_machine.specs.swreq_lowering.declared.ids.FuncId.{FuncId}
use Rattle.swreq_machine.specs.swreq_world.ByTable.{world_by}
use Rattle.swreq_machine.specs.swreq_world.FactsAt.{facts_of, written_list}
use Rattle.swreq_machine.specs.swreq_world.Worlds.{IdWorld, signature_at}
use Rattle.swreq_machine.specs.swreq_symbols.Known.{IsRequirementIn, IsTextOver}
use Rattle.swreq_machine.specs.swreq_valid.Plans.{bare}
use Rattle.swreq_confpath.proofs.Requirements.{signature_known, signature_listed}
use Rattle.swreq_confpath.specs.Numbers.{AreNumbers, AreNumbersBehind, first_protocol, in_brackets, path_text, protocol_named, requirement_at, steps_text}

-- the numbers of a path are those of conformances
numbers_behind : (f : TermFacts) (ns : List ℕ) (u t : Term) (q p : ProtoId) → LeadsOn f u q ns t p → AreNumbersBehind f q ns
numbers_behind f [] u t q p h = tt
numbers_behind f (n ∷ ns) u t q p h = (h.0, h.1, h.2, numbers_behind f ns (for_self u h.0) t h.1 p h.3)

pub path_numbers : (f : TermFacts) (params : List ParamId) (written : List TermRequirement) (t : Term) (p : ProtoId)
    (first : ℕ) (steps : List ℕ)
    → IsConformancePath f params written first steps t p → AreNumbers f written first steps
path_numbers f params written t p first steps h =
    (h.start, h.proto, h.is_written, numbers_behind f steps h.start h.subject h.proto p h.leads)

pub next_left : (xs : List ℕ) (k : ℕ) → k < length xs → drop k xs ≡ get_or xs k 0 ∷ drop (k + 1) xs
next_left xs k l = let e : suc k ≡ k + 1 = omega arith in drop-cons xs k 0 l ∙ ap (λ z. get_or xs k 0 ∷ drop z xs) e

-- a numbered conformance of a list over ids
module _ (terms : List Term) (rs : List TermRequirement) (list : List Requirement) (same : rs ≡ map (requirement_of terms) list) (n : ℕ)
    (v : Term) (r : ProtoId)
    (h : HasNumber n rs (Conforms v r)) where
  there : slice_get (map (requirement_of terms) list) (n - 1) ≡ Some (Conforms v r)
  there = subst (λ z. slice_get z (n - 1) ≡ Some (Conforms v r)) same h.1

  pub number_within : n - 1 < length list
  number_within =
      let w = slice_get_within (map (requirement_of terms) list) (n - 1) (Conforms v r) there in
      let e = length-map list (requirement_of terms) in
      omega arith

  pub is_member : (d : Requirement) → Contains list (get_or list (n - 1) d)
  is_member d = Contains-get_or list (n - 1) d number_within

  pub number_is : (d : Requirement) → requirement_of terms (get_or list (n - 1) d) ≡ Conforms v r
  number_is d = at list (n - 1) there
    where
      at : (xs : List Requirement) (k : ℕ) → slice_get (map (requirement_of terms) xs) k ≡ Some (Conforms v r)
          → requirement_of terms (get_or xs k d) ≡ Conforms v r
      at [] k e = absurd (let z = slice_get_within [] k (Conforms v r) e in omega arith)
      at (x ∷ xs) zero e = cc
      at (x ∷ xs) (suc k) e = at xs k e

  pub requirement_is : requirement_at rs n ≡ Conforms v r
  requirement_is = get_or_from_slice_get rs (n - 1) (Conforms v r) (Conforms self first_protocol) h.1

  pub names : (d : Requirement) (q : ProtoId) → q ≡ protocol_named (requirement_of terms (get_or list (n - 1) d)) → q ≡ r
  names d q e = e ∙ ap protocol_named (number_is d)

  -- what is named is a protocol of the text
  pub names_protocol : (x : LexiconView) (d : Requirement) (q : ProtoId) → IsRequirementIn terms x (get_or list (n - 1) d)
      → q ≡ protocol_named (requirement_of terms (get_or list (n - 1) d)) → IsProtocol x q
  names_protocol x d q of e =
      let known : IsRequirementOf x (Conforms v r) = subst (IsRequirementOf x) (number_is d) of.1 in
      subst (IsProtocol x) (sym (names d q e)) known.1

-- one conformance more is written
pub step_written : (x : LexiconView) (f : TermFacts) (p q : ProtoId) (n : ℕ) (ns : List ℕ) (v : Term) (r : ProtoId) (out new : Text)
    (written : TermRequirement)
    → requirement_at (f.of_protocol p) n ≡ Conforms v r → written ≡ Conforms v r → q ≡ r → new ≡ out ++ in_brackets (self_text x written)
    → new ++ steps_text x f q ns ≡ out ++ steps_text x f p (n ∷ ns)
step_written x f p q n ns v r out new written is e named n_is =
    let text : in_brackets (self_text x written) ≡ in_brackets (self_text x (requirement_at (f.of_protocol p) n)) =
    ap (λ z. in_brackets (self_text x z)) (e ∙ sym is) in
    let proto : q ≡ protocol_named (requirement_at (f.of_protocol p) n) = named ∙ sym (ap protocol_named is) in
    ap₂ ◌++◌ (n_is ∙ ap (λ z. out ++ z) text) (ap (λ z. steps_text x f z ns) proto)
    ∙ append_assoc out (in_brackets (self_text x (requirement_at (f.of_protocol p) n)))
    (steps_text x f (protocol_named (requirement_at (f.of_protocol p) n)) ns)

-- the whole text, from its first conformance and the others
pub first_written : (x : LexiconView) (f : TermFacts) (rs : List TermRequirement) (n : ℕ) (ns steps : List ℕ) (v : Term) (r q : ProtoId)
    (begun mid new : Text) (written : TermRequirement)
    → requirement_at rs n ≡ Conforms v r → written ≡ Conforms v r → q ≡ r → steps ≡ ns → begun ≡ []
    → mid ≡ begun ++ in_brackets (requirement_text x written)
    → new ≡ mid ++ steps_text x f q steps → new ≡ path_text x f rs n ns
first_written x f rs n ns steps v r q begun mid new written is e named s b m k =
    k
    ∙ ap₂ ◌++◌ (m ∙ (ap (λ z. z ++ in_brackets (requirement_text x written)) b ∙ ap (λ z. in_brackets (requirement_text x z)) (e ∙ sym is)))
    (ap₂ (steps_text x f) (named ∙ sym (ap protocol_named is)) s)

-- ---- a path of a signature, by the requirement of its first number

module _ (terms : List Term) (w : IdWorld) (f : FuncId) (list : List Requirement) (listed : list ≡ bare (signature_at w f).requirements)
    (n : ℕ) (steps : List ℕ)
    (h : AreNumbers (facts_of (world_by terms w)) (written_list (signature_at (world_by terms w) f)) n steps)
    (r : Requirement) (at : r ≡ get_or list (n - 1) r) where
  abbrev facts : TermFacts
  facts = facts_of (world_by terms w)

  abbrev required : List TermRequirement
  required = written_list (signature_at (world_by terms w) f)

  same : required ≡ map (requirement_of terms) list
  same = sym (signature_listed terms w f list listed)

  at_number : IsTextOver terms w → f.place < length w.signatures → IsRequirementIn terms w.lexicon (get_or list (n - 1) r)
  at_number text of =
      signature_known terms w text f of list listed (get_or list (n - 1) r) (is_member terms required list same n h.0 h.1 h.2 r)

  pub first_known : IsTextOver terms w → f.place < length w.signatures → IsRequirementIn terms w.lexicon r
  first_known text of = subst (IsRequirementIn terms w.lexicon) (sym at) (at_number text of)

  -- the protocol that it names
  module _ (q : ProtoId) (is : q ≡ protocol_named (requirement_of terms r)) where
    named : q ≡ protocol_named (requirement_of terms (get_or list (n - 1) r))
    named = is ∙ ap (λ (z : Requirement). protocol_named (requirement_of terms z)) at

    as_numbered : q ≡ h.1
    as_numbered = names terms required list same n h.0 h.1 h.2 r q named

    pub first_names_protocol : IsTextOver terms w → f.place < length w.signatures → IsProtocol w.lexicon q
    first_names_protocol text of = names_protocol terms required list same n h.0 h.1 h.2 w.lexicon r q (at_number text of) named

    pub numbers_after_first : (ns : List ℕ) → ns ≡ steps → AreNumbersBehind facts q ns
    numbers_after_first ns e =
        subst (λ p. AreNumbersBehind facts p ns) (sym as_numbered) (subst (AreNumbersBehind facts h.1) (sym e) h.3)

    pub path_written : (ns : List ℕ) (begun mid new : Text) → ns ≡ steps → begun ≡ []
        → mid ≡ begun ++ in_brackets (requirement_text w.lexicon (requirement_of terms r))
        → new ≡ mid ++ steps_text w.lexicon facts q ns → new ≡ path_text w.lexicon facts required n steps
    path_written ns begun mid new e none first others =
        first_written w.lexicon facts required n steps ns h.0 h.1 q begun mid new (requirement_of terms r)
        (requirement_is terms required list same n h.0 h.1 h.2)
        (ap (requirement_of terms) at ∙ number_is terms required list same n h.0 h.1 h.2 r) as_numbered e none first others
