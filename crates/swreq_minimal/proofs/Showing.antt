-- What a loop shows of a requirement is a derivation.
use Rattle.std.proofs.Common.{◌≡◌, ◌∙◌, ◌⊎◌, ◌<◌, inl, inr, refl, sym, ap, subst, subst₂, ℕ, suc, ◌+◌, arith, Bool, true, List, [], ◌∷◌, ◌++◌, length, slice_get, get_or, Option, Some, None, is_some, IsTrue, MatchOption, Contains, append-nil, length-append}
use Rattle.std.proofs.lemmas.Option.{slice_get-get_or}
use Rattle.swreq_machine.specs.swreq_param.declared.ids.ParamId.{ParamId}
use Rattle.swreq_machine.specs.swreq_derive.Derivation.{Derivable, TermFacts, TermRequirement}
use Rattle.swreq_machine.specs.swreq_derive.Derivation.Source.{Written}
use Rattle.swreq_machine.specs.swreq_derive.Derivation.TermRequirement.{Conforms, Equals, IsAnyObject}
use Rattle.swreq_machine.specs.swreq_derive.Derivation.TermStatement.{Requires}
use Rattle.swreq_homotopy.specs.swreq_word.Relations.{Linked}
use Rattle.swreq_homotopy.specs.swreq_word.Relations.Linked.{forth, here}
use Rattle.swreq_machine.proofs.swreq_lemmas.Elements.{get_cases, get_last}
use Rattle.swreq_machine.specs.swreq_rule.declared.rules.Rule.{Rule}
use Rattle.swreq_machine.specs.swreq_rule.Steps.{RuleAt, Step}
use Rattle.swreq_homotopy.specs.swreq_pair.declared.pairs.Pair.{Pair}
use Rattle.swreq_homotopy.specs.swreq_pair.PairLists.{ArePairs, HasGreater}
use Rattle.swreq_homotopy.specs.swreq_pair.Pairs.{HasPair}
use Rattle.swreq_homotopy.specs.swreq_path.declared.paths.Loop.{Loop}
use Rattle.swreq_homotopy.specs.swreq_path.Paths.{IsLoop}
use Rattle.swreq_homotopy.specs.declared.around.Evidence.{Evidence}
use Rattle.swreq_homotopy.specs.Evidence.{AreLoops, IsEvidence, IsMarked, NoneShown}
use Rattle.swreq_homotopy.specs.Laws.{EvidenceLinks, HasOthers}
use Rattle.swreq_machine.specs.swreq_correspondence.Equations.{Linking}
use Rattle.swreq_machine.specs.swreq_correspondence.Symbols.{IsInText, Symbols, Word, left_side, right_side}
use Rattle.swreq_candidates.proofs.swreq_correspondence.Chained.{turn_all}
use Rattle.swreq_machine.specs.swreq_rounds.Presents.{AreProtocolRules}
use Rattle.swreq_candidates.specs.Evidence.{AreRulesOfRest, HasEvidence, HasPlainTypes, IsPlain, RestEquation}
use Rattle.swreq_candidates.proofs.EvidenceDrops.{derives, links}
use Rattle.swreq_machine.specs.swreq_symbols.Meaning.{facts_of, symbols_of}
use Rattle.swreq_machine.proofs.swreq_symbols.Symbols.{symbols_law, text_law}
use Rattle.swreq_machine.specs.swreq_world.Closed.{IsClosed}
use Rattle.swreq_machine.specs.swreq_world.Worlds.{TextWorld}
use Rattle.swreq_minimal.specs.Evident.{IsOfEquation, LinkLast}
use Rattle.swreq_minimal.proofs.PlainTypes.{plain_sides}

-- ---- rules

one_step : (rules : List Rule) (k : ℕ) (rule : Rule) → slice_get rules k ≡ Some rule → Linked (Step rules) rule.left rule.right
one_step rules k rule e = forth (record {
  rule = rule;
  number = suc k;
  is_rule = (k, refl, e);
  at = record { before = []; after = []; source = sym (append-nil rule.left); target = sym (append-nil rule.right) };
}) here

module _ (m : Symbols) (f : TermFacts) (rest : List TermRequirement) where
  pub of_protocols : (rules : List Rule) → AreProtocolRules m f rules → AreRulesOfRest m f [] rest rules
  of_protocols rules are k rule e = inl (inl ((are rule.left rule.right).0 (one_step rules k rule e)))

  -- over any generic parameters
  left_any : (ps : List ParamId) (r : TermRequirement) → left_side m (Written ps rest) r ≡ left_side m (Written [] []) r
  left_any ps (Conforms t p) = refl
  left_any ps (IsAnyObject t) = refl
  left_any ps (Equals t u) = refl

  right_any : (ps : List ParamId) (r : TermRequirement) → right_side m (Written ps rest) r ≡ right_side m (Written [] []) r
  right_any ps (Conforms t p) = refl
  right_any ps (IsAnyObject t) = refl
  right_any ps (Equals t u) = refl

  equation_any : (ps : List ParamId) (u v : Word) → RestEquation m f [] rest u v → RestEquation m f ps rest u v
  equation_any ps u v (inl c) = inl c
  equation_any ps u v (inr (r, h, e, g)) = inr (r, h, e ∙ left_any [] r ∙ sym (left_any ps r), g ∙ right_any [] r ∙ sym (right_any ps r))

  rules_any : (ps : List ParamId) (rules : List Rule) → AreRulesOfRest m f [] rest rules → AreRulesOfRest m f ps rest rules
  rules_any ps rules are k rule e = elim (are k rule e) [
    | inl h ↦ inl (equation_any ps rule.left rule.right h)
    | inr h ↦ inr (equation_any ps rule.right rule.left h)
  ]

  of_equation : (r : TermRequirement) (rule : Rule) → Contains rest r → IsOfEquation m r rule
      → RestEquation m f [] rest rule.left rule.right ⊎ RestEquation m f [] rest rule.right rule.left
  of_equation r rule h (inl (e, g)) = inl (inr (r, h, e ∙ sym (left_any [] r), g ∙ sym (right_any [] r)))
  of_equation r rule h (inr (e, g)) = inr (inr (r, h, g ∙ sym (left_any [] r), e ∙ sym (right_any [] r)))

  pub one_more : (rules new : List Rule) (r : TermRequirement) → Contains rest r → AreRulesOfRest m f [] rest rules
      → (new ≡ rules) ⊎ ((rule : Rule) × (new ≡ rules ++ rule ∷ []) × IsOfEquation m r rule) → AreRulesOfRest m f [] rest new
  one_more rules new r h are (inl e) = subst (AreRulesOfRest m f [] rest) (sym e) are
  one_more rules new r h are (inr (rule, e, is)) =
      subst (AreRulesOfRest m f [] rest) (sym e) (λ k q at. elim (get_cases rules rule k q at) [
        | inl b ↦ are k q b
        | inr b ↦ subst (λ (z : Rule). RestEquation m f [] rest z.left z.right ⊎ RestEquation m f [] rest z.right z.left) (sym b.1)
            (of_equation r rule h is)
      ])

-- ---- loops

pub no_loops : (rules : List Rule) → AreLoops rules []
no_loops rules k round at = absurd cc

pub pair_there : (rules : List Rule) (number : ℕ) (pairs : List Pair) (k : ℕ) (pair : Pair) → k < length pairs → get_or pairs k pair ≡ pair
    → ArePairs rules (HasGreater number) pairs → HasPair rules pair.place
pair_there rules number pairs k pair l e are = (pair.left, pair.right, (are.each k pair (slice_get-get_or pairs k pair l ∙ ap Some e)).0)

pub loops_more : (rules : List Rule) (loops new : List Loop) (round : Loop) → AreLoops rules loops → IsLoop rules round
    → new ≡ loops ++ round ∷ [] → AreLoops rules new
loops_more rules loops new round are is e = subst (AreLoops rules) (sym e) (λ k q at. elim (get_cases loops round k q at) [
  | inl b ↦ are k q b
  | inr b ↦ subst (IsLoop rules) (sym b.1) is
])

-- ---- marks

-- of these marks none is set but the last
abbrev pub MarksLast : ℕ → List Bool → Type 0
MarksLast count marks = (n : ℕ) → IsMarked marks n → n ≡ count

pub none_marked : (count : ℕ) → MarksLast count []
none_marked count n (k, e, at) = absurd cc

pub one_more_mark : (count : ℕ) (marks : List Bool) (b : Bool) → (b ≡ true → length marks + 1 ≡ count) → MarksLast count marks
    → MarksLast count (marks ++ b ∷ [])
one_more_mark count marks b is before n (k, e, at) = elim (get_cases marks b k true at) [
  | inl h ↦ before n (k, e, h)
  | inr h ↦ (let l = is (sym h.1) in let i = h.0 in omega (arith, e, i, l))
]

-- ---- the last rule

pub last_shown : (rules : List Rule) (loops : List Loop) (keep may : List Bool) (evidence : Evidence) → EvidenceLinks rules keep
    → MarksLast (length rules) may → IsEvidence rules keep may loops evidence → LinkLast rules
last_shown rules loops keep may evidence law marks ((k, round, at, shows), without) rest rule e =
    law evidence rest rule without there others
  where
    number : evidence.rule ≡ suc (length rest)
    number = marks evidence.rule shows.may_go ∙ (let l = ap length e ∙ length-append rest (rule ∷ []) in omega (arith, l))

    there : RuleAt rules evidence.rule rule
    there = (length rest, number, ap (λ z. slice_get z (length rest)) e ∙ get_last rest rule)

    others : HasOthers rules keep evidence.rule rest
    others n q (j, i, h) marked other = elim (get_cases rest rule j q (ap (λ z. slice_get z j) (sym e) ∙ h)) [
      | inl b ↦ (j, b)
      | inr b ↦ absurd (other (let c = b.0 in omega (arith, i, c, number)))
    ]

pub some_shown : (rules : List Rule) (loops : List Loop) (keep may : List Bool) (found : Option Evidence) → EvidenceLinks rules keep
    → MarksLast (length rules) may → MatchOption found (NoneShown keep may loops) (IsEvidence rules keep may loops) → IsTrue (is_some found)
    → LinkLast rules
some_shown rules loops keep may (Some evidence) law marks is h = last_shown rules loops keep may evidence law marks is
some_shown rules loops keep may None law marks is h = absurd cc

-- ---- a derivation

module _ (w : TextWorld) (closed : IsClosed w) (ps : List ParamId) (list : List TermRequirement)
    (in_text : IsInText (symbols_of w.lexicon) (Written ps list)) where
  abbrev m : Symbols
  m = symbols_of w.lexicon

  abbrev f : TermFacts
  f = facts_of w

  pub evident : (r : TermRequirement) → IsPlain f ps list → HasPlainTypes f ps list r → (rules : List Rule) (rule : Rule)
      → AreRulesOfRest m f [] list rules
      → IsOfEquation m r rule → Linked (Step rules) rule.left rule.right → Derivable f (Written ps list) (Requires r)
  evident r plain types rules rule are is linked =
      derives m f ps list plain (symbols_law w closed) (text_law w closed) in_text r (plain_sides f ps list r types) (by is)
    where
      chain : Linking (RestEquation m f ps list) rule.left rule.right
      chain = links m f ps list rules (rules_any m f list ps rules are) linked

      by : IsOfEquation m r rule → HasEvidence m f ps list r
      by (inl (e, g)) =
          subst₂ (Linking (RestEquation m f ps list)) (e ∙ sym (left_any m f list ps r)) (g ∙ sym (right_any m f list ps r)) chain
      by (inr (e, g)) =
          turn_all (subst₂ (Linking (RestEquation m f ps list)) (e ∙ sym (right_any m f list ps r))
          (g ∙ sym (left_any m f list ps r)) chain)
