-- The printed system of a signature, in the two parts in which it is written.
use Rattle.std.proofs.Common.{◌≡◌, ◌∙◌, ◌+◌, ◌++◌, ◌∷◌, ◌<◌, ℕ, List, ap, codes, decimal, drop, get_or, length, append_assoc, subst, sym}
use Rattle.std.proofs.lemmas.List.{drop_more}
use Rattle.std.proofs.lemmas.List.Concat.{flat_map-cons}
use Rattle.std.specs.List.{flat_map}
use Rattle.swreq_text.specs.Joined.{GrewByPart}
use Rattle.swreq_text.proofs.Grown.{grew_first, grew_on, piece_grew}
use Rattle.swreq_print.specs.swreq_lexicon.Views.{LexiconView}
use Rattle.swreq_print.specs.swreq_rule.declared.rules.Rule.{Rule}
use Rattle.swreq_print.specs.swreq_lowering.Requirements.{PlacedRequirement}
use Rattle.swreq_machine.specs.swreq_world.Worlds.{SignatureOver, TextWorld}
use Rattle.swreq_query.specs.Signatures.{full_name}
use Rattle.swreq_query.specs.Systems.{rule_line, system_text}

-- the line above the rules, and the rules
pub system_by_parts : (w : TextWorld) (g : SignatureOver PlacedRequirement) (rules : List Rule)
    → (full_name w g ++ (codes ": " ++ (decimal (length rules) ++ codes " rules\n"))) ++ flat_map (rule_line w.lexicon) rules
    ≡ system_text w g rules
system_by_parts w g rules =
    let lines = flat_map (rule_line w.lexicon) rules in
    append_assoc (full_name w g) (codes ": " ++ (decimal (length rules) ++ codes " rules\n")) lines
    ∙ ap (λ (z : List ℕ). full_name w g ++ z) (append_assoc (codes ": ") (decimal (length rules) ++ codes " rules\n") lines
    ∙ ap (λ (z : List ℕ). codes ": " ++ z) (append_assoc (decimal (length rules)) (codes " rules\n") lines))

-- ---- the rules, one after another

module _ (x : LexiconView) (rules : List Rule) (k : ℕ) (r : Rule) (within : k < length rules) (is : r ≡ get_or rules k r) where
  abbrev lines : List Rule → List ℕ
  lines = flat_map (rule_line x)

  rule_first : lines (drop k rules) ≡ rule_line x r ++ lines (drop (k + 1) rules)
  rule_first =
      ap lines (drop_more rules k r within ∙ ap (λ (q : Rule). q ∷ drop (k + 1) rules) (sym is))
      ∙ flat_map-cons (rule_line x) r (drop (k + 1) rules)

  -- a part of the next line
  pub line_grew : (old mid new : List ℕ) → mid ++ lines (drop k rules) ≡ old ++ lines rules → GrewByPart old (lines rules) mid
      → GrewByPart mid (rule_line x r) new → GrewByPart old (lines rules) new
  line_grew old mid new joined before part =
      grew_on old mid new (lines rules) (lines (drop k rules)) joined before
      (subst (λ (text : List ℕ). GrewByPart mid text new) (sym rule_first)
      (grew_first mid new (rule_line x r) (lines (drop (k + 1) rules)) part))

  -- the next line
  pub line_stands : (old mid new : List ℕ) → mid ++ lines (drop k rules) ≡ old ++ lines rules → GrewByPart old (lines rules) mid
      → new ≡ mid ++ rule_line x r → GrewByPart old (lines rules) new
  line_stands old mid new joined before e =
      grew_on old mid new (lines rules) (lines (drop k rules)) joined before
      (subst (λ (text : List ℕ). GrewByPart mid text new) (sym rule_first)
      (piece_grew mid new (rule_line x r) (lines (drop (k + 1) rules)) e))

  pub line_joined : (old mid new : List ℕ) → mid ++ lines (drop k rules) ≡ old ++ lines rules → new ≡ mid ++ rule_line x r
      → new ++ lines (drop (k + 1) rules) ≡ old ++ lines rules
  line_joined old mid new joined e =
      ap (λ (text : List ℕ). text ++ lines (drop (k + 1) rules)) e ∙ append_assoc mid (rule_line x r) (lines (drop (k + 1) rules))
      ∙ ap (λ (text : List ℕ). mid ++ text) (sym rule_first) ∙ joined
