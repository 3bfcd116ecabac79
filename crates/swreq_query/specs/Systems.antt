-- The reduced rewriting system of a signature, as it is printed.
use Rattle.std.specs.Prelude.{◌≡◌, ◌++◌, List, length, codes, decimal}
use Rattle.std.specs.List.{flat_map}
use Rattle.swreq_print.specs.swreq_rule.declared.rules.Rule.{Rule}
use Rattle.swreq_machine.specs.swreq_complete.Reduced.{IsReducedSystem}
use Rattle.swreq_print.specs.swreq_lexicon.Views.{LexiconView}
use Rattle.swreq_print.specs.swreq_lowering.Requirements.{PlacedRequirement}
use Rattle.swreq_machine.specs.swreq_world.Worlds.{SignatureOver, TextWorld}
use Rattle.swreq_machine.specs.swreq_correspondence.Equations.{AreCongruent}
use Rattle.swreq_machine.specs.swreq_symbols.Meaning.{facts_of, symbols_of}
use Rattle.swreq_print.specs.Names.{Text}
use Rattle.swreq_print.specs.Rules.{rule_text}
use Rattle.swreq_query.specs.Signatures.{full_name}
use Rattle.swreq_machine.specs.swreq_world.FactsAt.{source_of}

-- a rule, after two spaces
abbrev pub rule_line : LexiconView → Rule → Text
rule_line x r = codes "  " ++ (rule_text x r ++ codes "\n")

-- the name of the signature and the number of the rules, and then each rule
abbrev pub system_text : TextWorld → SignatureOver PlacedRequirement → List Rule → Text
system_text w g rules =
    full_name w g ++ (codes ": " ++ (decimal (length rules) ++ (codes " rules\n" ++ flat_map (rule_line w.lexicon) rules)))

-- The text is that of the reduced system of the congruence by the equations of the usable requirements of the protocols and of the
-- signature.
pub record IsSystemText (w : TextWorld) (g : SignatureOver PlacedRequirement) (text : Text) : Type 0 where
  pub rules : List Rule
  pub reduced : IsReducedSystem (AreCongruent (symbols_of w.lexicon) (facts_of w) (source_of g)) rules
  pub text_is : text ≡ system_text w g rules
