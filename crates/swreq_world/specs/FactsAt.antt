-- From what one derives in a world.
use Rattle.std.specs.Prelude.{List, length, map}
use Rattle.swreq_lexicon.specs.swreq_derive.Derivation.{Source, TermFacts, TermRequirement}
use Rattle.swreq_lexicon.specs.swreq_derive.Derivation.Source.{Written}
use Rattle.swreq_lexicon.specs.swreq_derive.Facts.{IdFacts, generic_params}
use Rattle.swreq_lexicon.specs.Lexicons.{associated_types}
use Rattle.swreq_lowering.specs.declared.ids.FuncId.{FuncId}
use Rattle.swreq_lowering.specs.Requirements.{PlacedRequirement}
use Rattle.swreq_world.specs.Worlds.{IdWorld, SignatureOver, TextWorld, requirements_of, signature_at}

-- the associated types, and the requirements of each protocol
abbrev pub facts_of : TextWorld → TermFacts
facts_of w = record {
  associated_types = associated_types w.lexicon.associated;
  of_protocol = λ p. map (λ r. r.requirement) (requirements_of w p);
}

-- the requirements of a signature
abbrev pub written_list : SignatureOver PlacedRequirement → List TermRequirement
written_list g = map (λ (r : PlacedRequirement). r.requirement) g.requirements

-- the list from which one derives what a signature implies
abbrev pub source_of : SignatureOver PlacedRequirement → Source
source_of g = Written (generic_params g.params) (written_list g)

-- the facts of the text and the list of a signature, over ids
abbrev pub facts_at : IdWorld → FuncId → IdFacts
facts_at w f = record {
  protocols = length w.lexicon.protocols;
  names = length w.lexicon.names;
  associated_types = associated_types w.lexicon.associated;
  params = (signature_at w f).params;
  written = map (λ r. r.requirement) (signature_at w f).requirements;
  of_protocol = λ p. map (λ r. r.requirement) (requirements_of w p);
}
