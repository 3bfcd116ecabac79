-- Inheritance as it is written.
use Rattle.swreq_param.specs.declared.ids.ProtoId.{ProtoId}
use Rattle.swreq_lexicon.specs.swreq_derive.Derivation.{TermFacts}
use Rattle.swreq_lexicon.specs.swreq_derive.Inheritance.{InheritsDirectly, LeadsTo}

-- A chain of direct steps, one or more, leads from P to Q.
abbrev pub LeadsOnTo : TermFacts → ProtoId → ProtoId → Type 0
LeadsOnTo f p q = (r : ProtoId) × LeadsTo f p r × InheritsDirectly f r q
