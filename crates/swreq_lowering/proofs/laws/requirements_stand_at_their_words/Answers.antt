use Rattle.swreq_lexicon.specs.swreq_names.declared.signature.Signature.TheVariants.{Struct, Function}
use Rattle.swreq_lowering.proofs.Standing.{protocol_stands, signature_stands, nested_stands}
use Rattle.swreq_lowering.proofs.laws.requirements_stand_at_their_words.Goals as goal

pub returns-clause-protocols : goal.returns-clause-protocols
returns-clause-protocols c = protocol_stands

pub returns-clause-structs : goal.returns-clause-structs
returns-clause-structs c w i s = signature_stands w (Struct i) s.params s.clause

pub returns-clause-functions : goal.returns-clause-functions
returns-clause-functions c w i f = signature_stands w (Function i) f.params f.clause

pub returns-clause-nested : goal.returns-clause-nested
returns-clause-nested c = nested_stands
