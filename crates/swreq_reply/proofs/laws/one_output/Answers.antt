use Rattle.std.proofs.Common.{List, ℕ, subst, sym, ◌≡◌}
use Rattle.swreq_print.specs.swreq_decl.declared.skeleton.CallDecl.{CallDecl}
use Rattle.swreq_print.specs.swreq_decl.Calls.{StandsFor}
use Rattle.swreq_reply.proofs.OneOutput.{AreKnown, outcome_once}
use Rattle.swreq_reply.proofs.laws.one_output.Goals as goal

source : (c : goal.After-one_list_of_calls) → AreKnown c.args.source.now
source c = record {
  skeletons = c.one_skeleton.ensures;
  worlds = c.world_is_one.ensures;
  names = c.names_tell_ids_apart.ensures;
  found = c.signatures_are_found_by_name.ensures.in_text;
}

abbrev Calls : List ℕ → ℕ → Type 0
Calls text from = (ds es : List CallDecl) → StandsFor text from ds → StandsFor text from es → ds ≡ es

pub returns : goal.returns
returns c line p are same at =
    outcome_once line c.args.input.now p are (subst AreKnown (sym same) (source c))
    (subst (Calls p.input) (sym at) (subst (λ (text : List ℕ). Calls text c.args.from) (sym are.whole) c.one_list_of_calls.ensures))
