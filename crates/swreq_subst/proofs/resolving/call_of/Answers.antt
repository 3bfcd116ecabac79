use Rattle.std.proofs.Common.{◌≡◌, Option, List, [], length, map, sym, ap, subst, ◌∙◌}
use Rattle.std.specs.Prelude.{All}
use Rattle.std.specs.Option.{option_map}
use Rattle.std.proofs.lemmas.List.{length-map}
use Rattle.swreq_resolve.specs.swreq_decl.declared.skeleton.TypeDecl.{TypeDecl}
use Rattle.swreq_resolve.specs.swreq_names.Spaces.{word}
use Rattle.swreq_machine.specs.swreq_param.declared.ids.TermId.{TermId}
use Rattle.swreq_machine.specs.swreq_param.Tables.{term_at}
use Rattle.swreq_resolve.specs.RefusedTypes.{of_type_on}
use Rattle.swreq_machine.specs.swreq_world.Worlds.{signature_at}
use Rattle.swreq_subst.specs.Calls.{IsArgumentIn}
use Rattle.swreq_subst.specs.Refusals.{declared}
use Rattle.swreq_subst.specs.Saying.{OneByOne, SaysArgument}
use Rattle.swreq_subst.proofs.Named.{as_many, callee_named, caller_named, count_is, each_named, func_there}
use Rattle.swreq_subst.proofs.resolving.call_of.Goals as goal

pub called-f-requires : goal.called-f-requires
called-f-requires c = func_there c.args.words.now.world.now c.args.words.now.text.now c.args.c.now.caller_outer c.args.c.now.caller
    (caller_named c.args.words.now.world.now c.args.words.now.text.now c.args.words.now.ids c.args.c.now c.requires)

pub called-g-requires : goal.called-g-requires
called-g-requires c = func_there c.args.words.now.world.now c.args.words.now.text.now c.args.c.now.callee_outer c.args.c.now.callee
    (callee_named c.args.words.now.world.now c.args.words.now.text.now c.args.words.now.ids c.args.c.now c.requires)

pub types_of-requires-clause-signature : goal.types_of-requires-clause-signature
types_of-requires-clause-signature c =
    let d = c.args.c.now in
    ((c.args.words.now.ids.signatures (option_map (word c.args.words.now.text.now) d.caller_outer)
    (word c.args.words.now.text.now d.caller) c.called-f.result).0 c.called-f.ensures).0

pub types_of-requires-clause-resolve : goal.types_of-requires-clause-resolve
types_of-requires-clause-resolve c =
    let w = c.args.words.now.world.now in
    let text = c.args.words.now.text.now in
    let f = c.called-f.result in
    subst (All (λ (t : TypeDecl). of_type_on (declared w) (signature_at w f).signature text t ≡ [])) (sym c.items.ensures)
    (each_named w text c.args.words.now.ids c.args.c.now c.requires f c.called-f.ensures)

pub returns-clause-says : goal.returns-clause-says
returns-clause-says c =
    let w = c.args.words.now.world.now in
    let text = c.args.words.now.text.now in
    let d = c.args.c.now in
    let new = c.types_of.new.table in
    let f = c.called-f.result in
    record {
      caller = (c.args.words.now.ids.signatures (option_map (word text) d.caller_outer) (word text d.caller) f).0 c.called-f.ensures;
      callee =
          (c.args.words.now.ids.signatures (option_map (word text) d.callee_outer) (word text d.callee) c.called-g.result).0
          c.called-g.ensures;
      args = subst (λ (args : List (Option TermId)). OneByOne (SaysArgument w text f) (map (option_map (term_at new)) args) d.args)
          (sym c.new.ensures)
          (subst (OneByOne (SaysArgument w text f) (map (option_map (term_at new)) c.in_ok-args.args.items)) c.items.ensures
          c.in_ok-args.ensures.say);
    }

pub returns-clause-known : goal.returns-clause-known
returns-clause-known c =
    let w = c.args.words.now.world.now in
    let text = c.args.words.now.text.now in
    let d = c.args.c.now in
    let new = c.types_of.new.table in
    let g = c.called-g.result in
    let args = c.in_ok-args.args.items in
    let many = sym (length-map args (option_map (term_at new)))
    ∙ as_many (SaysArgument w text c.called-f.result) (map (option_map (term_at new)) args) c.items.result.now c.in_ok-args.ensures.say
    ∙ ap length c.items.ensures in
    record {
      caller = ((c.args.words.now.ids.signatures (option_map (word text) d.caller_outer)
          (word text d.caller) c.called-f.result).0 c.called-f.ensures).0;
      callee = ((c.args.words.now.ids.signatures (option_map (word text) d.callee_outer) (word text d.callee) g).0 c.called-g.ensures).0;
      count = ap length c.new.ensures ∙ many ∙ count_is w text c.args.words.now.ids d c.requires g c.called-g.ensures;
      args = subst (All (IsArgumentIn new w.lexicon)) (sym c.new.ensures) c.in_ok-args.ensures.known;
    }
