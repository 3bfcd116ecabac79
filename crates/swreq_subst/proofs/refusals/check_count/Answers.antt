use Rattle.std.proofs.Common.{sym, ◌∙◌}
use Rattle.std.specs.Option.{option_map}
use Rattle.swreq_resolve.specs.swreq_names.Spaces.{word}
use Rattle.swreq_subst.proofs.refusals.check_count.Goals as goal

pub params-requires : goal.params-requires
params-requires c =
    let text = c.args.words.now.text.now in
    let d = c.args.c.now in
    ((c.args.words.now.ids.signatures (option_map (word text) d.callee_outer) (word text d.callee) c.in-Some.g).0
    (sym c.func_called.ensures ∙ c.in-Some.is)).0
