use Rattle.std.proofs.Common.{◌≤◌, [], length, get_or, sym, subst}
use Rattle.swreq_lexicon.specs.swreq_names.Spaces.{Spaces}
use Rattle.swreq_lowering.specs.Words.{words_by}
use Rattle.swreq_world.specs.Places.{IsSmall}
use Rattle.swreq_world.proofs.Within.{asked_small}
use Rattle.swreq_world.proofs.queries.query_of.Goals as goal

pub func_id-function-requires : goal.func_id-function-requires
func_id-function-requires c =
    subst IsSmall (sym c.asked_signature-signature.ensures)
    (asked_small (words_by c.args.words.now)
    (λ i.
    subst (λ (d : Spaces). length (get_or d.nested i []) ≤ 1048576) (sym c.requires.declared.declared) (c.requires.short.functions_of i))
    c.args.asked.now.outer c.args.asked.now.function)
