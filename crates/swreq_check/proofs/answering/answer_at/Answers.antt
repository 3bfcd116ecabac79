use Rattle.std.proofs.Common.{◌∙◌, List, ap, get_or, refl}
use Rattle.std.proofs.lemmas.List.{get_or_default}
use Rattle.swreq_machine.specs.swreq_lowering.declared.ids.Query.{Query}
use Rattle.swreq_check.proofs.Settled.{piece_right}
use Rattle.swreq_machine.specs.swreq_lowering.ByTable.{no_query}
use Rattle.swreq_check.proofs.answering.answer_at.Goals as goal

pub piece_for-requires-clause-query : goal.piece_for-requires-clause-query
piece_for-requires-clause-query c =
    let q = get_or c.queries.result.now c.args.place no_query in
    c.requires.place.query q (ap (λ (qs : List Query). get_or qs c.args.place no_query) c.queries.ensures
    ∙ get_or_default c.args.means.now.own.s.now.world.now.queries c.args.place no_query q c.requires.place.below)

pub returns-clause-piece : goal.returns-clause-piece
returns-clause-piece c =
    let q = get_or c.queries.result.now c.args.place no_query in (
      c.in_ok-made.made,
      piece_right c.args.table.now c.args.means.now.own.s.now c.requires.answers c.args.place q c.requires.place.below
          (ap (λ (qs : List Query). get_or qs c.args.place no_query) c.queries.ensures
          ∙ get_or_default c.args.means.now.own.s.now.world.now.queries c.args.place no_query q c.requires.place.below) c.in_ok-made.made
          c.in_ok-made.ensures.piece,
      refl,
    )
