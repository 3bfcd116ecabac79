use Rattle.std.proofs.Common.{◌≡◌, ◌<◌, IfOk, ap, subst, arith, List, get_or, length}
use Rattle.std.proofs.lemmas.Option.{slice_get-get_or}
use Rattle.std.proofs.lemmas.Result.{IfOk-weaker}
use Rattle.swreq_world.proofs.swreq_lemmas.Elements.{get_map}
use Rattle.swreq_world.specs.swreq_lowering.declared.ids.Query.{Query}
use Rattle.swreq_world.specs.swreq_lowering.ByTable.{query_by, no_query}
use Rattle.swreq_world.specs.ByTable.{world_by}
use Rattle.swreq_symbols.proofs.OfText.{query_at as known_at}
use Rattle.swreq_verify.specs.Judgements.{IsJudged}
use Rattle.swreq_symbols.specs.Texts.{world_of}
use Rattle.swreq_verify.specs.Claims.{LaidView, sections_of}
use Rattle.swreq_verify.specs.Laying.{section_of}
use Rattle.swreq_verify.specs.Outputs.{IsSaidAt}
use Rattle.swreq_symbols.proofs.OfTexts.{text_over}
use Rattle.swreq_verify.proofs.judging.judgement_at.Goals as goal

pub judgement_of-requires-clause-query : goal.judgement_of-requires-clause-query
judgement_of-requires-clause-query c =
    let text = c.laid.inside.text in
    let below = c.requires.k in
    let seen = ap (λ (v : LaidView). length v.text.world.now.queries) c.laid.view_is in
    let same = ap length c.queries-queries.ensures in
    known_at text.world.now text.table.now (text_over text) c.queries-queries.result.now c.args.k no_query
    c.queries-queries.ensures (omega (arith, same, below, seen))

pub returns-clause-said : goal.returns-clause-said
returns-clause-said c =
    let text = c.laid.inside.text in
    let terms = text.table.now in
    let queries = text.world.now.queries in
    let sections = c.laid.inside.sections.now in
    let k = c.args.k in
    let count = c.laid.invariant.count in
    let seen = ap (λ (v : LaidView). length v.text.world.now.queries) c.laid.view_is in
    let below : k < length queries = (let l = c.requires.k in omega (arith, l, seen)) in
    let query = get_or queries k no_query in
    let query_at = get_map (query_by terms) queries k query (slice_get-get_or queries k no_query below) in
    let section = get_or sections k c.index-laid-k.result in
    let section_at = get_map (section_of terms) sections k section
    (slice_get-get_or sections k c.index-laid-k.result (omega (arith, count, below))) in
    let W = world_by terms text.world.now in
    subst (λ (v : LaidView). IfOk c.judgement_of.result (λ s. IsSaidAt (world_of v.text) (sections_of v) k s.judgement)) c.laid.view_is
    (IfOk-weaker c.judgement_of.result _ _ (λ s judged q t a b.
    (let same_query : query_by terms (get_or c.queries-queries.result.now k no_query) ≡ q =
    cc (ap (λ (qs : List Query). query_by terms (get_or qs k no_query)) c.queries-queries.ensures, query_at, a) in
    let same_section : section_of terms section ≡ t = cc (section_at, b) in
    subst (λ z. IsJudged W z t s.judgement) same_query
    (subst (λ z. IsJudged W (query_by terms (get_or c.queries-queries.result.now k no_query)) z s.judgement) same_section judged)))
    c.judgement_of.ensures.said)
