use Rattle.std.proofs.Common.{List, map, subst, ◌∙◌}
use Rattle.swreq_lowering.specs.Queries.{query_of}
use Rattle.swreq_lowering.specs.Words.{words_by}
use Rattle.swreq_lexicon.specs.swreq_names.declared.signature.Signature.{Signature}
use Rattle.swreq_world.specs.Entries.{FillsEntries}
use Rattle.swreq_world.specs.Filling.{FillsQueries}
use Rattle.swreq_world.specs.Own.{own_signature}
use Rattle.swreq_world.proofs.making.lists_of.Goals as goal

pub returns-clause-lists : goal.returns-clause-lists
returns-clause-lists c =
    let words = words_by c.args.words.now in
    record {
      second = c.requirements.new.table;
      third = c.entries.new.table;
      order = c.in_ok-order.ensures.ok ∙ c.in_ok-of.ensures;
      requirements = c.in_ok-requirements.ensures.fills;
      signatures = subst (λ (order : List Signature). FillsEntries c.requirements.new.table c.entries.new.table
          (map (own_signature words order) order) c.in_ok-signatures.signatures.items)
          c.deref.ensures c.in_ok-signatures.ensures.fills;
      queries = subst (λ (order : List Signature). FillsQueries c.entries.new.table c.queries.new.table
          (map (query_of words order) words.skeleton.queries) c.in_ok-queries.queries.items)
          c.deref-2.ensures c.in_ok-queries.ensures.fills;
    }
