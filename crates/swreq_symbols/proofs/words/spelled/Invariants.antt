use Rattle.std.proofs.Common.{◌≡◌, reverse}
use Rattle.swreq_correspondence.specs.swreq_param.Tables.{term_at}
use Rattle.swreq_correspondence.specs.swreq_param.Terms.{member_count}
use Rattle.swreq_correspondence.specs.Symbols.{steps}
use Rattle.swreq_symbols.specs.Known.{IsTypeIn}
use Rattle.swreq_symbols.specs.Meaning.{symbols_of}
use Rattle.swreq_symbols.specs.Overs.{ending}
use Rattle.swreq_symbols.proofs.words.spelled.Given as goal

abbrev pub invariant-members : goal.invariant-members
invariant-members l = record {
  known : IsTypeIn l.text.table.now l.text.world.now.lexicon l.at;
  spelled : steps (symbols_of l.text.world.now.lexicon) (term_at l.text.table.now l.at) (reverse l.symbols.items)
      ≡ steps (symbols_of l.text.world.now.lexicon) (term_at l.text.table.now l.t) (ending l.fn.end);
}

abbrev pub decreases-members : goal.decreases-members
decreases-members l = member_count (term_at l.text.table.now l.at)
