use Rattle.std.proofs.Common.{ap}
use Rattle.swreq_correspondence.specs.swreq_word.declared.symbols.Symbol.TheVariants.{Member}
use Rattle.swreq_world.specs.swreq_lexicon.Lexicons.{pair}
use Rattle.swreq_symbols.specs.Meaning.{symbols_of}
use Rattle.swreq_complete.proofs.swreq_lemmas.Elements.{get_contains}
use Rattle.swreq_symbols.proofs.Declared.{from_rank, one_rank, symbol_at}
use Rattle.swreq_symbols.proofs.words.symbol_of_assoc.Goals as goal

pub unreachable-requires : goal.unreachable-requires
unreachable-requires c =
    let x = c.args.world.now.lexicon in
    let p = c.assoc-declared.result.proto in
    let a = c.assoc-declared.result.name in
    c.in-None.ensures (get_contains x.symbols ((symbols_of x).rank_of c.args.d) (pair p a)
    (symbol_at x p a c.args.d c.requires.ids (from_rank x p a c.args.d c.assoc-declared.ensures)))

pub returns : goal.returns
returns c =
    let x = c.args.world.now.lexicon in
    let p = c.assoc-declared.result.proto in
    let a = c.assoc-declared.result.name in
    ap Member (one_rank x p a c.args.d c.requires.ids (from_rank x p a c.args.d c.assoc-declared.ensures) c.in-Some.rank c.in-Some.ensures)
