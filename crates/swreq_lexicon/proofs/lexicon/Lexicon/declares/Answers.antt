use Rattle.std.proofs.Common.{◌∙◌, position, ap}
use Rattle.std.specs.Option.{option_map}
use Rattle.swreq_lexicon.specs.Lexicons.{is_pair, assoc_at}
use Rattle.swreq_lexicon.specs.Views.{LexiconView}
use Rattle.swreq_lexicon.proofs.PairPlaces.{declares_by}
use Rattle.swreq_lexicon.proofs.lexicon.Lexicon.declares.Goals as goal

pub returns : goal.returns
returns c =
    declares_by c.args.protocol c.args.name c.args.self.now.associated c.find.result
    (c.find.ensures ∙ ap (λ (x : LexiconView). option_map assoc_at (position (is_pair c.args.protocol c.args.name) x.associated))
    c.self.view_is)
