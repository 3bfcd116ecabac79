use Rattle.std.proofs.Common.{◌∙◌, ap, map}
use Rattle.std.proofs.lemmas.List.{take_all}
use Rattle.swreq_names.specs.Spaces.{declaration}
use Rattle.swreq_names.proofs.Pieces.{mapped_twice}
use Rattle.swreq_names.proofs.words.declarations.Goals as goal

pub returns : goal.returns
returns g c =
    c.loop-item.invariant ∙ ap (map (λ x. declaration c.args.text.now (g.T.Named.name_of x)))
    (take_all c.loop-item.item-index c.args.items.now c.loop-item-test.false)
    ∙ mapped_twice (declaration c.args.text.now) g.T.Named.name_of c.args.items.now
