use Rattle.std.proofs.Common.{◌∙◌, ◌<◌, List, length, Contains, subst, sym, ap, arith}
use Rattle.swreq_decl.specs.declared.skeleton.ProtocolDecl.{ProtocolDecl}
use Rattle.swreq_lexicon.specs.declared.pair.ProtocolName.{ProtocolName}
use Rattle.swreq_lexicon.specs.Texts.{declared_in}
use Rattle.swreq_lexicon.proofs.Declared.{named_within, declared_length}
use Rattle.swreq_lexicon.proofs.lexicon.pairs_of.Goals as goal

pub returns-clause-is : goal.returns-clause-is
returns-clause-is c = c.in_ok-pairs.ensures
    ∙ ap (λ (ps : List ProtocolDecl). declared_in c.args.text.now c.args.protocols.now.protocols c.args.names.now ps) c.items.ensures

pub returns-clause-few : goal.returns-clause-few
returns-clause-few c =
    let size = declared_length c.args.text.now c.args.skeleton.now c.args.protocols.now.protocols c.args.names.now in
    let small = c.requires.small.associated in
    let is = ap length (c.in_ok-pairs.ensures
    ∙ ap (λ (ps : List ProtocolDecl). declared_in c.args.text.now c.args.protocols.now.protocols c.args.names.now ps) c.items.ensures) in
    omega (arith, size, small, is)

pub returns-clause-within : goal.returns-clause-within
returns-clause-within c =
    subst (λ (xs : List ProtocolName). (d : ProtocolName) → Contains xs d → d.name.rank < length c.args.names.now)
    (sym (c.in_ok-pairs.ensures
    ∙ ap (λ (ps : List ProtocolDecl). declared_in c.args.text.now c.args.protocols.now.protocols c.args.names.now ps) c.items.ensures))
    (named_within c.args.text.now c.args.skeleton.now c.args.protocols.now.protocols c.args.names.now c.requires.names)
