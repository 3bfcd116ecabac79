use Rattle.std.proofs.Common.{[], MatchOption, subst}
use Rattle.std.specs.Prelude.{⊤}
use Rattle.swreq_machine.specs.swreq_derive.Derivation.Source.{Written}
use Rattle.swreq_machine.specs.swreq_derive.Facts.{requirement_of}
use Rattle.swreq_machine.specs.swreq_correspondence.Symbols.{Word, right_side}
use Rattle.swreq_machine.specs.swreq_symbols.Meaning.{symbols_of}
use Rattle.swreq_minimal.specs.Evident.{HasSides}
use Rattle.swreq_minimal.proofs.evidence.rule_of.Goals as goal

pub returns : goal.returns
returns c =
    let text = c.args.text.now in
    let right = right_side (symbols_of text.world.now.lexicon) (Written [] []) (requirement_of text.table.now c.args.r) in
    subst (λ (z : Word). MatchOption c.oriented.result ⊤ (HasSides z right)) c.in_ok-sides.ensures.left
    (subst (λ (z : Word). MatchOption c.oriented.result ⊤ (HasSides c.in_ok-sides.sides.0 z)) c.in_ok-sides.ensures.right
    c.oriented.ensures)
