-- Links and chains of equations within a longer word.
use Rattle.std.proofs.Common.{[], ◌∷◌, ◌++◌, append_assoc, subst₂, sym}
use Rattle.swreq_word.specs.Relations.Chain.{done, more}
use Rattle.swreq_correspondence.specs.Equations.{Link, Linking}
use Rattle.swreq_correspondence.specs.Equations.Link.{back, forth, there}
use Rattle.swreq_correspondence.specs.Symbols.{Word}

module _ {E : Word → Word → Type 0} where
  pub link_before : (x : Word) {u v : Word} → Link E u v → Link E (x ++ u) (x ++ v)
  link_before [] l = l
  link_before (a ∷ x) l = there a (link_before x l)

  pub link_after : (z : Word) {u v : Word} → Link E u v → Link E (u ++ z) (v ++ z)
  link_after z (forth {l = l} {r = r} y e) = subst₂ (Link E) (sym (append_assoc l y z)) (sym (append_assoc r y z)) (forth (y ++ z) e)
  link_after z (back {l = l} {r = r} y e) = subst₂ (Link E) (sym (append_assoc r y z)) (sym (append_assoc l y z)) (back (y ++ z) e)
  link_after z (there x l) = there x (link_after z l)

  pub chain_before : (x : Word) {u v : Word} → Linking E u v → Linking E (x ++ u) (x ++ v)
  chain_before x done = done
  chain_before x (more l c) = more (link_before x l) (chain_before x c)

  pub chain_after : (z : Word) {u v : Word} → Linking E u v → Linking E (u ++ z) (v ++ z)
  chain_after z done = done
  chain_after z (more l c) = more (link_after z l) (chain_after z c)
