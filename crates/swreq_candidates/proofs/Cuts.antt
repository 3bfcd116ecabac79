-- A word is cut in one way, its blocks make the word, and words are congruent if and only if their blocks are.
use Rattle.std.proofs.Common.{◌≡◌, ◌↔◌, List, [], ◌∷◌, ◌++◌, refl, ap, ap₂, subst, subst₂}
use Rattle.std.specs.List.{AllZip}
use Rattle.swreq_canonical.specs.swreq_param.declared.ids.ParamId.{ParamId}
use Rattle.swreq_canonical.specs.swreq_derive.Derivation.{Source, TermFacts, TermRequirement}
use Rattle.swreq_canonical.specs.swreq_derive.Derivation.Source.{Written}
use Rattle.swreq_canonical.specs.swreq_word.Relations.Chain.{done}
use Rattle.swreq_canonical.proofs.swreq_word.Chains.{joined}
use Rattle.swreq_canonical.specs.swreq_correspondence.Equations.{AreCongruent, Linking, UsableEquation}
use Rattle.swreq_canonical.specs.swreq_correspondence.Symbols.{AreSymbolsOf, Symbols, Word}
use Rattle.swreq_candidates.specs.Blocks.{AreMembersNamed, Cut, Place, blocks, current, joined_words}
use Rattle.swreq_candidates.specs.Blocks.Cut.{alone, at_end, on, opened}
use Rattle.swreq_candidates.specs.Blocks.Place.{Outside}
use Rattle.swreq_candidates.proofs.Blocks.{blocks_law}
use Rattle.swreq_canonical.proofs.swreq_correspondence.Context.{chain_after, chain_before}

module _ {m : Symbols} {f : TermFacts} {s : Source} where
  one_cut : {o : Place} {w : Word} → (k l : Cut m f s o w) → (current k ≡ current l) × (blocks k ≡ blocks l)
  one_cut at_end at_end = (refl, refl)
  one_cut (on {x = x} c r) (on d q) = let z = one_cut r q in (ap (λ u. x ∷ u) z.0, z.1)
  one_cut (on c r) (opened n d q) = absurd (n c)
  one_cut (on c r) (alone n d q) = absurd (n c)
  one_cut (opened n c r) (on d q) = absurd (n d)
  one_cut (opened {x = x} n c r) (opened k d q) = let z = one_cut r q in (refl, ap₂ (λ u us. (x ∷ u) ∷ us) z.0 z.1)
  one_cut (opened n c r) (alone k d q) = absurd (d c)
  one_cut (alone n c r) (on d q) = absurd (n d)
  one_cut (alone n c r) (opened k d q) = absurd (c d)
  one_cut (alone {x = x} n c r) (alone k d q) = let z = one_cut r q in (refl, ap (λ us. (x ∷ []) ∷ us) z.1)

  none_current : {w : Word} → (k : Cut m f s Outside w) → current k ≡ []
  none_current at_end = refl
  none_current (opened n c r) = refl
  none_current (alone n c r) = refl

  all_joined : {o : Place} {w : Word} → (k : Cut m f s o w) → current k ++ joined_words (blocks k) ≡ w
  all_joined at_end = refl
  all_joined (on {x = x} c r) = ap (λ u. x ∷ u) (all_joined r)
  all_joined (opened {x = x} n c r) = ap (λ u. x ∷ u) (all_joined r)
  all_joined (alone {x = x} {w = w} n c r) = ap (λ u. x ∷ u) (subst (λ u. u ++ joined_words (blocks r) ≡ w) (none_current r) (all_joined r))

pub same_blocks : (m : Symbols) (f : TermFacts) (s : Source) (u : Word) (k l : Cut m f s Outside u) → blocks k ≡ blocks l
same_blocks m f s u k l = (one_cut k l).1

pub whole_word : (m : Symbols) (f : TermFacts) (s : Source) (u : Word) (k : Cut m f s Outside u) → joined_words (blocks k) ≡ u
whole_word m f s u k = subst (λ v. v ++ joined_words (blocks k) ≡ u) (none_current k) (all_joined k)

chain_joined : (E : Word → Word → Type 0) (us vs : List Word) → AllZip (Linking E) us vs → Linking E (joined_words us) (joined_words vs)
chain_joined E [] [] p = done
chain_joined E [] (v ∷ vs) p = absurd p
chain_joined E (u ∷ us) [] p = absurd p
chain_joined E (u ∷ us) (v ∷ vs) (c, p) = joined (chain_after (joined_words us) c) (chain_before v (chain_joined E us vs p))

module _ (m : Symbols) (f : TermFacts) (ps : List ParamId) (list : List TermRequirement) (fit : AreSymbolsOf m f)
    (named : AreMembersNamed m f) where
  abbrev C : Word → Word → Type 0
  C = AreCongruent m f (Written ps list)

  pub congruent_by_blocks : (u v : Word) (k : Cut m f (Written ps list) Outside u) (l : Cut m f (Written ps list) Outside v)
      → C u v ↔ AllZip C (blocks k) (blocks l)
  congruent_by_blocks u v k l = (
    (λ c. let z = blocks_law m f ps list fit named c k in
        subst (λ us. AllZip C (blocks k) us) (same_blocks m f (Written ps list) v z.0 l) z.1),
    λ p. subst₂ C (whole_word m f (Written ps list) u k) (whole_word m f (Written ps list) v l)
        (chain_joined (UsableEquation m f (Written ps list)) (blocks k) (blocks l) p),
  )
