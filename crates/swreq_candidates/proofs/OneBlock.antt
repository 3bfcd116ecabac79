-- A word is least where its blocks are, and a minimal word is one block.
use Rattle.std.proofs.Common.{◌≡◌, ◌<◌, List, [], ◌∷◌, ◌++◌, length, length-append, append_assoc, append-nil, refl, ap, subst, subst₂, sym, ◌∙◌, inl, inr, arith}
use Rattle.std.specs.List.{All, AllZip}
use Rattle.std.proofs.lemmas.List.Elements.{All-cons, All-head, All-nil, All-tail}
use Rattle.swreq_canonical.specs.swreq_param.declared.ids.ParamId.{ParamId}
use Rattle.swreq_canonical.specs.swreq_derive.Derivation.{Source, TermFacts, TermRequirement}
use Rattle.swreq_canonical.specs.swreq_derive.Derivation.Source.{Written}
use Rattle.swreq_canonical.specs.swreq_word.Least.{EachFactor, IsLeast, IsMinimal}
use Rattle.swreq_canonical.specs.swreq_word.Order.{WordLess}
use Rattle.swreq_canonical.specs.swreq_correspondence.Equations.{AreCongruent, UsableEquation}
use Rattle.swreq_canonical.specs.swreq_correspondence.Symbols.{AreSymbolsOf, Symbols, Word}
use Rattle.swreq_canonical.proofs.swreq_correspondence.Orders.{none_less}
use Rattle.swreq_candidates.specs.Blocks.{AreMembersNamed, Cut, Place, blocks, current, joined_words}
use Rattle.swreq_candidates.specs.Blocks.Cut.{alone, at_end, on, opened}
use Rattle.swreq_candidates.specs.Blocks.Place.{Outside}
use Rattle.swreq_candidates.proofs.Blocks.{blocks_law}
use Rattle.swreq_candidates.proofs.Cuts.{whole_word}
use Rattle.swreq_candidates.proofs.LessParts.{less_in_parts, nothing_less}
use Rattle.swreq_candidates.proofs.Longer.{factor_least, least_by_none}

-- no block is empty
abbrev IsSome : Word → Type 0
IsSome b = 0 < length b

not_empty : {m : Symbols} {f : TermFacts} {s : Source} {o : Place} {w : Word} → (k : Cut m f s o w) → All IsSome (blocks k)
not_empty at_end = All-nil IsSome
not_empty (on c r) = not_empty r
not_empty (opened {x = x} n c r) = All-cons IsSome (x ∷ current r) (blocks r) (omega arith) (not_empty r)
not_empty (alone {x = x} n c r) = All-cons IsSome (x ∷ []) (blocks r) (omega arith) (not_empty r)

module _ (m : Symbols) (f : TermFacts) (ps : List ParamId) (list : List TermRequirement) (fit : AreSymbolsOf m f)
    (named : AreMembersNamed m f) where
  abbrev L : Source
  L = Written ps list

  abbrev C : Word → Word → Type 0
  C = AreCongruent m f L

  none_less_by_one : (bs cs : List Word) → All (IsLeast C) bs → AllZip C bs cs → WordLess (joined_words cs) (joined_words bs) → ⊥
  none_less_by_one [] [] l p h = nothing_less [] h
  none_less_by_one [] (c ∷ cs) l p h = p
  none_less_by_one (b ∷ bs) [] l p h = p
  none_less_by_one (b ∷ bs) (c ∷ cs) l (d, p) h = elim (less_in_parts c b (joined_words cs) (joined_words bs) h) [
    | inl k ↦ none_less C b c (All-head (IsLeast C) b bs l) d k
    | inr k ↦ none_less_by_one bs cs (All-tail (IsLeast C) b bs l) p k
  ]

  pub least_by_blocks : (u : Word) (k : Cut m f L Outside u) → All (IsLeast C) (blocks k) → IsLeast C u
  least_by_blocks u k l = least_by_none C u (λ v c h.
      let z = blocks_law m f ps list fit named c k in
      none_less_by_one (blocks k) (blocks z.0) l z.1
      (subst₂ WordLess (sym (whole_word m f L v z.0)) (sym (whole_word m f L u k)) h))

  -- the words that make a least word are least
  parts_least : (u before : Word) (bs : List Word) → IsLeast C u → u ≡ before ++ joined_words bs → All (IsLeast C) bs
  parts_least u before [] l e = All-nil (IsLeast C)
  parts_least u before (b ∷ bs) l e =
      All-cons (IsLeast C) b bs (factor_least (UsableEquation m f L) u before b (joined_words bs) l e)
      (parts_least u (before ++ b) bs l (e ∙ sym (append_assoc before b (joined_words bs))))

  pub least_blocks : (u : Word) (k : Cut m f L Outside u) → IsLeast C u → All (IsLeast C) (blocks k)
  least_blocks u k l = parts_least u [] (blocks k) l (sym (whole_word m f L u k))

  -- each part of a minimal word is least that stands after others
  later_least : (u before : Word) (bs : List Word) → EachFactor u (IsLeast C) → 0 < length before
      → u ≡ before ++ joined_words bs → All (IsLeast C) bs
  later_least u before [] h n e = All-nil (IsLeast C)
  later_least u before (b ∷ bs) h n e =
      let i = ap length e in
      All-cons (IsLeast C) b bs
      (h before b (joined_words bs) e (omega (arith, length-append before (b ++ joined_words bs), length-append b (joined_words bs))))
      (later_least u (before ++ b) bs h (omega (arith, length-append before b)) (e ∙ sym (append_assoc before b (joined_words bs))))

  pub one_block : (u : Word) (k : Cut m f L Outside u) → IsMinimal C u → blocks k ≡ u ∷ []
  one_block u k h = by_number (blocks k) refl
    where
      by_number : (bs : List Word) → blocks k ≡ bs → blocks k ≡ u ∷ []
      by_number [] e = absurd (h.not_least (least_by_blocks u k (subst (All (IsLeast C)) (sym e) (All-nil (IsLeast C)))))
      by_number (b ∷ []) e = e ∙ ap (λ w. w ∷ []) (sym (append-nil b) ∙ (ap joined_words (sym e) ∙ whole_word m f L u k))
      by_number (b ∷ c ∷ bs) e =
          let q : u ≡ b ++ (c ++ joined_words bs) = sym (whole_word m f L u k) ∙ ap joined_words e in
          let some = subst (All IsSome) e (not_empty k) in
          let n : 0 < length b = All-head IsSome b (c ∷ bs) some in
          let p : 0 < length c = All-head IsSome c bs (All-tail IsSome b (c ∷ bs) some) in
          let i = ap length q in
          let l : length b < length u = omega (arith, length-append b (c ++ joined_words bs), length-append c (joined_words bs)) in
          absurd (h.not_least (least_by_blocks u k (subst (All (IsLeast C)) (sym e)
          (All-cons (IsLeast C) b (c ∷ bs) (h.factors [] b (c ++ joined_words bs) q l) (later_least u b (c ∷ bs) h.factors n q)))))
