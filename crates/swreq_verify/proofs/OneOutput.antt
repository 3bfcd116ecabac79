-- A second part has one output.
use Rattle.std.proofs.Common.{◌≡◌, ◌≢◌, ◌⊎◌, inl, inr, ◌∙◌, refl, sym, ap, subst, ℕ, suc, ◌-◌, ◌<◌, arith, List, [], ◌∷◌, ◌++◌, length, Some, slice_get}
use Rattle.std.proofs.lemmas.Bool.{cases_eq, cases_lt}
use Rattle.std.proofs.lemmas.List.{map-id}
use Rattle.std.proofs.lemmas.Option.{slice_get_within}
use Rattle.swreq_world.proofs.swreq_lemmas.Elements.{there_is}
use Rattle.swreq_world.specs.swreq_derive.Derivation.{TermRequirement}
use Rattle.swreq_world.specs.swreq_derive.Instances.{TermLine}
use Rattle.swreq_world.specs.swreq_lexicon.Views.{LexiconView}
use Rattle.swreq_lines.specs.LineTexts.{texts_from}
use Rattle.swreq_lines.proofs.ReadLines.{line_read}
use Rattle.swreq_world.specs.swreq_lowering.declared.ids.FuncId.{FuncId}
use Rattle.swreq_world.specs.swreq_lowering.Queries.{TermQuery}
use Rattle.swreq_world.specs.swreq_lowering.Queries.TermAsks.{AsksRequirement}
use Rattle.swreq_lines.specs.swreq_print.Names.{Text}
use Rattle.swreq_lines.specs.swreq_print.Reading.{TellsApart}
use Rattle.swreq_world.specs.Worlds.{TextWorld}
use Rattle.swreq_world.proofs.Whole.{alike_at}
use Rattle.swreq_verify.specs.declared.judging.Judgement.{Judgement}
use Rattle.swreq_verify.specs.declared.judging.Judgement.TheVariants.{Skipped, BadLine, Derived, NotThis}
use Rattle.swreq_verify.specs.Found.{IsFound}
use Rattle.swreq_verify.specs.Judgements.{IsDerivationFrom, IsFirstBadFrom, IsJudged, IsToDerive, yes}
use Rattle.swreq_verify.specs.Laying.{AreHeaded}
use Rattle.swreq_verify.specs.Outputs.{AreJudged, IsOutput, judgement_lines}
use Rattle.swreq_verify.specs.SecondParts.{AreSections, TermSection}
use Rattle.swreq_verify.proofs.Sectioned.{Each, Readable, flat, flat_headed, texts_under}

-- ---- sections

module _ (x : LexiconView) (names : TellsApart x) where
  pub derivation_one : (n : ℕ) (ls ks : List TermLine) (t u : List Text) → Readable x ls → Readable x ks
      → AreHeaded t → AreHeaded u → texts_from x n ls ++ t ≡ texts_from x n ks ++ u → (ls ≡ ks) × (t ≡ u)
  derivation_one n [] [] t u h j ht hu e = (refl, e)
  derivation_one n [] (k ∷ ks) t u h j ht hu e = absurd ((texts_under x n (k ∷ ks)).0 (subst AreHeaded e ht))
  derivation_one n (l ∷ ls) [] t u h j ht hu e = absurd ((texts_under x n (l ∷ ls)).0 (subst AreHeaded (sym e) hu))
  derivation_one n (l ∷ ls) (k ∷ ks) t u h j ht hu e =
      let one = line_read x names n l k h.0 j.0 cc in
      let more = derivation_one (suc n) ls ks t u h.1 j.1 ht hu cc in
      ((λ i. one i ∷ more.0 i), more.1)

  flat_one : (ss us : List TermSection) → Each x ss → Each x us → flat x ss ≡ flat x us → ss ≡ us
  flat_one [] [] h j e = refl
  flat_one [] (u ∷ us) h j e = absurd cc
  flat_one (s ∷ ss) [] h j e = absurd cc
  flat_one (s ∷ ss) (u ∷ us) h j e =
      let heading : s.heading ≡ u.heading = cc in
      let tail : texts_from x 1 s.derivation ++ flat x ss ≡ texts_from x 1 u.derivation ++ flat x us = cc in
      let one = derivation_one 1 s.derivation u.derivation (flat x ss) (flat x us) h.0.derivation j.0.derivation
      (flat_headed x ss h.1) (flat_headed x us j.1) tail in
      let more = flat_one ss us h.1 j.1 one.1 in
      λ i. record { heading = heading i; derivation = one.0 i } ∷ more i

  sections_one : (count : ℕ) (lines : List Text) (ss us : List TermSection) → AreSections x count lines ss
      → AreSections x count lines us → ss ≡ us
  sections_one count lines ss us a b = flat_one ss us a.each b.each (sym a.lines_are ∙ b.lines_are)

module _ (w : TextWorld) where
  -- ---- what is found of lines

  module _ (f : FuncId) (ls : List TermLine) where
    none_bad : (n : ℕ) → IsDerivationFrom w f ls → IsFirstBadFrom w f ls n → ⊥
    none_bad n d b = b.bad (d (n - 1) b.line b.number.1)

    not_earlier : (n m : ℕ) → IsFirstBadFrom w f ls n → IsFirstBadFrom w f ls m → n < m → ⊥
    not_earlier n m a b l = let some = a.number.0 in a.bad (b.before (n - 1) a.line (omega (arith, l, some)) a.number.1)

    bad_one : (n m : ℕ) → IsFirstBadFrom w f ls n → IsFirstBadFrom w f ls m → n ≡ m
    bad_one n m a b = elim (cases_eq n m) [
      | inl e ↦ e
      | inr d ↦ elim (cases_lt n m) [
        | inl l ↦ absurd (not_earlier n m a b l)
        | inr l ↦ absurd (not_earlier m n b a (omega (arith, l, d)))
      ]
    ]

  found_one : (f : FuncId) (r : TermRequirement) (ls : List TermLine) (i j : Judgement) → IsFound w f r ls i → IsFound w f r ls j → i ≡ j
  found_one f r ls Skipped j h k = absurd h
  found_one f r ls (BadLine n) Skipped h k = absurd k
  found_one f r ls (BadLine n) (BadLine m) h k = ap BadLine (bad_one f ls n m h k)
  found_one f r ls (BadLine n) Derived h k = absurd (none_bad f ls n k.0 h)
  found_one f r ls (BadLine n) NotThis h k = absurd (none_bad f ls n k.0 h)
  found_one f r ls Derived Skipped h k = absurd k
  found_one f r ls Derived (BadLine m) h k = absurd (none_bad f ls m h.0 k)
  found_one f r ls Derived Derived h k = refl
  found_one f r ls Derived NotThis h k = absurd (k.1 h.1)
  found_one f r ls NotThis Skipped h k = absurd k
  found_one f r ls NotThis (BadLine m) h k = absurd (none_bad f ls m h.0 k)
  found_one f r ls NotThis Derived h k = absurd (h.1 k.1)
  found_one f r ls NotThis NotThis h k = refl

  -- ---- judgements

  module _ (q : TermQuery) (s : TermSection) where
    asked_one : (r p : TermRequirement) → IsToDerive q s r → IsToDerive q s p → p ≡ r
    asked_one r p h k = let e : AsksRequirement p ≡ AsksRequirement r = sym k.asks ∙ h.asks in cc

    not_skipped : (r : TermRequirement) → IsToDerive q s r → ((p : TermRequirement) → q.asks ≢ AsksRequirement p) ⊎ (s.heading ≢ yes) → ⊥
    not_skipped r d (inl none) = none r d.asks
    not_skipped r d (inr n) = n d.heading

    judged_found : (r : TermRequirement) (j : Judgement) → IsToDerive q s r → IsJudged w q s j → IsFound w q.f r s.derivation j
    judged_found r Skipped d h = not_skipped r d h
    judged_found r (BadLine n) d (p, k, h) = h
    judged_found r Derived d (p, k, h, e) = subst (λ z. IsFound w q.f z s.derivation Derived) (asked_one r p d k) (h, e)
    judged_found r NotThis d (p, k, h, e) = subst (λ z. IsFound w q.f z s.derivation NotThis) (asked_one r p d k) (h, e)

    judgement_by : (r : TermRequirement) (i j : Judgement) → IsToDerive q s r → IsJudged w q s i → IsJudged w q s j → i ≡ j
    judgement_by r i j d h k = found_one q.f r s.derivation i j (judged_found r i d h) (judged_found r j d k)

    judgement_one : (i j : Judgement) → IsJudged w q s i → IsJudged w q s j → i ≡ j
    judgement_one Skipped Skipped h k = refl
    judgement_one i (BadLine n) h k = judgement_by k.0 i (BadLine n) k.1 h k
    judgement_one i Derived h k = judgement_by k.0 i Derived k.1 h k
    judgement_one i NotThis h k = judgement_by k.0 i NotThis k.1 h k
    judgement_one (BadLine n) Skipped h k = judgement_by h.0 (BadLine n) Skipped h.1 h k
    judgement_one Derived Skipped h k = judgement_by h.0 Derived Skipped h.1 h k
    judgement_one NotThis Skipped h k = judgement_by h.0 NotThis Skipped h.1 h k

  judgements_one : (ss : List TermSection) (is js : List Judgement) → length ss ≡ length w.queries
      → AreJudged w ss is → AreJudged w ss js → is ≡ js
  judgements_one ss is js count a b =
      let same : Judgement → Judgement = λ j. j in
      sym (map-id is) ∙ alike_at same same is js (a.count ∙ sym b.count) at ∙ map-id js
    where
      at : (k : ℕ) (i j : Judgement) → slice_get is k ≡ Some i → slice_get js k ≡ Some j → i ≡ j
      at k i j e g =
          let within = slice_get_within is k i e in
          let counted = a.count in
          let q = there_is w.queries k (omega (arith, within, counted)) in
          let s = there_is ss k (omega (arith, within, counted, count)) in
          judgement_one q.0 s.0 i j (a.each k i e q.0 s.0 q.1 s.1) (b.each k j g q.0 s.0 q.1 s.1)

  -- ---- outputs

  pub output_one : (second out other : Text) → TellsApart w.lexicon → IsOutput w second out → IsOutput w second other
      → out ≡ other
  output_one second out other names a b =
      let sections = sections_one w.lexicon names _ _ b.sections a.sections b.fits a.fits in
      let judged = subst (λ z. AreJudged w z b.judgements) sections b.judged in
      let one = judgements_one a.sections a.judgements b.judgements a.fits.counted a.judged judged in
      a.printed ∙ ap judgement_lines one ∙ sym b.printed
