-- Sections over a table that grows.
use Rattle.std.proofs.Common.{◌≡◌, refl, sym, ap, ap₂, subst, List, [], ◌∷◌, map}
use Rattle.std.specs.List.{AllByRecursion}
use Rattle.swreq_world.specs.swreq_derive.Instances.{TermLine}
use Rattle.swreq_world.specs.swreq_lexicon.Views.{LexiconView}
use Rattle.swreq_lines.proofs.Grown.{line_ids, lines_still}
use Rattle.swreq_world.specs.swreq_param.Tables.{Extends}
use Rattle.swreq_world.specs.swreq_param.Terms.{Term}
use Rattle.swreq_verify.specs.declared.reading.Section.{Section}
use Rattle.swreq_verify.specs.Laying.{IsSectionOver, section_of}
use Rattle.swreq_verify.specs.SecondParts.{IsSection, TermSection}

module _ (old new : List Term) (extends : Extends old new) (x : LexiconView) where
  section_stays : (s : Section) → IsSectionOver x old s → section_of new s ≡ section_of old s
  section_stays s h =
      ap (λ (ls : List TermLine). record { heading = s.heading.now; derivation = ls })
      (lines_still old new extends x s.derivation.items h.ids)

  over_stays : (s : Section) → IsSectionOver x old s → IsSectionOver x new s
  over_stays s h = record {
    ids = λ l c. line_ids old new extends x l (h.ids l c);
    section = subst (IsSection x) (sym (section_stays s h)) h.section;
  }

  pub each_stays : (ss : List Section) → AllByRecursion (IsSectionOver x old) ss → AllByRecursion (IsSectionOver x new) ss
  each_stays [] h = tt
  each_stays (s ∷ ss) h = (over_stays s h.0, each_stays ss h.1)

  pub sections_stay : (ss : List Section) → AllByRecursion (IsSectionOver x old) ss → map (section_of new) ss ≡ map (section_of old) ss
  sections_stay [] h = refl
  sections_stay (s ∷ ss) h = ap₂ (λ (a : TermSection) (b : List TermSection). a ∷ b) (section_stays s h.0) (sections_stay ss h.1)
