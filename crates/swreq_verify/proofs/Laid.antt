-- Sections that are read, one after the other.
use Rattle.std.proofs.Common.{◌≡◌, ◌∙◌, refl, sym, ap, subst, ℕ, ◌+◌, ◌<◌, ◌≤◌, arith, List, [], ◌∷◌, ◌++◌, length, map, append_assoc, length-append}
use Rattle.std.specs.List.{AllByRecursion}
use Rattle.std.proofs.lemmas.List.{append-nil, length-map, map-append}
use Rattle.swreq_world.specs.swreq_derive.Lines.{line_of}
use Rattle.swreq_world.specs.swreq_lexicon.Views.{LexiconView}
use Rattle.swreq_world.specs.swreq_param.Tables.{Extends}
use Rattle.swreq_world.specs.swreq_param.Terms.{Term}
use Rattle.swreq_text.specs.Lines.{lines}
use Rattle.swreq_text.proofs.Lined.{few_lines, lines-some}
use Rattle.swreq_lines.specs.swreq_print.Names.{Text}
use Rattle.swreq_verify.specs.declared.reading.Section.{Section}
use Rattle.swreq_verify.specs.Laying.{AreHeaded, IsFront, IsNoSection, IsSectionOver, section_of}
use Rattle.swreq_verify.specs.SecondParts.{AreSections, IsFirstMisfit, IsSection, section_lines}
use Rattle.swreq_world.proofs.swreq_lemmas.Members.{each_append}
use Rattle.swreq_verify.proofs.Sectioned.{flat, flat-push, length-texts_from, no_section, too_many}
use Rattle.swreq_verify.proofs.Staying.{each_stays, sections_stay}

-- These sections are read of the text, over the table; this many lines are theirs, and the rest is left.
pub record IsLaid (x : LexiconView) (count : ℕ) (text : Text) (terms : List Term) (ss : List Section) (before : ℕ)
    (rest : Text) : Type 0 where
  pub each : AllByRecursion (IsSectionOver x terms) ss
  pub few : length ss ≤ count
  pub lines_are : lines text ≡ flat x (map (section_of terms) ss) ++ lines rest
  pub before_is : before ≡ length (flat x (map (section_of terms) ss))
  pub headed : 0 < length ss → AreHeaded (lines rest)
  pub shorter : length rest ≤ length text

module _ (x : LexiconView) (count : ℕ) (text : Text) where
  pub none_laid : (terms : List Term) → IsLaid x count text terms [] 0 text
  none_laid terms = record {
    each = tt;
    few = omega arith;
    lines_are = refl;
    before_is = refl;
    headed = λ l. absurd (omega (arith, l));
    shorter = omega arith;
  }

  pub laid_more : (old new : List Term) (ss : List Section) (s : Section) (before : ℕ) (rest left : Text)
      → IsLaid x count text old ss before rest
      → length ss < count → Extends old new → IsSectionOver x new s → IsFront x (lines rest) (section_of new s) (lines left)
      → length left ≤ length rest
      → IsLaid x count text new (ss ++ (s ∷ [])) (before + (length s.derivation.items + 1)) left
  laid_more old new ss s before rest left laid few extends over front less =
      let olds = map (section_of old) ss in
      let news = map (section_of new) ss in
      let one = section_of new s in
      let stay = sections_stay old new extends x ss laid.each in
      let all : map (section_of new) (ss ++ (s ∷ [])) ≡ news ++ (one ∷ []) = map-append (section_of new) ss (s ∷ []) in
      let push : flat x (map (section_of new) (ss ++ (s ∷ []))) ≡ flat x news ++ section_lines x one = ap (flat x) all
      ∙ flat-push x news one in
      let same : length (flat x news) ≡ length (flat x olds) = ap (λ z. length (flat x z)) stay in
      let long = ap length push ∙ length-append (flat x news) (section_lines x one) in
      let texts = length-texts_from x 1 one.derivation in
      let lines_of = length-map s.derivation.items (line_of new) in
      let sections = length-append ss (s ∷ []) in
      let shorter = laid.shorter in
      let was = laid.before_is in
      record {
        each = each_append (IsSectionOver x new) ss (s ∷ []) (each_stays old new extends x ss laid.each) (over, tt);
        few = omega arith;
        lines_are = laid.lines_are ∙ ap (λ z. flat x z ++ lines rest) (sym stay) ∙ ap (λ z. flat x news ++ z) front.lines_are
            ∙ sym (append_assoc (flat x news) (section_lines x one) (lines left)) ∙ ap (λ z. z ++ lines left) (sym push);
        before_is = omega arith;
        headed = λ l. front.headed;
        shorter = omega arith;
      }

  -- there are no more lines than bytes
  pub laid_within : (terms : List Term) (ss : List Section) (before : ℕ) (rest : Text) → IsLaid x count text terms ss before rest
      → before ≤ length text
  laid_within terms ss before rest laid =
      let n = ap length laid.lines_are ∙ length-append (flat x (map (section_of terms) ss)) (lines rest) in
      let few = few_lines text in
      let was = laid.before_is in
      omega arith

  sections_are : (terms : List Term) (ss : List Section) → AllByRecursion (IsSectionOver x terms) ss
      → AllByRecursion (IsSection x) (map (section_of terms) ss)
  sections_are terms [] h = tt
  sections_are terms (s ∷ ss) h = (h.0.section, sections_are terms ss h.1)

  pub all_laid : (terms : List Term) (ss : List Section) (before : ℕ) (rest : Text) → IsLaid x count text terms ss before rest
      → count ≤ length ss → rest ≡ []
      → AreSections x count (lines text) (map (section_of terms) ss)
  all_laid terms ss before rest laid enough none =
      let n = length-map ss (section_of terms) in
      let few = laid.few in
      record {
        counted = omega arith;
        each = sections_are terms ss laid.each;
        lines_are = laid.lines_are ∙ ap (λ z. flat x (map (section_of terms) ss) ++ lines z) none
            ∙ append-nil (flat x (map (section_of terms) ss));
      }

  pub too_many_laid : (terms : List Term) (ss : List Section) (before : ℕ) (rest : Text) → IsLaid x count text terms ss before rest
      → count ≤ length ss → (rest ≡ [] → ⊥)
      → IsFirstMisfit x count (lines text) (before + 1)
  too_many_laid terms ss before rest laid enough some = by (lines rest) refl
    where
      no_line : (t : Text) → (t ≡ [] → ⊥) → lines t ≡ [] → ⊥
      no_line [] some e = some refl
      no_line (c ∷ t) some e = lines-some c t e

      by : (ls : List Text) → lines rest ≡ ls → IsFirstMisfit x count (lines text) (before + 1)
      by [] e = absurd (no_line rest some e)
      by (line ∷ more) e =
          let n = length-map ss (section_of terms) in
          let few = laid.few in
          subst (λ (k : ℕ). IsFirstMisfit x count (lines text) (k + 1)) (sym laid.before_is)
          (too_many x count (lines text) (map (section_of terms) ss) (sections_are terms ss laid.each) line more (omega arith)
          (λ l. subst AreHeaded e (laid.headed (omega arith))) (laid.lines_are ∙ ap (λ z. flat x (map (section_of terms) ss) ++ z) e))

  pub misfit_laid : (terms : List Term) (ss : List Section) (before k : ℕ) (rest : Text) → IsLaid x count text terms ss before rest
      → length ss < count
      → IsNoSection x (lines rest) k → IsFirstMisfit x count (lines text) (before + (k + 1))
  misfit_laid terms ss before k rest laid few none =
      let n = length-map ss (section_of terms) in
      subst (λ (b : ℕ). IsFirstMisfit x count (lines text) (b + (k + 1))) (sym laid.before_is)
      (no_section x count (lines text) (map (section_of terms) ss) (sections_are terms ss laid.each) (lines rest) k (omega arith)
      (λ l. laid.headed (omega arith)) laid.lines_are none)
