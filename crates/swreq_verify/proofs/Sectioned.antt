-- The lines of sections: where one section ends, and which lines are the first ones of this many sections.
use Rattle.std.proofs.Common.{◌≡◌, ◌∙◌, refl, sym, ap, subst, ℕ, suc, ◌+◌, ◌-◌, ◌<◌, ◌≤◌, arith, List, [], ◌∷◌, ◌++◌, inl, inr, length, zero, append_assoc, length-append}
use Rattle.std.specs.Prelude.{replicate}
use Rattle.std.specs.List.{AllByRecursion, flat_map}
use Rattle.std.proofs.lemmas.Grind.{flat_map-append}
use Rattle.std.proofs.lemmas.List.{append-nil, length-replicate, nil_from_length}
use Rattle.swreq_world.specs.swreq_derive.Instances.{TermLine}
use Rattle.swreq_world.proofs.swreq_lemmas.Members.{each_append}
use Rattle.swreq_world.specs.swreq_lexicon.Views.{LexiconView}
use Rattle.swreq_lines.specs.GoodLines.{IsReadableLine}
use Rattle.swreq_lines.specs.LineTexts.{line_text, texts_from}
use Rattle.swreq_lines.specs.swreq_print.Names.{Text}
use Rattle.swreq_verify.specs.Laying.{AreHeaded, IsNoSection, IsUnder}
use Rattle.swreq_verify.specs.SecondParts.{AreSections, Begin, IsFirstMisfit, IsHeading, IsSection, IsStuck, TermSection, section_lines}

each_replicate : {A : Type 0} (P : A → Type 0) (n : ℕ) (a : A) → P a → AllByRecursion P (replicate n a)
each_replicate P zero a h = tt
each_replicate P (suc n) a h = (h, each_replicate P n a h)

-- ---- where lines that begin with a space end

-- after two runs of such lines the same is left
same_rest : (b c t u : List Text) → AllByRecursion IsUnder b → AllByRecursion IsUnder c → AreHeaded t → AreHeaded u → b ++ t ≡ c ++ u
    → t ≡ u
same_rest [] [] t u hb hc ht hu e = e
same_rest [] (l ∷ c) t u hb hc ht hu e = absurd (hc.0 (subst AreHeaded e ht))
same_rest (k ∷ b) [] t u hb hc ht hu e = absurd (hb.0 (subst AreHeaded (sym e) hu))
same_rest (k ∷ b) (l ∷ c) t u hb hc ht hu e = same_rest b c t u hb.1 hc.1 ht hu (let rest : b ++ t ≡ c ++ u = cc in rest)

headed_append : (ls rest : List Text) → AreHeaded ls → AreHeaded rest → AreHeaded (ls ++ rest)
headed_append [] rest h k = k
headed_append (l ∷ ls) rest h k = h

module _ (x : LexiconView) where
  abbrev pub Readable : List TermLine → Type 0
  Readable ls = AllByRecursion (IsReadableLine x) ls

  abbrev pub Each : List TermSection → Type 0
  Each ss = AllByRecursion (IsSection x) ss

  abbrev pub flat : List TermSection → List Text
  flat ss = flat_map (section_lines x) ss

  -- ---- the lines of a derivation

  line_under : (n : ℕ) (l : TermLine) → IsUnder (line_text x n l)
  line_under n l h = h refl

  pub texts_under : (n : ℕ) (ls : List TermLine) → AllByRecursion IsUnder (texts_from x n ls)
  texts_under n [] = tt
  texts_under n (l ∷ ls) = (line_under n l, texts_under (suc n) ls)

  pub length-texts_from : (n : ℕ) (ls : List TermLine) → length (texts_from x n ls) ≡ length ls
  length-texts_from n [] = refl
  length-texts_from n (l ∷ ls) = ap suc (length-texts_from (suc n) ls)

  -- a line that begins with a space, after lines of a derivation, is its next one
  next_text : (n : ℕ) (ds es : List TermLine) (line : Text) (more t : List Text) → Readable es → IsUnder line → AreHeaded t
      → texts_from x n ds ++ (line ∷ more) ≡ texts_from x n es ++ t
      → (l : TermLine) × IsReadableLine x l × (line ≡ line_text x (length ds + n) l)
  next_text n [] [] line more t h under ht e = absurd (under (subst AreHeaded (sym e) ht))
  next_text n [] (d ∷ es) line more t h under ht e =
      let same : line ≡ line_text x n d = cc in
      let number : n ≡ 0 + n = omega arith in
      (d, h.0, same ∙ ap (λ (k : ℕ). line_text x k d) number)
  next_text n (d ∷ ds) [] line more t h under ht e = absurd (line_under n d (subst AreHeaded (sym e) ht))
  next_text n (d ∷ ds) (f ∷ es) line more t h under ht e =
      let rest : texts_from x (suc n) ds ++ (line ∷ more) ≡ texts_from x (suc n) es ++ t = cc in
      let found = next_text (suc n) ds es line more t h.1 under ht rest in
      let number : length ds + suc n ≡ suc (length ds) + n = omega arith in
      (found.0, found.1, found.2 ∙ ap (λ (k : ℕ). line_text x k found.0) number)

  -- ---- sections

  pub flat_headed : (ss : List TermSection) → Each ss → AreHeaded (flat ss)
  flat_headed [] h = tt
  flat_headed (s ∷ ss) h = h.0.heading

  pub flat-push : (ss : List TermSection) (s : TermSection) → flat (ss ++ (s ∷ [])) ≡ flat ss ++ section_lines x s
  flat-push ss s = flat_map-append (section_lines x) ss (s ∷ []) ∙ ap (λ z. flat ss ++ z) (append-nil (section_lines x s))

  -- sections whose lines stand at the front of those of others are as many of them, and the rest are the lines of the others that are left
  same_front : (ss us : List TermSection) (w : List Text) → Each us → AreHeaded w → Each ss → flat ss ++ w ≡ flat us
      → (vs : List TermSection) × (w ≡ flat vs) × Each vs × (length ss + length vs ≡ length us)
  same_front [] us w hu hw hs e = (us, e, hu, omega arith)
  same_front (s ∷ ss) [] w hu hw hs e = absurd cc
  same_front (s ∷ ss) (u ∷ us) w hu hw hs e =
      let t = texts_from x 1 s.derivation in
      let tail : (t ++ flat ss) ++ w ≡ texts_from x 1 u.derivation ++ flat us = cc in
      let rest =
      same_rest t (texts_from x 1 u.derivation) (flat ss ++ w) (flat us) (texts_under 1 s.derivation) (texts_under 1 u.derivation)
      (headed_append (flat ss) w (flat_headed ss hs.1) hw) (flat_headed us hu.1) (sym (append_assoc t (flat ss) w) ∙ tail) in
      let found = same_front ss us w hu.1 hw hs.1 rest in
      let n = found.3 in
      (found.0, found.1, found.2, omega arith)

  -- no line is left where no section is
  no_lines : (vs : List TermSection) → [] ≡ flat vs → length vs ≡ 0
  no_lines [] e = refl
  no_lines (v ∷ vs) e = absurd cc

  -- ---- what sections begin with

  abbrev empty : TermSection
  empty = record { heading = []; derivation = [] }

  -- the lines of at most `count` sections are the first ones of `count` sections
  begins : (count : ℕ) (ss : List TermSection) → Each ss → length ss ≤ count → Begin x count (flat ss)
  begins count ss h few =
      let fill = replicate (count - length ss) empty in
      let n = length-append ss fill in
      let m = length-replicate (count - length ss) empty in (
        flat fill,
        ss ++ fill,
        record {
          counted = omega arith;
          each = each_append (IsSection x) ss fill h
              (each_replicate (IsSection x) (count - length ss) empty (record { heading = tt; derivation = tt }));
          lines_are = sym (flat_map-append (section_lines x) ss fill);
        },
      )

  -- ---- the first line that does not fit

  -- a line is missing
  missing : (count : ℕ) (ss : List TermSection) → Each ss → length ss < count → (us : List TermSection) → AreSections x count (flat ss) us
      → ⊥
  missing count ss h few us a =
      let found = same_front ss us [] a.each tt h (append-nil (flat ss) ∙ a.lines_are) in
      let none = no_lines found.0 found.1 in
      let n = found.3 in
      let m = a.counted in
      absurd (omega arith)

  -- all sections are there, and a line is left
  one_too_many : (count : ℕ) (ss : List TermSection) (line : Text) → Each ss → length ss ≡ count → (0 < length ss → IsHeading line)
      → Begin x count (flat ss ++ (line ∷ [])) → ⊥
  one_too_many count [] line h all heads (more, us, a) =
      let none = nil_from_length us (a.counted ∙ sym all) in
      let e : line ∷ more ≡ [] = a.lines_are ∙ ap flat none in
      cc
  one_too_many count (s ∷ ss) line h all heads (more, us, a) =
      let found = same_front (s ∷ ss) us (line ∷ more) a.each (heads (omega arith)) h (sym (append_assoc (flat (s ∷ ss)) (line ∷ []) more)
      ∙ a.lines_are) in
      let n = found.3 in
      let m = a.counted in
      let none = nil_from_length found.0 (omega arith) in
      let e : line ∷ more ≡ [] = found.1 ∙ ap flat none in
      cc

  -- the first line begins with a space
  no_heading : (count : ℕ) (line : Text) → IsUnder line → Begin x count (line ∷ []) → ⊥
  no_heading count line under (more, us, a) = by us a.each a.lines_are
    where
      by : (us : List TermSection) → Each us → line ∷ more ≡ flat us → ⊥
      by [] h e = cc
      by (u ∷ us) h e = let same : line ≡ u.heading = cc in under (subst IsHeading (sym same) h.0.heading)

  -- after a heading and lines of a derivation a line begins with a space, and is no next one
  bad_under : (count : ℕ) (ss : List TermSection) (heading : Text) (ds : List TermLine) (line : Text) → Each ss → IsHeading heading
      → IsUnder line
      → ((l : TermLine) → IsReadableLine x l → line ≡ line_text x (length ds + 1) l → ⊥)
      → Begin x count ((flat ss ++ (heading ∷ texts_from x 1 ds)) ++ (line ∷ [])) → ⊥
  bad_under count ss heading ds line h is_heading under bad (more, us, a) =
      let t = texts_from x 1 ds in
      let w = heading ∷ (t ++ (line ∷ more)) in
      let shape : flat ss ++ w ≡ flat us =
      ap (λ z. flat ss ++ (heading ∷ z)) (sym (append_assoc t (line ∷ []) more))
      ∙ sym (append_assoc (flat ss) (heading ∷ (t ++ (line ∷ []))) more)
      ∙ ap (λ z. z ++ more) (sym (append_assoc (flat ss) (heading ∷ t) (line ∷ [])))
      ∙ a.lines_are in
      let found = same_front ss us w a.each is_heading h shape in
      by found.0 found.2 found.1
    where
      by : (vs : List TermSection) → Each vs → heading ∷ (texts_from x 1 ds ++ (line ∷ more)) ≡ flat vs → ⊥
      by [] h e = cc
      by (v ∷ vs) h e =
          let rest : texts_from x 1 ds ++ (line ∷ more) ≡ texts_from x 1 v.derivation ++ flat vs = cc in
          let next = next_text 1 ds v.derivation line more (flat vs) h.0.derivation under (flat_headed vs h.1) rest in
          bad next.0 next.1 next.2

  module _ (count : ℕ) (lines : List Text) (ss : List TermSection) (each : Each ss) where
    pub too_many : (line : Text) (rest : List Text) → length ss ≡ count → (0 < length ss → IsHeading line)
        → lines ≡ flat ss ++ (line ∷ rest)
        → IsFirstMisfit x count lines (length (flat ss) + 1)
    too_many line rest all heads e = record {
      before = flat ss;
      rest = line ∷ rest;
      split = e;
      number = refl;
      fits = begins count ss each (omega arith);
      stuck = one_too_many count ss line each all heads;
    }

    pub no_section : (rest : List Text) (k : ℕ) → length ss < count → (0 < length ss → AreHeaded rest) → lines ≡ flat ss ++ rest
        → IsNoSection x rest k
        → IsFirstMisfit x count lines (length (flat ss) + (k + 1))
    no_section [] k few heads e none = record {
      before = flat ss;
      rest = [];
      split = e;
      number = omega arith;
      fits = begins count ss each (omega arith);
      stuck = λ us a. missing count ss each few us a;
    }
    no_section (line ∷ rest) k few heads e (inl none) = by ss each heads e
      where
        by : (ss : List TermSection) → Each ss → (0 < length ss → IsHeading line) → lines ≡ flat ss ++ (line ∷ rest)
            → IsFirstMisfit x count lines (length (flat ss) + (k + 1))
        by [] each heads e = record {
          before = [];
          rest = line ∷ rest;
          split = e;
          number = (let z = none.1 in omega arith);
          fits = begins count [] tt (omega arith);
          stuck = no_heading count line none.0;
        }
        by (s ∷ ss) each heads e = absurd (none.0 (heads (omega arith)))
    no_section (line ∷ rest) k few heads e (inr bad) =
        let t = texts_from x 1 bad.derivation in
        let s : TermSection = record { heading = bad.heading; derivation = bad.derivation } in
        let before = flat ss ++ (bad.heading ∷ t) in
        let push = flat-push ss s in
        let long = length-append ss (s ∷ []) in
        record {
          before = before;
          rest = bad.line ∷ bad.rest;
          split = e ∙ ap (λ z. flat ss ++ z) bad.lines_are ∙ sym (append_assoc (flat ss) (bad.heading ∷ t) (bad.line ∷ bad.rest));
          number = (let l = length-append (flat ss) (bad.heading ∷ t) in let m = length-texts_from 1 bad.derivation in
              let n = bad.number in omega arith);
          fits = subst (Begin x count) push
              (begins count (ss ++ (s ∷ []))
              (each_append (IsSection x) ss (s ∷ []) each (record { heading = bad.is_heading; derivation = bad.readable }, tt))
              (omega arith));
          stuck = bad_under count ss bad.heading bad.derivation bad.line each bad.is_heading bad.under bad.bad;
        }

-- lines that are such sections have no first line that does not fit
pub no_misfit : (x : LexiconView) (count n : ℕ) (lines : List Text) (ss : List TermSection) → IsFirstMisfit x count lines n
    → AreSections x count lines ss → ⊥
no_misfit x count n lines ss m a = by m.rest m.split m.stuck
  where
    by : (rest : List Text) → lines ≡ m.before ++ rest → IsStuck x count m.before rest → ⊥
    by [] e stuck = stuck ss (subst (λ z. AreSections x count z ss) (e ∙ append-nil m.before) a)
    by (line ∷ rest) e stuck =
        stuck (rest, ss, subst (λ z. AreSections x count z ss) (e ∙ sym (append_assoc m.before (line ∷ []) rest)) a)
