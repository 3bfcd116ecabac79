-- What is read is exactly what is a text of the grammar, and a refusal is exactly at its refused token.
use Rattle.swreq_grammar.specs.declared.token.Token.{Token}
use Rattle.std.proofs.Common.{◌≡◌, ℕ, true, List, [], ◌∷◌, ◌++◌, Option, Some, None, Result, Ok, Err, refl, sym, ap, subst, ◌∙◌, append_assoc, inl, inr, ◌⊎◌}
use Rattle.std.specs.Prelude.{MatchResult}
use Rattle.std.proofs.lemmas.List.{append_cancel_right, append-nil}
use Rattle.swreq_grammar.specs.Grammar.{Grammar, Matches}
use Rattle.swreq_grammar.specs.Reader.{Fault, Read, ◌>>=◌, is_predictive, read, whole, read_whole}
use Rattle.swreq_grammar.specs.Refusal.{Viable, IsStuck, RefusedAt, HasLabel, LabelAt, Refuses, is_well_labelled}
use Rattle.swreq_grammar.proofs.Labels.{Labels, Stands, read_stands}
use Rattle.swreq_grammar.proofs.LabelsRead.{label_read}
use Rattle.swreq_grammar.proofs.Reading.{Shows, read_shows}
use Rattle.swreq_grammar.proofs.Exact.{complete}

module _ {T : Type 0} (number : T → ℕ) where
  pub whole_takes : {L A : Type 0} (g : Grammar T L A) → is_predictive number g ≡ true → (ts : List (Token T)) (v : A)
      → Matches number g ts v → read_whole number g ts ≡ Ok v
  whole_takes g p ts v m =
      let e : read number g ts ≡ Ok (v, []) =
      subst (λ zs. read number g zs ≡ Ok (v, [])) (append-nil ts) (complete number g p ts v [] m refl) in
      rw e refl

  -- at most one value stands for a text
  pub one_value : {L A : Type 0} (g : Grammar T L A) → is_predictive number g ≡ true → (ts : List (Token T)) (v w : A)
      → Matches number g ts v → Matches number g ts w → v ≡ w
  one_value g p ts v w m n = let a = whole_takes g p ts v m in let b = whole_takes g p ts w n in cc

  -- where the reader stops at a token, no text of the grammar begins with the tokens up to and with it
  stuck : {L A : Type 0} (g : Grammar T L A) → is_predictive number g ≡ true → (pre : List (Token T)) (t : Token T) (why : Option L)
      → ((more : List (Token T)) → read_whole number g (pre ++ (t ∷ more)) ≡ Err (t ∷ more, why)) → Viable number g (pre ++ t ∷ []) → ⊥
  stuck g p pre t why k v =
      let a = whole_takes g p ((pre ++ t ∷ []) ++ v.0) v.1 v.2 in
      let b = k v.0 in
      let c : read_whole number g ((pre ++ t ∷ []) ++ v.0) ≡ read_whole number g (pre ++ (t ∷ v.0)) =
      ap (read_whole number g) (append_assoc pre (t ∷ []) v.0) in
      cc

  -- ---- the refused token

  -- the text is refused at the first token of what is left
  abbrev pub RefusedIn : {L A : Type 0} → Grammar T L A → List (Token T) → List (Token T) → Type 0
  RefusedIn g ts rest = (before : List (Token T)) × (ts ≡ before ++ rest) × RefusedAt number g before rest

  shows_whole : {L A : Type 0} (g : Grammar T L A) → is_predictive number g ≡ true → (ts : List (Token T)) (r : Read T L A)
      → Shows (Matches number g) (read number g) ts r → MatchResult (r >>= whole) (λ v. Matches number g ts v) (λ f. RefusedIn g ts f.0)
  shows_whole g p ts (Ok (v, [])) s = subst (λ zs. Matches number g zs v) (sym (s.1 ∙ append-nil s.0)) s.2
  shows_whole g p ts (Ok (v, t ∷ rest)) s = (
    s.0,
    s.1,
    (
      ([], v, subst (λ zs. Matches number g zs v) (sym (append-nil s.0)) s.2),
      stuck g p s.0 t None (λ more. rw (s.3 (t ∷ more) (more, refl)) refl),
    ),
  )
  shows_whole g p ts (Err ([], why)) s = (
    s.0,
    s.1,
    (
      s.2,
      λ v m. let a = whole_takes g p s.0 v m in let b = s.3 [] refl in
          let c : read number g s.0 ≡ read number g (s.0 ++ []) = ap (read number g) (sym (append-nil s.0)) in
          let d : read number g s.0 ≡ Err ([], why) = c ∙ b in
          let e : read_whole number g s.0 ≡ Err ([], why) = rw d refl in cc,
    ),
  )
  shows_whole g p ts (Err (t ∷ rest, why)) s =
      (s.0, s.1, (s.2, stuck g p s.0 t why (λ more. rw (s.3 (t ∷ more) (more, refl)) refl)))

  whole_shows : {L A : Type 0} (g : Grammar T L A) → is_predictive number g ≡ true → (ts : List (Token T))
      → MatchResult (read_whole number g ts) (λ v. Matches number g ts v) (λ f. RefusedIn g ts f.0)
  whole_shows g p ts = shows_whole g p ts (read number g ts) (read_shows number g p ts)

  -- what is read is a text of the grammar
  pub whole_matches : {L A : Type 0} (g : Grammar T L A) → is_predictive number g ≡ true → (ts : List (Token T)) (v : A)
      → read_whole number g ts ≡ Ok v → Matches number g ts v
  whole_matches {L} {A} g p ts v e =
      let P : Result A (Fault T L) → Type 0 = λ r. MatchResult r (λ w. Matches number g ts w) (λ f. RefusedIn g ts f.0) in
      subst P e (whole_shows g p ts)

  pub whole_refuses : {L A : Type 0} (g : Grammar T L A) → is_predictive number g ≡ true → (ts : List (Token T)) (f : Fault T L)
      → read_whole number g ts ≡ Err f → RefusedIn g ts f.0
  whole_refuses {L} {A} g p ts f e =
      let P : Result A (Fault T L) → Type 0 = λ r. MatchResult r (λ w. Matches number g ts w) (λ h. RefusedIn g ts h.0) in
      subst P e (whole_shows g p ts)

  -- ---- over the grammar alone

  -- each prefix of a viable prefix is one
  pub viable_front : {L A : Type 0} (g : Grammar T L A) (front back : List (Token T))
      → Viable number g (front ++ back) → Viable number g front
  viable_front g front back v = (back ++ v.0, v.1, subst (λ zs. Matches number g zs v.1) (append_assoc front back v.0) v.2)

  -- no text is refused
  pub text_not_refused : {L A : Type 0} (g : Grammar T L A) (ts : List (Token T)) (v : A) → Matches number g ts v
      → (before rest : List (Token T)) → ts ≡ before ++ rest → RefusedAt number g before rest → ⊥
  text_not_refused g ts v m before [] e r = r.1 v (subst (λ zs. Matches number g zs v) (e ∙ append-nil before) m)
  text_not_refused g ts v m before (t ∷ rest) e r =
      r.1 (rest, v, subst (λ zs. Matches number g zs v) (e ∙ sym (append_assoc before (t ∷ []) rest)) m)

  -- two ways to divide a list
  divided : (a b c d : List (Token T)) → a ++ b ≡ c ++ d
      → ((mid : List (Token T)) × (c ≡ a ++ mid) × (b ≡ mid ++ d)) ⊎ ((mid : List (Token T)) × (a ≡ c ++ mid) × (d ≡ mid ++ b))
  divided [] b c d e = inl (c, refl, e)
  divided (x ∷ a) b [] d e = inr (x ∷ a, refl, sym e)
  divided (x ∷ a) b (y ∷ c) d e = go (divided a b c d (cons_tail e))
    where
      cons_tail : x ∷ (a ++ b) ≡ y ∷ (c ++ d) → a ++ b ≡ c ++ d
      cons_tail h = cc

      head : x ≡ y
      head = cc

      go : ((mid : List (Token T)) × (c ≡ a ++ mid) × (b ≡ mid ++ d)) ⊎ ((mid : List (Token T)) × (a ≡ c ++ mid) × (d ≡ mid ++ b))
          → ((mid : List (Token T)) × (y ∷ c ≡ x ∷ (a ++ mid)) × (b ≡ mid ++ d))
          ⊎ ((mid : List (Token T)) × (x ∷ a ≡ y ∷ (c ++ mid)) × (d ≡ mid ++ b))
      go (inl k) = inl (k.0, rw (head, k.1) refl, k.2)
      go (inr k) = inr (k.0, rw (head, k.1) refl, k.2)

  refused_before : {L A : Type 0} (g : Grammar T L A) (before rest longer left mid : List (Token T)) → RefusedAt number g before rest
      → RefusedAt number g longer left → longer ≡ before ++ mid → rest ≡ mid ++ left → (before ≡ longer) × (rest ≡ left)
  refused_before g before rest longer left [] r s e f = (sym (e ∙ append-nil before), f)
  refused_before g before rest longer left (t ∷ mid) r s e f =
      let stops = subst (λ zs. IsStuck number g before zs) f r.1 in
      let goes = subst (λ zs. Viable number g zs) (e ∙ sym (append_assoc before (t ∷ []) mid)) s.0 in
      absurd (stops (viable_front g (before ++ t ∷ []) mid goes))

  -- at most one token of a text is the refused one
  pub one_refused : {L A : Type 0} (g : Grammar T L A) (before rest other left : List (Token T)) → before ++ rest ≡ other ++ left
      → RefusedAt number g before rest → RefusedAt number g other left → (before ≡ other) × (rest ≡ left)
  one_refused g before rest other left e r s = go (divided before rest other left e)
    where
      go : ((mid : List (Token T)) × (other ≡ before ++ mid) × (rest ≡ mid ++ left))
          ⊎ ((mid : List (Token T)) × (before ≡ other ++ mid) × (left ≡ mid ++ rest)) → (before ≡ other) × (rest ≡ left)
      go (inl k) = refused_before g before rest other left k.0 r s k.1 k.2
      go (inr k) = let same = refused_before g other left before rest k.0 s r k.1 k.2 in (sym same.0, sym same.1)

  -- ---- the label of a refusal

  some_or_none : {L : Type 0} (rest left : List (Token T)) (label : L) → Path (Fault T L) (rest, Some label) (left, None) → ⊥
  some_or_none {L} rest left label e = let apart : Some label ≡ None = ap (λ (f : Fault T L). f.1) e in absurd cc

  one_label : {L : Type 0} (rest : List (Token T)) (a b : L) → Path (Fault T L) (rest, Some a) (rest, Some b) → a ≡ b
  one_label {L} rest a b e = let same : Some a ≡ Some b = ap (λ (f : Fault T L). f.1) e in cc

  label_of : {L A : Type 0} (g : Grammar T L A) → is_predictive number g ≡ true → is_well_labelled g ≡ true
      → (ts before rest : List (Token T)) (found : Option L) → ts ≡ before ++ rest → read number g ts ≡ Err (rest, found) →
      (found ≡ None) ⊎ ((label : L) × (pre : List (Token T)) × (found ≡ Some label) × (ts ≡ pre ++ rest) × HasLabel number label g pre rest)
      → LabelAt number g before rest found
  label_of g p q ts before rest None s e t = λ label n.
      let other = ap (read number g) s ∙ label_read number label rest g p q before n in absurd (some_or_none rest rest label cc)
  label_of g p q ts before rest (Some label) s e (inl t) = absurd cc
  label_of {L} g p q ts before rest (Some label) s e (inr t) =
      let same : t.0 ≡ label = cc in
      let here : HasLabel number t.0 g before rest =
      subst (λ zs. HasLabel number t.0 g zs rest) (append_cancel_right t.1 before rest (sym t.3 ∙ s)) t.4 in (
        subst (λ l. HasLabel number l g before rest) same here,
        λ other n. let read = ap (read number g) s ∙ label_read number other rest g p q before n in one_label rest other label cc,
      )

  no_label : {L A : Type 0} (g : Grammar T L A) → is_predictive number g ≡ true → is_well_labelled g ≡ true
      → (ts before rest : List (Token T)) (v : A) (left : List (Token T)) → ts ≡ before ++ rest → read number g ts ≡ Ok (v, left)
      → (label : L) → HasLabel number label g before rest → ⊥
  no_label g p q ts before rest v left s e label n =
      let other = ap (read number g) s ∙ label_read number label rest g p q before n in absurd cc

  refusal_label : {L A : Type 0} (g : Grammar T L A) → is_predictive number g ≡ true → is_well_labelled g ≡ true → (ts : List (Token T))
      (r : Read T L A) → read number g ts ≡ r → Stands (Labels number g) ts r → (before rest : List (Token T)) (found : Option L)
      → ts ≡ before ++ rest → (r >>= whole) ≡ Err (rest, found) → LabelAt number g before rest found
  refusal_label g p q ts (Ok (v, [])) e t before rest found s k = absurd cc
  refusal_label g p q ts (Ok (v, u ∷ left)) e t before rest None s k = no_label g p q ts before rest v (u ∷ left) s e
  refusal_label g p q ts (Ok (v, u ∷ left)) e t before rest (Some label) s k = absurd (some_or_none rest (u ∷ left) label cc)
  refusal_label {L} g p q ts (Err (left, why)) e t before rest found s k =
      let same : Path (Fault T L) (left, why) (rest, found) = cc in
      label_of g p q ts before rest found s (e ∙ ap (λ (f : Fault T L). Err f) same) (subst (λ (f : Fault T L). (f.1 ≡ None)
      ⊎ ((label : L) × (pre : List (Token T)) × (f.1 ≡ Some label) × (ts ≡ pre ++ f.0) × HasLabel number label g pre f.0)) same t)

  -- ---- the reader is exact

  -- a refusal of the reader is at the refused token, with its label
  pub whole_refusal : {L A : Type 0} (g : Grammar T L A) → is_predictive number g ≡ true → is_well_labelled g ≡ true
      → (ts : List (Token T)) (fault : Fault T L) → read_whole number g ts ≡ Err fault → Refuses number g ts fault
  whole_refusal g p q ts (rest, found) e =
      let r = whole_refuses g p ts (rest, found) e in
      (r.0, r.1, r.2, refusal_label g p q ts (read number g ts) refl (read_stands number g p q ts) r.0 rest found r.1 e)

  same_label : {L A : Type 0} (g : Grammar T L A) (before rest : List (Token T)) (a b : Option L) → LabelAt number g before rest a
      → LabelAt number g before rest b → a ≡ b
  same_label g before rest None None x y = refl
  same_label g before rest None (Some b) x y = absurd (x b y.0)
  same_label g before rest (Some a) None x y = absurd (y a x.0)
  same_label g before rest (Some a) (Some b) x y = ap (λ l. Some l) (y.1 a x.0)

  -- a text is refused in one way at most
  pub one_refusal : {L A : Type 0} (g : Grammar T L A) (ts : List (Token T)) (a b : Fault T L) → Refuses number g ts a
      → Refuses number g ts b → a ≡ b
  one_refusal g ts (rest, a) (left, b) x y =
      let same = one_refused g x.0 rest y.0 left (sym x.1 ∙ y.1) x.2 y.2 in
      let here : LabelAt number g x.0 rest b = rw (same.0, same.1) y.3 in
      let label = same_label g x.0 rest a b x.3 here in
      rw (same.1, label) refl

  pub refused_whole : {L A : Type 0} (g : Grammar T L A) → is_predictive number g ≡ true → is_well_labelled g ≡ true
      → (ts : List (Token T)) (fault : Fault T L) → Refuses number g ts fault → read_whole number g ts ≡ Err fault
  refused_whole {L} {A} g p q ts fault x = go (read_whole number g ts) refl
    where
      go : (r : Result A (Fault T L)) → read_whole number g ts ≡ r → r ≡ Err fault
      go (Ok v) e = absurd (text_not_refused g ts v (whole_matches g p ts v e) x.0 fault.0 x.1 x.2)
      go (Err other) e = ap (λ (f : Fault T L). Err f) (one_refusal g ts other fault (whole_refusal g p q ts other e) x)
