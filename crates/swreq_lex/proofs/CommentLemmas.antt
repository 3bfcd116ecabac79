-- The scan for the end of a comment finds exactly the end of the comment.
use Rattle.std.proofs.Common.{◌≡◌, ℕ, zero, suc, true, false, List, [], ◌∷◌, ◌++◌, Option, Some, None, refl, sym, ap, subst, ◌∙◌, append_assoc, nat_eq, arith}
use Rattle.std.proofs.lemmas.Bool.{eqb-true, and_parts}
use Rattle.swreq_lex.specs.Comments.{is_opening, is_closing, IsInside, closing, character, nested}
use Rattle.swreq_lex.specs.Reader.{forgotten, past_comment}

-- what is left after the end of a comment that stands inside this many more
abbrev closed : ℕ → List ℕ → Option (List ℕ)
closed zero rest = Some rest
closed (suc n) rest = past_comment n forgotten rest

-- ---- one step of the scan

at_end : (n b : ℕ) → past_comment n b [] ≡ None
unfolding past_comment
at_end zero b = refl
at_end (suc n) b = refl

at_opening : (n b c : ℕ) (cs : List ℕ) → is_opening b c ≡ true → past_comment n b (c ∷ cs) ≡ past_comment (suc n) forgotten cs
unfolding past_comment
at_opening zero b c cs o = rw o refl
at_opening (suc n) b c cs o = rw o refl

at_closing : (n b c : ℕ) (cs : List ℕ) → is_opening b c ≡ false → is_closing b c ≡ true → past_comment n b (c ∷ cs) ≡ closed n cs
unfolding past_comment
at_closing zero b c cs o h = rw (o, h) refl
at_closing (suc n) b c cs o h = rw (o, h) refl

at_other : (n b c : ℕ) (cs : List ℕ) → is_opening b c ≡ false → is_closing b c ≡ false → past_comment n b (c ∷ cs) ≡ past_comment n c cs
unfolding past_comment
at_other zero b c cs o h = rw (o, h) refl
at_other (suc n) b c cs o h = rw (o, h) refl

-- ---- each comment is passed

pub passes : {inside : List ℕ} → IsInside inside → (n : ℕ) (rest : List ℕ) → past_comment n forgotten (inside ++ rest) ≡ closed n rest
passes closing n rest = at_other n 32 42 (47 ∷ rest) refl refl ∙ at_closing n 42 47 rest refl refl
passes (character {c} {d} {cs} o h i) n rest =
    at_other n 32 c (d ∷ (cs ++ rest)) refl refl
    ∙ (at_other n c d (cs ++ rest) o h
    ∙ (sym (at_other n 32 d (cs ++ rest) refl refl) ∙ passes i n rest))
passes (nested {inside} {after} {cs} i a e) n rest =
    let parts : cs ++ rest ≡ inside ++ (after ++ rest) = rw e (append_assoc inside after rest) in
    at_other n 32 47 (42 ∷ (cs ++ rest)) refl refl
    ∙ (at_opening n 47 42 (cs ++ rest) refl
    ∙ (ap (λ (ds : List ℕ). past_comment (suc n) forgotten ds) parts
    ∙ (passes i (suc n) (after ++ rest) ∙ passes a n rest)))

-- ---- what is passed is a comment

-- the characters are the insides of this many comments and one, and the rest
pub data Insides (rest : List ℕ) : ℕ → List ℕ → Type 0 where
  last : {inside cs : List ℕ} → IsInside inside → cs ≡ inside ++ rest → Insides rest 0 cs
  more : {n : ℕ} {inside after cs : List ℕ} → IsInside inside → cs ≡ inside ++ after → Insides rest n after → Insides rest (suc n) cs

same_head : {x y : ℕ} {xs ys : List ℕ} → x ∷ xs ≡ y ∷ ys → x ≡ y
same_head e = cc

same_tail : {x y : ℕ} {xs ys : List ℕ} → x ∷ xs ≡ y ∷ ys → xs ≡ ys
same_tail e = cc

without_space : (cs after : List ℕ) {inside : List ℕ} → IsInside inside → 32 ∷ cs ≡ inside ++ after
    → (i : List ℕ) × IsInside i × (cs ≡ i ++ after)
without_space cs after closing e = let k : ◌≡◌ {A = ℕ} 32 42 = same_head e in absurd (omega arith)
without_space cs after (character {d = d} {cs = ds} o h i) e = (d ∷ ds, i, same_tail e)
without_space cs after (nested i a p) e = let k : ◌≡◌ {A = ℕ} 32 47 = same_head e in absurd (omega arith)

forget_space : {rest : List ℕ} {n : ℕ} (cs : List ℕ) → Insides rest n (32 ∷ cs) → Insides rest n cs
forget_space {rest} cs (last i e) = let w = without_space cs rest i e in last w.1 w.2
forget_space cs (more {after = after} i e l) = let w = without_space cs after i e in more w.1 w.2 l

with_character : (b c : ℕ) (cs after : List ℕ) {inside : List ℕ} → is_opening b c ≡ false → is_closing b c ≡ false
    → c ∷ cs ≡ inside ++ after → IsInside inside → IsInside (b ∷ inside)
with_character b c cs after o h e closing = let same : c ≡ 42 = same_head e in
    character (subst (λ d. is_opening b d ≡ false) same o) (subst (λ d. is_closing b d ≡ false) same h) closing
with_character b c cs after o h e (character {c = x} p q i) = let same : c ≡ x = same_head e in
    character (subst (λ d. is_opening b d ≡ false) same o) (subst (λ d. is_closing b d ≡ false) same h) (character p q i)
with_character b c cs after o h e (nested i a p) = let same : c ≡ 47 = same_head e in
    character (subst (λ d. is_opening b d ≡ false) same o) (subst (λ d. is_closing b d ≡ false) same h) (nested i a p)

one_more : {rest : List ℕ} {n : ℕ} (b c : ℕ) (cs : List ℕ) → is_opening b c ≡ false → is_closing b c ≡ false → Insides rest n (c ∷ cs)
    → Insides rest n (b ∷ c ∷ cs)
one_more {rest} b c cs o h (last i e) = last (with_character b c cs rest o h e i) (ap (λ (ds : List ℕ). b ∷ ds) e)
one_more b c cs o h (more {after = after} i e l) = more (with_character b c cs after o h e i) (ap (λ (ds : List ℕ). b ∷ ds) e) l

joined : {rest : List ℕ} {n : ℕ} (inside cs after : List ℕ) → IsInside inside → cs ≡ inside ++ after → Insides rest n after
    → Insides rest n (47 ∷ 42 ∷ cs)
joined {rest} inside cs after i e (last {inside = second} j p) = last (nested i j refl)
    (ap (λ (ds : List ℕ). 47 ∷ 42 ∷ ds) (e ∙ (ap (λ (ds : List ℕ). inside ++ ds) p ∙ sym (append_assoc inside second rest))))
joined inside cs after i e (more {inside = second} {after = later} j p l) = more (nested i j refl)
    (ap (λ (ds : List ℕ). 47 ∷ 42 ∷ ds) (e ∙ (ap (λ (ds : List ℕ). inside ++ ds) p ∙ sym (append_assoc inside second later)))) l

opened : {rest : List ℕ} {n : ℕ} (cs : List ℕ) → Insides rest (suc n) cs → Insides rest n (47 ∷ 42 ∷ cs)
opened cs (more {inside = inside} {after = after} i e l) = joined inside cs after i e l

after_closing : {rest : List ℕ} (n : ℕ) (cs : List ℕ) → closed n cs ≡ Some rest
    → ((m : ℕ) → past_comment m forgotten cs ≡ Some rest → Insides rest m (32 ∷ cs)) → Insides rest n (42 ∷ 47 ∷ cs)
after_closing zero cs e go = last closing (cc)
after_closing (suc n) cs e go = more closing refl (forget_space cs (go n e))

pub passed : (cs : List ℕ) {rest : List ℕ} (n b : ℕ) → past_comment n b cs ≡ Some rest → Insides rest n (b ∷ cs)
passed [] n b e = absurd (let k = at_end n b in cc)
passed (c ∷ cs) {rest} n b e =
    elim (is_opening b c) as (λ o. is_opening b c ≡ o → Insides rest n (b ∷ c ∷ cs)) [
      | true ↦ λ o.
          let parts = and_parts (nat_eq b 47) (nat_eq c 42) o in
          let inner = passed cs (suc n) 32 (sym (at_opening n b c cs o) ∙ e) in
          rw (eqb-true b 47 parts.0, eqb-true c 42 parts.1) (opened cs (forget_space cs inner))
      | false ↦ λ o. elim (is_closing b c) as (λ h. is_closing b c ≡ h → Insides rest n (b ∷ c ∷ cs)) [
        | true ↦ λ h.
            let parts = and_parts (nat_eq b 42) (nat_eq c 47) h in
            rw (eqb-true b 42 parts.0, eqb-true c 47 parts.1)
            (after_closing n cs (sym (at_closing n b c cs o h) ∙ e) (λ m p. passed cs m 32 p))
        | false ↦ λ h. one_more b c cs o h (passed cs n c (sym (at_other n b c cs o h) ∙ e))
      ] refl
    ] refl

-- ---- from inside the outermost comment

pub comment_passed : (inside rest : List ℕ) → past_comment 0 forgotten inside ≡ Some rest → (i : List ℕ) × IsInside i × (inside ≡ i ++ rest)
comment_passed inside rest e = go (forget_space inside (passed inside 0 32 e))
  where
    go : Insides rest 0 inside → (i : List ℕ) × IsInside i × (inside ≡ i ++ rest)
    go (last {inside = i} j p) = (i, j, p)
