-- Reading parts one after another, as a loop does.
use Rattle.std.proofs.Common.{◌≡◌, ℕ, zero, suc, true, false, List, [], ◌∷◌, ◌++◌, Some, Ok, Err, refl, sym, ap, ◌∙◌, append_assoc}
use Rattle.std.proofs.lemmas.List.{append-nil}
use Rattle.swreq_grammar.specs.declared.token.Token.{Token}
use Rattle.swreq_grammar.specs.declared.stop.Stop.{Stop}
use Rattle.swreq_grammar.specs.declared.stop.Stop.TheVariants.{Memory, Refused}
use Rattle.swreq_grammar.specs.Grammar.{Limit, unlimited, at_most}
use Rattle.swreq_grammar.specs.Reader.{Read, ◌>>=◌, begins, read_parts}
use Rattle.swreq_grammar.specs.Gives.{Fails}

-- what was read before, and what is still read
abbrev pub with_front : {T L A : Type 0} → List A → Read T L (List A) → Read T L (List A)
with_front front r = r >>= λ x. Ok (front ++ x.0, x.1)

front_grows : {T L A : Type 0} (front : List A) (v : A) (r : Read T L (List A))
    → with_front front (r >>= λ y. Ok (v ∷ y.0, y.1)) ≡ with_front (front ++ v ∷ []) r
front_grows front v (Ok x) = ap (λ vs. Ok (vs, x.1)) (simp append_assoc)
front_grows front v (Err f) = refl

module _ {T L A : Type 0} (number : T → ℕ) (R : List (Token T) → Read T L A) (firsts : List T) where
  pub stops : (limit : Limit L) (n : ℕ) (ts : List (Token T)) → begins number firsts ts ≡ false
      → read_parts number R firsts limit n ts ≡ Ok ([], ts)
  unfolding read_parts
  stops unlimited zero ts e = refl
  stops (at_most l label) zero ts e = rw e refl
  stops limit (suc n) ts e = rw e refl

  pub goes : (limit : Limit L) (m n : ℕ) (ts : List (Token T)) → m ≡ suc n → begins number firsts ts ≡ true
      → read_parts number R firsts limit m ts ≡ (R ts >>= λ x. read_parts number R firsts limit n x.1 >>= λ y. Ok (x.0 ∷ y.0, y.1))
  unfolding read_parts
  goes limit m n ts z e = rw (z, e) refl

  -- one part more is read
  pub part_read : (limit : Limit L) (k n : ℕ) (front : List A) (ts : List (Token T)) (v : A) (rest : List (Token T))
      (total : Read T L (List A)) → k ≡ suc n → begins number firsts ts ≡ true → R ts ≡ Ok (v, rest) →
      with_front front (read_parts number R firsts limit k ts) ≡ total
      → with_front (front ++ v ∷ []) (read_parts number R firsts limit n rest) ≡ total
  part_read limit k n front ts v rest total z b e so_far =
      let one : read_parts number R firsts limit k ts ≡ (read_parts number R firsts limit n rest >>= λ y. Ok (v ∷ y.0, y.1)) =
      goes limit k n ts z b ∙ rw e refl in
      sym (rw one (front_grows front v (read_parts number R firsts limit n rest))) ∙ so_far

  -- a part is refused
  pub part_fails : (limit : Limit L) (k n : ℕ) (front : List A) (ts : List (Token T)) (e : Stop T L) (total : Read T L (List A)) → k ≡ suc n
      → begins number firsts ts ≡ true → Fails e (R ts) → with_front front (read_parts number R firsts limit k ts) ≡ total → Fails e total
  part_fails limit k n front ts Memory total z b e so_far = tt
  part_fails limit k n front ts (Refused rest label) total z b e so_far = sym so_far ∙ rw (goes limit k n ts z b, e) refl

  -- no part begins
  pub no_part : (limit : Limit L) (n : ℕ) (front : List A) (ts : List (Token T)) (total : Read T L (List A))
      → begins number firsts ts ≡ false → with_front front (read_parts number R firsts limit n ts) ≡ total → total ≡ Ok (front, ts)
  no_part limit n front ts total b so_far = sym so_far ∙ rw (stops limit n ts b) (ap (λ vs. Ok (vs, ts)) (append-nil front))

  -- there are as many parts as tokens
  pub tokens_end : (n : ℕ) (front : List A) (ts : List (Token T)) (total : Read T L (List A)) → n ≡ 0
      → with_front front (read_parts number R firsts unlimited n ts) ≡ total → total ≡ Ok (front, ts)
  unfolding read_parts
  tokens_end n front ts total z so_far = sym so_far ∙ rw z (ap (λ vs. Ok (vs, ts)) (append-nil front))

  -- one part too many begins
  pub one_too_many : (l n : ℕ) (label : L) (front : List A) (ts : List (Token T)) (total : Read T L (List A)) → begins number firsts ts
      ≡ true → n ≡ 0 → with_front front (read_parts number R firsts (at_most l label) n ts) ≡ total → total ≡ Err (ts, Some label)
  unfolding read_parts
  one_too_many l n label front ts total b z so_far = sym so_far ∙ rw (z, b) refl
