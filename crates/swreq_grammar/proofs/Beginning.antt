-- The reader's first sets tell which tokens begin a text.
use Rattle.swreq_grammar.specs.declared.token.Token.{Token}
use Rattle.std.proofs.Common.{◌≡◌, ℕ, Bool, true, false, List, [], ◌∷◌, refl}
use Rattle.swreq_grammar.specs.Grammar.{Grammar}
use Rattle.swreq_grammar.specs.Reader.{begins, first_set, is_predictive}
use Rattle.swreq_grammar.specs.Refusal.{BeginsText, begins_labelled}
use Rattle.swreq_grammar.proofs.Sets.{first_of, first_begins}

module _ {T L A : Type 0} (number : T → ℕ) (g : Grammar T L A) where
  pub text_begins : (ts : List (Token T)) → BeginsText number g ts → begins number (first_set g) ts ≡ true
  text_begins [] b = absurd b
  text_begins (t ∷ ts) b = first_of number g t b.0 b.1 b.2

  pub no_text_begins : (ts : List (Token T)) → begins number (first_set g) ts ≡ false → ¬ (BeginsText number g ts)
  no_text_begins ts e b = let yes = text_begins ts b in cc

  pub begins_text : is_predictive number g ≡ true → begins_labelled g ≡ false → (ts : List (Token T))
      → begins number (first_set g) ts ≡ true → BeginsText number g ts
  begins_text p q [] e = absurd cc
  begins_text p q (t ∷ ts) e = first_begins number g p q t e

  pub begins_no_text : is_predictive number g ≡ true → begins_labelled g ≡ false → (ts : List (Token T)) → ¬ (BeginsText number g ts)
      → begins number (first_set g) ts ≡ false
  begins_no_text p q ts n = go (begins number (first_set g) ts) refl
    where
      go : (b : Bool) → begins number (first_set g) ts ≡ b → b ≡ false
      go true e = absurd (n (begins_text p q ts e))
      go false e = refl
