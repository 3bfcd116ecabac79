-- What is said of a list is said by rules whose left sides begin with a generic parameter.
use Rattle.std.proofs.Common.{◌≡◌, ◌∙◌, inl, inr, sym, ap, subst, ◌+◌, arith, ℕ, List, [], ◌∷◌, ◌++◌, length, slice_get, Some}
use Rattle.std.proofs.lemmas.Bool.{cases_eq}
use Rattle.std.proofs.lemmas.Option.{same_Some, slice_get_within}
use Rattle.swreq_machine.proofs.swreq_lemmas.Elements.{get_cases, get_last, get_left}
use Rattle.swreq_machine.specs.swreq_param.declared.ids.Step.TheVariants.{Bound, Name}
use Rattle.swreq_machine.specs.swreq_param.Terms.{Term}
use Rattle.swreq_machine.specs.swreq_param.Terms.Term.{Generic, Member}
use Rattle.swreq_machine.specs.swreq_derive.Derivation.{Source, TermFacts, TermRequirement}
use Rattle.swreq_machine.specs.swreq_derive.Derivation.TermRequirement.{Conforms, Equals, IsAnyObject}
use Rattle.swreq_homotopy.specs.swreq_word.declared.symbols.Symbol.{Symbol}
use Rattle.swreq_homotopy.specs.swreq_word.declared.symbols.Symbol.TheVariants.{Layout, Member as MemberSymbol, Name as NameSymbol, Param, Proto}
use Rattle.swreq_homotopy.specs.swreq_word.Least.{IsMinimal}
use Rattle.swreq_machine.specs.swreq_rule.declared.rules.Rule.{Rule}
use Rattle.swreq_machine.specs.swreq_complete.Reduced.{IsReduced}
use Rattle.swreq_machine.specs.swreq_correspondence.Symbols.{Symbols, Word}
use Rattle.swreq_machine.specs.swreq_correspondence.Types.{BeginsAs, IsTypeOf}
use Rattle.swreq_candidates.specs.Candidates.{IsReadOff, SpeaksOf}
use Rattle.swreq_minimal.specs.OfParams.{AreOfParams, BeginsWithParam}

-- ---- one rule more

module _ (Class : Word → Word → Type 0) (rules : List Rule) where
  pub none_yet : (system : List Rule) → system ≡ [] → AreOfParams Class rules 0 system
  none_yet system e = record {
    each = λ k rule g. absurd (let h = slice_get_within system k rule g in let l = ap length e in omega (arith, h, l));
    all = λ j rule l g b m. absurd (omega (arith, l));
  }

  module _ (k : ℕ) (rule : Rule) (at : slice_get rules k ≡ Some rule) (system : List Rule) (so_far : AreOfParams Class rules k system) where
    here : (j : ℕ) (r : Rule) → slice_get rules j ≡ Some r → j ≡ k → r ≡ rule
    here j r g e = same_Some r rule (sym g ∙ (ap (slice_get rules) e ∙ at))

    pub passed_over : (BeginsWithParam rule.left → IsMinimal Class rule.left → ⊥) → AreOfParams Class rules (k + 1) system
    passed_over n = record {
      each = so_far.each;
      all = λ j r l g b m. elim (cases_eq j k) [
        | inl e ↦ (let same = here j r g e in
            absurd (n (subst (λ (z : Rule). BeginsWithParam z.left) same b) (subst (λ (z : Rule). IsMinimal Class z.left) same m)))
        | inr h ↦ so_far.all j r (omega (arith, l, h)) g b m
      ];
    }

    pub one_added : (new : Rule) → IsReduced Class new → rule.left ≡ new.left → (more : List Rule) → more ≡ system ++ new ∷ []
        → AreOfParams Class rules (k + 1) more
    one_added new reduced left more e = subst (AreOfParams Class rules (k + 1)) (sym e) (record {
      each = λ j r g. elim (get_cases system new j r g) [
        | inl h ↦ so_far.each j r h
        | inr h ↦ subst (IsReduced Class) (sym h.1) reduced
      ];
      all = λ j r l g b m. elim (cases_eq j k) [
        | inl h ↦ (length system, new, get_last system new, sym left ∙ ap (λ (z : Rule). z.left) (sym (here j r g h)))
        | inr h ↦ (let (i, s, a, same) = so_far.all j r (omega (arith, l, h)) g b m in (i, s, get_left system (new ∷ []) i s a, same))
      ];
    })

-- ---- what is read off begins so

begins_before : (u z : Word) → BeginsWithParam u → BeginsWithParam (u ++ z)
begins_before [] z h = absurd h
begins_before (Param d i ∷ u) z h = tt
begins_before (Proto p ∷ u) z h = absurd h
begins_before (MemberSymbol k ∷ u) z h = absurd h
begins_before (NameSymbol a ∷ u) z h = absurd h
begins_before (Layout ∷ u) z h = absurd h

module _ (m : Symbols) (f : TermFacts) (s : Source) where
  begun : (t : Term) (rest u : Word) → BeginsAs m f s t rest u → BeginsWithParam u
  begun (Generic g) rest u h = subst BeginsWithParam (sym h) tt
  begun (Member t (Bound d)) rest u (k, c, i, h) = begun t (MemberSymbol k ∷ rest) u h
  begun (Member t (Name a)) rest u h = absurd h

  behind_type : (t : Term) (u : Word) (x : Symbol) (l : Word) → IsTypeOf m f s u t → l ≡ u ++ x ∷ [] → BeginsWithParam l
  behind_type t u x l h e = subst BeginsWithParam (sym e) (begins_before u (x ∷ []) (begun t [] u h))

  spoken_begins : (v : Term) (l : Word) → SpeaksOf m f s v l → BeginsWithParam l
  spoken_begins (Generic g) l h = subst BeginsWithParam (sym h) tt
  spoken_begins (Member t (Bound d)) l (u, x, a, e, h, n, i) = behind_type t u x l h e
  spoken_begins (Member t (Name a)) l h = absurd h

  pub read_begins : (l r : Word) (q : TermRequirement) → IsReadOff m f s l r q → BeginsWithParam l
  read_begins l r (Conforms t p) (v, h, e) = behind_type t r (Proto p.rank) l h e
  read_begins l r (IsAnyObject t) (v, h, e) = behind_type t r Layout l h e
  read_begins l r (Equals t u) (v, k, n, h, s) = spoken_begins u l s
