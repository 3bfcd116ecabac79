-- What the line of a call says.
use Rattle.std.proofs.Common.{◌≡◌, ℕ, ◌+◌, ◌<◌, ◌≤◌, List, [], ◌∷◌, length, map, take, get_or, Option, Some, None, Contains, sym, subst, ◌∙◌, arith}
use Rattle.std.specs.Prelude.{All}
use Rattle.std.specs.Option.{option_map}
use Rattle.std.proofs.lemmas.List.{get_or_default, take_more}
use Rattle.std.proofs.lemmas.List.Elements.{All-append, All-cons, All-contains, All-nil}
use Rattle.swreq_print.proofs.swreq_lemmas.Members.{contains_map, contains_of_map}
use Rattle.swreq_machine.specs.swreq_param.declared.ids.TermId.{TermId}
use Rattle.swreq_machine.specs.swreq_param.Tables.{term_at}
use Rattle.swreq_machine.specs.swreq_param.Terms.{Term}
use Rattle.swreq_machine.specs.swreq_derive.declared.known.Params.{Params}
use Rattle.swreq_machine.specs.swreq_derive.Derivation.{Derivable, TermFacts, TermRequirement, Source, TermStatement}
use Rattle.swreq_machine.specs.swreq_derive.Derivation.TermStatement.{IsValid}
use Rattle.swreq_machine.specs.swreq_world.FactsAt.{facts_of, source_of}
use Rattle.swreq_machine.specs.swreq_world.Worlds.{TextWorld, signature_at}
use Rattle.swreq_subst.specs.Calls.{AreAllValid, AreThere, IsOneInvalid, IsValidThere, TermCall}
use Rattle.swreq_subst.specs.Failing.{AreFailing}
use Rattle.swreq_subst.specs.Lines.{AreValid, HasInvalid, IsInvalid}

-- one more of which the fact holds
pub all_next : {A : Type 0} (P : A → Type 0) (xs : List A) (k : ℕ) (d : A) → k < length xs → All P (take k xs) → P (get_or xs k d)
    → All P (take (k + 1) xs)
all_next P xs k d l h p =
    subst (All P) (sym (take_more xs k d l)) (All-append P (take k xs) (get_or xs k d ∷ []) h (All-cons P (get_or xs k d) [] p (All-nil P)))

pub member_at : {A : Type 0} (xs : List A) (k : ℕ) (d : A) → k < length xs → Contains xs (get_or xs k d)
member_at xs k d l = (k, l, get_or_default xs k (get_or xs k d) d l)

module _ (derivable : TermStatement → Type 0) (terms : List Term) where
  one_there : (a : Option TermId) → IsValidThere derivable terms a → a ≡ None → ⊥
  one_there None h e = h
  one_there (Some t) h e = absurd cc

  pub all_there : (args : List (Option TermId)) → AreAllValid derivable terms args → AreThere args
  all_there args h k d l e = one_there (get_or args k d) (h k d l) e

-- ---- over type parameters

module _ (w : TextWorld) (c : TermCall) (terms : List Term) where
  abbrev Holds : TermStatement → Type 0
  Holds = Derivable (facts_of w) (source_of (signature_at w c.f))

  wrong_one : (a : Option TermId) → (IsValidThere Holds terms a → ⊥) → IsInvalid w c (option_map (term_at terms) a)
  wrong_one None h = tt
  wrong_one (Some t) h = h

  pub one_invalid : (args : List (Option TermId)) → c.args ≡ map (option_map (term_at terms)) args
      → IsOneInvalid Holds terms args → HasInvalid w c
  one_invalid args e (a, at, wrong) = (
    option_map (term_at terms) a,
    subst (λ (us : List (Option Term)). Contains us (option_map (term_at terms) a)) (sym e)
        (contains_map (option_map (term_at terms)) args a at),
    wrong_one a wrong,
  )

  right_one : (a : Option TermId) (t : Term) → IsValidThere Holds terms a → Some t ≡ option_map (term_at terms) a → Holds (IsValid t)
  right_one None t h e = absurd h
  right_one (Some i) t h e = let same : t ≡ term_at terms i = cc in subst (λ (z : Term). Holds (IsValid z)) (sym same) h

  pub valid_types : (args : List (Option TermId)) → c.args ≡ map (option_map (term_at terms)) args → AreAllValid Holds terms args
      → (ts : List Term) → c.args ≡ map (λ (t : Term). Some t) ts → AreValid w c ts
  valid_types args e h ts are t at =
      let there = subst (λ (us : List (Option Term)). Contains us (Some t)) (sym are ∙ e) (contains_map (λ (t : Term). Some t) ts t at) in
      let (a, in_args, same) = contains_of_map (option_map (term_at terms)) args (Some t) there in
      right_one a t (All-contains (IsValidThere Holds terms) args a h in_args) same

pub numbers_within : (f : TermFacts) (from : Source) (params : Params) (args : List Term) (rs : List TermRequirement) (count : ℕ)
    (ns : List ℕ) → length rs ≡ count
    → AreFailing f from params args rs ns → All (λ n. (0 < n) × (n ≤ count)) ns
numbers_within f from params args rs count ns e h k d l =
    let one = h.fail (get_or ns k d) (k, l, get_or_default ns k (get_or ns k d) d l) in
    let most = one.0 in
    (one.1.1.0, omega arith)
