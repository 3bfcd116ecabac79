use Rattle.std.proofs.Common.{◌≡◌, [], ◌∷◌, ◌++◌, refl, ap, ap₂, subst, sym, ◌∙◌, lit<, arith}
use Rattle.swreq_canonical.specs.swreq_param.declared.ids.Step.TheVariants.{Bound, Name as NameStep}
use Rattle.swreq_canonical.specs.swreq_param.Terms.{Term}
use Rattle.swreq_canonical.specs.swreq_param.Terms.Term.{Generic, Member as MemberOf}
use Rattle.swreq_canonical.specs.swreq_derive.Derivation.{TermRequirement}
use Rattle.swreq_canonical.specs.swreq_derive.Derivation.TermRequirement.{Conforms, IsAnyObject, Equals}
use Rattle.swreq_canonical.specs.swreq_derive.Worked.{bound, of_one, τ_0_0, P, A, A_of_P, shared, shared_f}
use Rattle.swreq_canonical.proofs.swreq_derive.WorkedDerivations.{shared_to_p}
use Rattle.swreq_canonical.specs.swreq_word.declared.symbols.Symbol.{Symbol}
use Rattle.swreq_canonical.specs.swreq_word.declared.symbols.Symbol.TheVariants.{Proto, Member, Layout}
use Rattle.swreq_canonical.specs.swreq_correspondence.Symbols.{Word}
use Rattle.swreq_canonical.specs.swreq_correspondence.Types.{IsFirstFor, IsTypeOf}
use Rattle.swreq_canonical.specs.swreq_correspondence.Worked.{first_param, shared_symbols}
use Rattle.swreq_canonical.proofs.swreq_correspondence.OneType.{one_first, one_type}
use Rattle.swreq_candidates.specs.Candidates.{IsNamed, IsReadOff, SpeaksOf}
use Rattle.std.proofs.lemmas.List.{same_from_push}
use Rattle.swreq_candidates.proofs.worked.one_name_in_two_protocols.Goals as goal

first : IsFirstFor shared (of_one shared_f) τ_0_0 A A_of_P
first = record { proto = P; declares = (0, lit< tt, refl); conforms = shared_to_p; first = λ q e h c. omega arith }

abbrev Right : Word
Right = first_param ∷ Member 0 ∷ []

right_type : IsTypeOf shared_symbols shared (of_one shared_f) Right (bound τ_0_0 A_of_P)
right_type = (0, (lit< tt, shared_to_p, (P, A_of_P, shared_to_p, (0, lit< tt, refl))), first, refl)

-- no symbol after the right side makes the left side
no_longer : (x : Symbol) → first_param ∷ Member 1 ∷ [] ≡ Right ++ (x ∷ []) → ⊥
no_longer x e = cc

no_param : {x : Symbol} → first_param ∷ Member 1 ∷ [] ≡ x ∷ [] → ⊥
no_param e = cc

-- the left side speaks of T.[P]A alone
spoken : (v : Term) → SpeaksOf shared_symbols shared (of_one shared_f) v (first_param ∷ Member 1 ∷ []) → bound τ_0_0 A_of_P ≡ v
spoken (Generic g) e = absurd (no_param e)
spoken (MemberOf t (NameStep a)) e = absurd e
spoken (MemberOf t (Bound d)) (u, x, a, e, h, o, i) =
    let (k, y) = same_from_push (first_param ∷ []) u (Member 1) x e in
    let tt0 : τ_0_0 ≡ t = one_type shared_symbols shared (of_one shared_f) τ_0_0 t (first_param ∷ []) refl
    (subst (λ w. IsTypeOf shared_symbols shared (of_one shared_f) w t) (sym k) h) in
    let named : IsNamed shared_symbols (Member 1) a = subst (λ z. IsNamed shared_symbols z a) (sym y) o in
    let also : IsFirstFor shared (of_one shared_f) τ_0_0 A d
    = subst (λ b. IsFirstFor shared (of_one shared_f) τ_0_0 b d) (sym named.1)
    (subst (λ z. IsFirstFor shared (of_one shared_f) z a d) (sym tt0) i) in
    ap₂ MemberOf tt0 (ap Bound (one_first shared_symbols shared (of_one shared_f) τ_0_0 A A_of_P d first also))

nothing : (r : TermRequirement) → IsReadOff shared_symbols shared (of_one shared_f) (first_param ∷ Member 1 ∷ []) Right r → ⊥
nothing (Conforms t p) (v, h, e) = no_longer (Proto p.rank) e
nothing (IsAnyObject t) (v, h, e) = no_longer Layout e
nothing (Equals u v) (vu, vv, differ, h, s) =
    differ (one_type shared_symbols shared (of_one shared_f) u (bound τ_0_0 A_of_P) Right h right_type ∙ spoken v s)

pub returns : goal.returns
returns c = record { nothing = nothing }
