-- What the worked texts derive.
use Rattle.std.proofs.Common.{[], ◌∷◌, refl, lit<}
use Rattle.swreq_param.specs.Terms.{Term, self}
use Rattle.swreq_derive.specs.Derivation.{Derivable}
use Rattle.swreq_derive.specs.Derivation.Derives.{generic, conf, assoc_conf, assoc_name}
use Rattle.swreq_derive.specs.Derivation.Source.{SelfOf}
use Rattle.swreq_derive.specs.Derivation.TermRequirement.{Conforms}
use Rattle.swreq_derive.specs.Derivation.TermStatement.{IsValid, Requires}
use Rattle.swreq_derive.specs.Worked.{◌·◌, declared, of_one, param, τ_0_0, N, Next, Next_of_N, endless, endless_f, P, Q, A, A_of_P, A_of_Q, shared, shared_f, shared_requirements, Early, Late, redeclared, redeclared_f}
use Rattle.swreq_derive.proofs.Lengths.{HasNoSameType}
use Rattle.swreq_derive.proofs.Listed.{none_listed}

-- ---- members without end

pub endless_conforms : Derivable endless (of_one endless_f) (Requires (Conforms τ_0_0 N))
endless_conforms = conf (0, lit< tt, refl) (λ _. generic (0, lit< tt, refl))

-- [Self.Next : N] of N is usable
pub endless_usable : Derivable endless (SelfOf N) (IsValid (self · Next))
endless_usable = assoc_name {d = Next_of_N} (conf refl (λ _. generic refl)) (0, lit< tt, refl)

-- a member of what conforms conforms
pub endless_next : {t : Term} → Derivable endless (of_one endless_f) (Requires (Conforms t N))
    → Derivable endless (of_one endless_f) (Requires (Conforms (t · Next) N))
endless_next e = assoc_conf {u = self · Next} e (0, lit< tt, refl) (λ _. endless_usable)

-- ---- one name in two protocols

pub shared_has_no_same_type : HasNoSameType shared (of_one shared_f)
shared_has_no_same_type =
    none_listed (declared P A A_of_P ∷ declared Q A A_of_Q ∷ []) (param 0 ∷ []) shared_requirements shared_f
    (tt, (tt, tt)) (refl, (refl, tt))

pub shared_to_p : Derivable shared (of_one shared_f) (Requires (Conforms τ_0_0 P))
shared_to_p = conf (0, lit< tt, refl) (λ _. generic (0, lit< tt, refl))

pub shared_to_q : Derivable shared (of_one shared_f) (Requires (Conforms τ_0_0 Q))
shared_to_q = conf (1, lit< tt, refl) (λ _. generic (0, lit< tt, refl))

-- ---- a name declared again

pub redeclared_to_early : Derivable redeclared (of_one redeclared_f) (Requires (Conforms τ_0_0 Early))
redeclared_to_early = conf (0, lit< tt, refl) (λ _. generic (0, lit< tt, refl))

-- what conforms to `Early` conforms to `Late`, which it inherits
pub redeclared_to_late : {t : Term} → Derivable redeclared (of_one redeclared_f) (Requires (Conforms t Early))
    → Derivable redeclared (of_one redeclared_f) (Requires (Conforms t Late))
redeclared_to_late e = assoc_conf {u = self} e (0, lit< tt, refl) (λ _. generic refl)
