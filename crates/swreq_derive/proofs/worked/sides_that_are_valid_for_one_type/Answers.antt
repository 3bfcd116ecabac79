use Rattle.std.proofs.Common.{◌≡◌, ℕ, zero, suc, ◌+◌, ◌≤◌, true, [], ◌∷◌, Contains, refl, sym, ap, ◌∙◌, lit<, arith}
use Rattle.swreq_param.specs.declared.ids.ProtoId.{ProtoId}
use Rattle.swreq_param.specs.Terms.{Term, self, member_count}
use Rattle.swreq_derive.specs.Derivation.{TermRequirement, TermStatement, Source, Derives, Derivable, BookDerivable, HasRequirement}
use Rattle.swreq_derive.specs.Derivation.TermRequirement.{Conforms, IsAnyObject, Equals}
use Rattle.swreq_derive.specs.Derivation.TermStatement.{IsValid, Requires}
use Rattle.swreq_derive.specs.Derivation.Source.{SelfOf}
use Rattle.swreq_derive.specs.Derivation.Derives.{generic, conf, same, layout, assoc_name, assoc_decl, assoc_bind, assoc_conf, assoc_same, assoc_layout, reflex, symm, trans, same_conf, same_layout, same_name, same_decl}
use Rattle.swreq_derive.specs.Worked.{◌·◌, of_one, τ_0_0, P, Q, A, B, elsewhere, elsewhere_requirements, elsewhere_f, by_rank}
use Rattle.swreq_derive.proofs.worked.sides_that_are_valid_for_one_type.Goals as goal
use Rattle.swreq_derive.proofs.Guard.{unguarded}
use Rattle.swreq_param.proofs.swreq_lemmas.Members.{each_member, no_member}

-- Self.A.B is a side of each requirement of the protocols.
abbrev IsSide : TermRequirement → Type 0
IsSide (Conforms t p) = t ≡ self · A · B
IsSide (IsAnyObject t) = t ≡ self · A · B
IsSide (Equals t u) = t ≡ self · A · B

sides : (n : ℕ) (r : TermRequirement) → Contains (by_rank elsewhere_requirements n) r → IsSide r
sides zero r h = each_member IsSide (Conforms (self · A · B) Q ∷ IsAnyObject (self · A · B) ∷ Equals (self · A · B) (self · A) ∷ [])
    (refl, (refl, (refl, tt))) r h
sides (suc zero) r h = no_member r h
sides (suc (suc n)) r h = no_member r h

-- The written requirements are conformances of type parameters with at most n members.
abbrev IsShort : ℕ → TermRequirement → Type 0
IsShort n (Conforms t p) = member_count t ≤ n
IsShort n (IsAnyObject t) = ⊥
IsShort n (Equals t u) = ⊥

abbrev AreShort : ℕ → Source → Type 0
AreShort n s = (r : TermRequirement) → HasRequirement s r → IsShort n r

short_self : (p : ProtoId) → AreShort 0 (SelfOf p)
short_self p (Conforms t q) h = let e : t ≡ self = cc in omega (arith, ap member_count e)
short_self p (IsAnyObject t) h = absurd cc
short_self p (Equals t u) h = absurd cc

-- What is derivable then, with the guard.
abbrev Says : ℕ → TermStatement → Type 0
Says n (IsValid t) = member_count t ≤ n + 1
Says n (Requires (Conforms t p)) = member_count t ≤ n
Says n (Requires (IsAnyObject t)) = ⊥
Says n (Requires (Equals t u)) = member_count t ≡ member_count u

too_long : {u : Term} → u ≡ self · A · B → member_count u ≤ 0 + 1 → ⊥
too_long e h = omega (arith, ap member_count e)

says : {s : Source} {st : TermStatement} → Derives elsewhere true s st → (n : ℕ) → AreShort n s → Says n st
says (generic h) n w = omega arith
says (conf {t = t} {p = p} h v) n w = w (Conforms t p) h
says (same {t = t} {u = u} h v x) n w = absurd (w (Equals t u) h)
says (layout {t = t} h v) n w = w (IsAnyObject t) h
says (assoc_name e d) n w = omega (arith, says e n w)
says (assoc_decl e d) n w = omega (arith, says e n w)
says (assoc_bind e d) n w = refl
says (assoc_conf {u = u} {p = p} {q = q} e h v) n w = absurd (too_long (sides p.rank (Conforms u q) h) (says (v refl) 0 (short_self p)))
says (assoc_same {u = u} {v = x} {p = p} e h v y) n w = absurd (too_long (sides p.rank (Equals u x) h) (says (v refl) 0 (short_self p)))
says (assoc_layout {u = u} {p = p} e h v) n w = too_long (sides p.rank (IsAnyObject u) h) (says (v refl) 0 (short_self p))
says (reflex e) n w = refl
says (symm e) n w = sym (says e n w)
says (trans e h) n w = says e n w ∙ says h n w
says (same_conf e h) n w = omega (arith, says e n w, says h n w)
says (same_layout e h) n w = says e n w
says (same_name e h d) n w = ap (λ k. k + 1) (says h n w)
says (same_decl e h d) n w = ap (λ k. k + 1) (says h n w)

short_f : AreShort 1 (of_one elsewhere_f)
short_f = each_member (IsShort 1) elsewhere_f (omega arith, (omega arith, tt))

conforms : Derivable elsewhere (of_one elsewhere_f) (Requires (Conforms τ_0_0 P))
conforms = conf (0, lit< tt, refl) (λ _. generic (0, lit< tt, refl))

book_conforms : BookDerivable elsewhere (of_one elsewhere_f) (Requires (Conforms τ_0_0 P))
book_conforms = conf (0, lit< tt, refl) unguarded

pub returns-clause-valid : goal.returns-clause-valid
returns-clause-valid c =
    assoc_name {t = τ_0_0 · A} {p = Q} (conf (1, lit< tt, refl) (λ _. assoc_name conforms (0, lit< tt, refl))) (1, lit< tt, refl)

pub returns-clause-unusable : goal.returns-clause-unusable
returns-clause-unusable c (Conforms t q) h u = too_long (sides 0 (Conforms t q) h) (says u 0 (short_self P))
returns-clause-unusable c (IsAnyObject t) h u = too_long (sides 0 (IsAnyObject t) h) (says u 0 (short_self P))
returns-clause-unusable c (Equals t v) h u = too_long (sides 0 (Equals t v) h) (says u.0 0 (short_self P))

pub returns-clause-book_conforms : goal.returns-clause-book_conforms
returns-clause-book_conforms c = assoc_conf {u = self · A · B} book_conforms (0, lit< tt, refl) unguarded

pub returns-clause-book_layout : goal.returns-clause-book_layout
returns-clause-book_layout c = assoc_layout {u = self · A · B} book_conforms (1, lit< tt, refl) unguarded

pub returns-clause-book_equal : goal.returns-clause-book_equal
returns-clause-book_equal c = assoc_same {u = self · A · B} {v = self · A} book_conforms (2, lit< tt, refl) unguarded unguarded

pub returns-clause-conforms : goal.returns-clause-conforms
returns-clause-conforms c d = let k = says d 1 short_f in omega arith

pub returns-clause-layout : goal.returns-clause-layout
returns-clause-layout c d = says d 1 short_f

pub returns-clause-equal : goal.returns-clause-equal
returns-clause-equal c d = let k = says d 1 short_f in omega arith
