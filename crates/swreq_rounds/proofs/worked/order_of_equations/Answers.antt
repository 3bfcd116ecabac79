use Rattle.std.proofs.Common.{ℕ, zero, suc, List, [], ◌∷◌, Contains, refl, lit<, arith}
use Rattle.swreq_correspondence.specs.swreq_param.declared.ids.ProtoId.{ProtoId}
use Rattle.swreq_correspondence.specs.swreq_param.Terms.{Term}
use Rattle.swreq_correspondence.specs.swreq_derive.Derivation.{TermRequirement}
use Rattle.swreq_correspondence.specs.swreq_derive.Derivation.TermRequirement.{Conforms, IsAnyObject, Equals}
use Rattle.swreq_correspondence.specs.swreq_derive.Worked.{by_rank}
use Rattle.swreq_complete.proofs.swreq_lemmas.Members.{each_member, no_member}
use Rattle.swreq_correspondence.specs.Symbols.{IsOfText, IsRank, proto_of}
use Rattle.swreq_rounds.specs.Worked.{leaf_requirements, tree_requirements, trees_symbols}
use Rattle.swreq_rounds.proofs.worked.order_of_equations.Goals as goal

abbrev Requirements : List (List TermRequirement)
Requirements = leaf_requirements ∷ tree_requirements ∷ []

-- requirements are of the two protocols
owned : (n : ℕ) (r : TermRequirement) → Contains (by_rank Requirements n) r → IsOfText trees_symbols (record { rank = n })
owned zero r h = (1, lit< tt, refl)
owned (suc zero) r h = (0, lit< tt, refl)
owned (suc (suc n)) r h = no_member r h

-- and so are member names
named : (k : ℕ) → IsRank trees_symbols k → IsOfText trees_symbols (proto_of trees_symbols k)
named zero l = (1, lit< tt, refl)
named (suc zero) l = (1, lit< tt, refl)
named (suc (suc zero)) l = (0, lit< tt, refl)
named (suc (suc (suc zero))) l = (1, lit< tt, refl)
named (suc (suc (suc (suc zero)))) l = (1, lit< tt, refl)
named (suc (suc (suc (suc (suc zero))))) l = (0, lit< tt, refl)
named (suc (suc (suc (suc (suc (suc k)))))) l = absurd (omega (arith, l))

-- they speak of these protocols
abbrev Speaks : TermRequirement → Type 0
Speaks (Conforms t q) = IsOfText trees_symbols q
Speaks (IsAnyObject t) = Unit {0}
Speaks (Equals t u) = Unit {0}

spoken : (n : ℕ) (t : Term) (q : ProtoId) → Contains (by_rank Requirements n) (Conforms t q) → IsOfText trees_symbols q
spoken zero t q h = each_member Speaks leaf_requirements ((0, lit< tt, refl), (tt, ((1, lit< tt, refl), tt))) (Conforms t q) h
spoken (suc zero) t q h = each_member Speaks tree_requirements (tt, ((0, lit< tt, refl), tt)) (Conforms t q) h
spoken (suc (suc n)) t q h = no_member (Conforms t q) h

pub returns-clause-of_text : goal.returns-clause-of_text
returns-clause-of_text c = record {
  owners = λ p r h. owned p.rank r h;
  members = λ k l. named k l;
  protocols = λ p t q h. spoken p.rank t q h;
}
