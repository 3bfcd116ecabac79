use Rattle.std.proofs.Common.{◌≡◌, ◌∙◌, sym, ℕ, List, length}
use Rattle.swreq_closure.specs.Chains.{Matrix, leads, matrix}
use Rattle.swreq_decl.specs.declared.skeleton.Skeleton.{Skeleton}
use Rattle.swreq_names.specs.Names.{HasDeclared, NamesView}
use Rattle.swreq_names.specs.Spaces.{Spaces}
use Rattle.swreq_rank.proofs.Tests.{same_bool}
use Rattle.swreq_names.proofs.laws.names_are_one.Goals as goal

abbrev names : Spaces → List (List ℕ) → Matrix → NamesView
names declared direct inherits = record { declared = declared; direct = direct; inherits = inherits }

module _ (text : List ℕ) (s : Skeleton) (m n : NamesView) (of_m : HasDeclared text s m) (of_n : HasDeclared text s n) where
  told : (i j : ℕ) → leads m.inherits i j ≡ leads n.inherits i j
  told i j = same_bool (leads m.inherits i j) (leads n.inherits i j)
      (λ h. (of_n.tells i j).1 ((of_m.tells i j).0 h)) (λ h. (of_m.tells i j).1 ((of_n.tells i j).0 h))

  inherits_same : m.inherits ≡ n.inherits
  inherits_same = of_m.places ∙ (λ k. matrix (length s.protocols) (λ i j. told i j k)) ∙ sym of_n.places

  same_names : m ≡ n
  same_names = λ k. names ((of_m.declared ∙ sym of_n.declared) k) ((of_m.direct ∙ sym of_n.direct) k) (inherits_same k)

pub returns : goal.returns
returns c = λ s m n h k. same_names c.args.text.now s m n h k
