-- What is derivable from a list of a text is of the text.
use Rattle.std.proofs.Common.{inl, inr, subst, List, [], ◌∷◌, Contains, map, length}
use Rattle.std.specs.List.{All, AllByRecursion}
use Rattle.std.proofs.lemmas.List.Elements.{All-contains, All-get_or, All-map, All-weaker}
use Rattle.std.proofs.lemmas.Bool.{cases_lt}
use Rattle.std.proofs.lemmas.List.{get_or_past}
use Rattle.std.proofs.lemmas.Option.{slice_get_within}
use Rattle.swreq_print.specs.swreq_param.declared.ids.AssocId.{AssocId}
use Rattle.swreq_print.specs.swreq_param.declared.ids.NameId.{NameId}
use Rattle.swreq_print.specs.swreq_param.declared.ids.ParamId.{ParamId}
use Rattle.swreq_print.specs.swreq_param.declared.ids.ProtoId.{ProtoId}
use Rattle.swreq_print.specs.swreq_param.Terms.{Term, head}
use Rattle.swreq_print.specs.swreq_param.Terms.Term.{Generic, Member}
use Rattle.swreq_print.specs.swreq_derive.Derivation.{Derivable, TermRequirement, TermStatement, Declares, for_self}
use Rattle.swreq_print.specs.swreq_derive.Derivation.Derives.{generic, conf, same, layout, assoc_name, assoc_decl, assoc_bind, assoc_conf, assoc_same, assoc_layout, reflex, symm, trans, same_conf, same_layout, same_name, same_decl}
use Rattle.swreq_print.specs.swreq_derive.Derivation.Source.{Written}
use Rattle.swreq_print.specs.swreq_derive.Derivation.TermRequirement.{Conforms, IsAnyObject, Equals}
use Rattle.swreq_print.specs.swreq_derive.Derivation.TermStatement.{IsValid, Requires}
use Rattle.swreq_print.proofs.swreq_lemmas.Members.{first_member, later_member, no_member, each_by_recursion}
use Rattle.swreq_print.specs.swreq_lexicon.Lexicons.{pair}
use Rattle.swreq_print.specs.swreq_lexicon.Views.{LexiconView, IsName}
use Rattle.swreq_print.specs.swreq_lowering.Heads.{IsOver}
use Rattle.swreq_print.specs.swreq_lowering.OfText.{IsRequirementOf, IsTermOf}
use Rattle.swreq_print.specs.swreq_lowering.Requirements.{PlacedRequirement}
use Rattle.swreq_machine.specs.swreq_world.Closed.{IsClosed, IsOfProtocol}
use Rattle.swreq_machine.specs.swreq_world.Worlds.{TextWorld, requirements_of}
use Rattle.swreq_machine.specs.swreq_symbols.Meaning.{facts_of}
use Rattle.swreq_machine.proofs.swreq_symbols.Declared.{at_rank, of_text}
use Rattle.swreq_print.specs.Reading.{HasNumbers, IsAssociated, IsReadableRequirement, IsReadableType}

-- ---- type parameters

module _ (x : LexiconView) where
  pub for_self_of : (t u : Term) → IsReadableType x t → IsTermOf x u → IsReadableType x (for_self t u)
  for_self_of t (Generic g) h k = h
  for_self_of t (Member u s) h k = let i = for_self_of t u h k.0 in (i.0, (i.1, k.1))

  type_of : (Is : ParamId → Type 0) → ((g : ParamId) → Is g → HasNumbers g) → (t : Term) → Is (head t) → IsTermOf x t → IsReadableType x t
  type_of Is numbers t i h = (numbers (head t) i, h)

  -- a requirement of the text, over generic parameters whose numbers have 32 bits
  pub requirement_is : (Is : ParamId → Type 0) → ((g : ParamId) → Is g → HasNumbers g) → (r : TermRequirement)
      → IsRequirementOf x r → IsOver Is r
      → IsReadableRequirement x r
  requirement_is Is numbers (Conforms t p) h i = (type_of Is numbers t i h.0, h.1)
  requirement_is Is numbers (IsAnyObject t) h i = type_of Is numbers t i h
  requirement_is Is numbers (Equals t u) h i = (type_of Is numbers t i.0 h.0, type_of Is numbers u i.1 h.1)

-- ---- what is derivable

module _ (w : TextWorld) (is : IsClosed w) where
  abbrev x : LexiconView
  x = w.lexicon

  -- a requirement of a protocol
  pub of_protocol : (p : ProtoId) (r : TermRequirement) → Contains ((facts_of w).of_protocol p) r → IsRequirementOf x r
  of_protocol p r c = elim (cases_lt p.rank (length w.requirements)) [
    | inl l ↦ among (requirements_of w p) (All-get_or (λ z. All (IsOfProtocol x) z) w.requirements p.rank [] l is.requirements) c
    | inr l ↦
        no_member r (subst (λ z. Contains (map (λ (q : PlacedRequirement). q.requirement) z) r) (get_or_past w.requirements p.rank [] l) c)
  ]
    where
      among : (rs : List PlacedRequirement) → All (IsOfProtocol x) rs
          → Contains (map (λ (q : PlacedRequirement). q.requirement) rs) r → IsRequirementOf x r
      among rs all k =
          let each = All-weaker (IsOfProtocol x) (λ q. IsRequirementOf x q.requirement) (λ q h. h.0) rs all in
          All-contains (IsRequirementOf x) (map (λ (q : PlacedRequirement). q.requirement) rs) r
          (All-map (IsRequirementOf x) (λ (q : PlacedRequirement). q.requirement) rs each) k

  declared_name : (p : ProtoId) (a : NameId) (d : AssocId) → Declares (facts_of w) p a d → IsName x a
  declared_name p a d c = (of_text x p a d is.ids c).1

  pub declared_assoc : (p : ProtoId) (a : NameId) (d : AssocId) → Declares (facts_of w) p a d → IsAssociated x d
  declared_assoc p a d c = slice_get_within x.associated d.rank (pair p a) (at_rank x p a d c)

  -- The statement speaks of the text.
  abbrev pub Speaks : TermStatement → Type 0
  Speaks (IsValid t) = IsReadableType x t
  Speaks (Requires r) = IsReadableRequirement x r

  module _ (gs : List ParamId) (rs : List TermRequirement) (numbers : (g : ParamId) → Contains gs g → HasNumbers g)
      (own : (r : TermRequirement) → Contains rs r → IsReadableRequirement x r) where
    pub speaks : {st : TermStatement} → Derivable (facts_of w) (Written gs rs) st → Speaks st
    speaks (generic {g = g} h) = (numbers g h, tt)
    speaks (conf {t = t} {p = p} h v) = own (Conforms t p) h
    speaks (same {t = t} {u = u} h v k) = own (Equals t u) h
    speaks (layout {t = t} h v) = own (IsAnyObject t) h
    speaks (assoc_name {p = p} {a = a} {d = d} e c) = let i = (speaks e).0 in (i.0, (i.1, declared_name p a d c))
    speaks (assoc_decl {p = p} {a = a} {d = d} e c) = let i = (speaks e).0 in (i.0, (i.1, declared_assoc p a d c))
    speaks (assoc_bind {p = p} {a = a} {d = d} e c) =
        let i = (speaks e).0 in ((i.0, (i.1, declared_assoc p a d c)), (i.0, (i.1, declared_name p a d c)))
    speaks (assoc_conf {t = t} {u = u} {p = p} {q = q} e c v) =
        let k = of_protocol p (Conforms u q) c in (for_self_of x t u (speaks e).0 k.0, k.1)
    speaks (assoc_same {t = t} {u = u} {v = v} {p = p} e c h k) =
        let i = of_protocol p (Equals u v) c in
        let j = (speaks e).0 in (for_self_of x t u j i.0, for_self_of x t v j i.1)
    speaks (assoc_layout {t = t} {u = u} {p = p} e c v) = for_self_of x t u (speaks e).0 (of_protocol p (IsAnyObject u) c)
    speaks (reflex e) = let i = speaks e in (i, i)
    speaks (symm e) = let i = speaks e in (i.1, i.0)
    speaks (trans e h) = ((speaks e).0, (speaks h).1)
    speaks (same_conf e h) = ((speaks h).0, (speaks e).1)
    speaks (same_layout e h) = (speaks h).0
    speaks (same_name {p = p} {a = a} {d = d} e h c) =
        let i = speaks h in
        let n = declared_name p a d c in ((i.0.0, (i.0.1, n)), (i.1.0, (i.1.1, n)))
    speaks (same_decl {p = p} {a = a} {d = d} e h c) =
        let i = speaks h in
        let n = declared_assoc p a d c in ((i.0.0, (i.0.1, n)), (i.1.0, (i.1.1, n)))

-- all members, one after the other
