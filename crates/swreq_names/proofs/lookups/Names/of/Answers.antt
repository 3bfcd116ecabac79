use Rattle.std.proofs.Common.{◌≡◌, ◌∙◌, List, ℕ, ap, ap₂, length, map, subst, sym}
use Rattle.std.proofs.lemmas.List.{length-map}
use Rattle.swreq_closure.specs.Chains.{IsClosureOf, IsOfPlaces}
use Rattle.swreq_decl.specs.declared.skeleton.ProtocolDecl.{ProtocolDecl}
use Rattle.swreq_decl.specs.declared.skeleton.Skeleton.{Skeleton}
use Rattle.swreq_names.specs.Inheritance.{LeadToDeclared, direct, inheritance}
use Rattle.swreq_names.specs.Spaces.{Spaces, spaces}
use Rattle.swreq_names.proofs.lookups.Names.of.Goals as goal

pub of-requires-2 : goal.of-requires-2
of-requires-2 c = rw c.deref.ensures.value c.in_ok-direct.ensures.within

pub invariant_of-result : goal.invariant_of-result
invariant_of-result c = (
  subst (λ (graph : List (List ℕ)). IsClosureOf graph c.in_ok-inherits.inherits) c.deref.ensures.value c.in_ok-inherits.ensures.closure,
  c.in_ok-direct.ensures.within,
  subst (λ (d : Spaces). LeadToDeclared d.protocols c.in_ok-direct.direct.items) (sym c.in_ok-declared-2.ensures.ok)
      c.in_ok-direct.ensures.declared,
)

pub returns : goal.returns
returns c = record {
  declared = c.in_ok-declared-2.ensures.ok ∙ c.in_ok-declared.ensures;
  direct = direct_is;
  tells = subst (λ (graph : List (List ℕ)). IsClosureOf graph c.in_ok-inherits.inherits) graph_is c.in_ok-inherits.ensures.closure;
  places = subst (λ (n : ℕ). IsOfPlaces n c.in_ok-inherits.inherits)
      (ap length graph_is ∙ length-map s.protocols (direct text (spaces text s))) c.in_ok-inherits.ensures.places;
}
  where
    text : List ℕ
    text = c.args.text.now

    s : Skeleton
    s = c.args.s.now

    direct_is : c.in_ok-direct.direct.items ≡ inheritance text s
    direct_is =
        c.in_ok-direct.ensures.is
        ∙ ap₂ (λ (d : Spaces) (ps : List ProtocolDecl). map (direct text d) ps) c.in_ok-declared.ensures c.items.ensures

    graph_is : c.deref.result.now ≡ inheritance text s
    graph_is = c.deref.ensures.value ∙ direct_is
