-- What a query asks, where its names resolve.
use Rattle.std.proofs.Common.{◌≡◌, ℕ, Bool, true, false, cond, [], Option, Some, None, length, get_or, map, refl, sym, ap, subst}
use Rattle.std.proofs.lemmas.List.Elements.{All-map}
use Rattle.std.proofs.lemmas.Option.{slice_get_within, get_or_from_slice_get}
use Rattle.std.specs.List.{All, flat_map}
use Rattle.std.specs.Option.{option_map}
use Rattle.swreq_lexicon.specs.swreq_decl.declared.skeleton.Ask.{Ask}
use Rattle.swreq_lexicon.specs.swreq_decl.declared.skeleton.Ask.TheVariants as asked_for
use Rattle.swreq_lexicon.specs.swreq_decl.declared.skeleton.Entity.{Entity}
use Rattle.swreq_lexicon.specs.swreq_decl.declared.skeleton.QueryDecl.{QueryDecl}
use Rattle.swreq_lexicon.specs.swreq_decl.declared.skeleton.Skeleton.{Skeleton}
use Rattle.swreq_lexicon.specs.swreq_decl.declared.skeleton.Span.{Span}
use Rattle.swreq_lexicon.specs.swreq_decl.declared.skeleton.TypeDecl.{TypeDecl}
use Rattle.swreq_resolve.specs.declared.refusal.Fault.TheVariants.{UnknownSignature}
use Rattle.swreq_lexicon.specs.swreq_names.declared.signature.Signature.{Signature}
use Rattle.swreq_lexicon.specs.swreq_names.Walk as names
use Rattle.swreq_resolve.specs.Refusals.{begins_in_signature, of_named, of_type, of_entity, of_protocol_name, of_ask, of_asked, of_nested_query, of_query_in, of_query}
use Rattle.swreq_lexicon.specs.swreq_names.Spaces.{spaces, word, protocol_of, struct_of, signature_of, nested_in}
use Rattle.swreq_param.specs.Terms.{Term, head}
use Rattle.swreq_lexicon.specs.swreq_derive.Derivation.TermRequirement.{Conforms, IsAnyObject}
use Rattle.swreq_lexicon.specs.swreq_rank.Ranks.{Bytes}
use Rattle.swreq_lowering.specs.declared.context.Context.TheVariants as contexts
use Rattle.swreq_lowering.specs.Requirements.{PlacedRequirement}
use Rattle.swreq_lowering.specs.Queries.{asked_signature, asked_of, signature_in_query, query_of}
use Rattle.swreq_lowering.specs.Queries.TermAsks.{AsksRequirement}
use Rattle.swreq_lowering.specs.Signatures.{in_order, func_id, params_of}
use Rattle.swreq_lowering.specs.Types.{type_in}
use Rattle.swreq_lowering.specs.Words.{WordsView, declared, proto_of}
use Rattle.swreq_world.specs.Closed.{IsAskedOf, IsParamOf, IsQueryOf, IsTermOf}
use Rattle.swreq_world.specs.Text.{signature_in, signatures}
use Rattle.swreq_world.specs.WorldOf.{words_of}
use Rattle.swreq_world.specs.Worlds.{TextWorld, SignatureOver, no_signature}
use Rattle.swreq_world.proofs.Constraints.{parts, type_is, named_is}
use Rattle.swreq_world.proofs.Everywhere.{all_left}
use Rattle.swreq_world.proofs.InSignatures.{starts}
use Rattle.swreq_world.proofs.Resolving.{Never, AreResolved, Resolved, refused}
use Rattle.swreq_world.proofs.Named.{found}
use Rattle.swreq_world.proofs.Standing.{IsIn, stands, signature_stands}

-- ---- the signature that is asked

named_is_in : (w : WordsView) → declared w ≡ spaces w.text w.skeleton → (outer : Option Span) (f : Span) (g : Signature)
    → signature_in_query w outer f ≡ Some g → IsIn w.skeleton g
named_is_in w same outer f g e = (found w same (option_map (word w.text) outer) (word w.text f) g e).is_in

module _ (w : WordsView) (q : QueryDecl) where
  -- The query asks this signature.
  abbrev Asks : Option Signature → Type 0
  Asks o = (g : Signature) × (o ≡ Some g) × All Never (of_ask w.text (declared w) (begins_in_signature (declared w) g) q.ask)

  asks_named : (o : Option Signature) → All Never (of_asked w.text (declared w) q o) → Asks o
  asks_named None h = absurd (refused UnknownSignature q.function.start h)
  asks_named (Some g) h = (g, refl, h)

  asks_nested : (s : Span) (o : Option ℕ) → All Never (of_nested_query w.text (declared w) q s o)
      → Asks (elim o as (λ _. Option Signature) [ None ↦ None | Some i ↦ nested_in (declared w) i (word w.text q.function) ])
  asks_nested s None h = absurd (refused UnknownSignature s.start h)
  asks_nested s (Some i) h = asks_named (nested_in (declared w) i (word w.text q.function)) h

  asks : (outer : Option Span) → All Never (of_query_in w.text (declared w) q outer) → Asks (signature_in_query w outer q.function)
  asks None h = asks_named (signature_of (declared w) (word w.text q.function)) h
  asks (Some s) h = asks_nested s (struct_of (declared w) (word w.text s)) h

-- ---- what is asked

module _ (text : Bytes) (s : Skeleton) (v : TextWorld) where
  abbrev words : WordsView
  words = words_of text s v

  module _ (inherits : ℕ → ℕ → Bool) (are : AreResolved words inherits) (same : declared words ≡ spaces text s) where
    -- of a signature, which stands at its place
    module _ (g : Signature) where
      abbrev begins : Bytes → Bool
      begins = begins_in_signature (declared words) g

      type_asked : (t : TypeDecl) → Resolved words (of_type text (declared words) begins t) (names.in_type text t)
          → IsTermOf v.lexicon (type_in words (contexts.Signature g) t)
          × IsParamOf (params_of s g) (head (type_in words (contexts.Signature g) t))
      type_asked t h =
          type_is words are.refers (contexts.Signature g) begins (IsParamOf (params_of s g)) (starts words inherits are same g) t h

      entity_asked : (t : Term) (e : Entity) (b : Bool) → IsTermOf v.lexicon t × IsParamOf (params_of s g) (head t)
          → All Never
          (cond b [] (of_protocol_name (declared words) e.span (length e.args) (protocol_of (declared words) (word text e.span))))
          → IsAskedOf v.lexicon (params_of s g) (AsksRequirement (cond b (IsAnyObject t) (Conforms t (proto_of words e.span))))
      entity_asked t e true i h = i
      entity_asked t e false i h =
          ((i.0, named_is words are.refers e.span (length e.args) (protocol_of (declared words) (word text e.span)) refl h), i.1)

      ask_is : (a : Ask) → Resolved words (of_ask text (declared words) begins a) (names.in_ask text a)
          → IsAskedOf v.lexicon (params_of s g) (asked_of words g a)
      ask_is asked_for.Signature h = tt
      ask_is (asked_for.Reduced t) h = type_asked t h
      ask_is (asked_for.Is t e) h =
          let of_first = of_type text (declared words) begins t in
          let of_args = flat_map (of_type text (declared words) begins) e.args in
          let p = parts words of_first (of_entity text (declared words) begins e) (names.in_type text t) (names.in_entity text e) h in
          entity_asked (type_in words (contexts.Signature g) t) e e.layout (type_asked t p.0)
          (all_left Never (of_named text (declared words) e) of_args p.1.0)
      ask_is (asked_for.Same t u) h =
          let p = parts words (of_type text (declared words) begins t) (of_type text (declared words) begins u) (names.in_type text t)
          (names.in_type text u) h in
          let i = type_asked t p.0 in let j = type_asked u p.1 in ((i.0, j.0), (i.1, j.1))

    module _ (is : v.signatures ≡ signatures words) where
      query_is : (q : QueryDecl) → Resolved words (of_query text (declared words) q) (names.in_query text q)
          → IsQueryOf v (query_of words (in_order s) q)
      query_is q h =
          let a = asks words q q.outer h.0 in
          let f = func_id (in_order s) a.0 in
          let there = signature_stands words v.signatures is f a.0 (stands s a.0 (named_is_in words same q.outer q.function a.0 a.1)) in
          let at = slice_get_within v.signatures f.place (signature_in words (in_order s) a.0) there in
          let params = ap (λ (o : SignatureOver PlacedRequirement). o.params)
          (sym (get_or_from_slice_get v.signatures f.place (signature_in words (in_order s) a.0) no_signature there)) in
          subst (λ g. IsQueryOf v (record { f = func_id (in_order s) g; asks = asked_of words g q.ask })) (sym (ap asked_signature a.1))
          (at, subst (λ ps. IsAskedOf v.lexicon ps (asked_of words a.0 q.ask)) params (ask_is a.0 q.ask (a.2, h.1)))

      pub queries_are : All (IsQueryOf v) (map (query_of words (in_order s)) s.queries)
      queries_are =
          All-map (IsQueryOf v) (query_of words (in_order s)) s.queries (λ k q l. query_is (get_or s.queries k q) (are.queries k q l))
