-- The queries of a world say what is written in those of its text.
use Rattle.std.proofs.Common.{◌≡◌, ℕ, Bool, true, false, cond, [], ◌∷◌, Some, slice_get, Contains, refl, sym, ap, subst, ◌∙◌}
use Rattle.std.proofs.lemmas.List.Elements.{Contains-append_right}
use Rattle.std.specs.List.{flat_map}
use Rattle.std.specs.Option.{option_map}
use Rattle.swreq_param.proofs.swreq_lemmas.Elements.{get_contains}
use Rattle.swreq_param.proofs.swreq_lemmas.Members.{contains_map, first_member, later_member}
use Rattle.swreq_lexicon.specs.swreq_decl.declared.skeleton.Ask.{Ask}
use Rattle.swreq_lexicon.specs.swreq_decl.declared.skeleton.Ask.TheVariants as asked_for
use Rattle.swreq_lexicon.specs.swreq_decl.declared.skeleton.Entity.{Entity}
use Rattle.swreq_lexicon.specs.swreq_decl.declared.skeleton.QueryDecl.{QueryDecl}
use Rattle.swreq_lexicon.specs.swreq_decl.declared.skeleton.Skeleton.{Skeleton}
use Rattle.swreq_lexicon.specs.swreq_decl.declared.skeleton.TypeDecl.{TypeDecl}
use Rattle.swreq_lexicon.specs.swreq_names.declared.signature.Signature.{Signature}
use Rattle.swreq_lexicon.specs.swreq_names.Parts as parts
use Rattle.swreq_lexicon.specs.swreq_names.Parts.{in_query, numbered, constraints, entities, types}
use Rattle.swreq_lexicon.specs.swreq_names.Spaces.{word}
use Rattle.swreq_lexicon.proofs.swreq_names.Pieces.{in_pieces}
use Rattle.swreq_resolve.specs.Resolving.{HasNames}
use Rattle.swreq_resolve.proofs.SameMembers.{has_number}
use Rattle.swreq_lexicon.specs.swreq_rank.Ranks.{Bytes}
use Rattle.swreq_lexicon.specs.swreq_derive.Derivation.TermRequirement.{Conforms, IsAnyObject}
use Rattle.swreq_lowering.specs.declared.ids.FuncId.{FuncId}
use Rattle.swreq_lowering.specs.declared.context.Context.TheVariants as contexts
use Rattle.swreq_lowering.specs.Queries.{TermQuery, asked_of, asked_signature, query_of, signature_in_query}
use Rattle.swreq_lowering.specs.Queries.TermAsks.{AsksRequirement}
use Rattle.swreq_lowering.specs.Signatures.{func_id, in_order}
use Rattle.swreq_lowering.specs.Types.{type_in}
use Rattle.swreq_lowering.specs.Words.{WordsView, proto_of}
use Rattle.swreq_world.specs.ReadBack.{SaysAsk, SaysIn, SaysProtocol, SaysQuery, SaysType}
use Rattle.swreq_world.specs.WorldOf.{IsWorldOf, words_of}
use Rattle.swreq_world.specs.Worlds.{SignatureOver, TextWorld, signature_at}
use Rattle.swreq_lowering.specs.Requirements.{PlacedRequirement}
use Rattle.swreq_world.proofs.Everywhere.{stands_mapped}
use Rattle.swreq_world.proofs.Finding.{at_place, named_at}
use Rattle.swreq_world.proofs.Named.{IsNamed, found}
use Rattle.swreq_world.proofs.Saying.{asks_named, entity_says, query_type_says}
use Rattle.swreq_world.proofs.Standing.{stands}

module _ (text : Bytes) (s : Skeleton) (v : TextWorld) (is : IsWorldOf text s v) where
  abbrev words : WordsView
  words = words_of text s v

  -- ---- what is asked of a signature

  module _ (g : Signature) (f : FuncId) where
    -- The type parameter is the type that is written.
    abbrev IsSaid : TypeDecl → Type 0
    IsSaid t = SaysType text s v.lexicon (contexts.Signature g) (type_in words (contexts.Signature g) t) t

    module _ (here : (signature_at v f).signature ≡ g) where
      says_in : (t : TypeDecl) → IsSaid t → SaysIn text s v f (type_in words (contexts.Signature g) t) t
      says_in t h = subst (λ i. SaysType text s v.lexicon (contexts.Signature i) (type_in words (contexts.Signature g) t) t) (sym here) h

      ask_says : (a : Ask) → ((t : TypeDecl) → Contains (parts.types_of_ask a) t → IsSaid t)
          → ((e : Entity) → Contains (parts.entities_of_ask a) e → e.layout ≡ false
          → SaysProtocol text v.lexicon (proto_of words e.span) e.span)
          → SaysAsk text s v f (asked_of words g a) a
      ask_says asked_for.Signature types_say entities_say = tt
      ask_says (asked_for.Reduced t) types_say entities_say = says_in t (types_say t (first_member t []))
      ask_says (asked_for.Is t e) types_say entities_say = by e.layout refl
        where
          said : SaysIn text s v f (type_in words (contexts.Signature g) t) t
          said = says_in t (types_say t (first_member t (parts.types_of_entity e)))

          by : (b : Bool) → e.layout ≡ b
              → SaysAsk text s v f (AsksRequirement (cond b (IsAnyObject (type_in words (contexts.Signature g) t))
              (Conforms (type_in words (contexts.Signature g) t) (proto_of words e.span)))) (asked_for.Is t e)
          by true h = (said, h)
          by false h = (said, h, entities_say e (first_member e []) h)
      ask_says (asked_for.Same t u) types_say entities_say =
          (says_in t (types_say t (first_member t (u ∷ []))), says_in u (types_say u (later_member t u (u ∷ []) (first_member u []))))

  -- ---- queries

  module _ (no_refusal : HasNames text s) (k : ℕ) (q : QueryDecl) (at : slice_get s.queries k ≡ Some q) where
    abbrev g : Signature
    g = asked_signature (signature_in_query words q.outer q.function)

    abbrev f : FuncId
    f = func_id (in_order s) g

    is_named : IsNamed words (option_map (word text) q.outer) (word text q.function) g
    is_named =
        found words is.lexicon.resolved.declared (option_map (word text) q.outer) (word text q.function) g
        (asks_named text s v.lexicon is.lexicon no_refusal q (get_contains s.queries k q at))

    here : (signature_at v f).signature ≡ g
    here = ap (λ (h : SignatureOver PlacedRequirement). h.signature) (at_place text s v is f g (stands s g is_named.is_in))

    type_there : (t : TypeDecl) → Contains (parts.types_of_ask q.ask) t → Contains (types s) (in_query k, t)
    type_there t c =
        Contains-append_right (flat_map parts.types_at (constraints s)) (flat_map parts.asked_at (numbered 0 s.queries)) (in_query k, t)
        (in_pieces parts.asked_at (numbered 0 s.queries) (k, q) (in_query k, t) (has_number k s.queries q at)
        (contains_map (λ u. (in_query k, u)) (parts.types_of_ask q.ask) t c))

    entity_there : (e : Entity) → Contains (parts.entities_of_ask q.ask) e → Contains (entities s) (in_query k, e)
    entity_there e c =
        Contains-append_right (flat_map parts.entities_at (constraints s))
        (flat_map parts.asked_entities_at (numbered 0 s.queries)) (in_query k, e)
        (in_pieces parts.asked_entities_at (numbered 0 s.queries) (k, q) (in_query k, e) (has_number k s.queries q at)
        (contains_map (λ i. (in_query k, i)) (parts.entities_of_ask q.ask) e c))

    pub query_says : (a : TermQuery) × (slice_get v.queries k ≡ Some a) × SaysQuery text s v a q
    query_says = (
      query_of words (in_order s) q,
      ap (λ qs. slice_get qs k) is.queries ∙ stands_mapped (query_of words (in_order s)) s.queries k q at,
      record {
        named = named_at text s v is (option_map (word text) q.outer) (word text q.function) g is_named;
        ask = ask_says g f here q.ask (λ t c. query_type_says text s v.lexicon is.lexicon no_refusal k q at t (type_there t c))
            (λ e c l. entity_says text s v.lexicon is.lexicon no_refusal (in_query k) e (entity_there e c) l);
      },
    )
