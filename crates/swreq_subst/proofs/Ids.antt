-- Where the names of a text resolve, what they refer to has ids in its world.
use Rattle.std.proofs.Common.{◌≡◌, ℕ, List, [], ◌∷◌, Option, Some, true, map, slice_get, refl, sym, ap, subst, ◌∙◌}
use Rattle.std.specs.Option.{option_map}
use Rattle.std.proofs.lemmas.Option.{same_Some}
use Rattle.std.proofs.lemmas.Simd.{map-map}
use Rattle.swreq_print.proofs.swreq_lemmas.Elements.{get_contains}
use Rattle.swreq_resolve.specs.swreq_decl.declared.skeleton.Skeleton.{Skeleton}
use Rattle.swreq_resolve.specs.swreq_names.declared.signature.Signature.{Signature}
use Rattle.swreq_resolve.specs.swreq_names.Spaces.{declares, protocol_of}
use Rattle.swreq_machine.specs.swreq_param.Terms.{Term}
use Rattle.swreq_resolve.specs.swreq_rank.Ranks.{Bytes, rank}
use Rattle.swreq_resolve.specs.Resolving.{HasNames}
use Rattle.swreq_machine.specs.swreq_lowering.declared.ids.FuncId.{FuncId}
use Rattle.swreq_machine.specs.swreq_lowering.declared.ids.Written.{Written}
use Rattle.swreq_machine.specs.swreq_lowering.Queries.{signature_named}
use Rattle.swreq_machine.specs.swreq_lowering.Requirements.{PlacedRequirement}
use Rattle.swreq_machine.specs.swreq_lowering.Signatures.{func_id, in_order}
use Rattle.swreq_machine.specs.swreq_lowering.Words.{WordsView}
use Rattle.swreq_machine.proofs.swreq_symbols.OfText.{signature_is}
use Rattle.swreq_machine.specs.swreq_world.ByTable.{signature_by, world_by}
use Rattle.swreq_machine.specs.swreq_world.Lookups.{func_named, order_of}
use Rattle.swreq_machine.specs.swreq_world.Text.{signature_in}
use Rattle.swreq_machine.specs.swreq_world.WorldOf.{IsWorldOf, words_of}
use Rattle.swreq_machine.specs.swreq_world.Worlds.{IdWorld, SignatureOver, signature_at}
use Rattle.swreq_machine.proofs.swreq_world.Finding.{at_place}
use Rattle.swreq_machine.proofs.swreq_world.Named.{found}
use Rattle.swreq_machine.proofs.swreq_world.Resolving.{associated_stands, declared_member, protocol_named}
use Rattle.swreq_machine.proofs.swreq_world.Saying.{names_say, protocol_says}
use Rattle.swreq_machine.proofs.swreq_world.Standing.{stands}
use Rattle.swreq_subst.specs.Saying.{HasAssociated}

module _ (text : Bytes) (s : Skeleton) (terms : List Term) (w : IdWorld) (is : IsWorldOf text s (world_by terms w)) where
  abbrev words : WordsView
  words = words_of text s (world_by terms w)

  abbrev signature_of : SignatureOver PlacedRequirement → Signature
  signature_of h = h.signature

  abbrev id_signature_of : SignatureOver Written → Signature
  id_signature_of h = h.signature

  themselves : (gs : List Signature) → map signature_of (map (signature_in words (in_order s)) gs) ≡ gs
  themselves gs = map-map signature_of (signature_in words (in_order s)) gs ∙ unchanged gs
    where
      unchanged : (hs : List Signature) → map (λ (g : Signature). g) hs ≡ hs
      unchanged [] = refl
      unchanged (g ∷ hs) = ap (λ z. g ∷ z) (unchanged hs)

  same_order : order_of w ≡ in_order s
  same_order = sym (map-map signature_of (signature_by terms) w.signatures) ∙ ap (map signature_of) is.signatures ∙ themselves (in_order s)

  pub referred : (outer : Option Bytes) (name : Bytes) (g : Signature) (f : FuncId)
      → signature_named w.lexicon.resolved.declared outer name ≡ Some g → func_named w outer name ≡ Some f
      → (signature_at w f).signature ≡ g
  referred outer name g f so at =
      let named = found words is.lexicon.resolved.declared outer name g so in
      let place : func_id (in_order s) g ≡ f
      = ap (λ gs. func_id gs g) (sym same_order)
      ∙ same_Some (func_id (order_of w) g) f (sym (ap (option_map (func_id (order_of w))) so) ∙ at) in
      let here = at_place text s (world_by terms w) is (func_id (in_order s) g) g (stands s g named.is_in) in
      let there : signature_at (world_by terms w) f ≡ signature_in words (in_order s) g
      = subst (λ (k : FuncId). signature_at (world_by terms w) k ≡ signature_in words (in_order s) g) place here in
      sym (ap signature_of (signature_is w terms f)) ∙ ap signature_of there

  pub associated : HasNames text s → (p a : Bytes) (i : ℕ) → protocol_of w.lexicon.resolved.declared p ≡ Some i
      → declares w.lexicon.resolved.declared i a ≡ true
      → HasAssociated w.lexicon p a
  associated names p a i means declares_it =
      let x = w.lexicon in
      let (q, at, called) = protocol_named text s x is.lexicon p i means in
      let (r, m, there, c, same) = declared_member text s x is.lexicon i a declares_it in
      record {
        protocol = subst (λ n. slice_get x.protocols (rank x.protocols n) ≡ Some n) called (protocol_says text s x is.lexicon i q at);
        name = subst (λ n. slice_get x.names (rank x.names n) ≡ Some n) same
            ((names_say text s x is.lexicon names r (get_contains s.protocols i r there)).members m c);
        associated = associated_stands text s x is.lexicon p a i means declares_it;
      }
