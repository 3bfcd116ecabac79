-- A table that grows keeps the world and the text.
use Rattle.std.proofs.Common.{◌≡◌, refl, sym, ap₂, subst, arith, suc, List, [], ◌∷◌, map}
use Rattle.std.specs.Prelude.{All}
use Rattle.std.proofs.lemmas.List.Elements.{All-weaker}
use Rattle.swreq_correspondence.specs.swreq_param.declared.ids.TermId.{TermId}
use Rattle.swreq_correspondence.specs.swreq_param.Tables.{Extends}
use Rattle.swreq_correspondence.specs.swreq_param.Terms.{Term}
use Rattle.swreq_correspondence.specs.swreq_derive.declared.requirements.Requirement.{Requirement}
use Rattle.swreq_world.specs.swreq_lexicon.Views.{LexiconView}
use Rattle.swreq_world.specs.swreq_lowering.declared.ids.Written.{Written}
use Rattle.swreq_world.specs.swreq_lowering.ByTable.{AreOf, HasQueryIdsOf, placed, query_by}
use Rattle.swreq_world.proofs.swreq_lowering.Growing.{are_of_stay, ids_stay, of_stays, placed_stay, requirement_stays}
use Rattle.swreq_world.specs.ByTable.{IsOverTable, signature_by, world_by}
use Rattle.swreq_world.specs.Closed.{IsClosed, IsRequirementOf, IsTermOf}
use Rattle.swreq_world.specs.Worlds.{IdWorld, SignatureOver}
use Rattle.swreq_world.proofs.Filled.{query_of_stay, query_stays}
use Rattle.swreq_symbols.specs.Known.{IsRequirementIn, IsTextOver, IsTypeIn}

same_maps : {A B : Type 0} (f g : A → B) (P : A → Type 0) → ((x : A) → P x → f x ≡ g x) → (xs : List A) → All P xs → map f xs ≡ map g xs
same_maps f g P same [] h = refl
same_maps f g P same (x ∷ xs) h = ap₂ ◌∷◌ (same x (h 0 x (omega arith))) (same_maps f g P same xs (λ k d l. h (suc k) d (omega arith)))

module _ (old new : List Term) (more : Extends old new) where
  pub type_in_stays : (x : LexiconView) (t : TermId) → IsTypeIn old x t → IsTypeIn new x t
  type_in_stays x t h = (of_stays old new t more h.0, subst (IsTermOf x) (sym (more.stands t h.0)) h.1)

  pub requirement_in_stays : (x : LexiconView) (r : Requirement) → IsRequirementIn old x r → IsRequirementIn new x r
  requirement_in_stays x r h = (ids_stay old new r more h.0, subst (IsRequirementOf x) (sym (requirement_stays old new r more h.0)) h.1)

  module _ (w : IdWorld) (over : IsOverTable old w) where
    -- the world is the same
    pub world_stays : world_by new w ≡ world_by old w
    world_stays =
        let rs : map (placed new) w.requirements ≡ map (placed old) w.requirements
        = same_maps (placed new) (placed old) (AreOf old) (λ r h. placed_stay old new r more h) w.requirements over.requirements in
        let gs : map (signature_by new) w.signatures ≡ map (signature_by old) w.signatures
        = same_maps (signature_by new) (signature_by old) (λ (g : SignatureOver Written). AreOf old g.requirements)
        (λ g h. let e = placed_stay old new g.requirements more h in
        λ i.
        record { signature = g.signature; name = g.name; outer = g.outer; own_depth = g.own_depth; params = g.params; requirements = e i })
        w.signatures over.signatures in
        let qs : map (query_by new) w.queries ≡ map (query_by old) w.queries
        = same_maps (query_by new) (query_by old) (HasQueryIdsOf old) (λ q h. query_stays old new q more h) w.queries over.queries in
        λ i. record { lexicon = w.lexicon; requirements = rs i; signatures = gs i; queries = qs i }

    pub over_stays : IsOverTable new w
    over_stays = record {
      requirements = All-weaker (AreOf old) (AreOf new) (λ r h. are_of_stay old new r more h) w.requirements over.requirements;
      signatures = All-weaker (λ (g : SignatureOver Written). AreOf old g.requirements) (λ g. AreOf new g.requirements)
          (λ g h. are_of_stay old new g.requirements more h) w.signatures over.signatures;
      queries = All-weaker (HasQueryIdsOf old) (HasQueryIdsOf new) (λ q h. query_of_stay old new q more h) w.queries over.queries;
    }

  pub text_stays : (w : IdWorld) → IsTextOver old w → IsTextOver new w
  text_stays w text = record {
    table = over_stays w text.table;
    closed = subst IsClosed (sym (world_stays w text.table)) text.closed;
    short = text.short;
  }
