-- The world of a skeleton from its lists.
use Rattle.std.proofs.Common.{◌≡◌, ℕ, ◌≤◌, List, [], ◌∷◌, length, get_or, map, slice_get, Some, refl, sym, ap, subst, ◌∙◌, arith}
use Rattle.std.proofs.lemmas.List.{length-map}
use Rattle.swreq_lexicon.specs.swreq_decl.declared.skeleton.Skeleton.{Skeleton}
use Rattle.swreq_lexicon.specs.swreq_names.declared.signature.Signature.{Signature}
use Rattle.swreq_lexicon.specs.swreq_names.Spaces.{Spaces}
use Rattle.swreq_param.specs.Terms.{Term}
use Rattle.swreq_param.proofs.Growing.{onward}
use Rattle.swreq_lexicon.specs.Texts.{IsLexiconOf}
use Rattle.swreq_lexicon.specs.Views.{LexiconView, assoc_cmp, inherits}
use Rattle.swreq_lexicon.proofs.RankLaws.{one_to_one, assoc_total}
use Rattle.swreq_lowering.specs.declared.ids.Query.{Query}
use Rattle.swreq_lowering.specs.declared.ids.Written.{Written}
use Rattle.swreq_lowering.specs.ByTable.{placed, AreOf}
use Rattle.swreq_lowering.specs.Queries.{query_of}
use Rattle.swreq_lowering.specs.Signatures.{in_order}
use Rattle.swreq_lowering.specs.Short.{HasShortLists}
use Rattle.swreq_lowering.specs.Small.{HasFewParams}
use Rattle.swreq_lowering.specs.Words.{WordsView}
use Rattle.swreq_lowering.proofs.Growing.{are_of_stay, placed_stay}
use Rattle.swreq_world.specs.declared.entry.Entry.{Entry}
use Rattle.swreq_world.specs.ByTable.{world_by, IsOverTable}
use Rattle.swreq_world.specs.Declarations.{HasSignature}
use Rattle.swreq_world.specs.Entries.{entry_view, entry_meant, IsEntryOf, FillsEntries}
use Rattle.swreq_world.specs.declared.made.WorldLists.{WorldLists}
use Rattle.swreq_world.specs.Made.{AreListsOf}
use Rattle.swreq_world.specs.Own.{own_signature}
use Rattle.swreq_world.specs.Ready.{IsReady}
use Rattle.swreq_world.specs.Filling.{FillsLists, FillsQueries}
use Rattle.swreq_world.specs.Text.{requirements_named, signature_in}
use Rattle.swreq_world.specs.WorldOf.{IsWorldOf}
use Rattle.swreq_world.specs.Worlds.{IdWorld}
use Rattle.swreq_world.proofs.Filled.{fills_later, entry_of_stay, entry_stays}
use Rattle.swreq_world.proofs.Standing.{IsIn, is_in}
use Rattle.swreq_world.proofs.Whole.{whole_lists, whole_of}

pub same_count : {A B C : Type 0} (f : A → B) (g : C → B) (xs : List A) (ys : List C) → map f xs ≡ map g ys → length xs ≡ length ys
same_count f g xs ys e = sym (length-map xs f) ∙ ap length e ∙ length-map ys g

of_meant : (terms : List Term) (es : List Entry) → map (λ g. g.signature) (map (entry_meant terms) es) ≡ map (λ e. e.signature) es
of_meant terms [] = refl
of_meant terms (e ∷ es) = ap (λ gs. e.signature ∷ gs) (of_meant terms es)

of_order : (w : WordsView) (order gs : List Signature) → map (λ g. g.signature) (map (own_signature w order) gs) ≡ gs
of_order w order [] = refl
of_order w order (g ∷ gs) = ap (λ hs. g ∷ hs) (of_order w order gs)

-- the signatures stand in their order
pub order_is : (terms : List Term) (w : WordsView) (order : List Signature) (es : List Entry)
    → map (entry_meant terms) es ≡ map (own_signature w order) order → order ≡ map (λ e. e.signature) es
order_is terms w order es e = sym (of_order w order order) ∙ sym (ap (map (λ g. g.signature)) e) ∙ of_meant terms es

-- Each signature in the order of the skeleton is declared.
abbrev pub AllDeclared : Skeleton → Type 0
AllDeclared s = (k : ℕ) (g : Signature) → slice_get (in_order s) k ≡ Some g → HasSignature s g

abbrev pub made : LexiconView → List (List Written) → List Entry → List Query → IdWorld
made lexicon listed es qs = record { lexicon = lexicon; requirements = listed; signatures = map (entry_view es) es; queries = qs }

module _ (text : List ℕ) (s : Skeleton) (lexicon : LexiconView) (order : List Signature) (listed : List (List Written)) (es : List Entry)
    (qs : List Query) (a b c d : List Term) (words : WordsView) where
  pub the_world : words ≡ record { text = text; skeleton = s; lexicon = lexicon } → IsLexiconOf text s lexicon
      → AllDeclared s → order ≡ in_order s
      → FillsLists a b (map (requirements_named words) words.lexicon.protocols) listed
      → FillsEntries b c (map (own_signature words order) order) es
      → FillsQueries c d (map (query_of words order) words.skeleton.queries) qs → IsWorldOf text s (world_by d (made lexicon listed es qs))
  the_world e is has o f g h = record {
    lexicon = is;
    requirements = (fills_later AreOf placed (λ u v x. are_of_stay u v x) (λ u v x. placed_stay u v x) a b d
        (map (requirements_named words) words.lexicon.protocols) listed f (onward b c d g.extends h.extends)).means
        ∙ (λ i. map (requirements_named (e i)) (e i).lexicon.protocols);
    signatures = whole_lists words order d es (o ∙ sym (λ i. in_order (e i).skeleton))
        (λ k t at. subst (λ (w : WordsView). IsIn w.skeleton t) (sym e) (is_in s t (has k t (ap (λ gs. slice_get gs k) (sym o) ∙ at))))
        (fills_later IsEntryOf entry_meant entry_of_stay entry_stays b c d (map (own_signature words order) order) es g h.extends).means
        ∙ (λ i. map (signature_in (e i) (o i)) (o i));
    queries = h.means ∙ (λ i. map (query_of (e i) (o i)) (e i).skeleton.queries);
  }

  pub over_table : FillsLists a b (map (requirements_named words) words.lexicon.protocols) listed
      → FillsEntries b c (map (own_signature words order) order) es
      → FillsQueries c d (map (query_of words order) words.skeleton.queries) qs → IsOverTable d (made lexicon listed es qs)
  over_table f g h = record {
    requirements = (fills_later AreOf placed (λ u v x. are_of_stay u v x) (λ u v x. placed_stay u v x) a b d
        (map (requirements_named words) words.lexicon.protocols) listed f (onward b c d g.extends h.extends)).are_of;
    signatures = whole_of d es
        (fills_later IsEntryOf entry_meant entry_of_stay entry_stays b c d (map (own_signature words order) order) es g h.extends).are_of;
    queries = h.are_of;
  }

-- ---- the lists of a text

module _ (text : List ℕ) (s : Skeleton) (lexicon : LexiconView) (old new : List Term) (words : WordsView) (lists : WorldLists) where
  pub ready : words ≡ record { text = text; skeleton = s; lexicon = lexicon } → HasShortLists text s → IsLexiconOf text s lexicon
      → AreListsOf old new words lists → IsReady lexicon lists
  ready e short is made =
      let standing = order_is made.third words lists.order.value lists.signatures.items made.signatures.means in
      let counted = same_count (entry_meant made.third)
      (own_signature words lists.order.value) lists.signatures.items lists.order.value made.signatures.means in
      let all = ap length (made.order ∙ (λ i. in_order (e i).skeleton)) in
      let few = short.signatures in
      record {
        requirements = same_count (placed made.second) (requirements_named words) lists.requirements.items words.lexicon.protocols
            made.requirements.means ∙ (λ i. length (e i).lexicon.protocols);
        order = standing;
        few = omega arith;
        params = subst HasFewParams (sym is.resolved.declared) short.declared;
        functions_of =
            λ i. subst (λ (d : Spaces). length (get_or d.nested i []) ≤ 1048576) (sym is.resolved.declared) (short.functions_of i);
        one_to_one =
            one_to_one (assoc_cmp lexicon) (assoc_total (inherits lexicon) lexicon.associated) lexicon.associated is.associated.sorted;
      }

  pub world_is : words ≡ record { text = text; skeleton = s; lexicon = lexicon } → IsLexiconOf text s lexicon → AllDeclared s
      → AreListsOf old new words lists
      → IsWorldOf text s (world_by new (made lexicon lists.requirements.items lists.signatures.items lists.queries.items))
  world_is e is has m =
      the_world text s lexicon lists.order.value lists.requirements.items lists.signatures.items lists.queries.items old m.second
      m.third new words e is has
      (m.order ∙ (λ i. in_order (e i).skeleton)) m.requirements m.signatures m.queries

  pub over_is : AreListsOf old new words lists
      → IsOverTable new (made lexicon lists.requirements.items lists.signatures.items lists.queries.items)
  over_is m =
      over_table text s lexicon lists.order.value lists.requirements.items lists.signatures.items lists.queries.items old m.second m.third
      new words m.requirements m.signatures m.queries
