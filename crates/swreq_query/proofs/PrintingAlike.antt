-- Signatures of a text that print alike.
use Rattle.std.proofs.Common.{◌≡◌, ◌∙◌, ◌<◌, ◌≤◌, ℕ, refl, sym, subst, inl, inr, arith, List, [], ◌∷◌, ◌++◌, Contains, get_or, length}
use Rattle.std.specs.Prelude.{codes}
use Rattle.std.specs.List.{All}
use Rattle.std.specs.Str.{chars}
use Rattle.std.proofs.lemmas.Bool.{cases_lt}
use Rattle.std.proofs.lemmas.List.{append_cancel_right}
use Rattle.std.proofs.lemmas.List.Elements.{All-contains, All-map, All-weaker}
use Rattle.swreq_print.specs.swreq_lex.Tokens.{first_offset}
use Rattle.swreq_print.proofs.swreq_lex.SliceLemmas.{are_slices}
use Rattle.swreq_print.specs.swreq_decl.declared.skeleton.ParamDecl.{ParamDecl}
use Rattle.swreq_print.specs.swreq_decl.declared.skeleton.Skeleton.{Skeleton}
use Rattle.swreq_print.specs.swreq_param.declared.ids.ParamId.{ParamId}
use Rattle.swreq_print.specs.swreq_derive.declared.known.Params.{Params}
use Rattle.swreq_print.specs.swreq_derive.Derivation.{TermRequirement}
use Rattle.swreq_print.specs.swreq_derive.Derivation.Source.{Written}
use Rattle.swreq_print.specs.swreq_derive.Equivalence.{AreEquivalent}
use Rattle.swreq_print.specs.swreq_derive.Facts.{generic_params}
use Rattle.swreq_machine.proofs.swreq_derive.TwoDepths.{two_depths}
use Rattle.swreq_machine.specs.swreq_complete.declared.limit.Limits.{Limits}
use Rattle.swreq_minimal.specs.swreq_candidates.Completed.{IsCompleted}
use Rattle.swreq_minimal.specs.swreq_canonical.Minimised.{IsMinimised}
use Rattle.swreq_minimal.proofs.swreq_canonical.Agreement.{minimised_canonical, same_minimised}
use Rattle.swreq_print.specs.swreq_names.declared.signature.Signature.{Signature}
use Rattle.swreq_machine.specs.swreq_correspondence.Symbols.{IsInText}
use Rattle.swreq_print.specs.swreq_lowering.OfText.{IsRequirementOf}
use Rattle.swreq_print.specs.swreq_lowering.Requirements.{PlacedRequirement}
use Rattle.swreq_print.specs.swreq_lowering.Short.{HasShortLists}
use Rattle.swreq_print.proofs.swreq_lowering.Shorter.{short_lists}
use Rattle.swreq_print.specs.swreq_lowering.Signatures.{counts, in_order, own_param_decls, outer_param_decls, params_of}
use Rattle.swreq_machine.specs.swreq_world.Closed.{HasOwn, IsClosed, IsOfSignature}
use Rattle.swreq_machine.specs.swreq_world.Text.{signature_in, signatures}
use Rattle.swreq_machine.specs.swreq_world.WorldOf.{IsWorldOf, words_of}
use Rattle.swreq_machine.specs.swreq_world.Worlds.{SignatureOver, TextWorld}
use Rattle.swreq_machine.proofs.swreq_world.Closing.{closed}
use Rattle.swreq_machine.proofs.swreq_world.Offsets.{protocols_rising}
use Rattle.swreq_machine.specs.swreq_symbols.Meaning.{facts_of, symbols_of}
use Rattle.swreq_machine.proofs.swreq_symbols.Symbols.{list_law}
use Rattle.swreq_print.specs.Reading.{HasNumbers, IsReadableRequirement, IsReadableSignature, TellsApart}
use Rattle.swreq_print.specs.Signatures.{signature_text}
use Rattle.swreq_print.proofs.ReadSignatures.{signature_read}
use Rattle.swreq_print.proofs.Telling.{names_tell}
use Rattle.swreq_query.specs.Ended.{HasEnded, IsWorldOfText}
use Rattle.swreq_query.specs.Signatures.{IsMinimisedLine}
use Rattle.swreq_machine.specs.swreq_world.FactsAt.{written_list}
use Rattle.swreq_query.proofs.Agreeing.{same_by_one}
use Rattle.swreq_query.proofs.Ended.{completed}
use Rattle.swreq_print.proofs.swreq_lemmas.Members.{each_by_recursion}
use Rattle.swreq_query.proofs.OfText.{requirement_is, speaks}

-- ---- generic parameters

none_fewer : (p q : Params) → generic_params p ≡ generic_params q → p.outer < q.outer → ⊥
none_fewer p q e l =
    let g : ParamId = record { depth = 0; index = p.outer } in
    let h = subst (λ z. Contains z g) (sym e) ((two_depths q g).1 (inl (refl, l))) in
    elim ((two_depths p g).0 h) [ inl (d, k) ↦ omega (arith, k) | inr (d, k) ↦ omega (arith, d) ]

none_fewer_inner : (p q : Params) → generic_params p ≡ generic_params q → p.inner < q.inner → ⊥
none_fewer_inner p q e l =
    let g : ParamId = record { depth = 1; index = p.inner } in
    let h = subst (λ z. Contains z g) (sym e) ((two_depths q g).1 (inr (refl, l))) in
    elim ((two_depths p g).0 h) [ inl (d, k) ↦ omega (arith, d) | inr (d, k) ↦ omega (arith, k) ]

neither_less : (a b : ℕ) → (a < b → ⊥) → (b < a → ⊥) → a ≡ b
neither_less a b n k = elim (cases_lt a b) [
  | inl l ↦ absurd (n l)
  | inr l ↦ elim (cases_lt b a) [ inl m ↦ absurd (k m) | inr m ↦ omega (arith, l, m) ]
]

-- A list of generic parameters tells how many there are of each depth.
same_params : (p q : Params) → generic_params p ≡ generic_params q → p ≡ q
same_params p q e =
    let outer = neither_less p.outer q.outer (none_fewer p q e) (none_fewer q p (sym e)) in
    let inner = neither_less p.inner q.inner (none_fewer_inner p q e) (none_fewer_inner q p (sym e)) in
    λ i. record { outer = outer i; inner = inner i }

-- They are so few that their numbers have 32 bits.
abbrev pub AreFew : Params → Type 0
AreFew p = (p.outer ≤ 1048576) × (p.inner ≤ 1048576)

pub numbers : (p : Params) → AreFew p → (g : ParamId) → Contains (generic_params p) g → HasNumbers g
numbers p (a, b) g h = elim ((two_depths p g).0 h) [
  | inl (d, k) ↦ (omega (arith, d), omega (arith, k, a))
  | inr (d, k) ↦ (omega (arith, d), omega (arith, k, b))
]

few_counts : (outer own : List ParamDecl) → length outer ≤ 1048576 → length own ≤ 1048576 → AreFew (counts outer own)
few_counts [] own a b = (b, omega arith)
few_counts (g ∷ gs) own a b = (a, b)

module _ (text : List ℕ) (s : Skeleton) (w : TextWorld) (world : IsWorldOf text s w) (short : HasShortLists text s) where
  few_of : (k : Signature) → AreFew (params_of s k)
  few_of k = few_counts (outer_param_decls s k) (own_param_decls s k) (short.outer k) (short.own k)

  pub few_params : (g : SignatureOver PlacedRequirement) → Contains w.signatures g → AreFew g.params
  few_params g c =
      let order : List Signature = in_order s in
      let all : All (λ (k : Signature). AreFew (params_of s k)) order = λ n d l. few_of (get_or order n d) in
      All-contains (λ (k : SignatureOver PlacedRequirement). AreFew k.params) (signatures (words_of text s w)) g
      (All-map (λ (k : SignatureOver PlacedRequirement). AreFew k.params) (signature_in (words_of text s w) order) order all)
      (subst (λ (z : List (SignatureOver PlacedRequirement)). Contains z g) world.signatures c)

  module _ (is : IsClosed w) where
    -- ---- a signature of the text

    module _ (g : SignatureOver PlacedRequirement) (c : Contains w.signatures g) where
      of_signature : All (IsOfSignature w.lexicon g.params) g.requirements
      of_signature = All-contains (HasOwn w.lexicon) w.signatures g is.signatures c

      pub own : (r : TermRequirement) → Contains (written_list g) r → IsReadableRequirement w.lexicon r
      own r h =
          All-contains (IsReadableRequirement w.lexicon) (written_list g) r
          (All-map (IsReadableRequirement w.lexicon) (λ (q : PlacedRequirement). q.requirement) g.requirements
          (All-weaker (IsOfSignature w.lexicon g.params) (λ (q : PlacedRequirement). IsReadableRequirement w.lexicon q.requirement)
          (λ q i. requirement_is w.lexicon (λ z. Contains (generic_params g.params) z)
          (numbers g.params (few_params g c)) q.requirement i.0 i.1) g.requirements of_signature)) h

      in_text : IsInText (symbols_of w.lexicon) (Written (generic_params g.params) (written_list g))
      in_text = list_law w.lexicon is.ids (generic_params g.params) (written_list g)
          (All-map (IsRequirementOf w.lexicon) (λ (q : PlacedRequirement). q.requirement) g.requirements
          (All-weaker (IsOfSignature w.lexicon g.params) (λ (q : PlacedRequirement). IsRequirementOf w.lexicon q.requirement)
          (λ q i. i.0) g.requirements of_signature))

      minimised_of_text : (list : List TermRequirement) → IsMinimised (facts_of w) (generic_params g.params) (written_list g) list
          → IsReadableSignature w.lexicon (generic_params g.params) list
      minimised_of_text list m = record {
        numbers = each_by_recursion HasNumbers (generic_params g.params) (numbers g.params (few_params g c));
        requirements = each_by_recursion (IsReadableRequirement w.lexicon) list (λ r h.
            speaks w is (generic_params g.params) (written_list g) (numbers g.params (few_params g c)) own
            (minimised_canonical (facts_of w) (generic_params g.params) (written_list g) list m r h).0);
      }

    -- ---- two of one line

    module _ (names : TellsApart w.lexicon) (g h : SignatureOver PlacedRequirement) (c : Contains w.signatures g)
        (k : Contains w.signatures h)
        (line : List ℕ) (a : IsMinimisedLine w g line) (b : IsMinimisedLine w h line) where
      read : (generic_params g.params ≡ generic_params h.params) × (a.list ≡ b.list)
      read =
          signature_read w.lexicon names (generic_params g.params) (generic_params h.params) a.list b.list
          (minimised_of_text g c a.list a.minimised) (minimised_of_text h k b.list b.minimised)
          (append_cancel_right _ _ (codes "\n") (sym a.line_is ∙ b.line_is))

      params_alike : g.params ≡ h.params
      params_alike = same_params g.params h.params read.0

      are_equivalent : (limits : Limits) → HasEnded limits w g → HasEnded limits w h
          → AreEquivalent (facts_of w) (generic_params g.params) (written_list g) (written_list h)
      are_equivalent limits ended also_ended =
          same_by_one (symbols_of w.lexicon) (facts_of w) (generic_params g.params) (written_list g) (written_list h) a.list
          (completed limits w g is (in_text g c) ended)
          (subst (λ (p : Params). IsCompleted (symbols_of w.lexicon) (facts_of w) (generic_params p) (written_list h)) (sym params_alike)
          (completed limits w h is (in_text h k) also_ended))
          a.minimised
          (subst (λ (rs : List TermRequirement). IsMinimised (facts_of w) (generic_params g.params) (written_list h) rs) (sym read.1)
          (subst (λ (p : Params). IsMinimised (facts_of w) (generic_params p) (written_list h) b.list) (sym params_alike) b.minimised))

-- ---- signatures of a text

module _ (text : List ℕ) (w : TextWorld) (of : IsWorldOfText text w) where
  pub closed_world : IsClosed w
  closed_world =
      closed text of.skeleton w (first_offset (chars text))
      (protocols_rising text of.skeleton (are_slices text) of.stands) of.world of.resolve

  short : HasShortLists text of.skeleton
  short = short_lists text of.skeleton (are_slices text) of.within of.stands

  names : TellsApart w.lexicon
  names = names_tell text of.skeleton w.lexicon of.stands of.world.lexicon

  module _ (g h : SignatureOver PlacedRequirement) (c : Contains w.signatures g) (k : Contains w.signatures h) (line : List ℕ)
      (a : IsMinimisedLine w g line) (b : IsMinimisedLine w h line) where
    pub params_of_one_line : g.params ≡ h.params
    params_of_one_line = params_alike text of.skeleton w of.world short closed_world names g h c k line a b

    pub equivalent_by_one_line : (limits : Limits) → HasEnded limits w g → HasEnded limits w h
        → AreEquivalent (facts_of w) (generic_params g.params) (written_list g) (written_list h)
    equivalent_by_one_line = are_equivalent text of.skeleton w of.world short closed_world names g h c k line a b

-- ---- equivalent signatures

pub lines_alike : (w : TextWorld) (g h : SignatureOver PlacedRequirement) (line other : List ℕ) → g.params ≡ h.params
    → AreEquivalent (facts_of w) (generic_params g.params) (written_list g) (written_list h) → IsMinimisedLine w g line
    → IsMinimisedLine w h other → line ≡ other
lines_alike w g h line other e same a b =
    let n = subst (λ (p : Params). IsMinimised (facts_of w) (generic_params p) (written_list h) b.list) (sym e) b.minimised in
    let lists : a.list ≡ b.list = same_minimised (facts_of w) (generic_params g.params) (written_list g)
    (written_list h) a.list b.list same a.minimised n in
    a.line_is ∙ (λ i. signature_text w.lexicon (generic_params (e i)) (lists i) ++ codes "\n") ∙ sym b.line_is
