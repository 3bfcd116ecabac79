-- Lines that are derived from the list of a signature are of the text, and under a `yes` they are read as they are written.
use Rattle.std.proofs.Common.{◌≡◌, ◌∙◌, refl, sym, ap, subst, inl, inr, arith, ℕ, zero, suc, ◌-◌, ◌<◌, ◌≤◌, ◌^◌, List, [], ◌∷◌}
use Rattle.std.proofs.Common.{Contains, Some, length, map, slice_get, take}
use Rattle.std.specs.List.{AllByRecursion}
use Rattle.std.proofs.lemmas.Bool.{cases_lt}
use Rattle.std.proofs.lemmas.List.{append-nil, get_or_past, length-map, length-take}
use Rattle.std.proofs.lemmas.List.Elements.{All-contains}
use Rattle.std.proofs.lemmas.Option.{slice_get-get_or, slice_get_within}
use Rattle.swreq_print.proofs.swreq_lemmas.Elements.{contains_get, get_contains, get_of_map, same_heads, same_tails}
use Rattle.swreq_print.proofs.swreq_lemmas.Members.{each_by_recursion}
use Rattle.swreq_print.specs.swreq_param.declared.ids.AssocId.{AssocId}
use Rattle.swreq_print.specs.swreq_param.declared.ids.NameId.{NameId}
use Rattle.swreq_print.specs.swreq_param.declared.ids.ParamId.{ParamId}
use Rattle.swreq_print.specs.swreq_param.declared.ids.ProtoId.{ProtoId}
use Rattle.swreq_print.specs.swreq_derive.declared.lines.DerivRule.{DerivRule}
use Rattle.swreq_print.specs.swreq_derive.declared.lines.DerivRule.TheVariants as Rule
use Rattle.swreq_print.specs.swreq_derive.Derivation.{Declares, TermFacts, TermRequirement, TermStatement}
use Rattle.swreq_print.specs.swreq_derive.Derivation.TermRequirement.{Conforms, Equals, IsAnyObject}
use Rattle.swreq_print.specs.swreq_derive.Facts.{generic_params}
use Rattle.swreq_print.specs.swreq_derive.Instances.{AreStated, HasNumber, IsDerivation, IsInstance, TermLine, statements_of}
use Rattle.swreq_valid.proofs.swreq_derive.LineLemmas.{get_take}
use Rattle.swreq_valid.specs.swreq_correspondence.Symbols.{AreOfText}
use Rattle.swreq_print.specs.swreq_lexicon.Views.{IsName, IsProtocol, LexiconView}
use Rattle.swreq_print.specs.swreq_lowering.OfText.{IsRequirementOf}
use Rattle.swreq_print.specs.swreq_lowering.Queries.{TermQuery}
use Rattle.swreq_print.specs.swreq_lowering.Queries.TermAsks.{AsksRequirement}
use Rattle.swreq_print.specs.swreq_lowering.Requirements.{PlacedRequirement}
use Rattle.swreq_print.specs.swreq_lowering.Short.{HasShortLists}
use Rattle.swreq_text.specs.Lines.{lines}
use Rattle.swreq_valid.specs.swreq_world.Closed.{IsClosed, IsQueryOf, IsSignature}
use Rattle.swreq_valid.specs.swreq_world.FactsAt.{facts_of, written_list}
use Rattle.swreq_valid.specs.swreq_world.Short.{IsShort}
use Rattle.swreq_valid.specs.swreq_world.Worlds.{SignatureOver, TextWorld, no_signature, requirements_of, signature_at}
use Rattle.swreq_valid.specs.swreq_symbols.Meaning.{symbols_of}
use Rattle.swreq_valid.proofs.swreq_symbols.Declared.{of_text}
use Rattle.swreq_valid.proofs.swreq_symbols.Symbols.{text_law}
use Rattle.swreq_print.specs.Names.{Text}
use Rattle.swreq_print.specs.Reading.{HasNumbers, IsReadableRequirement, TellsApart}
use Rattle.swreq_lines.specs.GoodLines.{HasReadableFields, IsReadableLine, IsReadableStatement}
use Rattle.swreq_lines.specs.GoodLines as good
use Rattle.swreq_lines.specs.LineTexts.{fields_of, lines_from, texts_from}
use Rattle.swreq_lines.specs.Writing.{AreNamesOfOneLine}
use Rattle.swreq_lines.proofs.Back.{as_long, lines_are}
use Rattle.swreq_query.specs.Ended.{IsWorldOfText}
use Rattle.swreq_query.proofs.OfText.{declared_assoc, for_self_of, of_protocol}
use Rattle.swreq_query.proofs.PrintingAlike.{few_params, numbers, own}
use Rattle.swreq_verify.specs.declared.judging.Judgement.TheVariants.{Derived}
use Rattle.swreq_verify.specs.Judgements.{IsJudged, yes}
use Rattle.swreq_verify.specs.SecondParts.{TermSection}
use Rattle.swreq_verify.proofs.OneOutput.{derivation_one}
use Rattle.swreq_reply.specs.Explained.{IsLaidUnderYes}
use Rattle.swreq_check.specs.QueryLines.{IsDerivationText}

-- ---- lines of a derivation

module _ (w : TextWorld) (is : IsClosed w) (short : IsShort w) (gs : List ParamId) (rs : List TermRequirement)
    (small : (g : ParamId) → Contains gs g → HasNumbers g)
    (of_list : (r : TermRequirement) → Contains rs r → IsReadableRequirement w.lexicon r)
    (few : length rs < 2 ^ 32) where
  abbrev x : LexiconView
  x = w.lexicon

  abbrev f : TermFacts
  f = facts_of w

  abbrev Says : TermStatement → Type 0
  Says = IsReadableStatement x

  abbrev AllSay : List TermStatement → Type 0
  AllSay = AllByRecursion Says

  law : AreOfText (symbols_of x) f
  law = text_law w is

  few_of : (p : ProtoId) → length (requirements_of w p) < 2 ^ 32
  few_of p = elim (cases_lt p.rank (length w.requirements)) [
    | inl l ↦ short.protocols p.rank [] l
    | inr l ↦ subst (λ (z : List PlacedRequirement). length z < 2 ^ 32) (sym (get_or_past w.requirements p.rank [] l)) (omega arith)
  ]

  -- a requirement of a protocol by its number
  of_owner : (p : ProtoId) (n : ℕ) (r : TermRequirement) → HasNumber n (f.of_protocol p) r
      → IsProtocol x p × (n < 2 ^ 32) × IsRequirementOf x r
  of_owner p n r h =
      let c = get_contains (f.of_protocol p) (n - 1) r h.1 in
      let within : n - 1 < length (map (λ (q : PlacedRequirement). q.requirement) (requirements_of w p))
      = slice_get_within (f.of_protocol p) (n - 1) r h.1 in
      let count = length-map (requirements_of w p) (λ (q : PlacedRequirement). q.requirement) in
      let few = few_of p in
      ((is.ids.written_order p).0 (law.owners p r c), omega (arith, within, count, few, h.0), of_protocol w is p r c)

  -- a requirement of the list by its number
  listed : (n : ℕ) (r : TermRequirement) → HasNumber n rs r → (n < 2 ^ 32) × IsReadableRequirement x r
  listed n r h =
      let within = slice_get_within rs (n - 1) r h.1 in
      (omega (arith, within, few, h.0), of_list r (get_contains rs (n - 1) r h.1))

  declared : (p : ProtoId) (a : NameId) (d : AssocId) → Declares f p a d → IsProtocol x p × IsName x a
  declared p a d c = of_text x p a d is.ids c

  instance_says : (rule : DerivRule) (from : List TermStatement) (gives : TermStatement) → IsInstance f gs rs rule from gives → AllSay from
      → HasReadableFields x (fields_of rule) × Says gives
  instance_says Rule.Generic from gives (g, e, s, c) h = (((tt, tt), tt), subst Says (sym s) (small g c, tt))
  instance_says (Rule.Conf n) from gives (t, p, e, s, k) h = let i = listed n (Conforms t p) k in (((tt, tt), i.0), subst Says (sym s) i.1)
  instance_says (Rule.Same n) from gives (t, u, e, s, k) h = let i = listed n (Equals t u) k in (((tt, tt), i.0), subst Says (sym s) i.1)
  instance_says (Rule.Layout n) from gives (t, e, s, k) h = let i = listed n (IsAnyObject t) k in (((tt, tt), i.0), subst Says (sym s) i.1)
  instance_says (Rule.AssocName p a) from gives (t, d, e, s, c) h =
      let i = subst AllSay e h in
      let o = declared p a d c in ((o, tt), subst Says (sym s) (i.0.0.0, (i.0.0.1, o.1)))
  instance_says (Rule.AssocDecl p a) from gives (t, d, e, s, c) h =
      let i = subst AllSay e h in ((declared p a d c, tt), subst Says (sym s) (i.0.0.0, (i.0.0.1, declared_assoc w is p a d c)))
  instance_says (Rule.AssocBind p a) from gives (t, d, e, s, c) h =
      let i = subst AllSay e h in
      let o = declared p a d c in
      ((o, tt), subst Says (sym s) ((i.0.0.0, (i.0.0.1, declared_assoc w is p a d c)), (i.0.0.0, (i.0.0.1, o.1))))
  instance_says (Rule.AssocConf p n) from gives (t, u, q, e, s, k) h =
      let i = subst AllSay e h in
      let o = of_owner p n (Conforms u q) k in (((o.0, tt), o.1), subst Says (sym s) (for_self_of x t u i.0.0 o.2.0, o.2.1))
  instance_says (Rule.AssocSame p n) from gives (t, u, v, e, s, k) h =
      let i = subst AllSay e h in
      let o = of_owner p n (Equals u v) k in
      (((o.0, tt), o.1), subst Says (sym s) (for_self_of x t u i.0.0 o.2.0, for_self_of x t v i.0.0 o.2.1))
  instance_says (Rule.AssocLayout p n) from gives (t, u, e, s, k) h =
      let i = subst AllSay e h in
      let o = of_owner p n (IsAnyObject u) k in (((o.0, tt), o.1), subst Says (sym s) (for_self_of x t u i.0.0 o.2))
  instance_says Rule.Reflex from gives (t, e, s) h = let i = subst AllSay e h in (((tt, tt), tt), subst Says (sym s) (i.0, i.0))
  instance_says Rule.Symm from gives (t, u, e, s) h = let i = subst AllSay e h in (((tt, tt), tt), subst Says (sym s) (i.0.1, i.0.0))
  instance_says Rule.Trans from gives (t, u, v, e, s) h = let i = subst AllSay e h in (((tt, tt), tt), subst Says (sym s) (i.0.0, i.1.0.1))
  instance_says (Rule.SameConf p) from gives (t, u, e, s) h =
      let i = subst AllSay e h in (((i.0.1, tt), tt), subst Says (sym s) (i.1.0.0, i.0.1))
  instance_says Rule.SameLayout from gives (t, u, e, s) h = let i = subst AllSay e h in (((tt, tt), tt), subst Says (sym s) i.1.0.0)
  instance_says (Rule.SameName p a) from gives (t, u, d, e, s, c) h =
      let i = subst AllSay e h in
      let o = declared p a d c in
      ((o, tt), subst Says (sym s) ((i.1.0.0.0, (i.1.0.0.1, o.1)), (i.1.0.1.0, (i.1.0.1.1, o.1))))
  instance_says (Rule.SameDecl p a) from gives (t, u, d, e, s, c) h =
      let i = subst AllSay e h in
      let o = declared_assoc w is p a d c in
      ((declared p a d c, tt), subst Says (sym s) ((i.1.0.0.0, (i.1.0.0.1, o)), (i.1.0.1.0, (i.1.0.1.1, o))))

  all_say : (earlier : List TermStatement) (ns : List ℕ) (sts : List TermStatement) → AreStated earlier ns sts
      → ((n : ℕ) (st : TermStatement) → HasNumber n earlier st → Says st) → AllSay sts
  all_say earlier [] [] h holds = tt
  all_say earlier [] (st ∷ sts) h holds = absurd h
  all_say earlier (n ∷ ns) [] h holds = absurd h
  all_say earlier (n ∷ ns) (st ∷ sts) h holds = (holds n st h.0, all_say earlier ns sts h.1 holds)

  small_numbers : (earlier : List TermStatement) (ns : List ℕ) (sts : List TermStatement) → length earlier < 2 ^ 32
      → AreStated earlier ns sts → AllByRecursion good.IsShort ns
  small_numbers earlier [] sts l h = tt
  small_numbers earlier (n ∷ ns) [] l h = absurd h
  small_numbers earlier (n ∷ ns) (st ∷ sts) l h =
      let within = slice_get_within earlier (n - 1) st h.0.1 in
      (omega (arith, within, l, h.0.0), small_numbers earlier ns sts l h.1)

  module _ (ls : List TermLine) (d : IsDerivation f gs rs ls) (count : length ls < 2 ^ 32) where
    fewer : (k : ℕ) → length (take k (statements_of ls)) < 2 ^ 32
    fewer k =
        let shorter = length-take k (statements_of ls) in
        let same = length-map ls (λ (z : TermLine). z.statement) in omega (arith, shorter, same, count)

    below : (b k : ℕ) (l : TermLine) → k < b → slice_get ls k ≡ Some l → IsReadableLine x l
    below zero k l h e = absurd (omega (arith, h))
    below (suc b) k l h e =
        let v = d k l e in
        let earlier = take k (statements_of ls) in
        let says = instance_says l.rule v.from l.statement v.instance (all_say earlier l.premises v.from v.stated
        (λ n st i.
        let j = get_take k (n - 1) (statements_of ls) st i.1 in
        let z = get_of_map (λ (z : TermLine). z.statement) ls (n - 1) st j.1 in
        subst Says z.2 (below b (n - 1) z.0 (omega (arith, j.0, h)) z.1).statement)) in
        record { statement = says.1; rule = says.0; premises = small_numbers earlier l.premises v.from (fewer k) v.stated }

    pub derived_readable : AllByRecursion (IsReadableLine x) ls
    derived_readable =
        each_by_recursion (IsReadableLine x) ls (λ l c. let (k, at) = contains_get ls l c in below (suc k) k l (omega arith) at)

-- ---- under a `yes`

module _ (text : List ℕ) (w : TextWorld) (of : IsWorldOfText text w) (lists : HasShortLists text of.skeleton)
    (is : IsClosed w) (short : IsShort w) (tells : TellsApart w.lexicon) (names : AreNamesOfOneLine w.lexicon) where
  module _ (q : TermQuery) (in_text : Contains w.queries q) (r : TermRequirement) (asks : q.asks ≡ AsksRequirement r) (behind : Text)
      (d : IsDerivationText w q.f r behind) (limit : length behind ≤ 1048576) where
    abbrev ls : List TermLine
    ls = d.0

    within : IsSignature w q.f
    within = (All-contains (IsQueryOf w) w.queries q is.queries in_text).0

    abbrev g : SignatureOver PlacedRequirement
    g = signature_at w q.f

    of_world : Contains w.signatures g
    of_world = get_contains w.signatures q.f.place g (slice_get-get_or w.signatures q.f.place no_signature within)

    -- There are no more lines than bytes.
    many : length ls ≤ 1048576
    many =
        let more = as_long w.lexicon 1 ls in
        let same : length behind ≡ length (lines_from w.lexicon 1 ls) = ap length d.3 in omega (arith, more, same, limit)

    readable : AllByRecursion (IsReadableLine w.lexicon) ls
    readable =
        let few : length g.requirements < 2 ^ 32 = short.lists q.f.place no_signature within in
        let count : length (written_list g) ≡ length g.requirements
        = length-map g.requirements (λ (r : PlacedRequirement). r.requirement) in
        derived_readable w is short (generic_params g.params) (written_list g)
        (numbers g.params (few_params text of.skeleton w of.world lists g of_world))
        (own text of.skeleton w of.world lists is g of_world) (omega (arith, few, count)) ls d.1 (omega (arith, many))

    written : lines behind ≡ texts_from w.lexicon 1 ls
    written = ap lines d.3 ∙ lines_are w.lexicon tells names 1 ls readable (omega (arith, many))

    abbrev under : TermSection
    under = record { heading = yes; derivation = ls }

    pub laid : IsLaidUnderYes w behind under
    laid = record {
      section = record { heading = λ e. omega (arith, e); derivation = readable };
      lines_are = ap (λ z. yes ∷ z) (sym written);
    }

    judged : IsJudged w q under Derived
    judged = (r, record { asks = asks; heading = refl }, d.1, d.2)

    pub judged_ok : (s : TermSection) → IsLaidUnderYes w behind s → IsJudged w q s Derived
    judged_ok s h =
        let heading = same_heads h.lines_are in
        let texts = same_tails h.lines_are in
        let one = derivation_one w.lexicon tells 1 s.derivation ls [] [] h.section.derivation readable tt tt
        (append-nil (texts_from w.lexicon 1 s.derivation) ∙ texts ∙ written ∙ sym (append-nil (texts_from w.lexicon 1 ls))) in
        let same : s ≡ under = λ i. record { heading = heading i; derivation = one.0 i } in
        subst (λ (z : TermSection). IsJudged w q z Derived) (sym same) judged
