-- What a command prints of a world is one, but for the derivations after its answers.
use Rattle.std.proofs.Common.{◌≡◌, ◌≢◌, ◌⊎◌, ◌∙◌, arith, false, inl, inr, refl, sym, ap, ap₂, subst, ℕ, suc, List, [], ◌∷◌, ◌++◌, codes}
use Rattle.std.specs.List.{concat}
use Rattle.swreq_print.specs.swreq_decl.declared.skeleton.Skeleton.{Skeleton}
use Rattle.swreq_print.specs.swreq_decl.Skeletons as decl
use Rattle.swreq_print.specs.swreq_decl.declared.skeleton.CallDecl.{CallDecl}
use Rattle.swreq_print.specs.swreq_decl.Calls.{StandsFor}
use Rattle.swreq_print.specs.swreq_param.declared.ids.ProtoId.{ProtoId}
use Rattle.swreq_print.specs.swreq_param.Terms.{Term}
use Rattle.swreq_print.specs.swreq_derive.Derivation.{Derives, TermRequirement}
use Rattle.swreq_print.specs.swreq_derive.Derivation.TermRequirement.{Conforms}
use Rattle.swreq_print.specs.swreq_derive.Facts.{generic_params}
use Rattle.swreq_valid.proofs.swreq_derive.PathLemmas.{given_once}
use Rattle.swreq_print.specs.Names.{Text}
use Rattle.swreq_print.specs.Reading.{TellsApart}
use Rattle.swreq_valid.specs.swreq_watch.declared.events.Event.{Event}
use Rattle.swreq_words.specs.declared.command.CommandLine.{CommandLine}
use Rattle.swreq_valid.specs.swreq_resolve.Resolving.{Resolve}
use Rattle.swreq_print.specs.swreq_lexicon.Texts.{IsLexiconOf}
use Rattle.swreq_print.specs.swreq_lexicon.Views.{LexiconView}
use Rattle.swreq_print.specs.swreq_lowering.declared.ids.FuncId.{FuncId}
use Rattle.swreq_print.specs.swreq_lowering.Queries.{TermAsks, TermQuery}
use Rattle.swreq_print.specs.swreq_lowering.Queries.TermAsks.{AsksRequirement, AsksSignature}
use Rattle.swreq_valid.specs.swreq_world.FactsAt.{source_of, written_list}
use Rattle.swreq_valid.specs.swreq_world.WorldOf.{IsWorldOf}
use Rattle.swreq_valid.specs.swreq_world.Worlds.{TextWorld, signature_at}
use Rattle.swreq_valid.specs.swreq_symbols.Meaning.{facts_of}
use Rattle.swreq_query.specs.Answers.{Answer, answer_line}
use Rattle.swreq_query.specs.Answers.Answer.{Invalid, Yes, No}
use Rattle.swreq_query.proofs.OneAnswer.{one_answer}
use Rattle.swreq_check.specs.swreq_confpath.Numbers.{path_text}
use Rattle.swreq_reqsig.specs.Texts.{family_text}
use Rattle.swreq_reqsig.proofs.Signatures.{given_one}
use Rattle.swreq_subst.specs.Calls.{TermCall}
use Rattle.swreq_subst.specs.Lines as calls
use Rattle.swreq_subst.specs.Saying.{FindSignatures, SayCalls}
use Rattle.swreq_subst.proofs.OneCall.{one_list}
use Rattle.swreq_subst.proofs.Uses.{one_line}
use Rattle.swreq_verify.proofs.OneOutput.{output_one}
use Rattle.swreq_query.proofs.PrintingOnce.{line_once, named_once, system_once}
use Rattle.swreq_query.specs.Ended.{IsWorldOfText}
use Rattle.swreq_reply.specs.declared.outcome.Outcome.{Outcome}
use Rattle.swreq_check.specs.declared.content.Backing.{Backing}
use Rattle.swreq_check.specs.declared.content.Backing.TheVariants.{Nothing, Derivation, Path}
use Rattle.swreq_check.specs.declared.content.Shown.TheVariants.{Each, Counts}
use Rattle.swreq_check.specs.declared.content.Content.{Content}
use Rattle.swreq_check.specs.declared.content.Content.TheVariants.{Answers, Signatures, Systems, Calls, Families, Judgements}
use Rattle.swreq_check.specs.Contents.{backing_of}
use Rattle.swreq_reply.specs.Commands.{content_of}
use Rattle.swreq_reply.specs.Inputs.{AreParts, Parts, second_at}
use Rattle.swreq_check.specs.Lines.{AreLines, Counted}
use Rattle.swreq_check.specs.Lines.AreLines.{none as no_line, more}
use Rattle.swreq_check.specs.Lines.Counted.{nothing, one as one_more, other as no_more}
use Rattle.swreq_check.specs.QueryLines.{AnswersByTypes, Backs, BacksYes, HasAnswer, IsLineOf, IsLineWhere, IsPathLine}
use Rattle.swreq_reply.specs.Outputs.{AnswersLast, AreCounts, ArePrinted, IsOutput, counts_text}
use Rattle.swreq_valid.specs.declared.refused.Refused.TheVariants.{Limit}
use Rattle.swreq_reply.specs.Verdict.{HasWorld, IsRefused, IsVerdict}
use Rattle.swreq_reply.specs.Verdict.IsRefused.{bad_calls, in_one_part, misfit, past_a_limit_of_families, too_long, unchecked, without_world}
use Rattle.swreq_reply.specs.Verdict.IsVerdict.{answered as is_answered, cut_short as is_cut_short, judged as is_judged, refused as is_refused}
use Rattle.swreq_reply.proofs.OneRefusal.{one_split}

-- one line of each member, where each member has one
one_lines : {A : Type 0} (P : A → Text → Type 0) → ((x : A) (l m : Text) → P x l → P x m → l ≡ m) → {xs : List A} {ls ms : List Text}
    → AreLines P xs ls → AreLines P xs ms → ls ≡ ms
one_lines P one no_line no_line = refl
one_lines P one (more {x = x} {line = l} h rest) (more {line = m} k others) =
    ap₂ (λ (a : Text) (rest : List Text). a ∷ rest) (one x l m h k) (one_lines P one rest others)

-- one number of the members that have a property
one_count : {A : Type 0} (P : A → Type 0) {xs : List A} {m n : ℕ} → Counted P xs m → Counted P xs n → m ≡ n
one_count P nothing nothing = refl
one_count P (one_more h rest) (one_more k others) = ap suc (one_count P rest others)
one_count P (one_more h rest) (no_more none others) = absurd (none h)
one_count P (no_more none rest) (one_more k others) = absurd (none k)
one_count P (no_more none rest) (no_more also others) = one_count P rest others

module _ (w : TextWorld) where
  -- ---- answers

  path_once : (f : FuncId) (t : Term) (p : ProtoId) (l m : Text) → IsPathLine w f t p l → IsPathLine w f t p m → l ≡ m
  path_once f t p l m (first, steps, given, is) (other, others, too, same) =
      let list = written_list (signature_at w f) in
      let one = given_once (facts_of w) (generic_params (signature_at w f).params) list t p first other steps others given too in
      is ∙ ap₂ (λ (n : ℕ) (ns : List ℕ). codes "  " ++ (path_text w.lexicon (facts_of w) list n ns ++ codes "\n")) one.0 one.1 ∙ sym same

  yes_once : (b : Backing) → b ≢ Derivation → (f : FuncId) (r : TermRequirement) (l m : Text) → BacksYes w b f r l → BacksYes w b f r m
      → l ≡ m
  yes_once Derivation real f r l m h k = absurd (real refl)
  yes_once Path real f (Conforms t p) l m h k = path_once f t p l m h k
  yes_once _ real f _ l m h k = h ∙ sym k

  module _ (b : Backing) (real : b ≢ Derivation) where
    behind_once : (q : TermQuery) (a : Answer) (l m : Text) → Backs w b q a l → Backs w b q a m → l ≡ m
    behind_once q Yes l m (r, asks, h) (p, also, k) =
        let e : AsksRequirement p ≡ AsksRequirement r = sym also ∙ asks in
        let same : p ≡ r = cc in yes_once b real q.f r l m h (subst (λ (z : TermRequirement). BacksYes w b q.f z m) same k)
    behind_once q _ l m h k = h ∙ sym k

    by_types_once : (q : TermQuery) (l m : Text) → AnswersByTypes w false b q l → AnswersByTypes w false b q m → l ≡ m
    by_types_once q l m (a, behind, answers, backs, is) (c, other, too, also, same) =
        let one : a ≡ c = one_answer (Derives (facts_of w) false (source_of (signature_at w q.f))) q.asks a c answers too in
        is ∙ ap₂ (λ (z : Answer) (t : Text). answer_line w.lexicon z ++ t) one
        (behind_once q c behind other (subst (λ (z : Answer). Backs w b q z behind) one backs) also) ∙ sym same

    query_once : (q : TermQuery) (l m : Text) → IsLineOf w false b q l → IsLineOf w false b q m → l ≡ m
    query_once q l m = by q.asks
      where
        by : (a : TermAsks) → IsLineWhere w false a b q l → IsLineWhere w false a b q m → l ≡ m
        by AsksSignature h k = line_once w (signature_at w q.f) l m h k
        by _ h k = by_types_once q l m h k

  last_once : (qs : List TermQuery) (l m : Text) → AnswersLast w false qs l → AnswersLast w false qs m → l ≡ m
  last_once [] l m h k = h ∙ sym k
  last_once (q ∷ []) l m h k = query_once Nothing (λ e. cc) q l m h k
  last_once (q ∷ r ∷ qs) l m h k = last_once (r ∷ qs) l m h k

  counts_once : (n : ℕ) (ls ms : List Text) → AreCounts w false n ls → AreCounts w false n ms → ls ≡ ms
  counts_once n ls ms a b =
      let said_yes : a.yes_count ≡ b.yes_count = one_count (HasAnswer w false Yes) a.say_yes b.say_yes in
      let said_no : a.no_count ≡ b.no_count = one_count (HasAnswer w false No) a.say_no b.say_no in
      let said_invalid : a.invalid_count ≡ b.invalid_count = one_count (HasAnswer w false Invalid) a.say_invalid b.say_invalid in
      let counted : counts_text n a.yes_count a.no_count a.invalid_count ≡ counts_text n b.yes_count b.no_count b.invalid_count =
      λ i. counts_text n (said_yes i) (said_no i) (said_invalid i) in
      a.pieces_are ∙ ap₂ (λ (t l : Text). t ∷ l ∷ []) counted (last_once w.queries a.last b.last a.ends b.ends) ∙ sym b.pieces_are

  -- ---- pieces

  module _ (p : Parts) (apart : TellsApart w.lexicon) (found : FindSignatures w)
      (one_part : (ds es : List CallDecl) → StandsFor p.input (second_at p) ds → StandsFor p.input (second_at p) es → ds ≡ es) where
    pieces_once : (c : Content) → backing_of c ≢ Derivation → (ls ms : List Text) → ArePrinted w false c p ls
        → ArePrinted w false c p ms
        → ls ≡ ms
    pieces_once (Answers (Each b)) real ls ms h k =
        one_lines (IsLineOf w false b) (query_once b real) h k
    pieces_once (Answers (Counts n)) real ls ms h k = counts_once n ls ms h k
    pieces_once Signatures real ls ms h k = one_lines _ (named_once w) h k
    pieces_once Systems real ls ms h k = one_lines _ (system_once w) h k
    pieces_once Families real ls ms (kept, given, is) (other, too, same) =
        is ∙ ap (λ (ns : List (List ℕ)). family_text w ns ∷ []) (given_one w kept other given too) ∙ sym same
    pieces_once Judgements real ls ms (said, is, one) (other, also, too) =
        one ∙ ap (λ (t : Text). t ∷ []) (output_one w p.second said other apart is also) ∙ sym too
    pieces_once Calls real ls ms (ds, stands, none, (cs, say, are)) (es, also, too, (others, tell, lines)) =
        let same : cs ≡ others = one_list w p.input found apart cs others es
        (subst (λ (z : List CallDecl). SayCalls w p.input cs z) (one_part ds es stands also) say) tell in
        one_lines (calls.IsLineOf w) (one_line w) (subst (λ (z : List TermCall). AreLines (calls.IsLineOf w) z ls) same are) lines

    output_once : (c : Content) → backing_of c ≢ Derivation → (out other : Text) → IsOutput w false c p out → IsOutput w false c p other
        → out ≡ other
    output_once c real out other (ls, are, is) (ms, too, same) = is ∙ ap concat (pieces_once c real ls ms are too) ∙ sym same

-- ---- verdicts with status 0

pub refused_status : (line : CommandLine) (input : Text) (o : Outcome) (told : List Event) → IsRefused line input o told
    → (o.status ≡ 1) ⊎ (o.status ≡ 3)
refused_status line input o told (too_long long is none) = inl (ap (λ (p : Outcome). p.status) is)
refused_status line input o told (in_one_part within two lacks is none) = inl (ap (λ (p : Outcome). p.status) is)
refused_status line input o told (without_world p are refusal has is none) = inl (ap (λ (p : Outcome). p.status) is)
refused_status line input o told (unchecked w (Limit which trace) checks has checked is) = inr (ap (λ (p : Outcome). p.status) is)
refused_status line input o told (unchecked w _ checks has checked is) = inl (ap (λ (p : Outcome). p.status) is)
refused_status line input o told (misfit w n judges has first is none) = inl (ap (λ (p : Outcome). p.status) is)
refused_status line input o told (past_a_limit_of_families which trace c asked stops is) = inr (ap (λ (p : Outcome). p.status) is)
refused_status line input o told (bad_calls refusal c asked refuses untold is) = inl (ap (λ (p : Outcome). p.status) is)

-- what the crates below say of every text
pub record AreKnown (text : List ℕ) : Type 0 where
  pub skeletons : (s t : Skeleton) → decl.StandsFor text s → decl.StandsFor text t → s ≡ t
  pub worlds : (s : Skeleton) (w v : TextWorld) → IsWorldOf text s w → IsWorldOf text s v → w ≡ v
  pub names : (s : Skeleton) (x : LexiconView) → decl.StandsFor text s → IsLexiconOf text s x → TellsApart x
  pub found : (s : Skeleton) (w : TextWorld) → decl.StandsFor text s → IsWorldOf text s w → Resolve text s → FindSignatures w

module _ (line : CommandLine) (input : Text) where
  abbrev printed : Content
  printed = content_of line

  -- what a verdict with status 0 prints of a world of the input
  record IsPrinted (out : Text) : Type 0 where
    pub world : TextWorld
    pub has_world : HasWorld line input world
    pub output : IsOutput world false printed has_world.parts out

  printed_by : (o : Outcome) (told : List Event) → IsVerdict line input o told → o.status ≡ 0 → IsPrinted o.output
  printed_by o told (is_refused r) e = elim (refused_status line input o told r) [
    | inl one ↦ absurd (omega (arith, e, one))
    | inr three ↦ absurd (omega (arith, e, three))
  ]
  printed_by o told (is_cut_short c) e = absurd (omega (arith, e, ap (λ (q : Outcome). q.status) c.outcome))
  printed_by o told (is_answered a) e = record { world = a.check.world; has_world = a.check.has_world; output = a.output }
  printed_by o told (is_judged j) e = record { world = j.world; has_world = j.has_world; output = j.output }

  module _ (p : Parts) (are : AreParts line.command input p) (known : AreKnown p.source)
      (one_part : (ds es : List CallDecl) → StandsFor p.input (second_at p) ds → StandsFor p.input (second_at p) es → ds ≡ es)
      (real : backing_of printed ≢ Derivation) where
    at_parts : {out : Text} (h : IsPrinted out) → IsWorldOfText p.source h.world × IsOutput h.world false printed p out
    at_parts {out} h =
        subst (λ (z : Parts). IsWorldOfText z.source h.world × IsOutput h.world false printed z out)
        (one_split line.command input h.has_world.parts p h.has_world.are are) (h.has_world.of_text, h.output)

    printed_once : (out other : Text) → IsPrinted out → IsPrinted other → out ≡ other
    printed_once out other a b =
        let (f, first) = at_parts a in
        let (g, second) = at_parts b in
        let one_skeleton : f.skeleton ≡ g.skeleton = known.skeletons f.skeleton g.skeleton f.stands g.stands in
        let one_world : a.world ≡ b.world = known.worlds g.skeleton a.world b.world
        (subst (λ (s : Skeleton). IsWorldOf p.source s a.world) one_skeleton f.world) g.world in
        output_once b.world p (known.names g.skeleton b.world.lexicon g.stands g.world.lexicon)
        (known.found g.skeleton b.world g.stands g.world g.resolve) one_part printed real out other
        (subst (λ (w : TextWorld). IsOutput w false printed p out) one_world first) second

    -- Two verdicts with status 0 are one.
    pub outcome_once : (o q : Outcome) (told also : List Event) → IsVerdict line input o told → IsVerdict line input q also
        → o.status ≡ 0 → q.status ≡ 0 → q ≡ o
    outcome_once o q told also v u e f =
        let out = printed_once o.output q.output (printed_by o told v e) (printed_by q also u f) in
        λ i. record { status = (f ∙ sym e) i; output = sym out i }
