-- What is printed with status 0 says the sentences of the headline.
use Rattle.std.proofs.Common.{◌≡◌, ◌∙◌, append-nil, ap₂, ◌≢◌, ◌∷◌, [], Contains, ℕ, refl, sym, ap, subst, inl, inr, zero, suc, false, List, ◌++◌, Option, Some, None, IfSome, map, arith}
use Rattle.std.specs.Prelude.{◌↔◌, codes, slice_get}
use Rattle.std.specs.Io.KnownBytes.{Appends}
use Rattle.std.proofs.lemmas.List.{append_cancel_left}
use Rattle.std.proofs.lemmas.List.Elements.{All-contains, Contains-get_or, Contains-push}
use Rattle.std.proofs.lemmas.Option.{IfSome_then, none-some, same_Some}
use Rattle.swreq_world.proofs.swreq_lemmas.Elements.{get_contains}
use Rattle.swreq_world.specs.swreq_param.Terms.{Term}
use Rattle.swreq_world.specs.swreq_derive.Derivation.{Derivable, Source, TermFacts, TermRequirement, TermStatement}
use Rattle.swreq_world.specs.swreq_derive.Derivation.TermRequirement.{Conforms, Equals, IsAnyObject}
use Rattle.swreq_world.specs.swreq_derive.Derivation.TermStatement.{IsValid, Requires}
use Rattle.swreq_world.specs.swreq_derive.Facts.{generic_params}
use Rattle.swreq_world.specs.swreq_derive.WellFormed.{HasValidSides, IsWellFormed}
use Rattle.swreq_world.proofs.swreq_derive.Guard.{from_function}
use Rattle.swreq_world.proofs.swreq_derive.Substitution.{valid_sides}
use Rattle.swreq_reply.proofs.swreq_canonical.Agreement.{minimised_independent}
use Rattle.swreq_print.specs.swreq_rule.declared.rules.Rule.{Rule}
use Rattle.swreq_watch.specs.declared.events.Event.{Event}
use Rattle.swreq_reply.specs.swreq_complete.declared.limit.Limits.{Limits}
use Rattle.swreq_words.specs.Form.{Says}
use Rattle.swreq_words.specs.declared.command.CommandLine.{CommandLine}
use Rattle.swreq_world.specs.swreq_lowering.Queries.{TermAsks, TermQuery}
use Rattle.swreq_world.specs.swreq_lowering.Queries.TermAsks.{AsksReduced, AsksRequirement, AsksSignature}
use Rattle.swreq_world.specs.swreq_lowering.Requirements.{PlacedRequirement}
use Rattle.swreq_world.specs.Closed.{IsClosed, IsQueryOf}
use Rattle.swreq_world.specs.Worlds.{SignatureOver, TextWorld, no_signature, signature_at}
use Rattle.swreq_reply.specs.swreq_symbols.Meaning.{facts_of}
use Rattle.swreq_print.specs.Names.{Text}
use Rattle.swreq_print.specs.Types.{type_text}
use Rattle.swreq_reply.specs.swreq_query.Answers.{Answer, IsLeastEqual, IsSide, IsSideOf, answer_line}
use Rattle.swreq_reply.specs.swreq_query.Answers.Answer.{Invalid, Yes, Reduced}
use Rattle.swreq_reply.proofs.swreq_query.OneAnswer.{one_answer}
use Rattle.swreq_reply.specs.swreq_query.Ended.{HasEnded, IsWorldOfText}
use Rattle.swreq_reply.specs.swreq_query.Signatures.{IsMinimisedLine, full_name}
use Rattle.swreq_world.specs.FactsAt.{source_of, written_list}
use Rattle.swreq_reply.proofs.swreq_query.PrintingAlike.{closed_world, equivalent_by_one_line, lines_alike, params_of_one_line}
use Rattle.swreq_reply.specs.declared.outcome.Outcome.{Outcome}
use Rattle.swreq_top.specs.Headline.{HasPathWhereImplied, IsDerivedWhereImplied, AsksImplied, IsImplied, IsLeastWhereValid, IsYes, IsYesWhereImplied, PrintsOf, SayAlike, SayDerivations, SayEqualLists, SayFailing, SayFamily, SayPaths, SayTheLeast, SayYesWhereImplied, SaysOf}
use Rattle.swreq_reply.specs.swreq_check.Lines.{AreLines}
use Rattle.swreq_reply.specs.swreq_check.Lines.AreLines.{none, more}
use Rattle.swreq_reply.specs.swreq_check.declared.content.Backing.{Backing}
use Rattle.swreq_reply.specs.swreq_check.declared.content.Backing.TheVariants.{Derivation, Nothing, Path}
use Rattle.swreq_reply.specs.swreq_check.declared.content.Content.{Content}
use Rattle.swreq_reply.specs.swreq_check.declared.content.Content.TheVariants.{Answers, Calls, Families, Judgements, Signatures}
use Rattle.swreq_reply.specs.swreq_check.declared.content.Shown.TheVariants.{Counts, Each}
use Rattle.swreq_reply.specs.Commands.{content_of}
use Rattle.swreq_reply.specs.Inputs.{AreParts, Parts}
use Rattle.swreq_reply.specs.swreq_check.QueryLines.{AnswersByTypes, BacksYes, HasAnswer, IsLineOf, IsLineWhere}
use Rattle.swreq_reply.specs.Outputs.{AnswersLast, ArePrinted, IsOutput}
use Rattle.swreq_top.specs.Run.{HasVerdict, Run, known_text}
use Rattle.swreq_reply.specs.Verdict.{HasWorld, IsVerdict, limits_of}
use Rattle.swreq_reply.specs.Verdict.IsVerdict.{answered as is_answered, cut_short as is_cut_short, judged as is_judged, refused as is_refused}
use Rattle.swreq_reply.proofs.swreq_reqsig.Signatures.{numbered_signatures}
use Rattle.swreq_reply.specs.swreq_check.Machines.{IsBuiltOver}
use Rattle.swreq_reply.proofs.swreq_check.OfChecks.{each_comes, is_formed}
use Rattle.swreq_reply.proofs.OneOutput.{refused_status}
use Rattle.swreq_reply.proofs.ByBook.{asked_list}
use Rattle.swreq_reply.proofs.Counted.{counted_by}
use Rattle.swreq_reply.proofs.swreq_check.Lines.{lines_by}

-- ---- answers of queries

-- the sides of a requirement are valid where it is derivable
sides_valid : (f : TermFacts) (s : Source) (r : TermRequirement) → HasValidSides f s r → (side : Term) → IsSideOf r side
    → Derivable f s (IsValid side)
sides_valid f s (Equals t u) valid side is = elim is [ inl e ↦ rw e valid.0 | inr e ↦ rw e valid.1 ]
sides_valid f s (Conforms t p) valid side is = rw is valid
sides_valid f s (IsAnyObject t) valid side is = rw is valid

-- a query of a type parameter prints the least one
least_by : (w : TextWorld) (b : Backing) (q : TermQuery) (piece : Text) (t : Term) → q.asks ≡ AsksReduced t
    → AnswersByTypes w false b q piece
    → IsImplied w q (IsValid t) → (r : Term) × IsLeastEqual (IsImplied w q) t r × (piece ≡ type_text w.lexicon r ++ codes "\n")
least_by w b q piece t asks (Invalid, rest, (side, is, fails), backs, e) valid =
    let of : side ≡ t = subst (λ (z : TermAsks). IsSide z side) asks is in
    absurd (fails (subst (λ (z : Term). IsImplied w q (IsValid z)) (sym of) valid))
least_by w b q piece t asks (Reduced u, rest, (sides, (v, same, some)), backs, e) valid =
    let one : AsksReduced v ≡ AsksReduced t = sym same ∙ asks in
    let is : v ≡ t = cc in (
      u,
      subst (λ (z : Term). IsLeastEqual (IsImplied w q) z u) is some,
      e ∙ ap (λ (z : Text). answer_line w.lexicon (Reduced u) ++ z) backs ∙ append-nil (answer_line w.lexicon (Reduced u)),
    )
least_by w b q piece t asks (a, rest, is, backs, e) valid =
    let clash : AsksRequirement is.1.0 ≡ AsksReduced t = sym is.1.1 ∙ asks in absurd cc

least_where_valid : (w : TextWorld) (b : Backing) (q : TermQuery) (piece : Text) → IsLineOf w false b q piece → IsLeastWhereValid w q piece
least_where_valid w b q piece line t asks =
    least_by w b q piece t asks (subst (λ (z : TermAsks). IsLineWhere w false z b q piece) asks line)

-- ---- lines at their places

-- the lines stand where what they are lines of stands
line_at : {A : Type 0} {P : A → Text → Type 0} {xs : List A} {ls : List Text} → AreLines P xs ls → (k : ℕ) (x : A) (line : Text)
    → slice_get xs k ≡ Some x → slice_get ls k ≡ Some line → P x line
line_at none k x line e d = (cc)
line_at {P} (more {x} {xs} {line} is rest) zero y other e d =
    subst (λ z. P z other) (same_Some x y e) (subst (P x) (same_Some line other d) is)
line_at (more is rest) (suc k) y other e d = line_at rest k y other e d

-- the answer to the last query, where it asks for a signature
last_list : (w : TextWorld) (qs : List TermQuery) (p : TermQuery) (line : Text) → p.asks ≡ AsksSignature
    → AnswersLast w false (qs ++ p ∷ []) line
    → IsMinimisedLine w (signature_at w p.f) line
last_list w [] p line asks h = subst (λ (z : TermAsks). IsLineWhere w false z Nothing p line) asks h
last_list w (q ∷ []) p line asks h = subst (λ (z : TermAsks). IsLineWhere w false z Nothing p line) asks h
last_list w (q ∷ r ∷ qs) p line asks h = last_list w (r ∷ qs) p line asks h

-- ---- texts that pass the check

-- The text has this world, and its check came to rules.
pub record HasPassed (w : TextWorld) : Type 0 where
  pub text : Text
  pub of_text : IsWorldOfText text w
  pub limits : Limits
  pub rules : List Rule
  pub told : List Event
  pub built : IsBuiltOver limits w rules told

module _ (w : TextWorld) (has : HasPassed w) where
  is_closed : IsClosed w
  is_closed = closed_world has.text w has.of_text

  formed : IsWellFormed (facts_of w) (map source_of w.signatures)
  formed = is_formed has.limits w is_closed has.built

  -- the rounds of each signature have ended
  has_ended : (g : SignatureOver PlacedRequirement) → Contains w.signatures g → HasEnded has.limits w g
  has_ended g c =
      let (own, told, comes) = each_comes has.limits w has.rules has.built.signatures g c in
      record {
        rules = has.rules;
        first = has.built.first;
        of_protocols = has.built.protocols.0;
        own = own;
        more = told;
        of_list = comes.0;
      }

  -- its queries are of its world
  is_query : (q : TermQuery) → Contains w.queries q → IsQueryOf w q
  is_query q c = All-contains (IsQueryOf w) w.queries q is_closed.queries c

  -- a query whose requirement is implied has the answer `yes`
  answers_yes : (q : TermQuery) → IsQueryOf w q → AsksImplied w q → HasAnswer w false Yes q
  answers_yes q of (r, asks, h) =
      let s : Source = source_of (signature_at w q.f) in
      let book = λ (st : TermStatement). from_function (facts_of w) (map source_of w.signatures) s st formed (asked_list w q of) in (
        λ side is. (book (IsValid side)).1
            (sides_valid (facts_of w) s r (valid_sides (facts_of w) s r ((book (Requires r)).0 h)) side
            (subst (λ (z : TermAsks). IsSide z side) asks is)),
        (r, asks, h),
      )

  -- a piece that begins as that of a `yes` is one
  only_yes : (q : TermQuery) (r : TermRequirement) → q.asks ≡ AsksRequirement r → (a : Answer) (rest behind : Text) → HasAnswer w false a q
      → answer_line w.lexicon a ++ rest ≡ codes "yes\n" ++ behind → HasAnswer w false Yes q
  only_yes q r asks Yes rest behind h e = h
  only_yes q r asks (Reduced u) rest behind (sides, (t, is, some)) e =
      let clash : AsksRequirement r ≡ AsksReduced t = sym asks ∙ is in absurd cc
  only_yes q r asks _ rest behind h e = absurd (cc)

  -- so the piece of a query is that of a `yes` if and only if its requirement is implied
  yes_where_implied : (b : Backing) (q : TermQuery) (piece : Text) → IsQueryOf w q → IsLineOf w false b q piece
      → IsYesWhereImplied w b q piece
  yes_where_implied b q piece of line r asks = both (subst (λ (z : TermAsks). IsLineWhere w false z b q piece) asks line)
    where
      one : (p : TermRequirement) → q.asks ≡ AsksRequirement p → p ≡ r
      one p also = let e : AsksRequirement p ≡ AsksRequirement r = sym also ∙ asks in cc

      both : AnswersByTypes w false b q piece → IsYes w b q r piece ↔ IsImplied w q (Requires r)
      both (a, rest, answers, backs, e) = (
        λ (behind, backed, is).
            let yes = only_yes q r asks a rest behind answers (sym e ∙ is) in
            subst (λ (z : TermRequirement). IsImplied w q (Requires z)) (one yes.1.0 yes.1.1) yes.1.2,
        λ h.
            let same : a ≡ Yes = one_answer (IsImplied w q) q.asks a Yes answers (answers_yes q of (r, asks, h)) in
            let (p, also, backed) = rw same at backs in (
              rest,
              subst (λ (z : TermRequirement). BacksYes w b q.f z rest) (one p also) backed,
              e ∙ ap (λ (z : Answer). answer_line w.lexicon z ++ rest) same,
            ),
      )

  -- and where paths are printed, a path follows it
  path_where_implied : (q : TermQuery) (piece : Text) → IsQueryOf w q → IsLineOf w false Path q piece → HasPathWhereImplied w q piece
  path_where_implied q piece of line t p asks = (yes_where_implied Path q piece of line (Conforms t p) asks).1

  -- the answers to the queries of the text, each by a sentence on its query
  of_queries : (b : Backing) (Sentence : TermQuery → Text → Type 0)
      → ((q : TermQuery) (piece : Text) → IsQueryOf w q → IsLineOf w false b q piece → Sentence q piece)
      → {lines : List Text} → AreLines (IsLineOf w false b) w.queries lines → AreLines Sentence w.queries lines
  of_queries b Sentence each are = lines_by (IsLineOf w false b) Sentence (λ q line c of. each q line (is_query q c) of) are

  -- the signature that a query asks is one of the text
  asked_signature : (q : TermQuery) (g : SignatureOver PlacedRequirement) (line : Text) → Contains w.queries q
      → g ≡ signature_at w q.f → IsMinimisedLine w (signature_at w q.f) line → Contains w.signatures g × IsMinimisedLine w g line
  asked_signature q g line c is minimised =
      rw is (Contains-get_or w.signatures q.f.place no_signature (is_query q c).0, minimised)

-- ---- the sentences, of what is printed

-- The sentence is true of what is printed of each world; of one whose text passes the check, unless derivations are judged.
abbrev pub Holds : (TextWorld → Content → Parts → List Text → Type 0) → Type 0
Holds Sentence =
    (w : TextWorld) (c : Content) → (c ≢ Judgements → HasPassed w) → (p : Parts) (lines : List Text) → ArePrinted w false c p lines
    → Sentence w c p lines

pub say_yes : Holds SayYesWhereImplied
say_yes w (Answers (Each b)) has p lines are =
    let passed = has (λ e. (cc)) in of_queries w passed b (IsYesWhereImplied w b) (yes_where_implied w passed b) are
say_yes w (Answers (Counts n)) has p lines are =
    let passed = has (λ e. (cc)) in (
      are.yes_count,
      are.no_count,
      are.invalid_count,
      counted_by (HasAnswer w false Yes) (AsksImplied w) (λ q c yes. yes.1) (λ q c. answers_yes w passed q (is_query w passed q c))
          are.say_yes,
      ap (λ (ls : List Text). slice_get ls 0) are.pieces_are,
    )
say_yes w _ has p lines are = tt

pub say_least : Holds SayTheLeast
say_least w (Answers (Each b)) has p lines are =
    lines_by (IsLineOf w false b) (IsLeastWhereValid w) (λ q line c is. least_where_valid w b q line is) are
say_least w _ has p lines are = tt

-- what is printed of a signature is the line of its minimised list, and it is one of a text that passes the check
listed : (w : TextWorld) (c : Content) → (c ≢ Judgements → HasPassed w) → (p : Parts) (lines : List Text) → ArePrinted w false c p lines
    → (k : ℕ) (g : SignatureOver PlacedRequirement) (line : Text) → PrintsOf w c lines k g line
    → HasPassed w × (Contains w.signatures g × IsMinimisedLine w g line)
listed w (Answers (Each b)) has p lines are k g line (q, at_q, asks, is, at) =
    let passed = has (λ e. (cc)) in
    let member = get_contains w.queries k q at_q in (
      passed,
      asked_signature w passed q g line member is
          (subst (λ (z : TermAsks). IsLineWhere w false z b q line) asks (line_at are k q line at_q at)),
    )
listed w (Answers (Counts n)) has p lines are k g line (q, qs, split, asks, is, second, at) =
    let passed = has (λ e. (cc)) in
    let same : are.last ≡ line = same_Some are.last line (sym (ap₂ slice_get are.pieces_are second) ∙ at) in
    let member : Contains w.queries q = rw split (Contains-push qs q) in
    let ends = subst (λ (all : List TermQuery). AnswersLast w false all line) split (rw same at are.ends) in
    (passed, asked_signature w passed q g line member is (last_list w qs q line asks ends))
listed w Signatures has p lines are k g line (at_g, at) =
    let named = line_at are k g (full_name w g ++ (codes ": " ++ line)) at_g at in
    let same = append_cancel_left (full_name w g) (codes ": " ++ line) (codes ": " ++ named.0) named.2 in
    (has (λ e. (cc)), (get_contains w.signatures k g at_g, rw (append_cancel_left (codes ": ") line named.0 same) named.1))
listed w _ has p lines are k g line at = absurd at

pub say_equal_lists : Holds SayEqualLists
say_equal_lists w c has p lines are k g line at =
    let m = (listed w c has p lines are k g line at).1.1 in record {
      list = m.list;
      same = m.same;
      independent = minimised_independent (facts_of w) (generic_params g.params) (written_list g) m.list m.minimised;
      line_is = m.line_is;
    }

pub say_alike : Holds SayAlike
say_alike w c has p lines are k j g h line other at also =
    let (passed, (in_g, a)) = listed w c has p lines are k g line at in
    let (again, (in_h, b)) = listed w c has p lines are j h other also in (
      λ same.
          let one = subst (IsMinimisedLine w h) (sym same) b in (
            params_of_one_line passed.text w passed.of_text g h in_g in_h line a one,
            equivalent_by_one_line passed.text w passed.of_text g h in_g in_h line a one passed.limits (has_ended w passed g in_g)
                (has_ended w passed h in_h),
          ),
      λ alike. lines_alike w g h line other alike.0 alike.1 a b,
    )

pub say_derivations : Holds SayDerivations
say_derivations w (Answers (Each Derivation)) has p lines are =
    let passed = has (λ e. (cc)) in
    of_queries w passed Derivation (IsDerivedWhereImplied w)
    (λ q piece of line r asks. (yes_where_implied w passed Derivation q piece of line r asks).1) are
say_derivations w _ has p lines are = tt

pub say_paths : Holds SayPaths
say_paths w (Answers (Each Path)) has p lines are =
    let passed = has (λ e. (cc)) in of_queries w passed Path (HasPathWhereImplied w) (path_where_implied w passed) are
say_paths w _ has p lines are = tt

pub say_failing : Holds SayFailing
say_failing w Calls has p lines are = are
say_failing w _ has p lines are = tt

pub say_family : Holds SayFamily
say_family w Families has p lines (kept, (flags, given, is), e) =
    let passed = has (λ e. (cc)) in
    (kept, numbered_signatures w (is_closed w passed) (formed w passed).protocols flags kept given is, e)
say_family w _ has p lines are = tt

-- ---- what a run prints with status 0

-- What was printed with status 0: the output of a verdict.
abbrev pub IsAnsweredRun : Run → Type 0
IsAnsweredRun r = (bytes : Text) × Appends r.before.taken r.after.taken bytes
    × ((line : CommandLine) × Says r.words line × HasVerdict r line (record { status = 0; output = bytes }))

module _ (Sentence : TextWorld → Content → Parts → List Text → Type 0) (holds : Holds Sentence) (r : Run) where
  -- What is printed of the text.
  abbrev SaysOfText : CommandLine → Text → Type 0
  SaysOfText line text = (p : Parts) × AreParts line.command text p × SaysOf Sentence line p r.before.taken r.after.taken

  module _ (line : CommandLine) (text output : Text) (taken : Appends r.before.taken r.after.taken output) where
    of_output : (w : TextWorld) (has : HasWorld line text w) → (content_of line ≢ Judgements → HasPassed w)
        → IsOutput w false (content_of line) has.parts output → SaysOfText line text
    of_output w has passed (lines, are, e) =
        let says = holds w (content_of line) passed has.parts lines are in
        (has.parts, has.are, (w, has.of_text, (lines, are, subst (Appends r.before.taken r.after.taken) e taken, says)))

    -- a verdict with status 0 is an answer, or judges derivations
    of_verdict : (told : List Event) → IsVerdict line text (record { status = 0; output = output }) told → SaysOfText line text
    of_verdict told (is_refused refused) =
        absurd (omega (arith, refused_status line text (record { status = 0; output = output }) told refused))
    of_verdict told (is_cut_short cut) = absurd (omega (arith, ap (λ (o : Outcome). o.status) cut.outcome))
    of_verdict told (is_answered a) = of_output a.check.world a.check.has_world (λ checks. record {
      text = a.check.has_world.parts.source;
      of_text = a.check.has_world.of_text;
      limits = limits_of line;
      rules = a.check.rules;
      told = a.check.first;
      built = a.check.built;
    }) a.output
    of_verdict told (is_judged j) = of_output j.world j.has_world (λ checks. absurd (checks j.judges)) j.output

  -- what is printed with status 0 says so
  pub taken_say : IsAnsweredRun r
      → (line : CommandLine) × Says r.words line × IfSome (known_text line r.before.left) (SaysOfText line)
  taken_say (output, taken, (line, says, has)) = (
    line,
    says,
    IfSome_then (known_text line r.before.left) has.verdict (λ text said. of_verdict line text output taken said.0 said.1),
  )
