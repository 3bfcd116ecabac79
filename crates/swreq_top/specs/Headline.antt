-- What the lines say that a run with status 0 prints, in terms of the written signatures and of the book's rules.
use Rattle.std.specs.Prelude.{◌≡◌, ◌↔◌, ℕ, false, List, [], ◌∷◌, ◌++◌, Option, Some, IfSome, codes, slice_get}
use Rattle.std.specs.List.{concat}
use Rattle.std.specs.Io.KnownBytes.{Appends}
use Rattle.swreq_world.specs.swreq_param.declared.ids.ProtoId.{ProtoId}
use Rattle.swreq_world.specs.swreq_param.Terms.{Term}
use Rattle.swreq_world.specs.swreq_derive.Derivation.{BookDerivable, TermRequirement, TermStatement}
use Rattle.swreq_world.specs.swreq_derive.Derivation.TermRequirement.{Conforms}
use Rattle.swreq_world.specs.swreq_derive.Derivation.TermStatement.{IsValid, Requires}
use Rattle.swreq_world.specs.swreq_derive.Equivalence.{AreEquivalent}
use Rattle.swreq_world.specs.swreq_derive.Facts.{generic_params}
use Rattle.swreq_reply.specs.swreq_canonical.Minimised.{IsIndependent}
use Rattle.swreq_words.specs.declared.command.CommandLine.{CommandLine}
use Rattle.swreq_words.specs.Form.{Says}
use Rattle.swreq_world.specs.swreq_lowering.Queries.{TermQuery}
use Rattle.swreq_world.specs.swreq_lowering.Queries.TermAsks.{AsksReduced, AsksRequirement, AsksSignature}
use Rattle.swreq_world.specs.swreq_lowering.Requirements.{PlacedRequirement}
use Rattle.swreq_world.specs.Worlds.{SignatureOver, TextWorld, signature_at}
use Rattle.swreq_reply.specs.swreq_symbols.Meaning.{facts_of}
use Rattle.swreq_print.specs.Names.{Text}
use Rattle.swreq_print.specs.Signatures.{signature_text}
use Rattle.swreq_print.specs.Types.{type_text}
use Rattle.swreq_reply.specs.swreq_query.Answers.{IsLeastEqual}
use Rattle.swreq_reply.specs.swreq_query.Signatures.{full_name}
use Rattle.swreq_world.specs.FactsAt.{source_of, written_list}
use Rattle.swreq_reply.specs.swreq_check.Lines.{AreLines, Counted}
use Rattle.swreq_reply.specs.swreq_query.Ended.{IsWorldOfText}
use Rattle.swreq_reply.specs.swreq_check.declared.content.Backing.{Backing}
use Rattle.swreq_reply.specs.swreq_check.declared.content.Content.{Content}
use Rattle.swreq_reply.specs.swreq_check.declared.content.Content.TheVariants.{Answers, Calls, Families, Signatures}
use Rattle.swreq_reply.specs.swreq_check.declared.content.Backing.TheVariants.{Derivation, Path}
use Rattle.swreq_reply.specs.swreq_check.declared.content.Shown.TheVariants.{Counts, Each}
use Rattle.swreq_reply.specs.Commands.{content_of}
use Rattle.swreq_reply.specs.Inputs.{AreParts, Parts}
use Rattle.swreq_reply.specs.Outputs.{AreCallLines, ArePrinted, counts_text}
use Rattle.swreq_reply.specs.swreq_check.QueryLines.{BacksYes, IsDerivationText, IsPathLine}
use Rattle.swreq_reply.specs.swreq_reqsig.Families.{AreRequirementSignatures, members}
use Rattle.swreq_reply.specs.swreq_reqsig.Texts.{family_text}
use Rattle.swreq_top.specs.Run.{Run, known_text}

module _ (w : TextWorld) where
  -- ---- queries of requirements and of types

  -- The book's rules derive the statement from the written signature that the query asks.
  abbrev pub IsImplied : TermQuery → TermStatement → Type 0
  IsImplied q = BookDerivable (facts_of w) (source_of (signature_at w q.f))

  -- The piece is the line `yes`, and after it what backs it: where derivations are printed one that the checker accepts and that ends
  -- in the requirement, and where paths are printed the one that is given for a conformance.
  abbrev pub IsYes : Backing → TermQuery → TermRequirement → Text → Type 0
  IsYes b q r piece = (behind : Text) × BacksYes w b q.f r behind × (piece ≡ codes "yes\n" ++ behind)

  -- The piece of a query for a requirement is that of a `yes` if and only if the requirement is implied.
  abbrev pub IsYesWhereImplied : Backing → TermQuery → Text → Type 0
  IsYesWhereImplied b q piece = (r : TermRequirement) → q.asks ≡ AsksRequirement r → IsYes b q r piece ↔ IsImplied q (Requires r)

  -- The query asks a requirement, and it is implied.
  abbrev pub AsksImplied : TermQuery → Type 0
  AsksImplied q = (r : TermRequirement) × (q.asks ≡ AsksRequirement r) × IsImplied q (Requires r)

  -- The first line counts as yes the queries whose requirement is implied.
  abbrev pub CountsImplied : ℕ → List Text → Type 0
  CountsImplied n lines = (yes_count no_count invalid_count : ℕ) × Counted AsksImplied w.queries yes_count
      × (slice_get lines 0 ≡ Some (counts_text n yes_count no_count invalid_count))

  -- The line of a query for a type parameter of the signature is the least one that is derivably equal to it.
  abbrev pub IsLeastWhereValid : TermQuery → Text → Type 0
  IsLeastWhereValid q line = (t : Term) → q.asks ≡ AsksReduced t → IsImplied q (IsValid t)
      → (r : Term) × IsLeastEqual (IsImplied q) t r × (line ≡ type_text w.lexicon r ++ codes "\n")

  -- ---- printed signatures

  -- The line is the text of a list that derives what is written and is derived from it, and of which no requirement is derivable from
  -- the others.
  pub record IsEqualAndIndependent (g : SignatureOver PlacedRequirement) (line : Text) : Type 0 where
    pub list : List TermRequirement
    pub same : AreEquivalent (facts_of w) (generic_params g.params) (written_list g) list
    pub independent : IsIndependent (facts_of w) (generic_params g.params) list
    pub line_is : line ≡ signature_text w.lexicon (generic_params g.params) list ++ codes "\n"

  -- The signatures have the same generic parameters, and the same is derivable from their lists.
  abbrev pub AreAlike : (g h : SignatureOver PlacedRequirement) → Type 0
  AreAlike g h = (g.params ≡ h.params) × AreEquivalent (facts_of w) (generic_params g.params) (written_list g) (written_list h)

  -- In these lines the k-th prints this of the signature: it answers a query for it, or follows its name. The answer to the last query
  -- comes after the line of counts.
  abbrev pub PrintsOf : Content → List Text → ℕ → SignatureOver PlacedRequirement → Text → Type 0
  PrintsOf (Answers (Each b)) lines k g line =
      (q : TermQuery) × (slice_get w.queries k ≡ Some q) × (q.asks ≡ AsksSignature) × (g ≡ signature_at w q.f)
      × (slice_get lines k ≡ Some line)
  PrintsOf (Answers (Counts n)) lines k g line =
      (q : TermQuery) × (qs : List TermQuery) × (w.queries ≡ qs ++ q ∷ []) × (q.asks ≡ AsksSignature) × (g ≡ signature_at w q.f)
      × (k ≡ 1) × (slice_get lines k ≡ Some line)
  PrintsOf Signatures lines k g line =
      (slice_get w.signatures k ≡ Some g) × (slice_get lines k ≡ Some (full_name w g ++ (codes ": " ++ line)))
  PrintsOf _ lines k g line = ⊥

  -- ---- what follows a yes

  -- Where the requirement that a query asks is implied, its piece is the line `yes` and a derivation of the requirement, in lines that the
  -- checker of derivations accepts.
  abbrev pub IsDerivedWhereImplied : TermQuery → Text → Type 0
  IsDerivedWhereImplied q piece = (r : TermRequirement) → q.asks ≡ AsksRequirement r → IsImplied q (Requires r)
      → (lines : Text) × IsDerivationText w q.f r lines × (piece ≡ codes "yes\n" ++ lines)

  -- Where the conformance that a query asks is implied, its piece is the line `yes` and the line of a conformance path: none is
  -- shorter, and of those as long as it none has numbers that come before its own.
  abbrev pub HasPathWhereImplied : TermQuery → Text → Type 0
  HasPathWhereImplied q piece = (t : Term) (p : ProtoId) → q.asks ≡ AsksRequirement (Conforms t p) → IsImplied q (Requires (Conforms t p))
      → (line : Text) × IsPathLine w q.f t p line × (piece ≡ codes "yes\n" ++ line)

  -- ---- the sentences

  -- Each query prints yes if and only if the book's rules derive it from the written signature; and as many count as yes.
  abbrev pub SayYesWhereImplied : Content → Parts → List Text → Type 0
  SayYesWhereImplied (Answers (Each b)) p lines = AreLines (IsYesWhereImplied b) w.queries lines
  SayYesWhereImplied (Answers (Counts n)) p lines = CountsImplied n lines
  SayYesWhereImplied _ p lines = Unit {0}

  -- Each type parameter prints as the least one derivably equal to it.
  abbrev pub SayTheLeast : Content → Parts → List Text → Type 0
  SayTheLeast (Answers (Each b)) p lines = AreLines IsLeastWhereValid w.queries lines
  SayTheLeast _ p lines = Unit {0}

  -- Each printed signature derives what was written and is derived from it, no requirement derivable from the others.
  abbrev pub SayEqualLists : Content → Parts → List Text → Type 0
  SayEqualLists c p lines = (k : ℕ) (g : SignatureOver PlacedRequirement) (line : Text) → PrintsOf c lines k g line
      → IsEqualAndIndependent g line

  -- Equivalent signatures print alike, and no others.
  abbrev pub SayAlike : Content → Parts → List Text → Type 0
  SayAlike c p lines = (k j : ℕ) (g h : SignatureOver PlacedRequirement) (line other : Text)
      → PrintsOf c lines k g line → PrintsOf c lines j h other → (line ≡ other) ↔ AreAlike g h

  -- After each yes of `explain` stands a derivation that the checker accepts and that ends in what is asked.
  abbrev pub SayDerivations : Content → Parts → List Text → Type 0
  SayDerivations (Answers (Each Derivation)) p lines = AreLines IsDerivedWhereImplied w.queries lines
  SayDerivations _ p lines = Unit {0}

  -- After each yes of `paths` to a conformance stands its conformance path, the shortest and of these the least.
  abbrev pub SayPaths : Content → Parts → List Text → Type 0
  SayPaths (Answers (Each Path)) p lines = AreLines HasPathWhereImplied w.queries lines
  SayPaths _ p lines = Unit {0}

  -- Of each call exactly the requirements of the callee are named that fail for its types; or one of these is no type parameter.
  abbrev pub SayFailing : Content → Parts → List Text → Type 0
  SayFailing Calls p lines = AreCallLines w p lines
  SayFailing _ p lines = Unit {0}

  -- The printed requirement lists of the protocols are requirement signatures: the same is derivable with them, and none can go.
  abbrev pub SayFamily : Content → Parts → List Text → Type 0
  SayFamily Families p lines = (kept : List (List ℕ)) × AreRequirementSignatures w (members w kept) × (lines ≡ family_text w kept ∷ [])
  SayFamily _ p lines = Unit {0}

-- The source text has a world, and the bytes that were taken are lines, by what the command prints, of which this is true.
abbrev pub SaysOf : (TextWorld → Content → Parts → List Text → Type 0) → CommandLine → Parts → (old new : Option Text) → Type 0
SaysOf Sentence line p old new = (w : TextWorld) × IsWorldOfText p.source w ×
    ((lines : List Text) × ArePrinted w false (content_of line) p lines × Appends old new (concat lines)
    × Sentence w (content_of line) p lines)

-- The status is 0 only where the words say a command, and where its text is known, so says what was taken.
abbrev pub Prints : Run → (TextWorld → Content → Parts → List Text → Type 0) → Type 0
Prints r Sentence = r.status ≡ 0 → (line : CommandLine) × Says r.words line
    × IfSome (known_text line r.before.left)
    (λ text. (p : Parts) × AreParts line.command text p × SaysOf Sentence line p r.before.taken r.after.taken)
