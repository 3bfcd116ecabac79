-- What a command prints of a text that is not refused.
use Rattle.std.specs.Prelude.{◌≡◌, ℕ, ◌+◌, ◌*◌, Bool, List, [], ◌∷◌, ◌++◌, codes, decimal}
use Rattle.std.specs.List.{concat}
use Rattle.swreq_print.specs.Names.{Text}
use Rattle.swreq_print.specs.swreq_decl.declared.skeleton.CallDecl.{CallDecl}
use Rattle.swreq_print.specs.swreq_decl.Calls.{StandsFor}
use Rattle.swreq_print.specs.swreq_lowering.Queries.{TermQuery}
use Rattle.swreq_valid.specs.swreq_world.Worlds.{TextWorld}
use Rattle.swreq_query.specs.Answers.Answer.{Invalid, Yes, No}
use Rattle.swreq_verify.specs.Outputs as verified
use Rattle.swreq_reqsig.specs.Families.{IsGivenFamily}
use Rattle.swreq_reqsig.specs.Texts.{family_text}
use Rattle.swreq_subst.specs.Calls.{TermCall}
use Rattle.swreq_subst.specs.Lines as calls
use Rattle.swreq_subst.specs.Refusals.{refusals}
use Rattle.swreq_subst.specs.Saying.{SayCalls}
use Rattle.swreq_query.specs.Signatures.{IsNamedLine}
use Rattle.swreq_query.specs.Systems.{IsSystemText}
use Rattle.swreq_check.specs.declared.content.Backing.TheVariants.{Nothing}
use Rattle.swreq_check.specs.declared.content.Shown.TheVariants.{Each, Counts}
use Rattle.swreq_check.specs.declared.content.Content.{Content}
use Rattle.swreq_check.specs.declared.content.Content.TheVariants.{Answers, Signatures, Systems, Calls, Families, Judgements}
use Rattle.swreq_reply.specs.Inputs.{Parts, second_at}
use Rattle.swreq_check.specs.Lines.{AreLines, Counted}
use Rattle.swreq_check.specs.QueryLines.{HasAnswer, IsLineOf}

-- how much the generated text of n protocols has of what
abbrev pub sizes_text : ℕ → Text
sizes_text n = codes "protocols " ++ (decimal n ++ (codes "\nfunctions 1\nqueries " ++ (decimal (4 * n + 1) ++ codes "\n")))

-- how many queries have each verdict
abbrev pub verdicts_text : (yes_count no_count invalid_count : ℕ) → Text
verdicts_text yes_count no_count invalid_count =
    codes "yes "
    ++ (decimal yes_count ++ (codes "\nno " ++ (decimal no_count ++ (codes "\ninvalid " ++ (decimal invalid_count ++ codes "\n")))))

-- the sizes of the generated text, and after them the verdicts on its queries
abbrev pub counts_text : (n yes_count no_count invalid_count : ℕ) → Text
counts_text n yes_count no_count invalid_count = sizes_text n ++ verdicts_text yes_count no_count invalid_count

-- The second part stands for calls of which no name is refused.
abbrev pub HasCalls : TextWorld → Parts → Type 0
HasCalls w p = (ds : List CallDecl) × StandsFor p.input (second_at p) ds × (refusals w p.input ds ≡ [])

module _ (w : TextWorld) where
  -- ---- calls

  -- The second part stands for calls of which no name is refused, and of each of them, in written order, this is its line.
  abbrev pub AreCallLines : Parts → List Text → Type 0
  AreCallLines parts pieces = (ds : List CallDecl) × StandsFor parts.input (second_at parts) ds × (refusals w parts.input ds ≡ [])
      × ((cs : List TermCall) × SayCalls w parts.input cs ds × AreLines (calls.IsLineOf w) cs pieces)

  -- ---- answers

  module _ (guarded : Bool) where
    -- The line answers the last of the queries. Where there is none it is empty.
    abbrev pub AnswersLast : List TermQuery → Text → Type 0
    AnswersLast [] line = line ≡ []
    AnswersLast (q ∷ []) line = IsLineOf w guarded Nothing q line
    AnswersLast (q ∷ r ∷ qs) line = AnswersLast (r ∷ qs) line

    -- Of a text of n protocols: how many queries have each verdict, and the line that answers the last query.
    pub record AreCounts (n : ℕ) (pieces : List Text) : Type 0 where
      pub yes_count : ℕ
      pub no_count : ℕ
      pub invalid_count : ℕ
      pub last : Text
      pub say_yes : Counted (HasAnswer w guarded Yes) w.queries yes_count
      pub say_no : Counted (HasAnswer w guarded No) w.queries no_count
      pub say_invalid : Counted (HasAnswer w guarded Invalid) w.queries invalid_count
      pub ends : AnswersLast w.queries last
      pub pieces_are : pieces ≡ counts_text n yes_count no_count invalid_count ∷ last ∷ []

    -- What is printed, piece for piece: the answer to each query in written order, or their counts; of each signature its name and its
    -- minimised list, or its reduced rewriting system; the requirement signatures of the protocols; what is said of the derivations in the
    -- second part; the line of each call in it.
    abbrev pub ArePrinted : Content → Parts → List Text → Type 0
    ArePrinted (Answers (Each b)) parts pieces = AreLines (IsLineOf w guarded b) w.queries pieces
    ArePrinted (Answers (Counts n)) parts pieces = AreCounts n pieces
    ArePrinted Signatures parts pieces = AreLines (IsNamedLine w) w.signatures pieces
    ArePrinted Systems parts pieces = AreLines (IsSystemText w) w.signatures pieces
    ArePrinted Families parts pieces = (kept : List (List ℕ)) × IsGivenFamily w kept × (pieces ≡ family_text w kept ∷ [])
    ArePrinted Judgements parts pieces = (said : Text) × verified.IsOutput w parts.second said × (pieces ≡ said ∷ [])
    ArePrinted Calls parts pieces = AreCallLines parts pieces

    -- The output is made of these, one after the other.
    abbrev pub IsOutput : Content → Parts → Text → Type 0
    IsOutput c parts output = (pieces : List Text) × ArePrinted c parts pieces × (output ≡ concat pieces)
