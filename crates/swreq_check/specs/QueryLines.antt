-- The line that answers a query, and what follows a `yes`.
use Rattle.std.specs.Prelude.{◌≡◌, ℕ, Bool, List, [], ◌++◌, Option, Some, codes}
use Rattle.swreq_machine.specs.swreq_param.declared.ids.ProtoId.{ProtoId}
use Rattle.swreq_machine.specs.swreq_param.Terms.{Term}
use Rattle.swreq_machine.specs.swreq_derive.Derivation.{Derives, TermRequirement}
use Rattle.swreq_machine.specs.swreq_derive.Derivation.TermRequirement.{Conforms}
use Rattle.swreq_machine.specs.swreq_derive.Derivation.TermStatement.{Requires}
use Rattle.swreq_machine.specs.swreq_derive.Facts.{generic_params}
use Rattle.swreq_machine.specs.swreq_derive.Instances.{TermLine}
use Rattle.swreq_machine.specs.swreq_derive.Paths.{IsGivenPath}
use Rattle.swreq_lines.specs.swreq_print.Names.{Text}
use Rattle.swreq_machine.specs.swreq_lowering.declared.ids.FuncId.{FuncId}
use Rattle.swreq_machine.specs.swreq_lowering.Queries.{TermAsks, TermQuery}
use Rattle.swreq_machine.specs.swreq_lowering.Queries.TermAsks.{AsksSignature, AsksReduced, AsksRequirement}
use Rattle.swreq_machine.specs.swreq_world.Worlds.{TextWorld, signature_at}
use Rattle.swreq_machine.specs.swreq_symbols.Meaning.{facts_of}
use Rattle.swreq_machine.specs.swreq_world.FactsAt.{source_of, written_list}
use Rattle.swreq_query.specs.Answers.{Answer, IsAnswer, answer_line}
use Rattle.swreq_query.specs.Answers.Answer.{Invalid, Yes, No, Reduced}
use Rattle.swreq_query.specs.Asked.{IsVerdictOf}
use Rattle.swreq_query.specs.declared.verdict.Verdict.{Verdict}
use Rattle.swreq_confpath.specs.Numbers.{path_text}
use Rattle.swreq_lines.specs.LineTexts.{lines_text}
use Rattle.swreq_verify.specs.Judgements.{EndsIn, IsDerivationFrom}
use Rattle.swreq_query.specs.Signatures.{IsMinimisedLine}
use Rattle.swreq_check.specs.declared.content.Backing.{Backing}
use Rattle.swreq_check.specs.declared.content.Backing.TheVariants.{Nothing, Derivation, Path}
use Rattle.swreq_check.specs.declared.piece.Piece.{Piece}

module _ (w : TextWorld) where
  -- ---- what follows a yes

  -- The lines of a derivation by the book's rules from the written list of the signature, which the checker of derivations accepts, and
  -- which ends in the requirement.
  abbrev pub IsDerivationText : FuncId → TermRequirement → Text → Type 0
  IsDerivationText f r text =
      (ls : List TermLine) × IsDerivationFrom w f ls × EndsIn ls (Requires r) × (text ≡ lines_text w.lexicon ls)

  -- After two spaces, the conformance path that is given for [T : P]: of the shortest ones the one whose numbers are the least.
  abbrev pub IsPathLine : FuncId → Term → ProtoId → Text → Type 0
  IsPathLine f t p text = (first : ℕ) × (steps : List ℕ)
      × IsGivenPath (facts_of w) (generic_params (signature_at w f).params) (written_list (signature_at w f)) first steps t p
      × (text ≡ codes "  " ++ (path_text w.lexicon (facts_of w) (written_list (signature_at w f)) first steps ++ codes "\n"))

  -- This backs that the requirement of the signature is derivable.
  abbrev pub BacksYes : Backing → FuncId → TermRequirement → Text → Type 0
  BacksYes Nothing f r text = text ≡ []
  BacksYes Derivation f r text = IsDerivationText f r text
  BacksYes Path f (Conforms t p) text = IsPathLine f t p text
  BacksYes Path f _ text = text ≡ []

  -- What backs a `yes` follows it, and nothing follows other answers.
  abbrev pub Backs : Backing → TermQuery → Answer → Text → Type 0
  Backs b q Invalid text = text ≡ []
  Backs b q Yes text = (r : TermRequirement) × (q.asks ≡ AsksRequirement r) × BacksYes b q.f r text
  Backs b q No text = text ≡ []
  Backs b q (Reduced r) text = text ≡ []

  -- ---- answers

  module _ (guarded : Bool) where
    -- By what is derivable, with the guard or without it, from the written list of the signature that is asked, the query has this answer.
    abbrev pub HasAnswer : Answer → TermQuery → Type 0
    HasAnswer a q = IsAnswer (Derives (facts_of w) guarded (source_of (signature_at w q.f))) q.asks a

    -- By the same, the query has a verdict if and only if it is this one.
    abbrev pub HasVerdict : Option Verdict → TermQuery → Type 0
    HasVerdict verdict q = IsVerdictOf (Derives (facts_of w) guarded (source_of (signature_at w q.f))) q.asks verdict

    -- The piece is the line of the answer that the query has, and what backs it.
    abbrev pub AnswersByTypes : Backing → TermQuery → Text → Type 0
    AnswersByTypes b q piece =
        (a : Answer) × (behind : Text) × HasAnswer a q × Backs b q a behind × (piece ≡ answer_line w.lexicon a ++ behind)

    -- The piece answers the query that asks this; where it asks for a signature, by the minimised list.
    abbrev pub IsLineWhere : TermAsks → Backing → TermQuery → Text → Type 0
    IsLineWhere AsksSignature b q piece = IsMinimisedLine w (signature_at w q.f) piece
    IsLineWhere (AsksReduced t) b q piece = AnswersByTypes b q piece
    IsLineWhere (AsksRequirement r) b q piece = AnswersByTypes b q piece

    -- The piece answers the query.
    abbrev pub IsLineOf : Backing → TermQuery → Text → Type 0
    IsLineOf b q piece = IsLineWhere q.asks b q piece

    -- The text of the piece answers the query, and the query has the verdict of the piece.
    abbrev pub IsPieceOf : Backing → TermQuery → Piece → Type 0
    IsPieceOf b q piece = IsLineOf b q piece.text × HasVerdict piece.verdict q
