-- What is made of the machines of a text, and of its minimised lists.
use Rattle.std.specs.Prelude.{◌≡◌, ◌<◌, ℕ, Bool, true, false, List, Vec, Option, Some, None, get_or, length, slice_get, []}
use Rattle.std.specs.declared.alloc.Global.{Global}
use Rattle.swreq_lines.specs.swreq_print.Names.{Text}
use Rattle.swreq_machine.specs.swreq_lowering.declared.ids.FuncId.{FuncId}
use Rattle.swreq_machine.specs.swreq_lowering.Queries.{TermQuery}
use Rattle.swreq_machine.specs.swreq_world.Worlds.{TextWorld, signature_at}
use Rattle.swreq_query.specs.declared.verdict.Verdict.{Verdict}
use Rattle.swreq_query.specs.Signatures.{IsMinimisedLine}
use Rattle.swreq_query.specs.Systems.{IsSystemText}
use Rattle.swreq_check.specs.declared.content.Content.{Content}
use Rattle.swreq_check.specs.declared.content.Made.{Made}
use Rattle.swreq_check.specs.declared.content.Made.TheVariants.{Lines, Lists, Nothing, Systems}
use Rattle.swreq_check.specs.declared.content.Backing.{Backing}
use Rattle.swreq_check.specs.declared.piece.Piece.{Piece}
use Rattle.swreq_check.specs.Contents.{backing_of, makes}
use Rattle.swreq_check.specs.QueryLines.{IsPieceOf}

-- ---- pieces at their places

module _ (w : TextWorld) where
  -- This is made at the place: the piece that answers the query there, in which this follows a `yes`, or the system of the signature there.
  abbrev pub IsMadeAt : Made → Backing → ℕ → Piece → Type 0
  IsMadeAt Lines b k piece = (q : TermQuery) → slice_get w.queries k ≡ Some q → IsPieceOf w true b q piece
  IsMadeAt Systems b k piece = IsSystemText w (signature_at w (record { place = k })) piece.text
  IsMadeAt Lists b k piece = Unit {0}
  IsMadeAt Nothing b k piece = Unit {0}

  -- This is the piece at the place.
  abbrev pub IsPiece : Content → ℕ → Piece → Type 0
  IsPiece c = IsMadeAt (makes c) (backing_of c)

-- the text of the piece that stands there, if one does
abbrev pub text_or_none : Option Piece → Text
text_or_none (Some piece) = piece.text
text_or_none None = []

abbrev pub text_at : List (Option Piece) → ℕ → Text
text_at pieces k = text_or_none (get_or pieces k None)

-- its verdict, if one does that has one
abbrev pub verdict_or_none : Option Piece → Option Verdict
verdict_or_none (Some piece) = piece.verdict
verdict_or_none None = None

abbrev pub verdict_at : List (Option Piece) → ℕ → Option Verdict
verdict_at pieces k = verdict_or_none (get_or pieces k None)

-- There are `count` places, none of them filled.
abbrev pub AreNone : ℕ → Vec (Option Piece) Global → Type 0
AreNone count pieces = (length pieces.items ≡ count) × ((k : ℕ) → get_or pieces.items k None ≡ None)

-- What stands at its place is the piece there, and the places are filled whose pieces are made by the machines of the first `signatures`
-- signatures.
pub record AreMade (Is : ℕ → Piece → Type 0) (made_by : ℕ → Option FuncId) (count signatures : ℕ) (pieces : List (Option Piece)) : Type 0
  where
    pub counted : length pieces ≡ count
    pub right : (k : ℕ) (piece : Piece) → get_or pieces k None ≡ Some piece → Is k piece
    pub filled : (k : ℕ) (f : FuncId) → k < count → made_by k ≡ Some f → f.place < signatures
        → (piece : Piece) × (get_or pieces k None ≡ Some piece)

-- The first `next` of these places are filled too.
pub record AreMadeTo (Is : ℕ → Piece → Type 0) (made_by : ℕ → Option FuncId) (count signatures : ℕ) (places : List ℕ) (next : ℕ)
    (pieces : List (Option Piece)) : Type 0 where
  pub before : AreMade Is made_by count signatures pieces
  pub here : (j : ℕ) → j < next → (piece : Piece) × (get_or pieces (get_or places j 0) None ≡ Some piece)

-- ---- minimised lists

-- the line that is kept, if one is
abbrev pub line_or_none : Option Text → Text
line_or_none (Some line) = line
line_or_none None = []

abbrev pub line_at : List (Option Text) → ℕ → Text
line_at lines k = line_or_none (get_or lines k None)

module _ (w : TextWorld) where
  -- This is the line of the signature's minimised list, or None where that is not wanted.
  abbrev pub IsLineKept : (ℕ → Bool) → FuncId → Option Text → Type 0
  IsLineKept wants f (Some line) = IsMinimisedLine w (signature_at w f) line
  IsLineKept wants f None = wants f.place ≡ false

  -- Each of these is the line of the minimised list of the signature at its place, or None where that is not wanted.
  abbrev pub AreLinesKept : (ℕ → Bool) → List (Option Text) → Type 0
  AreLinesKept wants all = (k : ℕ) (entry : Option Text) → slice_get all k ≡ Some entry → IsLineKept wants (record { place = k }) entry
