-- The pieces of a text, as they are printed.
use Rattle.std.specs.Prelude.{◌≡◌, ℕ, List, Option, get_or, length}
use Rattle.swreq_print.specs.Names.{Text as Bytes}
use Rattle.swreq_print.specs.swreq_lowering.ByTable.{no_query, query_by}
use Rattle.swreq_print.specs.swreq_lowering.Queries.{TermQuery}
use Rattle.swreq_valid.specs.swreq_symbols.declared.text.Text.{Text}
use Rattle.swreq_valid.specs.swreq_symbols.Texts.{world_of}
use Rattle.swreq_check.specs.declared.content.Content.{Content}
use Rattle.swreq_check.specs.declared.piece.Piece.{Piece}
use Rattle.swreq_check.specs.Contents.{PrintsPieces}
use Rattle.swreq_check.specs.Made.{AreLinesKept, AreMade, IsPiece}
use Rattle.swreq_check.specs.Wanted.{count_of, maker, wants_list}

-- what contracts see of what was made of a text
pub record MadeView : Type 0 where
  pub text : Text
  pub content : Content
  pub pieces : List (Option Piece)
  pub lists : List (Option Bytes)

abbrev pub view_of : Text → Content → List (Option Piece) → List (Option Bytes) → MadeView
view_of text content pieces lists = record { text = text; content = content; pieces = pieces; lists = lists }

-- the query at a place
abbrev pub query_at : MadeView → ℕ → TermQuery
query_at m k = get_or (world_of m.text).queries k (query_by m.text.table.now no_query)

-- Every piece of the content is made, by machines or as a minimised list.
pub record IsWhole (m : MadeView) : Type 0 where
  pub prints : PrintsPieces m.content
  pub pieces : AreMade (IsPiece (world_of m.text) m.content) (maker m.text.world.now m.content) (count_of m.text.world.now m.content)
      (length m.text.world.now.signatures)
      m.pieces
  pub lists : AreLinesKept (world_of m.text) (wants_list m.content m.text.world.now.queries) m.lists
  pub counted : length m.lists ≡ length m.text.world.now.signatures
