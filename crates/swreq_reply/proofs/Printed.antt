-- What stands at the place of a query or of a signature is what is printed there.
use Rattle.std.proofs.Common.{◌≡◌, ◌∙◌, refl, sym, ap, subst, ℕ, ◌<◌, arith, Bool, true, true≢false, List, get_or, length, Option, Some, None}
use Rattle.std.proofs.lemmas.List.{get_or-map, length-map}
use Rattle.std.proofs.lemmas.List.Elements.{Contains-get_or}
use Rattle.std.proofs.lemmas.Option.{none-some, slice_get-get_or}
use Rattle.swreq_print.specs.Names.{Text}
use Rattle.swreq_print.specs.swreq_lowering.declared.ids.FuncId.{FuncId}
use Rattle.swreq_print.specs.swreq_lowering.declared.ids.Asks.{Asks}
use Rattle.swreq_print.specs.swreq_lowering.declared.ids.Asks.TheVariants as ids
use Rattle.swreq_print.specs.swreq_lowering.declared.ids.Query.{Query}
use Rattle.swreq_print.specs.swreq_lowering.ByTable.{asks_by, query_by, no_query}
use Rattle.swreq_print.specs.swreq_lowering.Queries.{TermQuery}
use Rattle.swreq_print.specs.swreq_lowering.Queries.TermAsks.{AsksSignature}
use Rattle.swreq_query.specs.Signatures.{IsMinimisedLine}
use Rattle.swreq_query.specs.Systems.{IsSystemText}
use Rattle.swreq_query.specs.Answers.{Answer}
use Rattle.swreq_query.specs.Answers.Answer.{Invalid, Reduced}
use Rattle.swreq_query.specs.Asked.{answer_of}
use Rattle.swreq_valid.specs.swreq_world.ByTable.{signature_by}
use Rattle.swreq_valid.specs.swreq_world.Worlds.{TextWorld, signature_at}
use Rattle.swreq_check.specs.declared.content.Made.{Made}
use Rattle.swreq_check.specs.declared.content.Made.TheVariants.{Lines, Lists, Systems}
use Rattle.swreq_check.specs.declared.piece.Piece.{Piece}
use Rattle.swreq_check.specs.Contents.{AreAnswers, AreSignatures, AreSystems, backing_of, makes}
use Rattle.swreq_check.specs.Made.{AreLinesKept, AreMade, IsLineKept, IsMadeAt, line_at, line_or_none, text_at, text_or_none, verdict_at, verdict_or_none}
use Rattle.swreq_check.specs.QueryLines.{HasAnswer, HasVerdict, IsLineOf, IsLineWhere, IsPieceOf}
use Rattle.swreq_valid.specs.swreq_symbols.Texts.{world_of}
use Rattle.swreq_valid.proofs.swreq_symbols.OfTexts.{text_over}
use Rattle.swreq_reply.specs.Pieces.{IsWhole, MadeView, query_at}
use Rattle.swreq_check.specs.Wanted.{is_list_made, list_asked, list_where, machine_asked_at, machine_where, made_by, places_of}
use Rattle.swreq_check.proofs.Asking.{is_listed, listed_function}
use Rattle.swreq_check.proofs.Flags.{query_in}

-- ---- one piece

-- a list that is wanted is kept
kept_line : (w : TextWorld) (wants : ℕ → Bool) (lists : List (Option Text)) (f : FuncId) → AreLinesKept w wants lists
    → f.place < length lists
    → wants f.place ≡ true → IsMinimisedLine w (signature_at w f) (line_at lists f.place)
kept_line w wants lists f kept l wanted =
    by (get_or lists f.place None) (kept f.place (get_or lists f.place None) (slice_get-get_or lists f.place None l))
  where
    by : (entry : Option Text) → IsLineKept w wants f entry → IsMinimisedLine w (signature_at w f) (line_or_none entry)
    by (Some line) h = h
    by None h = absurd (true≢false (sym wanted ∙ h))

-- a query that asks for no minimised list is answered by the machine of its signature
asks_machine : (a : Asks) (f : FuncId) → list_where a f ≡ None → machine_where a f ≡ Some f
asks_machine ids.Signature f e = absurd (none-some f (sym e))
asks_machine _ f e = refl

-- and one that asks for a minimised list asks for that of its signature
asks_list : (a : Asks) (f g : FuncId) → list_where a f ≡ Some g → a ≡ ids.Signature
asks_list ids.Signature f g e = refl
asks_list _ f g e = absurd (none-some g e)

-- a query for a minimised list has no answer
no_answer : (w : TextWorld) (f : FuncId) (a : Answer) → HasAnswer w true a (record { f = f; asks = AsksSignature }) → ⊥
no_answer w f Invalid h = h.1
no_answer w f (Reduced u) h = let clash = h.1.1 in cc
no_answer w f _ h = let clash = h.1.1 in cc

-- ---- what is read of the pieces

module _ (read m : MadeView) (same : read ≡ m) where
  -- how many queries the text has
  pub queries_counted : (qs : List Query) → qs ≡ read.text.world.now.queries → length qs ≡ length (world_of m.text).queries
  queries_counted qs e =
      ap length (e ∙ ap (λ (z : MadeView). z.text.world.now.queries) same)
      ∙ sym (length-map m.text.world.now.queries (query_by m.text.table.now))

  -- how many signatures
  pub signatures_counted : (n : ℕ) → n ≡ length read.text.world.now.signatures → n ≡ length (world_of m.text).signatures
  signatures_counted n e =
      e ∙ ap (λ (z : MadeView). length z.text.world.now.signatures) same
      ∙ sym (length-map m.text.world.now.signatures (signature_by m.text.table.now))

  -- where systems are printed there is a piece for each signature
  pub systems_counted : IsWhole m → AreSystems m.content → length read.pieces ≡ length m.text.world.now.signatures
  systems_counted whole systems =
      ap (λ (z : MadeView). length z.pieces) same ∙ whole.pieces.counted ∙ ap (places_of m.text.world.now) systems

module _ (m : MadeView) (whole : IsWhole m) where
  -- what is made, where it is this
  pieces_of : (a : Made) → makes m.content ≡ a
      → AreMade (IsMadeAt (world_of m.text) a (backing_of m.content)) (made_by m.text.world.now a) (places_of m.text.world.now a)
      (length m.text.world.now.signatures) m.pieces
  pieces_of a e = subst (λ (b : Made).
      AreMade (IsMadeAt (world_of m.text) b (backing_of m.content)) (made_by m.text.world.now b) (places_of m.text.world.now b)
      (length m.text.world.now.signatures) m.pieces) e whole.pieces

  lists_of : (a : Made) → makes m.content ≡ a → AreLinesKept (world_of m.text) (is_list_made a m.text.world.now.queries) m.lists
  lists_of a e = subst (λ (b : Made). AreLinesKept (world_of m.text) (is_list_made b m.text.world.now.queries) m.lists) e whole.lists

  pub system_at : AreSystems m.content → (f : FuncId) → f.place < length m.text.world.now.signatures
      → IsSystemText (world_of m.text) (signature_at (world_of m.text) f) (text_at m.pieces f.place)
  system_at e f below =
      let found = (pieces_of Systems e).filled f.place f below refl below in
      subst (IsSystemText (world_of m.text) (signature_at (world_of m.text) f)) (sym (ap text_or_none found.1))
      ((pieces_of Systems e).right f.place found.0 found.1)

  pub list_at : AreSignatures m.content → (f : FuncId) → f.place < length m.text.world.now.signatures
      → IsMinimisedLine (world_of m.text) (signature_at (world_of m.text) f) (line_at m.lists f.place)
  list_at e f below = kept_line (world_of m.text) (is_list_made Lists m.text.world.now.queries) m.lists f (lists_of Lists e)
      (omega (arith, below, whole.counted)) refl

  -- ---- the answer to the query at a place

  module _ (e : AreAnswers m.content) (k : ℕ) (below : k < length m.text.world.now.queries) where
    abbrev pub asked : Query
    asked = get_or m.text.world.now.queries k no_query

    in_world : asked.f.place < length m.text.world.now.signatures
    in_world = (query_in m.text.world.now m.text.table.now (text_over m.text) asked (Contains-get_or m.text.world.now.queries k _ below)).0

    -- over type parameters
    over_types : query_at m k ≡ query_by m.text.table.now asked
    over_types = get_or-map (query_by m.text.table.now) m.text.world.now.queries k _ _ below

    -- by the minimised list for which it asks
    pub by_list : (f : FuncId) → list_asked asked ≡ Some f
        → (f.place < length m.lists) × IsLineOf (world_of m.text) true (backing_of m.content) (query_at m k) (line_at m.lists f.place)
    by_list f asks =
        let same : asked.f ≡ f = listed_function asked f asks in
        let is : asked.asks ≡ ids.Signature = asks_list asked.asks asked.f f asks in
        let within : f.place < length m.lists = omega (arith, in_world, whole.counted, ap (λ (h : FuncId). h.place) same) in
        let line = kept_line (world_of m.text) (is_list_made Lines m.text.world.now.queries) m.lists f (lists_of Lines e) within
        (ap (λ (h : FuncId). is_list_made Lines m.text.world.now.queries h.place) (sym same)
        ∙ is_listed m.text.world.now.queries asked (Contains-get_or m.text.world.now.queries k _ below) is) in (
          within,
          subst (λ (q : TermQuery). IsLineOf (world_of m.text) true (backing_of m.content) q (line_at m.lists f.place)) (sym over_types)
              (subst (λ (a : Asks). IsLineWhere (world_of m.text) true (asks_by m.text.table.now a) (backing_of m.content)
              (query_by m.text.table.now asked) (line_at m.lists f.place)) (sym is)
              (subst (λ (h : FuncId). IsMinimisedLine (world_of m.text) (signature_at (world_of m.text) h) (line_at m.lists f.place))
              (sym same) line)),
        )

    -- there is a place for a piece
    pub has_place : k < length m.pieces
    has_place = omega (arith, below, (pieces_of Lines e).counted)

    -- a piece at the place answers the query
    there : (piece : Piece) → get_or m.pieces k None ≡ Some piece
        → IsPieceOf (world_of m.text) true (backing_of m.content) (query_at m k) piece
    there piece found =
        let within : k < length (world_of m.text).queries =
        omega (arith, below, length-map m.text.world.now.queries (query_by m.text.table.now)) in
        (pieces_of Lines e).right k piece found (query_at m k) (slice_get-get_or (world_of m.text).queries k _ within)

    -- and there is one where no minimised list is asked for
    filled : list_asked asked ≡ None → (piece : Piece) × (get_or m.pieces k None ≡ Some piece)
    filled no_list =
        (pieces_of Lines e).filled k asked.f below
        (ap machine_asked_at (slice_get-get_or m.text.world.now.queries k _ below) ∙ asks_machine asked.asks asked.f no_list) in_world

    -- by the piece of a machine
    pub by_piece : list_asked asked ≡ None
        → IsLineOf (world_of m.text) true (backing_of m.content) (query_at m k) (text_at m.pieces k)
    by_piece no_list =
        let (piece, found) = filled no_list in
        subst (IsLineOf (world_of m.text) true (backing_of m.content) (query_at m k)) (sym (ap text_or_none found)) (there piece found).0

    -- the query that has an answer is answered by a machine
    by_machine : (a : Answer) → HasAnswer (world_of m.text) true a (query_at m k) → list_asked asked ≡ None
    by_machine a has = of asked.asks refl
      where
        of : (b : Asks) → asked.asks ≡ b → list_where b asked.f ≡ None
        of ids.Signature is =
            let same : query_at m k ≡ record { f = asked.f; asks = AsksSignature } =
            over_types ∙ ap (λ (b : Asks). let q : TermQuery = record { f = asked.f; asks = asks_by m.text.table.now b } in q) is in
            absurd (no_answer (world_of m.text) asked.f a (subst (HasAnswer (world_of m.text) true a) same has))
        of _ is = refl

    -- the verdict of the piece is that of the query
    pub verdict_there : HasVerdict (world_of m.text) true (verdict_at m.pieces k) (query_at m k)
    verdict_there = of (get_or m.pieces k None) refl
      where
        of : (entry : Option Piece) → get_or m.pieces k None ≡ entry
            → HasVerdict (world_of m.text) true (verdict_or_none entry) (query_at m k)
        of (Some piece) is = (there piece is).1
        of None is = λ v. (
          λ has. (let (piece, found) = filled (by_machine (answer_of v) has) in absurd (none-some piece (sym is ∙ found))),
          λ clash. absurd (none-some v clash),
        )
