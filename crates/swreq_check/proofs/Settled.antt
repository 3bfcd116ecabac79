-- A text and what is asked of its machines, while its table grows.
use Rattle.std.proofs.Common.{◌≡◌, ◌∙◌, sym, ap, subst, ℕ, ◌<◌, arith, List, Vec, Option, None, Some, Contains, get_or, length, slice_get, true}
use Rattle.std.specs.declared.alloc.Global.{Global}
use Rattle.std.proofs.lemmas.List.{get_or_default}
use Rattle.std.proofs.lemmas.Option.{slice_get-get_or}
use Rattle.swreq_machine.specs.swreq_param.Tables.{Extends}
use Rattle.swreq_machine.specs.swreq_param.Terms.{Term}
use Rattle.swreq_machine.specs.swreq_derive.WellFormed.{AreProtocolsWellFormed}
use Rattle.swreq_machine.specs.swreq_lowering.ByTable.{query_by}
use Rattle.swreq_machine.specs.swreq_lowering.declared.ids.FuncId.{FuncId}
use Rattle.swreq_machine.specs.swreq_lowering.declared.ids.Query.{Query}
use Rattle.swreq_machine.proofs.swreq_lemmas.Elements.{get_map}
use Rattle.swreq_machine.specs.swreq_symbols.Meaning.{facts_of}
use Rattle.swreq_machine.proofs.swreq_symbols.Growing.{text_stays, world_stays}
use Rattle.swreq_machine.specs.swreq_valid.Protocols.{AreRulesOf, protocols_of}
use Rattle.swreq_machine.specs.Machines.{IsMachineOf, MachineView}
use Rattle.swreq_machine.specs.OfSignatures.{signature_plan, signature_sides}
use Rattle.swreq_machine.specs.swreq_valid.Rounds.{AreRounds, last_rules}
use Rattle.swreq_machine.specs.swreq_valid.Sides.{HoldsOfEach, IsValidSide}
use Rattle.swreq_machine.specs.swreq_world.FactsAt.{written_list}
use Rattle.swreq_machine.specs.swreq_world.Worlds.{TextWorld, signature_at}
use Rattle.swreq_check.specs.declared.passed.Passed.{Passed}
use Rattle.swreq_check.specs.declared.setting.Means.{Means}
use Rattle.swreq_check.specs.declared.setting.Own.{Own}
use Rattle.swreq_check.specs.declared.setting.Setting.{Setting}
use Rattle.swreq_explain.specs.Histories.{IsHistoryFor}
use Rattle.swreq_explain.specs.declared.history.TextHistory.{TextHistory}
use Rattle.swreq_explain.proofs.Standing.{text_history_stays}
use Rattle.swreq_check.specs.declared.content.Made.{Made}
use Rattle.swreq_check.specs.declared.piece.Piece.{Piece}
use Rattle.swreq_check.specs.Made.{AreMade, IsMadeAt, IsPiece}
use Rattle.swreq_check.specs.Contents.{AreAnswers, backing_of}
use Rattle.swreq_check.specs.QueryLines.{IsPieceOf}
use Rattle.swreq_check.specs.Checks.{HavePassed}
use Rattle.swreq_check.specs.Passed.{HasPassed, rules_of}
use Rattle.swreq_check.specs.Settings.{AreMadeIn, AreMeansFor, HasBase, IsMachineFor, IsOwn, IsPlaceFor, IsReady, world_in}
use Rattle.swreq_check.proofs.Placed.{placed_in}
use Rattle.swreq_check.specs.Wanted.{count_of, machine_asked_at, made_by, maker, places_of}

module _ (old new : List Term) (s : Setting) (more : Extends old new) (ready : IsReady old s) where
  pub world_on : world_in new s ≡ world_in old s
  world_on = world_stays old new more s.world.now ready.text.table

  -- what holds of the world still does
  on : (P : TextWorld → Type 0) → P (world_in old s) → P (world_in new s)
  on P h = subst P (sym world_on) h

  -- what all histories have in common still is
  base_on : (base : Option TextHistory) → HasBase old s.world.now s.protocols.now s.content base
      → HasBase new s.world.now s.protocols.now s.content base
  base_on None h = h
  base_on (Some base) h = text_history_stays old new more s.world.now s.protocols.now base ready.text h

  pub ready_on : IsReady new s
  ready_on = record {
    text = text_stays old new more s.world.now ready.text;
    formed = on (λ w. AreProtocolsWellFormed (facts_of w)) ready.formed;
    rules = on (λ w. AreRulesOf w (last_rules s.protocols.now.rounds)) ready.rules;
    rounds = on (λ w. AreRounds s.limits (protocols_of w) s.protocols.now.rounds) ready.rounds;
    base = base_on s.base.now ready.base;
    endings = ready.endings;
  }

  pub machine_on : (f : FuncId) (m : MachineView) → IsMachineFor old s f m → IsMachineFor new s f m
  machine_on f m h = record {
    signature = h.signature;
    valid = on (λ w. HoldsOfEach (IsValidSide (facts_of w)) (signature_sides (signature_at w f))) h.valid;
    machine = on (λ w. IsMachineOf w (written_list (signature_at w f)) m) h.machine;
    params = on (λ w. m.params ≡ (signature_at w f).params) h.params;
    rounds = on (λ w. AreRounds s.limits (signature_plan w (last_rules s.protocols.now.rounds) (signature_at w f)) m.rounds) h.rounds;
  }

  -- the pieces are made in the one as in the other
  pub made_alike : (signatures : ℕ) (pieces : List (Option Piece)) → AreMadeIn new s signatures pieces ≡ AreMadeIn old s signatures pieces
  made_alike signatures pieces =
      ap (λ (w : TextWorld). AreMade (IsPiece w s.content) (maker s.world.now s.content) (count_of s.world.now s.content) signatures pieces)
      world_on

module _ (old new : List Term) (more : Extends old new) where
  pub own_on : (own : Own) → IsOwn old own → IsOwn new own
  own_on own h = record {
    ready = ready_on old new own.s.now more h.ready;
    machine = machine_on old new own.s.now more h.ready own.f own.machine.now h.machine;
  }

  pub means_on : (m : Means) → AreMeansFor old m → AreMeansFor new m
  means_on m h = record {
    own = own_on m.own h.own;
    map = h.map;
    history = λ e.
        (let (b, is, for) = h.history e in (b, is, on old new m.own.s.now more h.own.ready (λ w. IsHistoryFor w m.own.f b) for));
  }

  -- a text that has passed its check
  pub passed_on : (p : Passed) → HasPassed old p → HasPassed new p
  passed_on p h = record {
    text = text_stays old new more p.world.now h.text;
    passed = subst (λ (w : TextWorld). HavePassed p.limits w (rules_of p))
        (sym (world_stays old new more p.world.now h.text.table)) h.passed;
  }

-- ---- queries of a signature

-- one of the places of a signature is that of a query which asks it
pub place_for : (s : Setting) (f : FuncId) → AreAnswers s.content → f.place < length s.world.now.signatures
    → (d : Vec ℕ Global) (place : ℕ) → Contains (get_or s.places.now f.place d).items place → IsPlaceFor s f place
place_for s f content l d place has =
    let (counted, made) = ((placed_in s).each f d place l).0 has in
    let below : place < length s.world.now.queries = subst (λ (a : Made). place < places_of s.world.now a) content counted in
    let asks : machine_asked_at (slice_get s.world.now.queries place) ≡ Some f =
    subst (λ (a : Made). made_by s.world.now a place ≡ Some f) content made in record {
      below = below;
      query = λ q e. record {
        is = (place, below, sym e);
        asks = cc (ap machine_asked_at (slice_get-get_or s.world.now.queries place q below), asks, e);
      };
    }

-- where a signature has places, the text has queries
pub some_query : (s : Setting) (f : FuncId) → AreAnswers s.content → f.place < length s.world.now.signatures → (d : Vec ℕ Global)
    → 0 < length (get_or s.places.now f.place d).items → 0 < length s.world.now.queries
some_query s f answers l d some =
    let places = (get_or s.places.now f.place d).items in
    let first = get_or places 0 0 in
    let below = (place_for s f answers l d first (0, some, sym (get_or_default places 0 0 first some))).below in
    omega (arith, below)

-- all pieces that the machine of a signature makes have their places in its group
pub all_placed : (s : Setting) (f : FuncId) (d : Vec ℕ Global) → f.place < length s.world.now.signatures
    → (k : ℕ) (g : FuncId) → k < count_of s.world.now s.content → maker s.world.now s.content k ≡ Some g → g.place ≡ f.place
    → Contains (get_or s.places.now f.place d).items k
all_placed s f d l k g below by e =
    subst (λ (n : ℕ). Contains (get_or s.places.now n d).items k) e (((placed_in s).each g d k (omega (arith, l, e))).1 (below, by))

-- the answer to the query at a place is the piece there
pub piece_right : (terms : List Term) (s : Setting) → AreAnswers s.content → (place : ℕ) (q : Query) → place < length s.world.now.queries
    → q ≡ get_or s.world.now.queries place q → (piece : Piece)
    → IsPieceOf (world_in terms s) true (backing_of s.content) (query_by terms q) piece
    → IsPiece (world_in terms s) s.content place piece
piece_right terms s content place q below at piece is =
    let there =
    get_map (query_by terms) s.world.now.queries place q (slice_get-get_or s.world.now.queries place q below ∙ ap Some (sym at)) in
    subst (λ (a : Made). IsMadeAt (world_in terms s) a (backing_of s.content) place piece) (sym content)
    (λ t e. let same : query_by terms q ≡ t = cc (e, there) in
    subst (λ z. IsPieceOf (world_in terms s) true (backing_of s.content) z piece) same is)
