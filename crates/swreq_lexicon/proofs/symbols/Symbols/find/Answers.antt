use Rattle.std.proofs.Common.{◌≡◌, ◌∙◌, ◌+◌, ◌^◌, ◌<◌, ◌≤◌, ℕ, Bool, Option, MatchOption, length, get_or, take, slice_get, Some, Contains, ap, sym, subst, arith, true}
use Rattle.std.proofs.lemmas.Option.{slice_get_within}
use Rattle.swreq_closure.specs.Bits as sets
use Rattle.swreq_closure.specs.Bits.{count_below}
use Rattle.swreq_derive.specs.swreq_param.declared.ids.NameId.{NameId}
use Rattle.swreq_derive.specs.swreq_param.declared.ids.ProtoId.{ProtoId}
use Rattle.swreq_lexicon.specs.Lexicons.{pair}
use Rattle.swreq_lexicon.specs.Symbols.{has_member, having, row_of, symbols_below, AreRows, AreStarts, SymbolsView}
use Rattle.swreq_lexicon.specs.Views.{inherits_by}
use Rattle.swreq_lexicon.proofs.Rows.{counted}
use Rattle.swreq_lexicon.proofs.SymbolRanks.{rank_found, rank_nowhere, rank_not_had, rank_past, rank_fits}
use Rattle.swreq_lexicon.proofs.SymbolRanks.{start_is as symbols_start}
use Rattle.swreq_lexicon.proofs.symbols.Symbols.find.Goals as goal
use Rattle.swreq_lexicon.proofs.symbols.Symbols.find.Goals.{else-name-names-via-then-name-names+else-has, else-name-names-via-else-name-names}

-- The rank, by what is read in the table: the protocol at its place, where the name begins, and how many have it before the place.
module _ {read view : SymbolsView} (same : read ≡ view) (has : ProtoId → NameId → Bool) (names : ℕ)
    (starts : AreStarts view.order has names view.starts) (rows : AreRows view.order has view.rows) (p : ProtoId) (a : NameId)
    (below : a.rank < names) (place start before : ℕ) (stands : slice_get read.order place ≡ Some p)
    (start_is : start ≡ get_or read.starts a.rank start) (before_is : before ≡ count_below (sets.has (row_of read.rows a)) place) where
  placed : slice_get view.order place ≡ Some p
  placed = ap (λ (v : SymbolsView). slice_get v.order place) (sym same) ∙ stands

  begins : start ≡ length (symbols_below view.order has a.rank)
  begins =
      start_is ∙ ap (λ (v : SymbolsView). get_or v.starts a.rank start) same
      ∙ symbols_start view.order has names view.starts starts a.rank start (omega (arith, below))

  earlier : before ≡ length (having (take place view.order) has a)
  earlier =
      let within = slice_get_within view.order place p placed in
      before_is ∙ ap (λ (v : SymbolsView). count_below (sets.has (row_of v.rows a)) place) same
      ∙ counted view.order has view.rows rows a place (omega (arith, within))

  fits : names ≤ 1048576 → length view.order ≤ 1048576 → start + before < 2 ^ 64
  fits small few = rank_fits view.order has names p a place start before placed below small few begins earlier

  found : has p a ≡ true → slice_get (symbols_below view.order has names) (start + before) ≡ Some (pair p a)
  found e =
      (λ i. slice_get (symbols_below view.order has names) (begins i + earlier i))
      ∙ rank_found view.order has names p a place placed below e

pub has-requires : goal.has-requires
has-requires c =
    let has = has_member (inherits_by c.args.protocols.now.places c.args.protocols.now.resolved.inherits) c.args.associated.now in
    subst (λ (v : SymbolsView). AreRows v.order has v.rows) (sym c.self.view_is) c.requires.rows

pub overflow_add-result : goal.overflow_add-result
overflow_add-result c =
    let bound = fits c.self.view_is
    (has_member (inherits_by c.args.protocols.now.places c.args.protocols.now.resolved.inherits) c.args.associated.now)
    c.args.names c.requires.starts c.requires.rows c.args.protocol c.args.name c.if-name-names.true c.in_ok-place.place
    c.index.result.now c.count_before-before.result c.in_ok-place.ensures.0 c.index.ensures c.count_before-before.ensures
    c.requires.names c.requires.few in
    omega (arith, bound)

pub returns-in_ok-place : goal.returns-in_ok-place
returns-in_ok-place c =
    found c.self.view_is
    (has_member (inherits_by c.args.protocols.now.places c.args.protocols.now.resolved.inherits) c.args.associated.now)
    c.args.names c.requires.starts c.requires.rows c.args.protocol c.args.name c.if-name-names.true c.in_ok-place.place
    c.index.result.now c.count_before-before.result c.in_ok-place.ensures.0 c.index.ensures c.count_before-before.ensures
    (sym c.has.ensures ∙ c.if-has.true)

pub returns-in_err-place : goal.returns-in_err-place
returns-in_err-place c =
    let has = has_member (inherits_by c.args.protocols.now.places c.args.protocols.now.resolved.inherits) c.args.associated.now in
    let order = c.args.self.now.order in
    let symbols = symbols_below order has c.args.names in
    let wanted = pair c.args.protocol c.args.name in
    subst (λ (rank : Option ℕ). MatchOption rank (Contains symbols wanted → ⊥) (λ m. slice_get symbols m ≡ Some wanted))
    (sym c.from_residual.ensures)
    (rank_nowhere order has c.args.names c.args.protocol c.args.name
    (subst (λ (v : SymbolsView). Contains v.order c.args.protocol → ⊥) c.self.view_is c.in_err-place.ensures))

pub returns-else-name-names : goal.returns-else-name-names
returns-else-name-names c s =
    let has = has_member (inherits_by c.args.protocols.now.places c.args.protocols.now.resolved.inherits) c.args.associated.now in
    elim c.else-name-names.branch [
      | else-name-names-via-then-name-names+else-has w ↦
          rank_not_had c.args.self.now.order has c.args.names c.args.protocol c.args.name (sym w.has.ensures ∙ w.if-has.false) s
      | else-name-names-via-else-name-names w ↦
          rank_past c.args.self.now.order has c.args.names c.args.protocol c.args.name w.if-name-names.false s
    ]
