-- The symbols and facts of a world.
use Rattle.std.proofs.Common.{◌<◌, ◌≤◌, List, [], length, map, Contains, inl, inr, ap, sym, subst, subst₂, ◌∙◌, arith}
use Rattle.std.specs.List.{All}
use Rattle.std.proofs.lemmas.Bool.{cases_lt}
use Rattle.std.proofs.lemmas.List.{get_or_past}
use Rattle.std.proofs.lemmas.List.Elements.{All-contains, All-get_or, All-map, All-weaker}
use Rattle.std.proofs.lemmas.Option.{same_Some}
use Rattle.swreq_correspondence.specs.swreq_param.declared.ids.ParamId.{ParamId}
use Rattle.swreq_correspondence.specs.swreq_param.declared.ids.ProtoId.{ProtoId}
use Rattle.swreq_correspondence.specs.swreq_derive.Derivation.{TermRequirement}
use Rattle.swreq_correspondence.specs.swreq_derive.Derivation.Source.{Written}
use Rattle.swreq_correspondence.specs.swreq_derive.Derivation.TermRequirement.{Conforms}
use Rattle.swreq_complete.proofs.swreq_lemmas.Members.{no_member}
use Rattle.swreq_world.specs.swreq_lexicon.declared.pair.ProtocolName.{ProtocolName}
use Rattle.swreq_world.specs.swreq_lexicon.Lexicons.{pair}
use Rattle.swreq_world.specs.swreq_lexicon.Views.{LexiconView, IsProtocol}
use Rattle.swreq_correspondence.specs.Symbols.{AreOfText, AreSymbolsOf, IsInText}
use Rattle.swreq_correspondence.specs.Types.{AreRanked}
use Rattle.swreq_world.specs.swreq_lowering.Requirements.{PlacedRequirement}
use Rattle.swreq_world.specs.Closed.{AreIds, IsClosed, IsOfProtocol, IsRequirementOf}
use Rattle.swreq_world.specs.Worlds.{TextWorld, requirements_of}
use Rattle.swreq_symbols.specs.Meaning.{facts_of, symbols_of}
use Rattle.swreq_complete.proofs.swreq_lemmas.Elements.{get_contains}
use Rattle.swreq_symbols.proofs.Declared.{at_rank, is_rank, member_is, of_rank, symbol_at}

pub symbols_law : (w : TextWorld) → IsClosed w → AreSymbolsOf (symbols_of w.lexicon) (facts_of w)
symbols_law w closed = λ p a d c.
    let s = symbol_at w.lexicon p a d closed.ids c in
    let e = member_is w.lexicon ((symbols_of w.lexicon).rank_of d) (pair p a) s in
    (is_rank w.lexicon ((symbols_of w.lexicon).rank_of d) (pair p a) s, ap (λ z. z.proto) e, ap (λ z. z.name) e)

-- ---- what protocols require

-- a requirement of a protocol is written in it, and the protocol is of the text
record IsWritten (w : TextWorld) (p : ProtoId) (r : TermRequirement) : Type 0 where
  pub proto : IsProtocol w.lexicon p
  pub requirement : IsRequirementOf w.lexicon r

written : (w : TextWorld) → IsClosed w → (p : ProtoId) (r : TermRequirement) → Contains ((facts_of w).of_protocol p) r → IsWritten w p r
written w closed p r c = elim (cases_lt p.rank (length w.requirements)) [
  | inl l ↦ record {
    proto = subst (λ n. p.rank < n) closed.protocols l;
    requirement =
        among (requirements_of w p) (All-get_or (λ z. All (IsOfProtocol w.lexicon) z) w.requirements p.rank [] l closed.requirements) c;
  }
  | inr l ↦
      no_member r (subst (λ z. Contains (map (λ (q : PlacedRequirement). q.requirement) z) r) (get_or_past w.requirements p.rank [] l) c)
]
  where
    among : (rs : List PlacedRequirement) → All (IsOfProtocol w.lexicon) rs → Contains (map (λ (q : PlacedRequirement). q.requirement) rs) r
        → IsRequirementOf w.lexicon r
    among rs all k =
        let each = All-weaker (IsOfProtocol w.lexicon) (λ q. IsRequirementOf w.lexicon q.requirement) (λ q h. h.0) rs all in
        All-contains (IsRequirementOf w.lexicon) (map (λ (q : PlacedRequirement). q.requirement) rs) r
        (All-map (IsRequirementOf w.lexicon) (λ (q : PlacedRequirement). q.requirement) rs each) k

pub text_law : (w : TextWorld) → IsClosed w → AreOfText (symbols_of w.lexicon) (facts_of w)
text_law w closed = record {
  owners = λ p r c. (closed.ids.written_order p).1 (written w closed p r c).proto;
  members = λ k l.
      let (d, e) = of_rank w.lexicon k l in
      let is = (closed.ids.symbols d.proto d.name).0 (get_contains w.lexicon.symbols k d e) in
      subst (λ z. Contains w.lexicon.written_order z) (sym (ap (λ z. z.proto) (member_is w.lexicon k d e)))
      ((closed.ids.written_order d.proto).1 is.0);
  protocols = λ p t q c. (closed.ids.written_order q).1 (written w closed p (Conforms t q) c).requirement.1;
}

-- ---- ranks

pub ranks_law : (w : TextWorld) → IsClosed w → AreRanked (symbols_of w.lexicon) (facts_of w)
ranks_law w closed = record {
  one_name = λ p a q b d c k.
      ap (λ (z : ProtocolName). z.name) (same_Some (pair p a) (pair q b) (sym (at_rank w.lexicon p a d c) ∙ at_rank w.lexicon q b d k));
  assocs = λ p a d q b e c k l. elim (cases_lt b.rank a.rank) [
    | inl h ↦ (let o = closed.ids.associated_by_name e.rank d.rank (pair q b) (pair p a) (at_rank w.lexicon q b e k)
        (at_rank w.lexicon p a d c) h in absurd (omega (arith, o, l)))
    | inr h ↦ h
  ];
  symbols = λ k j l is.
      let (e, g) = of_rank w.lexicon j is in
      let (d, f) = of_rank w.lexicon k (omega (arith, l, is)) in
      let a = ap (λ z. z.name.rank) (member_is w.lexicon k d f) in
      let b = ap (λ z. z.name.rank) (member_is w.lexicon j e g) in
      subst₂ (λ m n. m ≤ n) (sym a) (sym b) (elim (cases_lt e.name.rank d.name.rank) [
        | inl h ↦ (let o = closed.ids.symbols_by_name j k e d g f h in absurd (omega (arith, o, l)))
        | inr h ↦ h
      ]);
}

pub list_law : (x : LexiconView) → AreIds x → (gs : List ParamId) (rs : List TermRequirement) → All (IsRequirementOf x) rs
    → IsInText (symbols_of x) (Written gs rs)
list_law x ids gs rs all = λ t p c. (ids.written_order p).1 (All-contains (IsRequirementOf x) rs (Conforms t p) all c).1
