-- The place of a pair of a protocol and a name.
use Rattle.std.proofs.Common.{◌≡◌, ℕ, List, get_or, slice_get, Option, Some, None, MatchOption, Contains, refl, sym, ap, subst, ◌∙◌, true≢false}
use Rattle.std.specs.List.{position}
use Rattle.std.specs.Option.{option_map}
use Rattle.std.proofs.lemmas.List.Quantifiers.{position-Some}
use Rattle.swreq_derive.specs.swreq_param.declared.ids.AssocId.{AssocId}
use Rattle.swreq_derive.specs.swreq_param.declared.ids.NameId.{NameId}
use Rattle.swreq_derive.specs.swreq_param.declared.ids.ProtoId.{ProtoId}
use Rattle.swreq_lexicon.specs.declared.pair.ProtocolName.{ProtocolName}
use Rattle.swreq_lexicon.specs.Lexicons.{pair, is_pair, assoc_at}
use Rattle.swreq_lexicon.proofs.PairKeys.{is_pair_itself, pair_same}
use Rattle.swreq_lexicon.proofs.Positions.{fails_all}
use Rattle.std.proofs.lemmas.Option.{slice_get-get_or}

pub by_place : (p : ProtoId) (a : NameId) (ds : List ProtocolName) (o : Option ℕ) → position (is_pair p a) ds ≡ o
    → MatchOption (option_map assoc_at o) (Contains ds (pair p a) → ⊥) (λ d. slice_get ds d.rank ≡ Some (pair p a))
by_place p a ds None h = λ c.
    true≢false (sym (is_pair_itself p a) ∙ ap (is_pair p a) (sym c.2) ∙ fails_all (is_pair p a) ds h c.0 (pair p a) c.1)
by_place p a ds (Some i) h =
    let s = position-Some (is_pair p a) ds i (pair p a) h in
    slice_get-get_or ds i (pair p a) s.0 ∙ ap Some (pair_same p a (get_or ds i (pair p a)) s.1)

pub declares_by : (p : ProtoId) (a : NameId) (ds : List ProtocolName) (r : Option AssocId)
    → r ≡ option_map assoc_at (position (is_pair p a) ds)
    → MatchOption r (Contains ds (pair p a) → ⊥) (λ d. slice_get ds d.rank ≡ Some (pair p a))
declares_by p a ds r e = subst (λ o. MatchOption o (Contains ds (pair p a) → ⊥) (λ d. slice_get ds d.rank ≡ Some (pair p a))) (sym e)
    (by_place p a ds (position (is_pair p a) ds) refl)
