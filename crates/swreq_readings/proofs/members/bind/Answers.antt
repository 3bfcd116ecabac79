use Rattle.std.proofs.Common.{◌≡◌, sym, ap, ap₂, ◌∙◌}
use Rattle.swreq_derive.specs.swreq_param.declared.ids.{AssocId.{AssocId}, Step.TheVariants.{Bound, Name}, TermId.{TermId}}
use Rattle.swreq_derive.specs.{swreq_param.{Tables.{IsOf, term_at}, Terms.{Term, Term.{Member}}}, Derivation.{Declares}}
use Rattle.swreq_derivation.specs.{declared.derivation.Derivation.{Derivation}, UnderWay.{AddsLines, Assumptions, IsIdOfMember}}
use Rattle.swreq_derivation.proofs.DerivationLemmas.{continues_anyway, continues_if, continues_then, grows_then}
use Rattle.swreq_readings.specs.{declared.alphabet.Alphabet.{Alphabet}, Alphabets.{Fits}, Readable.{IsGiven}}
use Rattle.swreq_readings.proofs.ReadingLemmas.{equal_as, equal_ids_now, equal_ids_still, is_still, term_still}
use Rattle.swreq_world.specs.swreq_lexicon.declared.pair.ProtocolName.{ProtocolName}
use Rattle.swreq_readings.proofs.members.bind.Goals as goal

pub add_trans-requires-clause-first : goal.add_trans-requires-clause-first
add_trans-requires-clause-first c =
    let g1 = c.in_ok-bound.ensures.continues.grows in
    let g2 = c.in_ok-add_same_bound.ensures.continues.grows in
    equal_ids_now _ _ c.in_ok-add_assoc_bind.ensures.continues.grows c.in_ok-bound.bound c.args.members.0
    (is_still _ _ g2 c.in_ok-bound.bound c.in_ok-bound.ensures.is_of)
    (is_still _ _ (grows_then g1 g2) c.args.members.0 c.requires.plain.0) c.in_ok-add_assoc_bind.ensures.equal

pub add_trans-requires-clause-second : goal.add_trans-requires-clause-second
add_trans-requires-clause-second c =
    let g12 = grows_then c.in_ok-bound.ensures.continues.grows c.in_ok-add_same_bound.ensures.continues.grows in
    equal_ids_still _ _ (grows_then g12 c.in_ok-add_assoc_bind.ensures.continues.grows) c.args.members.0 c.args.members.1 c.requires.members

pub returns-clause-equal : goal.returns-clause-equal
returns-clause-equal c =
    let g23 = grows_then c.in_ok-add_same_bound.ensures.continues.grows c.in_ok-add_assoc_bind.ensures.continues.grows in
    equal_as c.add_trans.new.derivation _ _ _ _
    (sym (term_still _ _ g23 c.in_ok-bound.bound c.in_ok-bound.ensures.is_of ∙ c.in_ok-bound.ensures.stands))
    (sym (term_still _ _ (grows_then c.in_ok-bound.ensures.continues.grows g23) c.args.members.1 c.requires.members.1))
    c.in_ok-add_trans.ensures.equal

-- The protocol declares the associated type, and the members are those of T.
bound : (g : Alphabet) (s m n : Derivation) → AddsLines s m → AddsLines m n → (t : TermId) (v : Term) (a : AssocId) (p : ProtocolName)
    (b q : TermId) → IsOf s.table t → IsGiven g s v (Bound a) p → IsOf m.table b → term_at m.table b ≡ Member (term_at s.table t) (Bound a)
    → IsIdOfMember s t (Name p.name) q → (under : Assumptions) → Fits g under
    → (d : AssocId) × Declares under.facts p.proto p.name d × (term_at n.table b ≡ Member (term_at n.table t) (Bound d))
    × (term_at n.table q ≡ Member (term_at n.table t) (Name p.name))
bound g s m n f h t v a p b q of given of_b is_b plain under fits =
    let same : a ≡ record { rank = given.0 } = λ i. record { rank = given.1.1 i } in
    let now = sym (term_still s n (grows_then f h) t of) in (
      record { rank = given.0 },
      fits.associated given.0 p given.1.0,
      term_still m n h b of_b ∙ is_b ∙ ap₂ (λ z (y : AssocId). Member z (Bound y)) now same,
      term_still s n (grows_then f h) q plain.0 ∙ plain.1 ∙ ap (λ z. Member z (Name p.name)) now,
    )

pub returns-clause-continues : goal.returns-clause-continues
returns-clause-continues c =
    let one = c.in_ok-bound.ensures in
    let two = c.in_ok-add_same_bound.ensures.continues in
    let fits = bound c.args.alphabet.now _ _ _ one.continues.grows two.grows c.args.sides.0 _ c.args.assoc c.args.named _ _
    c.requires.sides.0 c.requires.given one.is_of one.stands c.requires.plain in
    continues_then (continues_then (continues_anyway (continues_then one.continues two))
    (continues_if fits c.in_ok-add_assoc_bind.ensures.continues)) (continues_anyway c.in_ok-add_trans.ensures.continues)

pub returns-in_err-add_same_bound-clause-continues : goal.returns-in_err-add_same_bound-clause-continues
returns-in_err-add_same_bound-clause-continues c =
    continues_anyway (continues_then c.in_ok-bound.ensures.continues c.in_err-add_same_bound.ensures.continues)

pub returns-in_err-add_assoc_bind-clause-continues : goal.returns-in_err-add_assoc_bind-clause-continues
returns-in_err-add_assoc_bind-clause-continues c =
    let one = c.in_ok-bound.ensures in
    let two = c.in_ok-add_same_bound.ensures.continues in
    let fits = bound c.args.alphabet.now _ _ _ one.continues.grows two.grows c.args.sides.0 _ c.args.assoc c.args.named _ _
    c.requires.sides.0 c.requires.given one.is_of one.stands c.requires.plain in
    continues_then (continues_anyway (continues_then one.continues two)) (continues_if fits c.in_err-add_assoc_bind.ensures.continues)

pub returns-in_err-add_trans-clause-continues : goal.returns-in_err-add_trans-clause-continues
returns-in_err-add_trans-clause-continues c =
    let one = c.in_ok-bound.ensures in
    let two = c.in_ok-add_same_bound.ensures.continues in
    let fits = bound c.args.alphabet.now _ _ _ one.continues.grows two.grows c.args.sides.0 _ c.args.assoc c.args.named _ _
    c.requires.sides.0 c.requires.given one.is_of one.stands c.requires.plain in
    continues_then (continues_then (continues_anyway (continues_then one.continues two))
    (continues_if fits c.in_ok-add_assoc_bind.ensures.continues)) (continues_anyway c.in_err-add_trans.ensures.continues)
