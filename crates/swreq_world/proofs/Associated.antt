-- The associated type of a declared pair.
use Rattle.std.proofs.Common.{◌≡◌, List, Option, Some, None, slice_get}
use Rattle.std.proofs.lemmas.Option.{slice_get_within, get_or_from_slice_get}
use Rattle.std.specs.List.{Contains}
use Rattle.std.specs.Option.{MatchOption}
use Rattle.swreq_param.specs.declared.ids.AssocId.{AssocId}
use Rattle.swreq_param.specs.declared.ids.NameId.{NameId}
use Rattle.swreq_param.specs.declared.ids.ProtoId.{ProtoId}
use Rattle.swreq_lexicon.specs.declared.pair.ProtocolName.{ProtocolName}
use Rattle.swreq_lexicon.specs.Lexicons.{pair, associated_types}
use Rattle.swreq_lexicon.proofs.RankLaws.{ranked}

pub declared_by : (ds : List ProtocolName) (p : ProtoId) (a : NameId) (r : Option AssocId)
    → MatchOption r (Contains ds (pair p a) → ⊥) (λ d. slice_get ds d.rank ≡ Some (pair p a))
    → MatchOption r ((d : AssocId) → Contains (associated_types ds) (record { proto = p; name = a; assoc = d }) → ⊥)
    (λ d. Contains (associated_types ds) (record { proto = p; name = a; assoc = d }))
declared_by ds p a None h = λ d k.
    let e = (ranked ds (record { proto = p; name = a; assoc = d })).0 k in
    h (d.rank, slice_get_within ds d.rank (pair p a) e, get_or_from_slice_get ds d.rank (pair p a) (pair p a) e)
declared_by ds p a (Some d) h = (ranked ds (record { proto = p; name = a; assoc = d })).1 h
