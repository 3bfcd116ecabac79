-- The fact that stands on a reader has one proof at most.
use Rattle.std.specs.Prelude.{◌≡◌, true, ◌∷◌, drop, get_or}
use Rattle.std.specs.List.{list_all}
use Rattle.std.proofs.Common.{◌∙◌, sym}
use Rattle.std.proofs.Props.{props}
use mathlib.Core.HLevel.{is_prop→PathP}
use Rattle.swreq_print.specs.swreq_lexicon.Views.{LexiconView}
use Rattle.swreq_print.specs.Names.{Text}
use Rattle.swreq_print.specs.Reading.{IsProper, TellsApart, in_name}

IsProper-prop : (t : Text) → IsProp (IsProper t)
IsProper-prop t v w =
    let e : v.first ∷ v.rest ≡ w.first ∷ w.rest = sym v.is ∙ w.is in
    λ i. record {
      first = get_or (e i) 0 0;
      rest = drop 1 (e i);
      is = is_prop→PathP (λ j. t ≡ get_or (e j) 0 0 ∷ drop 1 (e j)) (λ j. Prim.hlevel props) v.is w.is i;
      bytes = is_prop→PathP (λ j. list_all in_name t ≡ true) (λ j. Prim.hlevel props) v.bytes w.bytes i;
    }

pub TellsApart-prop : (x : LexiconView) → IsProp (TellsApart x)
TellsApart-prop x = Prim.hlevel (IsProper-prop, props)
