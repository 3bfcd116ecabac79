-- What look-ups by names find.
use Rattle.std.proofs.Common.{◌≡◌, ℕ, List, [], ◌∷◌, Option, Some, map, refl, sym, ap, ◌∙◌}
use Rattle.std.specs.Option.{option_map}
use Rattle.swreq_lexicon.specs.swreq_names.declared.signature.Signature.{Signature}
use Rattle.swreq_lexicon.specs.swreq_names.Names.{NamesView}
use Rattle.swreq_lowering.specs.declared.ids.FuncId.{FuncId}
use Rattle.swreq_lowering.specs.Signatures.{func_id}
use Rattle.swreq_world.specs.declared.entry.Entry.{Entry}
use Rattle.swreq_world.specs.Entries.{entry_view}
use Rattle.swreq_lowering.specs.Queries.{signature_named}
use Rattle.swreq_world.specs.Lookups.{func_named, order_of}
use Rattle.swreq_world.specs.Worlds.{IdWorld}

order_of_entries : (all es : List Entry) → map (λ e. e.signature) es ≡ map (λ g. g.signature) (map (entry_view all) es)
order_of_entries all [] = refl
order_of_entries all (e ∷ es) = ap (λ gs. e.signature ∷ gs) (order_of_entries all es)

pub found : (v w : IdWorld) (es : List Entry) (order : List Signature) (n : NamesView) (outer : Option (List ℕ)) (name : List ℕ)
    (g : Signature) (f : FuncId) → v ≡ w → v.signatures ≡ map (entry_view es) es
    → f ≡ func_id order g → order ≡ map (λ e. e.signature) es → n ≡ v.lexicon.resolved → signature_named n.declared outer name ≡ Some g
    → Some f ≡ func_named w outer name
found v w es order n outer name g f e s p q r is =
    let standing : order ≡ order_of w = q ∙ order_of_entries es es ∙ sym (ap (map (λ h. h.signature)) s) ∙ ap order_of e in
    let names : n ≡ w.lexicon.resolved = r ∙ ap (λ (u : IdWorld). u.lexicon.resolved) e in
    ap Some (p ∙ ap (λ (gs : List Signature). func_id gs g) standing)
    ∙ sym (ap (option_map (func_id (order_of w))) (ap (λ (m : NamesView). signature_named m.declared outer name) (sym names) ∙ is))
