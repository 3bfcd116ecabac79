use Rattle.std.proofs.Common.{◌∙◌, ◌++◌, ◌+◌, List, None, Some, ap, set, subst, sym, ℕ}
use Rattle.std.proofs.lemmas.Option.{same_Some}
use Rattle.swreq_machine.specs.swreq_lowering.declared.ids.FuncId.{FuncId}
use Rattle.swreq_query.specs.Systems.{IsSystemText}
use Rattle.swreq_machine.specs.swreq_world.Worlds.{signature_at}
use Rattle.swreq_check.specs.declared.content.Made.{Made}
use Rattle.swreq_check.specs.declared.content.Made.TheVariants.{Systems}
use Rattle.swreq_check.specs.declared.piece.Piece.{Piece}
use Rattle.swreq_check.specs.Contents.{backing_of}
use Rattle.swreq_check.specs.Made.{AreMade, IsMadeAt}
use Rattle.swreq_check.specs.Settings.{world_in}
use Rattle.swreq_check.specs.Wanted.{made_by, places_of}
use Rattle.swreq_check.proofs.PiecesMade.{only_one}
use Rattle.swreq_check.proofs.making.put_system.Goals as goal

pub system_text-requires : goal.system_text-requires
system_text-requires c =
    let h = c.requires.own.machine in record { signature = h.signature; machine = h.machine; params = h.params }

pub returns : goal.returns
returns c =
    let w = world_in c.args.table.now c.args.own.now.s.now in
    let ids = c.args.own.now.s.now.world.now in
    let f = c.args.own.now.f in
    let b = backing_of c.args.own.now.s.now.content in
    let piece : Piece = record { text = c.new.result; verdict = None } in
    let (text, is, e) = c.in_ok-system_text.ensures.ok in
    subst (λ (a : Made).
    AreMade (IsMadeAt w a b) (made_by ids a) (places_of ids a) (f.place + 1) (set c.args.pieces.now.items f.place (Some piece)))
    (sym c.requires.systems)
    (only_one (IsMadeAt w Systems b) (made_by ids Systems) (places_of ids Systems) f.place c.args.pieces.now.items
    (subst (λ (a : Made). AreMade (IsMadeAt w a b) (made_by ids a) (places_of ids a) f.place c.args.pieces.now.items)
    c.requires.systems c.requires.pieces)
    f.place c.requires.own.machine.signature piece
    (subst (IsSystemText w (signature_at w f)) (sym (c.new.ensures ∙ e ∙ ap (λ (t : List ℕ). t ++ text) c.new-text.ensures.items)) is)
    (λ k g below by same. ap (λ (x : FuncId). x.place) (same_Some (record { place = k }) g by) ∙ same))
