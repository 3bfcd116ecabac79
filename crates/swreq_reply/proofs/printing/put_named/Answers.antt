use Rattle.std.proofs.Common.{◌∙◌, ◌++◌, List, ap, append_assoc, codes, refl, subst, ℕ}
use Rattle.std.proofs.lemmas.Result.{on_ok_weaker}
use Rattle.swreq_query.specs.Signatures.{full_name}
use Rattle.swreq_valid.specs.swreq_world.Worlds.{signature_at}
use Rattle.swreq_check.specs.Made.{line_at}
use Rattle.swreq_valid.specs.swreq_symbols.Texts.{world_of}
use Rattle.swreq_reply.specs.Pieces.{IsWhole, MadeView}
use Rattle.swreq_reply.proofs.Printed.{list_at}
use Rattle.swreq_reply.proofs.printing.put_named.Goals as goal

pub returns : goal.returns
returns c =
    let m = c.args.m.now in
    let opened = c.m.view_is in
    let name = full_name (world_of m.text) (signature_at (world_of m.text) c.args.f) in
    let list = line_at m.lists c.args.f.place in
    on_ok_weaker c.append_bytes-2.result
    (λ e. (
      name ++ (codes ": " ++ list),
      (list, list_at m (subst IsWhole c.m.view_is c.m.invariant) c.requires.signatures c.args.f c.requires.f, refl),
      e ∙ ap (λ (t : List ℕ). c.append_bytes.new.out.items ++ t)
          (c.line_at.ensures ∙ ap (λ (z : MadeView). line_at z.lists c.args.f.place) opened)
          ∙ ap (λ (t : List ℕ). t ++ list)
          (c.in_ok-append_bytes.ensures.ok ∙ ap (λ (t : List ℕ). t ++ codes ": ") (c.in_ok-full_name.ensures.ok
          ∙ ap (λ (z : MadeView). c.args.out.now.items ++ full_name (world_of z.text) (signature_at (world_of z.text) c.args.f)) opened))
          ∙ append_assoc (c.args.out.now.items ++ name) (codes ": ") list ∙ append_assoc c.args.out.now.items name (codes ": " ++ list),
    ))
    c.append_bytes-2.ensures.ok
