use Rattle.std.proofs.Common.{◌∷◌, [], map, refl}
use Rattle.swreq_valid.specs.Plans.{in_signature}
use Rattle.swreq_valid.proofs.Listing.{part_more, parts_all}
use Rattle.swreq_machine.proofs.machine.in_signature.Goals as goal

pub loop-k-preserved : goal.loop-k-preserved
loop-k-preserved c =
    part_more (map (in_signature c.args.params)) (λ r. in_signature c.args.params r ∷ []) refl (λ r rs. refl) c.args.list.now c.loop-k.k _
    c.loop-k.wanted.items c.push.new.self.items
    (map (in_signature c.args.params) c.args.list.now) c.loop-k-test.true c.in_ok-push.ensures.items c.loop-k.invariant

pub returns : goal.returns
returns c =
    parts_all (map (in_signature c.args.params)) (λ r. in_signature c.args.params r ∷ []) refl (λ r rs. refl) c.args.list.now c.loop-k.k
    c.loop-k.wanted.items (map (in_signature c.args.params) c.args.list.now) c.loop-k-test.false c.loop-k.invariant
