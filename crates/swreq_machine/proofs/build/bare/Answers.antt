use Rattle.std.proofs.Common.{◌∷◌, [], refl}
use Rattle.swreq_valid.specs.Plans.{bare}
use Rattle.swreq_valid.proofs.Listing.{part_more, parts_all}
use Rattle.swreq_machine.proofs.build.bare.Goals as goal

pub loop-k-preserved : goal.loop-k-preserved
loop-k-preserved c =
    part_more bare (λ r. r.requirement ∷ []) refl (λ r rs. refl) c.args.written.now c.loop-k.k _ c.loop-k.list.items c.push.new.self.items
    (bare c.args.written.now)
    c.loop-k-test.true c.in_ok-push.ensures.items c.loop-k.invariant

pub returns : goal.returns
returns c =
    parts_all bare (λ r. r.requirement ∷ []) refl (λ r rs. refl) c.args.written.now c.loop-k.k c.loop-k.list.items
    (bare c.args.written.now) c.loop-k-test.false c.loop-k.invariant
