use Rattle.std.proofs.Common.{◌≡◌, false, refl, true}
use Rattle.swreq_reqsig.proofs.Spoken.{place_within, says_found, unsaid_at_end, unsaid_further, unsaid_none}
use Rattle.swreq_reqsig.proofs.saying.is_said_in.Goals as goal

pub loop-at-init : goal.loop-at-init
loop-at-init c =
    let f = c.args.selection.now in
    unsaid_none f.setting.outlines.now f.flags.now c.args.places.now c.args.kind c.args.name c.args.marks.now

pub says_at-requires : goal.says_at-requires
says_at-requires c =
    let f = c.args.selection.now in
    place_within f.setting.outlines.now f.flags.now c.args.places.now c.requires c.loop-at.at _ c.loop-at-test.true

pub returns-then-says_at : goal.returns-then-says_at
returns-then-says_at c =
    let f = c.args.selection.now in (
      (λ t. says_found f.setting.outlines.now f.flags.now c.args.places.now c.requires c.loop-at.at _ c.loop-at-test.true c.args.kind
          c.args.name c.args.marks.now c.says_at.result c.says_at.ensures c.if-says_at.true),
      λ said. refl,
    )

pub loop-at-preserved : goal.loop-at-preserved
loop-at-preserved c =
    let f = c.args.selection.now in
    unsaid_further f.setting.outlines.now f.flags.now c.args.places.now c.requires c.loop-at.at _ c.loop-at-test.true c.args.kind
    c.args.name c.args.marks.now c.says_at.result c.says_at.ensures c.loop-at.invariant c.if-says_at.false

pub returns : goal.returns
returns c =
    let f = c.args.selection.now in (
      (λ t. absurd (let z : false ≡ true = t in cc)),
      λ said. absurd (unsaid_at_end f.setting.outlines.now f.flags.now c.args.places.now c.loop-at.at c.args.kind c.args.name
          c.args.marks.now c.loop-at-test.false c.loop-at.invariant said),
    )
