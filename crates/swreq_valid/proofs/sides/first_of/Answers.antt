use Rattle.std.proofs.Common.{refl}
use Rattle.swreq_symbols.specs.Texts.{world_of}
use Rattle.swreq_valid.specs.Plans.{within}
use Rattle.swreq_valid.specs.Sides.{IsShownIn}
use Rattle.swreq_valid.proofs.FirstSide.{of_alone, of_left, of_right}
use Rattle.swreq_valid.proofs.sides.first_of.Goals as goal

pub returns-in-Conf : goal.returns-in-Conf
returns-in-Conf c rs =
    let x = c.args.reading.now in
    of_alone (IsShownIn (world_of x.text) x.rules.now) x.text.table.now (within rs x.over) c.args.written.now
    c.fails_at.result _ c.in-Conf.subject c.in-Conf.is refl (c.fails_at.ensures rs)

pub returns-in-Layout : goal.returns-in-Layout
returns-in-Layout c rs =
    let x = c.args.reading.now in
    of_alone (IsShownIn (world_of x.text) x.rules.now) x.text.table.now (within rs x.over) c.args.written.now
    c.fails_at-in-Layout.result _ c.in-Layout.subject c.in-Layout.is refl (c.fails_at-in-Layout.ensures rs)

pub returns-in-Some : goal.returns-in-Some
returns-in-Some c rs =
    let x = c.args.reading.now in
    of_left (IsShownIn (world_of x.text) x.rules.now) x.text.table.now (within rs x.over) c.args.written.now
    c.in-Same.left c.in-Same.right c.in-Same.is c.in_ok-at-in-Same.field-0 (c.in_ok-at-in-Same.ensures rs) c.in-Some.at c.in-Some.is

pub returns-in-None : goal.returns-in-None
returns-in-None c rs =
    let x = c.args.reading.now in
    of_right (IsShownIn (world_of x.text) x.rules.now) x.text.table.now (within rs x.over) c.args.written.now
    c.in-Same.left c.in-Same.right c.in-Same.is c.in_ok-at-in-Same.field-0 (c.in_ok-at-in-Same.ensures rs)
    c.fails_at-in-None.result c.in-None.is (c.fails_at-in-None.ensures rs)
