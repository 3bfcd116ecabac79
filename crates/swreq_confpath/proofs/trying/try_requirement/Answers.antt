use Rattle.std.proofs.Common.{sym, subst}
use Rattle.std.proofs.lemmas.Result.{IfOk-weaker}
use Rattle.swreq_print.proofs.swreq_lemmas.Elements.{there_is}
use Rattle.swreq_machine.specs.swreq_derive.Instances.{HasNumber}
use Rattle.swreq_machine.proofs.swreq_derive.InstanceLemmas.{contains_number}
use Rattle.swreq_machine.specs.swreq_lexicon.Views.{IsProtocol}
use Rattle.swreq_machine.specs.swreq_symbols.Texts.{IsRequirementOfText, IsTypeOfText, term_of}
use Rattle.swreq_confpath.specs.Routes.{TermPlace, gone_on}
use Rattle.swreq_confpath.specs.Searches.{AimView, HasLeastWord, IsAim, IsPlaceIn, StandsFor, required_at, sought_in}
use Rattle.swreq_confpath.proofs.Requirements.{requirement_in}
use Rattle.swreq_confpath.proofs.Searching.{passed_by, set_aside_by, tried_by, within}
use Rattle.swreq_confpath.proofs.Standing.{place_least}
use Rattle.swreq_confpath.proofs.trying.try_requirement.Goals as goal

pub follow-requires-clause-subject : goal.follow-requires-clause-subject
follow-requires-clause-subject c =
    let s = c.args.aim.now.sought in
    let rs = required_at s.text.world.now s.list.now c.args.turn.from.now in
    let of = requirement_in s (subst IsAim c.aim.view_is c.aim.invariant).known c.args.turn.from.now c.args.requirement
    (contains_number c.args.number rs c.args.requirement c.requires.number) in
    let k = subst (IsRequirementOfText s.text) c.in-Conf.is of in
    subst (λ (a : AimView). IsTypeOfText a.sought.text c.in-Conf.subject) (sym c.aim.view_is) (k.0, k.1.0)

pub follow-requires-clause-proto : goal.follow-requires-clause-proto
follow-requires-clause-proto c =
    let s = c.args.aim.now.sought in
    let rs = required_at s.text.world.now s.list.now c.args.turn.from.now in
    let of = requirement_in s (subst IsAim c.aim.view_is c.aim.invariant).known c.args.turn.from.now c.args.requirement
    (contains_number c.args.number rs c.args.requirement c.requires.number) in
    let k = subst (IsRequirementOfText s.text) c.in-Conf.is of in
    subst (λ (a : AimView). IsProtocol a.sought.text.world.now.lexicon c.in-Conf.proto) (sym c.aim.view_is) k.1.1

pub follow-requires-clause-least : goal.follow-requires-clause-least
follow-requires-clause-least c =
    subst (λ (a : AimView). HasLeastWord a.sought c.args.turn.from.now) (sym c.aim.view_is)
    (place_least c.args.aim.now.sought c.args.turn.from.now c.requires.at.at.place c.requires.at.stands_at)

pub returns-then-has_parted : goal.returns-then-has_parted
returns-then-has_parted c =
    let a = c.args.aim.now in
    let s = a.sought in
    let is = subst IsAim c.aim.view_is c.aim.invariant in
    let rs = required_at s.text.world.now s.list.now c.args.turn.from.now in
    let number = subst (HasNumber c.args.number rs) c.in-Conf.is c.requires.number in
    let place = c.in_ok-place-in-Conf.place in
    set_aside_by s is.known c.args.tried.now c.args.turn.next c.args.turn.from.now a.target place c.args.number
    c.in-Conf.subject c.in-Conf.proto c.requires.at number is.target
    (subst (λ (z : AimView). IsPlaceIn z.sought.text.world.now place) c.aim.view_is c.in_ok-place-in-Conf.ensures.place)
    (subst (λ (z : AimView). (d : TermPlace) → StandsFor z.sought c.args.turn.from.now d
    → StandsFor z.sought place (gone_on d (term_of z.sought.text c.in-Conf.subject) c.in-Conf.proto)) c.aim.view_is
    c.in_ok-place-in-Conf.ensures.stands)
    (c.has_parted.ensures c.if-has_parted.true)

pub try_place-requires : goal.try_place-requires
try_place-requires c = within c.args.aim.now.sought c.args.tried.now c.args.turn.next c.args.turn.from.now _ c.requires.at

pub returns-else-has_parted : goal.returns-else-has_parted
returns-else-has_parted c =
    let a = c.args.aim.now in
    let s = a.sought in
    let is = subst IsAim c.aim.view_is c.aim.invariant in
    let spots = c.args.tried.now in
    let rs = required_at s.text.world.now s.list.now c.args.turn.from.now in
    let (x, there) = there_is spots c.args.turn.next (within s spots c.args.turn.next c.args.turn.from.now _ c.requires.at) in
    let number = subst (HasNumber c.args.number rs) c.in-Conf.is c.requires.number in
    let place = c.in_ok-place-in-Conf.place in
    IfOk-weaker c.try_place.result _ _
    (λ o k. tried_by s is.known spots c.try_place.new.tried c.args.turn.next c.args.turn.from.now c.aim.inside.target place c.args.number
    c.in-Conf.subject c.in-Conf.proto o c.requires.at number
    (subst (λ (z : AimView). StandsFor s z.target (sought_in s)) (sym c.aim.view_is) is.target)
    (subst (λ (z : AimView). IsPlaceIn z.sought.text.world.now place) c.aim.view_is c.in_ok-place-in-Conf.ensures.place)
    (subst (λ (z : AimView). (d : TermPlace) → StandsFor z.sought c.args.turn.from.now d
    → StandsFor z.sought place (gone_on d (term_of z.sought.text c.in-Conf.subject) c.in-Conf.proto)) c.aim.view_is
    c.in_ok-place-in-Conf.ensures.stands) x there k)
    (c.try_place.ensures x there)

pub returns-in_default : goal.returns-in_default
returns-in_default c =
    passed_by c.args.aim.now.sought (subst IsAim c.aim.view_is c.aim.invariant).known c.args.tried.now c.args.turn.next
    c.args.turn.from.now c.args.number c.args.requirement c.requires.at c.requires.number
    (λ t p e. c.in_default.not-Conf t p e)
