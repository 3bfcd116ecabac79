use Rattle.std.proofs.Common.{◌≡◌, Option, List, [], map, take, ◌+◌, sym, subst}
use Rattle.std.specs.Option.{option_map}
use Rattle.std.proofs.lemmas.List.{take_all}
use Rattle.swreq_resolve.specs.swreq_decl.declared.skeleton.TypeDecl.{TypeDecl}
use Rattle.swreq_machine.specs.swreq_param.Tables.{term_at}
use Rattle.swreq_machine.specs.swreq_param.Terms.{Term}
use Rattle.swreq_print.proofs.swreq_param.Growing.{onward}
use Rattle.swreq_resolve.specs.RefusedTypes.{of_type_on}
use Rattle.swreq_machine.specs.swreq_world.Worlds.{signature_at}
use Rattle.swreq_subst.specs.Calls.{IsArgumentIn}
use Rattle.swreq_subst.specs.Refusals.{declared}
use Rattle.swreq_subst.specs.Saying.{OneByOne, SaysArgument}
use Rattle.swreq_subst.proofs.Named.{known_next, meant_next, next_one}
use Rattle.swreq_subst.proofs.Staying.{arguments_in_stay, arguments_stay}
use Rattle.swreq_subst.proofs.resolving.types_of.Goals as goal

pub type_of-requires-clause-resolves : goal.type_of-requires-clause-resolves
type_of-requires-clause-resolves c =
    let w = c.args.words.now.world.now in
    subst (λ (t : TypeDecl). of_type_on (declared w) (signature_at w c.args.f).signature c.args.words.now.text.now t ≡ [])
    (sym c.index-types-k.is)
    (c.requires.resolve c.loop-k.k c.index-types-k.result c.loop-k-test.true)

pub loop-k-preserved : goal.loop-k-preserved
loop-k-preserved c =
    let first = c.args.table.now in
    let old = c.loop-k.table in
    let new = c.type_of.new.table in
    let w = c.args.words.now.world.now in
    let text = c.args.words.now.text.now in
    let i = c.loop-k.invariant in
    let more = c.type_of.ensures.extends in
    let found = c.loop-k.found.items in
    let a = c.in_ok-argument.argument in
    let all = c.push.new.self.items in
    record {
      extends = onward first old new i.extends more;
      say =
          subst (λ (z : List (Option Term)). OneByOne (SaysArgument w text c.args.f) z (take (c.loop-k.k + 1) c.args.types.now))
          (sym (meant_next (option_map (term_at old)) (option_map (term_at new)) found all a
          (arguments_stay old new more w.lexicon found i.known) c.in_ok-push.ensures.items))
          (next_one (SaysArgument w text c.args.f) (map (option_map (term_at old)) found) c.args.types.now c.loop-k.k
          (option_map (term_at new) a) c.index-types-k.result
          c.loop-k-test.true c.index-types-k.is i.say c.in_ok-argument.ensures.says);
      known = known_next (IsArgumentIn new w.lexicon) found all a
          (arguments_in_stay old new more w.lexicon found i.known) c.in_ok-argument.ensures.known c.in_ok-push.ensures.items;
    }

pub returns-clause-say : goal.returns-clause-say
returns-clause-say c =
    let words = c.args.words.now in
    subst (λ (z : List TypeDecl).
    OneByOne (SaysArgument words.world.now words.text.now c.args.f) (map (option_map (term_at c.loop-k.table)) c.loop-k.found.items) z)
    (take_all c.loop-k.k c.args.types.now c.loop-k-test.false) c.loop-k.invariant.say

pub returns-in_err-argument-clause-extends : goal.returns-in_err-argument-clause-extends
returns-in_err-argument-clause-extends c =
    onward c.args.table.now c.loop-k.table c.type_of.new.table c.loop-k.invariant.extends c.type_of.ensures.extends
