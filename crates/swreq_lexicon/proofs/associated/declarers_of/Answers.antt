use Rattle.std.proofs.Common.{◌∙◌, ◌+◌, ◌<◌, List, [], ◌∷◌, ◌++◌, length, get_or, take, sym, ap, subst, arith}
use Rattle.std.proofs.lemmas.List.{get_or_default, length-set, length-replicate}
use Rattle.std.proofs.lemmas.List.Elements.{Contains-get_or}
use Rattle.swreq_derive.specs.swreq_param.declared.ids.ProtoId.{ProtoId}
use Rattle.swreq_lexicon.specs.declared.pair.ProtocolName.{ProtocolName}
use Rattle.swreq_lexicon.specs.Symbols.{AreDeclarers}
use Rattle.swreq_lexicon.proofs.Declarers.{none_declared, declared_more, all_declared}
use Rattle.swreq_lexicon.proofs.associated.declarers_of.Goals as goal

abbrev first : ProtocolName
first = record { proto = record { rank = 0 }; name = record { rank = 0 } }

pub loop-d-init : goal.loop-d-init
loop-d-init c = record {
  len = ap length c.in_ok-lists.ensures ∙ length-replicate c.args.names [];
  declared = none_declared c.args.pairs.now c.in_ok-lists.lists c.args.names c.in_ok-lists.ensures;
}

pub loop-d-preserved : goal.loop-d-preserved
loop-d-preserved c =
    let d = get_or c.args.pairs.now c.loop-d.d-index first in
    let named : d.name.rank < c.args.names = c.requires d (Contains-get_or c.args.pairs.now c.loop-d.d-index first c.loop-d-test.true) in
    let size = c.loop-d.invariant.len in
    let room : d.name.rank < length c.loop-d.lists = omega (arith, named, size) in
    record {
      len = ap length c.in_ok-push.ensures ∙ length-set c.loop-d.lists d.name.rank (get_or c.loop-d.lists d.name.rank [] ++ d.proto ∷ [])
          ∙ c.loop-d.invariant.len;
      declared = subst (λ (lists : List (List ProtoId)). AreDeclarers (take (c.loop-d.d-index + 1) c.args.pairs.now) lists)
          (sym c.in_ok-push.ensures)
          (declared_more c.args.pairs.now c.loop-d.d-index d c.loop-d.lists c.loop-d-test.true
          (get_or_default c.args.pairs.now c.loop-d.d-index first d c.loop-d-test.true) room c.loop-d.invariant.declared);
    }

pub push-requires : goal.push-requires
push-requires c =
    let d = get_or c.args.pairs.now c.loop-d.d-index first in
    let named : d.name.rank < c.args.names = c.requires d (Contains-get_or c.args.pairs.now c.loop-d.d-index first c.loop-d-test.true) in
    let size = c.loop-d.invariant.len in
    omega (arith, named, size)

pub returns : goal.returns
returns c = all_declared c.args.pairs.now c.loop-d.d-index c.loop-d.lists c.loop-d-test.false c.loop-d.invariant.declared
