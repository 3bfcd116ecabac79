use Rattle.std.proofs.Common.{◌≡◌, ◌∙◌, ◌⊎◌, ◌↔◌, List, [], length, ap, get_or, Contains, subst}
use Rattle.std.proofs.lemmas.List.{get_or_default, length-replicate}
use Rattle.swreq_rank.proofs.Pushed.{all_alike}
use Rattle.swreq_names.specs.declared.directory.Declaration.{Declaration}
use Rattle.swreq_names.specs.Directories.{names_of}
use Rattle.swreq_names.proofs.Declaring.{none_yet, members_more, all_members}
use Rattle.swreq_names.proofs.declarers.lists_of.Goals as goal

pub loop-place-init : goal.loop-place-init
loop-place-init c = record {
  len = ap length c.in_ok-lists.ensures ∙ length-replicate c.len.result [] ∙ c.len.ensures.len;
  listed = λ r q is j. none_yet c.args.members.now q j (get_or c.in_ok-lists.lists r [])
      (ap (λ xs. get_or xs r []) c.in_ok-lists.ensures ∙ all_alike c.len.result r []);
}

pub loop-place-preserved : goal.loop-place-preserved
loop-place-preserved c = record {
  len = c.in_ok-add_names.ensures.len ∙ c.loop-place.invariant.len;
  listed = λ r q is j.
      members_more c.args.members.now q j c.loop-place.place (names_of c.index-members-place.result)
      (ap names_of (c.index-members-place.is
      ∙ get_or_default c.args.members.now c.loop-place.place c.index-members-place.result [] c.loop-place-test.true))
      (subst (λ (ds : List Declaration). Contains (get_or c.add_names.new.lists r []) j
      ↔ (Contains (get_or c.loop-place.lists r []) j ⊎ ((j ≡ c.loop-place.place) × Contains (names_of ds) q)))
      c.items.ensures (c.in_ok-add_names.ensures.added r q is j))
      (c.loop-place.invariant.listed r q is j);
}

pub returns : goal.returns
returns c r q is j = all_members c.args.members.now q j c.loop-place.place c.loop-place-test.false (c.loop-place.invariant.listed r q is j)
