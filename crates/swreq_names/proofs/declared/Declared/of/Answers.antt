use Rattle.std.proofs.Common.{◌∙◌, List, map, subst}
use Rattle.swreq_names.specs.declared.directory.Declaration.{Declaration}
use Rattle.swreq_names.specs.Directories.{AreDeclarers}
use Rattle.swreq_names.specs.Spaces.{declarations, of_params}
use Rattle.swreq_names.proofs.declared.Declared.of.Goals as goal

pub returns : goal.returns
returns c i = record {
  protocols = (c.in_ok-protocols.ensures.names ∙ (λ j. declarations c.args.text.now (map (λ p. p.name) (c.items.ensures j)))) i;
  members = (c.in_ok-protocols.ensures.members
      ∙ (λ j. map (λ p. declarations c.args.text.now (map (λ m. m.name) p.members)) (c.items.ensures j))) i;
  primaries = (c.in_ok-protocols.ensures.primaries ∙ (λ j. map (λ p. declarations c.args.text.now p.primaries) (c.items.ensures j))) i;
  structs = (c.in_ok-structs.ensures.names ∙ (λ j. declarations c.args.text.now (map (λ t. t.name) (c.items-2.ensures j)))) i;
  struct_params = (c.in_ok-structs.ensures.params ∙ (λ j. map (λ t. of_params c.args.text.now t.params) (c.items-2.ensures j))) i;
  nested = (c.in_ok-structs.ensures.nested
      ∙ (λ j. map (λ t. declarations c.args.text.now (map (λ f. f.name) t.functions)) (c.items-2.ensures j))) i;
  nested_params =
      (c.in_ok-structs.ensures.nested_params
      ∙ (λ j. map (λ t. map (λ f. of_params c.args.text.now f.params) t.functions) (c.items-2.ensures j))) i;
  functions = (c.in_ok-functions.ensures.names ∙ (λ j. declarations c.args.text.now (map (λ f. f.name) (c.items-3.ensures j)))) i;
  params = (c.in_ok-functions.ensures.params ∙ (λ j. map (λ f. of_params c.args.text.now f.params) (c.items-3.ensures j))) i;
}

pub invariant_of-result : goal.invariant_of-result
invariant_of-result c = (
  subst (λ (members : List (List Declaration)). AreDeclarers members c.in_ok-declarers.declarers.ranks c.in_ok-declarers.declarers.lists)
      (c.deref-2.ensures.value ∙ (λ i. (c.deref.ensures i).members.items))
      c.in_ok-declarers.ensures,
  c.in_ok-empty.ensures ∙ c.new.ensures.items,
)
