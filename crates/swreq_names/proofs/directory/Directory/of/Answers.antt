use Rattle.std.proofs.Common.{◌∙◌, ◌↔◌, List, ℕ, Contains, subst, ap}
use Rattle.swreq_names.specs.declared.directory.Declaration.{Declaration}
use Rattle.swreq_names.specs.Spaces.{place}
use Rattle.swreq_names.specs.Directories.{names_of}
use Rattle.swreq_names.proofs.directory.Directory.of.Goals as goal

pub invariant_of-result : goal.invariant_of-result
invariant_of-result c = record {
  same = λ name.
      subst (λ (names : List (List ℕ)). Contains c.of-ranks.result name ↔ Contains names name)
      (c.in_ok-names.ensures ∙ ap names_of c.deref.ensures.value) (c.of-ranks.ensures.same name);
  first = λ r name is. c.in_ok-firsts.ensures r name is ∙ ap (λ (ds : List Declaration). place ds name) c.deref-2.ensures.value;
}
