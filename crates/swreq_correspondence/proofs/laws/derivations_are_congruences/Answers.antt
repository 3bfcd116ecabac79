use Rattle.swreq_correspondence.proofs.Correspondence.{equal_words, conforming_words, layout_words, valid_members, valid_bounds}
use Rattle.swreq_correspondence.proofs.laws.derivations_are_congruences.Goals as goal

pub returns : goal.returns
returns c = record {
  equal = λ m f s t u fit ranges n v w. equal_words m f fit s ranges n t u v w;
  conforms = λ m f s t p fit ranges n v. conforming_words m f fit s ranges n t p v;
  layout = λ m f s t fit ranges n v. layout_words m f fit s ranges n t v;
  name = λ f s t a. valid_members t a;
  bound = λ f s t d. valid_bounds t d;
}
