use Rattle.swreq_correspondence.proofs.Correspondence.{word_is_read, link_leads}
use Rattle.swreq_correspondence.proofs.laws.words_are_read.Goals as goal

pub returns : goal.returns
returns c = record {
  of_valid = λ m f s t fit v. word_is_read m f fit s t v;
  along = λ m f s u v fit l h. link_leads m f fit s l h;
}
