use Rattle.swreq_names.proofs.Bytes.{word_bytes}
use Rattle.swreq_names.proofs.laws.words_have_word_bytes.Goals as goal

pub returns : goal.returns
returns c = word_bytes
