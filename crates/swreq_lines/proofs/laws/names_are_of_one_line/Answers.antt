use Rattle.swreq_lines.proofs.NamesOfText.{names_of_one_line}
use Rattle.swreq_lines.proofs.laws.names_are_of_one_line.Goals as goal

pub returns : goal.returns
returns c s x stands is =
    names_of_one_line c.args.text.now s x is (c.names_are_words.ensures.protocols s stands) (c.names_are_words.ensures.members s stands)
    c.words_have_word_bytes.ensures
