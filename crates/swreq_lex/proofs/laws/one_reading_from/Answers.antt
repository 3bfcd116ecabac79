use Rattle.swreq_lex.proofs.TextLemmas.{some_reading_from, one_list_from, one_refusal_from, never_both_from}
use Rattle.swreq_lex.proofs.laws.one_reading_from.Goals as goal

pub returns : goal.returns
returns c =
    let text = c.args.text.now in
    let from = c.args.from in
    record {
      some = some_reading_from text from c.requires;
      one_list = one_list_from text from c.requires;
      one_refusal = one_refusal_from text from c.requires;
      never_both = never_both_from text from c.requires;
    }
