use Rattle.swreq_print.specs.swreq_lexicon.Lexicons.{pair}
use Rattle.swreq_lines.proofs.Names.{found_assoc, there_assoc}
use Rattle.swreq_lines.proofs.named.associated.Goals as goal

pub returns-in-Some : goal.returns-in-Some
returns-in-Some c e h same = found_assoc c.args.reader.now.tells_apart c.in-Some.d e (pair c.args.p c.args.a) c.in-Some.ensures h same

pub returns-in-None : goal.returns-in-None
returns-in-None c e h same = absurd (c.in-None.ensures (there_assoc c.args.reader.now.tells_apart e (pair c.args.p c.args.a) h same))
