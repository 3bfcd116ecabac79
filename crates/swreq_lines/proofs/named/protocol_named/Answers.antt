use Rattle.swreq_lines.proofs.Names.{found_protocol, there_protocol}
use Rattle.swreq_lines.proofs.named.protocol_named.Goals as goal

pub returns-in-Some : goal.returns-in-Some
returns-in-Some c q h e = found_protocol c.args.reader.now.tells_apart c.in-Some.p q c.args.name.now c.in-Some.ensures h e

pub returns-in-None : goal.returns-in-None
returns-in-None c q h e = absurd (c.in-None.ensures (there_protocol c.args.reader.now.tells_apart q c.args.name.now h e))
