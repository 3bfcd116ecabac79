use Rattle.swreq_lines.proofs.Names.{found_name, there_name}
use Rattle.swreq_lines.proofs.named.name_named.Goals as goal

pub returns-in-Some : goal.returns-in-Some
returns-in-Some c b h e = found_name c.args.reader.now.tells_apart c.in-Some.a b c.args.name.now c.in-Some.ensures h e

pub returns-in-None : goal.returns-in-None
returns-in-None c b h e = absurd (c.in-None.ensures (there_name c.args.reader.now.tells_apart b c.args.name.now h e))
