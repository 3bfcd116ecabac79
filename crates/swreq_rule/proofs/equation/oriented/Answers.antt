use Rattle.std.proofs.Common.{◌≡◌, sym, List}
use Rattle.std.specs.declared.cmp.Ordering.TheVariants.{Greater}
use Rattle.swreq_word.specs.declared.symbols.Symbol.{Symbol}
use Rattle.swreq_word.specs.Order.{word_cmp, WordLess}
use Rattle.swreq_word.specs.OrderLaws.{word_total, word_exact}
use Rattle.swreq_rule.proofs.equation.oriented.Goals as goal

turned : (u v : List Symbol) → Greater ≡ word_cmp u v → WordLess v u
turned u v h = let k = word_total.antisymm v u in cc

pub new-requires-in-Greater : goal.new-requires-in-Greater
new-requires-in-Greater c = turned c.args.u c.args.v c.in-Greater.ensures

pub returns-in-Equal : goal.returns-in-Equal
returns-in-Equal c = word_exact c.args.u c.args.v (sym c.in-Equal.ensures)
