-- What holds of a text with its table.
use Rattle.swreq_world.specs.Closed.{AreIds}
use Rattle.swreq_world.specs.TextOver.{IsTextOver}
use Rattle.swreq_world.proofs.TextStable.{text_stable}
use Rattle.swreq_symbols.specs.declared.text.Text.{Text}

-- the world and the table belong together
pub text_over : (t : Text) → IsTextOver t.table.now t.world.now
text_over t = text_stable t.table.now t.world.now t.belong

pub ids_over : (t : Text) → AreIds t.world.now.lexicon
ids_over t = (text_over t).closed.ids
