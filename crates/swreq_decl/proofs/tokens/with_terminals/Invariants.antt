use Rattle.std.proofs.Common.{◌≡◌, take}
use Rattle.swreq_decl.specs.Terminals.{with_terminals}
use Rattle.swreq_decl.proofs.tokens.with_terminals.Given as goal

abbrev pub invariant-loop-token : goal.invariant-loop-token
invariant-loop-token l = l.found.items ≡ with_terminals l.text (take l.token-index l.tokens)
