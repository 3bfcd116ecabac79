use Rattle.std.proofs.Common.{◌+◌, ◌-◌, ◌%◌, ◌^◌, min, ap, ◌∙◌}
use Rattle.swreq_trie.specs.Chains.{chain_of}
use Rattle.swreq_trie.proofs.chains.chain.Goals as goal

pub returns : goal.returns
unfolding chain_of
returns c = c.saturating_add.ensures ∙ ap (λ n. min (c.args.edge.from + n % 4096) (2 ^ 64 - 1)) c.number.ensures
