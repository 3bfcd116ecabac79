use Rattle.std.proofs.Common.{◌≡◌, map, drop, string_bytes}
use Rattle.swreq_words.specs.Reading.{read_on, nothing_seen}
use Rattle.swreq_words.proofs.form.are_parts.Given as goal

abbrev pub invariant-loop-word : goal.invariant-loop-word
invariant-loop-word l =
    read_on l.fn.may l.seen (map string_bytes (drop l.word-index l.fn.words)) ≡ read_on l.fn.may nothing_seen (map string_bytes l.fn.words)
