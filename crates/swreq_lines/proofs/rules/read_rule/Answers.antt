use Rattle.std.proofs.Common.{◌∙◌, ap}
use Rattle.swreq_lines.specs.LineTexts.{fields_of}
use Rattle.swreq_lines.specs.Written.{behind_fields, rule_named}
use Rattle.swreq_lines.proofs.RuleWords.{Words, rule_is}
use Rattle.swreq_lines.proofs.rules.read_rule.Goals as goal

pub returns : goal.returns
returns c r tail h ends e =
    let name = c.next_word-name.result in
    let first = c.next_word-first.result in
    let second = c.next_word-second.result in
    let words : Words c.args.text.now name.piece.now name.rest.now first.piece.now first.rest.now second.piece.now second.rest.now =
    record { one = c.next_word-name.ensures.piece; two = c.next_word-first.ensures.piece; three = c.next_word-second.ensures.piece } in
    let k =
    rule_is c.args.reader.now.tells_apart c.args.text.now name.piece.now name.rest.now first.piece.now first.rest.now second.piece.now
    second.rest.now words c.protocol_named.result c.name_named.result c.read_number.result c.read_number-2.result
    c.protocol_named.ensures c.name_named.ensures c.read_number.ensures c.read_number-2.ensures tail ends r h e in
    let found = c.named-rule.ensures ∙ ap (λ z. rule_named z name.piece.now) c.rules_with-rules.ensures in (
      found ∙ k.rule,
      c.behind_fields.ensures
          ∙ ap (λ f. behind_fields f name.rest.now first.rest.now second.rest.now) (c.fields_of.ensures ∙ ap fields_of found) ∙ k.rest,
    )
