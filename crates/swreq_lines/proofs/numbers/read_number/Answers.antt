use Rattle.std.proofs.Common.{◌≡◌, ◌∙◌, sym, subst, arith, Ok}
use Rattle.std.specs.Str.{IsUtf8}
use Rattle.std.proofs.lemmas.Fmt.{IsAscii-decimal, parse-decimal}
use Rattle.std.proofs.lemmas.Str.{IsUtf8-from_ascii}
use Rattle.std.specs.Fmt.{decimal}
use Rattle.swreq_lines.proofs.numbers.read_number.Goals as goal

pub returns-in-Ok-parse : goal.returns-in-Ok-parse
returns-in-Ok-parse c n l e =
    let r : c.parse.result ≡ Ok n =
    parse-decimal 32 n c.in-Ok.digits.now c.parse.result l (omega (arith, l)) (c.in-Ok.ensures.cases.0 ∙ e) c.parse.ensures.value.0 in
    let i = c.in-Ok-parse.is in
    cc

pub returns-in-Err-parse : goal.returns-in-Err-parse
returns-in-Err-parse c n l e =
    let r : c.parse.result ≡ Ok n =
    parse-decimal 32 n c.in-Ok.digits.now c.parse.result l (omega (arith, l)) (c.in-Ok.ensures.cases.0 ∙ e) c.parse.ensures.value.0 in
    let i = c.in-Err-parse.is in
    absurd cc

pub returns-in-Err : goal.returns-in-Err
returns-in-Err c n l e =
    absurd (c.in-Err.ensures.cases.0 (subst IsUtf8 (sym e) (IsUtf8-from_ascii (decimal n) (IsAscii-decimal n (omega (arith, l))))))
