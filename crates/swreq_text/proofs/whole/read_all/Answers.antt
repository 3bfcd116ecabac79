use Rattle.std.proofs.Common.{◌≡◌, ◌+◌, ◌++◌, take, length, ◌∙◌, arith, length-append}
use Rattle.std.proofs.KnownBytes.{Consumes-trans}
use Rattle.std.proofs.lemmas.List.{length-take, length-take-le}
use Rattle.swreq_text.proofs.whole.read_all.Goals as goal

-- the bytes that came, but for which there was no memory, are gone too
pub returns-in_err-extend_from_slice-clause-rest : goal.returns-in_err-extend_from_slice-clause-rest
returns-in_err-extend_from_slice-clause-rest g c =
    let bytes = c.loop-buf.bytes.items in
    let n = c.in_ok-n.n in
    let more = take n c.read.new.buf in
    let came : length more ≡ n = length-take-le n c.read.new.buf c.in_ok-n.ensures.count in (
      length bytes + n,
      omega (arith, c.in_ok-n.ensures.count, c.read.auto.buf, length-take c.min-want.result c.loop-buf.buf),
      (
        bytes ++ more,
        Consumes-trans _ _ _ bytes more c.loop-buf.invariant.so_far c.in_ok-n.ensures.next,
        length-append bytes more ∙ omega (arith, came),
      ),
    )
