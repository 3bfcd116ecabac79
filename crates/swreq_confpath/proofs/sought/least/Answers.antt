use Rattle.std.proofs.Common.{◌≡◌, ◌++◌, ◌∷◌, [], ◌∙◌, get_or, length, take, sym, ap, subst, arith}
use Rattle.std.proofs.Math.Seq.{take-length}
use Rattle.std.proofs.lemmas.List.{append-nil}
use Rattle.std.proofs.lemmas.Option.{slice_get-get_or}
use Rattle.swreq_print.specs.swreq_word.declared.symbols.Symbol.TheVariants.{Proto}
use Rattle.swreq_print.specs.swreq_word.Relations.Linked.{here}
use Rattle.swreq_machine.specs.swreq_symbols.Vanishing.{IsLeastBy, Links}
use Rattle.swreq_confpath.proofs.Standing.{linked_more}
use Rattle.swreq_confpath.proofs.sought.least.Goals as goal

pub loop-k-init : goal.loop-k-init
loop-k-init c =
    let rules = c.args.rules.now in
    let front = c.args.front.now in
    let e : c.extend_from_slice.new.self.items ≡ front =
    c.in_ok-extend_from_slice.ensures.items ∙ ap (λ z. z ++ front) c.in_ok-word.ensures.items in
    record {
      least = subst (IsLeastBy rules) (sym e) c.requires;
      linked = subst (Links rules (front ++ [])) (sym e) (subst (λ z. Links rules z front) (sym (append-nil front)) here);
    }

pub loop-k-preserved : goal.loop-k-preserved
loop-k-preserved c =
    let rules = c.args.rules.now in
    let rest = c.args.rest.now in
    let k = c.loop-k.k in
    let x = get_or rest k (Proto 0) in
    record {
      least = c.append.ensures.least;
      linked = linked_more rules c.args.front.now rest c.loop-k.word.items c.append.new.word.items k x c.loop-k.invariant.linked
          (slice_get-get_or rest k (Proto 0) c.loop-k-test.true)
          (subst (λ z. Links rules (z ++ x ∷ []) c.append.new.word.items) c.in_ok-reserve.ensures.items c.append.ensures.congruent);
    }

pub returns : goal.returns
returns c =
    let rules = c.args.rules.now in
    let front = c.args.front.now in
    let rest = c.args.rest.now in
    let last : c.loop-k.k ≡ length rest = omega arith in
    let all : take c.loop-k.k rest ≡ rest = ap (λ n. take n rest) last ∙ take-length rest in
    record {
      linked = subst (Links rules (front ++ rest)) (sym c.new.ensures)
          (subst (λ z. Links rules (front ++ z) c.loop-k.word.items) all c.loop-k.invariant.linked);
      least = subst (IsLeastBy rules) (sym c.new.ensures) c.loop-k.invariant.least;
    }
