use Rattle.std.proofs.Common.{refl}
use Rattle.swreq_derive.specs.swreq_param.Tables.{term_at}
use Rattle.swreq_readings.proofs.ReadingLemmas.{given_named, named_given}
use Rattle.swreq_readings.proofs.telling.allows_name.Goals as goal

pub returns-in-Some : goal.returns-in-Some
returns-in-Some c =
    let s = c.args.derivation.now in
    ((λ e. named_given c.args.alphabet.now s (term_at s.table c.args.subject) c.args.name c.in-Some.field-0 c.in-Some.ensures), λ w. refl)

pub returns-in-None : goal.returns-in-None
returns-in-None c =
    let s = c.args.derivation.now in (
      (λ e. absurd cc),
      λ w. absurd (let m = given_named c.args.alphabet.now s
          (term_at s.table c.args.subject) c.args.name w in c.in-None.ensures m.0 m.1),
    )
