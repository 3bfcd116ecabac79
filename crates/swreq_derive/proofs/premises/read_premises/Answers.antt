use Rattle.std.proofs.Common.{◌≡◌, List, [], ◌∷◌, ℕ, length, arith, refl, ap, suc}
use Rattle.swreq_derive.specs.declared.requirements.Statement.{Statement}
use Rattle.swreq_derive.specs.Instances.{AreStated}
use Rattle.swreq_derive.specs.Lines.{stated_by}
use Rattle.swreq_derive.proofs.premises.read_premises.Goals as goal

-- the same number of statements as of numbers
as_many : (earlier : List Statement) (ns : List ℕ) (sts : List Statement) → AreStated earlier ns sts → length ns ≡ length sts
as_many earlier [] [] h = refl
as_many earlier [] (st ∷ sts) h = absurd h
as_many earlier (n ∷ ns) [] h = absurd h
as_many earlier (n ∷ ns) (st ∷ sts) h = ap suc (as_many earlier ns sts h.1)

pub returns-in_default : goal.returns-in_default
returns-in_default c sts h n =
    let e = as_many (stated_by c.args.earlier.now) c.args.numbers.now sts h in let k = c.in_default.len_at_least in omega arith
