-- What a comparison of steps computes.
use Rattle.std.proofs.Common.{◌≡◌, refl}
use Rattle.swreq_param.specs.contracts.ids.StepOrd.TheImpl.{cmp-value}
use Rattle.swreq_param.specs.declared.ids.Step.{Step}
use Rattle.swreq_param.specs.declared.ids.Step.TheVariants.{Bound, Name}
use Rattle.swreq_param.specs.Comparison.{step_cmp}

pub step_is : (x y : Step) → cmp-value.it x y ≡ step_cmp x y
step_is (Bound a) (Bound b) = refl
step_is (Bound a) (Name b) = refl
step_is (Name a) (Bound b) = refl
step_is (Name a) (Name b) = refl
