use Rattle.std.proofs.Common.{refl, inl, inr, lit<}
use Rattle.swreq_param.proofs.worked.type_parameters_in_order.Goals as goal

pub returns : goal.returns
returns c = (
  inr (refl, inr (refl, lit< tt)),
  (
    inr (refl, inl (lit< tt)),
    (
      inl (lit< tt),
      (
        inr (refl, inr (refl, lit< tt)),
        (
          inr (refl, inr (refl, lit< tt)),
          (
            inr (refl, inr (refl, tt)),
            (
              inr (refl, inr (refl, lit< tt)),
              (
                inr (refl, inl (inr (refl, lit< tt))),
                (inl (lit< tt), tt),
              ),
            ),
          ),
        ),
      ),
    ),
  ),
)
