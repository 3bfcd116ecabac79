-- Of a command that judges derivations nothing is told.
use Rattle.std.proofs.Common.{◌≡◌, inl, inr, ℕ, List, []}
use Rattle.swreq_valid.specs.swreq_watch.declared.events.Event.{Event}
use Rattle.swreq_words.specs.declared.command.CommandLine.{CommandLine}
use Rattle.swreq_reply.specs.declared.outcome.Outcome.{Outcome}
use Rattle.swreq_check.specs.Contents.{AreJudgements}
use Rattle.swreq_reply.specs.Commands.{content_of}
use Rattle.swreq_reply.specs.Replies.{TellsPart}
use Rattle.swreq_reply.specs.Verdict.{IsRefused, IsVerdict}
use Rattle.swreq_reply.specs.Verdict.IsRefused.{bad_calls, in_one_part, misfit, past_a_limit_of_families, too_long, unchecked, without_world}
use Rattle.swreq_reply.specs.Verdict.IsVerdict.{answered as is_answered, cut_short as is_cut_short, judged as is_judged, refused as is_refused}

module _ (line : CommandLine) (input : List ℕ) (judges : AreJudgements (content_of line)) where
  refusal_untold : {o : Outcome} {told : List Event} → IsRefused line input o told → told ≡ []
  refusal_untold (too_long long is untold) = untold
  refusal_untold (in_one_part within two none is untold) = untold
  refusal_untold (without_world p are refusal has is untold) = untold
  refusal_untold (unchecked w cause checks has checked is) = absurd (checks judges)
  refusal_untold (misfit w n asked has first is untold) = untold
  refusal_untold (past_a_limit_of_families which trace c asked stops is) = absurd (c.checks judges)
  refusal_untold (bad_calls refusal c asked refuses none is) = absurd (c.checks judges)

  pub verdict_untold : (o : Outcome) (told : List Event) → IsVerdict line input o told → told ≡ []
  verdict_untold o told (is_refused r) = refusal_untold r
  verdict_untold o told (is_cut_short c) = absurd (c.check.checks judges)
  verdict_untold o told (is_answered a) = absurd (a.check.checks judges)
  verdict_untold o told (is_judged j) = j.told_nothing

  pub part_untold : (told : List Event) → TellsPart line input told → told ≡ []
  part_untold told (inl untold) = untold
  part_untold told (inr (checks, tells)) = absurd (checks judges)
