-- What holds of a request at its stages, over the request as it is read and while the table grows.
use Rattle.std.proofs.Common.{◌≡◌, ◌∙◌, List, ap, subst, sym}
use Rattle.swreq_print.specs.swreq_param.Tables.{Extends}
use Rattle.swreq_print.specs.swreq_param.Terms.{Term}
use Rattle.swreq_valid.specs.swreq_world.Worlds.{IdWorld}
use Rattle.swreq_valid.proofs.swreq_symbols.Growing.{text_stays, world_stays}
use Rattle.swreq_check.specs.declared.checking.Checked.{Checked}
use Rattle.swreq_check.specs.Checks.{IsCheckedFor}
use Rattle.swreq_reply.specs.Requests.{RequestView, limits_in, printed_of}
use Rattle.swreq_reply.specs.Stages.{AcceptedView, IsAccepted, IsResolved, ResolvedView, accepted_by, resolved_by, world_in}

-- ---- a stage over the request as it is read

module _ {v r : RequestView} {w : IdWorld} {terms : List Term} (read : v ≡ r) where
  pub is_resolved : IsResolved (resolved_by r w terms) → IsResolved (resolved_by v w terms)
  is_resolved = subst (λ (z : RequestView). IsResolved (resolved_by z w terms)) (sym read)

  pub as_resolved : {a : ResolvedView} → resolved_by r w terms ≡ a → resolved_by v w terms ≡ a
  as_resolved e = ap (λ (z : RequestView). resolved_by z w terms) read ∙ e

  module _ {c : Checked} where
    pub is_accepted : IsAccepted (accepted_by r w terms c) → IsAccepted (accepted_by v w terms c)
    is_accepted = subst (λ (z : RequestView). IsAccepted (accepted_by z w terms c)) (sym read)

    pub as_accepted : {a : AcceptedView} → accepted_by r w terms c ≡ a → accepted_by v w terms c ≡ a
    as_accepted e = ap (λ (z : RequestView). accepted_by z w terms c) read ∙ e

-- ---- a table that grows

module _ {r : RequestView} {w : IdWorld} {old new : List Term} (extends : Extends old new) where
  pub still_resolved : IsResolved (resolved_by r w old) → IsResolved (resolved_by r w new)
  still_resolved is = record {
    text = text_stays old new extends w is.text;
    world = rw (world_stays old new extends w is.text.table) is.world;
  }

  -- and what the check gave of the text, it gave of the same
  pub now_accepted : {c : Checked} → IsResolved (resolved_by r w old)
      → IsCheckedFor (limits_in r) (world_in (resolved_by r w old)) w (printed_of r) c → IsAccepted (accepted_by r w new c)
  now_accepted is checked = record {
    resolved = still_resolved is;
    checked = rw (world_stays old new extends w is.text.table) checked;
  }
