-- Nothing refuses a text that is in order.
use Rattle.std.proofs.Common.{◌≡◌, ◌⊎◌, inl, inr, refl, subst, ℕ, ◌≤◌, arith, List, Contains, length, Option, Some, Ok}
use Rattle.swreq_print.specs.swreq_lex.declared.refusal.LexErr.{LexErr}
use Rattle.swreq_print.specs.swreq_lex.Refusals.{HasRefusal}
use Rattle.swreq_print.proofs.swreq_lex.TextLemmas.{never_both, never_both_from, one_list, one_list_from, one_refusal_from}
use Rattle.swreq_print.specs.swreq_decl.declared.kind.Kind.{Kind}
use Rattle.swreq_print.specs.swreq_decl.declared.skeleton.Skeleton.{Skeleton}
use Rattle.swreq_print.specs.swreq_decl.Skeletons.{RefusedFor, StandsFor}
use Rattle.swreq_world.proofs.swreq_decl.Answering.{not_both, one_skeleton}
use Rattle.swreq_world.proofs.swreq_decl.AnsweringCalls as calls
use Rattle.swreq_world.proofs.swreq_lemmas.Members.{first_member, later_member}
use Rattle.swreq_world.specs.swreq_resolve.declared.refusal.NameErr.{NameErr}
use Rattle.swreq_world.specs.swreq_resolve.Resolving.{Resolve}
use Rattle.swreq_world.proofs.swreq_resolve.Answers.{not_refused}
use Rattle.swreq_print.specs.swreq_rule.declared.rules.Rule.{Rule}
use Rattle.swreq_watch.specs.declared.events.Event.{Event}
use Rattle.swreq_reply.specs.swreq_complete.declared.limit.Which.{Which}
use Rattle.swreq_text.specs.Lines.{lines}
use Rattle.swreq_print.specs.declared.refusal.RefusalKind.{RefusalKind}
use Rattle.swreq_print.specs.declared.refusal.RefusalKind.TheVariants as refusals
use Rattle.swreq_reply.specs.swreq_valid.declared.refused.Refused.{Refused}
use Rattle.swreq_reply.specs.swreq_valid.declared.refused.Refused.TheVariants.{Limit, NotATypeParameter, Memory}
use Rattle.swreq_words.specs.declared.command.CommandLine.{CommandLine}
use Rattle.swreq_world.specs.WorldOf.{IsWorldOf}
use Rattle.swreq_world.specs.Worlds.{SignatureOver, TextWorld}
use Rattle.swreq_world.specs.swreq_lowering.Requirements.{PlacedRequirement}
use Rattle.swreq_reply.specs.swreq_query.Ended.{IsWorldOfText}
use Rattle.swreq_reply.specs.declared.outcome.Outcome.{Outcome}
use Rattle.swreq_reply.specs.Commands.{content_of}
use Rattle.swreq_reply.specs.Inputs.{AreParts, Parts, second_at}
use Rattle.swreq_reply.specs.swreq_check.Machines.{IsChecked, ProtocolsCome, SignaturesCome}
use Rattle.swreq_reply.specs.swreq_check.Machines.IsChecked.{protocols_built, protocols_refused}
use Rattle.swreq_reply.specs.swreq_check.Machines.SignaturesCome.{next, stopped}
use Rattle.swreq_reply.specs.Verdict.{ChecksMachines, HasNoWorld, HasWorld, IsCutShort, IsRefused, RefusesNames, limits_of}
use Rattle.swreq_reply.specs.Verdict.IsRefused.{bad_calls, in_one_part, misfit, past_a_limit_of_families, too_long, unchecked, without_world}
use Rattle.swreq_reply.proofs.Misfits.{no_sections}
use Rattle.swreq_reply.proofs.OfCalls.{IsOnePart, never_second}
use Rattle.swreq_reply.proofs.OneRefusal.{one_split, second_within, split_divided}
use Rattle.swreq_top.specs.InOrder.{IsInOrder, IsSecondFor, PassesALimit}
use Rattle.swreq_top.specs.InOrder.PassesALimit.{of_families, of_minimising, of_protocols, of_signature}
use Rattle.swreq_top.proofs.WellFormed.{never_refused}

-- ---- a source text for which a skeleton stands, and whose names resolve

module _ (text : List ℕ) (s : Skeleton) (stands : StandsFor text s) (resolve : Resolve text s) where
  no_lexical_refusal : (e : LexErr) → HasRefusal text e → ⊥
  no_lexical_refusal e = never_both text stands.0 e stands.1

  no_token_refused : (at : ℕ) (kind : Option Kind) → RefusedFor text at kind → ⊥
  no_token_refused at kind refused = not_both text (one_list text) s at kind stands refused

  only_skeleton : (t : Skeleton) → StandsFor text t → t ≡ s
  only_skeleton t also = one_skeleton text (one_list text) t s also stands

  no_name_refused : (e : NameErr) → RefusesNames text e → ⊥
  no_name_refused e (within, (t, also, refuses)) = not_refused text s e resolve (rw (only_skeleton t also) at refuses)

  never_without_world : (refusal : RefusalKind) → HasNoWorld text refusal → ⊥
  never_without_world refusals.Usage has = has
  never_without_world _ has = search (no_lexical_refusal, no_token_refused, no_name_refused)

-- ---- a second part

part_is_one : (text : List ℕ) (from : ℕ) → from ≤ length text → IsOnePart text from
part_is_one text from within = record {
  refusal = one_refusal_from text from within;
  no_refusal = never_both_from text from within;
  calls = calls.one_list_of text from (one_list_from text from within);
  token = calls.one_refusal_of text from (one_list_from text from within);
  no_token = calls.not_both text from (one_list_from text from within);
}

-- ---- machines

module _ (line : CommandLine) (w : TextWorld)
    (within : (which : Which) (trace : List Rule) (told : List Event) → PassesALimit line w which trace told → ⊥) where
  signatures_pass : (rules : List Rule) (first : List Event) → ProtocolsCome (limits_of line) w (Ok rules) first
      → {gs : List (SignatureOver PlacedRequirement)} {told : List Event} (which : Which) (trace : List Rule)
      → ((g : SignatureOver PlacedRequirement) → Contains gs g → Contains w.signatures g)
      → SignaturesCome (limits_of line) w rules gs (Some (Limit which trace)) told → ⊥
  signatures_pass rules first come which trace among (next {g} {gs} own one rest e) =
      signatures_pass rules first come which trace (λ h c. among h (later_member g h gs c)) rest
  signatures_pass rules first come which trace among (stopped {g} {gs} {told} refused real stops) =
      within which trace told (of_signature rules first come.0 g (among g (first_member g gs)) stops)

  never_stopped : {told : List Event} (which : Which) (trace : List Rule) → IsChecked (limits_of line) w (Some (Limit which trace)) told → ⊥
  never_stopped {told} which trace (protocols_refused refused real stops) = within which trace told (of_protocols stops)
  never_stopped which trace (protocols_built {first = first} rules come rest e) =
      signatures_pass rules first come which trace (λ g c. c) rest

module _ (line : CommandLine) (w : TextWorld) (p : Parts) (order : IsInOrder line p w) (checks : ChecksMachines line) where
  passes : {told : List Event} (cause : Refused) → IsChecked (limits_of line) w (Some cause) told → ⊥
  passes (Limit which trace) checked = never_stopped line w (order.within checks) which trace checked
  passes (NotATypeParameter at) checked = never_refused w (order.formed checks) (limits_of line) at checked
  passes Memory (protocols_refused refused real come) = real refl
  passes Memory (protocols_built rules come rest e) = never_for_memory rest
    where
      never_for_memory : {rules : List Rule} {gs : List (SignatureOver PlacedRequirement)} {told : List Event}
          → SignaturesCome (limits_of line) w rules gs (Some Memory) told → ⊥
      never_for_memory (next own one rest e) = never_for_memory rest
      never_for_memory (stopped refused real come) = real refl

-- ---- the verdict

module _ (line : CommandLine) (input : List ℕ) (p : Parts) (s : Skeleton) (are : AreParts line.command input p)
    (stands : StandsFor p.source s)
    (resolve : Resolve p.source s) (each : (w : TextWorld) → IsWorldOf p.source s w → IsInOrder line p w) where
  same_parts : (q : Parts) → AreParts line.command input q → q ≡ p
  same_parts q also = one_split line.command input q p also are

  in_order : (w : TextWorld) → HasWorld line input w → IsInOrder line p w
  in_order w has =
      let text : IsWorldOfText p.source w = subst (λ (q : Parts). IsWorldOfText q.source w) (same_parts has.parts has.are) has.of_text in
      each w
      (subst (λ (t : Skeleton). IsWorldOf p.source t w) (only_skeleton p.source s stands resolve text.skeleton text.stands) text.world)

  second : (w : TextWorld) → HasWorld line input w → IsSecondFor (content_of line) w p
  second w has = (in_order w has).second

  pub never_refused_in_order : (o : Outcome) (told : List Event) → IsRefused line input o told ⊎ IsCutShort line input o told → ⊥
  never_refused_in_order o told (inl (too_long long is untold)) = omega (arith, long, are.within)
  never_refused_in_order o told (inl (in_one_part within two none is untold)) = none (split_divided line.command input p are two)
  never_refused_in_order o told (inl (without_world q also refusal has is untold)) =
      never_without_world p.source s stands resolve refusal (subst (λ (z : Parts). HasNoWorld z.source refusal) (same_parts q also) has)
  never_refused_in_order o told (inl (unchecked w cause checks has checked is)) = passes line w p (in_order w has) checks cause checked
  never_refused_in_order o told (inl (misfit w n judges has first is untold)) =
      no_sections w.lexicon (length w.queries) (lines p.second) n (rw (same_parts has.parts has.are) at first)
      ((second w has).sections judges)
  never_refused_in_order o told (inl (past_a_limit_of_families which trace c asked stops is)) =
      (in_order c.world c.has_world).within c.checks which trace c.more (of_families asked stops)
  never_refused_in_order o told (inl (bad_calls refusal c asked refuses untold is)) =
      never_second c.world p (part_is_one p.input (second_at p) (omega (arith, second_within are))) refusal
      (rw (same_parts c.has_world.parts c.has_world.are) at refuses) ((second c.world c.has_world).calls asked)
  never_refused_in_order o told (inr cut) =
      let c = cut.check in
      let fails = cut.fails in
      (in_order c.world c.has_world).within c.checks cut.which cut.trace fails.last
      (of_minimising c.rules c.built.first c.built.protocols.0 fails.g fails.asked fails.fails)
