-- The empty text is answered: nothing refuses it, and no round of its machines passes a limit.
use Rattle.std.proofs.Common.{◌≡◌, ◌≢◌, ◌∙◌, ◌⊎◌, refl, sym, ap, subst, inl, inr, ℕ, ◌≤◌, arith, le_refl, Bool, length, length-append, List, [], ◌∷◌, Contains, Option, Some}
use Rattle.std.proofs.lemmas.Option.{none-some}
use Rattle.std.proofs.lemmas.Str.{IsUtf8-nil, chars-nil}
use Rattle.swreq_print.specs.swreq_lex.declared.refusal.LexErr.{LexErr}
use Rattle.swreq_print.specs.swreq_lex.Refusals.{HasRefusal}
use Rattle.swreq_print.specs.swreq_lex.Tokens.{HasTokens, Reads, after_byte_order_mark, first_offset}
use Rattle.swreq_print.specs.swreq_lex.Tokens.Reads.{done}
use Rattle.swreq_print.proofs.swreq_lex.TextLemmas.{never_both, one_list}
use Rattle.swreq_print.specs.swreq_decl.declared.kind.Kind.{Kind}
use Rattle.swreq_print.specs.swreq_decl.declared.skeleton.Skeleton.{Skeleton}
use Rattle.swreq_print.specs.swreq_decl.Skeletons.{RefusedFor, StandsFor, skeleton_of}
use Rattle.swreq_print.specs.swreq_decl.Source.{source}
use Rattle.swreq_world.proofs.swreq_decl.Answering.{not_both, one_skeleton}
use Rattle.swreq_world.proofs.swreq_lemmas.Members.{first_member, no_member}
use Rattle.swreq_world.specs.swreq_resolve.declared.refusal.NameErr.{NameErr}
use Rattle.swreq_world.specs.swreq_resolve.Resolving.{RefusesSkeleton}
use Rattle.swreq_print.specs.swreq_rule.declared.rules.Birth.{Birth}
use Rattle.swreq_print.specs.swreq_rule.declared.rules.Birth.TheVariants.{Given, Pair}
use Rattle.swreq_print.specs.swreq_rule.declared.rules.Rule.{Rule}
use Rattle.swreq_watch.specs.declared.events.Event.{Event}
use Rattle.swreq_reply.specs.swreq_complete.declared.limit.Limits.{Limits}
use Rattle.swreq_reply.specs.swreq_complete.declared.limit.Which.{Which}
use Rattle.swreq_reply.specs.swreq_complete.Limits.{Passes}
use Rattle.swreq_reply.specs.swreq_complete.Reached.{IsBorn}
use Rattle.swreq_reply.specs.swreq_rounds.Plan.{Item, given}
use Rattle.swreq_reply.specs.swreq_rounds.Rounds.{IsStoppedRound}
use Rattle.swreq_reply.proofs.swreq_rounds.Turning.{round_within, stops_here}
use Rattle.swreq_print.specs.declared.refusal.RefusalKind.{RefusalKind}
use Rattle.swreq_print.specs.declared.refusal.RefusalKind.TheVariants as refusals
use Rattle.swreq_reply.specs.swreq_valid.declared.refused.Refused.{Refused}
use Rattle.swreq_reply.specs.swreq_valid.declared.refused.Refused.TheVariants.{Limit, NotATypeParameter, Memory}
use Rattle.swreq_reply.specs.swreq_valid.Protocols.{protocols_of}
use Rattle.swreq_words.specs.declared.command.CommandLine.{CommandLine}
use Rattle.swreq_words.specs.declared.command.Input.{Input}
use Rattle.swreq_words.specs.declared.command.Input.TheVariants.{OnePart}
use Rattle.swreq_words.specs.Commands.{input as reads}
use Rattle.swreq_world.specs.WorldOf.{IsWorldOf}
use Rattle.swreq_world.specs.Worlds.{SignatureOver, TextWorld}
use Rattle.swreq_world.specs.swreq_lowering.Requirements.{PlacedRequirement}
use Rattle.swreq_reply.specs.declared.outcome.Outcome.{Outcome}
use Rattle.swreq_reply.specs.swreq_query.Ended.{IsWorldOfText}
use Rattle.swreq_reply.specs.swreq_check.Machines.{IsChecked}
use Rattle.swreq_reply.specs.swreq_check.Machines.IsChecked.{protocols_built, protocols_refused}
use Rattle.swreq_reply.proofs.Verdicts.{prints_of_one}
use Rattle.swreq_top.specs.Run.{IsAnswerable, Run, known_for, known_text}
use Rattle.swreq_words.specs.Form.{Says}
use Rattle.swreq_reply.specs.swreq_check.Told.{IsListMade}
use Rattle.swreq_reply.specs.swreq_reqsig.Families.{owned}
use Rattle.swreq_reply.specs.swreq_reqsig.Told.{WasReduced}
use Rattle.swreq_reply.specs.swreq_reqsig.Told.WasReduced.{further, start}
use Rattle.swreq_reply.specs.swreq_check.declared.content.Made.{Made}
use Rattle.swreq_reply.specs.swreq_check.declared.content.Made.TheVariants.{Lines, Lists}
use Rattle.swreq_reply.specs.Commands.{content_of}
use Rattle.swreq_reply.specs.swreq_check.Contents.{makes}
use Rattle.swreq_reply.specs.Inputs.{AreParts, Parts}
use Rattle.swreq_reply.specs.Verdict.{HasNoWorld, HasWorld, IsCutShort, IsRefused, RefusesNames, limits_of}
use Rattle.swreq_reply.specs.Verdict.IsRefused.{bad_calls, in_one_part, misfit, past_a_limit_of_families, too_long, unchecked, without_world}

-- ---- the one skeleton

-- the skeleton of a text that has no parts
abbrev bare_skeleton : Skeleton
bare_skeleton = skeleton_of []

has_no_tokens : HasTokens [] []
has_no_tokens = record {
  utf8 = IsUtf8-nil;
  reads = subst (λ (cs : List ℕ). Reads 0 [] (first_offset cs) (after_byte_order_mark cs) []) (sym chars-nil) done;
}

bare_stands : StandsFor [] bare_skeleton
unfolding source
bare_stands = ([], has_no_tokens, ([], (refl, tt), refl))

only_bare : (s : Skeleton) → StandsFor [] s → s ≡ bare_skeleton
only_bare s stands = one_skeleton [] (one_list []) s bare_skeleton stands bare_stands

-- ---- the text has a world

no_lexical_refusal : (e : LexErr) → HasRefusal [] e → ⊥
no_lexical_refusal e = never_both [] [] e has_no_tokens

no_token_refused : (at : ℕ) (kind : Option Kind) → RefusedFor [] at kind → ⊥
no_token_refused at kind refused = not_both [] (one_list []) bare_skeleton at kind bare_stands refused

no_name_refused : (e : NameErr) → RefusesNames [] e → ⊥
no_name_refused e (within, (s, stands, refuses)) = of_bare (rw (only_bare s stands) at refuses)
  where
    of_bare : RefusesSkeleton [] bare_skeleton e → ⊥
    of_bare (inl (r, refuses, is)) = no_member r refuses.first.is
    of_bare (inr (at, refuses, is)) = none-some refuses.protocol refuses.stands

never_without_world : (refusal : RefusalKind) → HasNoWorld [] refusal → ⊥
never_without_world refusals.Usage has = has
never_without_world _ has = search (no_lexical_refusal, no_token_refused, no_name_refused)

-- ---- its world has nothing

-- the world with no protocols, signatures and queries
abbrev emptied : TextWorld → TextWorld
emptied w = record w { lexicon = record (w.lexicon) { written_order = [] }; signatures = []; queries = [] }

is_empty : (w : TextWorld) → IsWorldOfText [] w → w ≡ emptied w
is_empty w has =
    λ i. record w {
      lexicon = record (w.lexicon) { written_order = world.lexicon.written_order i };
      signatures = world.signatures i;
      queries = world.queries i;
    }
  where
    world : IsWorldOf [] bare_skeleton w
    world = rw (only_bare has.skeleton has.stands) at has.world

-- ---- a completion of no equations over no rules bears no rule

never_passes : (limits : Limits) (trace : List Rule) (which : Which) → Passes limits 0 [] trace which → ⊥
never_passes limits [] which passes = none-some passes.rule passes.is_rule
never_passes limits (rule ∷ trace) which passes = of_birth rule.birth (passes.within.reached.born 0 rule (le_refl 0) refl)
  where
    -- a moment before all rules is an equation
    of_birth : (birth : Birth) → IsBorn 0 [] (rule ∷ trace) 0 birth → ⊥
    of_birth (Given n) born = none-some (born.left, born.right) born.sides.2
    of_birth (Pair i j at) born = omega (arith, born.sides.0, born.settled.rules_at.knows)

-- ---- the check

module _ (w : TextWorld) (limits : Limits) where
  -- no round has equations
  never_stopped : {told : List Event} (which : Which) (trace : List Rule)
      → IsStoppedRound limits (protocols_of (emptied w)) which trace told → ⊥
  never_stopped which trace h =
      let s = stops_here which trace h.turns in
      never_passes limits s.passed.trace s.passed.which
      (subst (λ used. Passes limits 0 (given (protocols_of (emptied w)) used) s.passed.trace s.passed.which)
      (none_of h.used (λ x c. no_member x (round_within h.round x c))) s.stops.1)
    where
      none_of : (used : List Item) → ((x : Item) → Contains used x → ⊥) → used ≡ []
      none_of [] n = refl
      none_of (x ∷ used) n = absurd (n x (first_member x used))

  unrefused : {refused : Refused} {told : List Event} → IsChecked limits (emptied w) (Some refused) told → ⊥
  unrefused (protocols_refused (Limit which trace) real come) = never_stopped which trace come
  unrefused (protocols_refused (NotATypeParameter at) real come) =
      let fails = come.2 in omega (arith, ap length fails.split, length-append fails.before (fails.side ∷ fails.after))
  unrefused (protocols_refused Memory real come) = real refl
  unrefused (protocols_built rules come rest told_is) = elim rest [ ]

-- ---- what is told after the check

none_minimised : (a : Made) (w : TextWorld) (g : SignatureOver PlacedRequirement) → IsListMade a (emptied w) g → ⊥
none_minimised Lines w g (q, has, asks, is) = no_member q has
none_minimised Lists w g has = no_member g has
none_minimised _ w g asked = asked

-- one goes through no more requirements than there are
gone_within : {limits : Limits} {w : TextWorld} {n : ℕ} {flags : List Bool} {told : List Event} → WasReduced limits w n flags told
    → n ≤ length (owned w)
gone_within (start e f untold) = omega (arith, e)
gone_within (further h m e) = omega (arith, gone_within h)

-- ---- its verdict

-- The command reads a text of one part, and the input has nothing.
module _ (line : CommandLine) (one : reads line.command ≡ OnePart) where
  nothing_in : (p : Parts) → AreParts line.command [] p → p.source ≡ []
  nothing_in p are = (rw one at are.divided).0 ∙ are.whole

  empty_world : (w : TextWorld) → HasWorld line [] w → w ≡ emptied w
  empty_world w has = is_empty w (rw (nothing_in has.parts has.are) at has.of_text)

  -- nothing refuses it, and in minimising no round passes a limit
  empty_unrefused : (o : Outcome) (told : List Event) → IsRefused line [] o told ⊎ IsCutShort line [] o told → ⊥
  empty_unrefused o told (inl (too_long long is untold)) = omega (arith, long)
  empty_unrefused o told (inl (in_one_part within two lacks is untold)) = cc
  empty_unrefused o told (inl (without_world p are refusal has is untold)) =
      never_without_world refusal (rw (nothing_in p are) at has)
  empty_unrefused o told (inl (unchecked w refused checks has checked is)) =
      unrefused w (limits_of line) (rw (empty_world w has) at checked)
  empty_unrefused o told (inl (misfit w n judges has found is untold)) = (prints_of_one line one).0 judges
  empty_unrefused o told (inl (past_a_limit_of_families which trace c asked stops is)) =
      omega (arith, gone_within stops.gone, ap (λ (w : TextWorld). length (owned w)) (empty_world c.world c.has_world))
  empty_unrefused o told (inl (bad_calls refusal c asked refuses untold is)) = (prints_of_one line one).1 asked
  empty_unrefused o told (inr cut) =
      let c = cut.check in
      none_minimised (makes (content_of line)) c.world cut.fails.g (rw (empty_world c.world c.has_world) at cut.fails.asked)

-- ---- runs over a source that has nothing left

-- the text of a command that reads one is that of the source
is_source : (i : Input) (n : ℕ) → i ≡ OnePart → known_for i n (Some []) ≡ Some []
is_source i n one = ap (λ (j : Input). known_for j n (Some [])) one

-- Such a command is answered over such a source.
pub empty_is_answerable : (r : Run) (line : CommandLine) → Says r.words line → reads line.command ≡ OnePart → r.before.left ≡ Some []
    → IsAnswerable r
empty_is_answerable r line says one empty =
    (line, says, ([], ap (known_text line) empty ∙ is_source (reads line.command) line.count one, empty_unrefused line one))
