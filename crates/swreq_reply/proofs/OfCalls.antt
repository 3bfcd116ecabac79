-- Where a second part stands for none or a name of its calls is refused.
use Rattle.std.proofs.Common.{◌≡◌, ◌≢◌, ◌∙◌, refl, sym, ap, subst, ℕ, List, Contains}
use Rattle.swreq_print.specs.swreq_lex.declared.refusal.LexErr.{LexErr}
use Rattle.swreq_print.specs.swreq_lex.declared.token.Token as lexed
use Rattle.swreq_print.specs.swreq_lex.Refusals.{HasRefusalFrom}
use Rattle.swreq_print.specs.swreq_lex.Tokens.{HasTokensFrom}
use Rattle.swreq_print.specs.swreq_decl.declared.refusal.ParseErr.{ParseErr}
use Rattle.swreq_print.specs.swreq_decl.declared.refusal.ParseErr.TheVariants as grammar
use Rattle.swreq_print.specs.swreq_decl.declared.skeleton.CallDecl.{CallDecl}
use Rattle.swreq_print.specs.swreq_decl.Calls.{IsReason, RefusedAt, StandsFor}
use Rattle.swreq_print.proofs.swreq_lemmas.Members.{no_member}
use Rattle.swreq_valid.specs.swreq_resolve.declared.refusal.NameErr.{NameErr}
use Rattle.swreq_valid.specs.swreq_resolve.declared.refusal.Refusal.{Refusal}
use Rattle.swreq_valid.specs.swreq_resolve.Errors.{error_of}
use Rattle.swreq_valid.proofs.swreq_resolve.Order.{one_first}
use Rattle.swreq_print.specs.declared.refusal.RefusalKind.{RefusalKind}
use Rattle.swreq_valid.specs.swreq_world.Worlds.{TextWorld}
use Rattle.swreq_subst.specs.Refusals.{RefusesCalls, refusals}
use Rattle.swreq_reply.specs.Outputs.{HasCalls}
use Rattle.swreq_reply.specs.Inputs.{Parts, second_at}
use Rattle.swreq_reply.specs.Reports.{name_refusal, refusal_of}
use Rattle.swreq_reply.specs.Verdict.{RefusesSecond}
use Rattle.swreq_reply.specs.Verdict.RefusesSecond.{bad_name, no_calls}

-- what the crates below say of every part of a text
pub record IsOnePart (text : List ℕ) (from : ℕ) : Type 0 where
  pub refusal : (d e : LexErr) → HasRefusalFrom text from d → HasRefusalFrom text from e → d ≡ e
  pub no_refusal : (ts : List lexed.Token) (e : LexErr) → HasTokensFrom text from ts → ¬ (HasRefusalFrom text from e)
  pub calls : (a b : List CallDecl) → StandsFor text from a → StandsFor text from b → a ≡ b
  pub token : (at place : ℕ) → RefusedAt text from at → RefusedAt text from place → at ≡ place
  pub no_token : (a : List CallDecl) (at : ℕ) → StandsFor text from a → ¬ (RefusedAt text from at)

module _ (text : List ℕ) (from : ℕ) (one : IsOnePart text from) where
  -- a part has one reason
  one_reason : (d e : ParseErr) → d ≢ grammar.Memory → e ≢ grammar.Memory → IsReason text from d → IsReason text from e → d ≡ e
  one_reason grammar.Memory e real too h k = absurd (real refl)
  one_reason d grammar.Memory real too h k = absurd (too refl)
  one_reason (grammar.Unsupported at kind) e real too h k = absurd h
  one_reason d (grammar.Unsupported at kind) real too h k = absurd k
  one_reason (grammar.Lex f) (grammar.Lex g) real too h k = ap (λ (z : LexErr). grammar.Lex z) (one.refusal f g h k)
  one_reason (grammar.Lex f) (grammar.Syntax at) real too h k = absurd (one.no_refusal k.0 f k.1 h)
  one_reason (grammar.Syntax at) (grammar.Lex g) real too h k = absurd (one.no_refusal h.0 g h.1 k)
  one_reason (grammar.Syntax at) (grammar.Syntax place) real too h k = ap (λ (z : ℕ). grammar.Syntax z) (one.token at place h k)

  -- and none where it stands for calls
  no_reason : (ds : List CallDecl) (e : ParseErr) → e ≢ grammar.Memory → StandsFor text from ds → IsReason text from e → ⊥
  no_reason ds grammar.Memory real stands h = real refl
  no_reason ds (grammar.Lex f) real stands h = one.no_refusal stands.0 f stands.1 h
  no_reason ds (grammar.Syntax at) real stands h = one.no_token ds at stands h
  no_reason ds (grammar.Unsupported at kind) real stands h = h

module _ (w : TextWorld) (p : Parts) (one : IsOnePart p.input (second_at p)) where
  -- what is refused of calls for which the part stands is refused of all such calls
  same_calls : (ds es : List CallDecl) (e : NameErr) → StandsFor p.input (second_at p) ds → StandsFor p.input (second_at p) es
      → RefusesCalls w p.input ds e → RefusesCalls w p.input es e
  same_calls ds es e stands also = subst (λ (cs : List CallDecl). RefusesCalls w p.input cs e) (one.calls ds es stands also)

  -- a second part is refused in one way
  pub one_second : (a b : RefusalKind) → RefusesSecond w p a → RefusesSecond w p b → a ≡ b
  one_second a b (no_calls d real h is) (no_calls e too k other) =
      is ∙ ap refusal_of (one_reason p.input (second_at p) one d e real too h k) ∙ sym other
  one_second a b (no_calls d real h is) (bad_name es f stands refuses other) =
      absurd (no_reason p.input (second_at p) one es d real stands h)
  one_second a b (bad_name ds e stands refuses is) (no_calls d real h other) =
      absurd (no_reason p.input (second_at p) one ds d real stands h)
  one_second a b (bad_name ds e stands (q, first, at) is) (bad_name es f also refuses other) =
      let (r, begins, place) = same_calls es ds f also stands refuses in
      let same : e ≡ f = at ∙ ap error_of (one_first (refusals w p.input ds) q r first begins) ∙ sym place in
      is ∙ ap name_refusal same ∙ sym other

  -- and not where no name of its calls is refused
  pub never_second : (a : RefusalKind) → RefusesSecond w p a → HasCalls w p → ⊥
  never_second a (no_calls d real h is) (ds, stands, nothing) = no_reason p.input (second_at p) one ds d real stands h
  never_second a (bad_name es e also refuses is) (ds, stands, nothing) =
      let (r, first, at) = same_calls es ds e also stands refuses in
      no_member r (subst (λ (rs : List Refusal). Contains rs r) nothing first.is)
