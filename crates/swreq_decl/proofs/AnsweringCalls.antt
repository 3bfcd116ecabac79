-- What is told of the tokens of calls is the exact answer.
use Rattle.std.proofs.Common.{◌≡◌, ℕ, ◌⊎◌, inl, inr, List, length, Result, Ok, Err, IfOk, refl, sym, ap, subst, ◌∙◌}
use Rattle.std.specs.Prelude.{IfErr, MatchResult, Vec}
use Rattle.std.specs.declared.alloc.Global.{Global}
use Rattle.swreq_lex.specs.declared.token.Token as lexed
use Rattle.swreq_lex.specs.declared.refusal.LexErr.{LexErr}
use Rattle.swreq_lex.specs.Tokens.{HasTokensFrom}
use Rattle.swreq_lex.specs.Refusals.{HasRefusalFrom}
use Rattle.swreq_grammar.specs.declared.token.Token.{Token}
use Rattle.swreq_grammar.specs.declared.stop.Stop.{Stop}
use Rattle.swreq_grammar.specs.declared.stop.Stop.TheVariants as stops
use Rattle.swreq_grammar.specs.Gives.{Fails}
use Rattle.swreq_grammar.specs.Reader.{Fault, read_whole}
use Rattle.swreq_grammar.proofs.Whole.{whole_matches, whole_refusal, one_value, one_refusal, text_not_refused}
use Rattle.swreq_decl.specs.declared.terminal.Terminal.{Terminal}
use Rattle.swreq_decl.specs.declared.kind.Kind.{Kind}
use Rattle.swreq_decl.specs.declared.skeleton.CallDecl.{CallDecl}
use Rattle.swreq_decl.specs.declared.refusal.ParseErr.{ParseErr}
use Rattle.swreq_decl.specs.declared.refusal.ParseErr.TheVariants as errors
use Rattle.swreq_decl.specs.Terminals.{number, with_terminals}
use Rattle.swreq_decl.specs.Skeletons.{start_of}
use Rattle.swreq_decl.specs.Calls.{AreCalls, AreRefused, IsReason, RefusedAt, StandsFor, Tells, calls, error_of}
use Rattle.swreq_decl.proofs.Predictive.{calls_are_predictive, calls_are_well_labelled}

-- ---- over tokens

-- tokens are these calls or those, which are the same
one_list : (ts : List (Token Terminal)) (a b : List CallDecl) → AreCalls ts a → AreCalls ts b → a ≡ b
one_list ts a b h k = one_value number calls calls_are_predictive ts a b h k

-- tokens that are calls are not refused
not_refused : (end : ℕ) (ts : List (Token Terminal)) (a : List CallDecl) (at : ℕ) → AreCalls ts a → AreRefused end ts at → ⊥
not_refused end ts a at h r = text_not_refused number calls ts a h r.1.0 r.0.0 r.1.1 r.1.2

one_place : (end : ℕ) (ts : List (Token Terminal)) (at there : ℕ) → AreRefused end ts at → AreRefused end ts there → at ≡ there
one_place end ts at there a b =
    a.2 ∙ ap (λ (f : Fault Terminal Kind). start_of end f.0) (one_refusal number calls ts a.0 b.0 a.1 b.1) ∙ sym b.2

pub read_are_calls : (ts : List (Token Terminal)) (found : List CallDecl) → read_whole number calls ts ≡ Ok found → AreCalls ts found
read_are_calls ts found e = whole_matches number calls calls_are_predictive ts found e

pub refused_tells : (end : ℕ) (ts : List (Token Terminal)) (stop : Stop Terminal Kind) → Fails stop (read_whole number calls ts)
    → Tells end ts (Err (error_of end stop))
refused_tells end ts stops.Memory h = tt
refused_tells end ts (stops.Refused rest label) h =
    ((rest.now, label), whole_refusal number calls calls_are_predictive calls_are_well_labelled ts (rest.now, label) h, refl)

some_verdict : (end : ℕ) (ts : List (Token Terminal)) → ((a : List CallDecl) × AreCalls ts a) ⊎ ((at : ℕ) × AreRefused end ts at)
some_verdict end ts = go (read_whole number calls ts) refl
  where
    go : (r : Result (List CallDecl) (Fault Terminal Kind)) → read_whole number calls ts ≡ r
        → ((a : List CallDecl) × AreCalls ts a) ⊎ ((at : ℕ) × AreRefused end ts at)
    go (Ok a) e = inl (a, read_are_calls ts a e)
    go (Err fault) e =
        inr (start_of end fault.0, (fault, whole_refusal number calls calls_are_predictive calls_are_well_labelled ts fault e, refl))

-- ---- over a part

module _ (text : List ℕ) (from : ℕ) where
  -- The part has one list of tokens at most.
  abbrev OneList : Type 0
  OneList = (ts us : List lexed.Token) → HasTokensFrom text from ts → HasTokensFrom text from us → ts ≡ us

  pub one_list_of : OneList → (a b : List CallDecl) → StandsFor text from a → StandsFor text from b → a ≡ b
  one_list_of one a b h k =
      one_list (with_terminals text h.0) a b h.2 (subst (λ ts. AreCalls (with_terminals text ts) b) (one k.0 h.0 k.1 h.1) k.2)

  pub verdict_of : (ts : List lexed.Token) → HasTokensFrom text from ts
      → ((a : List CallDecl) × StandsFor text from a) ⊎ ((at : ℕ) × RefusedAt text from at)
  verdict_of ts h = go (some_verdict (length text) (with_terminals text ts))
    where
      go : ((a : List CallDecl) × AreCalls (with_terminals text ts) a) ⊎ ((at : ℕ) × AreRefused (length text) (with_terminals text ts) at)
          → ((a : List CallDecl) × StandsFor text from a) ⊎ ((at : ℕ) × RefusedAt text from at)
      go (inl a) = inl (a.0, (ts, h, a.1))
      go (inr a) = inr (a.0, (ts, h, a.1))

  pub one_refusal_of : OneList → (at there : ℕ) → RefusedAt text from at → RefusedAt text from there → at ≡ there
  one_refusal_of one at there a b =
      one_place (length text) (with_terminals text a.0) at there a.2
      (subst (λ ts. AreRefused (length text) (with_terminals text ts) there) (one b.0 a.0 b.1 a.1) b.2)

  pub not_both : OneList → (a : List CallDecl) (at : ℕ) → StandsFor text from a → RefusedAt text from at → ⊥
  not_both one a at h r =
      not_refused (length text) (with_terminals text h.0) a at h.2
      (subst (λ ts. AreRefused (length text) (with_terminals text ts) at) (one r.0 h.0 r.1 h.1) r.2)

-- ---- what is answered for a part

module _ (text : List ℕ) (from : ℕ) (found : List lexed.Token) (has : HasTokensFrom text from found)
    (one : (other : List lexed.Token) → HasTokensFrom text from other → found ≡ other)
    (none : (fault : LexErr) → HasRefusalFrom text from fault → ⊥) where
  abbrev Told : Result (Vec CallDecl Global) ParseErr → Type 0
  Told r = Tells (length text) (with_terminals text found) r

  are_calls : (a : List CallDecl) → StandsFor text from a → AreCalls (with_terminals text found) a
  are_calls a h = subst (λ ts. AreCalls (with_terminals text ts) a) (sym (one h.0 h.1)) h.2

  are_refused : (at : ℕ) → RefusedAt text from at → AreRefused (length text) (with_terminals text found) at
  are_refused at h = subst (λ ts. AreRefused (length text) (with_terminals text ts) at) (sym (one h.0 h.1)) h.2

  pub told_ok : (r : Result (Vec CallDecl Global) ParseErr) → Told r → IfOk r (λ a. StandsFor text from a.items)
  told_ok (Ok a) h = (found, has, h)
  told_ok (Err e) h = tt

  pub told_err : (r : Result (Vec CallDecl Global) ParseErr) → Told r → IfErr r (IsReason text from)
  told_err (Ok a) h = tt
  told_err (Err errors.Memory) h = tt
  told_err (Err (errors.Lex fault)) h = absurd h
  told_err (Err (errors.Syntax at)) h = (found, has, h)
  told_err (Err (errors.Unsupported at kind)) h = absurd h

  pub told_calls : (r : Result (Vec CallDecl Global) ParseErr) → Told r → (a : List CallDecl) → StandsFor text from a
      → MatchResult r (λ v. v.items ≡ a) (λ e. e ≡ errors.Memory)
  told_calls (Ok v) h a s = one_list (with_terminals text found) v.items a h (are_calls a s)
  told_calls (Err errors.Memory) h a s = refl
  told_calls (Err (errors.Lex fault)) h a s = absurd h
  told_calls (Err (errors.Syntax at)) h a s = absurd (not_refused (length text) (with_terminals text found) a at (are_calls a s) h)
  told_calls (Err (errors.Unsupported at kind)) h a s = absurd h

  pub told_lex : (r : Result (Vec CallDecl Global) ParseErr) → Told r → (fault : LexErr) → HasRefusalFrom text from fault
      → MatchResult r (λ _. ⊥) (λ e. (e ≡ errors.Memory) ⊎ (e ≡ errors.Lex fault))
  told_lex r h fault s = absurd (none fault s)

  pub told_syntax : (r : Result (Vec CallDecl Global) ParseErr) → Told r → (at : ℕ) → RefusedAt text from at
      → MatchResult r (λ _. ⊥) (λ e. (e ≡ errors.Memory) ⊎ (e ≡ errors.Syntax at))
  told_syntax (Ok v) h at s = not_refused (length text) (with_terminals text found) v.items at h (are_refused at s)
  told_syntax (Err errors.Memory) h at s = inl refl
  told_syntax (Err (errors.Lex fault)) h at s = absurd h
  told_syntax (Err (errors.Syntax there)) h at s =
      inr (ap (λ (k : ℕ). errors.Syntax k) (one_place (length text) (with_terminals text found) there at h (are_refused at s)))
  told_syntax (Err (errors.Unsupported there kind)) h at s = absurd h
