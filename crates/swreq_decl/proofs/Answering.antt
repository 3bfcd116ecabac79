-- What is told of the tokens of a text is the exact answer.
use Rattle.std.proofs.Common.{◌≡◌, ℕ, ◌⊎◌, inl, inr, List, length, Option, Some, None, Result, Ok, Err, refl, sym, ap, subst, ◌∙◌}
use Rattle.swreq_lex.specs.declared.token.Token as lexed
use Rattle.swreq_lex.specs.declared.refusal.LexErr.{LexErr}
use Rattle.swreq_lex.specs.Tokens.{HasTokens}
use Rattle.swreq_lex.specs.Refusals.{HasRefusal}
use Rattle.swreq_grammar.specs.declared.token.Token.{Token}
use Rattle.swreq_grammar.specs.declared.stop.Stop.{Stop}
use Rattle.swreq_grammar.specs.declared.stop.Stop.TheVariants as stops
use Rattle.swreq_grammar.specs.Reader.{Fault, read_whole}
use Rattle.swreq_grammar.specs.Gives.{Fails}
use Rattle.swreq_grammar.proofs.Whole.{whole_matches, whole_refusal, one_value, one_refusal, text_not_refused}
use Rattle.swreq_decl.specs.declared.terminal.Terminal.{Terminal}
use Rattle.swreq_decl.specs.declared.kind.Kind.{Kind}
use Rattle.swreq_decl.specs.declared.skeleton.Item.{Item}
use Rattle.swreq_decl.specs.declared.skeleton.Skeleton.{Skeleton}
use Rattle.swreq_decl.specs.declared.refusal.ParseErr.{ParseErr}
use Rattle.swreq_decl.specs.declared.refusal.ParseErr.TheVariants as errors
use Rattle.swreq_decl.specs.Terminals.{number, with_terminals}
use Rattle.swreq_decl.specs.Source.{source}
use Rattle.swreq_decl.specs.Skeletons.{Exactly, AreRefused, IsSource, RefusedFor, StandsFor, Tells, refused_kind, start_of, error_of, refused, skeleton_of}
use Rattle.swreq_decl.proofs.Predictive.{source_is_predictive, source_is_well_labelled}

-- ---- over tokens

-- at most one skeleton stands for tokens
pub one_source : (ts : List (Token Terminal)) (s t : Skeleton) → IsSource ts s → IsSource ts t → s ≡ t
one_source ts s t a b = a.2 ∙ ap skeleton_of (one_value number source source_is_predictive ts a.0 b.0 a.1 b.1) ∙ sym b.2

-- tokens for which a skeleton stands are not refused
source_not_refused : (end : ℕ) (ts : List (Token Terminal)) (s : Skeleton) (at : ℕ) (kind : Option Kind) → IsSource ts s
    → AreRefused end ts at kind → ⊥
source_not_refused end ts s at kind a r = text_not_refused number source ts a.0 a.1 r.1.0 r.0.0 r.1.1 r.1.2

-- tokens are refused in one way at most
pub one_refused_source : (end : ℕ) (ts : List (Token Terminal)) (at place : ℕ) (kind other : Option Kind) → AreRefused end ts at kind
    → AreRefused end ts place other → (at ≡ place) × (kind ≡ other)
one_refused_source end ts at there kind other a b =
    let same = one_refusal number source ts a.0 b.0 a.1 b.1 in (
      a.2 ∙ ap (λ (f : Fault Terminal Kind). start_of end f.0) same ∙ sym b.2,
      a.3 ∙ ap (λ (f : Fault Terminal Kind). refused_kind f.1 f.0) same ∙ sym b.3,
    )

-- what was read
pub read_source : (ts : List (Token Terminal)) (parts : List Item) (skeleton : Skeleton) → read_whole number source ts ≡ Ok parts
    → skeleton ≡ skeleton_of parts → IsSource ts skeleton
read_source ts parts skeleton e s = (parts, whole_matches number source source_is_predictive ts parts e, s)

told : (end : ℕ) (ts : List (Token Terminal)) (at : ℕ) (kind : Option Kind) → AreRefused end ts at kind
    → Tells end ts (Err (refused at kind))
told end ts at None r = r
told end ts at (Some kind) r = r

-- what was refused
pub refused_source : (end : ℕ) (ts : List (Token Terminal)) (stop : Stop Terminal Kind) → Fails stop (read_whole number source ts)
    → Tells end ts (Err (error_of end stop))
refused_source end ts stops.Memory h = tt
refused_source end ts (stops.Refused rest label) h =
    told end ts (start_of end rest.now) (refused_kind label rest.now)
    ((rest.now, label), whole_refusal number source source_is_predictive source_is_well_labelled ts (rest.now, label) h, refl, refl)

-- tokens stand for a skeleton or are refused
some_verdict : (end : ℕ) (ts : List (Token Terminal))
    → ((s : Skeleton) × IsSource ts s) ⊎ ((at : ℕ) × (kind : Option Kind) × AreRefused end ts at kind)
some_verdict end ts = go (read_whole number source ts) refl
  where
    go : (r : Result (List Item) (Fault Terminal Kind)) → read_whole number source ts ≡ r
        → ((s : Skeleton) × IsSource ts s) ⊎ ((at : ℕ) × (kind : Option Kind) × AreRefused end ts at kind)
    go (Ok parts) e = inl (skeleton_of parts, read_source ts parts (skeleton_of parts) e refl)
    go (Err fault) e = inr (
      start_of end fault.0,
      refused_kind fault.1 fault.0,
      (fault, whole_refusal number source source_is_predictive source_is_well_labelled ts fault e, refl, refl),
    )

-- ---- over texts

module _ (text : List ℕ) where
  -- the text has one list of tokens at most
  abbrev pub OneList : Type 0
  OneList = (ts us : List lexed.Token) → HasTokens text ts → HasTokens text us → ts ≡ us

  pub one_skeleton : OneList → (s t : Skeleton) → StandsFor text s → StandsFor text t → s ≡ t
  one_skeleton one s t a b =
      one_source (with_terminals text a.0) s t a.2 (subst (λ ts. IsSource (with_terminals text ts) t) (one b.0 a.0 b.1 a.1) b.2)

  pub verdict_of : (ts : List lexed.Token) → HasTokens text ts
      → ((s : Skeleton) × StandsFor text s) ⊎ ((at : ℕ) × (kind : Option Kind) × RefusedFor text at kind)
  verdict_of ts h = go (some_verdict (length text) (with_terminals text ts))
    where
      go : ((s : Skeleton) × IsSource (with_terminals text ts) s)
          ⊎ ((at : ℕ) × (kind : Option Kind) × AreRefused (length text) (with_terminals text ts) at kind)
          → ((s : Skeleton) × StandsFor text s) ⊎ ((at : ℕ) × (kind : Option Kind) × RefusedFor text at kind)
      go (inl a) = inl (a.0, (ts, h, a.1))
      go (inr a) = inr (a.0, a.1, (ts, h, a.2))

  pub one_refusal_of : OneList → (at there : ℕ) (kind other : Option Kind) → RefusedFor text at kind → RefusedFor text there other
      → (at ≡ there) × (kind ≡ other)
  one_refusal_of one at there kind other a b =
      one_refused_source (length text) (with_terminals text a.0) at there kind other a.2
      (subst (λ ts. AreRefused (length text) (with_terminals text ts) there other) (one b.0 a.0 b.1 a.1) b.2)

  pub not_both : OneList → (s : Skeleton) (at : ℕ) (kind : Option Kind) → StandsFor text s → RefusedFor text at kind → ⊥
  not_both one s at kind a b =
      source_not_refused (length text) (with_terminals text a.0) s at kind a.2
      (subst (λ ts. AreRefused (length text) (with_terminals text ts) at kind) (one b.0 a.0 b.1 a.1) b.2)

-- the tokens of the text are these and no others, and no lexical refusal is there
abbrev pub Tokenised : List ℕ → List lexed.Token → Type 0
Tokenised text found = HasTokens text found × ((other : List lexed.Token) → HasTokens text other → found ≡ other)
    × ((fault : LexErr) → HasRefusal text fault → ⊥)

module _ (text : List ℕ) (found : List lexed.Token) (here : Tokenised text found) where
  abbrev Told : Result Skeleton ParseErr → Type 0
  Told r = Tells (length text) (with_terminals text found) r

  stands : (s : Skeleton) → IsSource (with_terminals text found) s → StandsFor text s
  stands s a = (found, here.0, a)

  stood : (s : Skeleton) → StandsFor text s → IsSource (with_terminals text found) s
  stood s a = subst (λ ts. IsSource (with_terminals text ts) s) (sym (here.1 a.0 a.1)) a.2

  is_refused : (at : ℕ) (kind : Option Kind) → RefusedFor text at kind → AreRefused (length text) (with_terminals text found) at kind
  is_refused at kind a = subst (λ ts. AreRefused (length text) (with_terminals text ts) at kind) (sym (here.1 a.0 a.1)) a.2

  pub told_ok : (r : Result Skeleton ParseErr) → Told r → (s : Skeleton) → Exactly (StandsFor text s) (Ok s) r
  told_ok (Ok t) h s = (
    λ e. let same : t ≡ s = cc in subst (StandsFor text) same (stands t h),
    λ a. inl (ap (λ x. Ok x) (one_source (with_terminals text found) t s h (stood s a))),
  )
  told_ok (Err errors.Memory) h s = (λ e. absurd cc, λ a. inr refl)
  told_ok (Err (errors.Lex fault)) h s = absurd h
  told_ok (Err (errors.Syntax at)) h s =
      (λ e. absurd cc, λ a. absurd (source_not_refused (length text) (with_terminals text found) s at None (stood s a) h))
  told_ok (Err (errors.Unsupported at kind)) h s =
      (λ e. absurd cc, λ a. absurd (source_not_refused (length text) (with_terminals text found) s at (Some kind) (stood s a) h))

  pub told_lex : (r : Result Skeleton ParseErr) → Told r → (fault : LexErr) → Exactly (HasRefusal text fault) (Err (errors.Lex fault)) r
  told_lex (Ok t) h fault = (λ e. absurd cc, λ a. absurd (here.2 fault a))
  told_lex (Err errors.Memory) h fault = (λ e. absurd cc, λ a. inr refl)
  told_lex (Err (errors.Lex other)) h fault = absurd h
  told_lex (Err (errors.Syntax at)) h fault = (λ e. absurd cc, λ a. absurd (here.2 fault a))
  told_lex (Err (errors.Unsupported at kind)) h fault = (λ e. absurd cc, λ a. absurd (here.2 fault a))

  pub told_syntax : (r : Result Skeleton ParseErr) → Told r → (at : ℕ) → Exactly (RefusedFor text at None) (Err (errors.Syntax at)) r
  told_syntax (Ok t) h at =
      (λ e. absurd cc, λ a. absurd (source_not_refused (length text) (with_terminals text found) t at None h (is_refused at None a)))
  told_syntax (Err errors.Memory) h at = (λ e. absurd cc, λ a. inr refl)
  told_syntax (Err (errors.Lex fault)) h at = absurd h
  told_syntax (Err (errors.Syntax there)) h at = (
    λ e. let same : there ≡ at = cc in subst (λ n. RefusedFor text n None) same (found, here.0, h),
    λ a. inl (ap (λ n. Err (errors.Syntax n))
        (one_refused_source (length text) (with_terminals text found) there at None None h (is_refused at None a)).0),
  )
  told_syntax (Err (errors.Unsupported there kind)) h at = (
    λ e. absurd cc,
    λ a. absurd (let same =
        (one_refused_source (length text) (with_terminals text found) there at (Some kind) None h (is_refused at None a)).1 in cc),
  )

  pub told_unsupported : (r : Result Skeleton ParseErr) → Told r → (at : ℕ) (kind : Kind)
      → Exactly (RefusedFor text at (Some kind)) (Err (errors.Unsupported at kind)) r
  told_unsupported (Ok t) h at kind = (
    λ e. absurd cc,
    λ a. absurd (source_not_refused (length text) (with_terminals text found) t at (Some kind) h (is_refused at (Some kind) a)),
  )
  told_unsupported (Err errors.Memory) h at kind = (λ e. absurd cc, λ a. inr refl)
  told_unsupported (Err (errors.Lex fault)) h at kind = absurd h
  told_unsupported (Err (errors.Syntax there)) h at kind = (
    λ e. absurd cc,
    λ a. absurd (let same =
        (one_refused_source (length text) (with_terminals text found) there at None (Some kind) h (is_refused at (Some kind) a)).1 in cc),
  )
  told_unsupported (Err (errors.Unsupported there other)) h at kind = (
    λ e. let same : there ≡ at = cc in let also : other ≡ kind = cc in rw (sym same, sym also) (found, here.0, h),
    λ a. inl (let same = one_refused_source (length text) (with_terminals text found) there at (Some other) (Some kind) h
        (is_refused at (Some kind) a) in let also : other ≡ kind = cc in rw (same.0, also) refl),
  )
