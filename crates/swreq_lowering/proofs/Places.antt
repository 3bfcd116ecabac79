-- Lists that go by places, one more at a time.
use Rattle.std.proofs.Common.{◌≡◌, ℕ, zero, suc, ◌+◌, ◌<◌, ◌≤◌, ◌⊎◌, inl, inr, List, [], ◌∷◌, ◌++◌, length, get_or, take, refl, sym, ap, ◌∙◌, arith, append_assoc, append-nil}
use Rattle.std.proofs.lemmas.List.{length-take-le, take_more}
use Rattle.swreq_param.specs.Terms.{Term}
use Rattle.swreq_lexicon.specs.swreq_decl.declared.skeleton.ParamDecl.{ParamDecl}
use Rattle.swreq_lexicon.specs.swreq_decl.declared.skeleton.Span.{Span}
use Rattle.swreq_lexicon.specs.swreq_decl.declared.skeleton.TypeDecl.{TypeDecl}
use Rattle.swreq_lexicon.specs.swreq_names.declared.signature.Signature.{Signature}
use Rattle.swreq_lowering.specs.declared.context.Context.{Context}
use Rattle.swreq_lowering.specs.Requirements.{argument, arguments}
use Rattle.swreq_lowering.specs.Walk.{in_param, in_params}
use Rattle.swreq_lowering.specs.Words.{WordsView}

-- ---- the bounds of generic parameters

params_push : (w : WordsView) (g : Signature) (k : ℕ) (ps : List ParamDecl) (q : ParamDecl)
    → in_params w g k (ps ++ q ∷ []) ≡ in_params w g k ps ++ in_param w g (k + length ps) q
params_push w g k [] q = let e : k ≡ k + 0 = omega arith in append-nil (in_param w g k q) ∙ ap (λ n. in_param w g n q) e
params_push w g k (p ∷ ps) q =
    let e : k + 1 + length ps ≡ k + suc (length ps) = omega arith in
    ap (λ rs. in_param w g k p ++ rs) (params_push w g (k + 1) ps q ∙ ap (λ n. in_params w g (k + 1) ps ++ in_param w g n q) e)
    ∙ sym (append_assoc (in_param w g k p) (in_params w g (k + 1) ps) (in_param w g (k + suc (length ps)) q))

pub params_more : (w : WordsView) (g : Signature) (ps : List ParamDecl) (i : ℕ) (p : ParamDecl) → i < length ps → p ≡ get_or ps i p
    → in_params w g 0 (take i ps) ++ in_param w g i p ≡ in_params w g 0 (take (i + 1) ps)
params_more w g ps i p h e =
    let n : 0 + length (take i ps) ≡ i = omega (arith, length-take-le i ps (omega arith)) in
    sym (ap (in_params w g 0) (take_more ps i p h) ∙ params_push w g 0 (take i ps) (get_or ps i p)
    ∙ (λ j. in_params w g 0 (take i ps) ++ in_param w g (n j) (sym e j)))

-- ---- arguments

arguments_push : (w : WordsView) (context : Context) (t : Term) (at : ℕ) (ns : List Span) (us : List TypeDecl) (n : Span) (u : TypeDecl)
    → length ns ≡ length us
    → arguments w context t at (ns ++ n ∷ []) (us ++ u ∷ []) ≡ arguments w context t at ns us ++ argument w context t at n u ∷ []
arguments_push w context t at [] [] n u e = refl
arguments_push w context t at [] (v ∷ us) n u e = absurd (omega arith)
arguments_push w context t at (m ∷ ns) [] n u e = absurd (omega arith)
arguments_push w context t at (m ∷ ns) (v ∷ us) n u e =
    ap (λ rs. argument w context t at m v ∷ rs) (arguments_push w context t at ns us n u (omega arith))

pub arguments_more : (w : WordsView) (context : Context) (t : Term) (at : ℕ) (ns : List Span) (us : List TypeDecl) (i : ℕ) (n : Span)
    (u : TypeDecl) → i < length ns → i < length us → n ≡ get_or ns i n → u ≡ get_or us i u
    → arguments w context t at (take i ns) (take i us) ++ argument w context t at n u ∷ []
    ≡ arguments w context t at (take (i + 1) ns) (take (i + 1) us)
arguments_more w context t at ns us i n u h k e f =
    let same : length (take i ns) ≡ length (take i us) = length-take-le i ns (omega arith) ∙ sym (length-take-le i us (omega arith)) in
    (λ j. arguments w context t at (take i ns) (take i us) ++ argument w context t at (e j) (f j) ∷ [])
    ∙ sym (arguments_push w context t at (take i ns) (take i us) (get_or ns i n) (get_or us i u) same)
    ∙ sym (λ j. arguments w context t at (take_more ns i n h j) (take_more us i u k j))

-- Arguments past the shorter list do not count.
pub arguments_all : (w : WordsView) (context : Context) (t : Term) (at : ℕ) (ns : List Span) (us : List TypeDecl) (i : ℕ)
    → (length ns ≤ i) ⊎ (length us ≤ i) → i ≤ length ns → i ≤ length us
    → arguments w context t at (take i ns) (take i us) ≡ arguments w context t at ns us
arguments_all w context t at [] us zero past h k = refl
arguments_all w context t at [] us (suc i) past h k = absurd (omega arith)
arguments_all w context t at (n ∷ ns) [] zero past h k = refl
arguments_all w context t at (n ∷ ns) [] (suc i) past h k = absurd (omega arith)
arguments_all w context t at (n ∷ ns) (u ∷ us) zero (inl p) h k = absurd (omega arith)
arguments_all w context t at (n ∷ ns) (u ∷ us) zero (inr p) h k = absurd (omega arith)
arguments_all w context t at (n ∷ ns) (u ∷ us) (suc i) (inl p) h k =
    ap (λ rs. argument w context t at n u ∷ rs) (arguments_all w context t at ns us i (inl (omega arith)) (omega arith) (omega arith))
arguments_all w context t at (n ∷ ns) (u ∷ us) (suc i) (inr p) h k =
    ap (λ rs. argument w context t at n u ∷ rs) (arguments_all w context t at ns us i (inr (omega arith)) (omega arith) (omega arith))
