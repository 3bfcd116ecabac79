-- At most one list of calls is written.
use Rattle.std.proofs.Common.{◌≡◌, ℕ, List, [], ◌∷◌, Option, Some, None, slice_get, get_or, refl, sym, ap, ap₂, subst, ◌∙◌}
use Rattle.std.specs.Option.{option_map}
use Rattle.std.proofs.lemmas.Option.{get_or_from_slice_get, same_Some, slice_get_within}
use Rattle.swreq_resolve.specs.swreq_decl.declared.skeleton.CallDecl.{CallDecl}
use Rattle.swreq_resolve.specs.swreq_decl.declared.skeleton.Span.{Span}
use Rattle.swreq_resolve.specs.swreq_decl.declared.skeleton.StepDecl.{StepDecl}
use Rattle.swreq_resolve.specs.swreq_decl.declared.skeleton.StepDecl.TheVariants as decls
use Rattle.swreq_resolve.specs.swreq_decl.declared.skeleton.TypeDecl.{TypeDecl}
use Rattle.swreq_resolve.specs.swreq_names.Spaces.{word}
use Rattle.swreq_machine.specs.swreq_param.declared.ids.AssocId.{AssocId}
use Rattle.swreq_machine.specs.swreq_param.declared.ids.NameId.{NameId}
use Rattle.swreq_machine.specs.swreq_param.declared.ids.ProtoId.{ProtoId}
use Rattle.swreq_machine.specs.swreq_param.declared.ids.Step.{Step}
use Rattle.swreq_machine.specs.swreq_param.declared.ids.Step.TheVariants as steps
use Rattle.swreq_machine.specs.swreq_param.Terms.{Term, with_steps}
use Rattle.swreq_machine.specs.swreq_param.Terms.Term.{Generic}
use Rattle.swreq_resolve.specs.swreq_rank.Ranks.{Bytes}
use Rattle.swreq_machine.specs.swreq_lexicon.Views.{LexiconView}
use Rattle.swreq_machine.specs.swreq_lowering.declared.ids.FuncId.{FuncId}
use Rattle.swreq_print.specs.Reading.{TellsApart}
use Rattle.swreq_machine.specs.swreq_world.Lookups.{IsNamedAt}
use Rattle.swreq_machine.specs.swreq_world.ReadBack.{SaysAssociated, SaysName, SaysProtocol, SaysStep, SaySteps}
use Rattle.swreq_machine.specs.swreq_world.Worlds.{WorldOver}
use Rattle.swreq_subst.specs.Calls.{TermCall}
use Rattle.swreq_subst.specs.Saying.{FindSignatures, OneByOne, SayCalls, SaysArgument, SaysCall}
use Rattle.swreq_subst.proofs.Unknown.{are_known}

-- ---- steps

module _ (text : Bytes) (x : LexiconView) (apart : TellsApart x) where
  at_rank : {A : Type 0} (xs : List A) (k : ℕ) (a d : A) → slice_get xs k ≡ Some a → get_or xs k d ≡ a
  at_rank xs k a d e = get_or_from_slice_get xs k a d e

  one_protocol : (s : Span) (p q : ProtoId) → SaysProtocol text x p s → SaysProtocol text x q s → p ≡ q
  one_protocol s p q h k =
      apart.one_protocol p q (slice_get_within x.protocols p.rank (word text s) h) (slice_get_within x.protocols q.rank (word text s) k)
      (at_rank x.protocols p.rank (word text s) [] h ∙ sym (at_rank x.protocols q.rank (word text s) [] k))

  one_name : (s : Span) (a b : NameId) → SaysName text x a s → SaysName text x b s → a ≡ b
  one_name s a b h k =
      apart.one_name a b (slice_get_within x.names a.rank (word text s) h) (slice_get_within x.names b.rank (word text s) k)
      (at_rank x.names a.rank (word text s) [] h ∙ sym (at_rank x.names b.rank (word text s) [] k))

  one_associated : (p a : Span) (d e : AssocId) → SaysAssociated text x d p a → SaysAssociated text x e p a → d ≡ e
  one_associated p a d e h k =
      let proto = one_protocol p h.pair.proto k.pair.proto h.protocol k.protocol in
      let name = one_name a h.pair.name k.pair.name h.name k.name in
      let same : h.pair ≡ k.pair = λ i. record { proto = proto i; name = name i } in
      apart.one_pair d e (slice_get_within x.associated d.rank h.pair h.there) (slice_get_within x.associated e.rank k.pair k.there)
      (at_rank x.associated d.rank h.pair _ h.there ∙ same ∙ sym (at_rank x.associated e.rank k.pair _ k.there))

  one_step : (d : StepDecl) (y z : Step) → SaysStep text x y d → SaysStep text x z d → y ≡ z
  one_step (decls.Plain a) (steps.Name i) (steps.Name j) h k = ap (λ (n : NameId). steps.Name n) (one_name a i j h k)
  one_step (decls.Plain a) (steps.Name i) (steps.Bound j) h k = absurd k
  one_step (decls.Plain a) (steps.Bound i) z h k = absurd h
  one_step (decls.Bound p a) (steps.Name i) z h k = absurd h
  one_step (decls.Bound p a) (steps.Bound i) (steps.Name j) h k = absurd k
  one_step (decls.Bound p a) (steps.Bound i) (steps.Bound j) h k = ap (λ (d : AssocId). steps.Bound d) (one_associated p a i j h k)

  one_steps : (ds : List StepDecl) (ys zs : List Step) → SaySteps text x ys ds → SaySteps text x zs ds → ys ≡ zs
  one_steps [] [] [] h k = refl
  one_steps [] [] (z ∷ zs) h k = absurd k
  one_steps [] (y ∷ ys) zs h k = absurd h
  one_steps (d ∷ ds) [] zs h k = absurd h
  one_steps (d ∷ ds) (y ∷ ys) [] h k = absurd k
  one_steps (d ∷ ds) (y ∷ ys) (z ∷ zs) h k = ap₂ ◌∷◌ (one_step d y z h.0 k.0) (one_steps ds ys zs h.1 k.1)

-- ---- calls

one_by_one : {A B : Type 0} (Is : A → B → Type 0) → ((x z : A) (y : B) → Is x y → Is z y → x ≡ z) → (xs zs : List A) (ys : List B)
    → OneByOne Is xs ys → OneByOne Is zs ys → xs ≡ zs
one_by_one Is one [] [] [] h k = refl
one_by_one Is one [] (z ∷ zs) [] h k = absurd k
one_by_one Is one [] zs (y ∷ ys) h k = absurd h
one_by_one Is one (x ∷ xs) zs [] h k = absurd h
one_by_one Is one (x ∷ xs) [] (y ∷ ys) h k = absurd k
one_by_one Is one (x ∷ xs) (z ∷ zs) (y ∷ ys) h k = ap₂ ◌∷◌ (one x z y h.0 k.0) (one_by_one Is one xs zs ys h.1 k.1)

module _ {R Q : Type 0} (w : WorldOver R Q) (text : Bytes) (found : FindSignatures w) (apart : TellsApart w.lexicon) where
  one_argument : (f : FuncId) (a b : Option Term) (t : TypeDecl) → SaysArgument w text f a t → SaysArgument w text f b t → a ≡ b
  one_argument f None None t h k = refl
  one_argument f None (Some u) t h k = absurd (are_known w text k.steps.steps t.steps k.steps.say h)
  one_argument f (Some u) None t h k = absurd (are_known w text h.steps.steps t.steps h.steps.say k)
  one_argument f (Some u) (Some v) t h k =
      let param = same_Some h.param k.param (sym h.head ∙ k.head) in
      let same = one_steps text w.lexicon apart t.steps h.steps.steps k.steps.steps h.steps.say k.steps.say in
      ap (λ (z : Term). Some z) (h.steps.is ∙ (λ i. with_steps (Generic (param i)) (same i)) ∙ sym k.steps.is)

  one_signature : (outer : Option Span) (name : Span) (f g : FuncId) → IsNamedAt w (option_map (word text) outer) (word text name) f
      → IsNamedAt w (option_map (word text) outer) (word text name) g → f ≡ g
  one_signature outer name f g h k =
      let o = option_map (word text) outer in
      same_Some f g (sym ((found o (word text name) f).1 h) ∙ (found o (word text name) g).1 k)

  one_call : (a b : TermCall) (d : CallDecl) → SaysCall w text a d → SaysCall w text b d → a ≡ b
  one_call a b d h k =
      let f = one_signature d.caller_outer d.caller a.f b.f h.caller k.caller in
      let g = one_signature d.callee_outer d.callee a.g b.g h.callee k.callee in
      let here = subst (λ (i : FuncId). OneByOne (SaysArgument w text i) b.args d.args) (sym f) k.args in
      let args = one_by_one (SaysArgument w text a.f) (one_argument a.f) a.args b.args d.args h.args here in
      λ i. record { f = f i; g = g i; args = args i }

  pub one_list : (cs es : List TermCall) (ds : List CallDecl) → SayCalls w text cs ds → SayCalls w text es ds → cs ≡ es
  one_list cs es ds h k = one_by_one (SaysCall w text) one_call cs es ds h k
