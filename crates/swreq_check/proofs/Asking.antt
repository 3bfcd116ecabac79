-- By whom what a query asks is answered: a minimised list by none, and all else by the machine of the signature.
use Rattle.std.proofs.Common.{◌≡◌, ◌≢◌, refl, sym, subst, ℕ, Bool, true, List, Contains, Some, true≢false, eq-eqb}
use Rattle.std.proofs.lemmas.Bool.{eqb-true}
use Rattle.std.proofs.lemmas.Option.{none-some, same_Some}
use Rattle.swreq_machine.specs.swreq_param.Terms.{Term}
use Rattle.swreq_machine.specs.swreq_lowering.declared.ids.Asks.{Asks}
use Rattle.swreq_machine.specs.swreq_lowering.declared.ids.Asks.TheVariants as ids
use Rattle.swreq_machine.specs.swreq_lowering.declared.ids.FuncId.{FuncId}
use Rattle.swreq_machine.specs.swreq_lowering.declared.ids.Query.{Query}
use Rattle.swreq_machine.specs.swreq_lowering.ByTable.{asks_by}
use Rattle.swreq_machine.specs.swreq_lowering.Queries.TermAsks.{AsksSignature}
use Rattle.swreq_check.specs.Wanted.{is_at, is_list_asked, list_asked, list_where, machine_asked, machine_where}
use Rattle.swreq_lines.proofs.swreq_rank.Tests.{passes}

-- ---- minimised lists

-- the query asks for the minimised list of the signature at this place
abbrev pub lists_at : ℕ → Query → Bool
lists_at k q = is_at k (list_asked q)

-- what a query for a list asks is the signature of the list
list_of : (a : Asks) (g f : FuncId) → list_where a g ≡ Some f → g ≡ f
list_of ids.Signature g f is = same_Some g f is
list_of _ g f is = absurd (none-some f is)

pub listed_function : (q : Query) (f : FuncId) → list_asked q ≡ Some f → q.f ≡ f
listed_function q f = list_of q.asks q.f f

-- a query for a list asks for it
pub is_listed : (qs : List Query) (q : Query) → Contains qs q → q.asks ≡ ids.Signature → is_list_asked qs q.f.place ≡ true
is_listed qs q c e =
    passes (lists_at q.f.place) qs q c
    (subst (λ (a : Asks). is_at q.f.place (list_where a q.f) ≡ true) (sym e) (eq-eqb _ _ refl))

-- and where one is asked, there is a query for it
asking : (k : ℕ) (a : Asks) (f : FuncId) → is_at k (list_where a f) ≡ true → (a ≡ ids.Signature) × (f.place ≡ k)
asking k ids.Signature f h = (refl, eqb-true f.place k h)
asking k _ f h = absurd (true≢false (sym h))

pub asking_list : (k : ℕ) (q : Query) → lists_at k q ≡ true → (q.asks ≡ ids.Signature) × (q.f.place ≡ k)
asking_list k q = asking k q.asks q.f

-- ---- machines

-- the machine that answers a query is that of the signature that it asks
machine_of : (a : Asks) (g f : FuncId) → machine_where a g ≡ Some f → g ≡ f
machine_of ids.Signature g f e = absurd (none-some f e)
machine_of _ g f e = same_Some g f e

pub machine_function : (q : Query) (f : FuncId) → machine_asked q ≡ Some f → q.f ≡ f
machine_function q f = machine_of q.asks q.f f

-- a query that is answered by a machine asks no list
types_where : (a : Asks) (g f : FuncId) → machine_where a g ≡ Some f → a ≢ ids.Signature
types_where ids.Signature g f e asks = none-some f e
types_where (ids.Reduced t) g f e asks = cc
types_where (ids.Requirement r) g f e asks = cc

pub asks_types : (q : Query) (f : FuncId) → machine_asked q ≡ Some f → q.asks ≢ ids.Signature
asks_types q f = types_where q.asks q.f f

-- and so it is over type parameters
types_by : (terms : List Term) (a : Asks) → a ≢ ids.Signature → asks_by terms a ≢ AsksSignature
types_by terms ids.Signature none e = none refl
types_by terms (ids.Reduced t) none e = cc
types_by terms (ids.Requirement r) none e = cc

pub asks_types_by : (terms : List Term) (q : Query) (f : FuncId) → machine_asked q ≡ Some f → asks_by terms q.asks ≢ AsksSignature
asks_types_by terms q f e = types_by terms q.asks (asks_types q f e)
