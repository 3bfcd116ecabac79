-- Equality of ids is decided.
use Rattle.std.proofs.Common.{◌≡◌, ap}
use Rattle.std.proofs.Math.Decide.{ℕ_discrete}
use Rattle.swreq_param.specs.declared.ids.NameId.{NameId}
use Rattle.swreq_param.specs.declared.ids.ParamId.{ParamId}
use Rattle.swreq_param.specs.declared.ids.ProtoId.{ProtoId}

pub same_name_id : {a b : NameId} → a.rank ≡ b.rank → a ≡ b
same_name_id e = λ i. record { rank = e i }

pub same_proto_id : {p q : ProtoId} → p.rank ≡ q.rank → p ≡ q
same_proto_id e = λ i. record { rank = e i }

pub same_param_id : {g h : ParamId} → g.depth ≡ h.depth → g.index ≡ h.index → g ≡ h
same_param_id d i = λ j. record { depth = d j; index = i j }

pub names_decided : (a b : NameId) → Dec (a ≡ b)
names_decided a b = elim (ℕ_discrete a.rank b.rank) [ yes e ↦ yes (same_name_id e) | no n ↦ no (λ e. n (ap (λ (z : NameId). z.rank) e)) ]

pub protos_decided : (p q : ProtoId) → Dec (p ≡ q)
protos_decided p q = elim (ℕ_discrete p.rank q.rank) [
  | yes e ↦ yes (same_proto_id e)
  | no n ↦ no (λ e. n (ap (λ (z : ProtoId). z.rank) e))
]

pub params_decided : (g h : ParamId) → Dec (g ≡ h)
params_decided g h = elim (ℕ_discrete g.depth h.depth) [
  | no n ↦ no (λ e. n (ap (λ (z : ParamId). z.depth) e))
  | yes d ↦ elim (ℕ_discrete g.index h.index) [ no n ↦ no (λ e. n (ap (λ (z : ParamId). z.index) e)) | yes i ↦ yes (same_param_id d i) ]
]
