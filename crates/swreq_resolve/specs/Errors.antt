-- The error that says what is refused of a name.
use Rattle.std.specs.Prelude.{ℕ}
use Rattle.swreq_resolve.specs.declared.refusal.Refusal.{Refusal}
use Rattle.swreq_resolve.specs.declared.refusal.Fault.{Fault}
use Rattle.swreq_resolve.specs.declared.refusal.Fault.TheVariants as faults
use Rattle.swreq_resolve.specs.declared.refusal.NameErr.{NameErr}
use Rattle.swreq_resolve.specs.declared.refusal.NameErr.TheVariants as errors

abbrev pub error_by : Fault → ℕ → NameErr
error_by faults.Duplicate at = errors.Duplicate at
error_by faults.NotAProtocol at = errors.NotAProtocol at
error_by faults.ConcreteType at = errors.ConcreteType at
error_by faults.NoSuchMember at = errors.NoSuchMember at
error_by faults.UnknownSignature at = errors.UnknownSignature at
error_by faults.WrongArity at = errors.WrongArity at

abbrev pub error_of : Refusal → NameErr
error_of r = error_by r.fault r.at
