-- A fault that is handed on.
use Rattle.std.proofs.Common.{Err, IfErr, IsErrAnd, Ok, Result}

pub handed_on : {A E : Type 0} {P G : E → Type 0} (result : Result A E) → IsErrAnd result G → ((e : E) → G e → P e) → IfErr result P
handed_on (Ok x) given is = tt
handed_on (Err e) given is = is e given
