-- The fault that a call ends with is the one that stopped it.
use Rattle.std.proofs.Common.{◌≡◌, sym, ◌∙◌, Result, Ok, Err}
use Rattle.std.specs.Result.{IsErrAnd}
use Rattle.pool_map.specs.declared.fault.MapFault.{MapFault}

same_err : {T : Type 0} (a b : MapFault) → ◌≡◌ {A = Result T MapFault} (Err a) (Err b) → a ≡ b
same_err {T} a b e = cc

pub err_by : {T : Type 0} → (answer : Result T MapFault) (why fault : MapFault) → IsErrAnd answer (λ s. s ≡ why) → answer ≡ Err fault → why ≡ fault
err_by {T} (Ok x) why fault e is = absurd e
err_by {T} (Err s) why fault e is = sym e ∙ same_err {T = T} s fault is
