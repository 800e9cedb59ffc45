-- What a call answered whose error was mapped.
use Rattle.std.proofs.Common.{◌≡◌, Result, Ok, Err, sym, subst}
use Rattle.std.specs.Result.{MatchResult, IsErrAnd, IfOk}
use Rattle.std.proofs.lemmas.Result.{err_from_is_err_and}

pub ok_before : {T D E : Type 0} (r : Result T E) (s : Result T D) (x : T) (Q : E → D → Type 0) → MatchResult r (λ y. s ≡ Ok y) (λ e. IsErrAnd s (Q e)) → s ≡ Ok x → r ≡ Ok x
ok_before (Ok y) s x Q cases is = cc
ok_before (Err e) s x Q cases is = absurd (rw is at cases)

-- what is known of a value stays known
pub ok_behind : {T D E : Type 0} (r : Result T E) (s : Result T D) (P R : T → Type 0) (Q : E → D → Type 0) → MatchResult r (λ y. s ≡ Ok y) (λ e. IsErrAnd s (Q e)) → ((x : T) → P x → R x) → IfOk r P → IfOk s R
ok_behind (Ok y) s P R Q cases goes h = subst (λ x. IfOk x R) (sym cases) (goes y h)
ok_behind (Err e) s P R Q cases goes h = let p = err_from_is_err_and s cases in subst (λ x. IfOk x R) (sym p.1) tt
