-- What holds whether a call went well or not.
use Rattle.std.proofs.Common.{OnErr, Result, Ok, Err}

pub on_err_too : {T E P : Type 0} (r : Result T E) → P → OnErr r P
on_err_too (Ok x) p = tt
on_err_too (Err e) p = p
