-- What a request needs of each account.
use Rattle.std.proofs.Common.{◌≡◌, refl}
use Rattle.vx_base.specs.declared.quota.Need.{Need}

pub need_is : (x y : Need) → x.ast ≡ y.ast → x.bio ≡ y.bio → x.dio ≡ y.dio → x.byt ≡ y.byt → x.tqe ≡ y.tqe → x ≡ y
need_is x y a b d t q = let e : record { ast = x.ast; bio = x.bio; dio = x.dio; byt = x.byt; tqe = x.tqe } ≡ y = rw (a, b, d, t, q) refl in e
