-- Options are equal where they have the same case, and equal values in it.
use Rattle.std.proofs.Common.{◌≡◌, Some, None}

pub none_some : {A : Type 0} {x : A} → None ≡ Some x → ⊥
none_some e = cc

pub some_is : {A : Type 0} (x y : A) → Some x ≡ Some y → x ≡ y
some_is x y e = cc
