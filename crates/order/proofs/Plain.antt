-- Small facts on values that may be absent and on results.
use Rattle.std.proofs.Common.{◌≡◌, ℕ, Some, Ok, Option, Result, arith}

pub never : ◌≡◌ {A = ℕ} 0 1 → ⊥
never z = omega arith

pub some_same : {A : Type 0} (x y : A) → ◌≡◌ {A = Option A} (Some x) (Some y) → x ≡ y
some_same x y e = cc

pub ok_same : {A E : Type 0} (x y : A) → ◌≡◌ {A = Result A E} (Ok x) (Ok y) → x ≡ y
ok_same x y e = cc
