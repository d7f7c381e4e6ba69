-- Options, taken apart.
use Rattle.std.proofs.Common.{◌≡◌, ℕ, Bool, true, false, cond, Some, None, Option, refl, arith}
use Rattle.fields.specs.Field.{bind}

module _ {A : Type 0} where
  pub none_some : {x : A} → ◌≡◌ {A = Option A} None (Some x) → ⊥
  none_some e = let z : ◌≡◌ {A = ℕ} 0 1 = cc in omega arith

  pub some_same : {x y : A} → ◌≡◌ {A = Option A} (Some x) (Some y) → x ≡ y
  some_same e = cc

  pub cond_some : (b : Bool) (x y : A) → cond b (Some x) None ≡ Some y → (b ≡ true) × (x ≡ y)
  cond_some true x y e = (refl, some_same e)
  cond_some false x y e = absurd (none_some e)

  pub bind_some : {B : Type 0} (o : Option A) (f : A → Option B) (y : B) → bind o f ≡ Some y → (x : A) × (o ≡ Some x) × (f x ≡ Some y)
  bind_some None f y e = let z : ◌≡◌ {A = ℕ} 0 1 = cc in absurd (omega arith)
  bind_some (Some x) f y e = (x, refl, e)
