-- What a read or a write answers, in the terms that all contracts share. No refusal has figures.
use Rattle.std.specs.Prelude.{◌≡◌, ℕ, ◌<◌, ◌≤◌, cond, [], Ok, Err, Result, ◌==◌, ◌≢◌, nat_lt}
use Rattle.answers.specs.Answer.{Answer, answered, refused}
use Rattle.drive.specs.Block.{block_size}
use Rattle.drive.specs.declared.refusal.DriveRefusal.{DriveRefusal}
use Rattle.drive.specs.declared.refusal.DriveRefusal.TheVariants.{NoSuchBlock, WrongBuffer}

abbrev pub number_of : DriveRefusal → ℕ
number_of NoSuchBlock = 41
number_of WrongBuffer = 42

abbrev pub answer : {A : Type 0} → Result A DriveRefusal → Answer A
answer (Ok a) = answered a
answer (Err refusal) = refused (number_of refusal) []

-- a call on the block `at` of `count`, with a buffer of `size` bytes
unfoldable pub tested : ℕ → ℕ → ℕ → Answer (Unit {0})
tested count at size = cond (nat_lt at count) (cond (size == block_size) (answered tt) (refused 42 [])) (refused 41 [])

-- the same by facts
pub record Tests (count at size : ℕ) : Type 0 where
  pub no_such_block : count ≤ at → tested count at size ≡ refused 41 []
  pub wrong_buffer : at < count → (size ≢ block_size) → tested count at size ≡ refused 42 []
  pub fits : at < count → size ≡ block_size → tested count at size ≡ answered tt

abbrev pub TestsAsTold : Type 0
TestsAsTold = (count at size : ℕ) → Tests count at size
