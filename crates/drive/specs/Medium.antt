-- What a drive means: a row of blocks of 512 bytes, what is read of them, and what a power cut may leave of them.
-- Every journal proof rests on this file and on Act.antt.
use Rattle.std.specs.Prelude.{◌≡◌, ℕ, ◌<◌, ◌⊎◌, List, length, ◌≢◌}
use Rattle.drive.specs.Block.{block_size}

-- how many blocks there are, and the bytes that a read of each gives
pub record Visible : Type 0 where
  pub count : ℕ
  pub shown : ℕ → List ℕ

-- the contents that may stand in each block after a power cut, and whether the block is settled
pub record Durable : Type 1 where
  pub stands : ℕ → List ℕ → Type 0
  pub settled : ℕ → Type 0

-- both together
pub record Medium : Type 1 where
  pub count : ℕ
  pub shown : ℕ → List ℕ
  pub stands : ℕ → List ℕ → Type 0
  pub settled : ℕ → Type 0

-- what a drive `d` means, of a kind of drive that means `visible` and `durable`
abbrev pub medium : {D : Type 0} → (D → Visible) → (D → Durable) → D → Medium
medium visible durable d = record {
  count = (visible d).count;
  shown = (visible d).shown;
  stands = (durable d).stands;
  settled = (durable d).settled;
}

-- every block that is shown has 512 bytes
abbrev pub Sized : Visible → Type 0
Sized v = (b : ℕ) → b < v.count → length (v.shown b) ≡ block_size

-- what is shown may stand, and nothing else may where the block is settled
pub record Sound (d : Medium) : Type 0 where
  pub holds : (b : ℕ) → b < d.count → d.stands b (d.shown b)
  pub only : (b : ℕ) (c : List ℕ) → b < d.count → d.settled b → d.stands b c → c ≡ d.shown b

-- a block that a call leaves alone: it shows the same bytes, no more contents may stand in it, and it stays settled
pub record Untouched (d e : Medium) (b : ℕ) : Type 0 where
  pub same : e.shown b ≡ d.shown b
  pub keeps : (c : List ℕ) → e.stands b c → d.stands b c
  pub stays : d.settled b → e.settled b

-- a write of `bytes` to the block `at` led from `d` to `e`
pub record Written (d : Medium) (at : ℕ) (bytes : List ℕ) (e : Medium) : Type 0 where
  pub as_many : e.count ≡ d.count
  pub here : e.shown at ≡ bytes
  pub gains : (c : List ℕ) → e.stands at c → d.stands at c ⊎ (c ≡ bytes)
  pub others : (b : ℕ) → b < d.count → (b ≢ at) → Untouched d e b

-- a flush led from `d` to `e`
pub record Flushed (d e : Medium) : Type 0 where
  pub as_many : e.count ≡ d.count
  pub same : (b : ℕ) → b < d.count → e.shown b ≡ d.shown b
  pub settles : (b : ℕ) → b < d.count → e.settled b

-- a power cut at `d` leaves `e`: each block, free of the others, holds a content that may stand there, or junk where it is not settled;
-- what it holds is then shown and settled. `e` may be the meaning of another drive, or of bare memory; as these are `Sized`, junk has 512 bytes too.
pub record CutAt (junk : List ℕ → Type 0) (d e : Medium) : Type 0 where
  pub as_many : e.count ≡ d.count
  pub left : (b : ℕ) → b < d.count → d.stands b (e.shown b) ⊎ ((d.settled b → ⊥) × junk (e.shown b))
  pub settles : (b : ℕ) → b < d.count → e.settled b
