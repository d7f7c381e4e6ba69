-- What a trader may rely on, of any quantity and any level. Orders go by their places, the oldest at 0.
use Rattle.std.specs.Prelude.{◌≡◌, ℕ, ◌<◌, ◌≤◌, List, length, sum, slice_index}
use Rattle.allocation.specs.Fifo.{fifo}
use Rattle.allocation.specs.ProRata.{traded, share, remainder, pro_rata}

-- the rounded-down share of the order at `place`
abbrev pub share_at : ℕ → List ℕ → ℕ → ℕ
share_at quantity lots place = share (traded quantity lots) (sum lots) (slice_index lots place)

-- an incoming order of at least all the lots fills every order
abbrev pub FillsAll : Type 0
FillsAll = (quantity : ℕ) (lots : List ℕ) → sum lots ≤ quantity → (fifo quantity lots ≡ lots) × (pro_rata quantity lots ≡ lots)

-- FIFO fills an order only where each older one is filled whole
abbrev pub InTurn : Type 0
InTurn = (quantity : ℕ) (lots : List ℕ) (older younger : ℕ) → older < younger → 0 < slice_index (fifo quantity lots) younger → slice_index (fifo quantity lots) older ≡ slice_index lots older

-- pro-rata gives no order less than its share
abbrev pub AtLeastTheShare : Type 0
AtLeastTheShare = (quantity : ℕ) (lots : List ℕ) (place : ℕ) → share_at quantity lots place ≤ slice_index (pro_rata quantity lots) place

-- rounding leaves a remainder of fewer lots than there are orders
abbrev pub RemainderIsSmall : Type 0
RemainderIsSmall = (quantity : ℕ) (lots : List ℕ) → 0 < length lots → remainder quantity lots < length lots

-- pro-rata gives an order more than its share only where each older one is filled whole
abbrev pub RemainderInTurn : Type 0
RemainderInTurn = (quantity : ℕ) (lots : List ℕ) (older younger : ℕ) → older < younger → share_at quantity lots younger < slice_index (pro_rata quantity lots) younger → slice_index (pro_rata quantity lots) older ≡ slice_index lots older
