-- Blocks of a memory, read and written.
use Rattle.std.specs.Prelude.{◌≡◌, ℕ, zero, suc, ◌+◌, ◌-◌, ◌*◌, ◌<◌, ◌≤◌, List, ◌++◌, length, take, drop, Vec, ◌≢◌, slice_index_or, refl}
use Rattle.std.proofs.Common.{sym, ap, ◌∙◌, inl, inr, arith, take-append-drop, take-add}
use Rattle.std.specs.Simd.{first_chunks}
use Rattle.std.specs.Vec.{with_items}
use Rattle.std.proofs.lemmas.List.{length-take, length-drop, length-append, drop-drop, drop-take, with_items_is}
use Rattle.std.proofs.lemmas.Slice.{take-put_mid_below, drop-put_mid, between-put_mid}
use Rattle.std.proofs.lemmas.Bool.{cases_order}
use Rattle.drive.specs.Block.{block_size, whole, block, put, spare, joined}
use Rattle.drive.specs.Medium.{Written}
use Rattle.drive.specs.Plain.{bare}
use Rattle.drive.specs.Size.{within}

-- the whole blocks of a memory, one by one
pub chunk_block : (n b : ℕ) (m d : List ℕ) → b < n → slice_index_or (first_chunks block_size n m) b d ≡ block m b
chunk_block zero b m d h = absurd (omega arith)
chunk_block (suc n) zero m d h = refl
chunk_block (suc n) (suc b) m d h =
    let next : block_size + b * block_size ≡ suc b * block_size = omega arith in
    chunk_block n b (drop block_size m) d (omega arith) ∙ ap (take block_size) (drop-drop (b * block_size) block_size m ∙ ap (λ k. drop k m) next)

pub length_put : (m : List ℕ) (at : ℕ) (bytes : List ℕ) → at < whole (length m) → length bytes ≡ block_size → length (put m at bytes) ≡ length m
length_put m at bytes h e = let w = within (length m) at h in simp (length-append, length-take, length-drop) (omega arith)

pub block_put : (m : List ℕ) (at : ℕ) (bytes : List ℕ) → at < whole (length m) → length bytes ≡ block_size → block (put m at bytes) at ≡ bytes
block_put m at bytes h e =
    let w = within (length m) at h in
    let n : at * 512 + 512 - at * 512 ≡ 512 = omega arith in
    ap (λ k. take k (drop (at * 512) (put m at bytes))) (sym n) ∙ between-put_mid (at * 512) 512 m bytes (at * 512 + 512) (omega arith) (omega arith)

pub block_put_other : (m : List ℕ) (at b : ℕ) (bytes : List ℕ) → at < whole (length m) → length bytes ≡ block_size → (b ≢ at) → block (put m at bytes) b ≡ block m b
block_put_other m at b bytes h e ne =
    let w = within (length m) at h in
    elim (cases_order b at) [
      | inl same ↦ absurd (ne same)
      | inr (inl below) ↦
          let le : b * 512 + 512 ≤ at * 512 = omega arith in
          sym (drop-take (b * 512) 512 (put m at bytes)) ∙ ap (drop (b * 512)) (take-put_mid_below (at * 512) 512 m bytes (b * 512 + 512) le (omega arith)) ∙ drop-take (b * 512) 512 m
      | inr (inr above) ↦
          ap (take 512) (drop-put_mid (at * 512) 512 m bytes (b * 512) (omega arith) (omega arith) e)
    ]

pub spare_put : (m : List ℕ) (at : ℕ) (bytes : List ℕ) → at < whole (length m) → length bytes ≡ block_size → spare (put m at bytes) ≡ spare m
spare_put m at bytes h e =
    let w = within (length m) at h in
    ap (λ n. drop (whole n * 512) (put m at bytes)) (length_put m at bytes h e) ∙ drop-put_mid (at * 512) 512 m bytes (whole (length m) * 512) (omega arith) (omega arith) e

-- a Vec whose memory was lent, and came back with a block written
pub refilled_put : {Z : Type 0} (v : Vec ℕ Z) (xs ws : List ℕ) (at : ℕ) (bytes : List ℕ) → at < whole (length v.items) → length bytes ≡ block_size → ws ≡ put xs at bytes → xs ≡ v.items → (with_items v ws).items ≡ put v.items at bytes
refilled_put v xs ws at bytes h e is from =
    let n = v.ok.0 in
    let is' : ws ≡ put v.items at bytes = is ∙ ap (λ m. put m at bytes) from in
    let l : length ws ≡ v.len = ap length is' ∙ length_put v.items at bytes h e ∙ sym n in
    with_items_is v ws l ∙ is'

-- a memory is its blocks, and what is spare
take_joined : (m : List ℕ) (n : ℕ) → take (n * 512) m ≡ joined (block m) n
take_joined m zero = refl
take_joined m (suc n) =
    let k : suc n * 512 ≡ n * 512 + 512 = omega arith in
    ap (λ i. take i m) k ∙ take-add (n * 512) 512 m ∙ ap (λ xs. xs ++ block m n) (take_joined m n)

pub memory_joined : (m : List ℕ) → m ≡ joined (block m) (whole (length m)) ++ spare m
memory_joined m = sym (take-append-drop (whole (length m) * 512) m) ∙ ap (λ xs. xs ++ spare m) (take_joined m (whole (length m)))

-- blocks that are shown alike are joined alike
pub joined_same : (f g : ℕ → List ℕ) (n : ℕ) → ((b : ℕ) → b < n → f b ≡ g b) → joined f n ≡ joined g n
joined_same f g zero same = refl
joined_same f g (suc n) same =
    let rest = joined_same f g n (λ b h. same b (omega arith)) in
    let here = same n (omega arith) in
    cc

-- memory with nothing kept aside, after a write straight onto it
pub bare_written : (m n : List ℕ) (at : ℕ) (bytes : List ℕ) → at < whole (length m) → length bytes ≡ block_size → n ≡ put m at bytes → Written (bare m) at bytes (bare n)
bare_written m n at bytes h e is =
    let here : block n at ≡ bytes = ap (λ x. block x at) is ∙ block_put m at bytes h e in
    let other : (b : ℕ) → (b ≢ at) → block n b ≡ block m b = λ b ne. ap (λ x. block x b) is ∙ block_put_other m at b bytes h e ne in
    record {
      as_many = ap whole (ap length is ∙ length_put m at bytes h e);
      here = here;
      gains = λ c s. inr (s ∙ here);
      others = λ b _ ne. record { same = other b ne; keeps = λ c s. s ∙ other b ne; stays = λ _. tt };
    }
