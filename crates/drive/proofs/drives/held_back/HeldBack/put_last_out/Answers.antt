use Rattle.std.proofs.Common.{◌≡◌, ℕ, ◌-◌, ◌<◌, List, Option, [], ◌∷◌, ◌++◌, length, slice_get, slice_index_or, ap, ◌∙◌, arith}
use Rattle.std.specs.Option.{option_to_list}
use Rattle.std.proofs.lemmas.Option.{slice_get-get_or}
use Rattle.drive.specs.Block.{put}
use Rattle.drive.specs.Held.{last_fits, last_sized, last_memory, out_last}
use Rattle.drive.specs.Memory.{refilled_put}
use Rattle.drive.specs.Views.{blank}
use Rattle.drive.specs.declared.drives.held_back.HeldBlock.{HeldBlock}
use Rattle.drive.proofs.drives.held_back.HeldBack.put_last_out.Goals as goal

-- the last of a row stands behind the others
taken : (before after : List HeldBlock) (o : Option HeldBlock) → 0 < length before → before ≡ after ++ option_to_list o → o ≡ slice_get before (length before - 1)
    → before ≡ after ++ slice_index_or before (length before - 1) blank ∷ []
taken before after o some items value = items ∙ ap (λ p. after ++ option_to_list p) (value ∙ slice_get-get_or before (length before - 1) blank (omega arith))

-- what is read of the last of the row, by the length that was asked for
read : {X : Type 0} (held seen : List HeldBlock) (n : ℕ) (part : HeldBlock → X) → seen ≡ held → n ≡ length held → part (slice_index_or seen (n - 1) blank) ≡ part (slice_index_or held (length held - 1) blank)
read held seen n part is size = ap (λ hs. part (slice_index_or hs (n - 1) blank)) is ∙ ap (λ m. part (slice_index_or held (m - 1) blank)) size

pub returns-clause-memory : goal.returns-clause-memory
returns-clause-memory c =
    let d = c.args.self.now in
    let held = c.pop.new.self.items in
    let h = slice_index_or d.held.items (length d.held.items - 1) blank in
    let was = taken d.held.items held c.pop.result c.requires.some c.pop.ensures.items c.pop.ensures.value in
    let number = read d.held.items c.deref.result.now c.len-last.result (λ g. g.number) c.deref.ensures.0 c.len-last.ensures.value in
    let bytes = read d.held.items c.deref-2.result.now c.len-last.result (λ g. g.bytes) c.deref-2.ensures.0 c.len-last.ensures.value in
    let puts = c.copy_in.ensures.puts ∙ (λ i. put c.as_mut_slice.result.now (number i) (bytes i)) in
    last_memory d _ held h was
    (refilled_put d.memory _ _ h.number h.bytes (last_fits d d.memory.items held h was) (last_sized d d.memory.items held h was) puts c.as_mut_slice.ensures.value)

pub returns-clause-out : goal.returns-clause-out
returns-clause-out c =
    let d = c.args.self.now in
    let held = c.pop.new.self.items in
    let h = slice_index_or d.held.items (length d.held.items - 1) blank in
    let was = taken d.held.items held c.pop.result c.requires.some c.pop.ensures.items c.pop.ensures.value in
    let number = read d.held.items c.deref.result.now c.len-last.result (λ g. g.number) c.deref.ensures.0 c.len-last.ensures.value in
    let bytes = read d.held.items c.deref-2.result.now c.len-last.result (λ g. g.bytes) c.deref-2.ensures.0 c.len-last.ensures.value in
    let puts = c.copy_in.ensures.puts ∙ (λ i. put c.as_mut_slice.result.now (number i) (bytes i)) in
    out_last d _ h was (refilled_put d.memory _ _ h.number h.bytes (last_fits d d.memory.items held h was) (last_sized d d.memory.items held h was) puts c.as_mut_slice.ensures.value)
