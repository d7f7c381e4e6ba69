use Rattle.std.proofs.Common.{length, slice_index_or, sym, ap, ◌∙◌, arith}
use Rattle.drive.specs.Block.{block}
use Rattle.drive.specs.HeldBack.{lies_under}
use Rattle.drive.specs.Held.{seen, unseen}
use Rattle.drive.specs.Views.{blank, placed, unplaced}
use Rattle.drive.proofs.drives.held_back.HeldBack.newest.Goals as goal

pub returns-in-Some : goal.returns-in-Some
returns-in-Some c =
    let d = c.args.self.now in
    let found = placed d.held.items c.args.at c.in-Some.i (sym c.in-Some.ensures.value) in
    record { value = ap (λ hs. (slice_index_or hs c.in-Some.i blank).bytes) c.deref.ensures.0 ∙ sym (seen d.held.items c.args.at (slice_index_or d.held.items c.in-Some.i blank) (lies_under d c.args.at) found.2) }

pub returns-in-None : goal.returns-in-None
returns-in-None c =
    let d = c.args.self.now in
    let m = c.as_slice.ensures.value in
    record { value = c.blocks-in-None.ensures.each c.args.at _ (omega (arith, ap length m)) ∙ ap (λ x. block x c.args.at) m ∙ sym (unseen d.held.items c.args.at (lies_under d c.args.at) (unplaced d.held.items c.args.at (sym c.in-None.ensures.value))) }
