use Rattle.std.proofs.Common.{ap, ◌∙◌, arith}
use Rattle.drive.specs.Block.{put}
use Rattle.drive.specs.Memory.{refilled_put, bare_written}
use Rattle.drive.proofs.drives.plain.PlainDrive.write.Goals as goal

pub returns-clause-writes : goal.returns-clause-writes
returns-clause-writes c =
    let fits = c.in_ok-bytes.ensures.fits in
    bare_written _ _ c.args.at c.args.bytes.now (omega arith) fits.1 (refilled_put c.args.self.now.memory _ _ c.args.at c.args.bytes.now (omega arith) fits.1 (c.copy_in.ensures.puts ∙ ap (put c.as_mut_slice.result.now c.args.at) fits.2) c.as_mut_slice.ensures.value)
