use Rattle.std.proofs.Common.{length}
use Rattle.std.proofs.Common.{ap, ◌∙◌}
use Rattle.std.specs.Prelude.{slice_index_or}
use Rattle.drive.specs.Block.{whole}
use Rattle.drive.specs.Memory.{chunk_block}
use Rattle.drive.proofs.blocks.blocks.Goals as goal

pub returns-clause-each : goal.returns-clause-each
returns-clause-each c = λ b d h. ap (λ xs. slice_index_or xs b d) c.as_chunks.ensures.front ∙ chunk_block (whole (length c.args.memory.now)) b c.args.memory.now d h
