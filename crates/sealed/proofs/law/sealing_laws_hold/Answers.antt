use Rattle.sealed.proofs.Changes.{change_seen}
use Rattle.sealed.proofs.Laws as laws
use Rattle.sealed.proofs.law.sealing_laws_hold.Goals as goal

pub returns : goal.returns
returns c =
    record {
      reads_back = laws.reads_back;
      is_sealing = laws.only_sealing;
      has_size = laws.has_size;
      is_block = laws.is_block;
      zeros_unsealed = laws.zeros_unsealed;
      change_seen = change_seen;
    }
