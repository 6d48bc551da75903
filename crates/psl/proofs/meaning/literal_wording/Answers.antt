use Rattle.psl.proofs.meaning.literal_wording.Goals as goal
use Rattle.psl.proofs.Wording.{literal_wording_lem}

pub returns : goal.returns
returns c = literal_wording_lem
