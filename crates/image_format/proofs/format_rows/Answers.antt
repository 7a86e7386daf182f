use Rattle.std.proofs.Common.{refl}
use Rattle.image_format.specs.Format.{format}
use Rattle.image_format.proofs.format_rows.Goals as goal

pub returns : goal.returns
unfolding format
returns c = refl
