use Rattle.vlapic_words.proofs.Ways.{setup_out, setup_in}
use Rattle.vlapic_words.proofs.setup.Goals as goal

pub returns-then-is_out_of_range : goal.returns-then-is_out_of_range
returns-then-is_out_of_range c = search setup_out

pub returns : goal.returns
returns c = search setup_in
