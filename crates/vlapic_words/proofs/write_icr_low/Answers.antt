use Rattle.vlapic_words.proofs.Ways.{icr_in, icr_out}
use Rattle.vlapic_words.proofs.write_icr_low.Goals as goal

pub returns-then-is_icr_width : goal.returns-then-is_icr_width
returns-then-is_icr_width c = search icr_in

pub returns : goal.returns
returns c = search icr_out
