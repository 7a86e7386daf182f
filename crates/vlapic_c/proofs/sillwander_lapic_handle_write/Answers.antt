use Rattle.vlapic_c.proofs.Ways.{write_wide, write_code}
use Rattle.vlapic_c.proofs.sillwander_lapic_handle_write.Goals as goal

pub returns-then-width-gt255 : goal.returns-then-width-gt255
returns-then-width-gt255 c = search write_wide

pub returns : goal.returns
returns c = search write_code
