use Rattle.vpic_c.proofs.Laws.{shown_code}
use Rattle.vpic_c.proofs.sillwander_pic_handle_read.Goals as goal

pub returns : goal.returns
returns c = search shown_code
